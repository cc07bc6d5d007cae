-- Split chains. The chain of a request in memory: what stores leave of it, and how the driver's stores make it.
use Rattle.std.proofs.Common.{◌≡◌, ◌≤◌, ◌<◌, ◌⊎◌, ℕ, zero, suc, ◌+◌, ◌*◌, ◌^◌, Bool, true, false, List, [], ◌∷◌, ◌++◌, length, refl, ap, sym, ◌∙◌, inl, inr, arith}
use Rattle.std.specs.Prelude.{Some, None}
use Rattle.byteorder.specs.Endian.{little_from, little_bytes}
use Rattle.byteorder.specs.Numbers.{little_from-cons, little_number-reads_back}
use Rattle.std.proofs.lemmas.List.{append-nil, append_assoc, length-append}
use Rattle.vub_shared.specs.Bytes.{Bytes, put, word, bytes_from}
use Rattle.vub_shared.proofs.BytesLemmas.{word-put_inside, bytes_from-put_other}
use Rattle.vub_driver.specs.Layout.{area_place, buffer_place, status_place}
use Rattle.vub_driver.specs.Requests.{Piece, readable_piece, writable_piece, write_flag, descriptor_bytes}
use Rattle.vub_device.specs.declared.entry.Asked.{Asked}
use Rattle.vub_device.specs.declared.entry.Asked.TheVariants as asks
use Rattle.vub_direct_chain.specs.declared.chain.Desc.{Desc}
use Rattle.vub_direct_chain.specs.ChainState.{type_of, sector_of, handed_bytes, data_start, data_of, desc_of}
use Rattle.vub_run_laws.proofs.RunFrames.{keeps, word_stays, length_little}

-- where the descriptor d stands, and the buffer of a head
abbrev pub table_place : ℕ → ℕ → ℕ
table_place q d = area_place q + 16 * d

abbrev pub buffer_at : ℕ → ℕ → ℕ
buffer_at q head = buffer_place (area_place q) head

-- a descriptor stands in the table
pub record HasDesc (q : ℕ) (m : Bytes) (d : ℕ) (x : Desc) : Type 0 where
  pub addr : word 8 m 0 (table_place q d) ≡ x.addr
  pub len : word 4 m 0 (table_place q d + 8) ≡ x.len
  pub flags : word 2 m 0 (table_place q d + 12) ≡ x.flags
  pub next : word 2 m 0 (table_place q d + 14) ≡ x.next

-- header and data of a request stand in its buffer
pub record HasFront (m : Bytes) (buffer : ℕ) (request : Asked) : Type 0 where
  pub kind : word 4 m 0 buffer ≡ type_of request
  pub sector : word 8 m 0 (buffer + 8) ≡ sector_of request
  pub handed : bytes_from (length (handed_bytes request)) m 0 (data_start buffer request) ≡ handed_bytes request

-- whether there is data between header and status
abbrev pub has_body : Asked → Bool
has_body asks.Flush = false
has_body request = true

-- the descriptors of a chain, with one for the data or without
abbrev pub chain_of : Bool → ℕ → ℕ → ℕ → List ℕ
chain_of true head body status = head ∷ body ∷ status ∷ []
chain_of false head body status = head ∷ status ∷ []

-- the chain of header, data and status, and the buffer. Without data the second descriptor is that of the status
pub record HasChain (q : ℕ) (m : Bytes) (head body status : ℕ) (request : Asked) : Type 0 where
  pub first : HasDesc q m head (desc_of (readable_piece (buffer_at q head) 16) (Some body))
  pub middle : has_body request ≡ true → HasDesc q m body (desc_of (data_of (buffer_at q head) request) (Some status))
  pub none : has_body request ≡ false → body ≡ status
  pub last : HasDesc q m status (desc_of (writable_piece (status_place (buffer_at q head)) 1) None)
  pub front : HasFront m (buffer_at q head) request

-- ---- what stores leave

-- a store of these bytes at p shares no byte with the v bytes from q on
abbrev pub IsOff : ℕ → List ℕ → ℕ → ℕ → Type 0
IsOff p bs q v = (q + v ≤ p) ⊎ (p + length bs ≤ q)

off_part : (p : ℕ) (bs : List ℕ) (q v q' w : ℕ) → IsOff p bs q v → q ≤ q' → q' + w ≤ q + v → IsOff p bs q' w
off_part p bs q v q' w (inl below) from upto = inl (omega arith)
off_part p bs q v q' w (inr above) from upto = inr (omega arith)

pub desc_kept : (q : ℕ) (m : Bytes) (d : ℕ) (x : Desc) (p : ℕ) (bs : List ℕ) → IsOff p bs (table_place q d) 16 → HasDesc q m d x → HasDesc q (put m 0 p bs) d x
desc_kept q m d x p bs off h = record {
  addr = keeps 8 m p bs (table_place q d) (off_part p bs (table_place q d) 16 (table_place q d) 8 off (omega arith) (omega arith)) ∙ h.addr;
  len = keeps 4 m p bs (table_place q d + 8) (off_part p bs (table_place q d) 16 (table_place q d + 8) 4 off (omega arith) (omega arith)) ∙ h.len;
  flags = keeps 2 m p bs (table_place q d + 12) (off_part p bs (table_place q d) 16 (table_place q d + 12) 2 off (omega arith) (omega arith)) ∙ h.flags;
  next = keeps 2 m p bs (table_place q d + 14) (off_part p bs (table_place q d) 16 (table_place q d + 14) 2 off (omega arith) (omega arith)) ∙ h.next;
}

pub front_kept : (m : Bytes) (buffer : ℕ) (request : Asked) (p : ℕ) (bs : List ℕ) → IsOff p bs buffer 16 → IsOff p bs (data_start buffer request) (length (handed_bytes request)) → HasFront m buffer request → HasFront (put m 0 p bs) buffer request
front_kept m buffer request p bs off off_handed h = record {
  kind = keeps 4 m p bs buffer (off_part p bs buffer 16 buffer 4 off (omega arith) (omega arith)) ∙ h.kind;
  sector = keeps 8 m p bs (buffer + 8) (off_part p bs buffer 16 (buffer + 8) 8 off (omega arith) (omega arith)) ∙ h.sector;
  handed = bytes_from-put_other (length (handed_bytes request)) m 0 p bs 0 (data_start buffer request) (inr off_handed) ∙ h.handed;
}

-- a store that touches nothing of a chain
pub record Spares (q head body status : ℕ) (request : Asked) (p : ℕ) (bs : List ℕ) : Type 0 where
  pub first : IsOff p bs (table_place q head) 16
  pub middle : IsOff p bs (table_place q body) 16
  pub last : IsOff p bs (table_place q status) 16
  pub header : IsOff p bs (buffer_at q head) 16
  pub handed : IsOff p bs (data_start (buffer_at q head) request) (length (handed_bytes request))

pub chain_kept : (q : ℕ) (m : Bytes) (head body status : ℕ) (request : Asked) (p : ℕ) (bs : List ℕ) → Spares q head body status request p bs → HasChain q m head body status request → HasChain q (put m 0 p bs) head body status request
chain_kept q m head body status request p bs s h = record {
  first = desc_kept q m head (desc_of (readable_piece (buffer_at q head) 16) (Some body)) p bs s.first h.first;
  middle = λ some. desc_kept q m body (desc_of (data_of (buffer_at q head) request) (Some status)) p bs s.middle (h.middle some);
  none = h.none;
  last = desc_kept q m status (desc_of (writable_piece (status_place (buffer_at q head)) 1) None) p bs s.last h.last;
  front = front_kept m (buffer_at q head) request p bs s.header s.handed h.front;
}

-- a store into the in-flight region leaves all of it
desc_stays : (q : ℕ) (m : Bytes) (d : ℕ) (x : Desc) (p : ℕ) (bs : List ℕ) → HasDesc q m d x → HasDesc q (put m 1 p bs) d x
desc_stays q m d x p bs h = record {
  addr = word_stays 8 m p bs (table_place q d) ∙ h.addr;
  len = word_stays 4 m p bs (table_place q d + 8) ∙ h.len;
  flags = word_stays 2 m p bs (table_place q d + 12) ∙ h.flags;
  next = word_stays 2 m p bs (table_place q d + 14) ∙ h.next;
}

pub chain_stays : (q : ℕ) (m : Bytes) (head body status : ℕ) (request : Asked) (p : ℕ) (bs : List ℕ) → HasChain q m head body status request → HasChain q (put m 1 p bs) head body status request
chain_stays q m head body status request p bs h = record {
  first = desc_stays q m head (desc_of (readable_piece (buffer_at q head) 16) (Some body)) p bs h.first;
  middle = λ some. desc_stays q m body (desc_of (data_of (buffer_at q head) request) (Some status)) p bs (h.middle some);
  none = h.none;
  last = desc_stays q m status (desc_of (writable_piece (status_place (buffer_at q head)) 1) None) p bs h.last;
  front = record {
    kind = word_stays 4 m p bs (buffer_at q head) ∙ h.front.kind;
    sector = word_stays 8 m p bs (buffer_at q head + 8) ∙ h.front.sector;
    handed = bytes_from-put_other (length (handed_bytes request)) m 1 p bs 0 (data_start (buffer_at q head) request) (inl (λ e. omega (arith, e))) ∙ h.front.handed;
  };
}

-- ---- words of what was stored

from_after : (xs ys : List ℕ) (i w : ℕ) → length xs ≡ i → little_from i w (xs ++ ys) ≡ little_from 0 w ys
from_after [] ys i w long = ap (λ (k : ℕ). little_from k w ys) (sym long)
from_after (x ∷ xs) ys zero w long = absurd (omega arith)
from_after (x ∷ xs) ys (suc i) w long = little_from-cons i w x (xs ++ ys) ∙ from_after xs ys i w (omega arith)

-- a number of w bytes, stored after some others and before some more
pub word_made : (m : Bytes) (p q : ℕ) (xs rest bs : List ℕ) (w x : ℕ) → bs ≡ xs ++ (little_bytes w x ++ rest) → q ≡ p + length xs → length xs + w ≤ length bs → x < 256 ^ w → word w (put m 0 p bs) 0 q ≡ x
word_made m p q xs rest bs w x is at fits small =
    ap (word w (put m 0 p bs) 0) at ∙ word-put_inside w m 0 p bs (length xs) fits ∙ ap (little_from (length xs) w) is ∙ from_after xs (little_bytes w x ++ rest) (length xs) w refl ∙ little_number-reads_back w x rest small

four_long : (a b c d : List ℕ) → length a ≡ 8 → length b ≡ 4 → length c ≡ 2 → length d ≡ 2 → length (a ++ b ++ c ++ d) ≡ 16
four_long a b c d la lb lc ld = simp length-append (omega arith)

pub desc_long : (p : Piece) (flag next : ℕ) → length (descriptor_bytes p flag next) ≡ 16
desc_long p flag next = four_long (little_bytes 8 p.place) (little_bytes 4 p.len) (little_bytes 2 (write_flag p.writable + flag)) (little_bytes 2 next) (length_little 8 p.place) (length_little 4 p.len) (length_little 2 (write_flag p.writable + flag)) (length_little 2 next)

pub desc_made : (q : ℕ) (m : Bytes) (d at : ℕ) (p : Piece) (flag next : ℕ) → at ≡ table_place q d → p.place < 256 ^ 8 → p.len < 256 ^ 4 → write_flag p.writable + flag < 256 ^ 2 → next < 256 ^ 2
    → HasDesc q (put m 0 at (descriptor_bytes p flag next)) d (record { addr = p.place; len = p.len; flags = write_flag p.writable + flag; next = next })
desc_made q m d at p flag next here fits_a fits_b fits_c fits_d =
    let f : ℕ = write_flag p.writable + flag in
    let a : List ℕ = little_bytes 8 p.place in
    let b : List ℕ = little_bytes 4 p.len in
    let c : List ℕ = little_bytes 2 f in
    let e : List ℕ = little_bytes 2 next in
    let bs : List ℕ = descriptor_bytes p flag next in
    let long : length bs ≡ 16 = desc_long p flag next in
    let la : length a ≡ 8 = length_little 8 p.place in
    let lb : length b ≡ 4 = length_little 4 p.len in
    let lc : length c ≡ 2 = length_little 2 f in
    let lab : length (a ++ b) ≡ 12 = length-append a b ∙ omega arith in
    let labc : length ((a ++ b) ++ c) ≡ 14 = length-append (a ++ b) c ∙ omega arith in
    let after_b : bs ≡ (a ++ b) ++ (c ++ e) = sym (append_assoc a b (c ++ e)) in
    let after_c : bs ≡ ((a ++ b) ++ c) ++ (e ++ []) = after_b ∙ sym (append_assoc (a ++ b) c e) ∙ ap (λ (xs : List ℕ). ((a ++ b) ++ c) ++ xs) (sym (append-nil e)) in
    record {
      addr = word_made m at (table_place q d) [] (b ++ c ++ e) bs 8 p.place refl (omega arith) (omega arith) fits_a;
      len = word_made m at (table_place q d + 8) a (c ++ e) bs 4 p.len refl (omega arith) (omega arith) fits_b;
      flags = word_made m at (table_place q d + 12) (a ++ b) e bs 2 f after_b (omega arith) (omega arith) fits_c;
      next = word_made m at (table_place q d + 14) ((a ++ b) ++ c) [] bs 2 next after_c (omega arith) (omega arith) fits_d;
    }
