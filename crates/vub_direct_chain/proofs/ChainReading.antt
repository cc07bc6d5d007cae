use Rattle.std.proofs.Common.{◌≡◌, ◌≤◌, ℕ, zero, suc, ◌+◌, ◌*◌, List, ◌∷◌, refl, ap, sym, ◌∙◌, subst, arith, add-zero}
use Rattle.byteorder.specs.Endian.{little_from}
use Rattle.byteorder.specs.Numbers.{little_from-cons}
use Rattle.vub_base.specs.Causes.{HasCause}
use Rattle.vub_base.specs.Fields.{field}
use Rattle.vub_shared.specs.Bytes.{Bytes, word, bytes_from}
use Rattle.vub_split.specs.declared.split.SplitRing.{SplitRing}
use Rattle.vub_direct_chain.specs.declared.chain.Desc.{Desc}
use Rattle.std.specs.Prelude.{bit_and, Option, Some, None, option_map, Result, Ok, Err, unwrap_or, ◌<◌}
use Rattle.vub_driver.specs.Requests.{Piece, writable_piece}
use Rattle.vub_driver.specs.Layout.{status_place}
use Rattle.vub_device.specs.declared.entry.Asked.{Asked}
use Rattle.vub_device.specs.declared.entry.Asked.TheVariants.{Read, Write, Flush, Id, Discard, Zero}
use Rattle.vub_driver.specs.GuestChain.{Links}
use Rattle.vub_base.specs.declared.ring_fault.RingFault.{RingFault}
use Rattle.vub_direct_chain.specs.declared.chain.Unread.{Unread}
use Rattle.vub_direct_chain.specs.declared.chain.Unread.TheVariants as unread
use Rattle.vub_direct_chain.specs.ChainState.{MeansRequest, desc_in, desc_place, desc_of, data_of, body_desc, Reads, read_outcome}

-- the number at the start of a longer run
number_of_start : (w n : ℕ) (m : Bytes) (s p : ℕ) → w ≤ n → little_from 0 w (bytes_from n m s p) ≡ word w m s p
unfolding word
number_of_start zero n m s p h = refl
number_of_start (suc w) zero m s p h = absurd (omega arith)
number_of_start (suc w) (suc n) m s p h =
    let rest : little_from 0 w (bytes_from n m s (p + 1)) ≡ word w m s (p + 1) = number_of_start w n m s (p + 1) (omega arith) in
    let moved : little_from 1 w (m s p ∷ bytes_from n m s (p + 1)) ≡ little_from 0 w (bytes_from n m s (p + 1)) = little_from-cons 0 w (m s p) (bytes_from n m s (p + 1)) in
    omega (arith, rest, moved)

-- a field of what was loaded is the word there
pub field_of_loaded : (at w n : ℕ) (m : Bytes) (s p : ℕ) → at + w ≤ n → field w at (bytes_from n m s p) ≡ word w m s (p + at)
field_of_loaded zero w n m s p h = number_of_start w n m s p (omega arith) ∙ ap (word w m s) (sym (add-zero p))
field_of_loaded (suc at) w zero m s p h = absurd (omega arith)
field_of_loaded (suc at) w (suc n) m s p h =
    let rest : field w at (bytes_from n m s (p + 1)) ≡ word w m s (p + 1 + at) = field_of_loaded at w n m s (p + 1) (omega arith) in
    let there : p + 1 + at ≡ p + suc at = omega arith in
    rest ∙ ap (word w m s) there

abbrev pub make : ℕ → ℕ → ℕ → ℕ → Desc
make a l f n = record { addr = a; len = l; flags = f; next = n }

-- the descriptor whose fields were loaded
pub desc_is : (r : SplitRing) (m : Bytes) (index at : ℕ) (bytes : List ℕ) (a l f n : ℕ) → at ≡ index → bytes ≡ bytes_from 16 m r.desc.0.number (r.desc.1 + 16 * at)
    → a ≡ field 8 0 bytes → l ≡ field 4 8 bytes → f ≡ field 2 12 bytes → n ≡ field 2 14 bytes → record { addr = a; len = l; flags = f; next = n } ≡ desc_in r m index
desc_is r m index at bytes a l f n same loaded ha hl hf hn =
    let p : ℕ = r.desc.1 + 16 * at in
    let s : ℕ = r.desc.0.number in
    let place : p ≡ desc_place r index = ap (λ (i : ℕ). r.desc.1 + 16 * i) same in
    let is_a : a ≡ word 8 m s (desc_place r index) = ha ∙ ap (field 8 0) loaded ∙ number_of_start 8 16 m s p (omega arith) ∙ ap (word 8 m s) place in
    let is_l : l ≡ word 4 m s (desc_place r index + 8) = hl ∙ ap (field 4 8) loaded ∙ field_of_loaded 8 4 16 m s p (omega arith) ∙ ap (λ (q : ℕ). word 4 m s (q + 8)) place in
    let is_f : f ≡ word 2 m s (desc_place r index + 12) = hf ∙ ap (field 2 12) loaded ∙ field_of_loaded 12 2 16 m s p (omega arith) ∙ ap (λ (q : ℕ). word 2 m s (q + 12)) place in
    let is_n : n ≡ word 2 m s (desc_place r index + 14) = hn ∙ ap (field 2 14) loaded ∙ field_of_loaded 14 2 16 m s p (omega arith) ∙ ap (λ (q : ℕ). word 2 m s (q + 14)) place in
    ap (λ (x : ℕ). make x l f n) is_a
    ∙ ap (λ (x : ℕ). make (word 8 m s (desc_place r index)) x f n) is_l
    ∙ ap (λ (x : ℕ). make (word 8 m s (desc_place r index)) (word 4 m s (desc_place r index + 8)) x n) is_f
    ∙ ap (λ (x : ℕ). make (word 8 m s (desc_place r index)) (word 4 m s (desc_place r index + 8)) (word 2 m s (desc_place r index + 12)) x) is_n

-- a read that failed says nothing of what it reads
pub reads_err : {T U : Type 0} (e : Unread) (x : T) (y : U) → Reads {T = T} (Err e) x → Reads {T = U} (Err e) y
reads_err unread.Failed x y h = tt
reads_err (unread.Broken fault) x y h = absurd h

pub some_same : {T : Type 0} (o : Option T) (x y : T) → o ≡ Some x → o ≡ Some y → x ≡ y
some_same o x y h k = cc (h, k)

some-≢-none : {T : Type 0} (x : T) → Some x ≡ None → ⊥
some-≢-none x h = cc h

-- the descriptor of the data, where there is one
body_is : (x : Desc) (buffer next : ℕ) (request : Asked) → Some x ≡ body_desc buffer next request → x ≡ desc_of (data_of buffer request) (Some next)
body_is x buffer next (Read s n) h = cc h
body_is x buffer next (Write s bytes) h = cc h
body_is x buffer next Flush h = absurd (some-≢-none x h)
body_is x buffer next Id h = cc h
body_is x buffer next (Discard parts) h = cc h
body_is x buffer next (Zero parts) h = cc h

-- what follows the descriptor after the first
pub tail_rest : (r : SplitRing) (m : Bytes) (body : Option ℕ) (status buffer : ℕ) (request : Asked) (x : Desc) (o : Result (Option Desc) Unread) → x ≡ desc_in r m (unwrap_or body status)
    → option_map (desc_in r m) body ≡ body_desc buffer status request → desc_in r m status ≡ desc_of (writable_piece (status_place buffer) 1) None → status < r.size
    → ((p : Piece) → x ≡ desc_of p None → o ≡ Ok None) → ((p : Piece) (next : ℕ) → x ≡ desc_of p (Some next) → next < r.size → Reads o (Some (desc_in r m next)))
    → Reads o (option_map (λ (d : ℕ). desc_in r m status) body)
tail_rest r m None status buffer request x o is body last fits ends follows =
    let none : Option Desc = None in
    subst (λ (q : Result (Option Desc) Unread). Reads q none) (sym (ends (writable_piece (status_place buffer) 1) (is ∙ last))) refl
tail_rest r m (Some d) status buffer request x o is body last fits ends follows =
    follows (data_of buffer request) status (is ∙ body_is (desc_in r m d) buffer status request body) fits

pub pair_none : (r : SplitRing) (m : Bytes) (body : Option ℕ) (status : ℕ) (x : Desc) → x ≡ desc_in r m (unwrap_or body status) → None ≡ option_map (λ (d : ℕ). desc_in r m status) body
    → ◌≡◌ {A = Option Desc × Desc} (None, x) (option_map (desc_in r m) body, desc_in r m status)
pair_none r m None status x is none =
    let nothing : Option Desc = None in
    ap (λ (y : Desc). (nothing, y)) is
pair_none r m (Some d) status x is none = absurd (some-≢-none (desc_in r m status) (sym none))

pub pair_some : (r : SplitRing) (m : Bytes) (body : Option ℕ) (status : ℕ) (x y : Desc) → x ≡ desc_in r m (unwrap_or body status) → Some y ≡ option_map (λ (d : ℕ). desc_in r m status) body
    → ◌≡◌ {A = Option Desc × Desc} (Some x, y) (option_map (desc_in r m) body, desc_in r m status)
pair_some r m None status x y is some = absurd (some-≢-none y some)
pair_some r m (Some d) status x y is some =
    ap (λ (z : Desc). (Some z, y)) is ∙ ap (λ (o : Option Desc). (Some (desc_in r m d), unwrap_or o y)) some

pub means_still : (old new : ℕ → ℕ) (r : SplitRing) (m : Bytes) (l : Links) (buffer : ℕ) (request : Asked) → ((s : ℕ) → new s ≡ old s) → MeansRequest old r m l buffer request → MeansRequest new r m l buffer request
means_still old new r m l buffer request sizes h = record {
  first = h.first;
  body = h.body;
  last = h.last;
  second_fits = h.second_fits;
  status_fits = h.status_fits;
  kind = h.kind;
  sector = h.sector;
  handed = h.handed;
  room = omega (arith, h.room, sizes r.desc.0.number);
}

-- a read is never broken
pub reads_broken : {T : Type 0} (e : Unread) (fault : RingFault) (y : T) → e ≡ unread.Broken fault → Reads {T = T} (Err e) y → ⊥
reads_broken unread.Failed fault y is h = absurd (cc is)
reads_broken (unread.Broken f) fault y is h = h

-- a read that isn't broken by memory has its cause
pub cause_at_err : (T U : Type 0) (e : Unread) (before after : ℕ) → after ≡ before → read_outcome {T = T} (Err e) ≡ Ok tt → HasCause before after (read_outcome {T = U} (Err e))
cause_at_err T U unread.Failed before after same is = absurd (cc is)
cause_at_err T U (unread.Broken fault) before after same is = record { later = omega (arith, same); failed = tt; quiet = same }

pub is_none : {T : Type 0} (o : Option T) → ((x : T) → o ≡ Some x → ⊥) → o ≡ None
is_none None not = refl
is_none (Some x) not = absurd (not x refl)

-- the descriptor of a status names no next one
pub ends_there : (r : SplitRing) (m : Bytes) (status buffer : ℕ) (y : Desc) (o : Option Desc) (x : Desc) → desc_in r m status ≡ desc_of (writable_piece (status_place buffer) 1) None → ◌≡◌ {A = Option Desc × Desc} (Some y, x) (o, desc_in r m status) → bit_and x.flags 1 ≡ 0
ends_there r m status buffer y o x last same = ap (λ (p : Option Desc × Desc). bit_and p.1.flags 1) same ∙ ap (λ (d : Desc). bit_and d.flags 1) last
