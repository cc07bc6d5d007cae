-- Split chains. The driver's stores of a request make its chain, and leave those of other requests.
use Rattle.std.proofs.Common.{◌≡◌, ◌≢◌, ◌≤◌, ◌<◌, ℕ, ◌+◌, ◌%◌, ◌^◌, true, false, List, [], ◌∷◌, ◌++◌, length, refl, ap, sym, ◌∙◌, subst, inl, inr, arith}
use Rattle.std.specs.Prelude.{Some, None}
use Rattle.std.specs.List.{AllByRecursion}
use Rattle.byteorder.specs.Endian.{little_bytes}
use Rattle.std.proofs.lemmas.Bool.{cases_lt}
use Rattle.std.proofs.lemmas.List.{append-nil, append_assoc, length-append}
use Rattle.vub_base.specs.declared.request.Ask.{Ask}
use Rattle.vub_base.specs.declared.request.Ask.TheVariants as wants
use Rattle.vub_shared.specs.Bytes.{Bytes, put, word}
use Rattle.vub_shared.specs.Stores.{Store, one_store}
use Rattle.vub_shared.proofs.BytesLemmas.{bytes_from-put_same}
use Rattle.vub_driver.specs.Layout.{status_place, sectors_place}
use Rattle.vub_driver.specs.Requests.{Piece, readable_piece, writable_piece, header_bytes, written_bytes, has_data, descriptor_bytes}
use Rattle.vub_driver.specs.Stores.{store_of_some, offer_stores, request_stores}
use Rattle.vub_device.specs.declared.entry.Asked.{Asked}
use Rattle.vub_device.specs.declared.entry.Asked.TheVariants as asks
use Rattle.vub_direct_chain.specs.declared.chain.Desc.{Desc}
use Rattle.vub_device.specs.Requests.{request_of}
use Rattle.vub_direct_chain.specs.ChainState.{handed_bytes, data_start, data_len, data_of, desc_of}
use Rattle.vub_run_laws.proofs.RingGood.{the_ring}
use Rattle.vub_run_laws.proofs.RunGood.{IsSize, IsWide}
use Rattle.vub_run_laws.proofs.RunFrames.{keeps, length_little}
use Rattle.vub_run_laws.proofs.RingFrames.{entry_small}
use Rattle.vub_run_laws.proofs.RunChains.{table_place, buffer_at, has_body, chain_of, HasDesc, HasFront, HasChain, IsOff, desc_kept, front_kept, word_made, desc_long, desc_made}

-- memory after stores into guest memory
abbrev pub put_all : List Store → Bytes → Bytes
put_all [] m = m
put_all (st ∷ sts) m = put_all sts (put m 0 st.place st.bytes)

abbrev pub AreOff : ℕ → ℕ → List Store → Type 0
AreOff q v sts = AllByRecursion (λ (st : Store). IsOff st.place st.bytes q v) sts

desc_stays : (q : ℕ) (sts : List Store) (m : Bytes) (d place : ℕ) (x : Desc) → place ≡ table_place q d → AreOff place 16 sts → HasDesc q m d x → HasDesc q (put_all sts m) d x
desc_stays q [] m d place x at off h = h
desc_stays q (st ∷ sts) m d place x at off h =
    let here : IsOff st.place st.bytes (table_place q d) 16 = subst (λ (y : ℕ). IsOff st.place st.bytes y 16) at off.0 in
    desc_stays q sts (put m 0 st.place st.bytes) d place x at off.1 (desc_kept q m d x st.place st.bytes here h)

front_stays : (sts : List Store) (m : Bytes) (buffer : ℕ) (request : Asked) → AreOff buffer 16 sts → AreOff (data_start buffer request) (length (handed_bytes request)) sts → HasFront m buffer request → HasFront (put_all sts m) buffer request
front_stays [] m buffer request off handed h = h
front_stays (st ∷ sts) m buffer request off handed h = front_stays sts (put m 0 st.place st.bytes) buffer request off.1 handed.1 (front_kept m buffer request st.place st.bytes off.0 handed.0 h)

-- ---- where a request has its data

pub handed_fits : (cap buffer : ℕ) (r : Asked) → IsWide cap (Some r) → (data_start buffer r ≡ sectors_place buffer) × ((length (handed_bytes r) ≤ 4096) × (data_len r ≤ 4096))
handed_fits cap buffer (asks.Read s c) wide = (refl, (omega arith, omega (arith, wide.few)))
handed_fits cap buffer (asks.Write s bytes) wide = (refl, (wide.few, wide.few))
handed_fits cap buffer asks.Flush wide = (refl, (omega arith, omega arith))
handed_fits cap buffer asks.Id wide = absurd wide
handed_fits cap buffer (asks.Discard parts) wide = absurd wide
handed_fits cap buffer (asks.Zero parts) wide = absurd wide

-- ---- table and offer

-- three descriptors and the offer
abbrev pub linked : ℕ → ℕ → ℕ → ℕ → ℕ → ℕ → Piece → List Store
linked q n index head body status p =
    one_store 0 (table_place q head) (descriptor_bytes (readable_piece (buffer_at q head) 16) 1 body)
    ∷ one_store 0 (table_place q body) (descriptor_bytes p 1 status)
    ∷ one_store 0 (table_place q status) (descriptor_bytes (writable_piece (status_place (buffer_at q head)) 1) 0 0)
    ∷ offer_stores (the_ring q n) index head

table_off : (q d e : ℕ) (bs : List ℕ) → d ≢ e → length bs ≡ 16 → IsOff (table_place q d) bs (table_place q e) 16
table_off q d e bs apart long = elim (cases_lt d e) [
  | inl less ↦ inr (omega arith)
  | inr more ↦ inl (let above : e < d = omega arith in omega arith)
]

chain_made : (q n cap index head body status : ℕ) (r : Asked) (m : Bytes) → q < 65536 → IsSize n → IsWide cap (Some r) → has_body r ≡ true → head < body → body < status → status < n → HasFront m (buffer_at q head) r
    → HasChain q (put_all (linked q n index head body status (data_of (buffer_at q head) r)) m) head body status r
chain_made q n cap index head body status r m numbered size wide some up upper fits front =
    let small : n ≤ 64 = size.small in
    let entry = entry_small n index size in
    let b : ℕ = buffer_at q head in
    let p : Piece = data_of b r in
    let where_data = handed_fits cap b r wide in
    let one : List ℕ = descriptor_bytes (readable_piece b 16) 1 body in
    let two : List ℕ = descriptor_bytes p 1 status in
    let three : List ℕ = descriptor_bytes (writable_piece (status_place b) 1) 0 0 in
    let long_one : length one ≡ 16 = desc_long (readable_piece b 16) 1 body in
    let long_two : length two ≡ 16 = desc_long p 1 status in
    let long_three : length three ≡ 16 = desc_long (writable_piece (status_place b) 1) 0 0 in
    let long_entry : length (little_bytes 2 head) ≡ 2 = length_little 2 head in
    let long_index : length (little_bytes 2 ((index + 1) % 65536)) ≡ 2 = length_little 2 ((index + 1) % 65536) in
    let m1 : Bytes = put m 0 (table_place q head) one in
    let m2 : Bytes = put m1 0 (table_place q body) two in
    let offers : (d : ℕ) → d < 64 → AreOff (table_place q d) 16 (offer_stores (the_ring q n) index head) = λ d low. (inl (omega arith), (inl (omega arith), tt)) in
    let first : HasDesc q m1 head (desc_of (readable_piece b 16) (Some body)) = desc_made q m head (table_place q head) (readable_piece b 16) 1 body refl (omega arith) (omega arith) (omega arith) (omega arith) in
    let place : p.place ≡ sectors_place b = where_data.0 in
    let len : p.len ≤ 4096 = where_data.1.1 in
    let flag : (desc_of (data_of (buffer_at q head) r) (Some status)).flags < 256 ^ 2 = flags_small r in
    let middle : HasDesc q m2 body (desc_of p (Some status)) = desc_made q m1 body (table_place q body) p 1 status refl (omega (arith, place)) (omega (arith, len)) flag (omega arith) in
    let last : HasDesc q (put m2 0 (table_place q status) three) status (desc_of (writable_piece (status_place b) 1) None) = desc_made q m2 status (table_place q status) (writable_piece (status_place b) 1) 0 0 refl (omega arith) (omega arith) (omega arith) (omega arith) in
    record {
      first = desc_stays q (one_store 0 (table_place q body) two ∷ one_store 0 (table_place q status) three ∷ offer_stores (the_ring q n) index head) m1 head (table_place q head) (desc_of (readable_piece b 16) (Some body)) refl
          (table_off q body head two (omega arith) long_two, (table_off q status head three (omega arith) long_three, offers head (omega arith))) first;
      middle = λ given. desc_stays q (one_store 0 (table_place q status) three ∷ offer_stores (the_ring q n) index head) m2 body (table_place q body) (desc_of p (Some status)) refl
          (table_off q status body three (omega arith) long_three, offers body (omega arith)) middle;
      none = λ lacks. absurd (let fails : true ≡ false = sym some ∙ lacks in cc);
      last = desc_stays q (offer_stores (the_ring q n) index head) (put m2 0 (table_place q status) three) status (table_place q status) (desc_of (writable_piece (status_place b) 1) None) refl (offers status (omega arith)) last;
      front = front_stays (linked q n index head body status p) m b r
          (inr (omega arith), (inr (omega arith), (inr (omega arith), (inr (omega arith), (inr (omega arith), tt)))))
          (inr (omega (arith, where_data.0)), (inr (omega (arith, where_data.0)), (inr (omega (arith, where_data.0)), (inr (omega (arith, where_data.0)), (inr (omega (arith, where_data.0)), tt))))) front;
    }
  where
    flags_small : (each : Asked) → (desc_of (data_of (buffer_at q head) each) (Some status)).flags < 256 ^ 2
    flags_small (asks.Read s c) = omega arith
    flags_small (asks.Write s bytes) = omega arith
    flags_small asks.Flush = omega arith
    flags_small asks.Id = omega arith
    flags_small (asks.Discard parts) = omega arith
    flags_small (asks.Zero parts) = omega arith

-- two descriptors and the offer
abbrev pub linked_two : ℕ → ℕ → ℕ → ℕ → ℕ → List Store
linked_two q n index head status =
    one_store 0 (table_place q head) (descriptor_bytes (readable_piece (buffer_at q head) 16) 1 status)
    ∷ one_store 0 (table_place q status) (descriptor_bytes (writable_piece (status_place (buffer_at q head)) 1) 0 0)
    ∷ offer_stores (the_ring q n) index head

flush_made : (q n index head status : ℕ) (m : Bytes) → q < 65536 → IsSize n → head < status → status < n → HasFront m (buffer_at q head) asks.Flush → HasChain q (put_all (linked_two q n index head status) m) head status status asks.Flush
flush_made q n index head status m numbered size up fits front =
    let small : n ≤ 64 = size.small in
    let entry = entry_small n index size in
    let b : ℕ = buffer_at q head in
    let one : List ℕ = descriptor_bytes (readable_piece b 16) 1 status in
    let two : List ℕ = descriptor_bytes (writable_piece (status_place b) 1) 0 0 in
    let long_one : length one ≡ 16 = desc_long (readable_piece b 16) 1 status in
    let long_two : length two ≡ 16 = desc_long (writable_piece (status_place b) 1) 0 0 in
    let long_entry : length (little_bytes 2 head) ≡ 2 = length_little 2 head in
    let long_index : length (little_bytes 2 ((index + 1) % 65536)) ≡ 2 = length_little 2 ((index + 1) % 65536) in
    let m1 : Bytes = put m 0 (table_place q head) one in
    let offers : (d : ℕ) → d < 64 → AreOff (table_place q d) 16 (offer_stores (the_ring q n) index head) = λ d low. (inl (omega arith), (inl (omega arith), tt)) in
    let first : HasDesc q m1 head (desc_of (readable_piece b 16) (Some status)) = desc_made q m head (table_place q head) (readable_piece b 16) 1 status refl (omega arith) (omega arith) (omega arith) (omega arith) in
    let last : HasDesc q (put m1 0 (table_place q status) two) status (desc_of (writable_piece (status_place b) 1) None) = desc_made q m1 status (table_place q status) (writable_piece (status_place b) 1) 0 0 refl (omega arith) (omega arith) (omega arith) (omega arith) in
    record {
      first = desc_stays q (one_store 0 (table_place q status) two ∷ offer_stores (the_ring q n) index head) m1 head (table_place q head) (desc_of (readable_piece b 16) (Some status)) refl (table_off q status head two (omega arith) long_two, offers head (omega arith)) first;
      middle = λ given. absurd (let fails : false ≡ true = given in cc);
      none = λ lacks. refl;
      last = desc_stays q (offer_stores (the_ring q n) index head) (put m1 0 (table_place q status) two) status (table_place q status) (desc_of (writable_piece (status_place b) 1) None) refl (offers status (omega arith)) last;
      front = front_stays (linked_two q n index head status) m b asks.Flush (inr (omega arith), (inr (omega arith), (inr (omega arith), (inr (omega arith), tt)))) (inr (omega arith), (inr (omega arith), (inr (omega arith), (inr (omega arith), tt)))) front;
    }

-- ---- header and data

header_made : (m : Bytes) (b t s : ℕ) → t < 256 ^ 4 → s < 256 ^ 8 → (word 4 (put m 0 b (little_bytes 4 t ++ little_bytes 4 0 ++ little_bytes 8 s)) 0 b ≡ t) × (word 8 (put m 0 b (little_bytes 4 t ++ little_bytes 4 0 ++ little_bytes 8 s)) 0 (b + 8) ≡ s)
header_made m b t s small_t small_s =
    let x : List ℕ = little_bytes 4 t in
    let y : List ℕ = little_bytes 4 0 in
    let z : List ℕ = little_bytes 8 s in
    let lx : length x ≡ 4 = length_little 4 t in
    let ly : length y ≡ 4 = length_little 4 0 in
    let lz : length z ≡ 8 = length_little 8 s in
    let bs : List ℕ = x ++ y ++ z in
    let lxy : length (x ++ y) ≡ 8 = length-append x y ∙ omega arith in
    let lyz : length (y ++ z) ≡ 12 = length-append y z ∙ omega arith in
    let long : length bs ≡ 16 = length-append x (y ++ z) ∙ omega arith in
    let split : bs ≡ (x ++ y) ++ (z ++ []) = sym (append_assoc x y z) ∙ ap (λ (xs : List ℕ). (x ++ y) ++ xs) (sym (append-nil z)) in
    (word_made m b b [] (y ++ z) bs 4 t refl (omega arith) (omega arith) small_t, word_made m b (b + 8) (x ++ y) [] bs 8 s split (omega arith) (omega arith) small_s)

pub header_long : (t s : ℕ) → length (little_bytes 4 t ++ little_bytes 4 0 ++ little_bytes 8 s) ≡ 16
header_long t s =
    length-append (little_bytes 4 t) (little_bytes 4 0 ++ little_bytes 8 s)
    ∙ omega (arith, length-append (little_bytes 4 0) (little_bytes 8 s), length_little 4 t, length_little 4 0, length_little 8 s)

some_put : (m : Bytes) (p : ℕ) (bytes : List ℕ) (xs ys : List Store) → 0 < length bytes → put_all ((store_of_some 0 p bytes ++ xs) ++ ys) m ≡ put_all (xs ++ ys) (put m 0 p bytes)
some_put m p [] xs ys some = absurd (omega arith)
some_put m p (b ∷ bytes) xs ys some = refl

-- the stores of a request make its chain, in any memory
pub stores_make : (q n cap index head body status : ℕ) (a : Ask) (m : Bytes) → q < 65536 → IsSize n → cap ≤ 4096 → IsWide cap (Some (request_of a)) → head < body → (has_data a ≡ true → body < status) → (has_data a ≡ false → body ≡ status) → status < n
    → HasChain q (put_all (request_stores (the_ring q n) index a (chain_of (has_data a) head body status)) m) head body status (request_of a)
stores_make q n cap index head body status (wants.Read s c) m numbered size few wide up upper none fits =
    let b : ℕ = buffer_at q head in
    let m1 : Bytes = put m 0 b (header_bytes (wants.Read s c)) in
    let h = header_made m b 0 s (omega arith) (omega (arith, wide.fits)) in
    let front : HasFront m1 b (asks.Read s c) = record { kind = h.0; sector = h.1; handed = refl } in
    let front_too : HasFront (put m1 0 (status_place b) (255 ∷ [])) b (asks.Read s c) = front_kept m1 b (asks.Read s c) (status_place b) (255 ∷ []) (inl (omega arith)) (inr (omega arith)) front in
    chain_made q n cap index head body status (asks.Read s c) (put m1 0 (status_place b) (255 ∷ [])) numbered size wide refl up (upper refl) fits front_too
stores_make q n cap index head body status (wants.Write s fills) m numbered size few wide up upper none fits =
    let b : ℕ = buffer_at q head in
    let bytes : List ℕ = written_bytes (wants.Write s fills) in
    let r : Asked = asks.Write s bytes in
    let many : 512 ≤ length bytes = wide.some in
    let long : length bytes ≤ 4096 = wide.few in
    let m1 : Bytes = put m 0 b (header_bytes (wants.Write s fills)) in
    let m2 : Bytes = put m1 0 (sectors_place b) bytes in
    let m3 : Bytes = put m2 0 (status_place b) (255 ∷ []) in
    let h = header_made m b 1 s (omega arith) (omega (arith, wide.fits)) in
    let front : HasFront m2 b r = record {
      kind = keeps 4 m1 (sectors_place b) bytes b (inl (omega arith)) ∙ h.0;
      sector = keeps 8 m1 (sectors_place b) bytes (b + 8) (inl (omega arith)) ∙ h.1;
      handed = bytes_from-put_same bytes m1 0 (sectors_place b);
    } in
    let front_too : HasFront m3 b r = front_kept m2 b r (status_place b) (255 ∷ []) (inl (omega arith)) (inr (omega arith)) front in
    let last : Store = one_store 0 (status_place b) (255 ∷ []) in
    let rest : List Store = linked q n index head body status (data_of b r) in
    let same : put_all ((store_of_some 0 (sectors_place b) bytes ++ last ∷ []) ++ rest) m1 ≡ put_all rest m3 = some_put m1 (sectors_place b) bytes (last ∷ []) rest (omega arith) in
    subst (λ (x : Bytes). HasChain q x head body status r) (sym same) (chain_made q n cap index head body status r m3 numbered size wide refl up (upper refl) fits front_too)
stores_make q n cap index head body status wants.Flush m numbered size few wide up upper none fits =
    let b : ℕ = buffer_at q head in
    let m1 : Bytes = put m 0 b (header_bytes wants.Flush) in
    let h = header_made m b 4 0 (omega arith) (omega arith) in
    let front : HasFront m1 b asks.Flush = record { kind = h.0; sector = h.1; handed = refl } in
    let front_too : HasFront (put m1 0 (status_place b) (255 ∷ [])) b asks.Flush = front_kept m1 b asks.Flush (status_place b) (255 ∷ []) (inl (omega arith)) (inr (omega arith)) front in
    let same : body ≡ status = none refl in
    subst (λ (d : ℕ). HasChain q (put_all (request_stores (the_ring q n) index wants.Flush (head ∷ status ∷ [])) m) head d status asks.Flush) (sym same)
    (flush_made q n index head status (put m1 0 (status_place b) (255 ∷ [])) numbered size (omega (arith, up, same)) fits front_too)
stores_make q n cap index head body status wants.Id m numbered size few wide up upper none fits = absurd wide
stores_make q n cap index head body status (wants.Discard parts) m numbered size few wide up upper none fits = absurd wide
stores_make q n cap index head body status (wants.Zero parts) m numbered size few wide up upper none fits = absurd wide
