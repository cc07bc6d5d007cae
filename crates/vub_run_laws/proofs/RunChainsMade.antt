-- Split chains. Stores of a request that were made stand in memory, until others reach their places.
use Rattle.std.proofs.Common.{◌≡◌, ◌≢◌, ◌≤◌, ◌<◌, ◌⊎◌, ℕ, ◌+◌, ◌*◌, ◌%◌, List, [], ◌∷◌, ◌++◌, length, refl, ap, sym, ◌∙◌, subst, inl, inr, arith}
use Rattle.std.specs.Prelude.{Option, Some, ◌==◌, ◌&&◌, nat_le, nat_lt}
use Rattle.std.specs.List.{AllByRecursion}
use Rattle.byteorder.specs.Endian.{little_bytes}
use mathlib.Core.Path.{fun_ext}
use Rattle.std.proofs.lemmas.Bool.{cases_lt, cases_eq, cases_Bool}
use Rattle.std.proofs.lemmas.Bool.Decides.{nat_tests}
use Rattle.std.proofs.lemmas.List.{append-nil, append_assoc}
use Rattle.vub_base.specs.declared.request.Ask.{Ask}
use Rattle.vub_base.specs.declared.request.Ask.TheVariants as wants
use Rattle.vub_shared.specs.Bytes.{Bytes, put}
use Rattle.vub_shared.specs.Stores.{Store, one_store}
use Rattle.vub_shared.proofs.BytesLemmas.{put_other}
use Rattle.vub_driver.specs.Layout.{area_place, status_place, sectors_place}
use Rattle.vub_driver.specs.Requests.{Piece, readable_piece, writable_piece, written_bytes, has_data}
use Rattle.vub_driver.specs.Stores.{store_of_some, request_stores}
use Rattle.vub_direct_chain.specs.ChainState.{data_of}
use Rattle.vub_device.specs.Requests.{request_of}
use Rattle.vub_run_laws.proofs.RingGood.{the_ring}
use Rattle.vub_run_laws.proofs.RunGood.{IsSize, IsWide}
use Rattle.vub_run_laws.proofs.RunFrames.{byte_stays, length_little}
use Rattle.vub_run_laws.proofs.RingFrames.{entry_small}
use Rattle.vub_run_laws.proofs.RunChains.{table_place, buffer_at, chain_of, IsOff, desc_long}
use Rattle.vub_run_laws.proofs.RunChainsStores.{put_all, AreOff, header_long, linked, linked_two}

-- ---- lists

pub all_append : {X : Type 0} (P : X → Type 0) (xs ys : List X) → AllByRecursion P xs → AllByRecursion P ys → AllByRecursion P (xs ++ ys)
all_append P [] ys p q = q
all_append P (x ∷ xs) ys p q = (p.0, all_append P xs ys p.1 q)

pub all_first : {X : Type 0} (P : X → Type 0) (xs ys : List X) → AllByRecursion P (xs ++ ys) → AllByRecursion P xs
all_first P [] ys p = tt
all_first P (x ∷ xs) ys p = (p.0, all_first P xs ys p.1)

pub all_last : {X : Type 0} (P : X → Type 0) (xs ys : List X) → AllByRecursion P (xs ++ ys) → AllByRecursion P ys
all_last P [] ys p = p
all_last P (x ∷ xs) ys p = all_last P xs ys p.1

-- ---- what stands

-- these stores stand in memory: making them again changes nothing
abbrev pub Stand : List Store → Bytes → Type 0
Stand sts m = put_all sts m ≡ m

pub put_append : (xs ys : List Store) (m : Bytes) → put_all (xs ++ ys) m ≡ put_all ys (put_all xs m)
put_append [] ys m = refl
put_append (x ∷ xs) ys m = put_append xs ys (put m 0 x.place x.bytes)

-- a byte after a store depends on that byte before it alone
put_at : (m m' : Bytes) (q : ℕ) (bs : List ℕ) (s p : ℕ) → m s p ≡ m' s p → put m 0 q bs s p ≡ put m' 0 q bs s p
unfolding put
put_at m m' q bs s p same = grind (arith, nat_tests)

put_all_at : (sts : List Store) (m m' : Bytes) (s p : ℕ) → m s p ≡ m' s p → put_all sts m s p ≡ put_all sts m' s p
put_all_at [] m m' s p same = same
put_all_at (st ∷ sts) m m' s p same = put_all_at sts (put m 0 st.place st.bytes) (put m' 0 st.place st.bytes) s p (put_at m m' st.place st.bytes s p same)

-- a byte that was stored, in whatever memory, or the byte that was there
put_same : (m m' : Bytes) (q : ℕ) (bs : List ℕ) (s p : ℕ) → (put m 0 q bs s p ≡ put m' 0 q bs s p) ⊎ ((put m 0 q bs s p ≡ m s p) × (put m' 0 q bs s p ≡ m' s p))
unfolding put
put_same m m' q bs s p = elim (cases_Bool (((s == 0) && nat_le q p) && nat_lt p (q + length bs))) [
  | inl here ↦ inl (grind (arith, nat_tests))
  | inr apart ↦ inr (grind (arith, nat_tests), grind (arith, nat_tests))
]

-- after one more store all of them stand
pub stand_push : (sts : List Store) (st : Store) (m : Bytes) → Stand sts m → Stand (sts ++ st ∷ []) (put m 0 st.place st.bytes)
stand_push sts st m stand = put_append sts (st ∷ []) now ∙ fun_ext (λ s. fun_ext (λ p. at s p))
  where
    now : Bytes
    now = put m 0 st.place st.bytes

    at : (s p : ℕ) → put (put_all sts now) 0 st.place st.bytes s p ≡ now s p
    at s p = elim (put_same (put_all sts now) m st.place st.bytes s p) [
      | inl stored ↦ stored
      | inr other ↦ other.0 ∙ put_all_at sts now m s p other.1 ∙ ap (λ (x : Bytes). x s p) stand ∙ sym other.1
    ]

-- and after some more
pub stand_append : (made sts : List Store) (m : Bytes) → Stand made m → Stand (made ++ sts) (put_all sts m)
stand_append made [] m stand = ap (λ (xs : List Store). put_all xs m) (append-nil made) ∙ stand
stand_append made (st ∷ sts) m stand =
    let next : Bytes = put m 0 st.place st.bytes in
    let rest : Stand ((made ++ st ∷ []) ++ sts) (put_all sts next) = stand_append (made ++ st ∷ []) sts next (stand_push made st m stand) in
    ap (λ (xs : List Store). put_all xs (put_all sts next)) (sym (append_assoc made (st ∷ []) sts)) ∙ rest

-- stores that don't reach a byte leave it
put_all_off : (sts : List Store) (m : Bytes) (s p : ℕ) → AreOff p 1 sts → put_all sts m s p ≡ m s p
put_all_off [] m s p off = refl
put_all_off (st ∷ sts) m s p off = put_all_off sts (put m 0 st.place st.bytes) s p off.1 ∙ put_other m 0 st.place st.bytes s p (inr off.0)

within_off : (sts : List Store) (q v p : ℕ) → q ≤ p → p < q + v → AreOff q v sts → AreOff p 1 sts
within_off [] q v p from upto off = tt
within_off (st ∷ sts) q v p from upto off = (
  elim off.0 [
    | inl below ↦ inl (omega arith)
    | inr above ↦ inr (omega arith)
  ],
  within_off sts q v p from upto off.1,
)

-- a store that shares no byte with them leaves them
pub stand_kept : (sts : List Store) (m : Bytes) (q : ℕ) (bs : List ℕ) → AreOff q (length bs) sts → Stand sts m → Stand sts (put m 0 q bs)
stand_kept sts m q bs off stand = fun_ext (λ s. fun_ext (λ p. at s p))
  where
    now : Bytes
    now = put m 0 q bs

    other : (s p : ℕ) → now s p ≡ m s p → put_all sts now s p ≡ now s p
    other s p same = put_all_at sts now m s p same ∙ ap (λ (x : Bytes). x s p) stand ∙ sym same

    at : (s p : ℕ) → put_all sts now s p ≡ now s p
    at s p = elim (cases_lt p q) [
      | inl below ↦ other s p (put_other m 0 q bs s p (inr (inl (omega arith))))
      | inr from ↦ elim (cases_lt p (q + length bs)) [
        | inl within ↦ put_all_off sts now s p (within_off sts q (length bs) p (omega arith) within off)
        | inr above ↦ other s p (put_other m 0 q bs s p (inr (inr (omega arith))))
      ]
    ]

-- stores into guest memory leave each other space
put_all_far : (sts : List Store) (m : Bytes) (s p : ℕ) → s ≢ 0 → put_all sts m s p ≡ m s p
put_all_far [] m s p far = refl
put_all_far (st ∷ sts) m s p far = put_all_far sts (put m 0 st.place st.bytes) s p far ∙ put_other m 0 st.place st.bytes s p (inl far)

-- and a store into the in-flight region leaves them
pub stand_stays : (sts : List Store) (m : Bytes) (q : ℕ) (bs : List ℕ) → Stand sts m → Stand sts (put m 1 q bs)
stand_stays sts m q bs stand = fun_ext (λ s. fun_ext (λ p. at s p))
  where
    now : Bytes
    now = put m 1 q bs

    guest : (p : ℕ) → put_all sts now 0 p ≡ now 0 p
    guest p =
        let same : now 0 p ≡ m 0 p = byte_stays m q bs p in
        put_all_at sts now m 0 p same ∙ ap (λ (x : Bytes). x 0 p) stand ∙ sym same

    at : (s p : ℕ) → put_all sts now s p ≡ now s p
    at s p = elim (cases_eq s 0) [
      | inl zero_space ↦ subst (λ (t : ℕ). put_all sts now t p ≡ now t p) (sym zero_space) (guest p)
      | inr far ↦ put_all_far sts now s p far
    ]

-- ---- where the stores of a request are

-- in the avail ring, in the buffer of the head, or in the entry of a descriptor that belongs to it
abbrev pub IsMine : ℕ → (ℕ → Option ℕ) → ℕ → ℕ → List ℕ → Type 0
IsMine q owner head p bs =
    ((area_place q + 4096 ≤ p) × (p + length bs ≤ area_place q + 8192))
    ⊎ (((area_place q + (65536 + 8192 * head) ≤ p) × (p + length bs ≤ area_place q + (65536 + 8192 * head) + 8192))
    ⊎ ((d : ℕ) × (d < 64) × (owner d ≡ Some head) × (p ≡ table_place q d) × (length bs ≡ 16)))

abbrev pub AreMine : ℕ → (ℕ → Option ℕ) → ℕ → List Store → Type 0
AreMine q owner head sts = AllByRecursion (λ (st : Store). IsMine q owner head st.place st.bytes) sts

some_mine : (q : ℕ) (owner : ℕ → Option ℕ) (head : ℕ) (bytes : List ℕ) → length bytes ≤ 4096 → AreMine q owner head (store_of_some 0 (sectors_place (buffer_at q head)) bytes)
some_mine q owner head [] few = tt
some_mine q owner head (b ∷ bytes) few = (inr (inl (omega arith, omega arith)), tt)

linked_mine : (q n index : ℕ) (owner : ℕ → Option ℕ) (head body status : ℕ) (p : Piece) → IsSize n → head < 64 → body < 64 → status < 64 → owner head ≡ Some head → owner body ≡ Some head → owner status ≡ Some head → AreMine q owner head (linked q n index head body status p)
linked_mine q n index owner head body status p size fh fb fs mh mb ms =
    let low = entry_small n index size in
    let e : length (little_bytes 2 head) ≡ 2 = length_little 2 head in
    let i : length (little_bytes 2 ((index + 1) % 65536)) ≡ 2 = length_little 2 ((index + 1) % 65536) in (
      inr (inr (head, fh, mh, refl, desc_long (readable_piece (buffer_at q head) 16) 1 body)),
      (
        inr (inr (body, fb, mb, refl, desc_long p 1 status)),
        (
          inr (inr (status, fs, ms, refl, desc_long (writable_piece (status_place (buffer_at q head)) 1) 0 0)),
          (inl (omega arith, omega arith), (inl (omega arith, omega arith), tt)),
        ),
      ),
    )

-- those of a request without data
two_mine : (q n index : ℕ) (owner : ℕ → Option ℕ) (head status : ℕ) → IsSize n → head < 64 → status < 64 → owner head ≡ Some head → owner status ≡ Some head
    → AreMine q owner head (linked_two q n index head status)
two_mine q n index owner head status size fh fs mh ms =
    let low = entry_small n index size in
    let e : length (little_bytes 2 head) ≡ 2 = length_little 2 head in
    let i : length (little_bytes 2 ((index + 1) % 65536)) ≡ 2 = length_little 2 ((index + 1) % 65536) in (
      inr (inr (head, fh, mh, refl, desc_long (readable_piece (buffer_at q head) 16) 1 status)),
      (inr (inr (status, fs, ms, refl, desc_long (writable_piece (status_place (buffer_at q head)) 1) 0 0)), (inl (omega arith, omega arith), (inl (omega arith, omega arith), tt))),
    )

pub stores_mine : (q n cap index : ℕ) (owner : ℕ → Option ℕ) (head body status : ℕ) (a : Ask) → IsSize n → IsWide cap (Some (request_of a)) → head < n → body < n → status < n → owner head ≡ Some head → owner body ≡ Some head → owner status ≡ Some head
    → AreMine q owner head (request_stores (the_ring q n) index a (chain_of (has_data a) head body status))
stores_mine q n cap index owner head body status (wants.Read s c) size wide fh fb fs mh mb ms =
    let small : n ≤ 64 = size.small in
    (inr (inl (omega arith, omega (arith, header_long 0 s))), (inr (inl (omega arith, omega arith)), linked_mine q n index owner head body status (data_of (buffer_at q head) (request_of (wants.Read s c))) size (omega arith) (omega arith) (omega arith) mh mb ms))
stores_mine q n cap index owner head body status (wants.Write s fills) size wide fh fb fs mh mb ms =
    let small : n ≤ 64 = size.small in
    let bytes : List ℕ = written_bytes (wants.Write s fills) in
    let front : List Store = store_of_some 0 (sectors_place (buffer_at q head)) bytes in
    let last : List Store = one_store 0 (status_place (buffer_at q head)) (255 ∷ []) ∷ [] in
    let mine : Store → Type 0 = λ st. IsMine q owner head st.place st.bytes in
    let rest : List Store = linked q n index head body status (data_of (buffer_at q head) (request_of (wants.Write s fills))) in (
      inr (inl (omega arith, omega (arith, header_long 1 s))),
      all_append mine (front ++ last) rest
          (all_append mine front last (some_mine q owner head bytes wide.few) (inr (inl (omega arith, omega arith)), tt))
          (linked_mine q n index owner head body status (data_of (buffer_at q head) (request_of (wants.Write s fills))) size (omega arith) (omega arith) (omega arith) mh mb ms),
    )
stores_mine q n cap index owner head body status wants.Flush size wide fh fb fs mh mb ms =
    let small : n ≤ 64 = size.small in
    (inr (inl (omega arith, omega (arith, header_long 4 0))), (inr (inl (omega arith, omega arith)), two_mine q n index owner head status size (omega arith) (omega arith) mh ms))
stores_mine q n cap index owner head body status wants.Id size wide fh fb fs mh mb ms = absurd wide
stores_mine q n cap index owner head body status (wants.Discard parts) size wide fh fb fs mh mb ms = absurd wide
stores_mine q n cap index owner head body status (wants.Zero parts) size wide fh fb fs mh mb ms = absurd wide

-- below the used ring, or in the buffer of that head
abbrev pub Serves : ℕ → ℕ → Store → Type 0
Serves q head st = (st.place + length st.bytes ≤ area_place q + 8192) ⊎ ((area_place q + (65536 + 8192 * head) ≤ st.place) × (st.place + length st.bytes ≤ area_place q + (65536 + 8192 * head) + 8192))

pub all_serve : (q : ℕ) (owner : ℕ → Option ℕ) (head : ℕ) (sts : List Store) → AreMine q owner head sts → AllByRecursion (Serves q head) sts
all_serve q owner head [] mine = tt
all_serve q owner head (st ∷ sts) mine = (
  elim mine.0 [
    | inl ring ↦ inl ring.1
    | inr (inl own) ↦ inr own
    | inr (inr t) ↦ inl (let low : t.0 < 64 = t.1 in omega (arith, t.3, t.4))
  ],
  all_serve q owner head sts mine.1,
)

-- a store above the avail ring and outside that buffer shares no byte with them
pub serving_off : (q head : ℕ) (sts : List Store) (p : ℕ) (bs : List ℕ) → area_place q + 8192 ≤ p → (p + length bs ≤ buffer_at q head) ⊎ (buffer_at q head + 8192 ≤ p) → AllByRecursion (Serves q head) sts → AreOff p (length bs) sts
serving_off q head [] p bs from away serve = tt
serving_off q head (st ∷ sts) p bs from away serve = (here away serve.0, serving_off q head sts p bs from away serve.1)
  where
    here : (p + length bs ≤ buffer_at q head) ⊎ (buffer_at q head + 8192 ≤ p) → Serves q head st → IsOff st.place st.bytes p (length bs)
    here a (inl low) = inr (omega arith)
    here (inl below) (inr own) = inl (omega arith)
    here (inr above) (inr own) = inr (omega arith)
