-- The stores of a request that a driver takes, on a split ring.
use Rattle.std.proofs.Common.{◌≡◌, ◌≤◌, ◌<◌, ℕ, zero, suc, ◌+◌, ◌*◌, true, Bool, false, List, [], cond, ◌∷◌, ◌++◌, take, length, refl, ap, sym, ◌∙◌, inl, arith, inr}
use Rattle.std.specs.Prelude.{Option, Some, None, slice_index, is_none}
use Rattle.std.specs.List.{AllByRecursion}
use Rattle.std.proofs.lemmas.Bool.{cases_eq}
use Rattle.std.proofs.lemmas.Bool.Decides.{nat_tests}
use Rattle.std.proofs.lemmas.List.{length-append, append_assoc, length-take-le}
use Rattle.byteorder.specs.Endian.{little_bytes}
use Rattle.vub_base.specs.declared.request.Ask.{Ask}
use Rattle.vub_base.specs.declared.request.Ask.TheVariants as asks
use Rattle.vub_shared.specs.Stores.{Store, one_store}
use Rattle.vub_driver.specs.Drivers.{Driver, free_from, first_or_zero, owned_by, waits_on, free_descriptors, can_take, chosen, after_ask}
use Rattle.vub_driver.specs.Layout.{area_place, status_place, buffer_place}
use Rattle.vub_driver.specs.Requests.{Piece, pieces, descriptors_needed, header_bytes, written_bytes, data_place, request_type, first_sector}
use Rattle.vub_driver.specs.Stores.{store_of_some, buffer_stores, offer_stores, chain_stores, request_stores}
use Rattle.vub_device.specs.declared.entry.Entry.{Entry}
use Rattle.vub_run_laws.proofs.RingGood.{Driven, IsHarmless, IsPlan, the_ring, QueueFacts}
use Rattle.vub_run_laws.proofs.RunChains.{desc_long}
use Rattle.vub_run_laws.proofs.RunFrames.{length_little}
use Rattle.vub_run_laws.proofs.RunGood.{IsPlainAsk, IsSize}
use Rattle.vub_base.specs.declared.header.Header1.{Header1}
use Rattle.vub_base.specs.declared.request.Shape.TheVariants.{Direct}
use Rattle.vub_steps.specs.declared.steps.Phase.{Phase}
use Rattle.vub_steps.specs.declared.steps.Plan.{Plan}
use Rattle.vub_run.specs.Memory.{Scene}

-- below n, and nobody's
abbrev pub IsFree : ℕ → (ℕ → Option ℕ) → ℕ → Type 0
IsFree n owner d = (d < n) × (owner d ≡ None)

pub is_none_means : (o : Option ℕ) → is_none o ≡ true → o ≡ None
is_none_means None e = refl
is_none_means (Some x) e = absurd (let fails : false ≡ true = e in cc)

pub free_are : (owner : ℕ → Option ℕ) (count d n : ℕ) → d + count ≤ n → AllByRecursion (IsFree n owner) (free_from owner count d)
free_are owner zero d n l = tt
free_are owner (suc count) d n l = go (is_none (owner d)) refl (free_are owner count (d + 1) n (omega arith))
  where
    go : (b : Bool) → is_none (owner d) ≡ b → AllByRecursion (IsFree n owner) (free_from owner count (d + 1)) → AllByRecursion (IsFree n owner) (cond b (d ∷ free_from owner count (d + 1)) (free_from owner count (d + 1)))
    go true e rest = ((omega arith, is_none_means (owner d) e), rest)
    go false e rest = rest

pub free_taken : (n : ℕ) (owner : ℕ → Option ℕ) (k : ℕ) (xs : List ℕ) → AllByRecursion (IsFree n owner) xs → AllByRecursion (IsFree n owner) (take k xs)
free_taken n owner zero xs all = tt
free_taken n owner (suc k) [] all = tt
free_taken n owner (suc k) (x ∷ xs) all = (all.0, free_taken n owner k xs all.1)

-- who owns something owns it still
pub owned_other : (n head : ℕ) (ds : List ℕ) (owner : ℕ → Option ℕ) (d e : ℕ) → AllByRecursion (IsFree n owner) ds → owner d ≡ Some e → owned_by head ds owner d ≡ Some e
owned_other n head [] owner d e all is = is
owned_other n head (x ∷ xs) owner d e all is = elim (cases_eq x d) [
  | inl same ↦ absurd (let none : owner d ≡ None = ap owner (sym same) ∙ all.0.1 in let fails : None ≡ Some e = sym none ∙ is in cc)
  | inr apart ↦ let rest : owned_by head xs owner d ≡ Some e = owned_other n head xs owner d e all.1 is in grind (arith, nat_tests)
]

pub owned_first : (head : ℕ) (ds : List ℕ) (owner : ℕ → Option ℕ) → owned_by head (head ∷ ds) owner head ≡ Some head
owned_first head ds owner = grind (arith, nat_tests)

pub header_long : (a : Ask) → length (header_bytes a) ≡ 16
header_long a =
    let first = length_little 4 (request_type a) in
    let second = length_little 4 0 in
    let third = length_little 8 (first_sector a) in
    let front : length (little_bytes 4 (request_type a) ++ little_bytes 4 0) ≡ 8 = omega (arith, length-append (little_bytes 4 (request_type a)) (little_bytes 4 0)) in
    omega (arith, length-append (little_bytes 4 (request_type a) ++ little_bytes 4 0) (little_bytes 8 (first_sector a)), length-append (little_bytes 4 (request_type a)) (little_bytes 4 0 ++ little_bytes 8 (first_sector a)), length-append (little_bytes 4 0) (little_bytes 8 (first_sector a)))

pub harmless_append : (q head : ℕ) (xs ys : List Store) → AllByRecursion (IsHarmless q head) xs → AllByRecursion (IsHarmless q head) ys → AllByRecursion (IsHarmless q head) (xs ++ ys)
harmless_append q head [] ys first later = later
harmless_append q head (x ∷ xs) ys first later = (first.0, harmless_append q head xs ys first.1 later)

-- data of up to eight sectors, in its part of the buffer
pub some_harmless : (q head p : ℕ) (bytes : List ℕ) → length bytes ≤ 4096 → p ≡ area_place q + (65536 + 8192 * head) + 4096 → AllByRecursion (IsHarmless q head) (store_of_some 0 p bytes)
some_harmless q head p [] small at = tt
some_harmless q head p (b ∷ bytes) small at = (record { space = refl; lies = inr (omega arith, omega arith) }, tt)

pub some_few : (p : ℕ) (bytes : List ℕ) → length (store_of_some 0 p bytes) ≤ 1
some_few p [] = omega arith
some_few p (b ∷ bytes) = omega arith

pub buffer_harmless : (q n cap head : ℕ) (a : Ask) → IsPlainAsk cap a → AllByRecursion (IsHarmless q head) (buffer_stores (the_ring q n) (buffer_place (the_ring q n).desc head) a) × (length (buffer_stores (the_ring q n) (buffer_place (the_ring q n).desc head) a) ≤ 3)
buffer_harmless q n cap head (asks.Read s c) plain =
    ((record { space = refl; lies = inr (omega arith, omega (arith, header_long (asks.Read s c))) }, (record { space = refl; lies = inr (omega arith, omega arith) }, tt)), omega arith)
buffer_harmless q n cap head (asks.Write s fills) plain =
    let bytes : List ℕ = written_bytes (asks.Write s fills) in
    let p : ℕ = data_place (buffer_place (the_ring q n).desc head) (asks.Write s fills) in
    let last : List Store = one_store 0 (status_place (buffer_place (the_ring q n).desc head)) (255 ∷ []) ∷ [] in
    let size : length bytes ≤ 4096 = plain.few in (
      (record { space = refl; lies = inr (omega arith, omega (arith, header_long (asks.Write s fills))) }, harmless_append q head (store_of_some 0 p bytes) last (some_harmless q head p bytes (omega arith) (omega arith)) (record { space = refl; lies = inr (omega arith, omega arith) }, tt)),
      omega (arith, some_few p bytes, length-append (store_of_some 0 p bytes) last),
    )
buffer_harmless q n cap head asks.Flush plain =
    ((record { space = refl; lies = inr (omega arith, omega (arith, header_long asks.Flush)) }, (record { space = refl; lies = inr (omega arith, omega arith) }, tt)), omega arith)
buffer_harmless q n cap head asks.Id plain = absurd plain
buffer_harmless q n cap head (asks.Discard parts) plain = absurd plain
buffer_harmless q n cap head (asks.Zero parts) plain = absurd plain

pub chain_harmless : (q n head : ℕ) (owner : ℕ → Option ℕ) (ps : List Piece) (ds : List ℕ) → n ≤ 64 → AllByRecursion (IsFree n owner) ds → AllByRecursion (IsHarmless q head) (chain_stores (the_ring q n) ps ds) × (length (chain_stores (the_ring q n) ps ds) ≤ length ds)
chain_harmless q n head owner [] ds small all = (tt, omega arith)
chain_harmless q n head owner (p ∷ []) [] small all = (tt, omega arith)
chain_harmless q n head owner (p ∷ []) (d ∷ ds) small all = ((record { space = refl; lies = inl (omega arith, omega (arith, all.0.0, desc_long p 0 0)) }, tt), omega arith)
chain_harmless q n head owner (p ∷ p' ∷ ps) [] small all = (tt, omega arith)
chain_harmless q n head owner (p ∷ p' ∷ ps) (d ∷ []) small all = (tt, omega arith)
chain_harmless q n head owner (p ∷ p' ∷ ps) (d ∷ d' ∷ ds) small all =
    let rest = chain_harmless q n head owner (p' ∷ ps) (d' ∷ ds) small all.1 in
    ((record { space = refl; lies = inl (omega arith, omega (arith, all.0.0, desc_long p 1 d')) }, rest.0), omega (arith, rest.1))

-- two or three descriptors are needed
pub few_needed : (a : Ask) → (0 < descriptors_needed a) × (descriptors_needed a ≤ 3)
few_needed (asks.Read s c) = (omega arith, omega arith)
few_needed (asks.Write s fills) = (omega arith, omega arith)
few_needed asks.Flush = (omega arith, omega arith)
few_needed asks.Id = (omega arith, omega arith)
few_needed (asks.Discard parts) = (omega arith, omega arith)
few_needed (asks.Zero parts) = (omega arith, omega arith)

pub plan_of : (q n cap index head : ℕ) (owner : ℕ → Option ℕ) (a : Ask) (ds : List ℕ) → n ≤ 64 → IsPlainAsk cap a → length ds ≤ 2 → AllByRecursion (IsFree n owner) (head ∷ ds) → IsPlan q n index head (request_stores (the_ring q n) index a (head ∷ ds))
plan_of q n cap index head owner a ds small plain short all =
    let front : List Store = buffer_stores (the_ring q n) (buffer_place (the_ring q n).desc head) a in
    let chain : List Store = chain_stores (the_ring q n) (pieces (buffer_place (the_ring q n).desc head) a) (head ∷ ds) in
    let fine = buffer_harmless q n cap head a plain in
    let fine_too = chain_harmless q n head owner (pieces (buffer_place (the_ring q n).desc head) a) (head ∷ ds) small all in record {
      first = front ++ chain;
      few = omega (arith, fine.1, fine_too.1, length-append front chain);
      harmless = harmless_append q head front chain fine.0 fine_too.0;
      whole = sym (append_assoc front chain (offer_stores (the_ring q n) index head));
    }

pub ask_driven : (q n cap base : ℕ) (past : List Entry) (heads : List ℕ) (a : Ask) (v : Driver) (ds : List ℕ) → n ≤ 64 → IsPlainAsk cap a → 0 < length ds → length ds ≤ 3 → AllByRecursion (IsFree n v.owner) ds → Driven q n cap base past heads v
    → Driven q n cap base past heads (record v { owner = owned_by (first_or_zero ds) ds v.owner; waiting = Some (waits_on (the_ring q n) a ds v.avail_idx) })
ask_driven q n cap base past heads a v [] small plain some few all d = absurd (omega arith)
ask_driven q n cap base past heads a v (head ∷ ds) small plain some few all d = record {
  index = d.index;
  below = d.below;
  owned = λ k out. owned_other n head (head ∷ ds) v.owner (slice_index heads k) (slice_index heads k) all (d.owned k out);
  apart = d.apart;
  waits = record {
    wide = plain;
    below = all.0.0;
    mine = owned_first head ds v.owner;
    apart = λ k out same.
        let none : v.owner (slice_index heads k) ≡ None = ap v.owner same ∙ all.0.1 in
        let fails : None ≡ Some (slice_index heads k) = sym none ∙ d.owned k out in
        absurd (cc);
    plan = inl (plan_of q n cap v.avail_idx head v.owner a ds small plain (omega arith) all);
  };
}

pub ask_facts : (q : ℕ) (h : Header1) (s : Scene) (v : Driver) (bell : Bool) (plan : Plan) (counter : ℕ) (batch : List ℕ) (phase : Phase) (a : Ask) → IsSize h.size → IsPlainAsk h.capacity a → can_take h.size Direct a v ≡ true → QueueFacts q h s v bell plan counter batch phase → QueueFacts q h s (after_ask (the_ring q h.size) a v) bell plan counter batch phase
ask_facts q h s v bell plan counter batch phase a size plain ready x =
    let free : List ℕ = free_descriptors h.size v in
    let enough : descriptors_needed a ≤ length free = grind (arith, nat_tests) in
    let many : length (chosen h.size a v) ≡ descriptors_needed a = length-take-le (descriptors_needed a) free enough in
    let needed = few_needed a in
    let all : AllByRecursion (IsFree h.size v.owner) (chosen h.size a v) = free_taken h.size v.owner (descriptors_needed a) free (free_are v.owner h.size 0 h.size (omega arith)) in record {
      ringed = x.ringed;
      driven = ask_driven q h.size h.capacity h.base s.past (s.heads q) a v (chosen h.size a v) size.small plain (omega (arith, many, needed.0)) (omega (arith, many, needed.1)) all x.driven;
      words = x.words;
      start = x.start;
    }
