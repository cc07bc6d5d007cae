-- Counters that rise, and what is read of them.
use Rattle.std.proofs.Common.{◌≡◌, ◌≢◌, ◌≤◌, ◌<◌, ℕ, ◌+◌, Bool, true, false, cond, List, [], ◌∷◌, ◌++◌, refl, arith}
use Rattle.std.specs.Prelude.{◌==◌, nat_lt, Option, Some, None, not}
use Rattle.std.specs.Option.{option_map}
use Rattle.std.specs.List.{find, AllByRecursion}
use Rattle.std.proofs.lemmas.Bool.Decides.{nat_tests}
use Rattle.vub_base.specs.declared.pending.Pending.{Pending}
use Rattle.vub_device.specs.Past.{is_among}
use Rattle.vub_inflight.specs.Entries.{CountersBelow, CountersRise, next_counter, with_counter, without_heads}
use Rattle.vub_inflight.proofs.Each.{all_weaker, all_append, all_filter}

pub below_weaker : (k l : ℕ) (xs : List Pending) → k ≤ l → CountersBelow k xs → CountersBelow l xs
below_weaker k l xs h = all_weaker (λ e. e.counter < k) (λ e. e.counter < l) xs (λ e b. omega (arith, b))

-- one whose counter is above all comes last
pub rise_push : (xs : List Pending) (e : Pending) → CountersRise xs → CountersBelow e.counter xs → CountersRise (xs ++ e ∷ [])
rise_push [] e r b = (tt, tt)
rise_push (x ∷ xs) e r b = (all_append (λ y. x.counter < y.counter) xs (e ∷ []) r.0 (b.0, tt), rise_push xs e r.1 b.1)

pub rise_without : (heads : List ℕ) (xs : List Pending) → CountersRise xs → CountersRise (without_heads heads xs)
rise_without heads [] r = tt
rise_without heads (x ∷ xs) r = elim (not (is_among heads x.head)) as (λ b. CountersRise (cond b (x ∷ without_heads heads xs) (without_heads heads xs))) [
  | true ↦ (all_filter (λ y. x.counter < y.counter) (λ y. not (is_among heads y.head)) xs r.0, rise_without heads xs r.1)
  | false ↦ rise_without heads xs r.1
]

-- the next counter is above all
pub below_next : (xs : List Pending) → CountersBelow (next_counter xs) xs
below_next [] = tt
below_next (x ∷ xs) =
    let rest : CountersBelow (next_counter xs) xs = below_next xs in
    let go : (b : Bool) → nat_lt (next_counter xs) (x.counter + 1) ≡ b → CountersBelow (cond b (x.counter + 1) (next_counter xs)) (x ∷ xs) = elim [
      | true ↦ λ e. (omega arith, below_weaker (next_counter xs) (x.counter + 1) xs (let l : next_counter xs < x.counter + 1 = grind (arith, nat_tests) in omega (arith, l)) rest)
      | false ↦ λ e. (let l : x.counter + 1 ≤ next_counter xs = grind (arith, nat_tests) in omega (arith, l), rest)
    ] in
    go (nat_lt (next_counter xs) (x.counter + 1)) refl

-- none has a counter that all are below
pub none_with : (counter : ℕ) (xs : List Pending) → CountersBelow counter xs → with_counter counter xs ≡ None
none_with counter [] b = refl
none_with counter (x ∷ xs) b =
    let rest : with_counter counter xs ≡ None = none_with counter xs b.1 in
    let lower : x.counter < counter = b.0 in
    grind (arith, nat_tests)

-- and where none has it
pub none_has : (counter : ℕ) (xs : List Pending) → with_counter counter xs ≡ None → AllByRecursion (λ (e : Pending). e.counter ≢ counter) xs
none_has counter [] none = tt
none_has counter (x ∷ xs) none = go (none_has counter xs) (x.counter == counter) refl none
  where
    go : (with_counter counter xs ≡ None → AllByRecursion (λ (e : Pending). e.counter ≢ counter) xs) → (b : Bool) → (x.counter == counter) ≡ b → option_map (λ (e : Pending). e.head) (cond b (Some x) (find (λ (e : Pending). e.counter == counter) xs)) ≡ None → AllByRecursion (λ (e : Pending). e.counter ≢ counter) (x ∷ xs)
    go rest true is none' = absurd (let fails : ◌≡◌ {A = Option ℕ} (Some x.head) None = none' in cc)
    go rest false is none' = (grind (arith, nat_tests), rest none')
