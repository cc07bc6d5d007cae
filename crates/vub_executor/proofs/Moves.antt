use Rattle.std.proofs.Common.{◌≡◌, ◌<◌, ◌≤◌, ℕ, ◌+◌, ◌++◌, ◌∷◌, [], List, length, get_or, ap, sym, ◌∙◌, arith}
use Rattle.std.specs.List.{position_or_len}
use Rattle.std.specs.Prelude.{Bool, true, ◌⊎◌, sum_by, remove, Option, Some, None, OnSome, IsSome, position}
use Rattle.std.proofs.Common.{inl, inr}
use Rattle.std.proofs.lemmas.Bool.{cases_lt, false≢true}
use Rattle.std.proofs.lemmas.Bool.Decides.{nat_tests}
use Rattle.std.proofs.lemmas.List.Sums.{sum_by-remove, sum_by_push, fails_before_first}
use Rattle.std.proofs.lemmas.List.Quantifiers.{position-Some}
use Rattle.std.proofs.lemmas.List.Edits.{length-remove, get_or-remove_below, get_or-remove_above}
use Rattle.vub_executor.specs.declared.executor.Unfinished.{Unfinished}
use Rattle.vub_executor.specs.Executors.{IsRising, has_key}
use Rattle.vub_executor.specs.Lists.{one_at, one_for}

-- the request in the first place with a key has that key
pub key_there : (key : ℕ) (us : List Unfinished) (place : ℕ) (d : Unfinished) → position (has_key key) us ≡ Some place → (get_or us place d).key ≡ key
key_there key us place d is =
    let has : has_key key (get_or us place d) ≡ true = (position-Some (has_key key) us place d is).1 in
    grind (arith, nat_tests)

-- a key that leaves the unfinished and joins the finished is counted as before
pub still_held : (key : ℕ) (us : List Unfinished) (place : ℕ) (d : Unfinished) (fs : List ℕ) → position (has_key key) us ≡ Some place
    → (k : ℕ) → sum_by (one_at k) (remove us place) + sum_by (one_for k) (fs ++ key ∷ []) ≡ sum_by (one_at k) us + sum_by (one_for k) fs
still_held key us place d fs is k =
    let within : place < length us = (position-Some (has_key key) us place d is).0 in
    let there : one_at k (get_or us place d) ≡ one_for k key = ap (one_for k) (key_there key us place d is) in
    omega (arith, sum_by-remove (one_at k) us place d within, sum_by_push (one_for k) fs key, there)

-- where a request stood before another was taken out
pub stood : (us : List Unfinished) (place : ℕ) (d : Unfinished) (k : ℕ) → place < length us
    → ((get_or (remove us place) k d ≡ get_or us k d) × (k < place)) ⊎ ((get_or (remove us place) k d ≡ get_or us (k + 1) d) × (place ≤ k))
stood us place d k within = elim (cases_lt k place) [ inl below ↦ inl (get_or-remove_below us place d k below within, below) | inr above ↦ inr (get_or-remove_above us place d k above within, above) ]

-- those that are left are still in order
pub rising-remove : (us : List Unfinished) (place : ℕ) → place < length us → IsRising us → IsRising (remove us place)
rising-remove us place within rising d i j before inside =
    let len : length (remove us place) + 1 ≡ length us = length-remove us place within in
    elim (stood us place d i within) [
      | inl a ↦ elim (stood us place d j within) [
        | inl b ↦ rw (a.0, b.0) (rising d i j before (omega arith))
        | inr b ↦ rw (a.0, b.0) (rising d i (j + 1) (omega arith) (omega arith))
      ]
      | inr a ↦ elim (stood us place d j within) [
        | inl b ↦ absurd (omega arith)
        | inr b ↦ rw (a.0, b.0) (rising d (i + 1) (j + 1) (omega arith) (omega arith))
      ]
    ]

-- a fact of a value that is there
pub of_some : {X : Type 0} (o : Option X) (P : Type 0) → OnSome o P → IsSome o → P
of_some (Some x) P h is = h
of_some None P h is = absurd (false≢true is)

-- a request that passes is found
pub is_found : (p : Unfinished → Bool) (us : List Unfinished) (i : ℕ) (d : Unfinished) → i < length us → p (get_or us i d) ≡ true → IsSome (position p us)
is_found p us i d within passes =
    let first : position_or_len p us ≤ i = elim (cases_lt i (position_or_len p us)) [ inl before ↦ absurd (false≢true (sym (fails_before_first p us i d before) ∙ passes)) | inr found ↦ found ] in
    let inside : position_or_len p us < length us = omega (arith, first, within) in
    grind (arith, nat_tests)
