-- The number that the driver collects next.
use Rattle.std.proofs.Common.{◌≡◌, ◌≢◌, ◌<◌, ℕ, zero, suc, ◌+◌, true, false, List, [], ◌∷◌, ◌++◌, take, length, refl, ap, sym, ◌∙◌, inl, arith, inr}
use Rattle.std.specs.Prelude.{◌||◌, slice_index}
use Rattle.std.proofs.lemmas.Bool.{cases_eq}
use Rattle.std.proofs.lemmas.Bool.Decides.{nat_tests}
use Rattle.std.proofs.lemmas.List.{take_more}
use Rattle.vub_base.specs.declared.header.Header1.{Header1}
use Rattle.vub_device.specs.Past.{published, collected, is_among}
use Rattle.vub_device.specs.Places.{are_distinct}
use Rattle.vub_device.specs.declared.entry.Entry.TheVariants as entries
use Rattle.vub_device.proofs.Numbers.{is_among_append}
use Rattle.vub_run.specs.Memory.{Scene}
use Rattle.vub_run.specs.Moments.{Lane}
use Rattle.vub_run_laws.proofs.RunGood.{IsOut, IsGood}
use Rattle.vub_run_laws.proofs.RunHolds.{Holds}
use Rattle.vub_run_laws.proofs.RunNumbers.{among_at}
use Rattle.vub_run_laws.proofs.RunOwn.{collected_own}

-- of distinct numbers none stands among those before it
pub none_before : (xs : List ℕ) (c : ℕ) → are_distinct xs ≡ true → c < length xs → is_among (take c xs) (slice_index xs c) ≡ false
none_before [] c d l = absurd (omega arith)
none_before (x ∷ xs) zero d l = refl
none_before (x ∷ xs) (suc c) d l =
    let rest : are_distinct xs ≡ true → is_among (take c xs) (slice_index xs c) ≡ false = λ t. none_before xs c t (omega arith) in
    let there : is_among xs (slice_index xs c) ≡ true = among_at xs c (omega arith) in
    let tail : are_distinct xs ≡ true = grind (arith, nat_tests) in
    let new : is_among xs x ≡ false = grind (arith, nat_tests) in
    let r : is_among (take c xs) (slice_index xs c) ≡ false = rest tail in
    elim (cases_eq x (slice_index xs c)) [
      | inl same ↦ absurd (let both : is_among xs x ≡ is_among xs (slice_index xs c) = ap (is_among xs) same in let fails : true ≡ false = sym there ∙ sym both ∙ new in cc)
      | inr apart ↦ grind (arith, nat_tests)
    ]

-- what is taken
pub record IsTaken (q : ℕ) (h : Header1) (s : Scene) (l : Lane) (x : ℕ) : Type 0 where
  pub good : IsGood h
  pub holds : Holds q h s l
  pub more : collected s.past q < length (published s.past q)
  pub head : x ≡ slice_index (s.heads q) (slice_index (published s.past q) (collected s.past q))

-- the number that is collected
abbrev pub next_number : ℕ → Scene → ℕ
next_number q s = slice_index (published s.past q) (collected s.past q)

pub next_out : (q : ℕ) (h : Header1) (s : Scene) (l : Lane) (x : ℕ) → IsTaken q h s l x → IsOut q s.past (s.heads q) (next_number q s)
next_out q h s l x t = record {
  below = omega (arith, t.holds.known.below (next_number q s) (among_at (published s.past q) (collected s.past q) t.more), t.holds.known.offered);
  kept = none_before (published s.past q) (collected s.past q) t.holds.known.distinct t.more;
}

-- what is out after it was out before, and is another one
pub later_out : (q : ℕ) (h : Header1) (s : Scene) (l : Lane) (x j k : ℕ) → IsTaken q h s l x → IsOut q (entries.Collect q k ∷ s.past) (s.heads q) j → IsOut q s.past (s.heads q) j × (j ≢ next_number q s)
later_out q h s l x j k t out =
    let c : ℕ = collected s.past q in
    let ps : List ℕ = published s.past q in
    let more : take (c + 1) ps ≡ take c ps ++ next_number q s ∷ [] = take_more ps c 0 t.more in
    let joined : is_among (take c ps ++ next_number q s ∷ []) j ≡ (is_among (take c ps) j || is_among (next_number q s ∷ []) j) = is_among_append (take c ps) (next_number q s ∷ []) j in
    let none : is_among (take c ps ++ next_number q s ∷ []) j ≡ false = ap (λ (ks : List ℕ). is_among ks j) (sym more) ∙ ap (λ (many : ℕ). is_among (take many ps) j) (sym (collected_own s.past q k)) ∙ out.kept in
    let both : (is_among (take c ps) j || is_among (next_number q s ∷ []) j) ≡ false = sym joined ∙ none in
    (record { below = out.below; kept = grind (arith, nat_tests) }, λ same. let here : next_number q s ≡ j = sym same in grind (arith, nat_tests))
