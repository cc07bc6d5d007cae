-- The batch and the counter of a lane, and what of the batch is hidden.
use Rattle.std.proofs.Common.{◌≡◌, ◌≤◌, ◌<◌, ℕ, ◌*◌, true, false, List, [], ◌∷◌, ◌++◌, length, refl, ap, sym, ◌∙◌, subst, inl, inr, arith}
use Rattle.std.specs.Prelude.{◌||◌}
use Rattle.std.proofs.lemmas.Bool.Decides.{nat_tests}
use Rattle.std.proofs.lemmas.Bool.{cases_Bool, cases_lt, or_right}
use Rattle.vub_steps.specs.declared.steps.Phase.{Phase}
use Rattle.vub_steps.specs.declared.steps.Phase.TheVariants as phases
use Rattle.vub_steps.specs.declared.steps.Step.{Step}
use Rattle.vub_steps.specs.declared.steps.Step.TheVariants as steps
use Rattle.vub_run.specs.Moments.{Lane}
use Rattle.vub_run.specs.Turns.{counted}
use Rattle.vub_device.specs.declared.entry.Entry.{Entry}
use Rattle.vub_device.specs.Past.{accepted, published, is_among, IsOpen, started}
use Rattle.vub_device.proofs.Numbers.{is_among_append}
use Rattle.vub_run_laws.proofs.RunNumbers.{distinct_more}
use Rattle.vub_run_laws.proofs.RunGood.{hidden, IsLow, Carries}

-- ---- what is hidden

-- nothing but numbers of the batch
pub hidden_among : (batch : List ℕ) (phase : Phase) (k : ℕ) → is_among (hidden batch phase) k ≡ true → is_among batch k ≡ true
hidden_among batch phases.Rest k held = absurd (let fails : false ≡ true = held in cc)
hidden_among batch (phases.Start done) k held = absurd (let fails : false ≡ true = held in cc)
hidden_among batch (phases.Fetch done) k held = absurd (let fails : false ≡ true = held in cc)
hidden_among batch (phases.Publish done) k held = elim (cases_lt (4 * length batch) done) [
  | inl past ↦ absurd (
      let none : hidden batch (phases.Publish done) ≡ [] = grind (arith, nat_tests) in
      let fails : false ≡ true = sym (ap (λ (ks : List ℕ). is_among ks k) none) ∙ held in
      cc)
  | inr before ↦
      let all : hidden batch (phases.Publish done) ≡ batch = grind (arith, nat_tests) in
      sym (ap (λ (ks : List ℕ). is_among ks k) all) ∙ held
]

-- all of it until used.idx is stored, and none from then on
pub all_hidden : (batch : List ℕ) (done : ℕ) → done ≤ 4 * length batch → hidden batch (phases.Publish done) ≡ batch
all_hidden batch done before = grind (arith, nat_tests)

pub none_hidden : (batch : List ℕ) (done : ℕ) → 4 * length batch < done → hidden batch (phases.Publish done) ≡ []
none_hidden batch done past = grind (arith, nat_tests)

-- a number that is neither completed nor in the batch
pub left_hidden : (completed batch : List ℕ) (phase : Phase) (k : ℕ) → is_among (completed ++ batch) k ≡ false → is_among (completed ++ hidden batch phase) k ≡ false
left_hidden completed batch phase k out =
    let whole : is_among (completed ++ batch) k ≡ (is_among completed k || is_among batch k) = is_among_append completed batch k in
    let part : is_among (completed ++ hidden batch phase) k ≡ (is_among completed k || is_among (hidden batch phase) k) = is_among_append completed (hidden batch phase) k in
    elim (cases_Bool (is_among (hidden batch phase) k)) [
      | inl held ↦ absurd (let there : is_among batch k ≡ true = hidden_among batch phase k held in grind (arith, nat_tests))
      | inr none ↦ grind (arith, nat_tests)
    ]

-- ---- the batch and the counter

-- an entry that starts, accepts and shows nothing
pub carries_on : (q : ℕ) (past past' : List Entry) (counter : ℕ) (phase : Phase) (batch completed : List ℕ) → started past' q ≡ started past q → accepted past' q ≡ accepted past q → published past' q ≡ published past q
    → Carries q past counter phase batch completed → Carries q past' counter phase batch completed
carries_on q past past' counter phase batch completed runs accepts shows c = record {
  distinct = c.distinct;
  shown = λ k held out. ap (λ (ks : List ℕ). is_among ks k) shows ∙ c.shown k held out;
  quiet = λ stopped. c.quiet (sym runs ∙ stopped);
  low = subst (λ (n : ℕ). IsLow n counter phase) (sym accepts) c.low;
}

-- an open number that is neither completed nor hidden is in no batch
pub out_of_batch : (q : ℕ) (past : List Entry) (counter : ℕ) (phase : Phase) (batch completed : List ℕ) (k : ℕ) → IsOpen past q k → is_among (completed ++ hidden batch phase) k ≡ false → Carries q past counter phase batch completed → is_among (completed ++ batch) k ≡ false
out_of_batch q past counter phase batch completed k is_open left c =
    let whole : is_among (completed ++ batch) k ≡ (is_among completed k || is_among batch k) = is_among_append completed batch k in
    let part : is_among (completed ++ hidden batch phase) k ≡ (is_among completed k || is_among (hidden batch phase) k) = is_among_append completed (hidden batch phase) k in
    elim (cases_Bool (is_among batch k)) [
      | inl held ↦ absurd (
          let out : is_among (hidden batch phase) k ≡ false = grind (arith, nat_tests) in
          let fails : true ≡ false = sym (c.shown k held out) ∙ is_open.unpublished in
          cc)
      | inr none ↦ grind (arith, nat_tests)
    ]

-- one more request is completed
pub carries_done : (q : ℕ) (past : List Entry) (counter : ℕ) (phase : Phase) (batch completed : List ℕ) (k : ℕ) → IsOpen past q k → is_among (completed ++ hidden batch phase) k ≡ false → Carries q past counter phase batch completed → Carries q past counter phase batch (completed ++ k ∷ [])
carries_done q past counter phase batch completed k is_open left c = record {
  distinct = distinct_more completed batch k c.distinct (out_of_batch q past counter phase batch completed k is_open left c);
  shown = c.shown;
  quiet = c.quiet;
  low = c.low;
}

-- what is in the batch was accepted
pub batch_taken : (q : ℕ) (past : List Entry) (counter : ℕ) (phase : Phase) (batch completed : List ℕ) → ((k : ℕ) → is_among (completed ++ hidden batch phase) k ≡ true → IsOpen past q k) → ((k : ℕ) → is_among (published past q) k ≡ true → k < accepted past q)
    → Carries q past counter phase batch completed → (k : ℕ) → is_among batch k ≡ true → k < accepted past q
batch_taken q past counter phase batch completed opens below c k held = elim (cases_Bool (is_among (hidden batch phase) k)) [
  | inl hides ↦ (opens k (is_among_append completed (hidden batch phase) k ∙ or_right (is_among completed k) (is_among (hidden batch phase) k) hides)).taken
  | inr shows ↦ below k (c.shown k held shows)
]

-- another phase without a batch
pub carries_phase : (q : ℕ) (past : List Entry) (counter counter' : ℕ) (phase phase' : Phase) (completed : List ℕ) → IsLow (accepted past q) counter' phase' → Carries q past counter phase [] completed → Carries q past counter' phase' [] completed
carries_phase q past counter counter' phase phase' completed low c = record {
  distinct = c.distinct;
  shown = λ k held out. absurd (let fails : false ≡ true = held in cc);
  quiet = c.quiet;
  low = low;
}

-- ---- a step

-- it changes no more of a lane than its counter, beside the phase and the batch
pub counted_is : (next : ℕ) (step : Step) (l : Lane) → counted next step l ≡ record l { counter = (counted next step l).counter }
counted_is next steps.Features l = refl
counted_is next (steps.Free i) l = refl
counted_is next steps.Open l = refl
counted_is next (steps.Settle i) l = refl
counted_is next steps.SettleEnd l = refl
counted_is next steps.Bell l = refl
counted_is next steps.Start l = refl
counted_is next steps.Count l = refl
counted_is next steps.Accept l = refl
counted_is next (steps.Id e) l = refl
counted_is next (steps.Len e) l = refl
counted_is next (steps.Link e) l = refl
counted_is next (steps.Head e) l = refl
counted_is next steps.Index l = refl
counted_is next (steps.Clear e) l = refl
counted_is next steps.Note l = refl
