-- A step over told memory, from where the recovery stands to where it stands after it.
use Rattle.std.proofs.Common.{◌≡◌, ◌≢◌, ◌<◌, ◌⊎◌, ℕ, ◌^◌, Bool, List, refl, ap, sym, ◌∙◌, subst, inl, inr, arith}
use Rattle.std.specs.Prelude.{Option, Some, None}
use Rattle.std.specs.Option.{option_map}
use Rattle.vub_base.specs.declared.reading.RegionFault.{RegionFault}
use Rattle.vub_shared.specs.Bytes.{Bytes}
use Rattle.vub_shared.specs.Spaces.{Names}
use Rattle.vub_shared.specs.Stores.{Store, after_store}
use Rattle.vub_shared.proofs.BytesLemmas.{word-put_other, word-lt}
use Rattle.vub_split.specs.Split.{used_idx_word, used_idx_place}
use Rattle.vub_inflight.specs.Entries.{heads_of}
use Rattle.vub_infl_split.specs.declared.region.SplitRegion.{SplitRegion}
use Rattle.vub_infl_split.specs.declared.region.SplitStore.{SplitStore}
use Rattle.vub_infl_split.specs.Region.{RegionWords, words_of}
use Rattle.vub_infl_split.specs.Stores.{tag_of, store_of, words_after, NamesEntry, ValueFits}
use Rattle.vub_infl_split.specs.Readings.{split_entries}
use Rattle.vub_infl_split.proofs.PlaceLemmas.{row_lies_in, apart_from_region}
use Rattle.vub_infl_split.proofs.WordLemmas.{words_stored}
use Rattle.vub_steps.specs.declared.steps.Plan.{Plan}
use Rattle.vub_steps.specs.declared.steps.Plan.TheVariants.{New, Settles, Settled}
use Rattle.vub_rec_split.specs.declared.plan.Recovered.{Recovered}
use Rattle.vub_rec_split.specs.declared.plan.Recovered.TheVariants as recovered
use Rattle.vub_steps.specs.Plans.{plan_of}
use Rattle.vub_rec_split.specs.Starts.{RecoveryState, answered, answer_in, MakesStep, new_step, settle_step, step_of, unless_fault, fault_in, plan_in, plan_or, sight_in, due_in, moved, gone_on, state_after, memory_after, entries_in, unchecked_in, Sight}
use Rattle.vub_rec_split.specs.Stands.{InStart, IsApart, LeftAt, StandsAt, Keeps}
use Rattle.vub_infl_split.specs.Sound.{Sound}
use Rattle.vub_infl_split.proofs.ReadingLemmas.{sound_unchecked}
use Rattle.vub_region_facts.proofs.SoundLemmas.{sound_entries, left_reads}
use Rattle.vub_rec_split.proofs.PlanSteps.{Kept, left_fine, begins, plan_kept, step_fits, start_left}

-- ---- used.idx

-- no store of a row touches it
used_stays : (s : RecoveryState) (m : Bytes) (step : SplitStore) → IsApart s → NamesEntry s.region.size step → used_idx_word s.ring (after_store (store_of s.region step) m) ≡ used_idx_word s.ring m
used_stays s m step apart within =
    let st : Store = store_of s.region step in
    word-put_other 2 m st.space st.place st.bytes s.ring.used.0.number (used_idx_place s.ring) (apart_from_region s.region st s.ring.used.0.number (used_idx_place s.ring) 2 (row_lies_in s.region step within) apart)

-- ---- a step

used_fits : (s : RecoveryState) (m : Bytes) → ((t q : ℕ) → m t q < 256) → used_idx_word s.ring m < 256 ^ 2
used_fits s m fits = word-lt 2 m s.ring.used.0.number (used_idx_place s.ring) fits

-- where it stands once it has its plan
pub planned : (s : RecoveryState) (m : Bytes) (heads : List ℕ) (plan : Option Plan) → ((t q : ℕ) → m t q < 256) → InStart s.region.size (used_idx_word s.ring m) heads s.base plan s.done s.cleared (words_of s.region m)
    → InStart s.region.size (used_idx_word s.ring m) heads s.base (Some (plan_or plan (plan_of (used_idx_word s.ring m) (words_of s.region m)))) s.done s.cleared (words_of s.region m)
planned s m heads None fits p =
    let used : ℕ = used_idx_word s.ring m in
    let w : RegionWords = words_of s.region m in
    let begun : InStart s.region.size used heads s.base (Some (plan_of used w)) 0 None w = begins s.region.size used heads s.base w (omega (arith, used_fits s m fits)) p.left in
    subst (λ (d : ℕ). InStart s.region.size used heads s.base (Some (plan_of used w)) d s.cleared w) (sym p.none_done)
    (subst (λ (c : Option ℕ). InStart s.region.size used heads s.base (Some (plan_of used w)) 0 c w) (sym p.none_cleared) begun)
planned s m heads (Some plan) fits p = p

no_fault : (s : RecoveryState) (m : Bytes) (heads : List ℕ) (plan : Option Plan) → InStart s.region.size (used_idx_word s.ring m) heads s.base plan s.done s.cleared (words_of s.region m)
    → fault_in (record s { plan = plan }) m ≡ None
no_fault s m heads None p = left_fine s.region.size (used_idx_word s.ring m) heads s.base (words_of s.region m) p.left
no_fault s m heads (Some plan) p = refl

pub stands_fine : (s : RecoveryState) (m : Bytes) (heads : List ℕ) → StandsAt heads s m → fault_in s m ≡ None
stands_fine s m heads p = no_fault s m heads s.plan p.in_start

pub stands_left : (s : RecoveryState) (m : Bytes) (heads : List ℕ) → StandsAt heads s m → LeftAt heads s m
stands_left s m heads p = start_left s.region.size (used_idx_word s.ring m) heads s.base s.plan s.done s.cleared (words_of s.region m) p.in_start

pub stands_reads : (s : RecoveryState) (m : Bytes) (heads : List ℕ) → StandsAt heads s m → heads_of (entries_in s m) ≡ heads
stands_reads s m heads p = left_reads s.region.size (used_idx_word s.ring m) heads s.base (words_of s.region m) (stands_left s m heads p)

store_keeps : (s : RecoveryState) (m : Bytes) (heads : List ℕ) (plan : Plan) (step : SplitStore) → ((t q : ℕ) → m t q < 256) → s.region.size < 65536 → IsApart s
    → InStart s.region.size (used_idx_word s.ring m) heads s.base (Some plan) s.done s.cleared (words_of s.region m) → step_of s.region.size (sight_in s m) plan s.done ≡ Some step
    → Keeps heads s (moved step (record s { plan = Some plan })) m (after_store (store_of s.region step) m)
store_keeps s m heads plan step fits small apart p due =
    let n : ℕ = s.region.size in
    let used : ℕ = used_idx_word s.ring m in
    let w : RegionWords = words_of s.region m in
    let m' : Bytes = after_store (store_of s.region step) m in
    let s' : RecoveryState = moved step (record s { plan = Some plan }) in
    let lies : NamesEntry n step × ValueFits step = step_fits n (sight_in s m) plan s.done step (used_fits s m fits) due in
    let kept : Kept n used heads s.base s' w (words_after n step w) = plan_kept n used heads s.base s (sight_in s m) w plan step (omega (arith, used_fits s m fits)) refl refl p due in
    let same_used : used ≡ used_idx_word s.ring m' = sym (used_stays s m step apart lies.0) in
    let words : words_after n step w ≡ words_of s.region m' = sym (words_stored s.region step m small lies.0 lies.1) in
    let moved_on : InStart n used heads s.base s'.plan s'.done s'.cleared (words_of s.region m') = subst (λ (x : RegionWords). InStart n used heads s.base s'.plan s'.done s'.cleared x) words kept.in_start in
    let there : InStart n (used_idx_word s.ring m') heads s.base s'.plan s'.done s'.cleared (words_of s.region m') = subst (λ (u : ℕ). InStart n u heads s.base s'.plan s'.done s'.cleared (words_of s.region m')) same_used moved_on in
    record {
      stands = record { apart = apart; in_start = there };
      left = start_left n (used_idx_word s.ring m') heads s.base s'.plan s'.done s'.cleared (words_of s.region m') there;
      same_entries = sym (ap (λ (u : ℕ). split_entries n u (words_of s.region m')) same_used) ∙ sym (ap (split_entries n used) words) ∙ kept.entries;
    }

rest_keeps : (s : RecoveryState) (m : Bytes) (heads : List ℕ) (plan : Plan) → IsApart s → InStart s.region.size (used_idx_word s.ring m) heads s.base (Some plan) s.done s.cleared (words_of s.region m) → step_of s.region.size (sight_in s m) plan s.done ≡ None
    → Keeps heads s (record s { plan = Some Settled }) m m
rest_keeps s m heads New apart p due = absurd (let fails : ◌≡◌ {A = Option SplitStore} (Some (new_step s.region.size (sight_in s m) s.done)) None = due in cc)
rest_keeps s m heads (Settles count) apart p due = absurd (let fails : ◌≡◌ {A = Option SplitStore} (Some (settle_step s.region.size (sight_in s m) count s.done)) None = due in cc)
rest_keeps s m heads Settled apart p due = record { stands = record { apart = apart; in_start = p }; left = inr p.sound; same_entries = refl }

-- by the step that is due
keeps_due : (s : RecoveryState) (m : Bytes) (heads : List ℕ) (plan : Plan) (due : Option SplitStore) → ((t q : ℕ) → m t q < 256) → s.region.size < 65536 → IsApart s
    → InStart s.region.size (used_idx_word s.ring m) heads s.base (Some plan) s.done s.cleared (words_of s.region m) → step_of s.region.size (sight_in s m) plan s.done ≡ due
    → Keeps heads s (gone_on None due plan s) m (memory_after s.region due m)
keeps_due s m heads plan None fits small apart p is = rest_keeps s m heads plan apart p is
keeps_due s m heads plan (Some step) fits small apart p is = store_keeps s m heads plan step fits small apart p is

pub stands_keeps : (s : RecoveryState) (m : Bytes) (heads : List ℕ) → ((t q : ℕ) → m t q < 256) → s.region.size < 65536 → StandsAt heads s m → Keeps heads s (state_after s m) m (memory_after s.region (due_in s m) m)
stands_keeps s m heads fits small p =
    let none : fault_in s m ≡ None = stands_fine s m heads p in
    let due : step_of s.region.size (sight_in s m) (plan_in s m) s.done ≡ due_in s m = sym (ap (λ (f : Option RegionFault). unless_fault f (step_of s.region.size (sight_in s m) (plan_in s m) s.done)) none) in
    let kept : Keeps heads s (gone_on None (due_in s m) (plan_in s m) s) m (memory_after s.region (due_in s m) m) = keeps_due s m heads (plan_in s m) (due_in s m) fits small p.apart (planned s m heads s.plan fits p.in_start) due in
    subst (λ (f : Option RegionFault). Keeps heads s (gone_on f (due_in s m) (plan_in s m) s) m (memory_after s.region (due_in s m) m)) (sym none) kept

-- ---- the told memory after a call

-- one that doesn't fail
pub told_moved : {M : Type 0} (told : M → Option Bytes) (trail : M → Option (List Store)) (names : M → Option Names) (handed : M → ℕ → Bool) (sizes : M → ℕ → ℕ) (before now : M) (result : Recovered) (region : SplitRegion) (due : Option SplitStore) (m : Bytes)
    → MakesStep told trail names handed sizes before now result region due → told before ≡ Some m → result ≢ recovered.Failed → told now ≡ Some (memory_after region due m)
told_moved told trail names handed sizes before now result region None m makes is fine = makes.same_told ∙ is
told_moved told trail names handed sizes before now (recovered.Stored tag) region (Some step) m makes is fine = makes.stored ∙ ap (option_map (after_store (store_of region step))) is
told_moved told trail names handed sizes before now recovered.Done region (Some step) m makes is fine = makes.stored ∙ ap (option_map (after_store (store_of region step))) is
told_moved told trail names handed sizes before now (recovered.Damaged fault) region (Some step) m makes is fine = makes.stored ∙ ap (option_map (after_store (store_of region step))) is
told_moved told trail names handed sizes before now recovered.Failed region (Some step) m makes is fine = absurd (fine refl)

-- one that may have failed: the old bytes or the new ones
pub told_either : {M : Type 0} (told : M → Option Bytes) (trail : M → Option (List Store)) (names : M → Option Names) (handed : M → ℕ → Bool) (sizes : M → ℕ → ℕ) (before now : M) (result : Recovered) (region : SplitRegion) (due : Option SplitStore) (m : Bytes)
    → MakesStep told trail names handed sizes before now result region due → told before ≡ Some m → (told now ≡ Some m) ⊎ (told now ≡ Some (memory_after region due m))
told_either told trail names handed sizes before now result region None m makes is = inl (makes.same_told ∙ is)
told_either told trail names handed sizes before now (recovered.Stored tag) region (Some step) m makes is = inr (makes.stored ∙ ap (option_map (after_store (store_of region step))) is)
told_either told trail names handed sizes before now recovered.Done region (Some step) m makes is = inr (makes.stored ∙ ap (option_map (after_store (store_of region step))) is)
told_either told trail names handed sizes before now (recovered.Damaged fault) region (Some step) m makes is = inr (makes.stored ∙ ap (option_map (after_store (store_of region step))) is)
told_either told trail names handed sizes before now recovered.Failed region (Some step) m makes is = elim makes.stored [
  | inl same ↦ inl (same ∙ is)
  | inr made ↦ inr (made ∙ ap (option_map (after_store (store_of region step))) is)
]

-- ---- what a call leaves

pub stands_on : (s s' : RecoveryState) (m m' : Bytes) (heads : List ℕ) (now : Option Bytes) → ((t q : ℕ) → m t q < 256) → s.region.size < 65536 → StandsAt heads s m → s' ≡ state_after s m → now ≡ Some (memory_after s.region (due_in s m) m) → now ≡ Some m'
    → StandsAt heads s' m'
stands_on s s' m m' heads now fits small p state told there =
    let same : memory_after s.region (due_in s m) m ≡ m' = cc in
    let kept = stands_keeps s m heads fits small p in
    subst (λ (x : RecoveryState). StandsAt heads x m') (sym state) (subst (λ (x : Bytes). StandsAt heads (state_after s m) x) same kept.stands)

pub left_on : (s : RecoveryState) (m m' : Bytes) (heads : List ℕ) (now : Option Bytes) → ((t q : ℕ) → m t q < 256) → s.region.size < 65536 → StandsAt heads s m → (now ≡ Some m) ⊎ (now ≡ Some (memory_after s.region (due_in s m) m)) → now ≡ Some m'
    → LeftAt heads s m' × (entries_in s m' ≡ entries_in s m)
left_on s m m' heads now fits small p (inl told) there =
    let same : m ≡ m' = cc in
    (subst (λ (x : Bytes). LeftAt heads s x) same (stands_left s m heads p), ap (entries_in s) (sym same))
left_on s m m' heads now fits small p (inr told) there =
    let same : memory_after s.region (due_in s m) m ≡ m' = cc in
    let kept = stands_keeps s m heads fits small p in
    (subst (λ (x : Bytes). LeftAt heads s x) same kept.left, subst (λ (x : Bytes). entries_in s x ≡ entries_in s m) same kept.same_entries)

-- it isn't damaged
pub stands_undamaged : (s : RecoveryState) (m : Bytes) (heads : List ℕ) (result : Recovered) (fault : RegionFault) → StandsAt heads s m → (result ≢ recovered.Failed → result ≡ answer_in s m) → result ≢ recovered.Damaged fault
stands_undamaged s m heads result fault p answers damaged =
    let none : fault_in s m ≡ None = stands_fine s m heads p in
    let fine : result ≢ recovered.Failed = λ failed. let fails : recovered.Damaged fault ≡ recovered.Failed = sym damaged ∙ failed in cc in
    let answer : recovered.Damaged fault ≡ answered None (due_in s m) = sym damaged ∙ answers fine ∙ ap (λ (f : Option RegionFault). answered f (due_in s m)) none in
    never (due_in s m) answer
  where
    never : (due : Option SplitStore) → recovered.Damaged fault ≢ answered None due
    never None is = let fails : recovered.Damaged fault ≡ recovered.Done = is in cc
    never (Some step) is = let fails : recovered.Damaged fault ≡ recovered.Stored (tag_of step) = is in cc

-- ---- where no store is left

settled_sound : (n used : ℕ) (heads : List ℕ) (base : ℕ) (plan : Plan) (done : ℕ) (cleared : Option ℕ) (sight : Sight) (w : RegionWords) → InStart n used heads base (Some plan) done cleared w → step_of n sight plan done ≡ None → Sound n used heads w
settled_sound n used heads base New done cleared sight w p none = absurd (let fails : ◌≡◌ {A = Option SplitStore} (Some (new_step n sight done)) None = none in cc)
settled_sound n used heads base (Settles count) done cleared sight w p none = absurd (let fails : ◌≡◌ {A = Option SplitStore} (Some (settle_step n sight count done)) None = none in cc)
settled_sound n used heads base Settled done cleared sight w p none = p.sound

none_due : (due : Option SplitStore) → recovered.Done ≡ answered None due → due ≡ None
none_due None is = refl
none_due (Some step) is = absurd (let fails : recovered.Done ≡ recovered.Stored (tag_of step) = is in cc)

-- the open entries are those that are read
pub done_reads : (s : RecoveryState) (m : Bytes) (heads : List ℕ) (result : Recovered) → ((t q : ℕ) → m t q < 256) → StandsAt heads s m → (result ≢ recovered.Failed → result ≡ answer_in s m) → result ≡ recovered.Done → unchecked_in s m ≡ entries_in s m
done_reads s m heads result fits p answers is_done =
    let n : ℕ = s.region.size in
    let used : ℕ = used_idx_word s.ring m in
    let w : RegionWords = words_of s.region m in
    let none : fault_in s m ≡ None = stands_fine s m heads p in
    let fine : result ≢ recovered.Failed = λ failed. let fails : recovered.Done ≡ recovered.Failed = sym is_done ∙ failed in cc in
    let answer : recovered.Done ≡ answered None (due_in s m) = sym is_done ∙ answers fine ∙ ap (λ (f : Option RegionFault). answered f (due_in s m)) none in
    let due : step_of n (sight_in s m) (plan_in s m) s.done ≡ None = sym (ap (λ (f : Option RegionFault). unless_fault f (step_of n (sight_in s m) (plan_in s m) s.done)) none) ∙ none_due (due_in s m) answer in
    let sound : Sound n used heads w = settled_sound n used heads s.base (plan_in s m) s.done s.cleared (sight_in s m) w (planned s m heads s.plan fits p.in_start) due in
    sound_unchecked n used heads w sound ∙ sym (sound_entries n used heads w sound)
