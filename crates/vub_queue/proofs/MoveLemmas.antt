-- What a step of a fetch or a publication says, leaves and stores.
use Rattle.std.proofs.Common.{◌≡◌, ◌≤◌, ◌⊎◌, ℕ, ◌+◌, List, [], inl, inr, refl, ap, sym, ◌∙◌, subst, arith}
use Rattle.std.proofs.lemmas.Bool.Decides.{nat_tests}
use Rattle.std.specs.Prelude.{Bool, true, false, not, ◌&&◌, ◌||◌, nat_lt, if◌then◌else◌, length, Option, Some, None, Ok}
use Rattle.vub_base.specs.Told.{WhereTold}
use Rattle.vub_shared.specs.Bytes.{Bytes}
use Rattle.vub_shared.specs.Spaces.{Names}
use Rattle.vub_shared.specs.Stores.{Store, Stores, Trails}
use Rattle.vub_shared.specs.Frames.{KeepsSpaces, OnlyLoads}
use Rattle.vub_base.specs.declared.store.Tag.TheVariants as tags
use Rattle.vub_infl_split.specs.declared.region.SplitStore.TheVariants.{SF1}
use Rattle.vub_infl_split.specs.declared.region.SplitRegion.{SplitRegion}
use Rattle.vub_split.specs.Split.{head_word}
use Rattle.vub_infl_split.specs.declared.region.SplitStore.{SplitStore}
use Rattle.vub_steps.specs.declared.readiness.Turn.{Turn}
use Rattle.vub_steps.specs.declared.readiness.Turn.TheVariants as turns
use Rattle.vub_steps.specs.declared.steps.Phase.{Phase}
use Rattle.vub_steps.specs.declared.steps.Phase.TheVariants as phases
use Rattle.vub_steps.specs.declared.steps.Step.{Step}
use Rattle.vub_steps.specs.declared.steps.Step.TheVariants as steps
use Rattle.vub_steps.specs.Rows.{Row, region_row}
use Rattle.vub_steps.specs.Steps.{after_of, running_steps}
use Rattle.vub_steps.specs.Readiness.{is_fetch, is_publication, last_counter}
use Rattle.vub_task.specs.TaskState.{GainsOne}
use Rattle.vub_queue.specs.declared.queue.Stepped.{Stepped}
use Rattle.vub_queue.specs.declared.queue.Stepped.TheVariants as says
use Rattle.vub_queue.specs.QueueState.{QueueState, outcome, steps_in, step_in, seen_by, row_at, next_row, row_said, step_said, accepted, changed, with_phase, moved, MovesBy, Moves, StoresRow, TrailsRow, MakesRow, is_plain, fetch_under_way, kept_or, waiting, fetches, Finds, Fetches, Publishes, publish_row, start_due, StoresStep, TrailsStep, DoesStore, DoesTrail, Unless, is_fault}
use Rattle.vub_queue.proofs.StartLemmas.{gains_by}

-- ---- a step that changes nothing but the phase

pub plain_said : (head : ℕ) (row : Option Row) (step : Step) → is_plain (Some step) ≡ true → step_said head row step ≡ row_said row
plain_said head row (steps.Id e) is = refl
plain_said head row (steps.Len e) is = refl
plain_said head row (steps.Link e) is = refl
plain_said head row (steps.Head e) is = refl
plain_said head row (steps.Clear e) is = refl
plain_said head row steps.Note is = refl
plain_said head row steps.Features is = refl
plain_said head row (steps.Free e) is = refl
plain_said head row steps.Open is = refl
plain_said head row (steps.Settle e) is = refl
plain_said head row steps.SettleEnd is = refl
plain_said head row steps.Bell is = absurd (cc is)
plain_said head row steps.Start is = refl
plain_said head row steps.Count is = refl
plain_said head row steps.Accept is = absurd (cc is)
plain_said head row steps.Index is = absurd (cc is)

pub plain_changed : (head : ℕ) (step : Step) (s : QueueState) → is_plain (Some step) ≡ true → changed head step s ≡ s
plain_changed head (steps.Id e) s is = refl
plain_changed head (steps.Len e) s is = refl
plain_changed head (steps.Link e) s is = refl
plain_changed head (steps.Head e) s is = refl
plain_changed head (steps.Clear e) s is = refl
plain_changed head steps.Note s is = refl
plain_changed head steps.Features s is = refl
plain_changed head (steps.Free e) s is = refl
plain_changed head steps.Open s is = refl
plain_changed head (steps.Settle e) s is = refl
plain_changed head steps.SettleEnd s is = refl
plain_changed head steps.Bell s is = refl
plain_changed head steps.Start s is = refl
plain_changed head steps.Count s is = absurd (cc is)
plain_changed head steps.Accept s is = absurd (cc is)
plain_changed head steps.Index s is = absurd (cc is)

-- it was made, with this row
pub plain_moves : (told : Option Bytes) (y : Row) (s t : QueueState) → WhereTold told (λ m. is_plain (step_in s) ≡ true) → WhereTold told (λ m. next_row s m ≡ Some y) → t ≡ with_phase (after_of (steps_in s) s.phase) s → Moves told (says.Stored y.tag) s t
plain_moves told y s t plain row is m tells = go (step_in s) (plain m tells) (row m tells)
  where
    go : (o : Option Step) → is_plain o ≡ true → row_at s m o ≡ Some y → MovesBy o m (says.Stored y.tag) s t
    go None p r = absurd (cc p)
    go (Some step) p r = (
      ap row_said (sym r) ∙ sym (plain_said (seen_by s m).head (row_at s m (Some step)) step p),
      is ∙ ap (with_phase (after_of (steps_in s) s.phase)) (sym (plain_changed (seen_by s m).head step s p)),
    )

-- any step that was made
pub moves_by : (told : Option Bytes) (x : Stepped) (step : Step) (s t : QueueState) → step_in s ≡ Some step → WhereTold told (λ m. MovesBy (Some step) m x s t) → Moves told x s t
moves_by told x step s t is made m tells = subst (λ (o : Option Step). MovesBy o m x s t) (sym is) (made m tells)

-- ---- rows

-- the row of the next step, where it is this one
pub row_by : (s : QueueState) (m : Bytes) (step : Step) (o : Option Row) → step_in s ≡ Some step → row_at s m (Some step) ≡ o → next_row s m ≡ o
row_by s m step o is row = ap (row_at s m) is ∙ row

-- ---- what is told after it

module _ {M : Type 0} (told : M → Option Bytes) (trail : M → Option (List Store)) (names : M → Option Names) (handed : M → ℕ → Bool) (sizes : M → ℕ → ℕ) where
  spaces_on : (a b c : M) → KeepsSpaces names handed sizes a b → KeepsSpaces names handed sizes b c → KeepsSpaces names handed sizes a c
  spaces_on a b c x y = record {
    same_names = y.same_names ∙ x.same_names;
    same_handed = λ s. y.same_handed s ∙ x.same_handed s;
    same_sizes = λ s. y.same_sizes s ∙ x.same_sizes s;
  }

  -- the store of this row
  pub makes_this : (before now : M) (x : Stepped) (row : Bytes → Option Row) (y : Row) → WhereTold (told before) (λ m. row m ≡ Some y) → Stores (told before) (told now) (outcome x) y.store → Trails (trail before) (trail now) (outcome x) y.store → KeepsSpaces names handed sizes before now → MakesRow told trail names handed sizes before now x row
  makes_this before now x row y is stored trailed spaces = record {
    stored = λ m tells. subst (StoresRow (told before) (told now) x) (sym (is m tells)) stored;
    trailed = (gains_by told trail names handed sizes before now (outcome x) y.store trailed, λ m tells. subst (TrailsRow (trail before) (trail now) x) (sym (is m tells)) trailed);
    spaces = spaces;
  }

  -- the same after loads
  pub makes_after : (before mid now : M) (x : Stepped) (row : Bytes → Option Row) → OnlyLoads told trail names handed sizes before mid → MakesRow told trail names handed sizes mid now x row → MakesRow told trail names handed sizes before now x row
  makes_after before mid now x row loads made = record {
    stored = λ m tells. subst (λ (o : Option Bytes). StoresRow o (told now) x (row m)) loads.same_told (made.stored m (loads.same_told ∙ tells));
    trailed = (subst (λ (o : Option (List Store)). GainsOne o (trail now)) loads.same_trail made.trailed.0, λ m tells. subst (λ (o : Option (List Store)). TrailsRow o (trail now) x (row m)) loads.same_trail (made.trailed.1 m (loads.same_told ∙ tells)));
    spaces = spaces_on before mid now loads.spaces made.spaces;
  }

  -- no store, where there is no row
  pub makes_none : (before now : M) (x : Stepped) (row : Bytes → Option Row) → OnlyLoads told trail names handed sizes before now → WhereTold (told before) (λ m. row m ≡ None) → MakesRow told trail names handed sizes before now x row
  makes_none before now x row loads is = record {
    stored = λ m tells. subst (StoresRow (told before) (told now) x) (sym (is m tells)) loads.same_told;
    trailed = (inl loads.same_trail, λ m tells. subst (TrailsRow (trail before) (trail now) x) (sym (is m tells)) loads.same_trail);
    spaces = loads.spaces;
  }

  pub loads_nothing : (before : M) → OnlyLoads told trail names handed sizes before before
  loads_nothing before = record { same_told = refl; same_trail = refl; spaces = record { same_names = refl; same_handed = λ s. refl; same_sizes = λ s. refl } }

  -- a load that failed
  pub load_failed : (before now : M) (row : Bytes → Option Row) → OnlyLoads told trail names handed sizes before now → MakesRow told trail names handed sizes before now says.SharedFault row
  load_failed before now row loads = record {
    stored = λ m tells. stays (row m);
    trailed = (inl loads.same_trail, λ m tells. keeps (row m));
    spaces = loads.spaces;
  }
    where
      stays : (o : Option Row) → StoresRow (told before) (told now) says.SharedFault o
      stays None = loads.same_told
      stays (Some y) = inl loads.same_told

      keeps : (o : Option Row) → TrailsRow (trail before) (trail now) says.SharedFault o
      keeps None = loads.same_trail
      keeps (Some y) = inl loads.same_trail

-- ---- a fetch

-- a fetch that begins
pub begins : (s : QueueState) → is_fetch s.phase ≡ false → fetch_under_way s ≡ record s { phase = phases.Fetch 0 }
begins s is = ap (λ (b : Bool). if b then s else record s { phase = phases.Fetch 0 }) is

-- its first step
pub keeps : (head : ℕ) (s : QueueState) → is_fetch s.phase ≡ false → moved head steps.Count (fetch_under_way s) ≡ record s { counter = s.counter + 1; fetching = Some head; phase = phases.Fetch 1 }
keeps head s is = ap (moved head steps.Count) (begins s is)

-- and its second
pub accepts : (head : ℕ) (s : QueueState) → s.phase ≡ phases.Fetch 1 → moved head steps.Accept s ≡ record (accepted head s) { phase = phases.Rest; batch = [] }
accepts head s is = ap (λ (p : Phase). with_phase (after_of (running_steps (length s.batch) s.bell p) p) (accepted head s)) is

-- the row of the first
pub count_row : (s : QueueState) (m : Bytes) (head : ℕ) (region : SplitRegion) → is_fetch s.phase ≡ false → s.fetching ≡ None → head ≡ head_word s.ring m s.next_avail → s.recovery.region ≡ region → next_row (fetch_under_way s) m ≡ Some (region_row region (SF1 head s.counter))
count_row s m head region rests none here lies =
    ap (λ (u : QueueState). next_row u m) (begins s rests)
    ∙ ap (λ (o : Option ℕ). Some (region_row s.recovery.region (SF1 (kept_or o (head_word s.ring m s.next_avail)) s.counter))) none
    ∙ ap (λ (h : ℕ). Some (region_row s.recovery.region (SF1 h s.counter))) (sym here)
    ∙ ap (λ (g : SplitRegion). Some (region_row g (SF1 head s.counter))) lies

-- something waits at rest
pub ready_by : (s : QueueState) (m : Bytes) → s.started ≡ true → s.phase ≡ phases.Rest → nat_lt s.counter last_counter ≡ true → 1 ≤ waiting s m → fetches s m ≡ true
ready_by s m started resting counts some =
    let waits : nat_lt 0 (waiting s m) ≡ true = grind (arith, nat_tests, some) in
    ap (λ (a : Bool). a && not (is_publication s.phase) && (is_fetch s.phase || (nat_lt s.counter last_counter && nat_lt 0 (waiting s m)))) started
    ∙ ap (λ (p : Phase). not (is_publication p) && (is_fetch p || (nat_lt s.counter last_counter && nat_lt 0 (waiting s m)))) resting
    ∙ ap (λ (c : Bool). c && nat_lt 0 (waiting s m)) counts
    ∙ waits

-- a fetch that began, or whose store failed
pub fetches_by : (told : Option Bytes) (x : Stepped) (s t : QueueState) → (x ≡ says.Stored tags.SF1) ⊎ (x ≡ says.SharedFault) → WhereTold told (λ m. fetches s m ≡ true) → WhereTold told (λ m. Finds s m (Ok (Some (head_word s.ring m s.next_avail)))) → Unless (is_fault x) (Moves told x (fetch_under_way s) t) → Fetches told x s t
fetches_by told x s t (inl is) ready finds moves =
    subst (λ (y : Stepped). Fetches told y s t) (sym is) (record { ready = ready; finds = λ none. finds; moves = subst (λ (y : Stepped). Unless (is_fault y) (Moves told y (fetch_under_way s) t)) is moves })
fetches_by told x s t (inr is) ready finds moves = subst (λ (y : Stepped). Fetches told y s t) (sym is) tt

-- ---- a publication that is ready

pub publishes_by : (b : Bool) (told : Option Bytes) (x : Stepped) (s u v t : QueueState) → b ≡ true → u ≡ v → Unless (is_fault x) (Moves told x u t) → Unless (is_fault x) (Publishes b told x s v t)
publishes_by b told x s u v t ready same moves =
    subst (λ (k : Bool). Unless (is_fault x) (Publishes k told x s v t)) (sym ready) (subst (λ (w : QueueState). Unless (is_fault x) (Moves told x w t)) same moves)

-- ---- a turn whose loads failed

stays_row : (before after : Option Bytes) (o : Option Row) → after ≡ before → StoresRow before after says.SharedFault o
stays_row before after None same = same
stays_row before after (Some y) same = inl same

keeps_row : (before after : Option (List Store)) (o : Option Row) → after ≡ before → TrailsRow before after says.SharedFault o
keeps_row before after None same = same
keeps_row before after (Some y) same = inl same

stays_step : (before after : Option Bytes) (region : SplitRegion) (o : Option SplitStore) → after ≡ before → StoresStep before after says.SharedFault region o
stays_step before after region None same = same
stays_step before after region (Some step) same = inl same

keeps_step : (before after : Option (List Store)) (region : SplitRegion) (o : Option SplitStore) → after ≡ before → TrailsStep before after says.SharedFault region o
keeps_step before after region None same = same
keeps_step before after region (Some step) same = inl same

pub fault_stores : (turn : Turn) (before after : Option Bytes) (s : QueueState) → after ≡ before → DoesStore turn before after says.SharedFault s
fault_stores turns.Start before after s same = λ m tells. stays_step before after s.recovery.region (start_due s m) same
fault_stores turns.Fetch before after s same = λ m tells. stays_row before after (next_row (fetch_under_way s) m) same
fault_stores (turns.Work place) before after s same = tt
fault_stores (turns.Publish most) before after s same = λ m tells. stays_row before after (publish_row most s m) same

pub fault_trails : (turn : Turn) (told : Option Bytes) (before after : Option (List Store)) (s : QueueState) → after ≡ before → DoesTrail turn told before after says.SharedFault s
fault_trails turns.Start told before after s same = (inl same, λ m tells. keeps_step before after s.recovery.region (start_due s m) same)
fault_trails turns.Fetch told before after s same = (inl same, λ m tells. keeps_row before after (next_row (fetch_under_way s) m) same)
fault_trails (turns.Work place) told before after s same = inl same
fault_trails (turns.Publish most) told before after s same = (inl same, λ m tells. keeps_row before after (publish_row most s m) same)
