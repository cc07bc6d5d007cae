-- The events of turns: what the machine's steps in them are in the run.
use Rattle.std.proofs.Common.{◌≡◌, ◌≤◌, ℕ, zero, suc, ◌-◌, Bool, true, false, cond, List, [], ◌∷◌, ◌++◌, refl, ap, sym, ◌∙◌, subst, inl, inr, arith}
use Rattle.std.proofs.lemmas.List.{append-nil}
use Rattle.vub_base.specs.declared.header.Header1.{Header1}
use Rattle.vub_steps.specs.declared.readiness.Turn.{Turn}
use Rattle.vub_schedule.specs.declared.types.Event.TheVariants as events
use Rattle.vub_device.specs.Past.{accepted}
use Rattle.vub_world.specs.declared.device.Sequence.{Sequence}
use Rattle.vub_world.specs.declared.device.Sequence.TheVariants as sequences
use Rattle.vub_world.specs.declared.machine.Machine.{Machine}
use Rattle.vub_world.specs.DriverSides.{Parts}
use Rattle.vub_report.specs.declared.items.Item.{Item}
use Rattle.vub_report.specs.declared.items.Item.TheVariants as items
use Rattle.vub_world.specs.Sequences.{choices_from, most_turns}
use Rattle.vub_world.specs.MachineAt.{MachineAt, PartsStand, Performs}
use Rattle.vub_world.specs.MachineSteps.{TurnsGo, TurnsMade, TurnsEvent, PlaysSingle, PlaysTurns}
use Rattle.vub_run.specs.Moments.{Moment}
use Rattle.vub_run.specs.Run.{Played, played, single, turns, one_turn, is_due, if_ready, up_to, then_played, any_choice, drain_choice, Drains}
use Rattle.vub_world.proofs.MachineLoops.{outstanding_few}
use Rattle.vub_world.proofs.MachineTurnsAt.{undue}
use Rattle.vub_run_laws.proofs.Runs.{plain_header}
use Rattle.vub_run_laws.proofs.RunsTo.{stands_good}

-- ---- room

-- no more are outstanding than the ring has places
pub standing_few : (q : ℕ) (w : Parts) → PartsStand q w → w.side.outstanding.offered - w.side.outstanding.collected ≤ 64
standing_few q w s = outstanding_few q w.side.header s.2.0 w (plain_header w.side.header s.2.1.header) (stands_good q w.side.header s.0 s.1 s.2.0 s.2.3 s.2.1) s.2.2

-- ---- whether the first is ready

unready : (ready : Bool) (p : Played) (m : Moment) → ready ≡ false → if_ready ready p m ≡ played (items.Idle ∷ []) m
unready ready p m none = ap (λ (b : Bool). if_ready b p m) none

is_ready_then : (ready : Bool) (p : Played) (m : Moment) → ready ≡ true → if_ready ready p m ≡ p
is_ready_then ready p m some = ap (λ (b : Bool). if_ready b p m) some

-- ---- several turns

pub turns_idle : (q : ℕ) (h : Header1) (There : Moment → Type 0) (sequence : Sequence) (most : ℕ) (m : Moment) (after is : List Item) → TurnsGo q h false sequence most There m [] after → is ≡ after ++ items.Idle ∷ [] → TurnsEvent q h sequence most There m is
turns_idle q h There sequence most m after is goes noted = inl (goes.0, goes.1, noted ∙ ap (λ (xs : List Item). xs ++ items.Idle ∷ []) goes.2)

pub turns_all_made : (q : ℕ) (h : Header1) (There : Moment → Type 0) (sequence : Sequence) (most : ℕ) (m : Moment) (after is : List Item) → TurnsGo q h true sequence most There m [] after → is ≡ after → TurnsEvent q h sequence most There m is
turns_all_made q h There sequence most m after is goes noted = inr (subst (λ (xs : List Item). (is_due h q (choices_from q h sequence m m) m ≡ true) × TurnsMade q h (choices_from q h sequence m) most There m [] xs) (sym noted) goes)

-- the same, where what stands there has another form
pub turns_event_as : (q : ℕ) (h : Header1) (sequence : Sequence) (most : ℕ) (P Q : Moment → Type 0) (m : Moment) (is : List Item) → ((n : Moment) → P n → Q n) → TurnsEvent q h sequence most P m is → TurnsEvent q h sequence most Q m is
turns_event_as q h sequence most P Q m is f (inl x) = inl (x.0, f m x.1, x.2)
turns_event_as q h sequence most P Q m is f (inr x) = inr (x.0, record { count = x.1.count; few = x.1.few; small = x.1.small; at = f (turns x.1.count (choices_from q h sequence m) h q m).next x.1.at; items_are = x.1.items_are; ends = x.1.ends })

pub turns_event_of : (p q : ℕ) (h k : Header1) (sequence : Sequence) (most : ℕ) (There : Moment → Type 0) (m : Moment) (is : List Item) → p ≡ q → h ≡ k → TurnsEvent p h sequence most There m is → TurnsEvent q k sequence most There m is
turns_event_of p q h k sequence most There m is same header event = subst (λ (j : ℕ). TurnsEvent j k sequence most There m is) same (subst (λ (g : Header1). TurnsEvent p g sequence most There m is) header event)

-- no turn is due where no queue is attached
pub turns_none : (q : ℕ) (h : Header1) (There : Moment → Type 0) (sequence : Sequence) (most : ℕ) (m : Moment) (is : List Item) → (m.lanes q).attached ≡ false → There m → is ≡ items.Idle ∷ [] → TurnsEvent q h sequence most There m is
turns_none q h There sequence most m is none there noted = inl (undue q h (choices_from q h sequence m m) m none, there, noted)

-- where the next turn isn't due, as many turns and more are these
turns_enough : (q : ℕ) (n count : ℕ) (choose : Moment → Turn) (h : Header1) (m : Moment) → n ≤ count → is_due h q (choose (turns n choose h q m).next) (turns n choose h q m).next ≡ false → turns count choose h q m ≡ turns n choose h q m
turns_enough q zero zero choose h m few none = refl
turns_enough q zero (suc count) choose h m few none =
    ap (λ (b : Bool). cond {A = Played} b (then_played (one_turn h q (choose m) m) (turns count choose h q (one_turn h q (choose m) m).next)) (played [] m)) none
turns_enough q (suc n) zero choose h m few none = absurd (omega (arith, few))
turns_enough q (suc n) (suc count) choose h m few none = go (is_due h q (choose m) m) none (turns_enough q n count choose h (one_turn h q (choose m) m).next (omega (arith, few)))
  where
    N : Moment
    N = (one_turn h q (choose m) m).next

    go : (b : Bool) → is_due h q (choose (cond {A = Played} b (then_played (one_turn h q (choose m) m) (turns n choose h q N)) (played [] m)).next) (cond {A = Played} b (then_played (one_turn h q (choose m) m) (turns n choose h q N)) (played [] m)).next ≡ false
        → (is_due h q (choose (turns n choose h q N).next) (turns n choose h q N).next ≡ false → turns count choose h q N ≡ turns n choose h q N)
        → cond {A = Played} b (then_played (one_turn h q (choose m) m) (turns count choose h q N)) (played [] m) ≡ cond {A = Played} b (then_played (one_turn h q (choose m) m) (turns n choose h q N)) (played [] m)
    go true later rest = ap (then_played (one_turn h q (choose m) m)) (rest later)
    go false later rest = refl

-- turns that were made are as many as are asked for
made_all : (q : ℕ) (h : Header1) (choose : Moment → Turn) (most : ℕ) (There : Moment → Type 0) (m : Moment) (is : List Item) → (x : TurnsMade q h choose most There m [] is) → turns most choose h q m ≡ turns x.count choose h q m
made_all q h choose most There m is x = elim x.ends [
  | inl all ↦ ap (λ (n : ℕ). turns n choose h q m) (sym all)
  | inr none ↦ turns_enough q x.count most choose h m x.few none
]

-- a turn that is made once is the single one
once_is : (q : ℕ) (h : Header1) (t : Turn) (m : Moment) → is_due h q t m ≡ true → turns 1 (λ now. t) h q m ≡ one_turn h q t m
once_is q h t m due =
    ap (λ (b : Bool). cond {A = Played} b (then_played (one_turn h q t m) (played [] (one_turn h q t m).next)) (played [] m)) due
    ∙ ap (λ (is : List Item). played is (one_turn h q t m).next) (append-nil (one_turn h q t m).items)

pub single_plays : (q : ℕ) (w now : Machine) (t : Turn) (is : List Item) → PlaysTurns q w now (sequences.Once t) is → PlaysSingle q w now t is
single_plays q w now t is plays es rs m stands at = go (plays es rs m stands at)
  where
    choose : Moment → Turn
    choose = λ now. t

    go : TurnsEvent q w.header (sequences.Once t) 1 (MachineAt now) m is → (next : Moment) × (played is next ≡ single w.header q t m) × MachineAt now next
    go (inl x) = (m, ap (λ (xs : List Item). played xs m) x.2 ∙ sym (unready (is_due w.header q t m) (one_turn w.header q t m) m x.0), x.1)
    go (inr x) =
        let n : ℕ = x.1.count in (
          (turns n choose w.header q m).next,
          ap (λ (xs : List Item). played xs (turns n choose w.header q m).next) x.1.items_are ∙ sym (made_all q w.header choose 1 (MachineAt now) m is x.1) ∙ once_is q w.header t m x.0 ∙ sym (is_ready_then (is_due w.header q t m) (one_turn w.header q t m) m x.0),
          x.1.at,
        )

pub up_to_performs : (q : ℕ) (w now : Machine) (count : ℕ) (is : List Item) → PlaysTurns q w now (sequences.UpTo count) is → Performs w now (events.Turn q count) is
up_to_performs q w now count is plays es rs m stands at = go (plays es rs m stands at)
  where
    choose : Moment → Turn
    choose = any_choice w.header q

    go : TurnsEvent q w.header (sequences.UpTo count) count (MachineAt now) m is → (next : Moment) × (played is next ≡ up_to count choose w.header q m) × MachineAt now next
    go (inl x) = (m, ap (λ (xs : List Item). played xs m) x.2 ∙ sym (unready (is_due w.header q (choose m) m) (turns count choose w.header q m) m x.0), x.1)
    go (inr x) =
        let n : ℕ = x.1.count in (
          (turns n choose w.header q m).next,
          ap (λ (xs : List Item). played xs (turns n choose w.header q m).next) x.1.items_are ∙ sym (made_all q w.header choose count (MachineAt now) m is x.1) ∙ sym (is_ready_then (is_due w.header q (choose m) m) (turns count choose w.header q m) m x.0),
          x.1.at,
        )

-- ---- a drain

-- a bound of its turns that is never reached
pub drain_performs : (q : ℕ) (w now : Machine) (is : List Item) → PlaysTurns q w now sequences.Drain is → Performs w now (events.Drain q) is
drain_performs q w now is plays es rs m stands at = go (plays es rs m stands at)
  where
    most : ℕ
    most = most_turns sequences.Drain

    choose : Moment → Turn
    choose = drain_choice w.header q (accepted m.scene.past q)

    ends : (x : TurnsMade q w.header choose most (MachineAt now) m [] is) → is_due w.header q (choose (turns x.count choose w.header q m).next) (turns x.count choose w.header q m).next ≡ false
    ends x = elim x.ends [
      | inl all ↦ absurd (omega (arith, all, x.small))
      | inr none ↦ none
    ]

    go : TurnsEvent q w.header sequences.Drain most (MachineAt now) m is → (next : Moment) × Drains w.header q m choose is next × MachineAt now next
    go (inl x) = (m, inl (x.0, ap (λ (xs : List Item). played xs m) x.2), x.1)
    go (inr x) =
        let n : ℕ = x.1.count in (
          (turns n choose w.header q m).next,
          inr (x.0, record { count = n; made = ap (λ (xs : List Item). played xs (turns n choose w.header q m).next) x.1.items_are; ends = ends x.1 }),
          x.1.at,
        )
