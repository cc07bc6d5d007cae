-- The turns of a drain one by one, so that each computes from a moment that is written out.
use Rattle.std.proofs.Common.{◌≡◌, ℕ, suc, Bool, true, cond, List, [], ◌++◌, ap, sym, ◌∙◌}
use Rattle.vub_base.specs.declared.header.Header1.{Header1}
use Rattle.vub_shared.specs.Bytes.{Bytes}
use Rattle.vub_steps.specs.declared.steps.Phase.{Phase}
use Rattle.vub_steps.specs.declared.steps.Plan.TheVariants.{New}
use Rattle.vub_steps.specs.declared.readiness.Turn.{Turn}
use Rattle.vub_device.specs.declared.entry.Entry.{Entry}
use Rattle.vub_report.specs.declared.items.Item.{Item}
use Rattle.vub_run.specs.Memory.{with_at}
use Rattle.vub_run.specs.Moments.{Moment}
use Rattle.vub_run.specs.Run.{Played, played, then_played, one_turn, turns, is_due}

-- the moment after a turn: memory and history, and the lane of queue 0
abbrev pub turned_to : Bytes → List Entry → Phase → ℕ → List ℕ → List ℕ → (ℕ → ℕ) → Moment → Moment
turned_to memory past phase counter batch completed made m = record m {
  scene = record m.scene { memory = memory; past = past };
  lanes = with_at m.lanes 0 (record { driver = (m.lanes 0).driver; attached = true; bell = true; phase = phase; plan = New; counter = counter; batch = batch; completed = completed; made = made });
}

-- the turn that is chosen is due, has these items, and leads there
abbrev pub Turns : Header1 → (Moment → Turn) → Moment → List Item → Moment → Type 0
Turns h choose m is next = (is_due h 0 (choose m) m ≡ true) × (played is next ≡ one_turn h 0 (choose m) m)

-- a turn, and those after it
pub turn_first : (h : Header1) (choose : Moment → Turn) (count : ℕ) (m next end : Moment) (is more : List Item) → Turns h choose m is next → played more end ≡ turns count choose h 0 next → played (is ++ more) end ≡ turns (suc count) choose h 0 m
turn_first h choose count m next end is more turn rest =
    ap (then_played (played is next)) rest
    ∙ ap (λ (p : Played). then_played p (turns count choose h 0 p.next)) turn.1
    ∙ sym (ap (λ (b : Bool). cond {A = Played} b (then_played (one_turn h 0 (choose m) m) (turns count choose h 0 (one_turn h 0 (choose m) m).next)) (played [] m)) turn.0)
