-- Turns one after another.
use Rattle.std.specs.Prelude.{ℕ, ◌-◌, ◌^◌}
use Rattle.vub_base.specs.declared.header.Header1.{Header1}
use Rattle.vub_steps.specs.declared.readiness.Choice.{Choice}
use Rattle.vub_steps.specs.declared.readiness.Choice.TheVariants as choices
use Rattle.vub_steps.specs.declared.readiness.Turn.{Turn}
use Rattle.vub_steps.specs.Readiness.{chosen}
use Rattle.vub_device.specs.Past.{accepted}
use Rattle.vub_world.specs.declared.device.Sequence.{Sequence}
use Rattle.vub_world.specs.declared.device.Sequence.TheVariants as sequences
use Rattle.vub_run.specs.Moments.{Moment, standing}
use Rattle.vub_run.specs.Run.{any_choice, drain_choice}

-- the most turns that it has; no run comes to that of a drain
abbrev pub most_turns : Sequence → ℕ
most_turns (sequences.Once t) = 1
most_turns (sequences.UpTo count) = count
most_turns sequences.Drain = 2 ^ 64 - 1

-- the choice after so many requests were accepted
abbrev pub choice_after : Sequence → ℕ → Choice
choice_after (sequences.Once t) taken = choices.Only t
choice_after (sequences.UpTo count) taken = choices.Any
choice_after sequences.Drain taken = choices.Drain taken

-- the turn that comes next at a moment
abbrev pub next_turn : ℕ → Header1 → Sequence → ℕ → Moment → Turn
next_turn q h sequence taken m = chosen h.size (choice_after sequence taken) (standing h q m)

-- the choices of turns that begin at a moment
abbrev pub choices_from : ℕ → Header1 → Sequence → Moment → Moment → Turn
choices_from q h (sequences.Once t) m = λ now. t
choices_from q h (sequences.UpTo count) m = any_choice h q
choices_from q h sequences.Drain m = drain_choice h q (accepted m.scene.past q)
