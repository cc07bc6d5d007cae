use Rattle.vub_base.proofs.PositionLemmas.{advanced_at}
use Rattle.vub_slots.proofs.NumberLemmas.{position_of-number_at, positions_apart, slot_lap, wrap_lap, two_laps}
use Rattle.vub_slots.proofs.laws.positions_are_numbers.Goals as goal

pub returns-clause-advanced : goal.returns-clause-advanced
returns-clause-advanced c n p by some few = advanced_at n p by some few

pub returns-clause-number : goal.returns-clause-number
returns-clause-number c n at below = position_of-number_at n at below

pub returns-clause-apart : goal.returns-clause-apart
returns-clause-apart c n p by some more few = positions_apart n p by some more few

pub returns-clause-lap : goal.returns-clause-lap
returns-clause-lap c n p some = (slot_lap n p, wrap_lap n p some)

pub returns-clause-two_laps : goal.returns-clause-two_laps
returns-clause-two_laps c n p some = two_laps n p some
