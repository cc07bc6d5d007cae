use Rattle.vub_session.proofs.HeldLemmas.{answered_held, found_held, held_kept, held_sized, new_held, stopped_held}
use Rattle.vub_session.proofs.laws.spaces_stay_held.Goals as goal

pub returns : goal.returns
returns c = record { answered = answered_held; kept = held_kept; found = found_held; new = new_held; stopped = stopped_held; sized = held_sized }
