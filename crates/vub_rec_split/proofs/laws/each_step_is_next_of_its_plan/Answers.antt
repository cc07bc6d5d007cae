use Rattle.vub_rec_split.proofs.PlanStores.{due_in_place}
use Rattle.vub_rec_split.proofs.laws.each_step_is_next_of_its_plan.Goals as goal

pub returns : goal.returns
returns c heads s m fits stands = due_in_place heads s m fits stands
