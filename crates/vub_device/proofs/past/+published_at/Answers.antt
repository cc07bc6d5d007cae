use Rattle.std.proofs.Common.{arith}
use Rattle.std.proofs.lemmas.Grind.{common_steps}
use Rattle.vub_device.proofs.Numbers.{place_of_append}
use Rattle.vub_device.proofs.past.+published_at.Goals as goal

pub returns-then-other-queue : goal.returns-then-other-queue
returns-then-other-queue t c = grind (arith, common_steps, place_of_append)
