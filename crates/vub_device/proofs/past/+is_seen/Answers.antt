use Rattle.std.proofs.Common.{arith}
use Rattle.std.proofs.lemmas.Grind.{common_steps}
use Rattle.vub_device.proofs.Numbers.{same_front}
use Rattle.vub_device.proofs.past.+is_seen.Goals as goal

pub returns-in-Some : goal.returns-in-Some
returns-in-Some t c = (λ yes. grind (arith, common_steps), λ same. c.is_seen.ensures.1 (same_front c.in-Some.front.now _ _ c.args.bytes.now c.in-Some.ensures (grind (arith, common_steps))))
