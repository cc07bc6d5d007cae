use Rattle.std.proofs.Common.{[]}
use Rattle.vub_device.proofs.Histories.{front_legal}
use Rattle.vub_device.proofs.laws.each_front_is_legal.Goals as goal

pub returns : goal.returns
returns c capacity mode = front_legal capacity mode []
