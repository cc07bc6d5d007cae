use Rattle.vub_device.proofs.Once.{published_once}
use Rattle.vub_device.proofs.laws.published_once.Goals as goal

pub returns : goal.returns
returns c = published_once
