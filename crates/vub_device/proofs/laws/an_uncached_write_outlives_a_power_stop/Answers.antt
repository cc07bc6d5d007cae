use Rattle.vub_device.proofs.Outlives.{write_through_outlives}
use Rattle.vub_device.proofs.laws.an_uncached_write_outlives_a_power_stop.Goals as goal

pub returns : goal.returns
returns c = write_through_outlives
