use Rattle.vub_device.proofs.Outlives.{flush_outlives}
use Rattle.vub_device.proofs.laws.a_flushed_write_outlives_a_power_stop.Goals as goal

pub returns : goal.returns
returns c = flush_outlives
