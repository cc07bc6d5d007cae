-- What a start of a split queue finds in its in-flight region (vhost-user, "Inflight I/O tracking").
use Rattle.std.specs.Prelude.{ℕ, ◌==◌, if◌then◌else◌}
use Rattle.vub_ring.specs.Ring.{ahead}
use Rattle.vub_infl_split.specs.Region.{RegionWords}
use Rattle.vub_steps.specs.declared.steps.Plan.{Plan}
use Rattle.vub_steps.specs.declared.steps.Plan.TheVariants.{New, Settles, Settled}

-- a batch of so many is settled; there is nothing to settle where none is there
abbrev pub settles : ℕ → Plan
settles count = if count == 0 then Settled else Settles count

-- what its first step finds, where used.idx is `used`
abbrev pub plan_of : ℕ → RegionWords → Plan
plan_of used w = if w.version == 0 then New else settles (ahead used w.used_idx)
