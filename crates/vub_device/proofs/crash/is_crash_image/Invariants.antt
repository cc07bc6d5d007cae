use Rattle.std.specs.Prelude.{ℕ, ◌<◌, Contains, reverse}
use Rattle.vub_device.specs.Crash.{image_at, candidates}
use Rattle.vub_device.proofs.crash.is_crash_image.Given as goal

abbrev pub invariant-loop-sector : goal.invariant-loop-sector
invariant-loop-sector l = (s : ℕ) → s < l.sector → Contains (candidates (reverse l.past) s) (image_at l.image s)
