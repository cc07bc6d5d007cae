-- How large the in-flight region is.
use Rattle.std.specs.Prelude.{ℕ, ◌*◌}
use Rattle.vub_base.specs.declared.header.Header1.{Header1}
use Rattle.vub_infl_split.specs.Region.{region_size}

-- the bytes of the parts of all queues
abbrev pub inflight_size : Header1 → ℕ
inflight_size h = h.queues * region_size h.size
