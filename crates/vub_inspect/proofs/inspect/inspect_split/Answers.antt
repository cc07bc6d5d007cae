use Rattle.std.proofs.Common.{◌∙◌, ap, ℕ, refl}
use Rattle.vub_shared.specs.Bytes.{Bytes}
use Rattle.vub_shared.specs.Watched.{bytes_in}
use Rattle.vub_infl_split.specs.Readings.{split_reading}
use Rattle.vub_infl_split.specs.Region.{words_of}
use Rattle.vub_inspect.specs.RegionBytes.{memory_of}
use Rattle.vub_inspect.proofs.inspect.inspect_split.Goals as goal

pub returns-clause-reads : goal.returns-clause-reads
returns-clause-reads c =
    let n = c.args.size in
    c.in-Ok.ensures.reads (bytes_in c.in_ok-memory.memory) refl
    ∙ ap (λ (m : Bytes). split_reading n c.args.ring_used (words_of (record { space = c.in_ok-memory.space; place = 0; size = n }) m)) c.in_ok-memory.ensures.bytes
    ∙ ap (λ (s : ℕ). split_reading n c.args.ring_used (words_of (record { space = record { number = s }; place = 0; size = n }) (memory_of c.args.bytes.now))) c.in_ok-memory.ensures.number
