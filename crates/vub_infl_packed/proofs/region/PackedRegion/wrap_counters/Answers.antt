use Rattle.std.proofs.Common.{◌≡◌, ◌+◌, ap, ◌∙◌, arith}
use Rattle.vub_shared.specs.Bytes.{word}
use Rattle.vub_infl_packed.proofs.LoadLemmas.{byte_of_loaded}
use Rattle.vub_infl_packed.proofs.region.PackedRegion.wrap_counters.Goals as goal

pub returns-clause-used : goal.returns-clause-used
returns-clause-used g c m told =
    let there : c.args.self.now.place + 20 + 0 ≡ c.args.self.now.place + 20 = omega arith in
    byte_of_loaded 0 2 m c.args.self.now.space.number (c.args.self.now.place + 20) c.load.new.into (omega arith) (c.in_ok-load.ensures.loaded m told) ∙ ap (word 1 m c.args.self.now.space.number) there

pub returns-clause-old : goal.returns-clause-old
returns-clause-old g c m told =
    let there : c.args.self.now.place + 20 + 1 ≡ c.args.self.now.place + 21 = omega arith in
    byte_of_loaded 1 2 m c.args.self.now.space.number (c.args.self.now.place + 20) c.load.new.into (omega arith) (c.in_ok-load.ensures.loaded m told) ∙ ap (word 1 m c.args.self.now.space.number) there
