use Rattle.vub_infl_packed.proofs.LoadLemmas.{header_is}
use Rattle.vub_infl_packed.proofs.region.PackedRegion.header.Goals as goal

pub returns-clause-loaded : goal.returns-clause-loaded
returns-clause-loaded g c m told = header_is c.args.self.now m c.load.new.into _ _ _ _ _ _ (c.in_ok-load.ensures.loaded m told) c.get_u16.ensures c.get_u16-2.ensures c.get_u16-3.ensures c.get_u16-4.ensures c.get_u16-5.ensures c.get_u16-6.ensures
