use Rattle.vub_infl_packed.proofs.LoadLemmas.{entry_is}
use Rattle.vub_infl_packed.proofs.region.PackedRegion.entry.Goals as goal

pub returns-clause-loaded : goal.returns-clause-loaded
returns-clause-loaded g c m told =
    entry_is c.args.self.now m c.args.index c.entry_place.result c.load.new.into _ _ _ _ _ _ _ _ c.requires.within c.entry_place.ensures (c.in_ok-load.ensures.loaded m told) c.get_u16.ensures c.get_u16-2.ensures c.get_u16-3.ensures c.get_u64.ensures c.get_u16-4.ensures c.get_u16-5.ensures c.get_u32.ensures c.get_u64-2.ensures
