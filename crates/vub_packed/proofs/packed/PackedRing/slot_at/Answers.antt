use Rattle.std.proofs.Common.{arith}
use Rattle.vub_packed.proofs.PackedLemmas.{slot_is}
use Rattle.vub_packed.proofs.packed.PackedRing.slot_at.Goals as goal

pub returns-clause-loaded : goal.returns-clause-loaded
returns-clause-loaded g c m told =
    slot_is c.args.self.now m c.args.index c.place.result _ _ _ _ _ (omega (arith, c.place.ensures)) (c.in_ok-load.ensures.loaded m told) c.get_u64.ensures c.get_u32.ensures c.get_u16.ensures c.get_u16-2.ensures
