use Rattle.vub_direct_chain.proofs.ChainReading.{desc_is}
use Rattle.vub_direct_chain.proofs.chain.descriptor_at.Goals as goal

pub returns-clause-loaded : goal.returns-clause-loaded
returns-clause-loaded g c m told =
    desc_is c.args.ring.now m c.args.index c.from.result _ _ _ _ _ c.from.ensures (c.in_ok-load.ensures.loaded m told) c.get_u64.ensures c.get_u32.ensures c.get_u16.ensures c.get_u16-2.ensures
