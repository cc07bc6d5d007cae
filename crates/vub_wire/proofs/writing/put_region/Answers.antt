use Rattle.byteorder.specs.Endian.{little_bytes}
use Rattle.vub_wire.specs.Grammar.{region_bytes}
use Rattle.vub_wire.proofs.Appends.{four}
use Rattle.vub_wire.proofs.writing.put_region.Goals as goal

pub returns-clause-items : goal.returns-clause-items
unfolding region_bytes
returns-clause-items c =
    let r = c.args.region.now in
    four c.args.out.now.items (little_bytes 8 r.guest) (little_bytes 8 r.size) (little_bytes 8 r.user) (little_bytes 8 r.offset)
    c.put_u64.ensures.items c.put_u64-2.ensures.items c.put_u64-3.ensures.items c.put_u64-4.ensures.items
