use Rattle.byteorder.specs.Endian.{little_bytes}
use Rattle.vub_wire.specs.Grammar.{address_bytes, pair_bytes}
use Rattle.vub_wire.proofs.Appends.{five}
use Rattle.vub_wire.proofs.writing.put_payload.Goals as goal

pub returns-in-SetAddr-clause-items : goal.returns-in-SetAddr-clause-items
unfolding address_bytes
returns-in-SetAddr-clause-items c =
    let x = c.in-SetAddr in
    rw x.is (five c.args.out.now.items (pair_bytes x.index x.flags) (little_bytes 8 x.desc) (little_bytes 8 x.used) (little_bytes 8 x.avail) (little_bytes 8 x.log)
    c.put_pair.ensures.items c.put_u64.ensures.items c.put_u64-in-SetAddr.ensures.items c.put_u64-in-SetAddr-2.ensures.items c.put_u64-in-SetAddr-3.ensures.items)
