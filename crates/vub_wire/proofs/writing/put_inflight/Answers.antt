use Rattle.std.proofs.Common.{sym, []}
use Rattle.std.proofs.lemmas.List.{append-nil}
use Rattle.byteorder.specs.Endian.{little_bytes}
use Rattle.vub_wire.specs.Grammar.{inflight_bytes}
use Rattle.vub_wire.specs.Writing.{zeros}
use Rattle.vub_wire.proofs.Appends.{five}
use Rattle.vub_wire.proofs.writing.put_inflight.Goals as goal

pub returns-then-inflight-clause-items : goal.returns-then-inflight-clause-items
unfolding inflight_bytes
returns-then-inflight-clause-items c =
    let x = c.args.inflight.now in
    rw c.if-inflight.true (five c.args.out.now.items (little_bytes 8 x.size) (little_bytes 8 x.offset) (little_bytes 2 x.queues) (little_bytes 2 x.queue_size) zeros
    c.put_u64.ensures.items c.put_u64-2.ensures.items c.put_u16.ensures.items c.put_u16-2.ensures.items c.put_u32.ensures.items)

pub returns-else-inflight-clause-items : goal.returns-else-inflight-clause-items
unfolding inflight_bytes
returns-else-inflight-clause-items c =
    let x = c.args.inflight.now in
    rw c.if-inflight.false (five c.args.out.now.items (little_bytes 8 x.size) (little_bytes 8 x.offset) (little_bytes 2 x.queues) (little_bytes 2 x.queue_size) []
    c.put_u64.ensures.items c.put_u64-2.ensures.items c.put_u16.ensures.items c.put_u16-2.ensures.items (sym (append-nil c.put_u16-2.new.out.items)))
