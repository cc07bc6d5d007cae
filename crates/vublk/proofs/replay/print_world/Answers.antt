use Rattle.std.proofs.Common.{inr}
use Rattle.vublk.proofs.RunText.{Part-after, Part-head, All-flushed_part, Some-flushed, Some-flushed_part}
use Rattle.vublk.proofs.replay.print_world.Goals as goal

pub returns-in-Err-Failed-clause-ends : goal.returns-in-Err-Failed-clause-ends
returns-in-Err-Failed-clause-ends g c = Part-head c.args.command c.args.schedule.now _ _ _ c.requires.empty (c.in-Err-Failed.ensures.part (cc c.in-Err-Failed.field-0-is))

pub print_all-requires : goal.print_all-requires
print_all-requires g c = record { events = rw (c.requires.header, c.items.ensures) c.requires.schedule.events; new = c.requires.new }

pub returns-in-Err-Failed-print_all-clause-ends : goal.returns-in-Err-Failed-print_all-clause-ends
returns-in-Err-Failed-print_all-clause-ends g c = Part-after c.args.command c.args.schedule.now _ c.items.result.now _ _ _ _ _ c.requires.header c.items.ensures c.requires.empty c.in-Ok.ensures.ok (c.in-Err-Failed-print_all.ensures.part (cc c.in-Err-Failed-print_all.field-0-is))

pub returns-in-Err-clause-ends : goal.returns-in-Err-clause-ends
returns-in-Err-clause-ends g c =
    All-flushed_part c.args.command c.args.schedule.now _ c.items.result.now _ _ _ _ _ _ _ c.requires.header c.items.ensures c.requires.empty c.in-Ok.ensures.ok c.in-Ok-print_all.ensures.ok c.in-Err.ensures.part

pub returns-in-Ok-flush-2-clause-ends : goal.returns-in-Ok-flush-2-clause-ends
returns-in-Ok-flush-2-clause-ends g c =
    let some = c.in-Err-Memory-print_all.ensures.memory (cc c.in-Err-Memory-print_all.field-0-is) in
    inr (Some-flushed c.args.command c.args.schedule.now _ c.items.result.now _ _ _ _ _ _ _ c.requires.header c.items.ensures c.requires.empty c.in-Ok.ensures.ok some c.in-Ok-flush-2.ensures.ok)

pub returns-in-Err-flush-clause-ends : goal.returns-in-Err-flush-clause-ends
returns-in-Err-flush-clause-ends g c =
    let some = c.in-Err-Memory-print_all.ensures.memory (cc c.in-Err-Memory-print_all.field-0-is) in
    Some-flushed_part c.args.command c.args.schedule.now _ c.items.result.now _ _ _ _ _ _ _ c.requires.header c.items.ensures c.requires.empty c.in-Ok.ensures.ok some c.in-Err-flush.ensures.part
