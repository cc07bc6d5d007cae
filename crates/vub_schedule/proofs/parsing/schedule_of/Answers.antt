use Rattle.std.proofs.Common.{inl, refl}
use Rattle.vub_schedule.proofs.Lines.{header_takes}
use Rattle.vub_schedule.proofs.Texts.{no_header, first_bad, spelled}
use Rattle.vub_schedule.proofs.parsing.schedule_of.Goals as goal

pub returns-in_default-clause-fault : goal.returns-in_default-clause-fault
returns-in_default-clause-fault c = inl (refl, no_header c.args.bytes.now c.in_default.ensures)

pub events_of-requires : goal.events_of-requires
events_of-requires c = (header_takes c.args.bytes.now c.in-Some.header c.in-Some.rest.now c.in-Some.ensures).1

pub returns-in-Ok-clause-found : goal.returns-in-Ok-clause-found
returns-in-Ok-clause-found c =
    let t = header_takes c.args.bytes.now c.in-Some.header c.in-Some.rest.now c.in-Some.ensures in
    spelled c.in-Some.header c.args.bytes.now c.in-Some.rest.now c.in-Ok.events.items c.new.result t.1 t.0 c.in-Ok.ensures.ok.0 c.in-Ok.ensures.ok.1 c.new.ensures

pub returns-in-Err-clause-fault : goal.returns-in-Err-clause-fault
returns-in-Err-clause-fault c =
    let t = header_takes c.args.bytes.now c.in-Some.header c.in-Some.rest.now c.in-Some.ensures in
    first_bad c.in-Some.header c.args.bytes.now c.in-Some.rest.now c.in-Err.fault t.1 t.0 c.in-Err.ensures.err
