use Rattle.std.proofs.Common.{◌≡◌, ◌≤◌, ◌++◌, List, take}
use Rattle.vub_report.specs.declared.items.Record.{Record}
use Rattle.vub_world.specs.World.{header_in}
use Rattle.vublk.specs.Flows.{WroteBut}
use Rattle.vublk.specs.Records.{records_text}
use Rattle.vublk.proofs.OneMore.{IsPlayed}
use Rattle.vublk.proofs.printing.print_all.Given as goal

abbrev pub invariant-loop-event : goal.invariant-loop-event
invariant-loop-event g l = record {
  header : header_in l.world ≡ header_in l.fn.world;
  printed : (rs : List Record) × IsPlayed (header_in l.fn.world) l.world (take l.event-index l.events) rs × WroteBut (g.O.Sink.held l.fn.out) (g.O.Sink.held l.out) l.pieces (l.fn.pieces ++ records_text l.command rs);
  later : g.O.Sink.faults l.fn.out ≤ g.O.Sink.faults l.out;
}
