use Rattle.std.proofs.Common.{◌≡◌, ◌++◌, length}
use Rattle.std.specs.List.{AllByRecursion, flat_map}
use Rattle.vub_schedule.specs.Spelling.{event_line, IsEvent}
use Rattle.vub_schedule.proofs.parsing.events_of.Given as goal

abbrev pub invariant-loop-rest : goal.invariant-loop-rest
invariant-loop-rest l = record {
  good : AllByRecursion (IsEvent l.header) l.events.items;
  parts : l.bytes ≡ flat_map event_line l.events.items ++ l.rest;
}

abbrev pub decreases-loop-rest : goal.decreases-loop-rest
decreases-loop-rest l = length l.rest
