-- The spans of memory that a task may store into.
use Rattle.std.specs.Prelude.{◌*◌, List, [], ◌∷◌, Option, Some, None, if◌then◌else◌}
use Rattle.vub_direct_chain.specs.declared.chain.Span.{Span}
use Rattle.vub_direct_chain.specs.declared.chain.Sectors.{Sectors}
use Rattle.vub_direct_chain.specs.declared.chain.Parts.{Parts}
use Rattle.vub_task.specs.declared.task.Transfer.{Transfer}
use Rattle.vub_task.specs.declared.task.Work.{Work}
use Rattle.vub_task.specs.declared.task.Work.TheVariants as work

-- the sectors of a transfer
abbrev pub sectors_span : Transfer → Span
sectors_span t = record { space = t.span.space; place = t.span.place; len = 512 * t.count }

-- those of its work, once its chain is read: where the sectors of a read go, and its status
abbrev pub spans_written : Work → List Span
spans_written work.Begin = []
spans_written (work.Look t) = t.answer.span ∷ sectors_span t ∷ []
spans_written (work.Store t) = t.answer.span ∷ sectors_span t ∷ []
spans_written (work.Act t) = t.answer.span ∷ []
spans_written (work.Sync a) = a.span ∷ []
spans_written (work.Reply a) = a.span ∷ []

-- those that the parts of its chain let the device write
abbrev pub sectors_written : Option Sectors → List Span
sectors_written None = []
sectors_written (Some x) = if x.writable then x.span ∷ [] else []

abbrev pub parts_written : Parts → List Span
parts_written p = p.status ∷ sectors_written p.sectors
