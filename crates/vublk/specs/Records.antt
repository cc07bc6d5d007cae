-- What a command writes of a run.
use Rattle.std.specs.Prelude.{ℕ, List, []}
use Rattle.std.specs.List.{flat_map}
use Rattle.vub_base.specs.declared.header.Header1.{Header1}
use Rattle.vub_report.specs.declared.items.Record.{Record}
use Rattle.vub_report.specs.RecordText.{head_spelling, record_spelling, run_spelling, entries_spelling}
use Rattle.vub_report.specs.Histories.{entries_of, history_of}
use Rattle.vublk.specs.declared.words.Command.{Command}
use Rattle.vublk.specs.declared.words.Command.TheVariants.{Replay, Entries}

-- in all: the head line and the records, or the history
abbrev pub written : Command → Header1 → List Record → List ℕ
written Replay header records = run_spelling header records
written Entries header records = entries_spelling (history_of records)

-- before all records
abbrev pub head_of : Command → Header1 → List ℕ
head_of Replay header = head_spelling header
head_of Entries header = []

-- of one record
abbrev pub piece_of : Command → Record → List ℕ
piece_of Replay r = record_spelling r
piece_of Entries r = entries_spelling (entries_of r.items)

-- of records
abbrev pub records_text : Command → List Record → List ℕ
records_text Replay records = flat_map record_spelling records
records_text Entries records = entries_spelling (history_of records)
