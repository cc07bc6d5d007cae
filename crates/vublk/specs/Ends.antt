-- How a command on a schedule may end, and what it has read and written by then.
use Rattle.std.specs.Prelude.{◌≡◌, ℕ, ◌≤◌, List, [], ◌∷◌, ◌++◌, length, take, codes, Option, ◌⊎◌}
use Rattle.std.specs.Fmt.{decimal}
use Rattle.vub_schedule.specs.declared.types.Schedule.{Schedule}
use Rattle.vub_schedule.specs.Spelling.{IsSchedule, spelling}
use Rattle.vub_schedule.specs.Faults.{IsFirstBad}
use Rattle.vub_report.specs.declared.items.Record.{Record}
use Rattle.vublk.specs.Flows.{TookAll, Wrote, WrotePart, IsPastLimit, input_limit}
use Rattle.vub_run.specs.LegalRuns.{IsLegalRun, EveryDrainServes}
use Rattle.vublk.specs.Records.{written}
use Rattle.vublk.specs.declared.words.Command.{Command}
use Rattle.vublk.specs.declared.replay.End.{End}
use Rattle.vublk.specs.declared.replay.End.TheVariants.{Done, Memory, ReadFault, WriteFault, BadLine, TooLong}

abbrev pub bad_line_text : ℕ → List ℕ
bad_line_text n = codes "bad line " ++ decimal n ++ 10 ∷ []

-- ---- what a schedule prints

-- what the command writes of a legal run of all events, in which each drain of an attached queue serves it
abbrev pub PrintsAll : Command → Schedule → Option (List ℕ) → Option (List ℕ) → Type 0
PrintsAll c s old new = (records : List Record) × IsLegalRun s.header s.events records × EveryDrainServes records × Wrote old new (written c s.header records)

-- the same of a run of the first events
abbrev pub PrintsSome : Command → Schedule → Option (List ℕ) → Option (List ℕ) → Type 0
PrintsSome c s old new = (n : ℕ) × (records : List Record) × IsLegalRun s.header (take n s.events) records × EveryDrainServes records × Wrote old new (written c s.header records)

-- a front of such a text
abbrev pub PrintsPart : Command → Schedule → Option (List ℕ) → Option (List ℕ) → Type 0
PrintsPart c s old new = (n : ℕ) × (records : List Record) × IsLegalRun s.header (take n s.events) records × EveryDrainServes records × WrotePart old new (written c s.header records)

-- at each end of a schedule's run
abbrev pub Prints : Command → Schedule → Option (List ℕ) → Option (List ℕ) → End → Type 0
Prints c s old new Done = PrintsAll c s old new
Prints c s old new Memory = (new ≡ old) ⊎ PrintsSome c s old new
Prints c s old new WriteFault = PrintsPart c s old new
Prints c s old new ReadFault = ⊥
Prints c s old new (BadLine n) = ⊥
Prints c s old new TooLong = ⊥

-- the ends of printing a bad line
abbrev pub IsBadEnd : ℕ → End → Type 0
IsBadEnd n (BadLine m) = m ≡ n
IsBadEnd n Memory = Unit {0}
IsBadEnd n WriteFault = Unit {0}
IsBadEnd n Done = ⊥
IsBadEnd n ReadFault = ⊥
IsBadEnd n TooLong = ⊥

-- ---- what a text prints

-- the text is that of a schedule, and this is so of it
abbrev pub Spelled : List ℕ → (Schedule → Type 0) → Type 0
Spelled text P = (s : Schedule) × IsSchedule s × (text ≡ spelling s) × P s

-- line n is the first that is bad, and this is so of the text that says so
abbrev pub Bad : List ℕ → ℕ → (List ℕ → Type 0) → Type 0
Bad text n P = IsFirstBad text n × P (bad_line_text n)

-- at each end of the command on a text
abbrev pub PlaysText : Command → List ℕ → Option (List ℕ) → Option (List ℕ) → End → Type 0
PlaysText c text old new Done = Spelled text (λ s. PrintsAll c s old new)
PlaysText c text old new Memory = (new ≡ old) ⊎ Spelled text (λ s. PrintsSome c s old new)
PlaysText c text old new WriteFault = Spelled text (λ s. PrintsPart c s old new) ⊎ ((n : ℕ) × Bad text n (WrotePart old new))
PlaysText c text old new (BadLine n) = Bad text n (Wrote old new)
PlaysText c text old new ReadFault = ⊥
PlaysText c text old new TooLong = ⊥

-- ---- what a source gives

-- the whole input, no longer than it may be, was read, and this is so of it
abbrev pub ReadWhole : Option (List ℕ) → Option (List ℕ) → (List ℕ → Type 0) → Type 0
ReadWhole left after P = (text : List ℕ) × TookAll left after text × (length text ≤ input_limit) × P text

-- at each end of the command: what was left before and is left after, and what the sink held and holds
abbrev pub Replays : Command → Option (List ℕ) → Option (List ℕ) → Option (List ℕ) → Option (List ℕ) → End → Type 0
Replays c left after old new Done = ReadWhole left after (λ text. PlaysText c text old new Done)
Replays c left after old new Memory = (new ≡ old) ⊎ ReadWhole left after (λ text. PlaysText c text old new Memory)
Replays c left after old new ReadFault = new ≡ old
Replays c left after old new WriteFault = ReadWhole left after (λ text. PlaysText c text old new WriteFault)
Replays c left after old new (BadLine n) = ReadWhole left after (λ text. PlaysText c text old new (BadLine n))
Replays c left after old new TooLong = (new ≡ old) × IsPastLimit left

abbrev pub status_of : End → ℕ
status_of Done = 0
status_of Memory = 3
status_of ReadFault = 4
status_of WriteFault = 5
status_of (BadLine n) = 6
status_of TooLong = 10
