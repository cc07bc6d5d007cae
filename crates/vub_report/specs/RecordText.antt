-- How records are spelled.
use Rattle.std.specs.Prelude.{ℕ, zero, suc, ◌+◌, ◌*◌, ◌/◌, length, slice_range, false, ◌==◌, nat_le, if◌then◌else◌, List, [], ◌∷◌, ◌++◌, codes, replicate}
use Rattle.std.specs.List.{flat_map}
use Rattle.std.specs.Fmt.{decimal, digits}
use Rattle.vub_base.specs.declared.header.Header1.{Header1}
use Rattle.vub_base.specs.declared.store.Tag.{Tag}
use Rattle.vub_base.specs.declared.store.Tag.TheVariants as tags
use Rattle.vub_base.specs.declared.store.Area.{Area}
use Rattle.vub_base.specs.declared.store.Area.TheVariants.{M, I}
use Rattle.vub_device.specs.declared.entry.Asked.{Asked}
use Rattle.vub_device.specs.declared.entry.Asked.TheVariants as asked
use Rattle.vub_device.specs.declared.entry.Answered.{Answered}
use Rattle.vub_device.specs.declared.entry.SectorValue.{SectorValue}
use Rattle.vub_device.specs.declared.entry.Entry.{Entry}
use Rattle.vub_device.specs.declared.entry.Entry.TheVariants as entries
use Rattle.vub_schedule.specs.Spelling.{line, hex_pair, commas, part_text, event_line, header_text}
use Rattle.vub_report.specs.declared.items.Item.{Item}
use Rattle.vub_report.specs.declared.items.Item.TheVariants.{Store, Made, Bell, Idle}
use Rattle.vub_report.specs.declared.items.Record.{Record}

-- ---- bytes

-- n bytes b: in pairs, or from 16 on as the pair, a star and the number
abbrev pub repeated_text : ℕ → ℕ → List ℕ
repeated_text b n = if nat_le 16 n then hex_pair b ++ 42 ∷ decimal n else flat_map hex_pair (replicate n b)

-- after the number of a run a plus stands before what follows
abbrev pub joint_text : ℕ → List ℕ → List ℕ
joint_text n [] = []
joint_text n (x ∷ xs) = if nat_le 16 n then 43 ∷ [] else []

-- n bytes b, and then these
abbrev pub text_after : ℕ → ℕ → List ℕ → List ℕ
text_after b n [] = repeated_text b n
text_after b n (x ∷ xs) = if x == b then text_after b (n + 1) xs else repeated_text b n ++ (joint_text n (x ∷ xs) ++ text_after x 1 xs)

-- the bytes of a store or a sector
unfoldable pub bytes_text : List ℕ → List ℕ
bytes_text [] = []
bytes_text (b ∷ bytes) = text_after b 1 bytes

-- ---- words

abbrev pub tag_text : Tag → List ℕ
tag_text tags.G = codes "G"
tag_text tags.K = codes "K"
tag_text tags.SI1 = codes "SI1"
tag_text tags.SI2 = codes "SI2"
tag_text tags.SI3 = codes "SI3"
tag_text tags.SF1 = codes "SF1"
tag_text tags.SF2 = codes "SF2"
tag_text tags.SP1 = codes "SP1"
tag_text tags.SP2 = codes "SP2"
tag_text tags.SP3 = codes "SP3"
tag_text tags.SP4 = codes "SP4"
tag_text tags.SP5 = codes "SP5"
tag_text tags.SP6 = codes "SP6"
tag_text tags.SP7 = codes "SP7"
tag_text tags.SR1 = codes "SR1"
tag_text tags.SR2 = codes "SR2"
tag_text tags.PI1 = codes "PI1"
tag_text tags.PI2 = codes "PI2"
tag_text tags.PI3 = codes "PI3"
tag_text tags.PI4 = codes "PI4"
tag_text tags.PI5 = codes "PI5"
tag_text tags.PF1 = codes "PF1"
tag_text tags.PF2 = codes "PF2"
tag_text tags.PF3 = codes "PF3"
tag_text tags.PF4 = codes "PF4"
tag_text tags.PF5 = codes "PF5"
tag_text tags.PF6 = codes "PF6"
tag_text tags.PF7 = codes "PF7"
tag_text tags.PF8 = codes "PF8"
tag_text tags.PF9 = codes "PF9"
tag_text tags.PP1 = codes "PP1"
tag_text tags.PP2 = codes "PP2"
tag_text tags.PP3 = codes "PP3"
tag_text tags.PP4 = codes "PP4"
tag_text tags.PP5 = codes "PP5"
tag_text tags.PP6 = codes "PP6"
tag_text tags.PP7 = codes "PP7"
tag_text tags.PP8 = codes "PP8"
tag_text tags.PP9 = codes "PP9"
tag_text tags.PR1 = codes "PR1"
tag_text tags.PR2 = codes "PR2"
tag_text tags.PR3 = codes "PR3"
tag_text tags.PR4 = codes "PR4"
tag_text tags.PR5 = codes "PR5"
tag_text tags.PR6 = codes "PR6"
tag_text tags.T2 = codes "T2"
tag_text tags.T5 = codes "T5"

abbrev pub area_text : Area → List ℕ
area_text M = codes "m"
area_text I = codes "i"

-- a place in lower-case hexadecimal digits without leading zeros
abbrev pub place_text : ℕ → List ℕ
place_text place = digits 16 false place

-- ---- lists

-- the texts with a mark before each
abbrev pub each_after : {X : Type 0} → ℕ → (X → List ℕ) → List X → List ℕ
each_after mark text xs = flat_map (λ x. mark ∷ text x) xs

-- the texts with commas between, or a dash where there is none
abbrev pub listed : {X : Type 0} → (X → List ℕ) → List X → List ℕ
listed text [] = codes "-"
listed text (x ∷ xs) = text x ++ each_after 44 text xs

-- ---- entries

-- what stands before the sector in this place
abbrev pub before_sector : ℕ → List ℕ
before_sector zero = []
before_sector (suc n) = codes ","

-- the first so many sectors of some bytes, with a comma between them
abbrev pub written_text : ℕ → List ℕ → List ℕ
written_text zero bytes = []
written_text (suc n) bytes = written_text n bytes ++ (before_sector n ++ bytes_text (slice_range bytes (512 * n) (512 * n + 512)))

-- a request: of a write stand the sectors
abbrev pub asked_text : Asked → List ℕ
asked_text (asked.Read s n) = codes "read " ++ decimal s ++ codes " " ++ decimal n
asked_text (asked.Write s bytes) = codes "write " ++ decimal s ++ codes " " ++ written_text (length bytes / 512) bytes
asked_text asked.Flush = codes "flush"
asked_text asked.Id = codes "id"
asked_text (asked.Discard parts) = codes "discard " ++ commas part_text parts.items
asked_text (asked.Zero parts) = codes "zero " ++ commas part_text parts.items

-- what was read stands after a colon, where it isn't empty
abbrev pub answer_bytes_text : List ℕ → List ℕ
answer_bytes_text [] = []
answer_bytes_text (b ∷ bytes) = 58 ∷ bytes_text (b ∷ bytes)

abbrev pub answered_text : Answered → List ℕ
answered_text a = decimal a.number ++ 58 ∷ (decimal a.status ++ answer_bytes_text a.bytes)

abbrev pub sector_text : SectorValue → List ℕ
sector_text s = decimal s.sector ++ 61 ∷ bytes_text s.value

-- a queue's number and what follows
abbrev pub at_queue : List ℕ → ℕ → List ℕ → List ℕ
at_queue word q rest = word ++ decimal q ++ 32 ∷ rest

abbrev pub entry_text : Entry → List ℕ
entry_text (entries.Offer q a) = at_queue (codes "offer ") q (asked_text a)
entry_text (entries.Accept q k) = at_queue (codes "accept ") q (decimal k)
entry_text (entries.Look q k s v) = at_queue (codes "look ") q (decimal k ++ 32 ∷ (decimal s ++ 32 ∷ bytes_text v))
entry_text (entries.Act q k s v) = at_queue (codes "act ") q (decimal k ++ 32 ∷ (decimal s ++ 32 ∷ bytes_text v))
entry_text (entries.Sync q k) = at_queue (codes "sync ") q (decimal k)
entry_text (entries.Fault q k) = at_queue (codes "fault ") q (decimal k)
entry_text (entries.Publish q answers) = at_queue (codes "publish ") q (listed answered_text answers)
entry_text entries.Kill = codes "kill"
entry_text (entries.Start q numbers) = at_queue (codes "start ") q (listed decimal numbers)
entry_text (entries.Collect q k) = at_queue (codes "collect ") q (decimal k)
entry_text (entries.Power sectors) = codes "power " ++ listed sector_text sectors

-- ---- histories

unfoldable pub entry_line : Entry → List ℕ
entry_line entry = line (entry_text entry)

-- entries, a line each
abbrev pub entries_spelling : List Entry → List ℕ
entries_spelling entries = flat_map entry_line entries

-- ---- records

abbrev pub item_text : Item → List ℕ
item_text (Store tag area place bytes) = codes ". " ++ tag_text tag ++ 32 ∷ (area_text area ++ 32 ∷ (place_text place ++ 32 ∷ bytes_text bytes))
item_text (Made entry) = codes "! " ++ entry_text entry
item_text (Bell q) = codes "+ bell " ++ decimal q
item_text Idle = codes "- idle"

unfoldable pub item_line : Item → List ℕ
item_line item = line (item_text item)

-- an event and its items
unfoldable pub record_spelling : Record → List ℕ
record_spelling r = codes "> " ++ event_line r.event ++ flat_map item_line r.items

-- the line before all records
unfoldable pub head_spelling : Header1 → List ℕ
head_spelling h = codes "record 1 " ++ line (header_text h)

-- a head line and records
abbrev pub run_spelling : Header1 → List Record → List ℕ
run_spelling h records = head_spelling h ++ flat_map record_spelling records
