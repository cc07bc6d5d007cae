-- The text of a schedule, and which schedules are of the grammar.
use Rattle.std.specs.Prelude.{◌≡◌, ℕ, ◌+◌, ◌<◌, ◌≤◌, ◌/◌, ◌%◌, true, false, Bool, ◌==◌, ◌||◌, List, [], ◌∷◌, ◌++◌, length, codes}
use Rattle.std.specs.List.{flat_map, AllByRecursion}
use Rattle.std.specs.Fmt.{decimal, digit_glyph}
use Rattle.vub_base.specs.declared.header.Format.{Format}
use Rattle.vub_base.specs.declared.header.Format.TheVariants.{Split, Packed}
use Rattle.vub_base.specs.declared.header.CacheMode.{CacheMode}
use Rattle.vub_base.specs.declared.header.CacheMode.TheVariants.{Back, Through, ReadOnly}
use Rattle.vub_base.specs.declared.header.Header1.{Header1}
use Rattle.vub_base.specs.declared.request.Shape.{Shape}
use Rattle.vub_base.specs.declared.request.Shape.TheVariants.{Direct, Indirect}
use Rattle.vub_base.specs.declared.request.Part.{Part}
use Rattle.vub_base.specs.declared.request.Ask.{Ask}
use Rattle.vub_base.specs.declared.request.Ask.TheVariants.{Read, Write, Flush, Id, Discard, Zero}
use Rattle.vub_schedule.specs.declared.types.Event.{Event}
use Rattle.vub_schedule.specs.declared.types.Event.TheVariants as events
use Rattle.vub_schedule.specs.declared.types.Schedule.{Schedule}

-- ---- lines and lists

-- a line ends with a newline
abbrev pub line : List ℕ → List ℕ
line text = text ++ 10 ∷ []

-- the texts of some items, with a comma between them
abbrev pub commas : {A : Type 0} → (A → List ℕ) → List A → List ℕ
commas text [] = []
commas text (x ∷ xs) = text x ++ flat_map (λ y. 44 ∷ text y) xs

-- a byte is two lower-case hexadecimal digits
abbrev pub hex_pair : ℕ → List ℕ
hex_pair b = digit_glyph false (b / 16) ∷ digit_glyph false (b % 16) ∷ []

-- ---- the first line

abbrev pub format_text : Format → List ℕ
format_text Split = codes "split"
format_text Packed = codes "packed"

abbrev pub mode_text : CacheMode → List ℕ
mode_text Back = codes "back"
mode_text Through = codes "through"
mode_text ReadOnly = codes "ro"

-- queues, size, capacity and base
abbrev pub header_numbers : Header1 → List ℕ
header_numbers h = decimal h.queues ++ codes " " ++ decimal h.size ++ codes " " ++ decimal h.capacity ++ codes " " ++ decimal h.base

-- the words of a header: format, numbers and mode
unfoldable pub header_text : Header1 → List ℕ
header_text h = format_text h.format ++ codes " " ++ header_numbers h ++ codes " " ++ mode_text h.mode

unfoldable pub header_line : Header1 → List ℕ
header_line h = codes "vub 1 " ++ line (header_text h)

-- ---- requests

abbrev pub shape_text : Shape → List ℕ
shape_text Direct = codes "d"
shape_text Indirect = codes "i"

-- sector, count and flags
abbrev pub part_text : Part → List ℕ
part_text p = decimal p.sector ++ codes ":" ++ decimal p.count ++ codes ":" ++ decimal p.flags

-- a request: its word, and then its sector and count, the bytes that fill its sectors, or its parts
unfoldable pub ask_text : Ask → List ℕ
ask_text (Read s n) = codes "read " ++ decimal s ++ codes " " ++ decimal n
ask_text (Write s fills) = codes "write " ++ decimal s ++ codes " " ++ commas hex_pair fills.items
ask_text Flush = codes "flush"
ask_text Id = codes "id"
ask_text (Discard parts) = codes "discard " ++ commas part_text parts.items
ask_text (Zero parts) = codes "zero " ++ commas part_text parts.items

-- ---- events

-- an event: its word, and then its numbers and words
unfoldable pub event_text : Event → List ℕ
event_text (events.Ask q shape ask) = codes "ask " ++ decimal q ++ codes " " ++ shape_text shape ++ codes " " ++ ask_text ask
event_text (events.Guest q k) = codes "guest " ++ decimal q ++ codes " " ++ decimal k
event_text (events.Collect q) = codes "collect " ++ decimal q
event_text events.Boot = codes "boot"
event_text events.Join = codes "join"
event_text (events.Start q) = codes "start " ++ decimal q
event_text (events.Fetch q) = codes "fetch " ++ decimal q
event_text (events.Work q j) = codes "work " ++ decimal q ++ codes " " ++ decimal j
event_text (events.Publish q m) = codes "publish " ++ decimal q ++ codes " " ++ decimal m
event_text (events.Turn q k) = codes "turn " ++ decimal q ++ codes " " ++ decimal k
event_text (events.Drain q) = codes "drain " ++ decimal q
event_text events.Kill = codes "kill"

unfoldable pub event_line : Event → List ℕ
event_line e = line (event_text e)

-- the whole text: the header's line, and then a line for each event
unfoldable pub spelling : Schedule → List ℕ
spelling s = header_line s.header ++ flat_map event_line s.events

-- ---- which schedules are of the grammar

-- a queue has 2, 4, 8, 16, 32 or 64 places
abbrev pub is_size : ℕ → Bool
is_size n = (n == 2) || (n == 4) || (n == 8) || (n == 16) || (n == 32) || (n == 64)

-- one split queue that begins at any index, and a disk of 1 to 4096 sectors whose writes may be cached
pub record IsHeader (h : Header1) : Type 0 where
  pub split : h.format ≡ Split
  pub one : h.queues ≡ 1
  pub sized : is_size h.size ≡ true
  pub some : 1 ≤ h.capacity
  pub few : h.capacity ≤ 4096
  pub begins : h.base < 65536
  pub back : h.mode ≡ Back

-- reads and writes of one to eight sectors up to the end of the disk, and flushes
abbrev pub IsAsk : Header1 → Ask → Type 0
IsAsk h (Read s n) = (s + n ≤ h.capacity) × (1 ≤ n) × (n ≤ 8)
IsAsk h (Write s fills) = (s + length fills.items ≤ h.capacity) × (1 ≤ length fills.items) × (length fills.items ≤ 8) × AllByRecursion (λ b. b < 256) fills.items
IsAsk h Flush = Unit {0}
IsAsk h Id = ⊥
IsAsk h (Discard parts) = ⊥
IsAsk h (Zero parts) = ⊥

-- on queue 0, with requests placed in the ring: 1 to 65535 stores of the driver, work in the places 0 to 63, batches of
-- 1 to 64, and 1 to 65535 turns
abbrev pub IsEvent : Header1 → Event → Type 0
IsEvent h (events.Ask q shape ask) = (q ≡ 0) × (shape ≡ Direct) × IsAsk h ask
IsEvent h (events.Guest q k) = (q ≡ 0) × (1 ≤ k) × (k < 65536)
IsEvent h (events.Collect q) = q ≡ 0
IsEvent h events.Boot = Unit {0}
IsEvent h events.Join = Unit {0}
IsEvent h (events.Start q) = q ≡ 0
IsEvent h (events.Fetch q) = q ≡ 0
IsEvent h (events.Work q j) = (q ≡ 0) × (j < 64)
IsEvent h (events.Publish q m) = (q ≡ 0) × (1 ≤ m) × (m ≤ 64)
IsEvent h (events.Turn q k) = (q ≡ 0) × (1 ≤ k) × (k < 65536)
IsEvent h (events.Drain q) = q ≡ 0
IsEvent h events.Kill = Unit {0}

-- its header and each of its events are of the grammar
pub record IsSchedule (s : Schedule) : Type 0 where
  pub header : IsHeader s.header
  pub events : AllByRecursion (IsEvent s.header) s.events

-- the bytes are the text of a schedule of the grammar
abbrev pub IsText : List ℕ → Type 0
IsText bytes = (s : Schedule) × IsSchedule s × (bytes ≡ spelling s)
