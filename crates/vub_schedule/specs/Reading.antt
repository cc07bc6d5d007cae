-- Reading a line from left to right: each word answers what it read and what follows.
use Rattle.std.specs.Prelude.{◌≡◌, ℕ, zero, suc, ◌+◌, ◌*◌, ◌-◌, List, [], ◌∷◌, ◌++◌, length, take, drop, codes, Option, Some, None, option_and_then, nat_lt, nat_le, nat_eq, ◌==◌, ◌&&◌, ◌||◌, not, Bool, slice_index, if◌then◌else◌}
use Rattle.std.specs.List.{take_while}
use Rattle.std.specs.Option.{option_or}
use Rattle.std.specs.Borrow.{Bor}
use Rattle.std.specs.Char.{is_ascii_digit}
use Rattle.std.specs.Int.{is_in_range}
use Rattle.std.specs.Str.Parse.{digits_value}
use Rattle.std.specs.Cmp.Lexicographic.{pointwise}
use Rattle.arrayvec.specs.ArrayVec.{ArrayVec}
use Rattle.vub_base.specs.declared.header.Format.TheVariants.{Split}
use Rattle.vub_base.specs.declared.header.CacheMode.TheVariants.{Back}
use Rattle.vub_base.specs.declared.header.Header1.{Header1}
use Rattle.vub_base.specs.declared.request.Shape.TheVariants.{Direct}
use Rattle.vub_base.specs.declared.request.Ask.{Ask}
use Rattle.vub_base.specs.declared.request.Ask.TheVariants.{Read, Write, Flush}
use Rattle.vub_schedule.specs.declared.types.Event.{Event}
use Rattle.vub_schedule.specs.declared.types.Event.TheVariants as events
use Rattle.vub_schedule.specs.Spelling.{is_size}

infixl 10 ◌>>=◌
abbrev pub ◌>>=◌ : {A B : Type 0} → Option A → (A → Option B) → Option B
o >>= f = option_and_then f o

-- what a reader of the code answers, its rest seen as a list
abbrev pub Reads : {A : Type 0} → Option (A × Bor (List ℕ)) → Option (A × List ℕ) → Type 0
Reads None read = read ≡ None
Reads (Some x) read = read ≡ Some (x.0, x.1.now)

-- the first that is there decides
abbrev pub decide : {A B : Type 0} → Option A → (A → Option B) → Option B → Option B
decide None f other = other
decide (Some x) f other = f x

-- ---- words and numbers

-- what follows the text at the front
unfoldable pub tag : List ℕ → List ℕ → Option (List ℕ)
tag text bytes = if pointwise nat_eq (take (length text) bytes) text then Some (drop (length text) bytes) else None

-- no digits but a 0 alone begin with 0
abbrev pub is_canonical : List ℕ → Bool
is_canonical ds = nat_lt 0 (length ds) && (not (slice_index ds 0 == 48) || (length ds == 1))

-- the number at the front, below a limit
unfoldable pub number_at : ℕ → List ℕ → Option (ℕ × List ℕ)
number_at limit bytes =
    let ds = take_while is_ascii_digit bytes in
    if is_canonical ds && nat_lt (digits_value 10 ds) limit then Some (digits_value 10 ds, drop (length ds) bytes) else None

-- the value of a lower-case hexadecimal digit
abbrev pub hex_value : ℕ → Option ℕ
hex_value c = if is_in_range 48 57 c then Some (c - 48) else (if is_in_range 97 102 c then Some (10 + (c - 97)) else None)

-- the byte of the two digits at the front
unfoldable pub pair_at : List ℕ → Option (ℕ × List ℕ)
pair_at [] = None
pair_at (a ∷ []) = None
pair_at (a ∷ b ∷ rest) = do
  x ← hex_value a
  y ← hex_value b
  Some (16 * x + y, rest)

-- the number from 1 to the most at the front
unfoldable pub count_at : ℕ → List ℕ → Option (ℕ × List ℕ)
count_at most bytes = do
  count ← number_at (most + 1) bytes
  if nat_lt 0 count.0 then Some count else None

-- ---- requests

-- a read that ends by the end of the disk
abbrev pub as_read : ℕ → ℕ → ℕ × List ℕ → Option (Ask × List ℕ)
as_read capacity sector count = if nat_le (sector + count.0) capacity then Some (Read sector count.0, count.1) else None

-- behind the word: a sector below the capacity, and the count of sectors
unfoldable pub read_at : ℕ → List ℕ → Option (Ask × List ℕ)
read_at capacity bytes = do
  sector ← number_at capacity bytes
  rest ← tag (codes " ") sector.1
  count ← count_at 8 rest
  as_read capacity sector.0 count

-- behind the bytes that are read already: a comma and a byte again and again, as long as so many more may come
unfoldable pub more_fills : ℕ → List ℕ → List ℕ → Option (ArrayVec ℕ × List ℕ)
more_fills zero fills bytes = Some (record { items = fills }, bytes)
more_fills (suc more) fills bytes =
    decide (tag (codes ",") bytes) (λ rest. pair_at rest >>= λ fill. more_fills more (fills ++ fill.0 ∷ []) fill.1) (Some (record { items = fills }, bytes))

-- one to eight bytes, with a comma between them
unfoldable pub fills_at : List ℕ → Option (ArrayVec ℕ × List ℕ)
fills_at bytes = do
  fill ← pair_at bytes
  more_fills 7 (fill.0 ∷ []) fill.1

-- a write that ends by the end of the disk
abbrev pub as_write : ℕ → ℕ → ArrayVec ℕ × List ℕ → Option (Ask × List ℕ)
as_write capacity sector fills = if nat_le (sector + length fills.0.items) capacity then Some (Write sector fills.0, fills.1) else None

-- behind the word: a sector below the capacity, and the bytes that fill the sectors
unfoldable pub write_at : ℕ → List ℕ → Option (Ask × List ℕ)
write_at capacity bytes = do
  sector ← number_at capacity bytes
  rest ← tag (codes " ") sector.1
  fills ← fills_at rest
  as_write capacity sector.0 fills

-- a flush, and what follows it
abbrev pub as_flush : List ℕ → Option (Ask × List ℕ)
as_flush rest = Some (Flush, rest)

-- a request on a disk of that capacity
unfoldable pub ask_at : ℕ → List ℕ → Option (Ask × List ℕ)
ask_at capacity bytes =
    decide (tag (codes "write ") bytes) (write_at capacity)
    (decide (tag (codes "read ") bytes) (read_at capacity)
    (tag (codes "flush") bytes >>= as_flush))

-- ---- events

-- an event, and what follows it
abbrev pub as_event : Event → List ℕ → Option (Event × List ℕ)
as_event e rest = Some (e, rest)

-- the event that has this number
abbrev pub with_number : (ℕ → Event) → ℕ × List ℕ → Option (Event × List ℕ)
with_number event number = Some (event number.0, number.1)

-- the event of this request
abbrev pub with_ask : Ask × List ℕ → Option (Event × List ℕ)
with_ask ask = Some (events.Ask 0 Direct ask.0, ask.1)

-- a request, with its word
unfoldable pub asked_at : Header1 → List ℕ → Option (Event × List ℕ)
asked_at h bytes = do
  rest ← tag (codes "ask 0 d ") bytes
  ask ← ask_at h.capacity rest
  with_ask ask

-- an event that has a number more than that of its queue
unfoldable pub numbered_at : List ℕ → Option (Event × List ℕ)
numbered_at bytes =
    decide (tag (codes "guest 0 ") bytes) (λ rest. count_at 65535 rest >>= with_number (events.Guest 0))
    (decide (tag (codes "work 0 ") bytes) (λ rest. number_at 64 rest >>= with_number (events.Work 0))
    (decide (tag (codes "publish 0 ") bytes) (λ rest. count_at 64 rest >>= with_number (events.Publish 0))
    (tag (codes "turn 0 ") bytes >>= λ rest. count_at 65535 rest >>= with_number (events.Turn 0))))

-- an event that is always the same text
unfoldable pub word_at : List ℕ → Option (Event × List ℕ)
word_at bytes =
    decide (tag (codes "start 0") bytes) (as_event (events.Start 0))
    (decide (tag (codes "fetch 0") bytes) (as_event (events.Fetch 0))
    (decide (tag (codes "drain 0") bytes) (as_event (events.Drain 0))
    (decide (tag (codes "collect 0") bytes) (as_event (events.Collect 0))
    (decide (tag (codes "boot") bytes) (as_event events.Boot)
    (decide (tag (codes "join") bytes) (as_event events.Join)
    (tag (codes "kill") bytes >>= as_event events.Kill))))))

-- an event, up to the end of its line
unfoldable pub event_text_at : Header1 → List ℕ → Option (Event × List ℕ)
event_text_at h bytes = option_or (asked_at h bytes) (option_or (numbered_at bytes) (word_at bytes))

-- a whole line
unfoldable pub event_at : Header1 → List ℕ → Option (Event × List ℕ)
event_at h bytes = do
  event ← event_text_at h bytes
  rest ← tag (10 ∷ []) event.1
  Some (event.0, rest)

-- ---- the first line

-- the header of the grammar with this size, capacity and base
abbrev pub plain_header : ℕ → ℕ → ℕ → Header1
plain_header size capacity base = record { format = Split; queues = 1; size = size; capacity = capacity; base = base; mode = Back }

-- where they are of the grammar
unfoldable pub header_of : ℕ → ℕ → ℕ → Option Header1
header_of size capacity base = if is_size size && nat_le 1 capacity then Some (plain_header size capacity base) else None

abbrev pub with_header : Header1 → List ℕ → Option (Header1 × List ℕ)
with_header h rest = Some (h, rest)

-- behind the base
abbrev pub back_at : ℕ → ℕ → ℕ × List ℕ → Option (Header1 × List ℕ)
back_at size capacity base = do
  rest ← tag (codes " back" ++ 10 ∷ []) base.1
  header ← header_of size capacity base.0
  with_header header rest

-- behind the capacity
unfoldable pub base_at : ℕ → ℕ → List ℕ → Option (Header1 × List ℕ)
base_at size capacity bytes = do
  middle ← tag (codes " ") bytes
  base ← number_at 65536 middle
  back_at size capacity base

abbrev pub capacity_at : ℕ → ℕ × List ℕ → Option (Header1 × List ℕ)
capacity_at size capacity = base_at size capacity.0 capacity.1

-- behind the size
abbrev pub middle_at : ℕ × List ℕ → Option (Header1 × List ℕ)
middle_at size = do
  middle ← tag (codes " ") size.1
  capacity ← number_at 4097 middle
  capacity_at size.0 capacity

-- the first line
unfoldable pub header_at : List ℕ → Option (Header1 × List ℕ)
header_at bytes = do
  front ← tag (codes "vub 1 split 1 ") bytes
  size ← number_at 65 front
  middle_at size
