-- A write and a read of sector 0, as schedules and as their records: a queue of four places, a disk of eight sectors.
use Rattle.std.specs.Prelude.{ℕ, List, [], ◌∷◌, ◌++◌, replicate}
use Rattle.vub_base.specs.declared.header.Header1.{Header1}
use Rattle.vub_base.specs.declared.header.Format.TheVariants.{Split}
use Rattle.vub_base.specs.declared.header.CacheMode.TheVariants.{Back}
use Rattle.vub_base.specs.declared.request.Ask.{Ask}
use Rattle.vub_base.specs.declared.request.Ask.TheVariants as asks
use Rattle.vub_base.specs.declared.request.Shape.TheVariants.{Direct}
use Rattle.vub_base.specs.declared.store.Tag.TheVariants.{G, T2, T5, SI1, SI2, SI3, SF1, SF2, SP1, SP2, SP3, SP4, SP5, SP6, SP7}
use Rattle.vub_base.specs.declared.store.Area.TheVariants.{M, I}
use Rattle.vub_device.specs.declared.entry.Asked.TheVariants as requests
use Rattle.vub_device.specs.declared.entry.Answered.{Answered}
use Rattle.vub_device.specs.declared.entry.Entry.TheVariants as entries
use Rattle.vub_schedule.specs.declared.types.Event.{Event}
use Rattle.vub_schedule.specs.declared.types.Event.TheVariants as events
use Rattle.vub_schedule.specs.declared.types.Schedule.{Schedule}
use Rattle.vub_report.specs.declared.items.Item.{Item}
use Rattle.vub_report.specs.declared.items.Item.TheVariants as items
use Rattle.vub_report.specs.declared.items.Record.{Record}

abbrev pub header : Header1
header = record { format = Split; queues = 1; size = 4; capacity = 8; base = 0; mode = Back }

-- sector 0 filled with 0xaa
abbrev pub write : Ask
write = asks.Write 0 (record { items = 170 ∷ [] })

abbrev pub read : Ask
read = asks.Read 0 1

abbrev pub sector : List ℕ
sector = replicate 512 170

abbrev pub zero_sector : List ℕ
zero_sector = replicate 512 0

abbrev pub answer : ℕ → List ℕ → Answered
answer number read_bytes = record { number = number; status = 0; bytes = read_bytes }

abbrev pub of : Event → List Item → Record
of event is = record { event = event; items = is }

-- the three descriptors, of which the second has these flags
abbrev pub descriptors : ℕ → List Item
descriptors flags =
    items.Store G M 0 (0 ∷ 0 ∷ 1 ∷ 0 ∷ 0 ∷ 0 ∷ 0 ∷ 0 ∷ 16 ∷ 0 ∷ 0 ∷ 0 ∷ 1 ∷ 0 ∷ 1 ∷ 0 ∷ [])
    ∷ items.Store G M 16 (0 ∷ 16 ∷ 1 ∷ 0 ∷ 0 ∷ 0 ∷ 0 ∷ 0 ∷ 0 ∷ 2 ∷ 0 ∷ 0 ∷ flags ∷ 0 ∷ 2 ∷ 0 ∷ [])
    ∷ items.Store G M 32 (16 ∷ 0 ∷ 1 ∷ 0 ∷ 0 ∷ 0 ∷ 0 ∷ 0 ∷ 1 ∷ 0 ∷ 0 ∷ 0 ∷ 2 ∷ 0 ∷ 0 ∷ 0 ∷ [])
    ∷ []

abbrev pub write_offered : List Item
write_offered =
    items.Store G M 65536 (1 ∷ replicate 15 0)
    ∷ items.Store G M 69632 sector
    ∷ items.Store G M 65552 (255 ∷ [])
    ∷ (descriptors 1
    ++ items.Store G M 4100 (0 ∷ 0 ∷ [])
    ∷ items.Store G M 4098 (1 ∷ 0 ∷ [])
    ∷ items.Made (entries.Offer 0 (requests.Write 0 sector))
    ∷ [])

-- a start: features, an entry for each descriptor, version, number of descriptors and used.idx, and a bell
abbrev pub started : List Item
started =
    items.Store SI1 I 0 (replicate 8 0)
    ∷ items.Store SI2 I 16 (0 ∷ [])
    ∷ items.Store SI2 I 32 (0 ∷ [])
    ∷ items.Store SI2 I 48 (0 ∷ [])
    ∷ items.Store SI2 I 64 (0 ∷ [])
    ∷ items.Store SI3 I 8 (1 ∷ 0 ∷ 4 ∷ 0 ∷ 0 ∷ 0 ∷ 0 ∷ 0 ∷ [])
    ∷ items.Bell 0
    ∷ items.Made (entries.Start 0 [])
    ∷ []

-- a fetch: the counter of the entry, and that it is in flight
abbrev pub fetched : List Item
fetched =
    items.Store SF1 I 24 (replicate 8 0)
    ∷ items.Store SF2 I 16 (1 ∷ [])
    ∷ items.Made (entries.Accept 0 0)
    ∷ []

-- a publication: the element with this length, the link and the head of the batch, used.idx, the entry, used_idx, and a bell
abbrev pub published : ℕ → List ℕ → List Item
published written read_bytes =
    items.Store SP1 M 8196 (0 ∷ 0 ∷ 0 ∷ 0 ∷ [])
    ∷ items.Store SP2 M 8200 (1 ∷ written ∷ 0 ∷ 0 ∷ [])
    ∷ items.Store SP3 I 22 (0 ∷ 0 ∷ [])
    ∷ items.Store SP4 I 12 (0 ∷ 0 ∷ [])
    ∷ items.Store SP5 M 8194 (1 ∷ 0 ∷ [])
    ∷ items.Made (entries.Publish 0 (answer 0 read_bytes ∷ []))
    ∷ items.Store SP6 I 16 (0 ∷ [])
    ∷ items.Store SP7 I 14 (1 ∷ 0 ∷ [])
    ∷ items.Bell 0
    ∷ []

abbrev pub write_served : List Item
write_served =
    started
    ++ (fetched
    ++ items.Made (entries.Act 0 0 0 sector)
    ∷ items.Store T5 M 65552 (0 ∷ [])
    ∷ published 0 [])

abbrev pub read_offered : List Item
read_offered =
    items.Store G M 65536 (replicate 16 0)
    ∷ items.Store G M 65552 (255 ∷ [])
    ∷ (descriptors 3
    ++ items.Store G M 4100 (0 ∷ 0 ∷ [])
    ∷ items.Store G M 4098 (1 ∷ 0 ∷ [])
    ∷ items.Made (entries.Offer 0 (requests.Read 0 1))
    ∷ [])

abbrev pub read_served : List Item
read_served =
    started
    ++ (fetched
    ++ items.Made (entries.Look 0 0 0 zero_sector)
    ∷ items.Store T2 M 69632 zero_sector
    ∷ items.Store T5 M 65552 (0 ∷ [])
    ∷ published 2 zero_sector)

-- a life, the request, its stores, a drain, and a collection
abbrev pub events_of : Ask → List Event
events_of a =
    events.Boot ∷ events.Join
    ∷ events.Ask 0 Direct a ∷ events.Guest 0 16 ∷ events.Drain 0 ∷ events.Collect 0
    ∷ []

abbrev pub records_of : Ask → List Item → List Item → List Record
records_of a offered served =
    of events.Boot []
    ∷ of events.Join []
    ∷ of (events.Ask 0 Direct a) []
    ∷ of (events.Guest 0 16) offered
    ∷ of (events.Drain 0) served
    ∷ of (events.Collect 0) (items.Made (entries.Collect 0 0) ∷ [])
    ∷ []

abbrev pub schedule_of : Ask → Schedule
schedule_of a = record { header = header; events = events_of a }

abbrev pub write_records : List Record
write_records = records_of write write_offered write_served

abbrev pub read_records : List Record
read_records = records_of read read_offered read_served
