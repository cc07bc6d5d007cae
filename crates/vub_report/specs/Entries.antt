-- Which entries there are: a history has no other.
use Rattle.std.specs.Prelude.{◌≡◌, ⊤, ◌≤◌, ◌%◌, length}
use Rattle.vub_device.specs.declared.entry.Asked.{Asked}
use Rattle.vub_device.specs.declared.entry.Asked.TheVariants.{Read, Write, Flush, Id, Discard, Zero}
use Rattle.vub_device.specs.declared.entry.Entry.{Entry}
use Rattle.vub_device.specs.declared.entry.Entry.TheVariants.{Offer, Accept, Look, Act, Sync, Fault, Publish, Kill, Start, Collect, Power}

-- a read has at least one sector, a write at least one and no part of one, and a discard or a zeroing one to four parts
abbrev pub IsRequest : Asked → Type 0
IsRequest (Read s n) = 1 ≤ n
IsRequest (Write s bytes) = (512 ≤ length bytes) × (length bytes % 512 ≡ 0)
IsRequest Flush = ⊤
IsRequest Id = ⊤
IsRequest (Discard parts) = (1 ≤ length parts.items) × (length parts.items ≤ 4)
IsRequest (Zero parts) = (1 ≤ length parts.items) × (length parts.items ≤ 4)

-- an offer is of such a request, and what is read or written of a sector is a whole one
abbrev pub IsEntry : Entry → Type 0
IsEntry (Offer q r) = IsRequest r
IsEntry (Look q k s v) = length v ≡ 512
IsEntry (Act q k s v) = length v ≡ 512
IsEntry (Accept q k) = ⊤
IsEntry (Sync q k) = ⊤
IsEntry (Fault q k) = ⊤
IsEntry (Publish q answers) = ⊤
IsEntry Kill = ⊤
IsEntry (Start q list) = ⊤
IsEntry (Collect q k) = ⊤
IsEntry (Power image) = ⊤
