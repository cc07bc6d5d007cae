-- The data of a request: one descriptor between header and status.
use Rattle.std.specs.Prelude.{ℕ, ◌*◌, Bool, true, false, List, length, unwrap_or, Option}
use Rattle.vub_base.specs.declared.request.Ask.{Ask}
use Rattle.vub_base.specs.declared.request.Ask.TheVariants.{Read, Id}
use Rattle.vub_driver.specs.GuestChain.{next_flag}
use Rattle.vub_driver.specs.Requests.{Piece, written_bytes, data_place, descriptor_bytes}

-- whether the device writes the data
abbrev pub is_read : Ask → Bool
is_read (Read s n) = true
is_read Id = true
is_read ask = false

abbrev pub data_len : Ask → ℕ
data_len (Read s n) = 512 * n
data_len Id = 20
data_len ask = length (written_bytes ask)

-- the data of a request whose buffer begins there
abbrev pub data_piece : ℕ → Ask → Piece
data_piece buffer ask = record { place = data_place buffer ask; len = data_len ask; writable = is_read ask }

-- a descriptor as it stands in the table, with the next one if another one follows
unfoldable pub table_entry : Piece → Option ℕ → List ℕ
table_entry p next = descriptor_bytes p (next_flag next) (unwrap_or next 0)
