-- A request in a table that one descriptor names (VIRTIO 1.2, 2.7.5.3), as its bytes stand in memory.
use Rattle.std.specs.List.{AllByRecursion}
use Rattle.std.specs.Prelude.{◌≡◌, ◌<◌, ℕ, ◌+◌, ◌*◌, List, [], ◌∷◌, ◌++◌, length}
use Rattle.byteorder.specs.Endian.{little_bytes}
use Rattle.vub_shared.specs.Bytes.{Bytes, bytes_from}
use Rattle.vub_driver.specs.Requests.{Piece, descriptor_bytes}
use Rattle.vub_chain_laws.specs.Made.{FitsFields}

-- the entries of a table from number i on, each linked to the one after it, the last one to none
abbrev pub table_bytes : ℕ → List Piece → List ℕ
table_bytes i [] = []
table_bytes i (p ∷ []) = descriptor_bytes p 0 0
table_bytes i (p ∷ q ∷ ps) = descriptor_bytes p 1 (i + 1) ++ table_bytes (i + 1) (q ∷ ps)

-- the descriptor that names a table of so many entries: INDIRECT alone
abbrev pub naming_bytes : ℕ → ℕ → List ℕ
naming_bytes place count = little_bytes 8 place ++ (little_bytes 4 (16 * count) ++ (little_bytes 2 4 ++ little_bytes 2 0))

-- these bytes stand from that place on
abbrev pub StandAt : Bytes → ℕ → ℕ → List ℕ → Type 0
StandAt m space place bytes = bytes_from (length bytes) m space place ≡ bytes

-- so few pieces that each entry's number is one of 16 bits, and each fits its fields
pub record FitsTable (ps : List Piece) : Type 0 where
  pub few : length ps < 65536
  pub fit : AllByRecursion FitsFields ps
