-- Descriptors and where they stand (VIRTIO 1.2, 2.7.5, 2.7.5.3 and 2.8.7).
use Rattle.std.specs.Int.{bit_at}
use Rattle.std.specs.Prelude.{ℕ, zero, suc, ◌+◌, ◌*◌, Bool, ◌==◌, List, [], ◌∷◌}
use Rattle.vub_shared.specs.Bytes.{Bytes, word}
use Rattle.vub_chain.specs.declared.walk.Desc.{Desc}

-- ---- flags: bit 0 says that another one follows, bit 1 that the device may write, bit 2 that the descriptor names a table

abbrev pub has : ℕ → Desc → Bool
has k d = bit_at d.flags k == 1

abbrev pub goes_on : Desc → Bool
goes_on d = has 0 d

abbrev pub is_writable : Desc → Bool
is_writable d = has 1 d

abbrev pub is_table : Desc → Bool
is_table d = has 2 d

-- ---- tables

-- where so many descriptors of 16 bytes stand one after another
pub record Source : Type 0 where
  pub space : ℕ
  pub place : ℕ
  pub count : ℕ

-- one of them: address, length, flags, next
abbrev pub linked_desc : Bytes → Source → ℕ → Desc
linked_desc m s i = record {
  addr = word 8 m s.space (s.place + 16 * i);
  len = word 4 m s.space (s.place + 16 * i + 8);
  flags = word 2 m s.space (s.place + 16 * i + 12);
  next = word 2 m s.space (s.place + 16 * i + 14);
}

-- one of a table of the packed format: address, length, id, flags; it names no next one
abbrev pub listed_desc : Bytes → Source → ℕ → Desc
listed_desc m s i = record { addr = word 8 m s.space (s.place + 16 * i); len = word 4 m s.space (s.place + 16 * i + 8); flags = word 2 m s.space (s.place + 16 * i + 14); next = 0 }

-- so many of them from one on
abbrev pub listed_from : Bytes → Source → ℕ → ℕ → List Desc
listed_from m s zero i = []
listed_from m s (suc count) i = listed_desc m s i ∷ listed_from m s count (i + 1)
