-- The chain of descriptors that stands in a descriptor table, from a head on (VIRTIO 1.2, 2.7.5).
use Rattle.std.specs.Prelude.{ℕ, zero, suc, ◌+◌, Bool, not, ◌==◌, bit_and, if◌then◌else◌, List, [], ◌∷◌}
use Rattle.vub_shared.specs.Bytes.{Bytes, word}
use Rattle.vub_ring.specs.Ring.{Ring, desc_place}

-- the flags of a descriptor, and the index that it names as the next one
abbrev pub desc_flags : Ring → Bytes → ℕ → ℕ
desc_flags r m d = word 2 m r.desc_space (desc_place r d + 12)

abbrev pub desc_next : Ring → Bytes → ℕ → ℕ
desc_next r m d = word 2 m r.desc_space (desc_place r d + 14)

-- whether another one follows: bit 0 of the flags
abbrev pub names_next : Ring → Bytes → ℕ → Bool
names_next r m d = not (bit_and (desc_flags r m d) 1 == 0)

-- a descriptor and those that follow it, at most so many
abbrev pub chain_from : ℕ → Ring → Bytes → ℕ → List ℕ
chain_from zero r m d = []
chain_from (suc more) r m d = d ∷ (if names_next r m d then chain_from more r m (desc_next r m d) else [])

-- the descriptors of the chain of a head, in order; a chain has no more of them than the table
abbrev pub chain_in : Ring → Bytes → ℕ → List ℕ
chain_in r m head = chain_from r.size r m head
