-- How the driver's stores make a chain in a ring's descriptor table.
use Rattle.std.specs.List.{AllByRecursion}
use Rattle.std.specs.Prelude.{◌≢◌, ◌<◌, ℕ, ◌^◌, List, [], ◌∷◌}
use Rattle.vub_shared.specs.Bytes.{Bytes}
use Rattle.vub_shared.specs.Stores.{Store, after_store}
use Rattle.vub_ring.specs.Ring.{Ring}
use Rattle.vub_driver.specs.Requests.{Piece}
use Rattle.vub_chain.specs.Descs.{Source}

-- memory after these stores, in their order
abbrev pub after_all : List Store → Bytes → Bytes
after_all [] m = m
after_all (st ∷ sts) m = after_all sts (after_store st m)

-- the descriptor table of a ring
abbrev pub table_of : Ring → Source
table_of r = record { space = r.desc_space; place = r.desc; count = r.size }

-- place and length of a piece fit their fields
pub record FitsFields (p : Piece) : Type 0 where
  pub place : p.place < 2 ^ 64
  pub len : p.len < 2 ^ 32

-- a distinct descriptor of a table of so many for each piece
abbrev pub ChainFits : ℕ → List ℕ → List Piece → Type 0
ChainFits size (d ∷ []) (p ∷ []) = (d < size) × FitsFields p
ChainFits size (d ∷ e ∷ ds) (p ∷ q ∷ ps) = (d < size) × FitsFields p × AllByRecursion (λ x. x ≢ d) (e ∷ ds) × ChainFits size (e ∷ ds) (q ∷ ps)
ChainFits size ds ps = ⊥
