-- What a store leaves of the told bytes and of the told list of stores.
use Rattle.std.specs.Prelude.{◌≡◌, ◌⊎◌, ℕ, List, [], ◌∷◌, ◌++◌, Option, Result, Ok, Err}
use Rattle.std.specs.Option.{option_map}
use Rattle.vub_shared.specs.Bytes.{Bytes, put}

pub record Store : Type 0 where
  pub space : ℕ
  pub place : ℕ
  pub bytes : List ℕ

-- the store of these bytes from that place of that space on
abbrev pub one_store : ℕ → ℕ → List ℕ → Store
one_store space place bytes = record { space = space; place = place; bytes = bytes }

-- the memory after a store
abbrev pub after_store : Store → Bytes → Bytes
after_store st m = put m st.space st.place st.bytes

-- the list of stores after one more
abbrev pub after_in_trail : Store → List Store → List Store
after_in_trail st trail = trail ++ st ∷ []

-- a store that succeeds leaves the new bytes; one that failed leaves the old bytes or the new ones
abbrev pub Stores : {T E : Type 0} → Option Bytes → Option Bytes → Result T E → Store → Type 0
Stores before after (Ok x) st = after ≡ option_map (after_store st) before
Stores before after (Err e) st = (after ≡ before) ⊎ (after ≡ option_map (after_store st) before)

-- a store that succeeds is added to the list; one that failed is added or not
abbrev pub Trails : {T E : Type 0} → Option (List Store) → Option (List Store) → Result T E → Store → Type 0
Trails before after (Ok x) st = after ≡ option_map (after_in_trail st) before
Trails before after (Err e) st = (after ≡ before) ⊎ (after ≡ option_map (after_in_trail st) before)
