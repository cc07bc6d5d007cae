-- A slot that is made available again.
use Rattle.std.specs.Prelude.{◌≡◌, ◌⊎◌, ℕ, Bool, List, Option, Result, Ok, Err}
use Rattle.vub_base.specs.Told.{WhereTold}
use Rattle.vub_shared.specs.Bytes.{Bytes}
use Rattle.vub_shared.specs.Stores.{Store, Stores, Trails}
use Rattle.vub_slots.specs.Flags.{restored_flags}
use Rattle.vub_slots.specs.Stores.{flags_store}
use Rattle.vub_packed.specs.declared.packed.PackedRing.{PackedRing}
use Rattle.vub_packed.specs.Packed.{ring_of_packed, flags_word}

-- its flags, as they were loaded, are stored with AVAIL equal to the wrap counter, USED not, and the other bits as they were
pub record Restored {T E : Type 0} (r : PackedRing) (index : ℕ) (wrap : Bool) (before after : Option Bytes) (trail longer : Option (List Store)) (result : Result T E) : Type 0 where
  pub flags : ℕ
  pub loaded : WhereTold before (λ m. flags ≡ flags_word r m index)
  pub stores : Stores before after result (flags_store (ring_of_packed r) index (restored_flags flags wrap))
  pub trails : Trails trail longer result (flags_store (ring_of_packed r) index (restored_flags flags wrap))

-- that is done; where the call failed, it may also have stored nothing, since the flags couldn't be loaded
abbrev pub Restores : {T E : Type 0} → PackedRing → ℕ → Bool → Option Bytes → Option Bytes → Option (List Store) → Option (List Store) → Result T E → Type 0
Restores {T} {E} r index wrap before after trail longer (Ok x) = Restored {T = T} {E = E} r index wrap before after trail longer (Ok x)
Restores {T} {E} r index wrap before after trail longer (Err e) = Restored {T = T} {E = E} r index wrap before after trail longer (Err e) ⊎ ((after ≡ before) × (longer ≡ trail))
