-- What a message leaves of the rings on which a queue runs.
use Rattle.std.specs.Prelude.{◌≡◌, ℕ, true}
use Rattle.vub_session.specs.State.{ring_at}
use Rattle.vub_session.specs.declared.state.Ring.{Ring}
use Rattle.vub_session.specs.declared.state.Terms.{Terms}

-- the ring is attached, with the size, the addresses and the base that it had
pub record StaysAttached (before now : Ring) : Type 0 where
  pub attached : now.is_attached ≡ true
  pub size : now.size ≡ before.size
  pub addresses : now.addresses ≡ before.addresses
  pub base : now.base ≡ before.base

-- each attached ring stays so
abbrev pub KeepsAttached : Terms → Terms → Type 0
KeepsAttached before now = (index : ℕ) → (ring_at before index).is_attached ≡ true → StaysAttached (ring_at before index) (ring_at now index)
