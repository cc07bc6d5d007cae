-- The definitions, tried on the first request of a queue of four places: a read of sector 0.
use Rattle.std.specs.Prelude.{◌≡◌, true, false, List, [], ◌∷◌, refl}
use Rattle.vub_base.specs.declared.request.Ask.TheVariants.{Read}
use Rattle.vub_base.specs.declared.request.Shape.TheVariants.{Direct}
use Rattle.vub_shared.specs.Bytes.{Bytes}
use Rattle.vub_shared.specs.Bytes as bytes
use Rattle.vub_shared.specs.Stores.{Store, after_store}
use Rattle.vub_ring.specs.Ring.{Ring, waiting}
use Rattle.vub_driver.specs.Layout.{ring_of}
use Rattle.vub_driver.specs.Stores.{offer_stores}
use Rattle.vub_driver.specs.Drivers.{new_driver, can_take, chosen, after_ask, after_stores}

abbrev first_ring : Ring
first_ring = ring_of 0 4

-- four places take one read, and no second one beside it
pub first_fits : can_take 4 Direct (Read 0 1) (new_driver 0) ≡ true
first_fits = refl

pub second_waits : can_take 4 Direct (Read 0 1) (after_stores 7 (record { ask = Read 0 1; head = 0; left = [] }) (after_ask first_ring (Read 0 1) (new_driver 0))) ≡ false
second_waits = refl

pub lowest_free : chosen 4 (Read 0 1) (new_driver 0) ≡ 0 ∷ 1 ∷ 2 ∷ []
lowest_free = refl

-- zero memory after these stores
abbrev after_stores_in : List Store → Bytes → Bytes
after_stores_in [] m = m
after_stores_in (st ∷ stores) m = after_stores_in stores (after_store st m)

-- once the offer of head 2 stands, it waits from position 0 on
pub offer_waits : waiting first_ring (after_stores_in (offer_stores first_ring 0 2) (λ s p. 0)) 0 ≡ 2 ∷ []
unfolding bytes.word bytes.put
offer_waits = refl
