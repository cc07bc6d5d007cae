-- Which stores spare the answers that a driver hasn't collected: once the device returned a buffer in the used ring, it
-- is done with it (VIRTIO 1.2, 2.7.8).
use Rattle.std.specs.Prelude.{◌≡◌, ◌≢◌, ◌<◌, ℕ, true, false, List, [], ◌∷◌, length, take, ⊤}
use Rattle.vub_base.specs.declared.header.Header1.{Header1}
use Rattle.vub_base.specs.declared.store.Tag.TheVariants.{G}
use Rattle.vub_shared.specs.Bytes.{Apart}
use Rattle.vub_shared.specs.Stores.{Store, one_store}
use Rattle.vub_driver.specs.Layout.{guest_space, buffer_bytes}
use Rattle.vub_device.specs.Past.{published, collected, is_among}
use Rattle.vub_report.specs.declared.items.Item.{Item}
use Rattle.vub_report.specs.declared.items.Item.TheVariants as items
use Rattle.vub_report.specs.declared.items.Record.{Record}
use Rattle.vub_run.specs.Before.{BeforeEach}
use Rattle.vub_run.specs.Memory.{Scene, opening_scene, space_of, after_items}
use Rattle.vub_run.specs.Moments.{buffer_of}

-- the number of a request that is published and not collected
pub record IsUncollected (q : ℕ) (s : Scene) (k : ℕ) : Type 0 where
  pub shown : is_among (published s.past q) k ≡ true
  pub kept : is_among (take (collected s.past q) (published s.past q)) k ≡ false

-- a store shares no byte with the buffer of such a request of the queue
abbrev pub SparesAnswers : ℕ → Scene → Store → Type 0
SparesAnswers q s st = (k : ℕ) → IsUncollected q s k → Apart st.space st.place (length st.bytes) guest_space (buffer_of q k s) buffer_bytes

-- an item at the scene before it: where it is a store, and none of a driver, it spares the answers of the queue
abbrev pub IsSparing : ℕ → Scene → Item → Type 0
IsSparing q s (items.Store tag area place bytes) = tag ≢ G → SparesAnswers q s (one_store (space_of area) place bytes)
IsSparing q s i = ⊤

abbrev pub SparesEveryQueue : Header1 → Scene → Item → Type 0
SparesEveryQueue h s i = (q : ℕ) → q < h.queues → IsSparing q s i

-- each store in these records that is none of a driver spares the answers of each queue where it is made
abbrev pub SparedFrom : Header1 → Scene → List Record → Type 0
SparedFrom h s [] = ⊤
SparedFrom h s (r ∷ rs) = BeforeEach h (SparesEveryQueue h) s r.items × SparedFrom h (after_items h r.items s) rs

abbrev pub EveryAnswerIsSpared : Header1 → List Record → Type 0
EveryAnswerIsSpared h records = SparedFrom h (opening_scene h) records
