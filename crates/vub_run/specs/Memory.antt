-- Memory and history, as a run's records so far tell them.
use Rattle.std.specs.Prelude.{ℕ, zero, suc, ◌==◌, if◌then◌else◌, List, [], ◌∷◌, ◌++◌}
use Rattle.byteorder.specs.Endian.{little_bytes}
use Rattle.vub_base.specs.declared.header.Header1.{Header1}
use Rattle.vub_base.specs.declared.store.Area.{Area}
use Rattle.vub_base.specs.declared.store.Area.TheVariants.{M, I}
use Rattle.vub_shared.specs.Bytes.{Bytes}
use Rattle.vub_shared.specs.Stores.{one_store, after_store}
use Rattle.vub_ring.specs.Ring.{Ring, avail_idx_place, used_idx_place, last_head}
use Rattle.vub_driver.specs.Layout.{guest_space, inflight_space, ring_of}
use Rattle.vub_driver.specs.TableChain.{chain_in}
use Rattle.vub_device.specs.declared.entry.Entry.{Entry}
use Rattle.vub_device.specs.declared.entry.Entry.TheVariants as entries
use Rattle.vub_report.specs.declared.items.Item.{Item}
use Rattle.vub_report.specs.declared.items.Item.TheVariants as items

-- the space that an area's stores are in
abbrev pub space_of : Area → ℕ
space_of M = guest_space
space_of I = inflight_space

-- ---- the opening

-- avail.idx and used.idx of a ring at the base
abbrev pub with_indexes : Ring → ℕ → Bytes → Bytes
with_indexes r base m =
    after_store (one_store r.used_space (used_idx_place r) (little_bytes 2 base)) (after_store (one_store r.avail_space (avail_idx_place r) (little_bytes 2 base)) m)

-- zero bytes, but the indexes of the first so many queues
abbrev pub opened : Header1 → ℕ → Bytes
opened h zero = λ s p. 0
opened h (suc q) = with_indexes (ring_of q h.size) h.base (opened h q)

abbrev pub opening_memory : Header1 → Bytes
opening_memory h = opened h h.queues

-- ---- what the records tell

pub record Scene : Type 0 where
  pub memory : Bytes
  -- the entries, newest first
  pub past : List Entry
  -- of each queue the heads under which its requests were offered, in order
  pub heads : ℕ → List ℕ
  -- and the descriptors of each one's chain, as memory told them when it was offered
  pub descriptors : ℕ → List (List ℕ)

abbrev pub opening_scene : Header1 → Scene
opening_scene h = record { memory = opening_memory h; past = []; heads = λ q. []; descriptors = λ q. [] }

-- the same, but that one at q
abbrev pub with_at : {A : Type 0} → (ℕ → A) → ℕ → A → ℕ → A
with_at f q x i = if i == q then x else f i

-- the same, but that list at q has one more element
abbrev pub with_last : {A : Type 0} → (ℕ → List A) → ℕ → A → ℕ → List A
with_last f q x = with_at f q (f q ++ x ∷ [])

-- the head that an offer on the queue shows: the one that avail.idx has just passed
abbrev pub shown_head : Header1 → ℕ → Bytes → ℕ
shown_head h q m = last_head (ring_of q h.size) m

-- an offer is made under the head that it shows, with the chain that stands there
abbrev pub after_entry : Header1 → Entry → Scene → Scene
after_entry h (entries.Offer q request) s = record {
  memory = s.memory;
  past = entries.Offer q request ∷ s.past;
  heads = with_last s.heads q (shown_head h q s.memory);
  descriptors = with_last s.descriptors q (chain_in (ring_of q h.size) s.memory (shown_head h q s.memory));
}
after_entry h e s = record s { past = e ∷ s.past }

-- a store changes memory, and an entry lengthens the history
abbrev pub after_item : Header1 → Item → Scene → Scene
after_item h (items.Store tag area place bytes) s = record s { memory = after_store (one_store (space_of area) place bytes) s.memory }
after_item h (items.Made e) s = after_entry h e s
after_item h (items.Bell q) s = s
after_item h items.Idle s = s

abbrev pub after_items : Header1 → List Item → Scene → Scene
after_items h [] s = s
after_items h (i ∷ is) s = after_items h is (after_item h i s)
