-- Items one after another.
use Rattle.std.proofs.Common.{◌≡◌, ◌<◌, ℕ, List, [], ◌∷◌, ◌++◌, refl, ap, ◌∙◌, inl, inr}
use Rattle.vub_base.specs.declared.header.Header1.{Header1}
use Rattle.vub_base.specs.declared.header.CacheMode.{CacheMode}
use Rattle.vub_device.specs.declared.entry.Entry.{Entry}
use Rattle.vub_device.specs.declared.entry.Entry.TheVariants as entries
use Rattle.vub_device.specs.Legal.{LegalFrom, after}
use Rattle.vub_report.specs.declared.items.Item.{Item}
use Rattle.vub_report.specs.declared.items.Item.TheVariants as items
use Rattle.vub_run.specs.Before.{BeforeEach}
use Rattle.vub_run.specs.Memory.{Scene, after_item, after_items}
use Rattle.vub_run.specs.Tracking.{GoesWithNext, AfterEach}
use Rattle.vub_report.specs.Histories.{entries_of}
use Rattle.vub_run.specs.Lawful.{IsLawfulItem}
use Rattle.std.specs.List.{AllByRecursion}
use Rattle.vub_schedule.specs.declared.types.Event.{Event}

goes_on-append : (i : Item) (is js : List Item) → GoesWithNext i is → GoesWithNext i (is ++ js)
goes_on-append (items.Store tag area place bytes) [] js g = absurd g
goes_on-append (items.Store tag area place bytes) (items.Made (entries.Offer q r) ∷ is) js g = tt
goes_on-append (items.Store tag area place bytes) (items.Made (entries.Publish q list) ∷ is) js g = tt
goes_on-append (items.Store tag area place bytes) (items.Made (entries.Accept q k) ∷ is) js g = tt
goes_on-append (items.Store tag area place bytes) (items.Made (entries.Look q k s v) ∷ is) js g = absurd g
goes_on-append (items.Store tag area place bytes) (items.Made (entries.Act q k s v) ∷ is) js g = absurd g
goes_on-append (items.Store tag area place bytes) (items.Made (entries.Sync q k) ∷ is) js g = absurd g
goes_on-append (items.Store tag area place bytes) (items.Made (entries.Fault q k) ∷ is) js g = absurd g
goes_on-append (items.Store tag area place bytes) (items.Made entries.Kill ∷ is) js g = absurd g
goes_on-append (items.Store tag area place bytes) (items.Made (entries.Start q list) ∷ is) js g = absurd g
goes_on-append (items.Store tag area place bytes) (items.Made (entries.Collect q k) ∷ is) js g = absurd g
goes_on-append (items.Store tag area place bytes) (items.Made (entries.Power image) ∷ is) js g = absurd g
goes_on-append (items.Store tag area place bytes) (items.Store t a p b ∷ is) js g = absurd g
goes_on-append (items.Store tag area place bytes) (items.Bell q ∷ is) js g = absurd g
goes_on-append (items.Store tag area place bytes) (items.Idle ∷ is) js g = absurd g
goes_on-append (items.Made e) is js g = absurd g
goes_on-append (items.Bell q) is js g = absurd g
goes_on-append items.Idle is js g = absurd g

pub after-append : (h : Header1) (xs ys : List Item) (s : Scene) → after_items h (xs ++ ys) s ≡ after_items h ys (after_items h xs s)
after-append h [] ys s = refl
after-append h (x ∷ xs) ys s = after-append h xs ys (after_item h x s)

pub each-append : (h : Header1) (P : Scene → Type 0) (s : Scene) (xs ys : List Item) → AfterEach h P s xs → AfterEach h P (after_items h xs s) ys → AfterEach h P s (xs ++ ys)
each-append h P s [] ys p q = q
each-append h P s (x ∷ xs) ys p q = (
  elim p.0 [
    | inl goes ↦ inl (goes_on-append x xs ys goes)
    | inr holds ↦ inr holds
  ],
  each-append h P (after_item h x s) xs ys p.1 q,
)

pub before-append : (h : Header1) (P : Scene → Item → Type 0) (s : Scene) (xs ys : List Item) → BeforeEach h P s xs → BeforeEach h P (after_items h xs s) ys → BeforeEach h P s (xs ++ ys)
before-append h P s [] ys p q = q
before-append h P s (x ∷ xs) ys p q = (p.0, before-append h P (after_item h x s) xs ys p.1 q)

-- what holds of each queue holds of all of them
pub before_every : (h : Header1) (P : ℕ → Scene → Item → Type 0) (s : Scene) (is : List Item) → ((q : ℕ) → q < h.queues → BeforeEach h (P q) s is) → BeforeEach h (λ x i. (q : ℕ) → q < h.queues → P q x i) s is
before_every h P s [] all = tt
before_every h P s (i ∷ is) all = (λ q low. (all q low).0, before_every h P (after_item h i s) is (λ q low. (all q low).1))

pub legal-append : (capacity : ℕ) (mode : CacheMode) (past es fs : List Entry) → LegalFrom capacity mode past es → LegalFrom capacity mode (after past es) fs → LegalFrom capacity mode past (es ++ fs)
legal-append capacity mode past [] fs p q = q
legal-append capacity mode past (e ∷ es) fs p q = (p.0, legal-append capacity mode (e ∷ past) es fs p.1 q)

entry_past : (h : Header1) (e : Entry) (s : Scene) → (after_item h (items.Made e) s).past ≡ e ∷ s.past
entry_past h (entries.Offer q r) s = refl
entry_past h (entries.Accept q k) s = refl
entry_past h (entries.Look q k t v) s = refl
entry_past h (entries.Act q k t v) s = refl
entry_past h (entries.Sync q k) s = refl
entry_past h (entries.Fault q k) s = refl
entry_past h (entries.Publish q list) s = refl
entry_past h entries.Kill s = refl
entry_past h (entries.Start q list) s = refl
entry_past h (entries.Collect q k) s = refl
entry_past h (entries.Power image) s = refl

-- the past of a scene is that of its entries
pub past_after : (h : Header1) (is : List Item) (s : Scene) → (after_items h is s).past ≡ after s.past (entries_of is)
past_after h [] s = refl
past_after h (items.Made e ∷ is) s = past_after h is (after_item h (items.Made e) s) ∙ ap (λ (past : List Entry). after past (entries_of is)) (entry_past h e s)
past_after h (items.Store tag area place bytes ∷ is) s = past_after h is (after_item h (items.Store tag area place bytes) s)
past_after h (items.Bell q ∷ is) s = past_after h is s
past_after h (items.Idle ∷ is) s = past_after h is s

-- neither a store of a driver nor an offer
pub record IsQuiet (h : Header1) (i : Item) : Type 0 where
  pub lawful : (e : Event) (s : Scene) → IsLawfulItem h e s i
  pub kept : (s : Scene) → (after_item h i s).descriptors ≡ s.descriptors

abbrev pub AreQuiet : Header1 → List Item → Type 0
AreQuiet h is = AllByRecursion (IsQuiet h) is
