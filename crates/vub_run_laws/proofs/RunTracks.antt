-- What the answers of a history are; what holds of each queue after each item holds of every queue.
use Rattle.std.proofs.Common.{◌≡◌, ◌<◌, ◌⊎◌, ℕ, zero, suc, List, [], ◌∷◌, ◌++◌, drop, map, refl, ap, inl, inr, arith}
use Rattle.std.specs.Prelude.{slice_index}
use Rattle.std.specs.List.{AllByRecursion}
use Rattle.std.proofs.lemmas.Bool.Decides.{nat_tests}
use Rattle.vub_report.specs.declared.items.Item.TheVariants as items
use Rattle.vub_report.specs.declared.items.Item.{Item}
use Rattle.vub_base.specs.declared.header.Header1.{Header1}
use Rattle.vub_device.specs.declared.entry.Answered.{Answered}
use Rattle.vub_device.specs.declared.entry.Entry.{Entry}
use Rattle.vub_device.specs.declared.entry.Entry.TheVariants as entries
use Rattle.vub_device.specs.Past.{asked, published, numbers}
use Rattle.vub_run.specs.Memory.{after_item, Scene}
use Rattle.vub_run.specs.Tracking.{GoesWithNext, AfterEach, answers, answered_len, element, Tracks, EveryTracks}
use Rattle.vub_run_laws.proofs.RunGood.{spot}
use Rattle.vub_run.specs.Turns.{answer_at}

numbers-append : (xs ys : List Answered) → numbers (xs ++ ys) ≡ numbers xs ++ numbers ys
numbers-append [] ys = refl
numbers-append (x ∷ xs) ys = ap (λ ks. x.number ∷ ks) (numbers-append xs ys)

-- the answers have the numbers that were published
pub numbers_published : (past : List Entry) (q : ℕ) → numbers (answers past q) ≡ published past q
numbers_published [] q = refl
numbers_published (entries.Publish p list ∷ past) q =
    let rest : numbers (answers past q) ≡ published past q = numbers_published past q in
    let joined : numbers (answers past q ++ list) ≡ numbers (answers past q) ++ numbers list = numbers-append (answers past q) list in
    grind (arith, nat_tests)
numbers_published (entries.Offer p r ∷ past) q = numbers_published past q
numbers_published (entries.Accept p k ∷ past) q = numbers_published past q
numbers_published (entries.Look p k s v ∷ past) q = numbers_published past q
numbers_published (entries.Act p k s v ∷ past) q = numbers_published past q
numbers_published (entries.Sync p k ∷ past) q = numbers_published past q
numbers_published (entries.Fault p k ∷ past) q = numbers_published past q
numbers_published (entries.Kill ∷ past) q = numbers_published past q
numbers_published (entries.Start p list ∷ past) q = numbers_published past q
numbers_published (entries.Collect p k ∷ past) q = numbers_published past q
numbers_published (entries.Power image ∷ past) q = refl

pub numbers-drop : (c : ℕ) (xs : List Answered) → numbers (drop c xs) ≡ drop c (numbers xs)
numbers-drop zero xs = refl
numbers-drop (suc c) [] = refl
numbers-drop (suc c) (x ∷ xs) = numbers-drop c xs

pub good-drop : (c : ℕ) (xs : List Answered) → AllByRecursion (λ (a : Answered). a.status ≡ 0) xs → AllByRecursion (λ (a : Answered). a.status ≡ 0) (drop c xs)
good-drop zero xs good = good
good-drop (suc c) [] good = tt
good-drop (suc c) (x ∷ xs) good = good-drop c xs good.1

-- the elements of answers with status 0 are those of their numbers
pub elements_of_good : (q : ℕ) (s : Scene) (xs : List Answered) → AllByRecursion (λ (a : Answered). a.status ≡ 0) xs → map (element q s) xs ≡ map (spot q (s.heads q) s.past) (numbers xs)
elements_of_good q s [] good = refl
elements_of_good q s (x ∷ xs) good =
    let rest : map (element q s) xs ≡ map (spot q (s.heads q) s.past) (numbers xs) = elements_of_good q s xs good.1 in
    let first : element q s x ≡ spot q (s.heads q) s.past x.number = ap (λ (st : ℕ). (slice_index (s.heads q) x.number, answered_len st (asked s.past q x.number))) good.0 in
    cc

-- ---- every queue

-- whether an item counts as one with what follows
goes : (i : Item) (is : List Item) → GoesWithNext i is ⊎ (GoesWithNext i is → ⊥)
goes (items.Store tag area place bytes) [] = inr (λ x. x)
goes (items.Store tag area place bytes) (items.Made e ∷ is) = of_entry e
  where
    of_entry : (e : Entry) → GoesWithNext (items.Store tag area place bytes) (items.Made e ∷ is) ⊎ (GoesWithNext (items.Store tag area place bytes) (items.Made e ∷ is) → ⊥)
    of_entry (entries.Offer q request) = inl tt
    of_entry (entries.Publish q list) = inl tt
    of_entry (entries.Accept q k) = inl tt
    of_entry (entries.Look q k sector v) = inr (λ x. x)
    of_entry (entries.Act q k sector v) = inr (λ x. x)
    of_entry (entries.Sync q k) = inr (λ x. x)
    of_entry (entries.Fault q k) = inr (λ x. x)
    of_entry (entries.Collect q k) = inr (λ x. x)
    of_entry (entries.Start q list) = inr (λ x. x)
    of_entry (entries.Power image) = inr (λ x. x)
    of_entry entries.Kill = inr (λ x. x)
goes (items.Store tag area place bytes) (items.Store tag' area' place' bytes' ∷ is) = inr (λ x. x)
goes (items.Store tag area place bytes) (items.Bell q ∷ is) = inr (λ x. x)
goes (items.Store tag area place bytes) (items.Idle ∷ is) = inr (λ x. x)
goes (items.Made e) is = inr (λ x. x)
goes (items.Bell q) is = inr (λ x. x)
goes items.Idle is = inr (λ x. x)

-- what holds of each queue after each item holds of every queue after it
pub each_every : (h : Header1) (s : Scene) (is : List Item) → ((q : ℕ) → q < h.queues → AfterEach h (Tracks h q) s is) → AfterEach h (EveryTracks h) s is
each_every h s [] each = tt
each_every h s (i ∷ is) each = (
  elim (goes i is) [
    | inl one ↦ inl one
    | inr apart ↦
        inr (λ q low. elim (each q low).0 [
          | inl one ↦ absurd (apart one)
          | inr tracks ↦ tracks
        ])
  ],
  each_every h (after_item h i s) is (λ q low. (each q low).1),
)

pub numbers_answers : (q : ℕ) (s : Scene) (xs : List ℕ) → numbers (map (answer_at q s) xs) ≡ xs
numbers_answers q s [] = refl
numbers_answers q s (x ∷ xs) = ap (λ ks. x ∷ ks) (numbers_answers q s xs)
