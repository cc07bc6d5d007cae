-- A used element that the driver takes, on a split ring.
use Rattle.std.proofs.Common.{◌≡◌, ◌≢◌, ◌≤◌, ◌<◌, ℕ, zero, suc, ◌+◌, ◌*◌, ◌%◌, Bool, false, List, cond, ◌∷◌, length, refl, ap, sym, ◌∙◌, arith}
use Rattle.std.specs.Prelude.{Option, Some, None, [], ◌==◌, slice_index}
use Rattle.std.proofs.lemmas.Bool.Decides.{nat_tests}
use Rattle.vub_base.specs.declared.header.Header1.{Header1}
use Rattle.vub_shared.specs.Bytes.{Bytes, word}
use Rattle.vub_ring.specs.Ring.{Ring, ahead, seen, used_idx, element_at, elements_from}
use Rattle.vub_driver.specs.Shown.{ShowsNext}
use Rattle.vub_driver.specs.Drivers.{Driver, Waiting, is_head, after_collect, is_that, without_owner}
use Rattle.vub_device.specs.Past.{published, collected}
use Rattle.vub_device.specs.declared.entry.Entry.TheVariants as entries
use Rattle.vub_run.specs.Memory.{Scene}
use Rattle.vub_run.specs.Moments.{Lane}
use Rattle.vub_run_laws.proofs.RingGood.{Driven, WaitsWell, the_ring, QueueFacts}
use Rattle.vub_run_laws.proofs.RingPositions.{ahead_by}
use Rattle.vub_run_laws.proofs.RunGood.{Known, spot, IsGood, LeavesQueue}
use Rattle.vub_run_laws.proofs.RunHolds.{Holds}
use Rattle.vub_run_laws.proofs.RunTaken.{IsTaken, later_out, next_number, next_out}
use Rattle.vub_device.specs.declared.entry.Entry.{Entry}
use Rattle.vub_run_laws.proofs.RunOwn.{collected_own}
use Rattle.vub_run_laws.proofs.RingEntries.{ringed_entries}
use Rattle.vub_run_laws.proofs.RingFacts.{words_same}

-- where something is seen, the first element stands at the position
pub first_element : (r : Ring) (m : Bytes) (k d : ℕ) (x : ℕ × ℕ) (xs : List (ℕ × ℕ)) → elements_from r m k d ≡ x ∷ xs → (0 < k) × (element_at r m d ≡ x)
first_element r m zero d x xs e = absurd (cc)
first_element r m (suc k) d x xs e = (omega arith, cc)

pub waits_on_still : (q : ℕ) (h : Header1) (s : Scene) (l : Lane) (x k : ℕ) (o : Option Waiting) → IsTaken q h s l x → WaitsWell q h.size h.capacity s.past (s.heads q) l.driver o → WaitsWell q h.size h.capacity (entries.Collect q k ∷ s.past) (s.heads q) (record l.driver { owner = without_owner x l.driver.owner }) o
waits_on_still q h s l x k None t w = tt
waits_on_still q h s l x k (Some y) t w =
    let apart : slice_index (s.heads q) (next_number q s) ≢ y.head = w.apart (next_number q s) (next_out q h s l x t) in
    let differs : y.head ≢ x = λ same. apart (sym t.head ∙ sym same) in record {
      wide = w.wide;
      below = w.below;
      mine = ap (λ (o : Option ℕ). cond (is_that x o) None o) w.mine ∙ (let out : (y.head == x) ≡ false = grind (arith, nat_tests) in ap (λ (b : Bool). cond {A = Option ℕ} b None (Some y.head)) out);
      apart = λ j out. w.apart j (later_out q h s l x j k t out).0;
      plan = w.plan;
    }

pub taken_driven : (q : ℕ) (h : Header1) (s : Scene) (l : Lane) (x k : ℕ) → IsTaken q h s l x → Driven q h.size h.capacity h.base (entries.Collect q k ∷ s.past) (s.heads q) (record l.driver { owner = without_owner x l.driver.owner })
taken_driven q h s l x k t =
    let d : Driven q h.size h.capacity h.base s.past (s.heads q) l.driver = t.holds.queue.driven in record {
      index = d.index;
      below = λ j out. d.below j (later_out q h s l x j k t out).0;
      owned = λ j out.
          let was = later_out q h s l x j k t out in
          let hj : ℕ = slice_index (s.heads q) j in
          let differs : hj ≢ x = λ same. was.1 (d.apart j (next_number q s) was.0 (next_out q h s l x t) (same ∙ t.head)) in
          let other : (hj == x) ≡ false = grind (arith, nat_tests) in
          ap (λ (o : Option ℕ). cond (is_that x o) None o) (d.owned j was.0) ∙ ap (λ (b : Bool). cond {A = Option ℕ} b None (Some hj)) other;
      apart = λ i j out_i out_j same. d.apart i j (later_out q h s l x i k t out_i).0 (later_out q h s l x j k t out_j).0 same;
      waits = waits_on_still q h s l x k l.driver.waiting t d.waits;
    }

-- the head that is taken isn't the waiting one's, so its descriptors are free
pub not_waiting : (q : ℕ) (h : Header1) (s : Scene) (l : Lane) (x : ℕ) (o : Option Waiting) → IsTaken q h s l x → WaitsWell q h.size h.capacity s.past (s.heads q) l.driver o → is_head x o ≡ false
not_waiting q h s l x None t w = refl
not_waiting q h s l x (Some y) t w =
    let apart : slice_index (s.heads q) (next_number q s) ≢ y.head = w.apart (next_number q s) (next_out q h s l x t) in
    let differs : y.head ≢ x = λ same. apart (sym t.head ∙ sym same) in
    grind (arith, nat_tests)

pub after_taken : (q : ℕ) (h : Header1) (s : Scene) (l : Lane) (x : ℕ) → IsTaken q h s l x → after_collect x l.driver ≡ record l.driver { owner = without_owner x l.driver.owner }
after_taken q h s l x t =
    let low : slice_index (s.heads q) (next_number q s) < h.size = t.holds.queue.driven.below (next_number q s) (next_out q h s l x t) in
    let small : h.size ≤ 64 = t.good.size.small in
    let is : x ≡ slice_index (s.heads q) (next_number q s) = t.head in
    let whole : x % 65536 ≡ x = omega arith in
    let free : is_head x l.driver.waiting ≡ false = not_waiting q h s l x l.driver.waiting t t.holds.queue.driven.waits in
    ap (λ (y : ℕ). cond {A = Driver} (is_head y l.driver.waiting) l.driver (record l.driver { owner = without_owner y l.driver.owner })) whole
    ∙ ap (λ (b : Bool). cond {A = Driver} b l.driver (record l.driver { owner = without_owner x l.driver.owner })) free

-- the first element that is seen is that of the next number
pub first_seen : (q : ℕ) (h : Header1) (s : Scene) (l : Lane) (x : ℕ × ℕ) (xs : List (ℕ × ℕ)) → IsGood h → Holds q h s l → seen (the_ring q h.size) s.memory (h.base + collected s.past q) ≡ x ∷ xs → IsTaken q h s l x.0
first_seen q h s l x xs good holds e =
    let c : ℕ = collected s.past q in
    let known : Known q h.size h.capacity s.past (s.heads q) = holds.known in
    let small : h.size ≤ 64 = good.size.small in
    let room = known.room in
    let offered = known.offered in
    let fewer = known.fewer in
    let shown = known.shown in
    let far : ahead (used_idx (the_ring q h.size) s.memory) (h.base + c) + c ≡ length (published s.past q) = ap (λ (u : ℕ). ahead u (h.base + c) + c) holds.queue.ringed.used_idx_is ∙ ahead_by h.base (length (published s.past q)) c shown (omega arith) in
    let first = first_element (the_ring q h.size) s.memory (ahead (used_idx (the_ring q h.size) s.memory) (h.base + c)) (h.base + c) x xs e in
    let some : 0 < ahead (used_idx (the_ring q h.size) s.memory) (h.base + c) = first.0 in
    let more : c < length (published s.past q) = omega arith in
    let is : x ≡ spot q (s.heads q) s.past (slice_index (published s.past q) c) = sym first.1 ∙ holds.queue.ringed.used_at c (omega arith) more in
    record { good = good; holds = holds; more = more; head = ap (λ (p : ℕ × ℕ). p.0) is }

-- ---- what a collection finds

-- an index counts modulo 65536
same_element : (r : Ring) (m : Bytes) (p : ℕ) → element_at r m (p % 65536) ≡ element_at r m p
same_element r m p =
    let e : (p % 65536) % 65536 ≡ p % 65536 = omega arith in
    ap (λ (i : ℕ). (word 4 m r.used_space (r.used + (4 + 8 * (i % r.size))), word 4 m r.used_space (r.used + (8 + 8 * (i % r.size))))) e

some_elements : (r : Ring) (m : Bytes) (k d : ℕ) → 0 < k → (xs : List (ℕ × ℕ)) × (elements_from r m k d ≡ element_at r m d ∷ xs)
some_elements r m zero d some = absurd (omega arith)
some_elements r m (suc k) d some = (elements_from r m k (d + 1), refl)

-- where none is shown at the driver's position, it sees none
pub none_seen : (q : ℕ) (h : Header1) (s : Scene) (position : ℕ) → position ≡ (h.base + collected s.past q) % 65536 → ShowsNext None (the_ring q h.size) s.memory position → seen (the_ring q h.size) s.memory (h.base + collected s.past q) ≡ []
none_seen q h s position at shown =
    let p : ℕ = h.base + collected s.past q in
    let none : ahead (used_idx (the_ring q h.size) s.memory) p ≡ 0 = omega (arith, shown, at) in
    ap (λ (k : ℕ). elements_from (the_ring q h.size) s.memory k p) none

-- the first element that the driver sees names this head, and that of the number that is collected next
pub record SeesFirst (q : ℕ) (h : Header1) (s : Scene) (l : Lane) (head : ℕ) : Type 0 where
  pub first : ℕ × ℕ
  pub rest : List (ℕ × ℕ)
  pub sees : seen (the_ring q h.size) s.memory (h.base + collected s.past q) ≡ first ∷ rest
  pub taken : IsTaken q h s l first.0
  pub head_is : head ≡ first.0

pub shown_seen : (q : ℕ) (h : Header1) (s : Scene) (l : Lane) (position head : ℕ) → IsGood h → Holds q h s l → position ≡ (h.base + collected s.past q) % 65536 → ShowsNext (Some head) (the_ring q h.size) s.memory position → SeesFirst q h s l head
shown_seen q h s l position head good holds at shown =
    let r : Ring = the_ring q h.size in
    let p : ℕ = h.base + collected s.past q in
    let u : ℕ = used_idx r s.memory in
    let x : ℕ × ℕ = element_at r s.memory p in
    let index : u ≡ (h.base + length (published s.past q)) % 65536 = holds.queue.ringed.used_idx_is in
    let apart : u ≢ p % 65536 = λ same. shown.0 (same ∙ sym at) in
    let far : 0 < ahead u p = omega (arith, index, apart) in
    let some = some_elements r s.memory (ahead u p) p far in
    let taken : IsTaken q h s l x.0 = first_seen q h s l x some.0 good holds some.1 in
    let low : slice_index (s.heads q) (next_number q s) < h.size = holds.queue.driven.below (next_number q s) (next_out q h s l x.0 taken) in
    let small : h.size ≤ 64 = good.size.small in
    let read : (element_at r s.memory position).0 ≡ x.0 = ap (λ (i : ℕ). (element_at r s.memory i).0) at ∙ ap (λ (y : ℕ × ℕ). y.0) (same_element r s.memory p) in
    record { first = x; rest = some.0; sees = some.1; taken = taken; head_is = omega (arith, shown.1, read, taken.head, low, small) }

-- ---- a collection

pub taken_facts : (q : ℕ) (h : Header1) (s : Scene) (l : Lane) (x k : ℕ) → IsTaken q h s l x → QueueFacts q h (record s { past = entries.Collect q k ∷ s.past }) (record l.driver { owner = without_owner x l.driver.owner }) l.bell l.plan l.counter l.batch l.phase
taken_facts q h s l x k t =
    let past' : List Entry = entries.Collect q k ∷ s.past in
    let leaves : LeavesQueue q s.past past' = record { accepts = omega arith; shows = refl; collects = omega (arith, collected_own s.past q k); asks = λ j. refl } in record {
      ringed = ringed_entries q h.size h.base s.past past' (s.heads q) s.memory leaves t.holds.queue.ringed;
      driven = taken_driven q h s l x k t;
      words = words_same q h s past' l.bell l.plan l.counter l.batch l.phase refl refl leaves.shows leaves.asks t.holds.queue.words;
      start = t.holds.queue.start;
    }
