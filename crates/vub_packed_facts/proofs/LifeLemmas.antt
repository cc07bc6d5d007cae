-- How a life, a fetch begins.
use Rattle.std.proofs.Common.{◌≡◌, ◌≤◌, ◌<◌, ℕ, ◌+◌, cond, List, [], ◌∷◌, length, drop, refl, ap, sym, ◌∙◌, subst, arith}
use Rattle.vub_slots.specs.Slots as slots
use Rattle.vub_slots.specs.Slots.{SlotWords, Buffer, buffer_slots}
use Rattle.vub_slots.specs.Stands.{DriverSlots}
use Rattle.vub_inflight.specs.Entries.{next_counter}
use Rattle.vub_inflight.proofs.CounterLemmas.{below_next}
use Rattle.vub_infl_packed.specs.Readings.{is_committed, chosen_head, open_entries}
use Rattle.vub_infl_packed.specs.Region.{RegionWords}
use Rattle.vub_packed_facts.specs.Chains.{IsPath}
use Rattle.vub_packed_facts.specs.Left.{flags_at_old, avail_number, IsLeft}
use Rattle.vub_packed_facts.specs.Lives.{FetchStep, IsBegun, InFetch, IsAtRest}
use Rattle.vub_packed_facts.specs.Lives.FetchStep.{AtPF1}
use Rattle.vub_packed_facts.specs.Starts.{IsRecovered}
use Rattle.vub_packed_facts.proofs.StartLemmas.{hidden_of}

-- a start that is through leaves a queue at rest, whose counter is above those of the open heads
pub life_begins : (n : ℕ) (dr : DriverSlots) (w : RegionWords) (s : SlotWords) (free heads : List ℕ) → IsRecovered n dr w s free heads → IsAtRest n dr (next_counter (open_entries n (flags_at_old w s) w)) w s free heads
life_begins n dr w s free heads f = record { left = f.left; below = below_next (open_entries n (flags_at_old w s) w); idle = record { agree = f.agree; quiet = f.quiet } }

-- there are entries enough for the buffer that waits first, from the old free head on
pub fetch_begins : (n : ℕ) (dr : DriverSlots) (counter : ℕ) (b : Buffer) (w : RegionWords) (s : SlotWords) (free heads : List ℕ) → dr.waiting ≡ b ∷ drop 1 dr.waiting → IsAtRest n dr counter w s free heads
    → InFetch n dr b counter w s free heads (AtPF1 w.old_free_head)
fetch_begins n dr counter b w s free heads waits f = record { left = f.left; below = f.below; step_is = (f.idle, record { first = at_front free path room; room = room; some = some; waits = waits }) }
  where
    some : 0 < b.slots
    some = (subst (λ bs. slots.Waits n s (avail_number dr w heads) bs) waits f.left.slots.waits).0

    queue : buffer_slots dr.waiting ≡ b.slots + buffer_slots (drop 1 dr.waiting)
    queue = ap buffer_slots waits

    room : b.slots ≤ length free
    room = omega (arith, f.left.slots.window.few, f.left.found.apart.sum, queue)

    path : IsPath w.next w.old_free_head free n
    path = subst (λ k. IsPath w.next k free n) (ap (λ t. cond t w.free_head w.old_free_head) (hidden_of n 0 dr w s heads f.left.slots)) f.left.found.chosen.path

    at_front : (xs : List ℕ) → IsPath w.next w.old_free_head xs n → b.slots ≤ length xs → xs ≡ w.old_free_head ∷ drop 1 xs
    at_front [] p few = absurd (omega (arith, few, some))
    at_front (x ∷ xs) p few = ap (λ (k : ℕ). k ∷ xs) (sym p.0)
