use Rattle.std.proofs.Common.{◌≡◌, ◌≤◌, ℕ, List, length, map, take, refl, sym, subst, ap, ◌∙◌, arith}
use Rattle.std.proofs.lemmas.List.{with_items_is}
use Rattle.vub_steps.specs.declared.steps.Phase.{Phase}
use Rattle.vub_steps.specs.declared.steps.Step.TheVariants.{Index}
use Rattle.vub_steps.specs.Steps.{running_steps, after_of}
use Rattle.vub_steps.specs.Readiness.{is_fetch}
use Rattle.vub_queue.specs.QueueParts.{element, without_heads, taken_count, elements_fit, phase_fits, shown_of}
use Rattle.vub_queue.specs.declared.queue.Completed.{Completed}
use Rattle.vub_queue.specs.declared.queue.Queue.{Queue}
use Rattle.vub_queue.specs.QueueState.{state_of, step_in}
use Rattle.std.specs.Prelude.{Some, true}
use Rattle.vub_queue.proofs.QueueLemmas.{StandsAt, Shows, stands_at, index_shows, count_is, count_released, length_batch, length_without, below_take, fits_after, no_head, publishes_no_fetch}
use Rattle.vub_queue.proofs.queue.Queue.free_heads.Goals as goal

stands : (q : Queue) → step_in (state_of q) ≡ Some Index → StandsAt (length (state_of q).batch) q.phase Index
stands q next = stands_at (length (state_of q).batch) q.bell q.phase Index refl next

shows : (q : Queue) → step_in (state_of q) ≡ Some Index → Shows q.batch q.bell q.phase
shows q next = subst (λ (n : ℕ). Shows n q.bell q.phase) (count_is q) (index_shows (length (state_of q).batch) q.bell q.phase (stands q next).going (stands q next).stands)

pub release-requires : goal.release-requires
release-requires c =
    let q = c.args.self.now in
    let n = c.from-count.result in
    let size : length c.deref_mut.result.now ≡ q.ring.size = ap length c.deref_mut.ensures.value ∙ q.heads in
    ap (λ (k : ℕ). elements_fit k (take n c.deref.result.now)) size
    ∙ ap (λ (xs : List Completed). elements_fit q.ring.size (take n xs)) c.deref.ensures.value
    ∙ below_take q.ring.size n q.completed.items q.in_table

pub invariant_of-self-clause-heads : goal.invariant_of-self-clause-heads
invariant_of-self-clause-heads c =
    let q = c.args.self.now in
    let xs : List (ℕ × ℕ) = map element (take c.from-count.result c.deref.result.now) in
    let keeps : length c.release.new.taken ≡ q.taken.len = ap length c.release.ensures ∙ length_without xs c.deref_mut.result.now ∙ c.deref_mut.ensures.len in
    let still : length c.release.new.taken ≡ length q.taken.items = ap length c.release.ensures ∙ length_without xs c.deref_mut.result.now ∙ ap length c.deref_mut.ensures.value in
    ap length (with_items_is q.taken c.release.new.taken keeps) ∙ still ∙ q.heads

pub invariant_of-self-clause-counted : goal.invariant_of-self-clause-counted
invariant_of-self-clause-counted c =
    let q = c.args.self.now in
    let n = c.from-count.result in
    let count : n ≡ q.batch = c.from-count.ensures in
    let xs : List (ℕ × ℕ) = map element (take n c.deref.result.now) in
    let few : n ≤ length c.deref.result.now = omega (arith, count, q.batched, c.deref.ensures.len) in
    let many : length xs ≡ n = length_batch n c.deref.result.now few in
    let keeps : length c.release.new.taken ≡ q.taken.len = ap length c.release.ensures ∙ length_without xs c.deref_mut.result.now ∙ c.deref_mut.ensures.len in
    let freed : taken_count c.release.new.taken ≡ taken_count (without_heads xs c.deref_mut.result.now) = ap taken_count c.release.ensures in
    let old : taken_count c.deref_mut.result.now ≡ taken_count q.taken.items = ap taken_count c.deref_mut.ensures.value in
    let after : shown_of c.after_running-self.result q.batch ≡ q.batch = ap (λ (p : Phase). shown_of p q.batch) c.after_running-self.ensures ∙ (shows q c.requires.next).all_after in
    rw (with_items_is q.taken c.release.new.taken keeps) (omega (arith, q.counted, q.batched, count, many, freed, old, after, (shows q c.requires.next).none_before, count_released xs c.deref_mut.result.now))

pub invariant_of-self-clause-fits : goal.invariant_of-self-clause-fits
invariant_of-self-clause-fits c =
    let q = c.args.self.now in
    subst (λ (p : Phase). phase_fits p q.batch q.bell q.started ≡ true) (sym c.after_running-self.ensures) (fits_after q.phase q.batch q.bell q.started q.fits (stands q c.requires.next).going (shows q c.requires.next).goes)

pub invariant_of-self-clause-kept : goal.invariant_of-self-clause-kept
invariant_of-self-clause-kept c =
    let q = c.args.self.now in
    let after = c.after_running-self.result in
    let goes = ap is_fetch c.after_running-self.ensures ∙ publishes_no_fetch (after_of (running_steps q.batch q.bell q.phase) q.phase) (shows q c.requires.next).goes in
    no_head q.phase after q.fetching q.ring.size q.taken.items _ (publishes_no_fetch q.phase (stands q c.requires.next).going) goes q.kept
