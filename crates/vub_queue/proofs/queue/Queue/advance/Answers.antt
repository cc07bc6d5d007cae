use Rattle.std.proofs.Common.{◌≡◌, ℕ, Bool, true, false, ap, sym, ◌∙◌, subst, arith}
use Rattle.vub_steps.specs.declared.steps.Phase.{Phase}
use Rattle.vub_steps.specs.declared.steps.Phase.TheVariants.{Rest}
use Rattle.vub_steps.specs.Steps.{running_steps, after_of}
use Rattle.vub_steps.specs.Readiness.{is_publication}
use Rattle.vub_queue.specs.declared.queue.Queue.{Queue}
use Rattle.vub_queue.specs.QueueParts.{phase_fits}
use Rattle.vub_queue.specs.QueueState.{state_of, steps_in, with_phase}
use Rattle.vub_queue.proofs.QueueLemmas.{count_is, ends_shown, fits_after, shown_on, no_head, publishes_no_fetch}
use Rattle.vub_queue.proofs.LyingLemmas.{advanced_lies}
use Rattle.vub_queue.proofs.queue.Queue.advance.Goals as goal

-- the phase after the step
after_is : (q : Queue) → after_of (running_steps q.batch q.bell q.phase) q.phase ≡ after_of (steps_in (state_of q)) q.phase
after_is q = ap (λ (n : ℕ). after_of (running_steps n q.bell q.phase) q.phase) (sym (count_is q))

-- at its end
rests_after : (q : Queue) (after : Phase) (b : Bool) → is_publication q.phase ≡ true → after ≡ after_of (running_steps q.batch q.bell q.phase) q.phase → b ≡ is_publication after → b ≡ false → with_phase Rest (state_of q) ≡ with_phase (after_of (steps_in (state_of q)) q.phase) (state_of q)
rests_after q after b going is tests ends =
    ap (λ (p : Phase). with_phase p (state_of q)) (sym ((ends_shown q.phase q.batch q.bell going (ap is_publication (sym is) ∙ sym tests ∙ ends)).1) ∙ after_is q)

pub end_batch-requires-clause-shown : goal.end_batch-requires-clause-shown
end_batch-requires-clause-shown c =
    let q = c.args.self.now in
    (ends_shown q.phase q.batch q.bell c.requires.going (ap is_publication (sym c.after_running-phase.ensures) ∙ sym c.is_publication.ensures ∙ c.if-is_publication.false)).0

pub returns-else-is_publication-clause-state : goal.returns-else-is_publication-clause-state
returns-else-is_publication-clause-state c =
    c.end_batch.ensures.state ∙ rests_after c.args.self.now c.after_running-phase.result c.is_publication.result c.requires.going c.after_running-phase.ensures c.is_publication.ensures c.if-is_publication.false

pub returns-else-is_publication-clause-lies : goal.returns-else-is_publication-clause-lies
returns-else-is_publication-clause-lies c = advanced_lies Rest (state_of c.args.self.now) (state_of c.end_batch.new.self) c.end_batch.ensures.state

pub invariant_of-self-clause-fits : goal.invariant_of-self-clause-fits
invariant_of-self-clause-fits c =
    let q = c.args.self.now in
    let goes : is_publication (after_of (running_steps q.batch q.bell q.phase) q.phase) ≡ true = ap is_publication (sym c.after_running-phase.ensures) ∙ sym c.is_publication.ensures ∙ c.if-is_publication.true in
    subst (λ (p : Phase). phase_fits p q.batch q.bell q.started ≡ true) (sym c.after_running-phase.ensures) (fits_after q.phase q.batch q.bell q.started q.fits c.requires.going goes)

pub invariant_of-self-clause-counted : goal.invariant_of-self-clause-counted
invariant_of-self-clause-counted c =
    let q = c.args.self.now in
    let goes : is_publication (after_of (running_steps q.batch q.bell q.phase) q.phase) ≡ true = ap is_publication (sym c.after_running-phase.ensures) ∙ sym c.is_publication.ensures ∙ c.if-is_publication.true in
    rw c.after_running-phase.ensures (omega (arith, q.counted, shown_on q.phase q.batch q.bell c.requires.going goes))

pub invariant_of-self-clause-kept : goal.invariant_of-self-clause-kept
invariant_of-self-clause-kept c =
    let q = c.args.self.now in
    no_head q.phase c.after_running-phase.result q.fetching q.ring.size q.taken.items q.taken.items (publishes_no_fetch q.phase c.requires.going) (publishes_no_fetch c.after_running-phase.result (sym c.is_publication.ensures ∙ c.if-is_publication.true)) q.kept
