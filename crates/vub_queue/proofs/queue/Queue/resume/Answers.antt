use Rattle.std.proofs.Common.{◌≡◌, ◌+◌, ◌++◌, ℕ, false, length, map, List, [], refl, ap, sym, ◌∙◌, subst, arith}
use Rattle.std.specs.Prelude.{Bool, vec_len}
use Rattle.std.proofs.lemmas.List.{with_items_is, length-map}
use Rattle.vub_base.specs.declared.pending.Pending.{Pending}
use Rattle.vub_inflight.specs.Entries.{AreEntries, heads_of}
use Rattle.vub_steps.specs.declared.steps.Phase.{Phase}
use Rattle.vub_steps.specs.declared.steps.Phase.TheVariants.{Rest}
use Rattle.vub_task.specs.declared.task.Task.{Task}
use Rattle.vub_task.specs.TaskState.{fresh_task}
use Rattle.vub_queue.specs.declared.queue.Queue.{Queue}
use Rattle.vub_queue.specs.QueueParts.{taken_count, with_heads, shown_of}
use Rattle.vub_queue.specs.QueueState.{state_of}
use Rattle.vub_queue.proofs.LyingLemmas.{lies_resumed}
use Rattle.vub_queue.proofs.ResumeLemmas.{none_taken, rests_before, nothing_in, length_with, count_resumed}
use Rattle.vub_queue.proofs.queue.Queue.resume.Goals as goal

at_rest : (q : Queue) → q.started ≡ false → q.phase ≡ Rest
at_rest q resting = rests_before q.phase q.batch q.bell q.started resting q.fits

none_kept : (q : Queue) → q.started ≡ false → vec_len q.unfinished + vec_len q.completed ≡ 0
none_kept q resting =
    let none : taken_count q.taken.items ≡ 0 = none_taken q.started q.taken.items resting q.unstarted in
    let shown : shown_of q.phase q.batch ≡ 0 = ap (λ (p : Phase). shown_of p q.batch) (at_rest q resting) in
    omega (arith, q.counted, none, shown)

no_tasks : (q : Queue) → q.started ≡ false → q.unfinished.items ≡ []
no_tasks q resting = nothing_in q.unfinished.items (omega (arith, none_kept q resting, q.unfinished.ok))

-- the tasks are those that begin anew
tasks_are : (q : Queue) (tasks : List Task) (list : List Pending) → q.started ≡ false → tasks ≡ q.unfinished.items ++ map fresh_task (heads_of list) → list ≡ q.pending.items → tasks ≡ map fresh_task (heads_of q.pending.items)
tasks_are q tasks list resting is same =
    is
    ∙ ap (λ (ts : List Task). ts ++ map fresh_task (heads_of list)) (no_tasks q resting)
    ∙ ap (λ (xs : List Pending). map fresh_task (heads_of xs)) same

count_is : (q : Queue) (taken before : List Bool) (list : List Pending) → q.started ≡ false → AreEntries q.ring.size q.pending.items → taken ≡ with_heads (heads_of list) before → before ≡ q.taken.items → list ≡ q.pending.items → taken_count taken ≡ length q.pending.items
count_is q taken before list resting entries is was same =
    ap taken_count is
    ∙ ap (λ (xs : List Bool). taken_count (with_heads (heads_of list) xs)) was
    ∙ ap (λ (xs : List Pending). taken_count (with_heads (heads_of xs) q.taken.items)) same
    ∙ count_resumed q.pending.items q.taken.items (none_taken q.started q.taken.items resting q.unstarted) (subst (λ (n : ℕ). AreEntries n q.pending.items) (sym q.heads) entries)

pub invariant_of-self-clause-heads : goal.invariant_of-self-clause-heads
invariant_of-self-clause-heads c =
    let q = c.args.self.now in
    let heads : List ℕ = heads_of c.items-pending.result.now in
    let kept : length c.begin_anew.new.taken ≡ length c.deref_mut.result.now = ap length c.begin_anew.ensures.heads ∙ length_with heads c.deref_mut.result.now in
    ap length (with_items_is q.taken c.begin_anew.new.taken (kept ∙ c.deref_mut.ensures.len)) ∙ kept ∙ ap length c.deref_mut.ensures.value ∙ q.heads

pub invariant_of-self-clause-counted : goal.invariant_of-self-clause-counted
invariant_of-self-clause-counted c =
    let q = c.args.self.now in
    let list : List Pending = c.items-pending.result.now in
    let kept : length c.begin_anew.new.taken ≡ length c.deref_mut.result.now = ap length c.begin_anew.ensures.heads ∙ length_with (heads_of list) c.deref_mut.result.now in
    let taken : taken_count c.begin_anew.new.taken ≡ length q.pending.items = count_is q c.begin_anew.new.taken c.deref_mut.result.now list c.requires.resting c.requires.entries c.begin_anew.ensures.heads c.deref_mut.ensures.value c.items-pending.ensures in
    let tasks : c.begin_anew.new.unfinished.items ≡ map fresh_task (heads_of q.pending.items) = tasks_are q c.begin_anew.new.unfinished.items list c.requires.resting c.begin_anew.ensures.tasks c.items-pending.ensures in
    let many : length c.begin_anew.new.unfinished.items ≡ length q.pending.items = ap length tasks ∙ length-map (heads_of q.pending.items) fresh_task ∙ length-map q.pending.items (λ (e : Pending). e.head) in
    rw (with_items_is q.taken c.begin_anew.new.taken (kept ∙ c.deref_mut.ensures.len)) (omega (arith, taken, many, c.begin_anew.new.unfinished.ok, none_kept q c.requires.resting))

pub returns-clause-lies : goal.returns-clause-lies
returns-clause-lies c sizes capacity h =
    let q = c.args.self.now in
    lies_resumed q.pending.items (state_of q) _ c.requires.entries.below refl refl (tasks_are q c.begin_anew.new.unfinished.items c.items-pending.result.now c.requires.resting c.begin_anew.ensures.tasks c.items-pending.ensures) sizes capacity h
