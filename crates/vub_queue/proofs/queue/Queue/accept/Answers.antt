use Rattle.std.proofs.Common.{◌≡◌, ◌+◌, ◌∷◌, ◌++◌, [], true, Bool, List, length, set, refl, ap, ◌∙◌, arith, rules}
use Rattle.std.specs.Prelude.{◌==◌, ℕ}
use Rattle.std.proofs.lemmas.List.{with_items_is, places}
use Rattle.vub_steps.specs.declared.steps.Phase.{Phase}
use Rattle.vub_steps.specs.declared.steps.Phase.TheVariants.{Rest}
use Rattle.vub_task.specs.declared.task.Task.{Task}
use Rattle.vub_queue.specs.declared.queue.Queue.{Queue}
use Rattle.vub_queue.specs.QueueParts.{taken_count, shown_of}
use Rattle.vub_queue.specs.QueueState.{state_of, accepted}
use Rattle.vub_queue.proofs.QueueLemmas.{count_free, count_taken, Kept, kept_at}
use Rattle.vub_queue.proofs.LyingLemmas.{lies_accepted, lies_same}
use Rattle.std.proofs.Common.{Some}
use Rattle.vub_queue.proofs.queue.Queue.accept.Goals as goal

kept_by : (q : Queue) (head : ℕ) → q.fetching ≡ Some head → Kept q.phase q.batch head q.ring.size q.taken.items
kept_by q head is = kept_at q.phase q.batch q.bell q.started q.fetching head q.ring.size q.taken.items is q.fits q.kept

none_shown : (q : Queue) (head : ℕ) → q.fetching ≡ Some head → shown_of q.phase q.batch ≡ 0
none_shown q head is = ap (λ (p : Phase). shown_of p q.batch) (kept_by q head is).phase

pub push_reserved-requires : goal.push_reserved-requires
push_reserved-requires c =
    let g = c.args.self.now in
    let k = kept_by g c.args.head c.requires.kept in
    omega (arith, count_free g.taken.items c.args.head k.free, g.counted, none_shown g c.args.head c.requires.kept, g.heads, g.room)

pub invariant_of-self-clause-heads : goal.invariant_of-self-clause-heads
invariant_of-self-clause-heads c =
    let g = c.args.self.now in
    ap length (with_items_is g.taken c.set_taken.new.taken (search (rules, places))) ∙ ap length c.set_taken.ensures ∙ search (rules, places)

pub invariant_of-self-clause-all : goal.invariant_of-self-clause-all
invariant_of-self-clause-all c =
    let g = c.args.self.now in
    let k = kept_by g c.args.head c.requires.kept in
    omega (arith, count_free g.taken.items c.args.head k.free, g.counted, none_shown g c.args.head c.requires.kept, g.heads, c.push_reserved.ensures.len)

pub invariant_of-self-clause-counted : goal.invariant_of-self-clause-counted
invariant_of-self-clause-counted c =
    let g = c.args.self.now in
    let k = kept_by g c.args.head c.requires.kept in
    let items : c.set_taken.new.taken ≡ set g.taken.items c.args.head true = c.set_taken.ensures ∙ ap (λ (xs : List Bool). set xs c.args.head true) c.deref_mut.ensures.value in
    let one : taken_count c.set_taken.new.taken ≡ taken_count g.taken.items + 1 = ap taken_count items ∙ count_taken g.taken.items c.args.head k.free in
    let none : shown_of Rest g.batch ≡ 0 = refl in
    rw (with_items_is g.taken c.set_taken.new.taken (search (rules, places))) (omega (arith, one, g.counted, none_shown g c.args.head c.requires.kept, none, c.push_reserved.ensures.len))

pub invariant_of-self-clause-fits : goal.invariant_of-self-clause-fits
invariant_of-self-clause-fits c = ap (λ (n : ℕ). n == 0) (kept_by c.args.self.now c.args.head c.requires.kept).no_batch

pub returns-clause-lies : goal.returns-clause-lies
returns-clause-lies c sizes capacity h =
    let s = state_of c.args.self.now in
    let u = accepted c.args.head s in
    let k = kept_by c.args.self.now c.args.head c.requires.kept in
    lies_same u _ refl refl (c.push_reserved.ensures.items ∙ ap (λ (x : Task). s.unfinished ++ x ∷ []) c.new.ensures.is) sizes capacity (lies_accepted c.args.head s u k.below refl sizes capacity h)
