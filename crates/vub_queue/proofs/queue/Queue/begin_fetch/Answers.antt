use Rattle.std.proofs.Common.{ℕ, ◌≡◌, sym, ◌∙◌, subst}
use Rattle.std.specs.Prelude.{Option, Ok, Some, nat_lt, true}
use Rattle.vub_base.specs.Told.{WhereTold}
use Rattle.vub_queue.specs.QueueState.{QueueState, state_of, Finds, Moves, Unless, is_fault, fetch_under_way}
use Rattle.vub_shared.specs.Bytes.{Bytes}
use Rattle.vub_queue.proofs.MoveLemmas.{ready_by, fetches_by}
use Rattle.vub_queue.proofs.queue.Queue.begin_fetch.Goals as goal
use Rattle.vub_steps.specs.Readiness.{last_counter}

pub returns-in-Ok-Some-clause-fetches : goal.returns-in-Ok-Some-clause-fetches
returns-in-Ok-Some-clause-fetches g c =
    let s : QueueState = state_of c.args.self.now in
    let head : ℕ = c.in-Ok-Some.head in
    let counts : nat_lt s.counter last_counter ≡ true = sym c.counts.ensures ∙ c.if-not-counts.false in
    let found : WhereTold (g.M.Shared.told c.args.mem.now) (λ m. Finds s m (Ok (Some head))) = λ m tells. subst (λ (o : Option ℕ). Finds s m (Ok o)) c.in-Ok-Some.field-0-is (c.in-Ok-Some.ensures.found m tells) in
    fetches_by (g.M.Shared.told c.args.mem.now) c.store_counter.result s (state_of c.store_counter.new.self) c.store_counter.ensures.stores
    (λ m tells. ready_by s m c.requires.started c.requires.resting counts (found m tells).0.some)
    (λ m tells. subst (λ (h : ℕ). Finds s m (Ok (Some h))) (found m tells).1 (found m tells))
    (subst (λ (o : Option Bytes). Unless (is_fault c.store_counter.result) (Moves o c.store_counter.result (fetch_under_way s) (state_of c.store_counter.new.self))) c.next_head.ensures.only_loads.same_told c.store_counter.ensures.moves)
