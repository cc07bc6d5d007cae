use Rattle.std.proofs.Common.{ℕ, sym, subst}
use Rattle.std.specs.Prelude.{Option, List, set, option_map}
use Rattle.vub_queue.specs.declared.queue.Queue.{Queue}
use Rattle.vub_queue.specs.QueueState.{QueueState, state_of}
use Rattle.vub_queue.specs.Turned.{Outside, outside}
use Rattle.vub_backend.specs.Backends.{states_of, Steps, EachLies, KeepsOthers}
use Rattle.vub_backend.proofs.BackendLemmas.{found_in, lies_there, steps_there, each_lies, states_set, none_past, steps_nowhere}
use Rattle.vub_backend.proofs.DrainLemmas.{others_stay}
use Rattle.vub_backend.proofs.backend.Backend.step.Goals as goal

pub step_of-requires : goal.step_of-requires
step_of-requires g c =
    let queues : List (Option Queue) = c.args.self.now.queues.items in
    lies_there (g.M.Shared.sizes c.args.mem.now) (g.D.Disk.capacity c.args.disk.now) queues c.args.queue c.in-Some.queue.now
    (found_in queues c.from.result c.args.queue c.in-Some.queue.now c.from.ensures c.in-Some.ensures.item.3.0 c.in-Some.ensures.item.1) c.requires

pub returns-in-Some-clause-steps : goal.returns-in-Some-clause-steps
returns-in-Some-clause-steps g c =
    let before : Outside = outside g.M.Shared g.D.Disk g.B.Bell c.args.mem.now c.args.disk.now c.args.bell.now in
    let after : Outside = outside g.M.Shared g.D.Disk g.B.Bell c.step_of.new.mem c.step_of.new.disk c.step_of.new.bell in
    let queues : List (Option Queue) = c.args.self.now.queues.items in
    subst (λ (i : ℕ). Steps c.args.queue c.args.choice before after c.step_of.result (states_of queues) (states_of (set queues i c.step_of.new.queue))) (sym c.from.ensures)
    (steps_there c.args.choice before after c.step_of.result queues c.args.queue c.in-Some.queue.now c.step_of.new.queue
    (found_in queues c.from.result c.args.queue c.in-Some.queue.now c.from.ensures c.in-Some.ensures.item.3.0 c.in-Some.ensures.item.1) c.step_of.ensures)

pub returns-in-Some-clause-lies : goal.returns-in-Some-clause-lies
returns-in-Some-clause-lies g c =
    let before : Outside = outside g.M.Shared g.D.Disk g.B.Bell c.args.mem.now c.args.disk.now c.args.bell.now in
    let after : Outside = outside g.M.Shared g.D.Disk g.B.Bell c.step_of.new.mem c.step_of.new.disk c.step_of.new.bell in
    let queues : List (Option Queue) = c.args.self.now.queues.items in
    subst (λ qs. EachLies after.sizes after.capacity qs) (sym (states_set queues c.from.result c.step_of.new.queue))
    (each_lies c.args.choice before after c.step_of.result (states_of queues) c.from.result (option_map state_of c.in-Some.queue.now) (option_map state_of c.step_of.new.queue) c.step_of.ensures c.requires)

pub returns-in-None-clause-steps : goal.returns-in-None-clause-steps
returns-in-None-clause-steps g c =
    let before : Outside = outside g.M.Shared g.D.Disk g.B.Bell c.args.mem.now c.args.disk.now c.args.bell.now in
    let queues : List (Option Queue) = c.args.self.now.queues.items in
    steps_nowhere c.args.choice before (states_of queues) c.args.queue (none_past queues c.from.result c.args.queue c.from.ensures c.in-None.ensures.item.3)

pub returns-in-Some-clause-others : goal.returns-in-Some-clause-others
returns-in-Some-clause-others g c =
    let queues : List (Option Queue) = c.args.self.now.queues.items in
    subst (λ (now : List (Option QueueState)). KeepsOthers c.args.queue (states_of queues) now) (sym (states_set queues c.from.result c.step_of.new.queue))
    (subst (λ (i : ℕ). KeepsOthers i (states_of queues) (set (states_of queues) c.from.result (option_map state_of c.step_of.new.queue))) c.from.ensures
    (others_stay (states_of queues) c.from.result (option_map state_of c.step_of.new.queue)))
