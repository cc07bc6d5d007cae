use Rattle.std.proofs.Common.{◌≡◌, ◌∙◌, suc, ◌+◌, ◌-◌, ◌^◌, sym, arith}
use Rattle.std.specs.Prelude.{List, Option}
use Rattle.vub_queue.specs.QueueState.{QueueState}
use Rattle.vub_queue.specs.Turned.{Outside, outside}
use Rattle.vub_backend.specs.Backends.{queues_of}
use Rattle.vub_backend.proofs.DrainLemmas.{others_still, drained_on, drained_idle, drained_most}
use Rattle.vub_backend.proofs.backend.Backend.drain.Goals as goal

pub loop-done-preserved : goal.loop-done-preserved
loop-done-preserved g c =
    let before : Outside = outside g.M.Shared g.D.Disk g.B.Bell c.args.mem.now c.args.disk.now c.args.bell.now in
    let mid : Outside = outside g.M.Shared g.D.Disk g.B.Bell c.loop-done.mem c.loop-done.disk c.loop-done.bell in
    let after : Outside = outside g.M.Shared g.D.Disk g.B.Bell c.step-stepped.new.mem c.step-stepped.new.disk c.step-stepped.new.bell in
    let queues : List (Option QueueState) = queues_of c.args.self.now in
    let between : List (Option QueueState) = queues_of c.loop-done.self in
    let now : List (Option QueueState) = queues_of c.step-stepped.new.self in
    let busy = sym c.is_idle.ensures ∙ c.if-is_idle.false in
    let next : c.loop-done.done + 1 ≡ suc c.loop-done.done = omega arith in
    record {
      lies = c.step-stepped.ensures.lies;
      drained = drained_on c.args.queue c.loop-done.done (c.loop-done.done + 1) before mid after queues between now c.loop-done.accepted c.accepted_after-accepted.result c.step-stepped.result
          c.loop-done.invariant.drained c.step-stepped.ensures.steps busy next c.accepted_after-accepted.ensures;
      others = others_still c.args.queue queues between now c.loop-done.invariant.others c.step-stepped.ensures.others;
    }

pub returns-then-is_idle-clause-drains : goal.returns-then-is_idle-clause-drains
returns-then-is_idle-clause-drains g c =
    let before : Outside = outside g.M.Shared g.D.Disk g.B.Bell c.args.mem.now c.args.disk.now c.args.bell.now in
    let mid : Outside = outside g.M.Shared g.D.Disk g.B.Bell c.loop-done.mem c.loop-done.disk c.loop-done.bell in
    let after : Outside = outside g.M.Shared g.D.Disk g.B.Bell c.step-stepped.new.mem c.step-stepped.new.disk c.step-stepped.new.bell in
    let queues : List (Option QueueState) = queues_of c.args.self.now in
    let between : List (Option QueueState) = queues_of c.loop-done.self in
    let now : List (Option QueueState) = queues_of c.step-stepped.new.self in
    drained_idle c.args.queue c.loop-done.done before mid after queues between now c.loop-done.accepted c.step-stepped.result c.loop-done.invariant.drained c.step-stepped.ensures.steps (sym c.is_idle.ensures ∙ c.if-is_idle.true)

pub returns-clause-drains : goal.returns-clause-drains
returns-clause-drains g c =
    let before : Outside = outside g.M.Shared g.D.Disk g.B.Bell c.args.mem.now c.args.disk.now c.args.bell.now in
    let after : Outside = outside g.M.Shared g.D.Disk g.B.Bell c.loop-done.mem c.loop-done.disk c.loop-done.bell in
    let most : c.loop-done.done ≡ 2 ^ 64 - 1 = omega (arith, c.loop-done-test.false, c.loop-done.auto.done-end) in
    drained_most c.args.queue c.loop-done.done before after (queues_of c.args.self.now) (queues_of c.loop-done.self) c.loop-done.accepted c.loop-done.invariant.drained most
