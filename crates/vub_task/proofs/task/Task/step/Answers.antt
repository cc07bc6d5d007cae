use Rattle.std.proofs.Common.{ℕ, List, ◌≡◌, ◌∙◌, sym, ap, subst}
use Rattle.vub_direct_chain.specs.ChainState.{BreaksRule}
use Rattle.vub_direct_chain.specs.declared.chain.Unread.{Unread}
use Rattle.std.specs.Prelude.{Ok, Option, Some, option_map}
use Rattle.vub_direct_chain.proofs.ChainReading.{reads_broken}
use Rattle.vub_task.proofs.ArmLemmas.{made_map, next_still, next_with, begins_by}
use Rattle.vub_shared.specs.Bytes.{Bytes}
use Rattle.vub_shared.specs.Stores.{Store}
use Rattle.vub_task.specs.TaskState.{IfMade, store_in, with_maybe, Starts, Worked}
use Rattle.vub_task.proofs.task.Task.step.Goals as goal

pub returns-in-Ok-clause-answer : goal.returns-in-Ok-clause-answer
returns-in-Ok-clause-answer g c n m told is ready =
    let r = c.args.ring.now in
    let here = next_with _ _ r m n c.capacity.result (sym c.capacity.ensures) is in
    let works = c.in-Ok.ensures.ready n m told here ready in
    c.go_on.ensures.answer r n m (c.prepare.ensures.only_loads.same_told ∙ told) (next_still _ _ _ r m n c.prepare.ensures.only_loads.spaces.same_sizes is) works

pub returns-in-Err-Broken-clause-answer : goal.returns-in-Err-Broken-clause-answer
returns-in-Err-Broken-clause-answer g c n m told is ready =
    let here = next_with _ _ c.args.ring.now m n c.capacity.result (sym c.capacity.ensures) is in
    absurd (reads_broken c.in-Err-Broken.field-0 c.in-Err-Broken.fault _ c.in-Err-Broken.field-0-is (c.in-Err-Broken.ensures.ready n m told here ready))

pub returns-in-Ok-clause-stored : goal.returns-in-Ok-clause-stored
returns-in-Ok-clause-stored g c n m told is ready =
    let r = c.args.ring.now in
    let here = next_with _ _ r m n c.capacity.result (sym c.capacity.ensures) is in
    let works = c.in-Ok.ensures.ready n m told here ready in
    c.go_on.ensures.stored r n m (c.prepare.ensures.only_loads.same_told ∙ told) (next_still _ _ _ r m n c.prepare.ensures.only_loads.spaces.same_sizes is) works

pub returns-in-Err-Broken-clause-stored : goal.returns-in-Err-Broken-clause-stored
returns-in-Err-Broken-clause-stored g c n m told is ready =
    let here = next_with _ _ c.args.ring.now m n c.capacity.result (sym c.capacity.ensures) is in
    absurd (reads_broken c.in-Err-Broken.field-0 c.in-Err-Broken.fault _ c.in-Err-Broken.field-0-is (c.in-Err-Broken.ensures.ready n m told here ready))

pub returns-in-Ok-clause-looked : goal.returns-in-Ok-clause-looked
returns-in-Ok-clause-looked g c n m told is ready =
    let r = c.args.ring.now in
    let here = next_with _ _ r m n c.capacity.result (sym c.capacity.ensures) is in
    let works = c.in-Ok.ensures.ready n m told here ready in
    c.go_on.ensures.looked r n m (c.prepare.ensures.only_loads.same_told ∙ told) (next_still _ _ _ r m n c.prepare.ensures.only_loads.spaces.same_sizes is) works

pub returns-in-Err-Broken-clause-looked : goal.returns-in-Err-Broken-clause-looked
returns-in-Err-Broken-clause-looked g c n m told is ready =
    let here = next_with _ _ c.args.ring.now m n c.capacity.result (sym c.capacity.ensures) is in
    absurd (reads_broken c.in-Err-Broken.field-0 c.in-Err-Broken.fault _ c.in-Err-Broken.field-0-is (c.in-Err-Broken.ensures.ready n m told here ready))

pub returns-in-Ok-clause-written : goal.returns-in-Ok-clause-written
returns-in-Ok-clause-written g c n m told is ready =
    let r = c.args.ring.now in
    let here = next_with _ _ r m n c.capacity.result (sym c.capacity.ensures) is in
    let works = c.in-Ok.ensures.ready n m told here ready in
    c.go_on.ensures.written r n m (c.prepare.ensures.only_loads.same_told ∙ told) (next_still _ _ _ r m n c.prepare.ensures.only_loads.spaces.same_sizes is) works

pub returns-in-Err-Broken-clause-written : goal.returns-in-Err-Broken-clause-written
returns-in-Err-Broken-clause-written g c n m told is ready =
    let here = next_with _ _ c.args.ring.now m n c.capacity.result (sym c.capacity.ensures) is in
    absurd (reads_broken c.in-Err-Broken.field-0 c.in-Err-Broken.fault _ c.in-Err-Broken.field-0-is (c.in-Err-Broken.ensures.ready n m told here ready))

pub returns-in-Ok-clause-goes_on : goal.returns-in-Ok-clause-goes_on
returns-in-Ok-clause-goes_on g c n m told is ready =
    let r = c.args.ring.now in
    let here = next_with _ _ r m n c.capacity.result (sym c.capacity.ensures) is in
    let works = c.in-Ok.ensures.ready n m told here ready in
    c.go_on.ensures.goes_on r n m (c.prepare.ensures.only_loads.same_told ∙ told) (next_still _ _ _ r m n c.prepare.ensures.only_loads.spaces.same_sizes is) works

pub returns-in-Err-Broken-clause-goes_on : goal.returns-in-Err-Broken-clause-goes_on
returns-in-Err-Broken-clause-goes_on g c n m told is ready =
    let here = next_with _ _ c.args.ring.now m n c.capacity.result (sym c.capacity.ensures) is in
    absurd (reads_broken c.in-Err-Broken.field-0 c.in-Err-Broken.fault _ c.in-Err-Broken.field-0-is (c.in-Err-Broken.ensures.ready n m told here ready))

pub returns-in-Ok-clause-trails : goal.returns-in-Ok-clause-trails
returns-in-Ok-clause-trails g c n m told is ready =
    let r = c.args.ring.now in
    let here = next_with _ _ r m n c.capacity.result (sym c.capacity.ensures) is in
    let works = c.in-Ok.ensures.ready n m told here ready in
    let now = g.M.Shared.trail c.go_on.new.mem in
    let made : IfMade (Some c.go_on.result) (λ x. now ≡ option_map (with_maybe (store_in r n c.args.sector.now)) (g.M.Shared.trail c.prepare.new.mem)) =
    c.go_on.ensures.trails r n m (c.prepare.ensures.only_loads.same_told ∙ told) (next_still _ _ _ r m n c.prepare.ensures.only_loads.spaces.same_sizes is) works in
    made_map _ _ (Some c.go_on.result) (λ x same. same ∙ ap (option_map (with_maybe (store_in r n c.args.sector.now))) c.prepare.ensures.only_loads.same_trail) made

pub returns-in-Err-Broken-clause-trails : goal.returns-in-Err-Broken-clause-trails
returns-in-Err-Broken-clause-trails g c n m told is ready =
    let here = next_with _ _ c.args.ring.now m n c.capacity.result (sym c.capacity.ensures) is in
    absurd (reads_broken c.in-Err-Broken.field-0 c.in-Err-Broken.fault _ c.in-Err-Broken.field-0-is (c.in-Err-Broken.ensures.ready n m told here ready))

pub returns-in-Ok-clause-begins : goal.returns-in-Ok-clause-begins
returns-in-Ok-clause-begins g c fresh m told =
    let sizes = g.M.Shared.sizes c.args.mem.now in
    let starts = c.in-Ok.ensures.starts fresh m told in
    let here : Starts sizes c.args.ring.now m c.args.self.now.head (g.D.Disk.capacity c.args.disk.now) (Ok c.in-Ok.work) = subst (λ (k : ℕ). Starts sizes c.args.ring.now m c.args.self.now.head k (Ok c.in-Ok.work)) c.capacity.ensures starts in
    let sector = c.args.sector.now in
    let after = c.go_on.new.sector in
    let told_now = g.M.Shared.told c.go_on.new.mem in
    let trail_now = g.M.Shared.trail c.go_on.new.mem in
    let v = g.D.Disk.values c.args.disk.now in
    let v_now = g.D.Disk.values c.go_on.new.disk in
    let known : g.M.Shared.told c.prepare.new.mem ≡ Some m = c.prepare.ensures.only_loads.same_told ∙ told in
    let by : Option Bytes → Option (List Store) → Type 0 = λ x y. Worked c.in-Ok.work sector after c.go_on.result c.go_on.new.self.work x told_now y trail_now v v_now in
    let worked = subst (by (Some m)) c.prepare.ensures.only_loads.same_trail (subst (λ (x : Option Bytes). by x (g.M.Shared.trail c.prepare.new.mem)) known c.go_on.ensures.worked) in
    begins_by sizes c.args.ring.now m c.args.self.now.head (g.D.Disk.capacity c.args.disk.now) sector after c.go_on.result c.go_on.new.self.work c.in-Ok.work told_now (g.M.Shared.trail c.args.mem.now) trail_now v v_now here worked

pub returns-in-Err-Broken-clause-begins : goal.returns-in-Err-Broken-clause-begins
returns-in-Err-Broken-clause-begins g c fresh m told =
    let sizes = g.M.Shared.sizes c.args.mem.now in
    (subst (λ (e : Unread). BreaksRule sizes c.args.ring.now m c.args.self.now.head e) c.in-Err-Broken.field-0-is (c.in-Err-Broken.ensures.starts fresh m told), c.in-Err-Broken.ensures.only_loads.same_told ∙ told)
