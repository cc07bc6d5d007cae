use Rattle.std.proofs.Common.{◌≡◌, ◌≤◌, ◌<◌, ◌+◌, ◌*◌, ◌/◌, ◌∙◌, ℕ, suc, sym, ap, subst, rules}
use Rattle.std.specs.Prelude.{Option, Some, option_map, slice_get}
use Rattle.vub_base.specs.declared.store.Tag.TheVariants.{T2}
use Rattle.vub_steps.specs.Tasks.{RequestStep, Look, Put, Act, Status, task_steps, status_of}
use Rattle.vub_task.specs.declared.task.Work.{Work}
use Rattle.vub_task.specs.TaskState.{Worked, IfMade, answer_to, store_of, after_maybe, with_maybe, values_after, IsTaskAt}
use Rattle.vub_task.specs.declared.task.Answer.{Answer}
use Rattle.vub_task.specs.declared.task.Transfer.{Transfer}
use Rattle.vub_task.specs.declared.task.TaskStep.TheVariants as answers
use Rattle.std.proofs.Common.{add-zero, ◌-◌, inl, inr, List}
use Rattle.std.proofs.lemmas.Bool.{cases_lt}
use Rattle.byteorder.specs.Endian.{little_bytes}
use Rattle.vub_base.specs.Told.{WhereTold}
use Rattle.vub_shared.specs.Bytes.{bytes_from}
use Rattle.vub_shared.specs.Stores.{one_store, after_store, after_in_trail}
use Rattle.vub_disk.specs.Values.{with_value}
use Rattle.vub_driver.specs.Layout.{status_place}
use Rattle.vub_direct_chain.specs.ChainState.{sector_of, data_start, data_len}
use Rattle.vub_task.specs.declared.task.Work.TheVariants as work
use Rattle.vub_task.proofs.StepLemmas.{OfRequest, step_of}
use Rattle.vub_task.proofs.ArmLemmas.{look_arm, store_arm, act_arm, sync_arm, reply_arm, made_map, goes_on, ends, same_values, same_trail, status_byte, acted}
use Rattle.vub_task.proofs.task.Task.go_on.Goals as goal

pub returns-in-Look-clause-answer : goal.returns-in-Look-clause-answer
returns-in-Look-clause-answer g c r n m told is works =
    let h = n.header in
    let after : Option RequestStep = slice_get (task_steps h n.request) (suc n.made) in
    let sectors = g.D.Disk.capacity c.args.disk.now in
    let known : OfRequest h.capacity n.request after n.step = step_of h n.request n.made n.step is.served.basic is.served.cached is.next in
    look_arm h r n.buffer n.request n.step c.in-Look.transfer (sym c.in-Look.is ∙ works)
    (λ (s : RequestStep) (t : Transfer). OfRequest h.capacity n.request after s → (IfMade (Some c.look.result) (λ a. a ≡ answers.Looked (t.sector + t.done))) → IfMade (Some c.look.result) (λ a. a ≡ answer_to h n.request s))
    (λ q of e. e) known c.look.ensures.answer

pub returns-in-Store-clause-answer : goal.returns-in-Store-clause-answer
returns-in-Store-clause-answer g c r n m told is works =
    let h = n.header in
    let after : Option RequestStep = slice_get (task_steps h n.request) (suc n.made) in
    let sizes = g.M.Shared.sizes c.args.mem.now in
    let known : OfRequest h.capacity n.request after n.step = step_of h n.request n.made n.step is.served.basic is.served.cached is.next in
    store_arm h r n.buffer n.request n.step c.in-Store.transfer (sym c.in-Store.is ∙ works)
    (λ (s : RequestStep) (t : Transfer). OfRequest h.capacity n.request after s → (IfMade (Some c.store.result) (λ a. a ≡ answers.Stored T2)) → IfMade (Some c.store.result) (λ a. a ≡ answer_to h n.request s))
    (λ q of e. e) known c.store.ensures.answer

pub returns-in-Act-clause-answer : goal.returns-in-Act-clause-answer
returns-in-Act-clause-answer g c r n m told is works =
    let h = n.header in
    let after : Option RequestStep = slice_get (task_steps h n.request) (suc n.made) in
    let sizes = g.M.Shared.sizes c.args.mem.now in
    let sectors = g.D.Disk.capacity c.args.disk.now in
    let known : OfRequest h.capacity n.request after n.step = step_of h n.request n.made n.step is.served.basic is.served.cached is.next in
    act_arm h r n.buffer n.request n.step c.in-Act.transfer (sym c.in-Act.is ∙ works)
    (λ (s : RequestStep) (t : Transfer). OfRequest h.capacity n.request after s → (IfMade (Some c.act.result) (λ a. a ≡ answers.Acted (t.sector + t.done))) → IfMade (Some c.act.result) (λ a. a ≡ answer_to h n.request s))
    (λ q of e. e) known c.act.ensures.answer

pub returns-in-Sync-clause-answer : goal.returns-in-Sync-clause-answer
returns-in-Sync-clause-answer g c r n m told is works =
    let h = n.header in
    sync_arm h r n.buffer n.request n.step c.in-Sync.answer (sym c.in-Sync.is ∙ works) (λ (s : RequestStep) (a : Answer). IfMade (Some c.sync.result) (λ a. a ≡ answer_to h n.request s)) c.sync.ensures.answer

pub returns-in-Reply-clause-answer : goal.returns-in-Reply-clause-answer
returns-in-Reply-clause-answer g c r n m told is works =
    let h = n.header in
    let sizes = g.M.Shared.sizes c.args.mem.now in
    reply_arm h r n.buffer n.request n.step c.in-Reply.answer (sym c.in-Reply.is ∙ works)
    (λ (s : RequestStep) (a : Answer). (IfMade (Some c.reply.result) (λ x. x ≡ answers.Done a.status a.len)) → IfMade (Some c.reply.result) (λ x. x ≡ answer_to h n.request s))
    (λ e. e) c.reply.ensures.answer

pub returns-in-Look-clause-stored : goal.returns-in-Look-clause-stored
returns-in-Look-clause-stored g c r n m told is works =
    let h = n.header in
    let after : Option RequestStep = slice_get (task_steps h n.request) (suc n.made) in
    let sizes = g.M.Shared.sizes c.args.mem.now in
    let sectors = g.D.Disk.capacity c.args.disk.now in
    let vals = g.D.Disk.values c.args.disk.now in
    let known : OfRequest h.capacity n.request after n.step = step_of h n.request n.made n.step is.served.basic is.served.cached is.next in
    look_arm h r n.buffer n.request n.step c.in-Look.transfer (sym c.in-Look.is ∙ works)
    (λ (s : RequestStep) (t : Transfer). OfRequest h.capacity n.request after s → (IfMade (Some c.look.result) (λ x. x ≡ answers.Looked (t.sector + t.done))) → IfMade (Some c.look.result) (λ x. g.M.Shared.told c.args.mem.now ≡ Some (after_maybe (store_of h r n.buffer n.request c.args.sector.now s) m)))
    (λ q of e0. made_map _ _ (Some c.look.result) (λ x made. told) e0) known c.look.ensures.answer

pub returns-in-Look-clause-looked : goal.returns-in-Look-clause-looked
returns-in-Look-clause-looked g c r n m told is works =
    let h = n.header in
    let after : Option RequestStep = slice_get (task_steps h n.request) (suc n.made) in
    let sizes = g.M.Shared.sizes c.args.mem.now in
    let sectors = g.D.Disk.capacity c.args.disk.now in
    let vals = g.D.Disk.values c.args.disk.now in
    let known : OfRequest h.capacity n.request after n.step = step_of h n.request n.made n.step is.served.basic is.served.cached is.next in
    look_arm h r n.buffer n.request n.step c.in-Look.transfer (sym c.in-Look.is ∙ works)
    (λ (s : RequestStep) (t : Transfer). OfRequest h.capacity n.request after s → (IfMade (Some c.look.result) (λ x. WhereTold vals (λ v. c.look.new.sector ≡ v (t.sector + t.done)))) → IfMade (Some c.look.result) (λ x. WhereTold vals (λ v. (place : ℕ) → s ≡ Look place → c.look.new.sector ≡ v (sector_of n.request + place))))
    (λ q of e0. made_map _ _ (Some c.look.result) (λ x made v is_v place same. made v is_v ∙ ap (λ (k : ℕ). v (sector_of n.request + k)) (cc same)) e0) known c.look.ensures.read

pub returns-in-Look-clause-written : goal.returns-in-Look-clause-written
returns-in-Look-clause-written g c r n m told is works =
    let h = n.header in
    let after : Option RequestStep = slice_get (task_steps h n.request) (suc n.made) in
    let sizes = g.M.Shared.sizes c.args.mem.now in
    let sectors = g.D.Disk.capacity c.args.disk.now in
    let vals = g.D.Disk.values c.args.disk.now in
    let known : OfRequest h.capacity n.request after n.step = step_of h n.request n.made n.step is.served.basic is.served.cached is.next in
    look_arm h r n.buffer n.request n.step c.in-Look.transfer (sym c.in-Look.is ∙ works)
    (λ (s : RequestStep) (t : Transfer). OfRequest h.capacity n.request after s → (IfMade (Some c.look.result) (λ x. x ≡ answers.Looked (t.sector + t.done))) → IfMade (Some c.look.result) (λ x. g.D.Disk.values c.look.new.disk ≡ option_map (values_after n.request s) vals))
    (λ q of e0. made_map _ _ (Some c.look.result) (λ x made. c.look.ensures.values ∙ sym (same_values vals)) e0) known c.look.ensures.answer

pub returns-in-Look-clause-goes_on : goal.returns-in-Look-clause-goes_on
returns-in-Look-clause-goes_on g c r n m told is works =
    let h = n.header in
    let after : Option RequestStep = slice_get (task_steps h n.request) (suc n.made) in
    let sizes = g.M.Shared.sizes c.args.mem.now in
    let sectors = g.D.Disk.capacity c.args.disk.now in
    let vals = g.D.Disk.values c.args.disk.now in
    let known : OfRequest h.capacity n.request after n.step = step_of h n.request n.made n.step is.served.basic is.served.cached is.next in
    look_arm h r n.buffer n.request n.step c.in-Look.transfer (sym c.in-Look.is ∙ works)
    (λ (s : RequestStep) (t : Transfer). OfRequest h.capacity n.request after s → (IfMade (Some c.look.result) (λ x. c.look.new.self.work ≡ work.Store t)) → IfMade (Some c.look.result) (λ x. IsTaskAt h r n.buffer n.request (n.made + 1) c.look.new.self))
    (λ q of e0. made_map _ _ (Some c.look.result) (λ x made. goes_on h r n.buffer n.request n.made c.look.new.self (Put q) of.0.next made) e0) known c.look.ensures.next

pub returns-in-Store-clause-stored : goal.returns-in-Store-clause-stored
returns-in-Store-clause-stored g c r n m told is works =
    let h = n.header in
    let after : Option RequestStep = slice_get (task_steps h n.request) (suc n.made) in
    let sizes = g.M.Shared.sizes c.args.mem.now in
    let sectors = g.D.Disk.capacity c.args.disk.now in
    let vals = g.D.Disk.values c.args.disk.now in
    let known : OfRequest h.capacity n.request after n.step = step_of h n.request n.made n.step is.served.basic is.served.cached is.next in
    store_arm h r n.buffer n.request n.step c.in-Store.transfer (sym c.in-Store.is ∙ works)
    (λ (s : RequestStep) (t : Transfer). OfRequest h.capacity n.request after s → (IfMade (Some c.store.result) (λ x. g.M.Shared.told c.store.new.mem ≡ option_map (after_store (one_store t.span.space.number (t.span.place + 512 * t.done) c.args.sector.now)) (g.M.Shared.told c.args.mem.now))) → IfMade (Some c.store.result) (λ x. g.M.Shared.told c.store.new.mem ≡ Some (after_maybe (store_of h r n.buffer n.request c.args.sector.now s) m)))
    (λ q of e0. made_map _ _ (Some c.store.result) (λ x made. made ∙ ap (option_map (after_store (one_store r.desc.0.number (data_start n.buffer n.request + 512 * q) c.args.sector.now))) told) e0) known c.store.ensures.stored

pub returns-in-Store-clause-looked : goal.returns-in-Store-clause-looked
returns-in-Store-clause-looked g c r n m told is works =
    let h = n.header in
    let after : Option RequestStep = slice_get (task_steps h n.request) (suc n.made) in
    let sizes = g.M.Shared.sizes c.args.mem.now in
    let sectors = g.D.Disk.capacity c.args.disk.now in
    let vals = g.D.Disk.values c.args.disk.now in
    let known : OfRequest h.capacity n.request after n.step = step_of h n.request n.made n.step is.served.basic is.served.cached is.next in
    store_arm h r n.buffer n.request n.step c.in-Store.transfer (sym c.in-Store.is ∙ works)
    (λ (s : RequestStep) (t : Transfer). OfRequest h.capacity n.request after s → (IfMade (Some c.store.result) (λ x. x ≡ answers.Stored T2)) → IfMade (Some c.store.result) (λ x. WhereTold vals (λ v. (place : ℕ) → s ≡ Look place → c.args.sector.now ≡ v (sector_of n.request + place))))
    (λ q of e0. made_map _ _ (Some c.store.result) (λ x made v is_v place same. absurd (cc same)) e0) known c.store.ensures.answer

pub returns-in-Store-clause-written : goal.returns-in-Store-clause-written
returns-in-Store-clause-written g c r n m told is works =
    let h = n.header in
    let after : Option RequestStep = slice_get (task_steps h n.request) (suc n.made) in
    let sizes = g.M.Shared.sizes c.args.mem.now in
    let sectors = g.D.Disk.capacity c.args.disk.now in
    let vals = g.D.Disk.values c.args.disk.now in
    let known : OfRequest h.capacity n.request after n.step = step_of h n.request n.made n.step is.served.basic is.served.cached is.next in
    store_arm h r n.buffer n.request n.step c.in-Store.transfer (sym c.in-Store.is ∙ works)
    (λ (s : RequestStep) (t : Transfer). OfRequest h.capacity n.request after s → (IfMade (Some c.store.result) (λ x. x ≡ answers.Stored T2)) → IfMade (Some c.store.result) (λ x. vals ≡ option_map (values_after n.request s) vals))
    (λ q of e0. made_map _ _ (Some c.store.result) (λ x made. sym (same_values vals)) e0) known c.store.ensures.answer

pub returns-in-Store-clause-goes_on : goal.returns-in-Store-clause-goes_on
returns-in-Store-clause-goes_on g c r n m told is works =
    let h = n.header in
    let after : Option RequestStep = slice_get (task_steps h n.request) (suc n.made) in
    let sizes = g.M.Shared.sizes c.args.mem.now in
    let sectors = g.D.Disk.capacity c.args.disk.now in
    let vals = g.D.Disk.values c.args.disk.now in
    let known : OfRequest h.capacity n.request after n.step = step_of h n.request n.made n.step is.served.basic is.served.cached is.next in
    store_arm h r n.buffer n.request n.step c.in-Store.transfer (sym c.in-Store.is ∙ works)
    (λ (s : RequestStep) (t : Transfer). OfRequest h.capacity n.request after s → (t.done + 1 < t.count → IfMade (Some c.store.result) (λ x. c.store.new.self.work ≡ work.Look (record t { done = t.done + 1 }))) → (t.count ≤ t.done + 1 → IfMade (Some c.store.result) (λ x. c.store.new.self.work ≡ work.Reply t.answer)) → IfMade (Some c.store.result) (λ x. IsTaskAt h r n.buffer n.request (n.made + 1) c.store.new.self))
    (λ q of e0 e1. elim (cases_lt (q + 1) (data_len n.request / 512)) [
      | inl low ↦ made_map _ _ (Some c.store.result) (λ x made. goes_on h r n.buffer n.request n.made c.store.new.self (Look (q + 1)) (of.more low) made) (e0 low)
      | inr high ↦ made_map _ _ (Some c.store.result) (λ x made. goes_on h r n.buffer n.request n.made c.store.new.self Status (of.last high) made) (e1 high)
    ]) known c.store.ensures.more c.store.ensures.last

pub returns-in-Act-clause-stored : goal.returns-in-Act-clause-stored
returns-in-Act-clause-stored g c r n m told is works =
    let h = n.header in
    let after : Option RequestStep = slice_get (task_steps h n.request) (suc n.made) in
    let sizes = g.M.Shared.sizes c.args.mem.now in
    let sectors = g.D.Disk.capacity c.args.disk.now in
    let vals = g.D.Disk.values c.args.disk.now in
    let known : OfRequest h.capacity n.request after n.step = step_of h n.request n.made n.step is.served.basic is.served.cached is.next in
    act_arm h r n.buffer n.request n.step c.in-Act.transfer (sym c.in-Act.is ∙ works)
    (λ (s : RequestStep) (t : Transfer). OfRequest h.capacity n.request after s → (IfMade (Some c.act.result) (λ x. x ≡ answers.Acted (t.sector + t.done))) → IfMade (Some c.act.result) (λ x. g.M.Shared.told c.act.new.mem ≡ Some (after_maybe (store_of h r n.buffer n.request c.args.sector.now s) m)))
    (λ q of e0. made_map _ _ (Some c.act.result) (λ x made. c.act.ensures.only_loads.same_told ∙ told) e0) known c.act.ensures.answer

pub returns-in-Act-clause-looked : goal.returns-in-Act-clause-looked
returns-in-Act-clause-looked g c r n m told is works =
    let h = n.header in
    let after : Option RequestStep = slice_get (task_steps h n.request) (suc n.made) in
    let sizes = g.M.Shared.sizes c.args.mem.now in
    let sectors = g.D.Disk.capacity c.args.disk.now in
    let vals = g.D.Disk.values c.args.disk.now in
    let known : OfRequest h.capacity n.request after n.step = step_of h n.request n.made n.step is.served.basic is.served.cached is.next in
    act_arm h r n.buffer n.request n.step c.in-Act.transfer (sym c.in-Act.is ∙ works)
    (λ (s : RequestStep) (t : Transfer). OfRequest h.capacity n.request after s → (IfMade (Some c.act.result) (λ x. x ≡ answers.Acted (t.sector + t.done))) → IfMade (Some c.act.result) (λ x. WhereTold vals (λ v. (place : ℕ) → s ≡ Look place → c.act.new.sector ≡ v (sector_of n.request + place))))
    (λ q of e0. made_map _ _ (Some c.act.result) (λ x made v is_v place same. absurd (cc same)) e0) known c.act.ensures.answer

pub returns-in-Act-clause-written : goal.returns-in-Act-clause-written
returns-in-Act-clause-written g c r n m told is works =
    let h = n.header in
    let after : Option RequestStep = slice_get (task_steps h n.request) (suc n.made) in
    let sizes = g.M.Shared.sizes c.args.mem.now in
    let sectors = g.D.Disk.capacity c.args.disk.now in
    let vals = g.D.Disk.values c.args.disk.now in
    let known : OfRequest h.capacity n.request after n.step = step_of h n.request n.made n.step is.served.basic is.served.cached is.next in
    act_arm h r n.buffer n.request n.step c.in-Act.transfer (sym c.in-Act.is ∙ works)
    (λ (s : RequestStep) (t : Transfer). OfRequest h.capacity n.request after s → (IfMade (Some c.act.result) (λ x. WhereTold (g.M.Shared.told c.args.mem.now) (λ m. g.D.Disk.values c.act.new.disk ≡ option_map (with_value (t.sector + t.done) (bytes_from 512 m t.span.space.number (t.span.place + 512 * t.done))) vals))) → IfMade (Some c.act.result) (λ x. g.D.Disk.values c.act.new.disk ≡ option_map (values_after n.request s) vals))
    (λ q of e0. made_map _ _ (Some c.act.result) (λ x made. acted q n.request m r.desc.0.number (data_start n.buffer n.request) vals (g.D.Disk.values c.act.new.disk) is.means.handed of.0.within of.2 of.3 (made m told)) e0) known c.act.ensures.written

pub returns-in-Act-clause-goes_on : goal.returns-in-Act-clause-goes_on
returns-in-Act-clause-goes_on g c r n m told is works =
    let h = n.header in
    let after : Option RequestStep = slice_get (task_steps h n.request) (suc n.made) in
    let sizes = g.M.Shared.sizes c.args.mem.now in
    let sectors = g.D.Disk.capacity c.args.disk.now in
    let vals = g.D.Disk.values c.args.disk.now in
    let known : OfRequest h.capacity n.request after n.step = step_of h n.request n.made n.step is.served.basic is.served.cached is.next in
    act_arm h r n.buffer n.request n.step c.in-Act.transfer (sym c.in-Act.is ∙ works)
    (λ (s : RequestStep) (t : Transfer). OfRequest h.capacity n.request after s → (t.done + 1 < t.count → IfMade (Some c.act.result) (λ x. c.act.new.self.work ≡ work.Act (record t { done = t.done + 1 }))) → (t.count ≤ t.done + 1 → IfMade (Some c.act.result) (λ x. c.act.new.self.work ≡ work.Reply t.answer)) → IfMade (Some c.act.result) (λ x. IsTaskAt h r n.buffer n.request (n.made + 1) c.act.new.self))
    (λ q of e0 e1. elim (cases_lt (q + 1) (data_len n.request / 512)) [
      | inl low ↦ made_map _ _ (Some c.act.result) (λ x made. goes_on h r n.buffer n.request n.made c.act.new.self (Act (q + 1)) (of.0.more low) made) (e0 low)
      | inr high ↦ made_map _ _ (Some c.act.result) (λ x made. goes_on h r n.buffer n.request n.made c.act.new.self Status (of.0.last high) made) (e1 high)
    ]) known c.act.ensures.more c.act.ensures.last

pub returns-in-Sync-clause-stored : goal.returns-in-Sync-clause-stored
returns-in-Sync-clause-stored g c r n m told is works =
    let h = n.header in
    let after : Option RequestStep = slice_get (task_steps h n.request) (suc n.made) in
    let sizes = g.M.Shared.sizes c.args.mem.now in
    let sectors = g.D.Disk.capacity c.args.disk.now in
    let vals = g.D.Disk.values c.args.disk.now in
    let known : OfRequest h.capacity n.request after n.step = step_of h n.request n.made n.step is.served.basic is.served.cached is.next in
    sync_arm h r n.buffer n.request n.step c.in-Sync.answer (sym c.in-Sync.is ∙ works)
    (λ (s : RequestStep) (a : Answer). OfRequest h.capacity n.request after s → (IfMade (Some c.sync.result) (λ x. x ≡ answers.Synced)) → IfMade (Some c.sync.result) (λ x. g.M.Shared.told c.args.mem.now ≡ Some (after_maybe (store_of h r n.buffer n.request c.args.sector.now s) m)))
    (λ of e. made_map _ _ (Some c.sync.result) (λ x made. told) e) known c.sync.ensures.answer

pub returns-in-Sync-clause-looked : goal.returns-in-Sync-clause-looked
returns-in-Sync-clause-looked g c r n m told is works =
    let h = n.header in
    let after : Option RequestStep = slice_get (task_steps h n.request) (suc n.made) in
    let sizes = g.M.Shared.sizes c.args.mem.now in
    let sectors = g.D.Disk.capacity c.args.disk.now in
    let vals = g.D.Disk.values c.args.disk.now in
    let known : OfRequest h.capacity n.request after n.step = step_of h n.request n.made n.step is.served.basic is.served.cached is.next in
    sync_arm h r n.buffer n.request n.step c.in-Sync.answer (sym c.in-Sync.is ∙ works)
    (λ (s : RequestStep) (a : Answer). OfRequest h.capacity n.request after s → (IfMade (Some c.sync.result) (λ x. x ≡ answers.Synced)) → IfMade (Some c.sync.result) (λ x. WhereTold vals (λ v. (place : ℕ) → s ≡ Look place → c.args.sector.now ≡ v (sector_of n.request + place))))
    (λ of e. made_map _ _ (Some c.sync.result) (λ x made v is_v place same. absurd (cc same)) e) known c.sync.ensures.answer

pub returns-in-Sync-clause-written : goal.returns-in-Sync-clause-written
returns-in-Sync-clause-written g c r n m told is works =
    let h = n.header in
    let after : Option RequestStep = slice_get (task_steps h n.request) (suc n.made) in
    let sizes = g.M.Shared.sizes c.args.mem.now in
    let sectors = g.D.Disk.capacity c.args.disk.now in
    let vals = g.D.Disk.values c.args.disk.now in
    let known : OfRequest h.capacity n.request after n.step = step_of h n.request n.made n.step is.served.basic is.served.cached is.next in
    sync_arm h r n.buffer n.request n.step c.in-Sync.answer (sym c.in-Sync.is ∙ works)
    (λ (s : RequestStep) (a : Answer). OfRequest h.capacity n.request after s → (IfMade (Some c.sync.result) (λ x. x ≡ answers.Synced)) → IfMade (Some c.sync.result) (λ x. g.D.Disk.values c.sync.new.disk ≡ option_map (values_after n.request s) vals))
    (λ of e. made_map _ _ (Some c.sync.result) (λ x made. c.sync.ensures.values ∙ sym (same_values vals)) e) known c.sync.ensures.answer

pub returns-in-Sync-clause-goes_on : goal.returns-in-Sync-clause-goes_on
returns-in-Sync-clause-goes_on g c r n m told is works =
    let h = n.header in
    let after : Option RequestStep = slice_get (task_steps h n.request) (suc n.made) in
    let sizes = g.M.Shared.sizes c.args.mem.now in
    let sectors = g.D.Disk.capacity c.args.disk.now in
    let vals = g.D.Disk.values c.args.disk.now in
    let known : OfRequest h.capacity n.request after n.step = step_of h n.request n.made n.step is.served.basic is.served.cached is.next in
    sync_arm h r n.buffer n.request n.step c.in-Sync.answer (sym c.in-Sync.is ∙ works)
    (λ (s : RequestStep) (a : Answer). OfRequest h.capacity n.request after s → (IfMade (Some c.sync.result) (λ x. c.sync.new.self.work ≡ work.Reply a)) → IfMade (Some c.sync.result) (λ x. IsTaskAt h r n.buffer n.request (n.made + 1) c.sync.new.self))
    (λ of e. made_map _ _ (Some c.sync.result) (λ x made. goes_on h r n.buffer n.request n.made c.sync.new.self Status of made) e) known c.sync.ensures.next

pub returns-in-Reply-clause-stored : goal.returns-in-Reply-clause-stored
returns-in-Reply-clause-stored g c r n m told is works =
    let h = n.header in
    let after : Option RequestStep = slice_get (task_steps h n.request) (suc n.made) in
    let sizes = g.M.Shared.sizes c.args.mem.now in
    let sectors = g.D.Disk.capacity c.args.disk.now in
    let vals = g.D.Disk.values c.args.disk.now in
    let known : OfRequest h.capacity n.request after n.step = step_of h n.request n.made n.step is.served.basic is.served.cached is.next in
    reply_arm h r n.buffer n.request n.step c.in-Reply.answer (sym c.in-Reply.is ∙ works)
    (λ (s : RequestStep) (a : Answer). OfRequest h.capacity n.request after s → (IfMade (Some c.reply.result) (λ x. g.M.Shared.told c.reply.new.mem ≡ option_map (after_store (one_store a.span.space.number (a.span.place + (a.span.len - 1)) (little_bytes 1 a.status))) (g.M.Shared.told c.args.mem.now))) → IfMade (Some c.reply.result) (λ x. g.M.Shared.told c.reply.new.mem ≡ Some (after_maybe (store_of h r n.buffer n.request c.args.sector.now s) m)))
    (λ of e. made_map _ _ (Some c.reply.result) (λ x made. made ∙ ap (λ (p : ℕ). option_map (after_store (one_store r.desc.0.number p (little_bytes 1 (status_of h n.request)))) (g.M.Shared.told c.args.mem.now)) (add-zero (status_place n.buffer)) ∙ ap (option_map (after_store (one_store r.desc.0.number (status_place n.buffer) (little_bytes 1 (status_of h n.request))))) told ∙ ap (λ (bs : List ℕ). Some (after_store (one_store r.desc.0.number (status_place n.buffer) bs) m)) (status_byte h n.request is.served.basic is.served.cached)) e) known c.reply.ensures.stored

pub returns-in-Reply-clause-looked : goal.returns-in-Reply-clause-looked
returns-in-Reply-clause-looked g c r n m told is works =
    let h = n.header in
    let after : Option RequestStep = slice_get (task_steps h n.request) (suc n.made) in
    let sizes = g.M.Shared.sizes c.args.mem.now in
    let sectors = g.D.Disk.capacity c.args.disk.now in
    let vals = g.D.Disk.values c.args.disk.now in
    let known : OfRequest h.capacity n.request after n.step = step_of h n.request n.made n.step is.served.basic is.served.cached is.next in
    reply_arm h r n.buffer n.request n.step c.in-Reply.answer (sym c.in-Reply.is ∙ works)
    (λ (s : RequestStep) (a : Answer). OfRequest h.capacity n.request after s → (IfMade (Some c.reply.result) (λ x. x ≡ answers.Done a.status a.len)) → IfMade (Some c.reply.result) (λ x. WhereTold vals (λ v. (place : ℕ) → s ≡ Look place → c.args.sector.now ≡ v (sector_of n.request + place))))
    (λ of e. made_map _ _ (Some c.reply.result) (λ x made v is_v place same. absurd (cc same)) e) known c.reply.ensures.answer

pub returns-in-Reply-clause-written : goal.returns-in-Reply-clause-written
returns-in-Reply-clause-written g c r n m told is works =
    let h = n.header in
    let after : Option RequestStep = slice_get (task_steps h n.request) (suc n.made) in
    let sizes = g.M.Shared.sizes c.args.mem.now in
    let sectors = g.D.Disk.capacity c.args.disk.now in
    let vals = g.D.Disk.values c.args.disk.now in
    let known : OfRequest h.capacity n.request after n.step = step_of h n.request n.made n.step is.served.basic is.served.cached is.next in
    reply_arm h r n.buffer n.request n.step c.in-Reply.answer (sym c.in-Reply.is ∙ works)
    (λ (s : RequestStep) (a : Answer). OfRequest h.capacity n.request after s → (IfMade (Some c.reply.result) (λ x. x ≡ answers.Done a.status a.len)) → IfMade (Some c.reply.result) (λ x. vals ≡ option_map (values_after n.request s) vals))
    (λ of e. made_map _ _ (Some c.reply.result) (λ x made. sym (same_values vals)) e) known c.reply.ensures.answer

pub returns-in-Reply-clause-goes_on : goal.returns-in-Reply-clause-goes_on
returns-in-Reply-clause-goes_on g c r n m told is works =
    let h = n.header in
    let after : Option RequestStep = slice_get (task_steps h n.request) (suc n.made) in
    let sizes = g.M.Shared.sizes c.args.mem.now in
    let sectors = g.D.Disk.capacity c.args.disk.now in
    let vals = g.D.Disk.values c.args.disk.now in
    let known : OfRequest h.capacity n.request after n.step = step_of h n.request n.made n.step is.served.basic is.served.cached is.next in
    reply_arm h r n.buffer n.request n.step c.in-Reply.answer (sym c.in-Reply.is ∙ works)
    (λ (s : RequestStep) (a : Answer). OfRequest h.capacity n.request after s → (IfMade (Some c.reply.result) (λ x. x ≡ answers.Done a.status a.len)) → IfMade (Some c.reply.result) (λ x. IsTaskAt h r n.buffer n.request (n.made + 1) c.args.self.now))
    (λ of e. made_map _ _ (Some c.reply.result) (λ x made. ends h r n.buffer n.request n.made c.args.self.now of) e) known c.reply.ensures.answer

pub returns-in-Look-clause-trails : goal.returns-in-Look-clause-trails
returns-in-Look-clause-trails g c r n m told is works =
    let h = n.header in
    let after : Option RequestStep = slice_get (task_steps h n.request) (suc n.made) in
    let sizes = g.M.Shared.sizes c.args.mem.now in
    let sectors = g.D.Disk.capacity c.args.disk.now in
    let vals = g.D.Disk.values c.args.disk.now in
    let known : OfRequest h.capacity n.request after n.step = step_of h n.request n.made n.step is.served.basic is.served.cached is.next in
    look_arm h r n.buffer n.request n.step c.in-Look.transfer (sym c.in-Look.is ∙ works)
    (λ (s : RequestStep) (t : Transfer). OfRequest h.capacity n.request after s → (IfMade (Some c.look.result) (λ x. x ≡ answers.Looked (t.sector + t.done))) → IfMade (Some c.look.result) (λ x. g.M.Shared.trail c.args.mem.now ≡ option_map (with_maybe (store_of h r n.buffer n.request c.args.sector.now s)) (g.M.Shared.trail c.args.mem.now)))
    (λ q of e0. made_map _ _ (Some c.look.result) (λ x made. sym (same_trail (g.M.Shared.trail c.args.mem.now))) e0) known c.look.ensures.answer

pub returns-in-Store-clause-trails : goal.returns-in-Store-clause-trails
returns-in-Store-clause-trails g c r n m told is works =
    let h = n.header in
    let after : Option RequestStep = slice_get (task_steps h n.request) (suc n.made) in
    let sizes = g.M.Shared.sizes c.args.mem.now in
    let sectors = g.D.Disk.capacity c.args.disk.now in
    let vals = g.D.Disk.values c.args.disk.now in
    let known : OfRequest h.capacity n.request after n.step = step_of h n.request n.made n.step is.served.basic is.served.cached is.next in
    store_arm h r n.buffer n.request n.step c.in-Store.transfer (sym c.in-Store.is ∙ works)
    (λ (s : RequestStep) (t : Transfer). OfRequest h.capacity n.request after s → (IfMade (Some c.store.result) (λ x. g.M.Shared.trail c.store.new.mem ≡ option_map (after_in_trail (one_store t.span.space.number (t.span.place + 512 * t.done) c.args.sector.now)) (g.M.Shared.trail c.args.mem.now))) → IfMade (Some c.store.result) (λ x. g.M.Shared.trail c.store.new.mem ≡ option_map (with_maybe (store_of h r n.buffer n.request c.args.sector.now s)) (g.M.Shared.trail c.args.mem.now)))
    (λ q of e0. made_map _ _ (Some c.store.result) (λ x made. made) e0) known c.store.ensures.trailed

pub returns-in-Act-clause-trails : goal.returns-in-Act-clause-trails
returns-in-Act-clause-trails g c r n m told is works =
    let h = n.header in
    let after : Option RequestStep = slice_get (task_steps h n.request) (suc n.made) in
    let sizes = g.M.Shared.sizes c.args.mem.now in
    let sectors = g.D.Disk.capacity c.args.disk.now in
    let vals = g.D.Disk.values c.args.disk.now in
    let known : OfRequest h.capacity n.request after n.step = step_of h n.request n.made n.step is.served.basic is.served.cached is.next in
    act_arm h r n.buffer n.request n.step c.in-Act.transfer (sym c.in-Act.is ∙ works)
    (λ (s : RequestStep) (t : Transfer). OfRequest h.capacity n.request after s → (IfMade (Some c.act.result) (λ x. x ≡ answers.Acted (t.sector + t.done))) → IfMade (Some c.act.result) (λ x. g.M.Shared.trail c.act.new.mem ≡ option_map (with_maybe (store_of h r n.buffer n.request c.args.sector.now s)) (g.M.Shared.trail c.args.mem.now)))
    (λ q of e0. made_map _ _ (Some c.act.result) (λ x made. c.act.ensures.only_loads.same_trail ∙ sym (same_trail (g.M.Shared.trail c.args.mem.now))) e0) known c.act.ensures.answer

pub returns-in-Sync-clause-trails : goal.returns-in-Sync-clause-trails
returns-in-Sync-clause-trails g c r n m told is works =
    let h = n.header in
    let after : Option RequestStep = slice_get (task_steps h n.request) (suc n.made) in
    let sizes = g.M.Shared.sizes c.args.mem.now in
    let sectors = g.D.Disk.capacity c.args.disk.now in
    let vals = g.D.Disk.values c.args.disk.now in
    let known : OfRequest h.capacity n.request after n.step = step_of h n.request n.made n.step is.served.basic is.served.cached is.next in
    sync_arm h r n.buffer n.request n.step c.in-Sync.answer (sym c.in-Sync.is ∙ works)
    (λ (s : RequestStep) (a : Answer). OfRequest h.capacity n.request after s → (IfMade (Some c.sync.result) (λ x. x ≡ answers.Synced)) → IfMade (Some c.sync.result) (λ x. g.M.Shared.trail c.args.mem.now ≡ option_map (with_maybe (store_of h r n.buffer n.request c.args.sector.now s)) (g.M.Shared.trail c.args.mem.now)))
    (λ of e. made_map _ _ (Some c.sync.result) (λ x made. sym (same_trail (g.M.Shared.trail c.args.mem.now))) e) known c.sync.ensures.answer

pub returns-in-Reply-clause-trails : goal.returns-in-Reply-clause-trails
returns-in-Reply-clause-trails g c r n m told is works =
    let h = n.header in
    let after : Option RequestStep = slice_get (task_steps h n.request) (suc n.made) in
    let sizes = g.M.Shared.sizes c.args.mem.now in
    let sectors = g.D.Disk.capacity c.args.disk.now in
    let vals = g.D.Disk.values c.args.disk.now in
    let known : OfRequest h.capacity n.request after n.step = step_of h n.request n.made n.step is.served.basic is.served.cached is.next in
    reply_arm h r n.buffer n.request n.step c.in-Reply.answer (sym c.in-Reply.is ∙ works)
    (λ (s : RequestStep) (a : Answer). OfRequest h.capacity n.request after s → (IfMade (Some c.reply.result) (λ x. g.M.Shared.trail c.reply.new.mem ≡ option_map (after_in_trail (one_store a.span.space.number (a.span.place + (a.span.len - 1)) (little_bytes 1 a.status))) (g.M.Shared.trail c.args.mem.now))) → IfMade (Some c.reply.result) (λ x. g.M.Shared.trail c.reply.new.mem ≡ option_map (with_maybe (store_of h r n.buffer n.request c.args.sector.now s)) (g.M.Shared.trail c.args.mem.now)))
    (λ of e. made_map _ _ (Some c.reply.result) (λ x made. made ∙ ap (λ (p : ℕ). option_map (after_in_trail (one_store r.desc.0.number p (little_bytes 1 (status_of h n.request)))) (g.M.Shared.trail c.args.mem.now)) (add-zero (status_place n.buffer)) ∙ ap (λ (bs : List ℕ). option_map (after_in_trail (one_store r.desc.0.number (status_place n.buffer) bs)) (g.M.Shared.trail c.args.mem.now)) (status_byte h n.request is.served.basic is.served.cached)) e) known c.reply.ensures.trailed

pub returns-in-Act-clause-worked : goal.returns-in-Act-clause-worked
returns-in-Act-clause-worked g c =
    let told = g.M.Shared.told c.args.mem.now in
    let told_now = g.M.Shared.told c.act.new.mem in
    let trail = g.M.Shared.trail c.args.mem.now in
    let trail_now = g.M.Shared.trail c.act.new.mem in
    let vals = g.D.Disk.values c.args.disk.now in
    let vals_now = g.D.Disk.values c.act.new.disk in
    let x = c.act.result in
    let by : Work → Type 0 = λ w. Worked w c.args.sector.now c.act.new.sector x c.act.new.self.work told told_now trail trail_now vals vals_now in
    subst by (sym c.in-Act.is) (record {
      makes = c.act.ensures.makes;
      whole = search rules;
      stored = search rules;
      trailed = search rules;
      written = search rules;
      looked = search rules;
      unstored = search rules;
      changed = c.act.ensures.changed;
    })
