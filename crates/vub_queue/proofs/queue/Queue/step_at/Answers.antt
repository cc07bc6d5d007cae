use Rattle.std.proofs.Common.{ℕ, ◌≡◌, ◌<◌, sym, ◌∙◌, ap, subst, List, [], length, set, get_or, arith, rules}
use Rattle.std.specs.Prelude.{Some, slice_get}
use Rattle.std.proofs.lemmas.Option.{slice_get-get_or, get_or_from_slice_get}
use Rattle.vub_task.specs.declared.task.Task.{Task}
use Rattle.vub_queue.specs.QueueState.{QueueState, state_of, worked, sector_at}
use Rattle.vub_task.specs.TaskState.{IsReady, head_in}
use Rattle.vub_queue.proofs.QueueLemmas.{steps_out}
use Rattle.vub_queue.proofs.LyingLemmas.{task_in, task_with, lies_worked, owes_at}
use Rattle.vub_queue.proofs.TaskLemmas.{steps_task}
use Rattle.vub_queue.proofs.queue.Queue.step_at.Goals as goal

pub returns-clause-made : goal.returns-clause-made
returns-clause-made g c task n m told due =
    let s : QueueState = state_of c.args.self.now in
    let next : Task = c.step.new.self in
    let after : List ℕ = c.step.new.sector in
    let at : c.index_mut-task.result.now ≡ task = c.index_mut-task.ensures.value ∙ get_or_from_slice_get c.args.self.now.unfinished.items c.args.place task _ due.at in
    let head : c.head-head.result ≡ (head_in task) = c.head-head.ensures ∙ ap (λ (t : Task). t.head) at in
    let still : head_in next ≡ (head_in task) = c.step.ensures.head ∙ ap (λ (t : Task). t.head) at in
    let buffers : List (List ℕ) = c.args.self.now.sectors.items in
    let place : ℕ = c.from.result in
    let below : place < length buffers = omega (arith, c.from.ensures, head, due.fits, c.args.self.now.buffers) in
    let here : slice_get buffers place ≡ Some (get_or buffers place c.index_mut-sector.result.now) = slice_get-get_or buffers place c.index_mut-sector.result.now below in
    let there : get_or buffers place [] ≡ get_or buffers place c.index_mut-sector.result.now = get_or_from_slice_get buffers place _ [] here in
    let sector : c.index_mut-sector.result.now ≡ sector_at s (head_in task) = c.index_mut-sector.ensures.value ∙ sym there ∙ ap (λ (k : ℕ). get_or buffers k []) (c.from.ensures ∙ head) in
    let ready : IsReady s.ring n c.index_mut-task.result.now = subst (λ (t : Task). IsReady s.ring n t) (sym at) due.ready in
    steps_out c.args.place c.head-head.result task next n m _ _ _ _ _ c.step.result c.index_mut-sector.result.now after s _ head still sector
    (ap (λ (k : ℕ). record (worked c.args.place next after s) { sectors = set buffers k after }) (c.from.ensures ∙ head ∙ sym still))
    (c.step.ensures.answer n m told due.next ready) (c.step.ensures.goes_on n m told due.next ready) (c.step.ensures.looked n m told due.next ready)
    (c.step.ensures.stored n m told due.next ready) (c.step.ensures.trails n m told due.next ready) (c.step.ensures.written n m told due.next ready)

pub returns-clause-lies : goal.returns-clause-lies
returns-clause-lies g c =
    let s : QueueState = state_of c.args.self.now in
    let next : Task = c.step.new.self in
    let after : List ℕ = c.step.new.sector in
    let now : Task = c.index_mut-task.result.now in
    let head : c.head-head.result ≡ head_in now = c.head-head.ensures in
    let still : head_in next ≡ head_in now = c.step.ensures.head in
    let is = ap (λ (k : ℕ). record (worked c.args.place next after s) { sectors = set s.sectors k after }) (c.from.ensures ∙ head ∙ sym still) in
    let within : c.args.place < length s.unfinished = search rules in
    let here : slice_get s.unfinished c.args.place ≡ Some now = slice_get-get_or s.unfinished c.args.place now within ∙ ap Some (sym c.index_mut-task.ensures.value) in
    let sizes = g.M.Shared.sizes c.args.mem.now in
    let capacity = g.D.Disk.capacity c.args.disk.now in
    let fits = task_in sizes capacity s.ring s.unfinished c.args.place now c.requires.lies.tasks here in
    let lies = task_with sizes (g.M.Shared.sizes c.step.new.mem) capacity (g.D.Disk.capacity c.step.new.disk) next c.step.ensures.keeps_spaces.same_sizes c.step.ensures.capacity c.step.ensures.task in
    lies_worked sizes capacity c.args.place next after s _ (lies, omega (arith, fits.1, still)) is c.requires.lies

pub returns-clause-failed : goal.returns-clause-failed
returns-clause-failed g c =
    let s : QueueState = state_of c.args.self.now in
    let next : Task = c.step.new.self in
    let after : List ℕ = c.step.new.sector in
    let now : Task = c.index_mut-task.result.now in
    let head : c.head-head.result ≡ head_in now = c.head-head.ensures in
    let still : head_in next ≡ head_in now = c.step.ensures.head in
    let is = ap (λ (k : ℕ). record (worked c.args.place next after s) { sectors = set s.sectors k after }) (c.from.ensures ∙ head ∙ sym still) in
    let within : c.args.place < length s.unfinished = search rules in
    let here : slice_get s.unfinished c.args.place ≡ Some now = slice_get-get_or s.unfinished c.args.place now within ∙ ap Some (sym c.index_mut-task.ensures.value) in
    owes_at c.args.place c.head-head.result c.step.result next now after s _ here (still ∙ sym head) is c.step.ensures.failed

pub index_mut-sector-requires : goal.index_mut-sector-requires
index_mut-sector-requires g c =
    let s : QueueState = state_of c.args.self.now in
    let now : Task = c.index_mut-task.result.now in
    let within : c.args.place < length s.unfinished = search rules in
    let here : slice_get s.unfinished c.args.place ≡ Some now = slice_get-get_or s.unfinished c.args.place now within ∙ ap Some (sym c.index_mut-task.ensures.value) in
    let fits = task_in (g.M.Shared.sizes c.args.mem.now) (g.D.Disk.capacity c.args.disk.now) s.ring s.unfinished c.args.place now c.requires.lies.tasks here in
    omega (arith, fits.1, c.from.ensures, c.head-head.ensures, c.args.self.now.buffers)

pub step-requires-clause-fits : goal.step-requires-clause-fits
step-requires-clause-fits g c =
    let s : QueueState = state_of c.args.self.now in
    let now : Task = c.index_mut-task.result.now in
    let within : c.args.place < length s.unfinished = search rules in
    let here : slice_get s.unfinished c.args.place ≡ Some now = slice_get-get_or s.unfinished c.args.place now within ∙ ap Some (sym c.index_mut-task.ensures.value) in
    let fits = task_in (g.M.Shared.sizes c.args.mem.now) (g.D.Disk.capacity c.args.disk.now) s.ring s.unfinished c.args.place now c.requires.lies.tasks here in
    fits.1

pub step-requires-clause-task : goal.step-requires-clause-task
step-requires-clause-task g c =
    let s : QueueState = state_of c.args.self.now in
    let now : Task = c.index_mut-task.result.now in
    let within : c.args.place < length s.unfinished = search rules in
    let here : slice_get s.unfinished c.args.place ≡ Some now = slice_get-get_or s.unfinished c.args.place now within ∙ ap Some (sym c.index_mut-task.ensures.value) in
    let fits = task_in (g.M.Shared.sizes c.args.mem.now) (g.D.Disk.capacity c.args.disk.now) s.ring s.unfinished c.args.place now c.requires.lies.tasks here in
    fits.0

pub returns-clause-task : goal.returns-clause-task
returns-clause-task g c task is =
    let s : QueueState = state_of c.args.self.now in
    let next : Task = c.step.new.self in
    let after : List ℕ = c.step.new.sector in
    let now : Task = c.index_mut-task.result.now in
    let at : now ≡ task = c.index_mut-task.ensures.value ∙ get_or_from_slice_get c.args.self.now.unfinished.items c.args.place task _ is in
    let within : c.args.place < length s.unfinished = search rules in
    let in_place : slice_get s.unfinished c.args.place ≡ Some now = slice_get-get_or s.unfinished c.args.place now within ∙ ap Some (sym c.index_mut-task.ensures.value) in
    let fits = task_in (g.M.Shared.sizes c.args.mem.now) (g.D.Disk.capacity c.args.disk.now) s.ring s.unfinished c.args.place now c.requires.lies.tasks in_place in
    let head : c.head-head.result ≡ head_in now = c.head-head.ensures in
    let still : head_in next ≡ head_in now = c.step.ensures.head in
    let buffers : List (List ℕ) = c.args.self.now.sectors.items in
    let place : ℕ = c.from.result in
    let below : place < length buffers = omega (arith, fits.1, c.from.ensures, head, c.args.self.now.buffers) in
    let here : slice_get buffers place ≡ Some (get_or buffers place c.index_mut-sector.result.now) = slice_get-get_or buffers place c.index_mut-sector.result.now below in
    let there : get_or buffers place [] ≡ get_or buffers place c.index_mut-sector.result.now = get_or_from_slice_get buffers place _ [] here in
    let sector : c.index_mut-sector.result.now ≡ sector_at s (head_in now) = c.index_mut-sector.ensures.value ∙ sym there ∙ ap (λ (k : ℕ). get_or buffers k []) (c.from.ensures ∙ head) in
    steps_task (g.M.Shared.sizes c.args.mem.now) (g.D.Disk.capacity c.args.disk.now) c.args.place c.head-head.result now task next c.step.result c.index_mut-sector.result.now after (g.M.Shared.told c.args.mem.now) (g.M.Shared.told c.step.new.mem) (g.M.Shared.trail c.args.mem.now) (g.M.Shared.trail c.step.new.mem) (g.D.Disk.values c.args.disk.now) (g.D.Disk.values c.step.new.disk) s _
    at head still sector (ap (λ (k : ℕ). record (worked c.args.place next after s) { sectors = set buffers k after }) (c.from.ensures ∙ head ∙ sym still)) c.step.ensures.begins c.step.ensures.worked c.step.ensures.failed

pub returns-clause-head : goal.returns-clause-head
returns-clause-head g c =
    let s : QueueState = state_of c.args.self.now in
    let now : Task = c.index_mut-task.result.now in
    let within : c.args.place < length s.unfinished = search rules in
    let here : slice_get s.unfinished c.args.place ≡ Some now = slice_get-get_or s.unfinished c.args.place now within ∙ ap Some (sym c.index_mut-task.ensures.value) in
    let fits = task_in (g.M.Shared.sizes c.args.mem.now) (g.D.Disk.capacity c.args.disk.now) s.ring s.unfinished c.args.place now c.requires.lies.tasks here in
    omega (arith, fits.1, c.head-head.ensures)
