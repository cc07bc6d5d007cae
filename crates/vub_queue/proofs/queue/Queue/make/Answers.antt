use Rattle.std.proofs.Common.{ℕ, ◌≡◌, refl, sym, subst}
use Rattle.std.specs.Prelude.{Some, false, slice_get}
use Rattle.vub_steps.specs.Readiness.{is_ready}
use Rattle.vub_steps.specs.declared.readiness.Choice.TheVariants.{Only}
use Rattle.vub_steps.specs.declared.readiness.Turn.{Turn}
use Rattle.vub_steps.specs.declared.readiness.Turn.TheVariants.{Start, Fetch, Work, Publish}
use Rattle.vub_queue.specs.QueueState.{QueueState, state_of, standing_at, is_fault, halted, IsDue, IfStepped, WorksOut, WorksTask}
use Rattle.vub_queue.specs.Turned.{Outside, outside, Turned}
use Rattle.vub_queue.proofs.FitLemmas.{batches_fit}
use Rattle.vub_queue.proofs.QueueLemmas.{unless}
use Rattle.vub_queue.proofs.StableLemmas.{stable_starting, stable_fetching, stable_publishing}
use Rattle.vub_queue.proofs.StartLemmas.{silent_rings, silent_cause, silent_fetching, silent_worked, rung_absurd}
use Rattle.vub_queue.proofs.TurnLemmas.{Makes, turned_of, no_fault_in, starting_no_disk, owes_nothing}
use Rattle.vub_queue.proofs.queue.Queue.make.Goals as goal

work_place : (a b : ℕ) → Work a ≡ Work b → a ≡ b
work_place a b same = cc same

pub returns-in-Start : goal.returns-in-Start
returns-in-Start g c =
    let s : QueueState = state_of c.args.self.now in
    let u : QueueState = state_of c.start.new.self in
    let before : Outside = outside g.M.Shared g.D.Disk g.B.Bell c.args.mem.now c.args.disk.now c.args.bell.now in
    let after : Outside = outside g.M.Shared g.D.Disk g.B.Bell c.start.new.mem c.args.disk.now c.start.new.bell in
    let no_disk = starting_no_disk c.start.result c.start.ensures.starting in
    let spaces = c.start.ensures.keeps_spaces in
    let makes : Makes Start before after c.start.result s u = record {
      lies = c.start.ensures.lies before.sizes before.capacity c.requires.lies;
      failed = owes_nothing c.start.result u no_disk;
      ring = c.start.ensures.ring;
      stopped = c.start.ensures.stopped;
      does = c.start.ensures.does;
      stores = c.start.ensures.stores;
      trails = c.start.ensures.trails;
      values = refl;
      made = λ place task n m told is. absurd (cc is);
      task = λ place task is. absurd (cc is);
      rests = λ waiting place is. absurd (cc is);
      cause = c.start.ensures.cause;
      disk_cause = no_fault_in before.disk_faults _ no_disk;
      rings = c.start.ensures.rings;
      may_ring = λ rung. refl;
      bell_cause = c.start.ensures.bell_cause;
      stable = stable_starting c.start.result before.stable before.values c.start.ensures.starting;
      keeps_spaces = record { same_names = spaces.same_names; same_handed = spaces.same_handed; same_sizes = spaces.same_sizes };
      capacity = refl;
    } in
    subst (λ (turn : Turn). Turned (Only turn) before after c.start.result s (halted c.start.result u)) (sym c.in-Start.is) (turned_of Start before after c.start.result s u (batches_fit c.args.self.now) c.requires.runs c.requires.lies makes)

pub returns-in-Fetch : goal.returns-in-Fetch
returns-in-Fetch g c =
    let s : QueueState = state_of c.args.self.now in
    let u : QueueState = state_of c.fetch.new.self in
    let before : Outside = outside g.M.Shared g.D.Disk g.B.Bell c.args.mem.now c.args.disk.now c.args.bell.now in
    let after : Outside = outside g.M.Shared g.D.Disk g.B.Bell c.fetch.new.mem c.args.disk.now c.args.bell.now in
    let silent = silent_fetching c.fetch.result c.fetch.ensures.fetching in
    let row = c.fetch.ensures.makes_row in
    let makes : Makes Fetch before after c.fetch.result s u = record {
      lies = c.fetch.ensures.lies before.sizes before.capacity c.requires.lies;
      failed = owes_nothing c.fetch.result u c.fetch.ensures.no_disk;
      ring = c.fetch.ensures.ring;
      stopped = c.fetch.ensures.stopped;
      does = unless (is_fault c.fetch.result) _ c.fetch.ensures.fetches;
      stores = row.stored;
      trails = row.trailed;
      values = refl;
      made = λ place task n m told is. absurd (cc is);
      task = λ place task is. absurd (cc is);
      rests = λ waiting place is. absurd (cc is);
      cause = c.fetch.ensures.cause;
      disk_cause = no_fault_in before.disk_faults _ c.fetch.ensures.no_disk;
      rings = silent_rings s.index c.fetch.result before.bells silent;
      may_ring = λ rung. rung_absurd c.fetch.result _ silent rung;
      bell_cause = silent_cause before.bell_faults c.fetch.result silent;
      stable = stable_fetching c.fetch.result before.stable before.values c.fetch.ensures.fetching;
      keeps_spaces = record { same_names = row.spaces.same_names; same_handed = row.spaces.same_handed; same_sizes = row.spaces.same_sizes };
      capacity = refl;
    } in
    subst (λ (turn : Turn). Turned (Only turn) before after c.fetch.result s (halted c.fetch.result u)) (sym c.in-Fetch.is) (turned_of Fetch before after c.fetch.result s u (batches_fit c.args.self.now) c.requires.runs c.requires.lies makes)

pub returns-in-Publish : goal.returns-in-Publish
returns-in-Publish g c =
    let s : QueueState = state_of c.args.self.now in
    let u : QueueState = state_of c.publish.new.self in
    let before : Outside = outside g.M.Shared g.D.Disk g.B.Bell c.args.mem.now c.args.disk.now c.args.bell.now in
    let after : Outside = outside g.M.Shared g.D.Disk g.B.Bell c.publish.new.mem c.args.disk.now c.publish.new.bell in
    let row = c.publish.ensures.makes_row in
    let makes : Makes (Publish c.in-Publish.most) before after c.publish.result s u = record {
      lies = c.publish.ensures.lies before.sizes before.capacity c.requires.lies;
      failed = owes_nothing c.publish.result u c.publish.ensures.no_disk;
      ring = c.publish.ensures.ring;
      stopped = c.publish.ensures.stopped;
      does = c.publish.ensures.publishes;
      stores = row.stored;
      trails = row.trailed;
      values = refl;
      made = λ place task n m told is. absurd (cc is);
      task = λ place task is. absurd (cc is);
      rests = λ waiting place is. absurd (cc is);
      cause = c.publish.ensures.cause;
      disk_cause = no_fault_in before.disk_faults _ c.publish.ensures.no_disk;
      rings = c.publish.ensures.rings;
      may_ring = λ rung. refl;
      bell_cause = c.publish.ensures.bell_cause;
      stable = stable_publishing c.publish.result before.stable before.values c.publish.ensures.publishing;
      keeps_spaces = record { same_names = row.spaces.same_names; same_handed = row.spaces.same_handed; same_sizes = row.spaces.same_sizes };
      capacity = refl;
    } in
    subst (λ (turn : Turn). Turned (Only turn) before after c.publish.result s (halted c.publish.result u)) (sym c.in-Publish.is)
    (turned_of (Publish c.in-Publish.most) before after c.publish.result s u (batches_fit c.args.self.now) c.requires.runs c.requires.lies makes)

pub returns-in-Work : goal.returns-in-Work
returns-in-Work g c =
    let s : QueueState = state_of c.args.self.now in
    let u : QueueState = state_of c.work.new.self in
    let at : ℕ = c.in-Work.place in
    let x = c.work.result in
    let before : Outside = outside g.M.Shared g.D.Disk g.B.Bell c.args.mem.now c.args.disk.now c.args.bell.now in
    let after : Outside = outside g.M.Shared g.D.Disk g.B.Bell c.work.new.mem c.work.new.disk c.args.bell.now in
    let silent = silent_worked at x s u c.work.ensures.works in
    let spaces = c.work.ensures.keeps_spaces in
    let makes : Makes (Work at) before after x s u = record {
      lies = c.work.ensures.lies;
      failed = c.work.ensures.failed;
      ring = c.work.ensures.ring;
      stopped = c.work.ensures.stopped;
      does = unless (is_fault x) _ c.work.ensures.works;
      stores = tt;
      trails = c.work.ensures.trail;
      values = tt;
      made = λ place task n m told is. let same : at ≡ place = work_place at place is in subst (λ (k : ℕ). IsDue before.capacity before.sizes s m k task n → IfStepped x (WorksOut k task n m after.bytes before.trail after.trail before.values after.values x s u)) same (c.work.ensures.made task n m told);
      task = λ place task is started there.
          let same : at ≡ place = work_place at place is in
          let here : slice_get s.unfinished at ≡ Some task = subst (λ (k : ℕ). slice_get s.unfinished k ≡ Some task) (sym same) there in
          subst (λ (k : ℕ). WorksTask before.sizes before.capacity k task before.bytes after.bytes before.trail after.trail before.values after.values x s u) same (c.work.ensures.task task started here);
      rests = λ waiting place is unready. c.work.ensures.rests waiting (subst (λ (k : ℕ). is_ready (standing_at s waiting) (Work k) ≡ false) (sym (work_place at place is)) unready);
      cause = c.work.ensures.cause;
      disk_cause = c.work.ensures.disk_cause;
      rings = silent_rings s.index x before.bells silent;
      may_ring = λ rung. rung_absurd x _ silent rung;
      bell_cause = silent_cause before.bell_faults x silent;
      stable = c.work.ensures.stable;
      keeps_spaces = record { same_names = spaces.same_names; same_handed = spaces.same_handed; same_sizes = spaces.same_sizes };
      capacity = c.work.ensures.capacity;
    } in
    subst (λ (turn : Turn). Turned (Only turn) before after x s (halted x u)) (sym c.in-Work.is) (turned_of (Work at) before after x s u (batches_fit c.args.self.now) c.requires.runs c.requires.lies makes)
