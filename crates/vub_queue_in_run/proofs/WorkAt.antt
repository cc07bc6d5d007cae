-- The step that is due of a request at work: which task makes it, and what memory means there.
use Rattle.std.proofs.Common.{◌≡◌, ◌≤◌, ◌<◌, ◌⊎◌, ℕ, zero, suc, ◌+◌, ◌*◌, ◌/◌, true, false, not, List, [], ◌∷◌, ◌++◌, length, refl, ap, sym, ◌∙◌, subst, inl, inr, arith}
use Rattle.std.specs.Prelude.{Option, Some, None, slice_index, slice_get, get_or}
use Rattle.std.proofs.lemmas.Bool.Decides.{nat_tests}
use Rattle.std.proofs.lemmas.Option.{slice_get-get_or}
use Rattle.vub_base.specs.declared.header.CacheMode.TheVariants.{Back}
use Rattle.vub_base.specs.declared.header.Header1.{Header1}
use Rattle.vub_steps.specs.declared.readiness.Turn.TheVariants as turns
use Rattle.vub_steps.specs.Readiness.{is_ready}
use Rattle.vub_driver.specs.Layout.{area_place, buffer_place}
use Rattle.vub_device.specs.declared.entry.Asked.{Asked}
use Rattle.vub_device.specs.declared.entry.Asked.TheVariants as asks
use Rattle.vub_device.specs.Past.{asked, accepted, published, is_among, open_numbers, IsOpen, started}
use Rattle.vub_device.specs.Requests.{refusal}
use Rattle.vub_split.specs.declared.split.SplitRing.{SplitRing}
use Rattle.vub_setup.specs.Setups.{SplitSetup}
use Rattle.vub_task.specs.declared.task.Task.{Task}
use Rattle.vub_direct_chain.specs.ChainState.{IsRingOf, Meant}
use Rattle.vub_driver.specs.GuestChain.{Links}
use Rattle.vub_run.specs.Moments.{Lane, Moment, standing, unfinished}
use Rattle.vub_queue.specs.QueueFacts.{hidden_part}
use Rattle.vub_queue_in_run.specs.QueueAt.{QueueStands, LiesAs, TaskAt, left_of}
use Rattle.vub_queue.specs.QueueState.{QueueState, IsDue}
use Rattle.vub_task.specs.TaskState.{fresh_task, Making, IsBasic, IsNext, IsReady, head_in}
use Rattle.vub_steps.specs.Tasks.{RequestStep, Look, Put, Act, Sync, Status, task_steps, disk_steps, look_steps, act_steps}
use Rattle.vub_run_laws.proofs.RunNumbers.{among_filter, missing-among}
use Rattle.vub_facts.proofs.HeadLemmas.{among_get}
use Rattle.vub_run_laws.proofs.RunGood.{IsWideRead, IsWideWrite, IsWide, IsOut, IsPending}
use Rattle.vub_run_laws.proofs.RunFrames.{open_out}
use Rattle.vub_run_laws.proofs.RunSteps.{WideCases, AtRead, AtWrite, AtFlush, wide_cases, wide_served, wide_steps, ReadAt, ToLook, ToPut, ToReply, read_at, WriteAt, ToAct, ToEnd, write_at}
use Rattle.vub_run_laws.proofs.RunTurns.{IsPlain, Good}
use Rattle.vub_run_laws.proofs.RunChainsEvents.{ChainedAt}
use Rattle.vub_queue_in_run.proofs.QueueAtMoves.{count_is}
use Rattle.vub_queue_in_run.proofs.QueueAtTurns.{left_part, worked_at}
use Rattle.vub_run_laws.proofs.RunCarries.{left_hidden}
use Rattle.vub_run_laws.proofs.RunChainsMeaning.{work_means}
use Rattle.vub_run_laws.proofs.RunQueue.{head_below}

-- ---- kinds of step

-- a read looks at a sector
pub record IsLook (h : Header1) (request : Asked) (made : ℕ) (step : RequestStep) : Type 0 where
  pub sector : ℕ
  pub count : ℕ
  pub wide : IsWideRead h.capacity sector count
  pub is : request ≡ asks.Read sector count
  pub place : ℕ
  pub within : place < count
  pub at : made ≡ 2 * place
  pub next : step ≡ Look place

-- and stores it
pub record IsPut (h : Header1) (request : Asked) (made : ℕ) (step : RequestStep) : Type 0 where
  pub sector : ℕ
  pub count : ℕ
  pub wide : IsWideRead h.capacity sector count
  pub is : request ≡ asks.Read sector count
  pub place : ℕ
  pub within : place < count
  pub at : made ≡ 2 * place + 1
  pub next : step ≡ Put place

-- a write writes a sector
pub record IsAct (h : Header1) (request : Asked) (made : ℕ) (step : RequestStep) : Type 0 where
  pub sector : ℕ
  pub bytes : List ℕ
  pub wide : IsWideWrite h.capacity sector bytes
  pub is : request ≡ asks.Write sector bytes
  pub place : ℕ
  pub within : place < length bytes / 512
  pub at : made ≡ place
  pub next : step ≡ Act place

-- a flush makes all stable
pub record IsSync (h : Header1) (request : Asked) (made : ℕ) (step : RequestStep) : Type 0 where
  pub is : request ≡ asks.Flush
  pub at : made ≡ 0
  pub next : step ≡ Sync

pub record IsLast (h : Header1) (request : Asked) (made : ℕ) (step : RequestStep) : Type 0 where
  pub served : refusal h.capacity h.mode request ≡ None
  pub next : step ≡ Status

abbrev pub Kind : Header1 → Asked → ℕ → RequestStep → Type 0
Kind h request made step = IsLook h request made step ⊎ (IsPut h request made step ⊎ (IsAct h request made step ⊎ (IsSync h request made step ⊎ IsLast h request made step)))

is_some : {T : Type 0} (x y : T) → Some x ≡ Some y → x ≡ y
is_some x y e = cc e

read_kind : (h : Header1) (request : Asked) (s c made : ℕ) (step : RequestStep) → h.mode ≡ Back → IsWideRead h.capacity s c → request ≡ asks.Read s c → ReadAt 0 c made (Some step) → Kind h request made step
read_kind h request s c made step back wide is (ToLook p low at i) =
    inl (record { sector = s; count = c; wide = wide; is = is; place = p; within = low; at = at; next = is_some step (Look (0 + p)) i ∙ ap (λ (state : ℕ). Look state) (let same : 0 + p ≡ p = omega arith in same) })
read_kind h request s c made step back wide is (ToPut p low at i) =
    inr (inl (record { sector = s; count = c; wide = wide; is = is; place = p; within = low; at = at; next = is_some step (Put (0 + p)) i ∙ ap (λ (state : ℕ). Put state) (let same : 0 + p ≡ p = omega arith in same) }))
read_kind h request s c made step back wide is (ToReply at i) = inr (inr (inr (inr (record { served = ap (refusal h.capacity h.mode) is ∙ wide_served h (asks.Read s c) back wide; next = is_some step Status i }))))

write_kind : (h : Header1) (request : Asked) (s : ℕ) (bytes : List ℕ) (made : ℕ) (step : RequestStep) → h.mode ≡ Back → IsWideWrite h.capacity s bytes → request ≡ asks.Write s bytes → WriteAt 0 (length bytes / 512) made (Some step) → Kind h request made step
write_kind h request s bytes made step back wide is (ToAct low i) =
    inr (inr (inl (record { sector = s; bytes = bytes; wide = wide; is = is; place = made; within = low; at = refl; next = is_some step (Act (0 + made)) i ∙ ap (λ (state : ℕ). Act state) (let same : 0 + made ≡ made = omega arith in same) })))
write_kind h request s bytes made step back wide is (ToEnd at i) = inr (inr (inr (inr (record { served = ap (refusal h.capacity h.mode) is ∙ wide_served h (asks.Write s bytes) back wide; next = is_some step Status i }))))

flush_kind : (h : Header1) (request : Asked) (made : ℕ) (step : RequestStep) → h.mode ≡ Back → request ≡ asks.Flush → slice_get (Sync ∷ Status ∷ []) made ≡ Some step → Kind h request made step
flush_kind h request zero step back is next = inr (inr (inr (inl (record { is = is; at = refl; next = sym (is_some Sync step next) }))))
flush_kind h request (suc zero) step back is next = inr (inr (inr (inr (record { served = ap (refusal h.capacity h.mode) is ∙ wide_served h asks.Flush back tt; next = sym (is_some Status step next) }))))
flush_kind h request (suc (suc made)) step back is next = absurd (cc)

steps_are : (h : Header1) (request r : Asked) (made : ℕ) → h.mode ≡ Back → IsWide h.capacity (Some r) → request ≡ r → slice_get (task_steps h request) made ≡ slice_get (disk_steps r ++ Status ∷ []) made
steps_are h request r made back wide is = ap (λ (state : Asked). slice_get (task_steps h state) made) is ∙ ap (λ (xs : List RequestStep). slice_get xs made) (wide_steps h r back wide)

-- of which kind a step is
pub kind_of : (h : Header1) (request : Asked) (made : ℕ) (step : RequestStep) → h.mode ≡ Back → IsWide h.capacity (Some request) → IsPending made (Some request) → slice_get (task_steps h request) made ≡ Some step → Kind h request made step
kind_of h request made step back wide pending next = go (wide_cases h.capacity (Some request) wide)
  where
    go : WideCases h.capacity (Some request) → Kind h request made step
    go (AtRead s c w is) =
        let is_it : request ≡ asks.Read s c = is_some request (asks.Read s c) is in
        let few : made ≤ 2 * c = subst (λ (o : Option Asked). IsPending made o) is pending in
        read_kind h request s c made step back w is_it (subst (λ (o : Option RequestStep). ReadAt 0 c made o) (sym (steps_are h request (asks.Read s c) made back w is_it) ∙ next) (read_at 0 c made few))
    go (AtWrite s bytes w is) =
        let is_it : request ≡ asks.Write s bytes = is_some request (asks.Write s bytes) is in
        let few : made ≤ length bytes / 512 = subst (λ (o : Option Asked). IsPending made o) is pending in
        write_kind h request s bytes made step back w is_it (subst (λ (o : Option RequestStep). WriteAt 0 (length bytes / 512) made o) (sym (steps_are h request (asks.Write s bytes) made back w is_it) ∙ next) (write_at 0 (length bytes / 512) made few))
    go (AtFlush is) =
        let is_it : request ≡ asks.Flush = is_some request asks.Flush is in
        flush_kind h request made step back is_it (sym (steps_are h request asks.Flush made back tt is_it) ∙ next)

read_next : (c made : ℕ) (o : Option RequestStep) → ReadAt 0 c made o → (step : RequestStep) × (o ≡ Some step)
read_next c made o (ToLook p low at i) = (Look (0 + p), i)
read_next c made o (ToPut p low at i) = (Put (0 + p), i)
read_next c made o (ToReply at i) = (Status, i)

write_next : (n made : ℕ) (o : Option RequestStep) → WriteAt 0 n made o → (step : RequestStep) × (o ≡ Some step)
write_next n made o (ToAct low i) = (Act (0 + made), i)
write_next n made o (ToEnd at i) = (Status, i)

flush_next : (made : ℕ) → made ≤ 1 → (step : RequestStep) × (slice_get (Sync ∷ Status ∷ []) made ≡ Some step)
flush_next zero few = (Sync, refl)
flush_next (suc zero) few = (Status, refl)
flush_next (suc (suc made)) few = absurd (omega arith)

-- a request of which a step is left has a next one
pub some_step : (h : Header1) (request : Asked) (made : ℕ) → h.mode ≡ Back → IsWide h.capacity (Some request) → IsPending made (Some request) → (step : RequestStep) × (slice_get (task_steps h request) made ≡ Some step)
some_step h request made back wide pending = go (wide_cases h.capacity (Some request) wide)
  where
    go : WideCases h.capacity (Some request) → (step : RequestStep) × (slice_get (task_steps h request) made ≡ Some step)
    go (AtRead s c w is) =
        let few : made ≤ 2 * c = subst (λ (o : Option Asked). IsPending made o) is pending in
        let x = read_next c made (slice_get (look_steps 0 c ++ Status ∷ []) made) (read_at 0 c made few) in
        (x.0, steps_are h request (asks.Read s c) made back w (is_some request (asks.Read s c) is) ∙ x.1)
    go (AtWrite s bytes w is) =
        let few : made ≤ length bytes / 512 = subst (λ (o : Option Asked). IsPending made o) is pending in
        let x = write_next (length bytes / 512) made (slice_get (act_steps 0 (length bytes / 512) ++ Status ∷ []) made) (write_at 0 (length bytes / 512) made few) in
        (x.0, steps_are h request (asks.Write s bytes) made back w (is_some request (asks.Write s bytes) is) ∙ x.1)
    go (AtFlush is) =
        let few : made ≤ 1 = subst (λ (o : Option Asked). IsPending made o) is pending in
        let x = flush_next made few in
        (x.0, steps_are h request asks.Flush made back tt (is_some request asks.Flush is) ∙ x.1)

pub wide_basic : (cap : ℕ) (request : Asked) → IsWide cap (Some request) → IsBasic request
wide_basic cap (asks.Read s c) wide = tt
wide_basic cap (asks.Write s bytes) wide = wide.whole
wide_basic cap asks.Flush wide = tt
wide_basic cap asks.Id wide = absurd wide
wide_basic cap (asks.Discard parts) wide = absurd wide
wide_basic cap (asks.Zero parts) wide = absurd wide

-- ---- the step that is due

-- the step of the k-th request whose chain is that
abbrev pub making_of : ℕ → Header1 → Moment → ℕ → Links → Asked → RequestStep → Making
making_of q h m k links request step = record {
  header = h;
  links = links;
  buffer = buffer_place (area_place q) (slice_index (m.scene.heads q) k);
  request = request;
  made = (m.lanes q).made k;
  step = step;
}

-- the request in this place of the unfinished ones, its task, and the step that is due
pub record WorkReady (q : ℕ) (h : Header1) (sizes : ℕ → ℕ) (m : Moment) (state : QueueState) (place : ℕ) : Type 0 where
  pub k : ℕ
  pub request : Asked
  pub task : Task
  pub links : Links
  pub step : RequestStep
  pub at : slice_get (unfinished q m) place ≡ Some k
  pub is : asked m.scene.past q k ≡ Some request
  pub head : head_in task ≡ slice_index (m.scene.heads q) k
  pub is_open : IsOpen m.scene.past q k
  pub due : IsDue h.capacity sizes state m.scene.memory place task (making_of q h m k links request step)

abbrev pub making : {q : ℕ} {h : Header1} {sizes : ℕ → ℕ} {m : Moment} {state : QueueState} {place : ℕ} → WorkReady q h sizes m state place → Making
making {q} {h} {sizes} {m} w = making_of q h m w.k w.links w.request w.step

ring_is : (q : ℕ) (sizes : ℕ → ℕ) (setup : SplitSetup) (n : ℕ) → LiesAs q setup n → area_place q + 1048576 ≤ sizes 0 → IsRingOf q sizes setup.ring n
ring_is q sizes setup n main room = record { space = main.desc_space; table = main.desc; size = main.size; room = room }

-- a number among the unfinished ones is open, and of no completed request
pub unfinished_open : (q : ℕ) (m : Moment) (place k : ℕ) → slice_get (unfinished q m) place ≡ Some k → IsOpen m.scene.past q k × (is_among ((m.lanes q).completed ++ (m.lanes q).batch) k ≡ false)
unfinished_open q m place k is =
    let l : Lane = m.lanes q in
    let kept = among_filter (λ j. not (is_among (l.completed ++ l.batch) j)) (open_numbers m.scene.past q) k (among_get (unfinished q m) place k is) in
    let opened = missing-among (published m.scene.past q) (accepted m.scene.past q) k kept.0 in
    let t : not (is_among (l.completed ++ l.batch) k) ≡ true = kept.1 in
    (record { taken = opened.0; unpublished = opened.1 }, grind (arith, nat_tests))

-- and in the same place among those that are left where only the hidden part of a batch is out
pub left_at : (q : ℕ) (h : Header1) (m : Moment) (place k : ℕ) → Good q h m → slice_get (unfinished q m) place ≡ Some k → slice_get (left_of q m.scene.past (m.lanes q).completed (hidden_part (m.lanes q).phase (m.lanes q).batch)) place ≡ Some k
left_at q h m place k good is = ap (λ (ks : List ℕ). slice_get ks place) (left_part q h m good.holds) ∙ is

-- and a step of it is left
pub unfinished_pending : (q : ℕ) (h : Header1) (m : Moment) (k : ℕ) (request : Asked) → Good q h m → IsOpen m.scene.past q k → is_among ((m.lanes q).completed ++ (m.lanes q).batch) k ≡ false → asked m.scene.past q k ≡ Some request → IsPending ((m.lanes q).made k) (Some request)
unfinished_pending q h m k request good is_open out is =
    let l : Lane = m.lanes q in
    subst (λ (o : Option Asked). IsPending (l.made k) o) is (good.holds.worked.pending k is_open (left_hidden l.completed l.batch l.phase k out))

due_at : (q : ℕ) (h : Header1) (m : Moment) (setup : SplitSetup) (sizes : ℕ → ℕ) (state : QueueState) (place k : ℕ) (task : Task) → IsPlain h → Good q h m → ChainedAt q h m → LiesAs q setup h.size → area_place q + 1048576 ≤ sizes 0 → QueueStands q h setup m state → started m.scene.past q ≡ true
    → slice_get (unfinished q m) place ≡ Some k → slice_get state.unfinished place ≡ Some task → WorkReady q h sizes m state place
due_at q h m setup sizes state place k task plain good chained main room a run is at =
    let l : Lane = m.lanes q in
    let head : ℕ = slice_index (m.scene.heads q) k in
    let where_open = unfinished_open q m place k is in
    let is_out : IsOut q m.scene.past (m.scene.heads q) k = open_out q h.size h.capacity m.scene.past (m.scene.heads q) k good.holds.known where_open.0 in
    let meant : Meant q sizes setup.ring m.scene.memory head (asked m.scene.past q k) = work_means q h m sizes setup.ring place k plain good chained (ring_is q sizes setup h.size main room) is in
    let request : Asked = meant.request in
    let wide : IsWide h.capacity (Some request) = subst (λ (o : Option Asked). IsWide h.capacity o) meant.is (good.holds.known.wide k is_out.below) in
    let pending : IsPending (l.made k) (Some request) = unfinished_pending q h m k request good where_open.0 where_open.1 meant.is in
    let next = some_step h request (l.made k) plain.back wide pending in
    let stands : TaskAt q h setup m.scene.past (m.scene.heads q) k (l.made k) task = a.at.tasks place k task (left_at q h m place k good is) at in
    let n : Making = making_of q h m k meant.links request next.0 in
    let low : head < h.size = head_below q h m.scene (m.lanes q).driver (m.lanes q).bell (m.lanes q).plan (m.lanes q).counter (m.lanes q).batch (m.lanes q).phase k good.holds.queue is_out in
    let is_next : IsNext h.capacity sizes setup.ring m.scene.memory n = record {
      means = meant.means;
      served = record { basic = wide_basic h.capacity request wide; capacity = refl; cached = plain.back };
      next = next.1;
    } in
    let ready : IsReady setup.ring n task = (meant.at_head ∙ sym stands.head, stands.stands request meant.is) in
    record {
      k = k;
      request = request;
      task = task;
      links = meant.links;
      step = next.0;
      at = is;
      is = meant.is;
      head = stands.head;
      is_open = where_open.0;
      due = record {
        started = a.at.started ∙ run;
        at = at;
        fits = subst (λ (x : SplitRing). (head_in task) < x.size) (sym a.at.ring) (omega (arith, main.size, stands.head, low));
        next = subst (λ (x : SplitRing). IsNext h.capacity sizes x m.scene.memory n) (sym a.at.ring) is_next;
        ready = subst (λ (x : SplitRing). IsReady x n task) (sym a.at.ring) ready;
      };
    }

-- where work is ready, a step is due
pub work_ready : (q : ℕ) (h : Header1) (m : Moment) (setup : SplitSetup) (sizes : ℕ → ℕ) (state : QueueState) (place : ℕ) → IsPlain h → Good q h m → ChainedAt q h m → LiesAs q setup h.size → area_place q + 1048576 ≤ sizes 0 → QueueStands q h setup m state → is_ready (standing h q m) (turns.Work place) ≡ true
    → WorkReady q h sizes m state place
work_ready q h m setup sizes state place plain good chained main room a ready =
    let run : started m.scene.past q ≡ true = grind (arith, nat_tests) in
    let inside : place < length (unfinished q m) = grind (arith, nat_tests) in
    let is : slice_get (unfinished q m) place ≡ Some (slice_index (unfinished q m) place) = slice_get-get_or (unfinished q m) place 0 inside in
    let hides : List ℕ = hidden_part (m.lanes q).phase (m.lanes q).batch in
    let many : length state.unfinished ≡ length (unfinished q m) =
    count_is q h setup m.scene.past (m.scene.heads q) (m.lanes q).phase hides (m.lanes q).completed (m.lanes q).made state run (worked_at q h m good.holds) a.at ∙ ap (λ (ks : List ℕ). length ks) (left_part q h m good.holds) in
    let at : slice_get state.unfinished place ≡ Some (get_or state.unfinished place (fresh_task 0)) = slice_get-get_or state.unfinished place (fresh_task 0) (omega (arith, inside, many)) in
    due_at q h m setup sizes state place (slice_index (unfinished q m) place) (get_or state.unfinished place (fresh_task 0)) plain good chained main room a run is at
