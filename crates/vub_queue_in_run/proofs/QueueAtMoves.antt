-- What the moves of a run leave of where the queue stands.
use Rattle.std.proofs.Common.{◌≡◌, ◌<◌, ◌⊎◌, ℕ, zero, suc, ◌+◌, ◌*◌, ◌/◌, ◌%◌, Bool, true, false, not, List, [], ◌∷◌, ◌++◌, length, take, drop, map, get_or, refl, ap, sym, ◌∙◌, subst, inl, inr, arith}
use Rattle.std.specs.Prelude.{Option, Some, None, option_map, slice_get, slice_index, filter, set, ◌||◌}
use Rattle.std.proofs.lemmas.Bool.Decides.{nat_tests}
use Rattle.std.proofs.lemmas.Bool.{cases_Bool, cases_eq, or_left, or_right}
use Rattle.std.proofs.lemmas.List.{length-append, length-map, length-set, length-replicate, get_or-replicate, get_or-set_same, get_or-set_other, take-map, map-append, append-nil}
use Rattle.std.proofs.lemmas.Simd.{map-map}
use Rattle.std.proofs.lemmas.List.Elements.{filter-append}
use Rattle.std.proofs.lemmas.Option.{slice_get_within, slice_get-map}
use Rattle.vub_base.specs.declared.header.Header1.{Header1}
use Rattle.vub_steps.specs.declared.steps.Phase.{Phase}
use Rattle.vub_steps.specs.declared.steps.Phase.TheVariants as phases
use Rattle.vub_driver.specs.Layout.{area_place, buffer_place}
use Rattle.vub_device.specs.declared.entry.Answered.{Answered}
use Rattle.vub_device.specs.declared.entry.Asked.{Asked}
use Rattle.vub_device.specs.declared.entry.Asked.TheVariants as asks
use Rattle.vub_device.specs.declared.entry.Entry.{Entry}
use Rattle.vub_device.specs.declared.entry.Entry.TheVariants as entries
use Rattle.vub_device.specs.Past.{asked, accepted, published, numbers, missing_below, open_numbers, is_among, IsOpen, started}
use Rattle.vub_device.specs.Requests.{refusal}
use Rattle.vub_device.proofs.Numbers.{is_among_append}
use Rattle.vub_steps.specs.Tasks.{Look, Put, Act, Sync, Status, look_steps, act_steps, disk_steps, unless_refused, task_steps}
use Rattle.vub_task.specs.TaskState.{fresh_task, IsTaskAt, head_in}
use Rattle.vub_run.specs.Turns.{len_of}
use Rattle.vub_queue.specs.QueueParts.{is_taken, with_heads}
use Rattle.vub_queue.specs.QueueState as states
use Rattle.vub_queue.specs.QueueState.{QueueState, resumed}
use Rattle.vub_queue.specs.QueueFacts.{KeepsHeads, kept_phase, hidden_in, hidden_part, held_in}
use Rattle.vub_queue_in_run.specs.QueueAt.{spot_of, left_of, TaskAt, QueueAt, used_after, HoldsNothing}
use Rattle.vub_rec_split.specs.Starts.{RecoveryState}
use Rattle.vub_queue.proofs.QueueHeld.{words_with, fetched, shown, keeps_accepted, keeps_begun, keeps_alike, keeps_shown, all_hidden}
use Rattle.vub_facts.specs.Facts.{heads_in, without}
use Rattle.vub_facts.specs.Held.{Splits, busy}
use Rattle.vub_base.specs.declared.pending.Pending.{Pending}
use Rattle.vub_inflight.specs.Entries.{heads_of}
use Rattle.vub_queue.proofs.ResumeLemmas.{length_with}
use Rattle.vub_facts.proofs.HeadLemmas.{without_map, without_none, number_of, among_get}
use Rattle.vub_run.specs.Moments.{open_heads}
use Rattle.vub_device.specs.Places.{are_distinct}
use Rattle.vub_split.specs.Split.{ring_of_split}
use Rattle.vub_setup.specs.Setups.{SplitSetup}
use Rattle.vub_task.specs.declared.task.Task.{Task}
use Rattle.vub_run_laws.proofs.RunOwn.{accepted_own, published_own, started_own}
use Rattle.vub_run_laws.proofs.RunNumbers.{among_filter, missing-among, among-missing}
use Rattle.vub_run_laws.proofs.RingFacts.{map_alike}
use Rattle.vub_run_laws.proofs.RunHeads.{heads_accept, heads_publish, missing_exact}
use Rattle.vub_run_laws.proofs.RunGood.{Known, Worked}
use Rattle.vub_run_laws.proofs.RunOffers.{same_head, same_asked}
use Rattle.vub_run_laws.proofs.RunPhases.{swap_among}
use Rattle.vub_queue.proofs.QueueLemmas.{length_without}

-- ---- lists

pub filter_same : (f g : ℕ → Bool) (xs : List ℕ) → ((k : ℕ) → f k ≡ g k) → filter f xs ≡ filter g xs
filter_same f g [] same = refl
filter_same f g (x ∷ xs) same =
    let rest : filter f xs ≡ filter g xs = filter_same f g xs same in
    let here : f x ≡ g x = same x in
    grind (arith, nat_tests)

pub drop_map : (f : ℕ → ℕ × ℕ) (n : ℕ) (xs : List ℕ) → drop n (map f xs) ≡ map f (drop n xs)
drop_map f zero xs = refl
drop_map f (suc n) [] = refl
drop_map f (suc n) (x ∷ xs) = drop_map f n xs

-- a place in a list with one more at its end
pub pushed_place : {A : Type 0} (xs : List A) (x y : A) (i : ℕ) → slice_get (xs ++ x ∷ []) i ≡ Some y → (slice_get xs i ≡ Some y) ⊎ ((i ≡ length xs) × (x ≡ y))
pushed_place [] x y zero e = inr (refl, cc)
pushed_place [] x y (suc i) e = absurd (cc)
pushed_place (z ∷ xs) x y zero e = inl e
pushed_place (z ∷ xs) x y (suc i) e = elim (pushed_place xs x y i e) [
  | inl before ↦ inl before
  | inr last ↦ inr (omega (arith, last.0), last.1)
]

-- ---- the requests that are left

-- the same where the same are completed
pub left_same : (q : ℕ) (past : List Entry) (a b c d : List ℕ) → ((k : ℕ) → is_among (a ++ b) k ≡ is_among (c ++ d) k) → left_of q past a b ≡ left_of q past c d
left_same q past a b c d same = filter_same (λ k. not (is_among (a ++ b) k)) (λ k. not (is_among (c ++ d) k)) (open_numbers past q) (λ k. ap not (same k))

-- one that is left was accepted, isn't published and isn't completed
pub record IsLeft (q : ℕ) (past : List Entry) (completed batch : List ℕ) (k : ℕ) : Type 0 where
  pub is_open : IsOpen past q k
  pub out : is_among (completed ++ batch) k ≡ false

pub left_is : (q : ℕ) (past : List Entry) (completed batch : List ℕ) (k : ℕ) → is_among (left_of q past completed batch) k ≡ true → IsLeft q past completed batch k
left_is q past completed batch k held =
    let kept = among_filter (λ j. not (is_among (completed ++ batch) j)) (open_numbers past q) k held in
    let opened = missing-among (published past q) (accepted past q) k kept.0 in
    let test : not (is_among (completed ++ batch) k) ≡ true = kept.1 in
    record { is_open = record { taken = opened.0; unpublished = opened.1 }; out = grind (arith, nat_tests) }

-- ---- the heads that the queue keeps

-- the heads of a batch
heads_of_spots : (q : ℕ) (h : Header1) (past : List Entry) (heads ks : List ℕ) → heads_in (map (spot_of q h past heads) ks) ≡ map (slice_index heads) ks
heads_of_spots q h past heads ks = map-map (λ (x : ℕ × ℕ). x.0) (spot_of q h past heads) ks

pub heads_distinct : (q : ℕ) (h : Header1) (setup : SplitSetup) (past : List Entry) (heads : List ℕ) (phase : Phase) (batch completed : List ℕ) (made : ℕ → ℕ) (state : QueueState) → started past q ≡ true → QueueAt q h setup past heads phase batch completed made state
    → are_distinct (open_heads q past heads) ≡ true
heads_distinct q h setup past heads phase batch completed made state run x = (x.keeps run (words_with (used_after h q past)) refl).distinct

-- its tasks are those of the requests that are left, in order
pub left_heads : (q : ℕ) (h : Header1) (setup : SplitSetup) (past : List Entry) (heads : List ℕ) (phase : Phase) (batch completed : List ℕ) (made : ℕ → ℕ) (state : QueueState) → started past q ≡ true → Worked q past phase batch completed made
    → QueueAt q h setup past heads phase batch completed made state → map head_in state.unfinished ≡ map (slice_index heads) (left_of q past completed batch)
left_heads q h setup past heads phase batch completed made state run w x =
    let f : ℕ → ℕ = slice_index heads in
    let kept = x.keeps run (words_with (used_after h q past)) refl in
    let joined : (k : ℕ) → is_among (batch ++ completed) k ≡ is_among (completed ++ batch) k = λ k.
    let one : is_among (batch ++ completed) k ≡ (is_among batch k || is_among completed k) = is_among_append batch completed k in
    let other : is_among (completed ++ batch) k ≡ (is_among completed k || is_among batch k) = is_among_append completed batch k in
    grind (arith, nat_tests) in
    let opens : (k : ℕ) → is_among (batch ++ completed) k ≡ true → is_among (open_numbers past q) k ≡ true = λ k held.
    let o : IsOpen past q k = w.opens k (sym (joined k) ∙ held) in among-missing (published past q) (accepted past q) k o.taken o.unpublished in
    let spots : hidden_in state ++ state.completed ≡ map (spot_of q h past heads) (batch ++ completed) =
    ap (λ (xs : List (ℕ × ℕ)). xs ++ state.completed) x.batch ∙ ap (λ (xs : List (ℕ × ℕ)). map (spot_of q h past heads) batch ++ xs) x.completed ∙ sym (map-append (spot_of q h past heads) batch completed) in
    let busy_is : heads_in (hidden_in state ++ state.completed) ≡ map f (batch ++ completed) = ap heads_in spots ∙ heads_of_spots q h past heads (batch ++ completed) in
    let same : without (batch ++ completed) (open_numbers past q) ≡ left_of q past completed batch =
    filter_same (λ k. not (is_among (batch ++ completed) k)) (λ k. not (is_among (completed ++ batch) k)) (open_numbers past q) (λ k. ap not (joined k)) in
    kept.splits.left ∙ ap (λ (hs : List ℕ). without hs (open_heads q past heads)) busy_is ∙ without_map f (batch ++ completed) (open_numbers past q) kept.distinct opens ∙ ap (λ (ks : List ℕ). map f ks) same

-- and as many
pub count_is : (q : ℕ) (h : Header1) (setup : SplitSetup) (past : List Entry) (heads : List ℕ) (phase : Phase) (batch completed : List ℕ) (made : ℕ → ℕ) (state : QueueState) → started past q ≡ true → Worked q past phase batch completed made
    → QueueAt q h setup past heads phase batch completed made state → length state.unfinished ≡ length (left_of q past completed batch)
count_is q h setup past heads phase batch completed made state run w x =
    sym (length-map state.unfinished head_in) ∙ ap (λ (hs : List ℕ). length hs) (left_heads q h setup past heads phase batch completed made state run w x) ∙ length-map (left_of q past completed batch) (slice_index heads)

-- where nothing is completed and no batch is hidden, the heads of its tasks are those of the open requests, in order
pub heads_open : (q : ℕ) (h : Header1) (setup : SplitSetup) (past : List Entry) (heads : List ℕ) (phase : Phase) (batch completed : List ℕ) (made : ℕ → ℕ) (state : QueueState) → started past q ≡ true → batch ≡ [] → completed ≡ []
    → QueueAt q h setup past heads phase batch completed made state → map head_in state.unfinished ≡ open_heads q past heads
heads_open q h setup past heads phase batch completed made state run no_batch none x =
    (x.keeps run (words_with (used_after h q past)) refl).splits.left
    ∙ ap (λ (b : List (ℕ × ℕ)). without (heads_in (b ++ state.completed)) (open_heads q past heads)) (x.batch ∙ ap (map (spot_of q h past heads)) no_batch)
    ∙ ap (λ (c : List (ℕ × ℕ)). without (heads_in c) (open_heads q past heads)) (x.completed ∙ ap (map (spot_of q h past heads)) none)
    ∙ without_none (open_heads q past heads)

-- those of its tasks are places of the ring
pub heads_low : (q : ℕ) (h : Header1) (setup : SplitSetup) (past : List Entry) (heads : List ℕ) (phase : Phase) (batch completed : List ℕ) (made : ℕ → ℕ) (state : QueueState) (i head : ℕ) → QueueAt q h setup past heads phase batch completed made state
    → slice_get (map head_in state.unfinished) i ≡ Some head → head < setup.ring.size
heads_low q h setup past heads phase batch completed made state i head x found = elim (cases_Bool (started past q)) [
  | inl run ↦
      let held = x.keeps run (words_with (used_after h q past)) refl in
      let busy_are : List ℕ = heads_in (hidden_in state ++ state.completed) in
      let among : is_among (without busy_are (open_heads q past heads)) head ≡ true = ap (λ (hs : List ℕ). is_among hs head) (sym held.splits.left) ∙ among_get (map head_in state.unfinished) i head found in
      held.below head (among_filter (λ d. not (is_among busy_are d)) (open_heads q past heads) head among).0
  | inr stopped ↦ absurd (
      let low : i < length (map head_in state.unfinished) = slice_get_within (map head_in state.unfinished) i head found in
      let none : length (map head_in state.unfinished) ≡ 0 = ap (λ (ts : List Task). length (map head_in ts)) (x.nothing stopped).unfinished in
      omega (arith, low, none))
]

-- the avail position is the base advanced by what was accepted
pub avail_is : (q : ℕ) (h : Header1) (setup : SplitSetup) (past : List Entry) (heads : List ℕ) (phase : Phase) (batch completed : List ℕ) (made : ℕ → ℕ) (state : QueueState) → started past q ≡ true → Known q h.size h.capacity past heads
    → QueueAt q h setup past heads phase batch completed made state → state.next_avail ≡ (h.base + accepted past q) % 65536
avail_is q h setup past heads phase batch completed made state run known x =
    let all : length (open_numbers past q) + length (published past q) ≡ accepted past q = missing_exact (published past q) (accepted past q) known.distinct known.below in
    omega (arith, (x.keeps run (words_with (used_after h q past)) refl).avail, all, length-map (open_numbers past q) (slice_index heads))

-- a head that is taken is that of an open request
pub taken_open : (q : ℕ) (h : Header1) (setup : SplitSetup) (past : List Entry) (heads : List ℕ) (phase : Phase) (batch completed : List ℕ) (made : ℕ → ℕ) (state : QueueState) (d : ℕ) → started past q ≡ true → d < setup.ring.size → is_taken state.taken d ≡ true
    → QueueAt q h setup past heads phase batch completed made state → (k : ℕ) × IsOpen past q k × (slice_index heads k ≡ d)
taken_open q h setup past heads phase batch completed made state d run low held x =
    let among : is_among (open_heads q past heads) d ≡ true = sym ((x.keeps run (words_with (used_after h q past)) refl).taken d low) ∙ held in
    let there = number_of (slice_index heads) (open_numbers past q) d among in
    let opened = missing-among (published past q) (accepted past q) there.0 there.1 in
    (there.0, record { taken = opened.0; unpublished = opened.1 }, there.2)

-- ---- the first step of a request

-- no request begins with a store of what was read
first_look : (n : ℕ) (place : ℕ) → slice_get (look_steps 0 n ++ Status ∷ []) 0 ≡ Some (Put place) → ⊥
first_look zero place e = let fails : Some Status ≡ Some (Put place) = e in cc
first_look (suc n) place e = let fails : Some (Look 0) ≡ Some (Put place) = e in cc

first_act : (n : ℕ) (place : ℕ) → slice_get (act_steps 0 n ++ Status ∷ []) 0 ≡ Some (Put place) → ⊥
first_act zero place e = let fails : Some Status ≡ Some (Put place) = e in cc
first_act (suc n) place e = let fails : Some (Act 0) ≡ Some (Put place) = e in cc

first_disk : (request : Asked) (place : ℕ) → slice_get (disk_steps request ++ Status ∷ []) 0 ≡ Some (Put place) → ⊥
first_disk (asks.Read s n) place e = first_look n place e
first_disk (asks.Write s bytes) place e = first_act (length bytes / 512) place e
first_disk asks.Flush place e = let fails : Some Sync ≡ Some (Put place) = e in cc
first_disk asks.Id place e = let fails : Some Status ≡ Some (Put place) = e in cc
first_disk (asks.Discard parts) place e = let fails : Some Status ≡ Some (Put place) = e in cc
first_disk (asks.Zero parts) place e = let fails : Some Status ≡ Some (Put place) = e in cc

first_step : (refused : Option ℕ) (request : Asked) (place : ℕ) → slice_get (unless_refused refused (disk_steps request) ++ Status ∷ []) 0 ≡ Some (Put place) → ⊥
first_step None request place e = first_disk request place e
first_step (Some status) request place e = let fails : Some Status ≡ Some (Put place) = e in cc

-- so where no step was made, none is due
starts_otherwise : (h : Header1) (request : Asked) (place made : ℕ) → made ≡ 0 → slice_get (task_steps h request) made ≡ Some (Put place) → ⊥
starts_otherwise h request place made none next = first_step (refusal h.capacity h.mode request) request place (subst (λ (n : ℕ). slice_get (task_steps h request) n ≡ Some (Put place)) none next)

-- ---- a queue that isn't started

-- a new queue stands wherever it isn't started, and no step is made
pub at_new : (q : ℕ) (h : Header1) (setup : SplitSetup) (past : List Entry) (heads : List ℕ) (made : ℕ → ℕ) (state : QueueState) → started past q ≡ false → ((k : ℕ) → made k ≡ 0) → states.IsNew setup state → QueueAt q h setup past heads phases.Rest [] [] made state
at_new q h setup past heads made state stopped none new = subst (λ (t : QueueState). QueueAt q h setup past heads phases.Rest [] [] made t) (sym new.is) (record {
  ring = refl;
  runs = refl;
  started = sym stopped;
  phase = refl;
  batch = refl;
  completed = refl;
  keeps = λ run. absurd (let fails : true ≡ false = sym run ∙ stopped in cc);
  nothing = λ still. record { unfinished = refl; taken = λ head low. get_or-replicate setup.ring.size head false true low };
  tasks = λ i k task there is. absurd (let low : i < 0 = slice_get_within {A = Task} [] i task is in omega (arith, low));
  buffers = new.buffers;
  places = length-replicate setup.ring.size false;
  sectors = λ k place request held asks_it next. absurd (starts_otherwise h request place (made k) (none k) next);
})

-- ---- a start

-- in its start
pub at_starting : (q : ℕ) (h : Header1) (setup : SplitSetup) (past : List Entry) (heads : List ℕ) (phase : Phase) (batch completed : List ℕ) (made : ℕ → ℕ) (state : QueueState) (r : RecoveryState) (rung : Bool) (done : ℕ) → kept_phase phase ≡ phases.Rest → batch ≡ []
    → QueueAt q h setup past heads phase batch completed made state → QueueAt q h setup past heads (phases.Start done) [] completed made (record state { recovery = r; rung = rung })
at_starting q h setup past heads phase batch completed made state r rung done rests none x = subst (λ (ks : List ℕ). QueueAt q h setup past heads (phases.Start done) ks completed made (record state { recovery = r; rung = rung })) none (record {
  ring = x.ring;
  runs = x.runs;
  started = x.started;
  phase = x.phase ∙ rests;
  batch = x.batch;
  completed = x.completed;
  keeps = x.keeps;
  nothing = λ stopped. record { unfinished = (x.nothing stopped).unfinished; taken = (x.nothing stopped).taken };
  tasks = x.tasks;
  buffers = x.buffers;
  places = x.places;
  sectors = x.sectors;
})

-- where nothing is completed, all open requests are left, in order
left_all : (q : ℕ) (past : List Entry) → left_of q past [] [] ≡ open_numbers past q
left_all q past = all (open_numbers past q)
  where
    all : (ks : List ℕ) → filter (λ k. not (is_among ([] ++ []) k)) ks ≡ ks
    all [] = refl
    all (k ∷ ks) = ap (λ (rest : List ℕ). k ∷ rest) (all ks)

fresh_heads : (heads : List ℕ) → map head_in (map fresh_task heads) ≡ heads
fresh_heads [] = refl
fresh_heads (head ∷ heads) = ap (λ (rest : List ℕ). head ∷ rest) (fresh_heads heads)

-- once these heads are taken, a head is if it is one of them, or was before
taken_with : (heads : List ℕ) (taken : List Bool) (d : ℕ) → d < length taken → is_taken (with_heads heads taken) d ≡ (is_among heads d || is_taken taken d)
taken_with [] taken d low = refl
taken_with (head ∷ heads) taken d low =
    let rest : is_taken (with_heads heads (set taken head true)) d ≡ (is_among heads d || is_taken (set taken head true) d) = taken_with heads (set taken head true) d (omega (arith, low, length-set taken head true)) in
    elim (cases_eq head d) [
      | inl same ↦
          let there : get_or (set taken head true) head true ≡ true = get_or-set_same taken head true true (omega (arith, low, same)) in
          let here : get_or (set taken head true) d true ≡ true = ap (λ (i : ℕ). get_or (set taken head true) i true) (sym same) ∙ there in
          grind (arith, nat_tests)
      | inr apart ↦
          let other : get_or (set taken head true) d true ≡ get_or taken d true = get_or-set_other taken head d true true (λ e. apart (sym e)) in
          grind (arith, nat_tests)
    ]

-- what its start has found: the open requests, whose heads are distinct places of the ring
pub record Finds (n : ℕ) (heads : List ℕ) (list : List Pending) : Type 0 where
  pub reads : heads_of list ≡ heads
  pub distinct : are_distinct heads ≡ true
  pub below : (head : ℕ) → is_among heads head ≡ true → head < n

-- so it keeps the open heads, where it kept nothing
keeps_resumed : (n : ℕ) (list : List Pending) (heads : List ℕ) (used : ℕ) (state : QueueState) → Finds n heads list → length state.taken ≡ n → hidden_in state ≡ [] → state.completed ≡ [] → HoldsNothing n state → KeepsHeads n heads used (resumed used list state)
keeps_resumed n list heads used state found places empty none nothing w at =
    let many : length list ≡ length heads = sym (length-map list (λ (e : Pending). e.head)) ∙ ap (λ (hs : List ℕ). length hs) found.reads in
    let free : busy (held_in (resumed used list state)) ≡ [] = ap (λ (b : List (ℕ × ℕ)). heads_in (b ++ state.completed)) empty ∙ ap heads_in none in
    let all : map head_in (map fresh_task (heads_of list)) ≡ heads = fresh_heads (heads_of list) ∙ found.reads in
    record {
      distinct = found.distinct;
      below = found.below;
      avail = omega (arith, at, many);
      taken = λ d low.
          let one : is_taken (with_heads (heads_of list) state.taken) d ≡ (is_among (heads_of list) d || is_taken state.taken d) = taken_with (heads_of list) state.taken d (omega (arith, low, places)) in
          let out : is_taken state.taken d ≡ false = nothing.taken d low in
          let same : is_among (heads_of list) d ≡ is_among heads d = ap (λ (hs : List ℕ). is_among hs d) found.reads in
          grind (arith, nat_tests);
      splits = subst (λ (bs : List ℕ). Splits heads bs (map head_in (map fresh_task (heads_of list)))) (sym free) (record {
        once = refl;
        opens = λ d held. absurd (let fails : false ≡ true = held in cc);
        left = all ∙ sym (without_none heads);
      });
    }

-- the task of an open request begins anew
begins_anew : (q : ℕ) (h : Header1) (setup : SplitSetup) (past : List Entry) (heads : List ℕ) (k made : ℕ) (task : Task) → made ≡ 0 → fresh_task (slice_index heads k) ≡ task → TaskAt q h setup past heads k made task
begins_anew q h setup past heads k made task none is = subst (λ (t : Task). TaskAt q h setup past heads k made t) is (record {
  head = refl;
  stands = λ request asks_it. record { begins = λ e. refl; goes_on = λ some. absurd (omega (arith, none, some)) };
})

-- at its end it goes on with the open requests
pub at_started : (q : ℕ) (h : Header1) (setup : SplitSetup) (past : List Entry) (heads : List ℕ) (phase : Phase) (batch completed : List ℕ) (made : ℕ → ℕ) (state : QueueState) (r : RecoveryState) (list : List Pending) (used : ℕ) → started past q ≡ false → kept_phase phase ≡ phases.Rest → batch ≡ [] → completed ≡ [] → ((k : ℕ) → made k ≡ 0)
    → Finds setup.ring.size (open_heads q past heads) list → used ≡ used_after h q past
    → QueueAt q h setup past heads phase batch completed made state → QueueAt q h setup (entries.Start q (open_numbers past q) ∷ past) heads phases.Rest [] completed made (resumed used list (record state { recovery = r }))
at_started q h setup past heads phase batch completed made state r list used stopped rests empty none unmade found used_is x = record {
  ring = x.ring;
  runs = x.runs;
  started = sym (started_own past q (open_numbers past q));
  phase = x.phase ∙ rests;
  batch = no_batch;
  completed = x.completed;
  keeps = λ run. subst (λ (u : ℕ). KeepsHeads setup.ring.size (open_heads q past heads) u (resumed used list (record state { recovery = r }))) used_is
      (keeps_resumed setup.ring.size list (open_heads q past heads) used (record state { recovery = r }) found x.places no_batch no_completed (record { unfinished = (x.nothing stopped).unfinished; taken = (x.nothing stopped).taken }));
  nothing = λ still. absurd (let fails : true ≡ false = sym (started_own past q (open_numbers past q)) ∙ still in cc);
  tasks = λ i k task there is. begins_anew q h setup (entries.Start q (open_numbers past q) ∷ past) heads k (made k) task (unmade k) (task_is i k task there is);
  buffers = x.buffers;
  places = length_with (heads_of list) state.taken ∙ x.places;
  sectors = λ k place request held asks_it next. absurd (starts_otherwise h request place (made k) (unmade k) next);
}
  where
    no_batch : hidden_in state ≡ []
    no_batch = x.batch ∙ ap (λ (ks : List ℕ). map (spot_of q h past heads) ks) empty

    no_completed : state.completed ≡ []
    no_completed = x.completed ∙ ap (λ (ks : List ℕ). map (spot_of q h past heads) ks) none

    task_is : (i k : ℕ) (task : Task) → slice_get (left_of q past completed []) i ≡ Some k → slice_get (map fresh_task (heads_of list)) i ≡ Some task → fresh_task (slice_index heads k) ≡ task
    task_is i k task there is =
        let at_k : slice_get (open_numbers past q) i ≡ Some k = ap (λ (ks : List ℕ). slice_get ks i) (sym (left_all q past)) ∙ ap (λ (cs : List ℕ). slice_get (left_of q past cs []) i) (sym none) ∙ there in
        let at_head : slice_get (open_heads q past heads) i ≡ Some (slice_index heads k) = slice_get-map (slice_index heads) (open_numbers past q) i ∙ ap (option_map (slice_index heads)) at_k in
        let at_task : slice_get (map fresh_task (heads_of list)) i ≡ Some (fresh_task (slice_index heads k)) =
        ap (λ (hs : List ℕ). slice_get (map fresh_task hs) i) found.reads ∙ slice_get-map fresh_task (open_heads q past heads) i ∙ ap (option_map fresh_task) at_head in
        let both : Some (fresh_task (slice_index heads k)) ≡ Some task = sym at_task ∙ is in
        cc

-- ---- a fetch

-- the new request isn't published, and is left
pub new_unpublished : (q n cap : ℕ) (past : List Entry) (heads : List ℕ) → Known q n cap past heads → is_among (published past q) (accepted past q) ≡ false
new_unpublished q n cap past heads known = elim (cases_Bool (is_among (published past q) (accepted past q))) [
  | inl there ↦ absurd (let low : accepted past q < accepted past q = known.below (accepted past q) there in omega arith)
  | inr out ↦ out
]

new_out : (q : ℕ) (past : List Entry) (phase : Phase) (batch completed : List ℕ) (made : ℕ → ℕ) → Worked q past phase batch completed made → is_among (completed ++ batch) (accepted past q) ≡ false
new_out q past phase batch completed made w = elim (cases_Bool (is_among (completed ++ batch) (accepted past q))) [
  | inl there ↦ absurd (let low : accepted past q < accepted past q = (w.opens (accepted past q) there).taken in omega arith)
  | inr out ↦ out
]

pub left_more : (q : ℕ) (past : List Entry) (completed batch : List ℕ) (k : ℕ) → is_among (published past q) (accepted past q) ≡ false → is_among (completed ++ batch) (accepted past q) ≡ false
    → left_of q (entries.Accept q k ∷ past) completed batch ≡ left_of q past completed batch ++ accepted past q ∷ []
left_more q past completed batch k unpublished out =
    let a : ℕ = accepted past q in
    let ps : List ℕ = published past q in
    let test : ℕ → Bool = λ j. not (is_among (completed ++ batch) j) in
    let next : a + 1 ≡ suc a = omega arith in
    let longer : missing_below ps (suc a) ≡ missing_below ps a ++ a ∷ [] = grind (arith, nat_tests) in
    let kept : filter test (a ∷ []) ≡ a ∷ [] = grind (arith, nat_tests) in
    ap (λ (n : ℕ). filter test (missing_below ps n)) (accepted_own past q a) ∙ ap (λ (n : ℕ). filter test (missing_below ps n)) next ∙ ap (filter test) longer ∙ filter-append test (missing_below ps a) (a ∷ []) ∙ ap (λ (ks : List ℕ). filter test (missing_below ps a) ++ ks) kept

pub at_fetch : (q : ℕ) (h : Header1) (setup : SplitSetup) (past : List Entry) (heads : List ℕ) (phase : Phase) (completed : List ℕ) (made : ℕ → ℕ) (state : QueueState) (head : ℕ) → started past q ≡ true → Known q h.size h.capacity past heads → Worked q past phase [] completed made
    → head ≡ slice_index heads (accepted past q) → head < setup.ring.size → is_taken state.taken head ≡ false → hidden_in state ≡ [] → QueueAt q h setup past heads phase [] completed made state
    → QueueAt q h setup (entries.Accept q (accepted past q) ∷ past) heads phases.Rest [] completed made (fetched head state)
at_fetch q h setup past heads phase completed made state head run known w is small free empty x =
    let a : ℕ = accepted past q in
    let past' : List Entry = entries.Accept q a ∷ past in
    let none : made a ≡ 0 = w.untouched a (omega arith) in
    let unpublished : is_among (published past q) a ≡ false = new_unpublished q h.size h.capacity past heads known in
    let more : left_of q past' completed [] ≡ left_of q past completed [] ++ a ∷ [] = left_more q past completed [] a unpublished (new_out q past phase [] completed made w) in
    let count : length state.unfinished ≡ length (left_of q past completed []) = count_is q h setup past heads phase [] completed made state run w x in
    let joins : open_heads q past' heads ≡ open_heads q past heads ++ head ∷ [] = heads_accept q past heads a unpublished ∙ ap (λ (y : ℕ). open_heads q past heads ++ y ∷ []) (sym is) in
    record {
      ring = x.ring;
      runs = x.runs;
      started = x.started;
      phase = refl;
      batch = refl;
      completed = x.completed;
      keeps = λ runs. subst (λ (hs : List ℕ). KeepsHeads setup.ring.size hs (used_after h q past) (fetched head state)) (sym joins) (keeps_accepted (ring_of_split setup.ring) (open_heads q past heads) (used_after h q past) state head small x.places free empty (x.keeps runs));
      nothing = λ stopped. absurd (let fails : true ≡ false = sym run ∙ stopped in cc);
      tasks = λ i k task there is_task.
          let there_too : slice_get (left_of q past completed [] ++ a ∷ []) i ≡ Some k = subst (λ (ks : List ℕ). slice_get ks i ≡ Some k) more there in
          elim (pushed_place (left_of q past completed []) a k i there_too) [
            | inl old ↦ elim (pushed_place state.unfinished (fresh_task head) task i is_task) [
              | inl old_task ↦ let t = x.tasks i k task old old_task in record { head = t.head; stands = t.stands }
              | inr last ↦ absurd (let low : i < length (left_of q past completed []) = slice_get_within (left_of q past completed []) i k old in omega (arith, last.0, count, low))
            ]
            | inr last ↦ elim (pushed_place state.unfinished (fresh_task head) task i is_task) [
              | inl old_task ↦ absurd (let low : i < length state.unfinished = slice_get_within state.unfinished i task old_task in omega (arith, last.0, count, low))
              | inr new ↦ subst (λ (t : Task). TaskAt q h setup past' heads k (made k) t) new.1 (subst (λ (j : ℕ). TaskAt q h setup past' heads j (made j) (fresh_task head)) last.1 (record {
                head = is;
                stands = λ request asks_it. record { begins = λ e. refl; goes_on = λ some. absurd (omega arith) };
              }))
            ]
          ];
      buffers = x.buffers;
      places = length-set state.taken head true ∙ x.places;
      sectors = λ k place request held asks_it next. elim (cases_Bool (is_among (left_of q past completed []) k)) [
        | inl old ↦ x.sectors k place request old asks_it next
        | inr new ↦
            let joined : is_among (left_of q past completed [] ++ a ∷ []) k ≡ (is_among (left_of q past completed []) k || is_among (a ∷ []) k) = is_among_append (left_of q past completed []) (a ∷ []) k in
            let whole : is_among (left_of q past completed [] ++ a ∷ []) k ≡ true = subst (λ (ks : List ℕ). is_among ks k ≡ true) more held in
            let same : a ≡ k = grind (arith, nat_tests) in
            let begun : made k ≡ 0 = ap made (sym same) ∙ none in
            absurd (starts_otherwise h request place (made k) begun next)
      ];
    }

-- ---- a batch is taken

pub at_begin : (q : ℕ) (h : Header1) (setup : SplitSetup) (past : List Entry) (heads : List ℕ) (completed : List ℕ) (made : ℕ → ℕ) (state : QueueState) (most : ℕ) → QueueAt q h setup past heads phases.Rest [] completed made state
    → QueueAt q h setup past heads (phases.Publish 0) (take most completed) (drop most completed) made (states.begun most state)
at_begin q h setup past heads completed made state most x =
    let same : left_of q past (drop most completed) (take most completed) ≡ left_of q past completed [] = left_same q past (drop most completed) (take most completed) completed [] (swap_among most completed) in
    record {
      ring = x.ring;
      runs = x.runs;
      started = x.started;
      phase = refl;
      batch = all_hidden (take most state.completed) ∙ ap (take most) x.completed ∙ take-map (spot_of q h past heads) most completed;
      completed = ap (drop most) x.completed ∙ drop_map (spot_of q h past heads) most completed;
      keeps = λ run. keeps_begun setup.ring.size (open_heads q past heads) (used_after h q past) most state x.batch (x.keeps run);
      nothing = λ stopped. record { unfinished = (x.nothing stopped).unfinished; taken = (x.nothing stopped).taken };
      tasks = λ i k task there is. x.tasks i k task (subst (λ (ks : List ℕ). slice_get ks i ≡ Some k) same there) is;
      buffers = x.buffers;
      places = x.places;
      sectors = λ k place request held asks_it next. x.sectors k place request (subst (λ (ks : List ℕ). is_among ks k ≡ true) same held) asks_it next;
    }

-- ---- a step of a phase

-- a queue that hides the same, and changed in its phase alone
pub at_goes : (q : ℕ) (h : Header1) (setup : SplitSetup) (past : List Entry) (heads : List ℕ) (phase : Phase) (batch completed : List ℕ) (made : ℕ → ℕ) (state : QueueState) (p p' : Phase) (c : ℕ) (f : Option ℕ) (b : List (ℕ × ℕ)) → p' ≡ kept_phase p → hidden_part p' b ≡ hidden_in state
    → QueueAt q h setup past heads phase batch completed made state → QueueAt q h setup past heads p batch completed made (record state { phase = p'; counter = c; fetching = f; batch = b })
at_goes q h setup past heads phase batch completed made state p p' c f b is same x = record {
  ring = x.ring;
  runs = x.runs;
  started = x.started;
  phase = is;
  batch = same ∙ x.batch;
  completed = x.completed;
  keeps = λ run. keeps_alike setup.ring.size (open_heads q past heads) (used_after h q past) state p' c f b same (x.keeps run);
  nothing = λ stopped. record { unfinished = (x.nothing stopped).unfinished; taken = (x.nothing stopped).taken };
  tasks = x.tasks;
  buffers = x.buffers;
  places = x.places;
  sectors = x.sectors;
}

-- ---- a publication

-- those that are left after it were left before
show_filter : (ps completed batch : List ℕ) (n : ℕ)
    → filter (λ k. not (is_among (completed ++ []) k)) (missing_below (ps ++ batch) n) ≡ filter (λ k. not (is_among (completed ++ batch) k)) (missing_below ps n)
show_filter ps completed batch zero = refl
show_filter ps completed batch (suc n) =
    let before : ℕ → Bool = λ k. not (is_among (completed ++ batch) k) in
    let after : ℕ → Bool = λ k. not (is_among (completed ++ []) k) in
    let rest : filter after (missing_below (ps ++ batch) n) ≡ filter before (missing_below ps n) = show_filter ps completed batch n in
    let both : is_among (ps ++ batch) n ≡ (is_among ps n || is_among batch n) = is_among_append ps batch n in
    let whole : is_among (completed ++ batch) n ≡ (is_among completed n || is_among batch n) = is_among_append completed batch n in
    let bare : is_among (completed ++ []) n ≡ is_among completed n = ap (λ (ks : List ℕ). is_among ks n) (append-nil completed) in
    let longer : filter after (missing_below (ps ++ batch) n ++ n ∷ []) ≡ filter after (missing_below (ps ++ batch) n) ++ filter after (n ∷ []) = filter-append after (missing_below (ps ++ batch) n) (n ∷ []) in
    let longer_too : filter before (missing_below ps n ++ n ∷ []) ≡ filter before (missing_below ps n) ++ filter before (n ∷ []) = filter-append before (missing_below ps n) (n ∷ []) in
    let nothing : filter before (missing_below ps n) ++ [] ≡ filter before (missing_below ps n) = append-nil (filter before (missing_below ps n)) in
    elim (cases_Bool (is_among ps n)) [
      | inl shown ↦ grind (arith, nat_tests)
      | inr new ↦ elim (cases_Bool (is_among batch n)) [
        | inl now ↦
            let dropped : filter before (n ∷ []) ≡ [] = grind (arith, nat_tests) in
            let skips : missing_below (ps ++ batch) (suc n) ≡ missing_below (ps ++ batch) n = grind (arith, nat_tests) in
            let keeps : missing_below ps (suc n) ≡ missing_below ps n ++ n ∷ [] = grind (arith, nat_tests) in
            ap (filter after) skips ∙ rest ∙ sym nothing ∙ ap (λ (ks : List ℕ). filter before (missing_below ps n) ++ ks) (sym dropped) ∙ sym longer_too ∙ ap (filter before) (sym keeps)
        | inr later ↦
            let alike : filter after (n ∷ []) ≡ filter before (n ∷ []) = grind (arith, nat_tests) in
            let keeps : missing_below (ps ++ batch) (suc n) ≡ missing_below (ps ++ batch) n ++ n ∷ [] = grind (arith, nat_tests) in
            let keeps_too : missing_below ps (suc n) ≡ missing_below ps n ++ n ∷ [] = grind (arith, nat_tests) in
            ap (filter after) keeps ∙ longer ∙ ap (λ (ks : List ℕ). ks ++ filter after (n ∷ [])) rest ∙ ap (λ (ks : List ℕ). filter before (missing_below ps n) ++ ks) alike ∙ sym longer_too ∙ ap (filter before) (sym keeps_too)
      ]
    ]

pub left_shown : (q : ℕ) (past : List Entry) (completed batch : List ℕ) (list : List Answered) → numbers list ≡ batch → left_of q (entries.Publish q list ∷ past) completed [] ≡ left_of q past completed batch
left_shown q past completed batch list is =
    ap (λ (ks : List ℕ). filter (λ k. not (is_among (completed ++ []) k)) (missing_below ks (accepted past q))) (published_own past q list)
    ∙ ap (λ (ks : List ℕ). filter (λ k. not (is_among (completed ++ []) k)) (missing_below (published past q ++ ks) (accepted past q))) is
    ∙ show_filter (published past q) completed batch (accepted past q)

pub at_show : (q : ℕ) (h : Header1) (setup : SplitSetup) (past : List Entry) (heads : List ℕ) (phase : Phase) (batch completed : List ℕ) (made : ℕ → ℕ) (state : QueueState) (list : List Answered) (done : ℕ) → started past q ≡ true → numbers list ≡ batch → ((k : ℕ) → is_among batch k ≡ true → IsOpen past q k)
    → hidden_in state ≡ state.batch → 4 * length state.batch < done → QueueAt q h setup past heads phase batch completed made state → QueueAt q h setup (entries.Publish q list ∷ past) heads (phases.Publish done) [] completed made (shown done state)
at_show q h setup past heads phase batch completed made state list done run is opens all past_all x =
    let past' : List Entry = entries.Publish q list ∷ past in
    let spots : state.batch ≡ map (spot_of q h past heads) batch = sym all ∙ x.batch in
    let many : length state.batch ≡ length batch = ap (λ (ks : List (ℕ × ℕ)). length ks) spots ∙ length-map batch (spot_of q h past heads) in
    let same : left_of q past' completed [] ≡ left_of q past completed batch = left_shown q past completed batch list is in
    let shows : length (published past' q) ≡ length (published past q) + length batch = ap (λ (ks : List ℕ). length ks) (published_own past q list) ∙ length-append (published past q) (numbers list) ∙ ap (λ (ks : List ℕ). length (published past q) + length ks) is in
    let batch_heads : map (slice_index heads) batch ≡ heads_in state.batch = sym (ap heads_in spots ∙ heads_of_spots q h past heads batch) in
    let leave : open_heads q past' heads ≡ without (heads_in state.batch) (open_heads q past heads) =
    heads_publish q past heads list batch is (heads_distinct q h setup past heads phase batch completed made state run x) (λ k held. let o : IsOpen past q k = opens k held in among-missing (published past q) (accepted past q) k o.taken o.unpublished)
    ∙ ap (λ (hs : List ℕ). without hs (open_heads q past heads)) batch_heads in
    let none : hidden_in (shown done state) ≡ [] = grind (arith, nat_tests) in
    record {
      ring = x.ring;
      runs = x.runs;
      started = x.started;
      phase = refl;
      batch = none;
      completed = x.completed;
      keeps = λ runs. subst (λ (hs : List ℕ). KeepsHeads setup.ring.size hs (used_after h q past') (shown done state)) (sym leave)
          (keeps_shown (ring_of_split setup.ring) (open_heads q past heads) (used_after h q past) (used_after h q past') done state (omega arith) x.places all (omega (arith, shows, many)) past_all (x.keeps runs));
      nothing = λ stopped. absurd (let fails : true ≡ false = sym run ∙ stopped in cc);
      tasks = λ i k task there is_task.
          let t = x.tasks i k task (subst (λ (ks : List ℕ). slice_get ks i ≡ Some k) same there) is_task in
          record { head = t.head; stands = t.stands };
      buffers = x.buffers;
      places = length_without state.batch state.taken ∙ x.places;
      sectors = λ k place request held asks_it next. x.sectors k place request (subst (λ (ks : List ℕ). is_among ks k ≡ true) same held) asks_it next;
    }

-- ---- an offer

pub offered_spot : (q : ℕ) (h : Header1) (past : List Entry) (heads : List ℕ) (request : Asked) (x k : ℕ) → Known q h.size h.capacity past heads → k < accepted past q → spot_of q h (entries.Offer q request ∷ past) (heads ++ x ∷ []) k ≡ spot_of q h past heads k
offered_spot q h past heads request x k known low =
    let head : slice_index (heads ++ x ∷ []) k ≡ slice_index heads k = same_head heads x k (omega (arith, low, known.offered)) in
    let asks_it : asked (entries.Offer q request ∷ past) q k ≡ asked past q k = same_asked q past request k (omega (arith, low, known.offered, known.offers_are)) in
    ap (λ (y : ℕ). (y, len_of h (asked (entries.Offer q request ∷ past) q k))) head ∙ ap (λ (o : Option Asked). (slice_index heads k, len_of h o)) asks_it

pub at_offer : (q : ℕ) (h : Header1) (setup : SplitSetup) (past : List Entry) (heads : List ℕ) (phase : Phase) (batch completed : List ℕ) (made : ℕ → ℕ) (state : QueueState) (request : Asked) (x : ℕ)
    → Known q h.size h.capacity past heads → Worked q past phase batch completed made → QueueAt q h setup past heads phase batch completed made state
    → QueueAt q h setup (entries.Offer q request ∷ past) (heads ++ x ∷ []) phase batch completed made state
at_offer q h setup past heads phase batch completed made state request x known w z =
    let past' : List Entry = entries.Offer q request ∷ past in
    let heads' : List ℕ = heads ++ x ∷ [] in
    let low_of : (k : ℕ) → is_among (completed ++ batch) k ≡ true → k < accepted past q = λ k held. (w.opens k held).taken in
    let head_is : (k : ℕ) → k < accepted past q → slice_index heads' k ≡ slice_index heads k = λ k low. same_head heads x k (omega (arith, low, known.offered)) in
    let asks_is : (k : ℕ) → k < accepted past q → asked past' q k ≡ asked past q k = λ k low. same_asked q past request k (omega (arith, low, known.offered, known.offers_are)) in
    let joined : (k : ℕ) → is_among (completed ++ batch) k ≡ (is_among completed k || is_among batch k) = is_among_append completed batch in
    let same_open : open_heads q past' heads' ≡ open_heads q past heads =
    map_alike (slice_index heads') (slice_index heads) (open_numbers past q) (λ k held. head_is k (missing-among (published past q) (accepted past q) k held).0) in
    record {
      ring = z.ring;
      runs = z.runs;
      started = z.started;
      phase = z.phase;
      batch = z.batch ∙ map_alike (spot_of q h past heads) (spot_of q h past' heads') batch (λ k held. sym (offered_spot q h past heads request x k known (low_of k (joined k ∙ or_right (is_among completed k) (is_among batch k) held))));
      completed = z.completed ∙ map_alike (spot_of q h past heads) (spot_of q h past' heads') completed (λ k held. sym (offered_spot q h past heads request x k known (low_of k (joined k ∙ or_left (is_among completed k) (is_among batch k) held))));
      keeps = λ run. subst (λ (hs : List ℕ). KeepsHeads setup.ring.size hs (used_after h q past) state) (sym same_open) (z.keeps run);
      nothing = z.nothing;
      tasks = λ i k task there is.
          let low : k < accepted past q = (left_is q past completed batch k (among_get (left_of q past completed batch) i k there)).is_open.taken in
          let t = z.tasks i k task there is in
          record {
            head = t.head ∙ sym (head_is k low);
            stands = λ asks_this at_k. subst (λ (d : ℕ). IsTaskAt h setup.ring (buffer_place (area_place q) d) asks_this (made k) task) (sym (head_is k low)) (t.stands asks_this (sym (asks_is k low) ∙ at_k));
          };
      buffers = z.buffers;
      places = z.places;
      sectors = λ k place asks_this held at_k next.
          let low : k < accepted past q = (left_is q past completed batch k held).is_open.taken in
          ap (λ (d : ℕ). get_or state.sectors d []) (head_is k low) ∙ z.sectors k place asks_this held (sym (asks_is k low) ∙ at_k) next;
    }

-- ---- a collection

pub at_collect : (q : ℕ) (h : Header1) (setup : SplitSetup) (past : List Entry) (heads : List ℕ) (phase : Phase) (batch completed : List ℕ) (made : ℕ → ℕ) (state : QueueState) (k : ℕ)
    → QueueAt q h setup past heads phase batch completed made state → QueueAt q h setup (entries.Collect q k ∷ past) heads phase batch completed made state
at_collect q h setup past heads phase batch completed made state k x = record {
  ring = x.ring;
  runs = x.runs;
  started = x.started;
  phase = x.phase;
  batch = x.batch;
  completed = x.completed;
  keeps = x.keeps;
  nothing = x.nothing;
  tasks = λ i j task there is. record { head = (x.tasks i j task there is).head; stands = (x.tasks i j task there is).stands };
  buffers = x.buffers;
  places = x.places;
  sectors = x.sectors;
}
