-- Which turns of the queue are due at a moment of a run.
use Rattle.std.proofs.Common.{◌≡◌, ◌<◌, ℕ, ◌+◌, ◌*◌, ◌%◌, Bool, true, false, List, [], ◌∷◌, length, refl, ap, sym, ◌∙◌, subst, inl, inr, arith, filter, not, ◌++◌, cond}
use Rattle.std.specs.Prelude.{Option, Some, slice_index, nat_lt, if◌then◌else◌, ⊤}
use Rattle.std.proofs.lemmas.Bool.Decides.{nat_tests}
use Rattle.std.proofs.lemmas.List.{length-map}
use Rattle.vub_base.specs.declared.header.Header1.{Header1}
use Rattle.vub_base.specs.declared.ring_fault.RingFault.{RingFault}
use Rattle.vub_base.specs.declared.ring_fault.RingFault.TheVariants as faults
use Rattle.vub_shared.specs.Bytes.{Bytes, word}
use Rattle.vub_steps.specs.declared.steps.Phase.{Phase}
use Rattle.vub_steps.specs.declared.steps.Phase.TheVariants as phases
use Rattle.vub_steps.specs.declared.readiness.Standing.{Standing}
use Rattle.vub_steps.specs.declared.readiness.Turn.{Turn}
use Rattle.vub_steps.specs.declared.readiness.Turn.TheVariants as turns
use Rattle.vub_ring.specs.Ring.{ahead, avail_idx}
use Rattle.vub_steps.specs.declared.readiness.Choice.{Choice}
use Rattle.vub_steps.specs.declared.readiness.Choice.TheVariants.{Only, Any, Drain}
use Rattle.vub_steps.specs.Readiness.{is_ready, is_publication, any_turn, draining_turn, chosen, last_counter}
use Rattle.vub_device.specs.declared.entry.Entry.{Entry}
use Rattle.vub_device.specs.Past.{accepted, published, collected, is_among, open_numbers, IsOpen, started}
use Rattle.vub_queue.specs.declared.queue.Stepped.{Stepped}
use Rattle.vub_queue.specs.declared.queue.Stepped.TheVariants as says
use Rattle.vub_split.specs.declared.split.SplitRing.{SplitRing}
use Rattle.vub_setup.specs.Setups.{SplitSetup}
use Rattle.vub_run.specs.Memory.{Scene, after_items}
use Rattle.vub_run.specs.Moments.{Lane, Moment, region_in, standing, avail_position, unfinished, used_in}
use Rattle.vub_run.specs.Run.{one_turn}
use Rattle.vub_run.specs.Turns.{Turned, turned}
use Rattle.vub_split.specs.Split.{avail_idx_word, head_word}
use Rattle.vub_queue.specs.QueueState as states
use Rattle.vub_queue.specs.QueueState.{QueueState, standing_at, StartsIf, Fetches, Breaks, BreaksBy, Publishes, publishes, DoesOf, Unless, Turns, is_fault}
use Rattle.vub_queue.specs.QueueFacts.{kept_phase, hidden_part}
use Rattle.vub_queue_in_run.specs.QueueAt.{spot_of, QueueAt, LiesAs, QueueStands, PhaseAt, left_of}
use Rattle.vub_driver.specs.Layout.{area_place}
use Rattle.vub_run_laws.proofs.RunOwn.{at_own}
use Rattle.vub_run_laws.proofs.RunNumbers.{not_among-take, missing-among}
use Rattle.vub_run_laws.proofs.RingGood.{the_ring}
use Rattle.vub_run_laws.proofs.RunGood.{IsOut, Worked, hidden}
use Rattle.vub_run_laws.proofs.RunHolds.{Holds}
use Rattle.vub_run_laws.proofs.RunFrames.{open_out}
use Rattle.vub_run_laws.proofs.RunTurns.{IsPlain, Good}
use Rattle.vub_queue_in_run.proofs.QueueAtMoves.{new_unpublished, count_is, avail_is, taken_open}
use Rattle.vub_run_laws.proofs.RunQueue.{queue_ahead, offered_head, head_below, heads_apart, shown_index}
use Rattle.vub_run_laws.proofs.RunHeads.{missing_exact}
use Rattle.std.proofs.lemmas.Bool.{cases_Bool}
use Rattle.vub_run_laws.proofs.RunCarries.{out_of_batch, left_hidden}

-- ---- what is hidden of a batch

filter_alike : (f g : ℕ → Bool) (xs : List ℕ) → ((k : ℕ) → is_among xs k ≡ true → f k ≡ g k) → filter f xs ≡ filter g xs
filter_alike f g [] same = refl
filter_alike f g (x ∷ xs) same =
    let rest : filter f xs ≡ filter g xs = filter_alike f g xs (λ k held. same k (grind (arith, nat_tests))) in
    let here : f x ≡ g x = same x (grind (arith, nat_tests)) in
    grind (arith, nat_tests)

-- as the laws say it
pub hidden_is : (batch : List ℕ) (phase : Phase) → hidden batch phase ≡ hidden_part phase batch
hidden_is batch phases.Rest = refl
hidden_is batch (phases.Start done) = refl
hidden_is batch (phases.Fetch done) = refl
hidden_is batch (phases.Publish done) = refl

pub worked_at : (q : ℕ) (h : Header1) (m : Moment) → Holds q h m.scene (m.lanes q) → Worked q m.scene.past (m.lanes q).phase (hidden_part (m.lanes q).phase (m.lanes q).batch) (m.lanes q).completed (m.lanes q).made
worked_at q h m holds = subst (λ (ks : List ℕ). Worked q m.scene.past (m.lanes q).phase ks (m.lanes q).completed (m.lanes q).made) (hidden_is (m.lanes q).batch (m.lanes q).phase) holds.worked

-- the rest of it isn't open, so the same requests are left
pub left_part : (q : ℕ) (h : Header1) (m : Moment) → Holds q h m.scene (m.lanes q) → left_of q m.scene.past (m.lanes q).completed (hidden_part (m.lanes q).phase (m.lanes q).batch) ≡ unfinished q m
left_part q h m holds =
    let l : Lane = m.lanes q in
    let past : List Entry = m.scene.past in
    filter_alike (λ k. not (is_among (l.completed ++ hidden_part l.phase l.batch) k)) (λ k. not (is_among (l.completed ++ l.batch) k)) (open_numbers past q) (λ k held.
    let there = missing-among (published past q) (accepted past q) k held in
    let is_open : IsOpen past q k = record { taken = there.0; unpublished = there.1 } in
    let same : is_among (l.completed ++ hidden l.batch l.phase) k ≡ is_among (l.completed ++ hidden_part l.phase l.batch) k = ap (λ (ks : List ℕ). is_among (l.completed ++ ks) k) (hidden_is l.batch l.phase) in
    elim (cases_Bool (is_among (l.completed ++ l.batch) k)) [
      | inl busy ↦ elim (cases_Bool (is_among (l.completed ++ hidden l.batch l.phase) k)) [
        | inl part ↦ grind (arith, nat_tests)
        | inr free ↦ absurd (let fails : true ≡ false = sym busy ∙ out_of_batch q past l.counter l.phase l.batch l.completed k is_open free holds.carries in cc)
      ]
      | inr free ↦ let part : is_among (l.completed ++ hidden l.batch l.phase) k ≡ false = left_hidden l.completed l.batch l.phase k free in grind (arith, nat_tests)
    ])

-- ---- how many wait

standing_same : (a a' : Bool) (p p' : Phase) (w w' : ℕ) (t t' : Bool) (u u' c c' : ℕ) → a ≡ a' → p ≡ p' → w ≡ w' → t ≡ t' → u ≡ u' → c ≡ c'
    → ◌≡◌ {A = Standing} (record { started = a; phase = p; waiting = w; counts = t; unfinished = u; completed = c }) (record { started = a'; phase = p'; waiting = w'; counts = t'; unfinished = u'; completed = c' })
standing_same a a' p p' w w' t t' u u' c c' ea ep ew et eu ec = cc

avail_word : (q : ℕ) (setup : SplitSetup) (n : ℕ) (m : Bytes) → LiesAs q setup n → avail_idx_word setup.ring m ≡ avail_idx (the_ring q n) m
avail_word q setup n m main = ap (λ (s : ℕ). word 2 m s (setup.ring.avail.1 + 2)) main.avail_space ∙ ap (λ (p : ℕ). word 2 m 0 (p + 2)) main.avail

-- the queue's avail position is the base, advanced by what was accepted
stands_avail : (q : ℕ) (h : Header1) (setup : SplitSetup) (m : Moment) (state : QueueState) → started m.scene.past q ≡ true → Holds q h m.scene (m.lanes q) → QueueStands q h setup m state → state.next_avail ≡ (h.base + accepted m.scene.past q) % 65536
stands_avail q h setup m state run holds z = avail_is q h setup m.scene.past (m.scene.heads q) (m.lanes q).phase (hidden_part (m.lanes q).phase (m.lanes q).batch) (m.lanes q).completed (m.lanes q).made state run holds.known z.at

-- and so is the moment's
position_is : (q : ℕ) (h : Header1) (m : Moment) → Holds q h m.scene (m.lanes q) → avail_position h q m.scene % 65536 ≡ (h.base + accepted m.scene.past q) % 65536
position_is q h m holds =
    let all : length (open_numbers m.scene.past q) + length (published m.scene.past q) ≡ accepted m.scene.past q = missing_exact (published m.scene.past q) (accepted m.scene.past q) holds.known.distinct holds.known.below in
    let used : used_in h q m.scene ≡ (h.base + length (published m.scene.past q)) % 65536 = shown_index q h m.scene (m.lanes q).driver (m.lanes q).bell (m.lanes q).plan (m.lanes q).counter (m.lanes q).batch (m.lanes q).phase holds.queue in
    omega (arith, all, used)

-- its own count of what waits is the moment's
pub waiting_is : (q : ℕ) (h : Header1) (setup : SplitSetup) (m : Moment) (state : QueueState) → started m.scene.past q ≡ true → LiesAs q setup h.size → Holds q h m.scene (m.lanes q) → QueueStands q h setup m state
    → states.waiting state m.scene.memory ≡ ahead (avail_idx (the_ring q h.size) m.scene.memory) (avail_position h q m.scene)
waiting_is q h setup m state run main holds z =
    let word_is : avail_idx_word state.ring m.scene.memory ≡ avail_idx (the_ring q h.size) m.scene.memory = ap (λ (x : SplitRing). avail_idx_word x m.scene.memory) z.at.ring ∙ avail_word q setup h.size m.scene.memory main in
    let from : state.next_avail % 65536 ≡ avail_position h q m.scene % 65536 =
    let mine : state.next_avail ≡ (h.base + accepted m.scene.past q) % 65536 = stands_avail q h setup m state run holds z in
    let there = position_is q h m holds in omega (arith, mine, there) in
    omega (arith, word_is, from)

-- its phase is the one of the lane, but that it keeps no place of a start
abbrev kept_standing : Header1 → ℕ → Moment → Standing
kept_standing h q m = record (standing h q m) { phase = kept_phase (standing h q m).phase }

pub standings : (q : ℕ) (h : Header1) (setup : SplitSetup) (m : Moment) (state : QueueState) → started m.scene.past q ≡ true → LiesAs q setup h.size → Holds q h m.scene (m.lanes q) → QueueStands q h setup m state
    → standing_at state (states.waiting state m.scene.memory) ≡ kept_standing h q m
standings q h setup m state run main holds z =
    let l : Lane = m.lanes q in
    let many : length state.completed ≡ length l.completed = ap (λ (ks : List (ℕ × ℕ)). length ks) z.at.completed ∙ length-map l.completed (spot_of q h m.scene.past (m.scene.heads q)) in
    let st : Standing = standing h q m in
    standing_same state.started st.started state.phase (kept_phase st.phase) (states.waiting state m.scene.memory) st.waiting (nat_lt state.counter last_counter) st.counts (length state.unfinished) st.unfinished (length state.completed) st.completed
    z.at.started z.at.phase (waiting_is q h setup m state run main holds z) (ap (λ (n : ℕ). nat_lt n last_counter) (z.phase.counter run))
    (count_is q h setup m.scene.past (m.scene.heads q) l.phase (hidden_part l.phase l.batch) l.completed l.made state run (worked_at q h m holds) z.at ∙ ap (λ (ks : List ℕ). length ks) (left_part q h m holds)) many

-- which changes nothing of what is ready
pub ready_kept : (s : Standing) (t : Turn) → is_ready (record s { phase = kept_phase s.phase }) t ≡ is_ready s t
ready_kept s t = go s.phase t
  where
    go : (p : Phase) (t : Turn) → is_ready (record s { phase = kept_phase p }) t ≡ is_ready (record s { phase = p }) t
    go phases.Rest t = refl
    go (phases.Start done) turns.Start = refl
    go (phases.Start done) turns.Fetch = refl
    go (phases.Start done) (turns.Work place) = refl
    go (phases.Start done) (turns.Publish most) = refl
    go (phases.Fetch done) t = refl
    go (phases.Publish done) t = refl

-- of a queue that isn't started a start alone is ready
abbrev is_start : Turn → Bool
is_start turns.Start = true
is_start t = false

ready_stopped : (s : Standing) (t : Turn) → s.started ≡ false → is_ready s t ≡ is_start t
ready_stopped s turns.Start stopped = ap not stopped
ready_stopped s turns.Fetch stopped = grind (arith, nat_tests)
ready_stopped s (turns.Work place) stopped = grind (arith, nat_tests)
ready_stopped s (turns.Publish most) stopped = grind (arith, nat_tests)

-- so the queue and the moment agree on it
pub ready_same : (q : ℕ) (h : Header1) (setup : SplitSetup) (m : Moment) (state : QueueState) (t : Turn) → LiesAs q setup h.size → Holds q h m.scene (m.lanes q) → QueueStands q h setup m state → is_ready (standing_at state (states.waiting state m.scene.memory)) t ≡ is_ready (standing h q m) t
ready_same q h setup m state t main holds z = elim (cases_Bool (started m.scene.past q)) [
  | inl run ↦ ap (λ (s : Standing). is_ready s t) (standings q h setup m state run main holds z) ∙ ready_kept (standing h q m) t
  | inr stopped ↦ ready_stopped (standing_at state (states.waiting state m.scene.memory)) t (z.at.started ∙ stopped) ∙ sym (ready_stopped (standing h q m) t stopped)
]

-- and nothing of which turn comes next
chosen_kept : (size : ℕ) (choice : Choice) (s : Standing) → chosen size choice (record s { phase = kept_phase s.phase }) ≡ chosen size choice s
chosen_kept size choice s = go s.phase choice
  where
    go : (p : Phase) (c : Choice) → chosen size c (record s { phase = kept_phase p }) ≡ chosen size c (record s { phase = p })
    go phases.Rest c = refl
    go (phases.Start done) (Only turn) = refl
    go (phases.Start done) Any = refl
    go (phases.Start done) (Drain accepted) = refl
    go (phases.Fetch done) c = refl
    go (phases.Publish done) c = refl

-- of a queue that isn't started a start comes next, but none of the turns of a drain that has accepted enough
abbrev chosen_before : ℕ → Choice → Turn
chosen_before size (Only turn) = turn
chosen_before size Any = turns.Start
chosen_before size (Drain accepted) = if nat_lt accepted size then turns.Start else turns.Publish size

draining_stopped : (size : ℕ) (s : Standing) → s.started ≡ false → draining_turn size s ≡ turns.Publish size
draining_stopped size s stopped = elim (cases_Bool (is_publication s.phase)) [
  | inl under_way ↦ grind (arith, nat_tests)
  | inr other ↦ grind (arith, nat_tests)
]

chosen_stopped : (size : ℕ) (choice : Choice) (s : Standing) → s.started ≡ false → chosen size choice s ≡ chosen_before size choice
chosen_stopped size (Only turn) s stopped = refl
chosen_stopped size Any s stopped = grind (arith, nat_tests)
chosen_stopped size (Drain accepted) s stopped =
    let any : any_turn size s ≡ turns.Start = grind (arith, nat_tests) in
    ap (λ (t : Turn). cond (nat_lt accepted size) t (draining_turn size s)) any ∙ ap (λ (t : Turn). cond (nat_lt accepted size) turns.Start t) (draining_stopped size s stopped)

pub chosen_same : (q : ℕ) (h : Header1) (setup : SplitSetup) (m : Moment) (state : QueueState) (size : ℕ) (choice : Choice) → LiesAs q setup h.size → Holds q h m.scene (m.lanes q) → QueueStands q h setup m state
    → chosen size choice (standing_at state (states.waiting state m.scene.memory)) ≡ chosen size choice (standing h q m)
chosen_same q h setup m state size choice main holds z = elim (cases_Bool (started m.scene.past q)) [
  | inl run ↦ ap (chosen size choice) (standings q h setup m state run main holds z) ∙ chosen_kept size choice (standing h q m)
  | inr stopped ↦ chosen_stopped size choice (standing_at state (states.waiting state m.scene.memory)) (z.at.started ∙ stopped) ∙ sym (chosen_stopped size choice (standing h q m) stopped)
]

-- ---- what a turn that didn't fail does

pub does_of : (t : Turn) (told : Option Bytes) (x : Stepped) (state state' : QueueState) (made : Turns t told x state state') → is_fault x ≡ false → DoesOf t told x state made.0
does_of t told x state state' made fine = subst (λ (b : Bool). Unless b (DoesOf t told x state made.0)) fine made.2

-- ---- where the queue stands after a turn

-- after these items
abbrev pub StandsAfter : ℕ → Header1 → SplitSetup → Scene → Turned → QueueState → Type 0
StandsAfter q h setup s t state = QueueAt q h setup (after_items h t.items s).past ((after_items h t.items s).heads q) t.lane.phase (hidden_part t.lane.phase t.lane.batch) t.lane.completed t.lane.made state

abbrev pub PhaseAfter : ℕ → Header1 → SplitSetup → Scene → Turned → QueueState → Type 0
PhaseAfter q h setup s t state = PhaseAt q h setup (after_items h t.items s).past ((after_items h t.items s).heads q) t.lane.bell t.lane.plan t.lane.counter t.lane.batch t.lane.phase (region_in h q (after_items h t.items s)) state

pub stands_next : (q : ℕ) (h : Header1) (setup : SplitSetup) (m : Moment) (turn : Turn) (t : Turned) (state : QueueState) → turned h q turn m ≡ t → StandsAfter q h setup m.scene t state → PhaseAfter q h setup m.scene t state → QueueStands q h setup (one_turn h q turn m).next state
stands_next q h setup m turn t state is z y =
    let z' : StandsAfter q h setup m.scene (turned h q turn m) state = subst (λ (t' : Turned). StandsAfter q h setup m.scene t' state) (sym is) z in
    let y' : PhaseAfter q h setup m.scene (turned h q turn m) state = subst (λ (t' : Turned). PhaseAfter q h setup m.scene t' state) (sym is) y in
    let now : Scene = after_items h (turned h q turn m).items m.scene in record {
      at = subst (λ (l : Lane). QueueAt q h setup now.past (now.heads q) l.phase (hidden_part l.phase l.batch) l.completed l.made state) (sym (at_own m.lanes q (turned h q turn m).lane)) z';
      phase = subst (λ (l : Lane). PhaseAt q h setup now.past (now.heads q) l.bell l.plan l.counter l.batch l.phase (region_in h q now) state) (sym (at_own m.lanes q (turned h q turn m).lane)) y';
    }

-- ---- a fetch

-- the head that waits is that of the next request
pub head_is : (q : ℕ) (h : Header1) (setup : SplitSetup) (m : Moment) (state : QueueState) → started m.scene.past q ≡ true → LiesAs q setup h.size → QueueStands q h setup m state → Holds q h m.scene (m.lanes q) → accepted m.scene.past q < length (m.scene.heads q)
    → head_word state.ring m.scene.memory state.next_avail ≡ slice_index (m.scene.heads q) (accepted m.scene.past q)
head_is q h setup m state run main z holds more =
    let mem : Bytes = m.scene.memory in
    let a : ℕ = accepted m.scene.past q in
    let index : ℕ = (h.base + a) % 65536 in
    let place : state.next_avail % setup.ring.size ≡ index % h.size = ap (λ (i : ℕ). i % setup.ring.size) (stands_avail q h setup m state run holds z) ∙ ap (λ (n : ℕ). index % n) main.size in
    ap (λ (x : SplitRing). head_word x mem state.next_avail) z.at.ring
    ∙ ap (λ (s : ℕ). word 2 mem s (setup.ring.avail.1 + (4 + 2 * (state.next_avail % setup.ring.size)))) main.avail_space
    ∙ ap (λ (p : ℕ). word 2 mem 0 (p + (4 + 2 * (state.next_avail % setup.ring.size)))) main.avail
    ∙ ap (λ (e : ℕ). word 2 mem 0 (area_place q + 4096 + (4 + 2 * e))) place
    ∙ offered_head q h m.scene (m.lanes q).driver (m.lanes q).bell (m.lanes q).plan (m.lanes q).counter (m.lanes q).batch (m.lanes q).phase a holds.queue (omega arith) more

-- the next request isn't open, and is offered
next_out : (q : ℕ) (h : Header1) (s : Scene) (l : Lane) → Holds q h s l → accepted s.past q < length (s.heads q) → IsOut q s.past (s.heads q) (accepted s.past q)
next_out q h s l holds more = record {
  below = more;
  kept = not_among-take (published s.past q) (collected s.past q) (accepted s.past q) (new_unpublished q h.size h.capacity s.past (s.heads q) holds.known);
}

-- so the avail ring breaks no rule
pub keeps_rules : (q : ℕ) (h : Header1) (setup : SplitSetup) (m : Moment) (state : QueueState) (fault : RingFault) → started m.scene.past q ≡ true → IsPlain h → Good q h m → LiesAs q setup h.size → QueueStands q h setup m state → Breaks state m.scene.memory fault → ⊥
keeps_rules q h setup m state fault run plain good main z breaks = go fault breaks.1
  where
    a : ℕ
    a = accepted m.scene.past q

    heads : List ℕ
    heads = m.scene.heads q

    holds : Holds q h m.scene (m.lanes q)
    holds = good.holds

    far : states.waiting state m.scene.memory + a ≡ length heads
    far = omega (arith, waiting_is q h setup m state run main holds z, queue_ahead q h m.scene (m.lanes q) plain.good holds)

    more : a < length heads
    more = omega (arith, far, breaks.0)

    sized : state.ring.size ≡ h.size
    sized = ap (λ (x : SplitRing). x.size) z.at.ring ∙ main.size

    out : IsOut q m.scene.past heads a
    out = next_out q h m.scene (m.lanes q) holds more

    go : (f : RingFault) → BreaksBy state m.scene.memory f → ⊥
    go (faults.Jump ahead) b = omega (arith, b.0, b.1, far, sized, holds.known.room, holds.known.shown, holds.known.fewer)
    go (faults.BadHead head) b = omega (arith, b.1, b.2, sized, head_is q h setup m state run main z holds more, head_below q h m.scene (m.lanes q).driver (m.lanes q).bell (m.lanes q).plan (m.lanes q).counter (m.lanes q).batch (m.lanes q).phase a holds.queue out)
    go (faults.Twice head) b =
        let small : head < setup.ring.size = omega (arith, b.2, ap (λ (x : SplitRing). x.size) z.at.ring) in
        let t = taken_open q h setup m.scene.past heads (m.lanes q).phase (hidden_part (m.lanes q).phase (m.lanes q).batch) (m.lanes q).completed (m.lanes q).made state head run small b.3 z.at in
        let other : IsOut q m.scene.past heads t.0 = open_out q h.size h.capacity m.scene.past heads t.0 holds.known t.1 in
        let same : t.0 ≡ a = heads_apart q h m.scene (m.lanes q).driver (m.lanes q).bell (m.lanes q).plan (m.lanes q).counter (m.lanes q).batch (m.lanes q).phase t.0 a holds.queue other out (t.2 ∙ b.1 ∙ head_is q h setup m state run main z holds more) in
        omega (arith, same, t.1.taken)
    go (faults.NoRoom slot) b = b
    go (faults.Chain fault) b = b
    go (faults.NoStatus head) b = b

-- ---- a turn that isn't ready

-- the turns of the queue's own phases
abbrev pub IsPhaseTurn : Turn → Type 0
IsPhaseTurn (turns.Work place) = ⊥
IsPhaseTurn t = ⊤

idle_start : (state u : QueueState) (x : Stepped) (told : Option Bytes) → state.started ≡ true → DoesOf turns.Start told x state u → (x ≡ says.Idle) × (u ≡ state)
idle_start state u x told is does = subst (λ (b : Bool). StartsIf b told x state u) is does

-- the fetch isn't ready
unready_fetch : {A : Type 0} (state : QueueState) (m : Bytes) → is_ready (standing_at state (states.waiting state m)) turns.Fetch ≡ false → states.fetches state m ≡ true → A
unready_fetch state m unready ready = absurd (let fails : true ≡ false = sym ready ∙ unready in cc)

idle_fetch : (state u : QueueState) (x : Stepped) (m : Bytes) → is_ready (standing_at state (states.waiting state m)) turns.Fetch ≡ false → is_fault x ≡ false → Fetches (Some m) x state u → (x ≡ says.Idle) × (u ≡ state)
idle_fetch state u says.Idle m unready f does = (refl, does.0)
idle_fetch state u (says.Accepted head) m unready f does = unready_fetch state m unready (does.ready m refl)
idle_fetch state u (says.Broken fault) m unready f does = unready_fetch state m unready (does.ready m refl)
idle_fetch state u says.SharedFault m unready f does = absurd (let fails : true ≡ false = f in cc)
idle_fetch state u (says.Stored tag) m unready f does = unready_fetch state m unready (does.ready m refl)
idle_fetch state u (says.Looked head sector) m unready f does = absurd does
idle_fetch state u (says.Acted head sector) m unready f does = absurd does
idle_fetch state u (says.Synced head) m unready f does = absurd does
idle_fetch state u (says.Faulted head) m unready f does = absurd does
idle_fetch state u (says.Completed head) m unready f does = absurd does
idle_fetch state u says.Published m unready f does = absurd does
idle_fetch state u says.Started m unready f does = absurd does
idle_fetch state u says.Belled m unready f does = absurd does
idle_fetch state u says.BellFault m unready f does = absurd (let fails : true ≡ false = f in cc)
idle_fetch state u (says.Damaged fault) m unready f does = absurd does

idle_publish : (state u : QueueState) (x : Stepped) (most : ℕ) (m : Bytes) → publishes most state ≡ false → Publishes (publishes most state) (Some m) x state (states.under_way most state) u → (x ≡ says.Idle) × (u ≡ state)
idle_publish state u x most m unready does = subst (λ (b : Bool). Publishes b (Some m) x state (states.under_way most state) u) unready does

idle_does : (t : Turn) (state u : QueueState) (x : Stepped) (m : Bytes) → IsPhaseTurn t → is_ready (standing_at state (states.waiting state m)) t ≡ false → is_fault x ≡ false → DoesOf t (Some m) x state u → (x ≡ says.Idle) × (u ≡ state)
idle_does turns.Start state u x m is unready f does = idle_start state u x (Some m) (grind (arith, nat_tests)) does
idle_does turns.Fetch state u x m is unready f does = idle_fetch state u x m unready f does
idle_does (turns.Work place) state u x m is unready f does = absurd is
idle_does (turns.Publish most) state u x m is unready f does = idle_publish state u x most m unready does

pub idle_stands : (q : ℕ) (h : Header1) (setup : SplitSetup) (m : Moment) (t : Turn) (x : Stepped) (state state' : QueueState) → LiesAs q setup h.size → Holds q h m.scene (m.lanes q) → QueueStands q h setup m state → IsPhaseTurn t
    → is_ready (standing h q m) t ≡ false → is_fault x ≡ false → Turns t (Some m.scene.memory) x state state' → (x ≡ says.Idle) × (state' ≡ state)
idle_stands q h setup m t x state state' main holds z is unready fine made =
    let idle = idle_does t state made.0 x m.scene.memory is (ready_same q h setup m state t main holds z ∙ unready) fine (does_of t (Some m.scene.memory) x state state' made fine) in
    (idle.0, made.1 ∙ ap (λ (y : Stepped). states.halted y made.0) idle.0 ∙ idle.1)
