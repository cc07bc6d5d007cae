-- A publication keeps what holds, and its answers are those of a legal history.
use Rattle.std.proofs.Common.{◌≡◌, ◌≤◌, ◌<◌, ℕ, zero, suc, ◌+◌, ◌*◌, ◌/◌, true, List, [], ◌∷◌, ◌++◌, length, map, ap, sym, ◌∙◌, subst, arith}
use Rattle.std.specs.Prelude.{Option, Some, slice_index, All}
use Rattle.std.specs.List.{AllByRecursion}
use Rattle.std.proofs.lemmas.Bool.Decides.{nat_tests}
use Rattle.std.proofs.lemmas.Bool.{or_right}
use Rattle.std.proofs.lemmas.List.{ext_get_or}
use Rattle.vub_base.specs.declared.header.CacheMode.TheVariants.{Back, Through}
use Rattle.vub_base.specs.declared.header.Header1.{Header1}
use Rattle.vub_shared.specs.Bytes.{Bytes, bytes_from}
use Rattle.vub_shared.proofs.BytesLemmas.{length-bytes_from, get_or-bytes_from}
use Rattle.vub_steps.specs.declared.steps.Phase.{Phase}
use Rattle.vub_steps.specs.declared.steps.Phase.TheVariants as phases
use Rattle.vub_driver.specs.Layout.{status_place, sectors_place}
use Rattle.vub_device.specs.declared.entry.Answered.{Answered}
use Rattle.vub_device.specs.declared.entry.Asked.{Asked}
use Rattle.vub_device.specs.declared.entry.Asked.TheVariants as asks
use Rattle.vub_device.specs.declared.entry.Entry.{Entry}
use Rattle.vub_device.specs.Legal.{IsAnswer, IsDone}
use Rattle.vub_device.specs.Past.{asked, accepted, is_among, IsOpen, started, looks, bytes_read, acts, synced}
use Rattle.vub_device.specs.Requests.{look_at, effect_at}
use Rattle.vub_device.proofs.Numbers.{is_among_append}
use Rattle.vub_run.specs.Memory.{Scene}
use Rattle.vub_run.specs.Moments.{Lane}
use Rattle.vub_run.specs.Turns.{answer_at, answer_len}
use Rattle.vub_run_laws.proofs.RunGood.{IsWide, IsReadTo, IsWrittenTo, IsFull, hidden, Worked, Stored, IsRead, buffer, IsGood}
use Rattle.vub_run_laws.proofs.RunHolds.{Holds, publishing}
use Rattle.vub_run_laws.proofs.RunCarries.{all_hidden, batch_taken}
use Rattle.vub_run_laws.proofs.RunSteps.{wide_some, wide_served, looks_end, effects_end, read_to, written_to, flushed_to}

-- a publication under way
pub record IsUnderWay (q : ℕ) (h : Header1) (s : Scene) (l : Lane) (done : ℕ) : Type 0 where
  pub good : IsGood h
  pub back : h.mode ≡ Back
  pub started : started s.past q ≡ true
  pub holds : Holds q h s (publishing done l)

-- until it is shown its batch is hidden
pub in_batch : (q : ℕ) (h : Header1) (s : Scene) (l : Lane) (done k : ℕ) → done ≤ 4 * length l.batch → is_among l.batch k ≡ true → is_among (l.completed ++ hidden l.batch (phases.Publish done)) k ≡ true
in_batch q h s l done k before held =
    ap (λ (ks : List ℕ). is_among (l.completed ++ ks) k) (all_hidden l.batch done before) ∙ is_among_append l.completed l.batch k ∙ or_right (is_among l.completed k) (is_among l.batch k) held

pub batch_open : (q : ℕ) (h : Header1) (s : Scene) (l : Lane) (done k : ℕ) → IsUnderWay q h s l done → done ≤ 4 * length l.batch → is_among l.batch k ≡ true → IsOpen s.past q k
batch_open q h s l done k x before held = x.holds.worked.opens k (in_batch q h s l done k before held)

-- and all of it was accepted
pub batch_low : (q : ℕ) (h : Header1) (s : Scene) (l : Lane) (done k : ℕ) → IsUnderWay q h s l done → is_among l.batch k ≡ true → k < accepted s.past q
batch_low q h s l done k x held = batch_taken q s.past l.counter (phases.Publish done) l.batch l.completed x.holds.worked.opens x.holds.known.below x.holds.carries k held

batch_wide : (q : ℕ) (h : Header1) (s : Scene) (l : Lane) (done k : ℕ) → IsUnderWay q h s l done → is_among l.batch k ≡ true → IsWide h.capacity (asked s.past q k)
batch_wide q h s l done k x held = (x.holds.known.wide k (omega (arith, batch_low q h s l done k x held, x.holds.known.offered)))

-- ---- the answers

pub all_map : (P : Answered → Type 0) (f : ℕ → Answered) (xs : List ℕ) → ((k : ℕ) → is_among xs k ≡ true → P (f k)) → All P (map f xs)
all_map P f [] each i d l = absurd (omega arith)
all_map P f (x ∷ xs) each zero d l = each x (grind (arith, nat_tests))
all_map P f (x ∷ xs) each (suc i) d l = all_map P f xs (λ k held. each k (grind (arith, nat_tests))) i d (omega arith)

pub good_map : (f : ℕ → Answered) (xs : List ℕ) → ((k : ℕ) → is_among xs k ≡ true → (f k).status ≡ 0) → AllByRecursion (λ (a : Answered). a.status ≡ 0) (map f xs)
good_map f [] each = tt
good_map f (x ∷ xs) each = (each x (grind (arith, nat_tests)), good_map f xs (λ k held. each k (grind (arith, nat_tests))))

pub good_append : (xs ys : List Answered) → AllByRecursion (λ (a : Answered). a.status ≡ 0) xs → AllByRecursion (λ (a : Answered). a.status ≡ 0) ys → AllByRecursion (λ (a : Answered). a.status ≡ 0) (xs ++ ys)
good_append [] ys p q = q
good_append (x ∷ xs) ys p q = (p.0, good_append xs ys p.1 q)

-- what stands in the buffer is what was seen
read_stands : (m : Bytes) (p n : ℕ) (read : List ℕ) → length read ≡ n → ((i : ℕ) → i < n → m 0 (p + i) ≡ slice_index read i) → bytes_from n m 0 p ≡ read
read_stands m p n read long each =
    let wide : length (bytes_from n m 0 p) ≡ n = length-bytes_from n m 0 p in
    ext_get_or 0 (bytes_from n m 0 p) read (omega (arith, wide, long)) (λ i low. let within : i < n = omega (arith, wide, low) in get_or-bytes_from n m 0 p i within ∙ each i within)

-- a request of the batch, with what stands in its buffer
record IsShown (q : ℕ) (h : Header1) (past : List Entry) (heads : List ℕ) (m : Bytes) (batch completed : List ℕ) (made : ℕ → ℕ) (phase : Phase) (k : ℕ) (r : Asked) : Type 0 where
  pub runs : started past q ≡ true
  pub worked : Worked q past phase batch completed made
  pub stored : Stored q past heads m batch completed made
  pub held : is_among (completed ++ batch) k ≡ true
  pub is : asked past q k ≡ Some r
  pub wide : IsWide h.capacity (Some r)

-- the bytes of its answer
abbrev answer_bytes : ℕ → List Entry → List ℕ → Bytes → ℕ → List ℕ
answer_bytes q past heads m k = bytes_from (answer_len (m 0 (status_place (buffer q heads k))) (asked past q k)) m 0 (sectors_place (buffer q heads k))

answer_bytes_are : (q : ℕ) (h : Header1) (past : List Entry) (heads : List ℕ) (m : Bytes) (batch completed : List ℕ) (made : ℕ → ℕ) (phase : Phase) (k : ℕ) (r : Asked) → IsShown q h past heads m batch completed made phase k r → answer_bytes q past heads m k ≡ bytes_from (answer_len 0 (Some r)) m 0 (sectors_place (buffer q heads k))
answer_bytes_are q h past heads m batch completed made phase k r x =
    ap (λ (c : ℕ). bytes_from (answer_len c (asked past q k)) m 0 (sectors_place (buffer q heads k))) (x.stored.status k x.held) ∙ ap (λ (o : Option Asked). bytes_from (answer_len 0 o) m 0 (sectors_place (buffer q heads k))) x.is

read_answer : (q : ℕ) (h : Header1) (past : List Entry) (heads : List ℕ) (m : Bytes) (batch completed : List ℕ) (made : ℕ → ℕ) (phase : Phase) (k sector c : ℕ) → IsShown q h past heads m batch completed made phase k (asks.Read sector c) → IsDone h.mode past q k (asks.Read sector c) (answer_bytes q past heads m k)
read_answer q h past heads m batch completed made phase k sector c x =
    let is_open : IsOpen past q k = x.worked.opens k x.held in
    let enough : 2 * c ≤ made k = subst (λ (o : Option Asked). IsFull (made k) o) x.is (x.worked.full k x.held) in
    let to : IsReadTo c (made k) (looks past q k) (bytes_read past q k) = read_to sector c (made k) (looks past q k) (acts past q k) (bytes_read past q k) (synced past q k) (asked past q k) x.is (x.worked.progress x.runs k) in
    let looked : looks past q k ≡ c = to.whole enough in
    let long : length (bytes_read past q k) ≡ 512 * c = omega (arith, to.long, looked) in
    let few : c ≤ 8 = x.wide.few in
    let read : IsRead (asked past q k) = subst (λ (o : Option Asked). IsRead o) (sym x.is) tt in (
      ap (look_at (asks.Read sector c)) looked ∙ looks_end sector c,
      answer_bytes_are q h past heads m batch completed made phase k (asks.Read sector c) x
          ∙ read_stands m (sectors_place (buffer q heads k)) (512 * c) (bytes_read past q k) long (λ i low. x.stored.sectors k i is_open (record { small = omega (arith, low, few); put = omega (arith, low, enough); looked = omega (arith, low, long) }) read),
    )

write_answer : (q : ℕ) (h : Header1) (past : List Entry) (heads : List ℕ) (m : Bytes) (batch completed : List ℕ) (made : ℕ → ℕ) (phase : Phase) (k sector : ℕ) (bytes : List ℕ) → h.mode ≡ Back → IsShown q h past heads m batch completed made phase k (asks.Write sector bytes)
    → IsDone h.mode past q k (asks.Write sector bytes) (answer_bytes q past heads m k)
write_answer q h past heads m batch completed made phase k sector bytes back x =
    let enough : length bytes / 512 ≤ made k = subst (λ (o : Option Asked). IsFull (made k) o) x.is (x.worked.full k x.held) in
    let to : IsWrittenTo (length bytes / 512) (made k) (acts past q k) = written_to sector (made k) (looks past q k) (acts past q k) bytes (bytes_read past q k) (synced past q k) (asked past q k) x.is (x.worked.progress x.runs k) in (
      ap (effect_at (asks.Write sector bytes)) (to.whole enough) ∙ effects_end sector bytes,
      (λ through. absurd (let fails : Back ≡ Through = sym back ∙ through in cc)),
      answer_bytes_are q h past heads m batch completed made phase k (asks.Write sector bytes) x,
    )

flush_answer : (q : ℕ) (h : Header1) (past : List Entry) (heads : List ℕ) (m : Bytes) (batch completed : List ℕ) (made : ℕ → ℕ) (phase : Phase) (k : ℕ) → IsShown q h past heads m batch completed made phase k asks.Flush → IsDone h.mode past q k asks.Flush (answer_bytes q past heads m k)
flush_answer q h past heads m batch completed made phase k x =
    let enough : 1 ≤ made k = subst (λ (o : Option Asked). IsFull (made k) o) x.is (x.worked.full k x.held) in (
      flushed_to (made k) (looks past q k) (acts past q k) (bytes_read past q k) (synced past q k) (asked past q k) x.is enough (x.worked.progress x.runs k),
      answer_bytes_are q h past heads m batch completed made phase k asks.Flush x,
    )

done_right : (q : ℕ) (h : Header1) (past : List Entry) (heads : List ℕ) (m : Bytes) (batch completed : List ℕ) (made : ℕ → ℕ) (phase : Phase) (k : ℕ) (r : Asked) → h.mode ≡ Back → IsShown q h past heads m batch completed made phase k r → IsDone h.mode past q k r (answer_bytes q past heads m k)
done_right q h past heads m batch completed made phase k (asks.Read sector c) back x = read_answer q h past heads m batch completed made phase k sector c x
done_right q h past heads m batch completed made phase k (asks.Write sector bytes) back x = write_answer q h past heads m batch completed made phase k sector bytes back x
done_right q h past heads m batch completed made phase k asks.Flush back x = flush_answer q h past heads m batch completed made phase k x
done_right q h past heads m batch completed made phase k asks.Id back x = absurd x.wide
done_right q h past heads m batch completed made phase k (asks.Discard parts) back x = absurd x.wide
done_right q h past heads m batch completed made phase k (asks.Zero parts) back x = absurd x.wide

-- each request of the batch was done, and its answer says so
pub answer_right : (q : ℕ) (h : Header1) (s : Scene) (l : Lane) (done : ℕ) (m : Bytes) (k : ℕ) → IsUnderWay q h s l done → done ≤ 4 * length l.batch → Stored q s.past (s.heads q) m (hidden l.batch (phases.Publish done)) l.completed l.made → is_among l.batch k ≡ true → IsAnswer h.capacity h.mode s.past q (answer_at q (record s { memory = m }) k)
answer_right q h s l done m k x before st held =
    let batch : List ℕ = hidden l.batch (phases.Publish done) in
    let among = in_batch q h s l done k before held in
    let status : m 0 (status_place (buffer q (s.heads q) k)) ≡ 0 = st.status k among in
    let wide : IsWide h.capacity (asked s.past q k) = batch_wide q h s l done k x held in
    let asks_it = wide_some h.capacity (asked s.past q k) wide in
    let is_wide : IsWide h.capacity (Some asks_it.0) = subst (λ (o : Option Asked). IsWide h.capacity o) asks_it.1 wide in
    let shown : IsShown q h s.past (s.heads q) m batch l.completed l.made (phases.Publish done) k asks_it.0 = record { runs = x.started; worked = x.holds.worked; stored = st; held = among; is = asks_it.1; wide = is_wide } in
    record {
      request = asks_it.0;
      offered = asks_it.1;
      known = omega arith;
      success = λ is_zero. record { served = wide_served h asks_it.0 x.back is_wide; unfaulted = x.holds.known.unfaulted k; done = done_right q h s.past (s.heads q) m batch l.completed l.made (phases.Publish done) k asks_it.0 x.back shown };
      failure = λ is_one. absurd (omega arith);
      unsupported = λ is_two. absurd (omega arith);
    }
