-- Split chains. A turn leaves the chain of each offered request.
use Rattle.std.proofs.Common.{take, ◌≡◌, ◌≤◌, ◌<◌, ℕ, zero, suc, ◌+◌, ◌*◌, ◌/◌, ◌%◌, Bool, true, false, not, cond, List, [], ◌∷◌, ◌++◌, length, map, refl, ap, sym, ◌∙◌, subst, inl, inr, arith}
use Rattle.std.specs.Prelude.{Option, Some, None, ⊤, slice_index, slice_get, slice_range, option_map}
use Rattle.byteorder.specs.Endian.{little_bytes}
use Rattle.std.proofs.lemmas.Bool.{cases_lt, cases_eq}
use Rattle.std.proofs.lemmas.List.{take-append-le}
use Rattle.vub_base.specs.declared.header.Header1.{Header1}
use Rattle.vub_base.specs.declared.store.Tag.TheVariants.{SP1, SP2}
use Rattle.vub_shared.specs.Bytes.{Bytes}
use Rattle.vub_shared.specs.Stores.{Store}
use Rattle.vub_steps.specs.declared.steps.Step.{Step}
use Rattle.vub_steps.specs.declared.steps.Step.TheVariants as steps
use Rattle.vub_steps.specs.declared.readiness.Turn.{Turn}
use Rattle.vub_steps.specs.declared.readiness.Turn.TheVariants as turns
use Rattle.vub_ring.specs.Ring.{used_id_place, used_len_place, used_idx_place, used_idx}
use Rattle.std.specs.Option.{option_or}
use Rattle.vub_steps.specs.Rows.{row, region_row}
use Rattle.vub_infl_split.specs.declared.region.SplitStore.{SplitStore}
use Rattle.vub_steps.specs.Steps.{next_step}
use Rattle.vub_driver.specs.Layout.{status_place, sectors_place}
use Rattle.vub_driver.specs.Drivers.{Driver, Waiting}
use Rattle.vub_driver.specs.Requests.{has_data}
use Rattle.vub_driver.specs.Stores.{request_stores}
use Rattle.vub_device.specs.declared.entry.Answered.{Answered}
use Rattle.vub_device.specs.declared.entry.Asked.{Asked}
use Rattle.vub_device.specs.declared.entry.Asked.TheVariants as asks
use Rattle.vub_device.specs.declared.entry.Entry.{Entry}
use Rattle.vub_device.specs.declared.entry.Entry.TheVariants as entries
use Rattle.vub_device.specs.Past.{asked, accepted, published, collected, is_among, IsOpen, open_numbers, bytes_read, numbers}
use Rattle.vub_run.specs.Memory.{Scene, after_items}
use Rattle.vub_run.specs.Moments.{Lane, Moment, unfinished, used_in, region_in, next_head}
use Rattle.vub_device.specs.declared.entry.SectorValue.{SectorValue}
use Rattle.vub_device.specs.Crash.{value}
use Rattle.vub_device.specs.Requests.{look_at, effect_at}
use Rattle.vub_steps.specs.Tasks.{RequestStep, Look, Put, Act, Sync, Status, task_steps, disk_steps, look_steps, act_steps, status_of}
use Rattle.vub_run.specs.TaskItems.{look_items, act_items}
use Rattle.vub_run.specs.Turns.{course_of, turned, work_turn, request_turn, task_turn, phase_turn, phase_goes_on, under_way, begun, is_rest, step_items, row_items, element_of, answer_at, sight_of, next_counter_in}
use Rattle.vub_run_laws.proofs.RunCarries.{counted_is}
use Rattle.vub_run_laws.proofs.RunOwn.{published_own}
use Rattle.vub_run_laws.proofs.RunNumbers.{among_filter, missing-among}
use Rattle.vub_facts.proofs.HeadLemmas.{among_get}
use Rattle.vub_run_laws.proofs.RingGood.{the_ring, IsWaiting, WaitsWell, the_region}
use Rattle.vub_infl_split.specs.declared.region.SplitStore.TheVariants as region
use Rattle.vub_infl_split.specs.Stores.{store_of}
use Rattle.vub_run_laws.proofs.RunGood.{IsSize, IsWide, IsOut, buffer, IsGood, stored_at}
use Rattle.vub_run_laws.proofs.RunHolds.{Holds}
use Rattle.vub_run_laws.proofs.RingFrames.{entry_small}
use Rattle.vub_run_laws.proofs.RunFrames.{open_out, length_little}
use Rattle.vub_run_laws.proofs.RunSteps.{WideCases, AtRead, AtWrite, AtFlush, wide_cases, wide_steps, ReadAt, ToLook, ToPut, ToReply, read_at, read_over, WriteAt, ToAct, ToEnd, write_at, write_over}
use Rattle.vub_run_laws.proofs.RunWork.{sector_few}
use Rattle.vub_run_laws.proofs.RunTurns.{IsPlain, Good}
use Rattle.vub_run_laws.proofs.RunChains.{buffer_at, chain_of, HasChain, Spares}
use Rattle.vub_run_laws.proofs.RunChainsStores.{handed_fits}
use Rattle.vub_run_laws.proofs.RunChainsMade.{Stand, all_first, IsMine, AreMine, stores_mine, all_serve}
use Rattle.vub_run_laws.proofs.RunChainsGentle.{IsGentle, gentle_none, note_gentle, store_gentle, buffer_spares, offered_away, ring_gentle}
use Rattle.vub_run_laws.proofs.RunQueue.{heads_apart}

-- the chain of an offered request stands in memory, and its descriptors belong to its head
pub record IsLinked (q n : ℕ) (owner : ℕ → Option ℕ) (m : Bytes) (head : ℕ) (o : Option Asked) : Type 0 where
  pub body : ℕ
  pub status : ℕ
  pub body_fits : body < n
  pub status_fits : status < n
  pub body_mine : owner body ≡ Some head
  pub status_mine : owner status ≡ Some head
  pub request : Asked
  pub is : o ≡ Some request
  pub stands : HasChain q m head body status request

-- of the stores of a request that waits some were made and stand in memory, and one or more are left, for descriptors
-- that belong to its head
pub record IsPrepared (q n : ℕ) (m : Bytes) (v : Driver) (w : Waiting) : Type 0 where
  pub body : ℕ
  pub status : ℕ
  pub up : w.head < body
  pub within : body ≤ status
  pub upper : has_data w.ask ≡ true → body < status
  pub none : has_data w.ask ≡ false → body ≡ status
  pub fits : status < n
  pub body_mine : v.owner body ≡ Some w.head
  pub status_mine : v.owner status ≡ Some w.head
  pub made : List Store
  pub stores : made ++ w.left ≡ request_stores (the_ring q n) v.avail_idx w.ask (chain_of (has_data w.ask) w.head body status)
  pub some : 0 < length w.left
  pub stand : Stand made m

abbrev pub PreparedWell : ℕ → ℕ → Bytes → Driver → Option Waiting → Type 0
PreparedWell q n m v None = ⊤
PreparedWell q n m v (Some w) = IsPrepared q n m v w

-- the chain of each request that is offered and not collected stands in memory
pub record Chained (q n : ℕ) (s : Scene) (v : Driver) : Type 0 where
  pub linked : (k : ℕ) → IsOut q s.past (s.heads q) k → IsLinked q n v.owner s.memory (slice_index (s.heads q) k) (asked s.past q k)
  pub waits : PreparedWell q n s.memory v v.waiting

-- ---- what leaves the chains

-- where the stores of the request that waits are, those that were made and those that are left
pub all_mine : (q n cap : ℕ) (past : List Entry) (heads : List ℕ) (m : Bytes) (v : Driver) (w : Waiting) → IsSize n → IsWaiting q n cap past heads v w → (p : IsPrepared q n m v w) → AreMine q v.owner w.head (p.made ++ w.left)
all_mine q n cap past heads m v w size waits p =
    let up : w.head < p.body = p.up in
    let within : p.body ≤ p.status = p.within in
    subst (λ (sts : List Store). AreMine q v.owner w.head sts) (sym p.stores)
    (stores_mine q n cap v.avail_idx v.owner w.head p.body p.status w.ask size waits.wide waits.below (omega (arith, p.fits)) p.fits waits.mine p.body_mine p.status_mine)

-- what was made of the request that waits still stands
prepared_kept : (q n cap : ℕ) (s s' : Scene) (v : Driver) (o : Option Waiting) → IsSize n → WaitsWell q n cap s.past (s.heads q) v o → IsGentle q n s s' → PreparedWell q n s.memory v o → PreparedWell q n s'.memory v o
prepared_kept q n cap s s' v None size waits g p = tt
prepared_kept q n cap s s' v (Some w) size waits g p =
    let first : AreMine q v.owner w.head p.made = all_first (λ (st : Store). IsMine q v.owner w.head st.place st.bytes) p.made w.left (all_mine q n cap s.past (s.heads q) s.memory v w size waits p) in
    record {
      body = p.body;
      status = p.status;
      up = p.up;
      within = p.within;
      upper = p.upper;
      none = p.none;
      fits = p.fits;
      body_mine = p.body_mine;
      status_mine = p.status_mine;
      made = p.made;
      stores = p.stores;
      some = p.some;
      stand = g.made w.head p.made waits.apart (all_serve q v.owner w.head p.made first) p.stand;
    }

pub gentle_chained : (q n cap : ℕ) (s s' : Scene) (v : Driver) → IsSize n → WaitsWell q n cap s.past (s.heads q) v v.waiting → IsGentle q n s s' → Chained q n s v → Chained q n s' v
gentle_chained q n cap s s' v size waits g c = record {
  linked = λ k out'.
      let out : IsOut q s.past (s.heads q) k = g.out k (subst (λ (hs : List ℕ). IsOut q s'.past hs k) g.heads out') in
      let was : IsLinked q n v.owner s.memory (slice_index (s.heads q) k) (asked s.past q k) = c.linked k out in
      subst (λ (hs : List ℕ). IsLinked q n v.owner s'.memory (slice_index hs k) (asked s'.past q k)) (sym g.heads) (record {
        body = was.body;
        status = was.status;
        body_fits = was.body_fits;
        status_fits = was.status_fits;
        body_mine = was.body_mine;
        status_mine = was.status_mine;
        request = was.request;
        is = g.same k ∙ was.is;
        stands = g.chain k was.body was.status was.request out was.body_fits was.status_fits was.is was.stands;
      });
  waits = prepared_kept q n cap s s' v v.waiting size waits g c.waits;
}

-- ---- start, fetch and publication

publish_gentle : (q n : ℕ) (s : Scene) (list : List Answered) → collected s.past q ≤ length (published s.past q) → IsGentle q n s (record s { past = entries.Publish q list ∷ s.past })
publish_gentle q n s list shown = record {
  heads = refl;
  same = λ k. refl;
  out = λ k o. record { below = o.below; kept = ap (λ (ks : List ℕ). is_among ks k) (sym (take-append-le (collected s.past q) (published s.past q) (numbers list) shown)) ∙ ap (λ (ks : List ℕ). is_among (take (collected s.past q) ks) k) (sym (published_own s.past q list)) ∙ o.kept };
  chain = λ k body status r out fb fs is c. c;
  made = λ head sts unused serve stand. stand;
}

-- a store into the in-flight region
region_gentle : (q : ℕ) (h : Header1) (s : Scene) (y : SplitStore) → IsGentle q h.size s (after_items h (row_items (Some (region_row (the_region q h.size) y))) s)
region_gentle q h s y = note_gentle q h.size s (store_of (the_region q h.size) y)

note_element_gentle : (q : ℕ) (h : Header1) (s : Scene) (f : ℕ × ℕ → SplitStore) (o : Option (ℕ × ℕ)) → IsGentle q h.size s (after_items h ((row_items (option_map (region_row (the_region q h.size)) (option_map f o)) ++ []) ++ []) s)
note_element_gentle q h s f None = gentle_none q h.size s
note_element_gentle q h s f (Some x) = region_gentle q h s (f x)

step_gentle : (q : ℕ) (h : Header1) (s : Scene) (l l' : Lane) (step : Step) → IsGood h → Holds q h s l → IsGentle q h.size s (after_items h (step_items h q l' step s) s)
step_gentle q h s l l' steps.Features good x = note_gentle q h.size s (store_of (the_region q h.size) region.SI1)
step_gentle q h s l l' (steps.Free i) good x = note_gentle q h.size s (store_of (the_region q h.size) (region.SI2 i))
step_gentle q h s l l' steps.Open good x = note_gentle q h.size s (store_of (the_region q h.size) (region.SI3 (used_in h q s)))
step_gentle q h s l l' (steps.Settle i) good x = note_gentle q h.size s (store_of (the_region q h.size) (region.SR1 (sight_of h q s l').link))
step_gentle q h s l l' steps.SettleEnd good x = note_gentle q h.size s (store_of (the_region q h.size) (region.SR2 (used_in h q s)))
step_gentle q h s l l' steps.Bell good x = gentle_none q h.size s
step_gentle q h s l l' steps.Start good x = record { heads = refl; same = λ k. refl; out = λ k o. record { below = o.below; kept = o.kept }; chain = λ k body status r out fb fs is c. c; made = λ head sts unused serve stand. stand }
step_gentle q h s l l' steps.Count good x = note_gentle q h.size s (store_of (the_region q h.size) (region.SF1 (next_head h q s) l'.counter))
step_gentle q h s l l' steps.Accept good x =
    let noted = note_gentle q h.size s (store_of (the_region q h.size) (region.SF2 (next_head h q s))) in
    record { heads = refl; same = λ k. refl; out = λ k o. record { below = o.below; kept = o.kept }; chain = noted.chain; made = noted.made }
step_gentle q h s l l' (steps.Id e) good x = go (slice_get (map (element_of h q s) l'.batch) e)
  where
    i : ℕ
    i = used_idx (the_ring q h.size) s.memory + e

    go : (o : Option (ℕ × ℕ)) → IsGentle q h.size s (after_items h ((row_items (option_or (option_map (λ (y : ℕ × ℕ). row (the_ring q h.size) SP1 (used_id_place (the_ring q h.size) i) (little_bytes 4 y.0)) o) None) ++ []) ++ []) s)
    go None = gentle_none q h.size s
    go (Some y) = let low = entry_small h.size i good.size in ring_gentle q h s l (used_id_place (the_ring q h.size) i) (little_bytes 4 y.0) good x (omega arith) (omega (arith, length_little 4 y.0))
step_gentle q h s l l' (steps.Len e) good x = go (slice_get (map (element_of h q s) l'.batch) e)
  where
    i : ℕ
    i = used_idx (the_ring q h.size) s.memory + e

    go : (o : Option (ℕ × ℕ)) → IsGentle q h.size s (after_items h ((row_items (option_or (option_map (λ (y : ℕ × ℕ). row (the_ring q h.size) SP2 (used_len_place (the_ring q h.size) i) (little_bytes 4 y.1)) o) None) ++ []) ++ []) s)
    go None = gentle_none q h.size s
    go (Some y) = let low = entry_small h.size i good.size in ring_gentle q h s l (used_len_place (the_ring q h.size) i) (little_bytes 4 y.1) good x (omega arith) (omega (arith, length_little 4 y.1))
step_gentle q h s l l' (steps.Link e) good x = note_element_gentle q h s (λ y. region.SP3 y.0 (region_in h q s).last_batch_head) (slice_get (map (element_of h q s) l'.batch) e)
step_gentle q h s l l' (steps.Head e) good x = note_element_gentle q h s (λ y. region.SP4 y.0) (slice_get (map (element_of h q s) l'.batch) e)
step_gentle q h s l l' (steps.Clear e) good x = note_element_gentle q h s (λ y. region.SP6 y.0) (slice_get (map (element_of h q s) l'.batch) e)
step_gentle q h s l l' steps.Note good x = note_gentle q h.size s (store_of (the_region q h.size) (region.SP7 (used_in h q s)))
step_gentle q h s l l' steps.Index good x =
    let v : ℕ = (used_idx (the_ring q h.size) s.memory + length (map (element_of h q s) l'.batch)) % 65536 in
    let p : ℕ = used_idx_place (the_ring q h.size) in
    let bs : List ℕ = little_bytes 2 v in
    let s' : Scene = stored_at p bs s in
    let ring : IsGentle q h.size s s' = ring_gentle q h s l p bs good x (omega arith) (omega (arith, length_little 2 v)) in
    let shows = publish_gentle q h.size s (map (answer_at q s') l'.batch) x.known.shown in
    record { heads = refl; same = λ k. refl; out = shows.out; chain = ring.chain; made = ring.made }

phase_gentle : (q : ℕ) (h : Header1) (s : Scene) (l l' : Lane) (o : Option Step) → IsGood h → Holds q h s l → IsGentle q h.size s (after_items h (phase_turn h q s l' o).items s)
phase_gentle q h s l l' None good x = gentle_none q h.size s
phase_gentle q h s l l' (Some step) good x = step_gentle q h s l l' step good x

-- ---- work

own_status : (q cap head body status : ℕ) (r : Asked) (byte : ℕ) → head < 64 → body < 64 → status < 64 → IsWide cap (Some r) → Spares q head body status r (status_place (buffer_at q head)) (byte ∷ [])
own_status q cap head body status r byte fh fb fs simple =
    let at = handed_fits cap (buffer_at q head) r simple in record {
      first = inl (omega arith);
      middle = inl (omega arith);
      last = inl (omega arith);
      header = inl (omega arith);
      handed = inr (omega (arith, at.0));
    }

own_read : (q head body status sector c p : ℕ) (bs : List ℕ) → head < 64 → body < 64 → status < 64 → sectors_place (buffer_at q head) ≤ p → Spares q head body status (asks.Read sector c) p bs
own_read q head body status sector c p bs fh fb fs at = record { first = inl (omega arith); middle = inl (omega arith); last = inl (omega arith); header = inl (omega arith); handed = inl (omega arith) }

put_gentle : (q : ℕ) (h : Header1) (s : Scene) (l : Lane) (k sector c place : ℕ) → IsGood h → Holds q h s l → IsOpen s.past q k → asked s.past q k ≡ Some (asks.Read sector c) → place < 8
    → IsGentle q h.size s (stored_at (sectors_place (buffer q (s.heads q) k) + 512 * place) (slice_range (bytes_read s.past q k) (512 * place) (512 * place + 512)) s)
put_gentle q h s l k sector c place good x is_open is_k low =
    let small : h.size ≤ 64 = good.size.small in
    let bs : List ℕ = slice_range (bytes_read s.past q k) (512 * place) (512 * place + 512) in
    let p : ℕ = sectors_place (buffer q (s.heads q) k) + 512 * place in
    let few : length bs ≤ 512 = sector_few (bytes_read s.past q k) place in
    let out_k = open_out q h.size h.capacity s.past (s.heads q) k x.known is_open in
    store_gentle q h s l p bs x (omega arith) (offered_away q s k p bs out_k (omega arith) (omega arith)) (λ j body status r out fh fb fs is simple. elim (cases_eq j k) [
      | inl same ↦
          let both : Some r ≡ Some (asks.Read sector c) = sym is ∙ ap (asked s.past q) same ∙ is_k in
          let is_r : r ≡ asks.Read sector c = cc in
          let here : p ≡ sectors_place (buffer_at q (slice_index (s.heads q) j)) + 512 * place = ap (λ (i : ℕ). sectors_place (buffer q (s.heads q) i) + 512 * place) (sym same) in
          subst (λ (o : Asked). Spares q (slice_index (s.heads q) j) body status o p bs) (sym is_r) (own_read q (slice_index (s.heads q) j) body status sector c p bs (omega arith) (omega arith) (omega arith) (omega (arith, here)))
      | inr apart ↦ buffer_spares q h.capacity (slice_index (s.heads q) j) body status (slice_index (s.heads q) k) r p bs (omega arith) (omega arith) (omega arith) simple (λ same. apart (heads_apart q h s l.driver l.bell l.plan l.counter l.batch l.phase j k x.queue out out_k same)) (omega arith) (omega arith)
    ])

status_gentle : (q : ℕ) (h : Header1) (s : Scene) (l : Lane) (k byte : ℕ) → IsGood h → Holds q h s l → IsOpen s.past q k → IsGentle q h.size s (stored_at (status_place (buffer q (s.heads q) k)) (byte ∷ []) s)
status_gentle q h s l k byte good x is_open =
    let small : h.size ≤ 64 = good.size.small in
    let p : ℕ = status_place (buffer q (s.heads q) k) in
    let out_k = open_out q h.size h.capacity s.past (s.heads q) k x.known is_open in
    store_gentle q h s l p (byte ∷ []) x (omega arith) (offered_away q s k p (byte ∷ []) out_k (omega arith) (omega arith)) (λ j body status r out fh fb fs is simple. elim (cases_eq j k) [
      | inl same ↦
          subst (λ (i : ℕ). Spares q (slice_index (s.heads q) j) body status r (status_place (buffer q (s.heads q) i)) (byte ∷ [])) same (own_status q h.capacity (slice_index (s.heads q) j) body status r byte (omega arith) (omega arith) (omega arith) simple)
      | inr apart ↦ buffer_spares q h.capacity (slice_index (s.heads q) j) body status (slice_index (s.heads q) k) r p (byte ∷ []) (omega arith) (omega arith) (omega arith) simple (λ same. apart (heads_apart q h s l.driver l.bell l.plan l.counter l.batch l.phase j k x.queue out out_k same)) (omega arith) (omega arith)
    ])

look_gentle : (q n : ℕ) (s : Scene) (k sector : ℕ) (v : List ℕ) → IsGentle q n s (record s { past = entries.Look q k sector v ∷ s.past })
look_gentle q n s k sector v = record { heads = refl; same = λ j. refl; out = λ j o. record { below = o.below; kept = o.kept }; chain = λ j body status r out fb fs is c. c; made = λ head sts unused serve stand. stand }

act_gentle : (q n : ℕ) (s : Scene) (k sector : ℕ) (v : List ℕ) → IsGentle q n s (record s { past = entries.Act q k sector v ∷ s.past })
act_gentle q n s k sector v = record { heads = refl; same = λ j. refl; out = λ j o. record { below = o.below; kept = o.kept }; chain = λ j body status r out fb fs is c. c; made = λ head sts unused serve stand. stand }

sync_gentle : (q n : ℕ) (s : Scene) (k : ℕ) → IsGentle q n s (record s { past = entries.Sync q k ∷ s.past })
sync_gentle q n s k = record { heads = refl; same = λ j. refl; out = λ j o. record { below = o.below; kept = o.kept }; chain = λ j body status r out fb fs is c. c; made = λ head sts unused serve stand. stand }

-- any step of a request at work
request_gentle : (q : ℕ) (h : Header1) (s : Scene) (l : Lane) (k : ℕ) → IsPlain h → Holds q h s l → IsOpen s.past q k → IsGentle q h.size s (after_items h (request_turn h q s l k (asked s.past q k)).items s)
request_gentle q h s l k plain x is_open =
    let low : k < length (s.heads q) = omega (arith, is_open.taken, x.known.offered) in
    go (wide_cases h.capacity (asked s.past q k) (x.known.wide k low))
  where
    Gentle : Asked → Option RequestStep → Type 0
    Gentle r o = IsGentle q h.size s (after_items h (task_turn h q s l k r o).items s)

    looks_of : (o : Option ℕ) → IsGentle q h.size s (after_items h (look_items q k s.past o) s)
    looks_of None = gentle_none q h.size s
    looks_of (Some y) = look_gentle q h.size s k y (value s.past y)

    acts_of : (o : Option SectorValue) → IsGentle q h.size s (after_items h (act_items q k o) s)
    acts_of None = gentle_none q h.size s
    acts_of (Some y) = act_gentle q h.size s k y.sector y.value

    reads : (sector c : ℕ) → c ≤ 8 → asked s.past q k ≡ Some (asks.Read sector c) → (o : Option RequestStep) → ReadAt 0 c (l.made k) o → Gentle (asks.Read sector c) o
    reads sector c few is o (ToLook p within at i) = subst (Gentle (asks.Read sector c)) (sym i) (looks_of (look_at (asks.Read sector c) (0 + p)))
    reads sector c few is o (ToPut p within at i) = subst (Gentle (asks.Read sector c)) (sym i) (put_gentle q h s l k sector c (0 + p) plain.good x is_open is (omega arith))
    reads sector c few is o (ToReply at i) = subst (Gentle (asks.Read sector c)) (sym i) (status_gentle q h s l k (status_of h (asks.Read sector c)) plain.good x is_open)

    writes : (sector : ℕ) (bytes : List ℕ) (o : Option RequestStep) → WriteAt 0 (length bytes / 512) (l.made k) o → Gentle (asks.Write sector bytes) o
    writes sector bytes o (ToAct within i) = subst (Gentle (asks.Write sector bytes)) (sym i) (acts_of (effect_at (asks.Write sector bytes) (0 + l.made k)))
    writes sector bytes o (ToEnd at i) = subst (Gentle (asks.Write sector bytes)) (sym i) (status_gentle q h s l k (status_of h (asks.Write sector bytes)) plain.good x is_open)

    flushes : (made : ℕ) → Gentle asks.Flush (slice_get (Sync ∷ Status ∷ []) made)
    flushes zero = sync_gentle q h.size s k
    flushes (suc zero) = status_gentle q h s l k (status_of h asks.Flush) plain.good x is_open
    flushes (suc (suc made)) = gentle_none q h.size s

    of_steps : (r : Asked) → asked s.past q k ≡ Some r → IsWide h.capacity (Some r) → Gentle r (slice_get (disk_steps r ++ Status ∷ []) (l.made k)) → IsGentle q h.size s (after_items h (request_turn h q s l k (asked s.past q k)).items s)
    of_steps r is wide fine =
        subst (λ (o : Option Asked). IsGentle q h.size s (after_items h (request_turn h q s l k o).items s)) (sym is)
        (subst (λ (steps : List RequestStep). Gentle r (slice_get steps (l.made k))) (sym (wide_steps h r plain.back wide)) fine)

    go : WideCases h.capacity (asked s.past q k) → IsGentle q h.size s (after_items h (request_turn h q s l k (asked s.past q k)).items s)
    go (AtRead sector c wide is) = of_steps (asks.Read sector c) is wide (elim (cases_lt (2 * c) (l.made k)) [
      | inl over ↦ subst (Gentle (asks.Read sector c)) (sym (read_over 0 c (l.made k) over)) (gentle_none q h.size s)
      | inr under ↦ reads sector c wide.few is (slice_get (look_steps 0 c ++ Status ∷ []) (l.made k)) (read_at 0 c (l.made k) (omega arith))
    ])
    go (AtWrite sector bytes wide is) = of_steps (asks.Write sector bytes) is wide (elim (cases_lt (length bytes / 512) (l.made k)) [
      | inl over ↦ subst (Gentle (asks.Write sector bytes)) (sym (write_over 0 (length bytes / 512) (l.made k) over)) (gentle_none q h.size s)
      | inr under ↦ writes sector bytes (slice_get (act_steps 0 (length bytes / 512) ++ Status ∷ []) (l.made k)) (write_at 0 (length bytes / 512) (l.made k) (omega arith))
    ])
    go (AtFlush is) = of_steps asks.Flush is tt (flushes (l.made k))

work_gentle : (q : ℕ) (h : Header1) (m : Moment) (place : ℕ) → IsPlain h → Good q h m → IsGentle q h.size m.scene (after_items h (turned h q (turns.Work place) m).items m.scene)
work_gentle q h m place plain good = go (slice_get (unfinished q m) place) refl
  where
    go : (o : Option ℕ) → slice_get (unfinished q m) place ≡ o → IsGentle q h.size m.scene (after_items h (work_turn h q m.scene (m.lanes q) o).items m.scene)
    go None is = gentle_none q h.size m.scene
    go (Some k) is =
        let l : Lane = m.lanes q in
        let kept = among_filter (λ j. not (is_among (l.completed ++ l.batch) j)) (open_numbers m.scene.past q) k (among_get (unfinished q m) place k is) in
        let opened = missing-among (published m.scene.past q) (accepted m.scene.past q) k kept.0 in
        request_gentle q h m.scene l k plain good.holds (record { taken = opened.0; unpublished = opened.1 })

pub turn_gentle : (q : ℕ) (h : Header1) (t : Turn) (m : Moment) → IsPlain h → Good q h m → IsGentle q h.size m.scene (after_items h (turned h q t m).items m.scene)
turn_gentle q h turns.Start m plain good = phase_gentle q h m.scene (m.lanes q) (under_way h q m.scene turns.Start (m.lanes q)) (next_step (course_of h (under_way h q m.scene turns.Start (m.lanes q))) (under_way h q m.scene turns.Start (m.lanes q)).phase) plain.good good.holds
turn_gentle q h turns.Fetch m plain good = phase_gentle q h m.scene (m.lanes q) (under_way h q m.scene turns.Fetch (m.lanes q)) (next_step (course_of h (under_way h q m.scene turns.Fetch (m.lanes q))) (under_way h q m.scene turns.Fetch (m.lanes q)).phase) plain.good good.holds
turn_gentle q h (turns.Publish most) m plain good =
    phase_gentle q h m.scene (m.lanes q) (under_way h q m.scene (turns.Publish most) (m.lanes q)) (next_step (course_of h (under_way h q m.scene (turns.Publish most) (m.lanes q))) (under_way h q m.scene (turns.Publish most) (m.lanes q)).phase) plain.good good.holds
turn_gentle q h (turns.Work place) m plain good = work_gentle q h m place plain good

-- ---- the driver isn't the device's

under_driver : (h : Header1) (q : ℕ) (s : Scene) (t : Turn) (l : Lane) (b : Bool) → (cond {A = Lane} b (begun h q s t l) l).driver ≡ l.driver
under_driver h q s turns.Start l true = refl
under_driver h q s turns.Fetch l true = refl
under_driver h q s (turns.Publish most) l true = refl
under_driver h q s (turns.Work place) l true = refl
under_driver h q s t l false = refl

phase_driver : (q : ℕ) (h : Header1) (s : Scene) (l : Lane) (o : Option Step) → (phase_turn h q s l o).lane.driver ≡ l.driver
phase_driver q h s l None = refl
phase_driver q h s l (Some step) = ap (λ (x : Lane). x.driver) (counted_is (next_counter_in h q s) step l)

task_driver : (q : ℕ) (h : Header1) (s : Scene) (l : Lane) (k : ℕ) (r : Asked) (o : Option RequestStep) → (task_turn h q s l k r o).lane.driver ≡ l.driver
task_driver q h s l k r None = refl
task_driver q h s l k r (Some (Look i)) = refl
task_driver q h s l k r (Some (Put i)) = refl
task_driver q h s l k r (Some (Act i)) = refl
task_driver q h s l k r (Some Sync) = refl
task_driver q h s l k r (Some Status) = refl

request_driver : (q : ℕ) (h : Header1) (s : Scene) (l : Lane) (k : ℕ) (o : Option Asked) → (request_turn h q s l k o).lane.driver ≡ l.driver
request_driver q h s l k None = refl
request_driver q h s l k (Some r) = task_driver q h s l k r (slice_get (task_steps h r) (l.made k))

work_driver : (q : ℕ) (h : Header1) (s : Scene) (l : Lane) (o : Option ℕ) → (work_turn h q s l o).lane.driver ≡ l.driver
work_driver q h s l None = refl
work_driver q h s l (Some k) = request_driver q h s l k (asked s.past q k)

goes_on_driver : (q : ℕ) (h : Header1) (s : Scene) (l : Lane) → (phase_goes_on h q s l).lane.driver ≡ l.driver
goes_on_driver q h s l = phase_driver q h s l (next_step (course_of h l) l.phase)

pub turn_driver : (q : ℕ) (h : Header1) (t : Turn) (m : Moment) → (turned h q t m).lane.driver ≡ (m.lanes q).driver
turn_driver q h turns.Start m = goes_on_driver q h m.scene (under_way h q m.scene turns.Start (m.lanes q)) ∙ under_driver h q m.scene turns.Start (m.lanes q) (is_rest (m.lanes q).phase)
turn_driver q h turns.Fetch m = goes_on_driver q h m.scene (under_way h q m.scene turns.Fetch (m.lanes q)) ∙ under_driver h q m.scene turns.Fetch (m.lanes q) (is_rest (m.lanes q).phase)
turn_driver q h (turns.Publish most) m = goes_on_driver q h m.scene (under_way h q m.scene (turns.Publish most) (m.lanes q)) ∙ under_driver h q m.scene (turns.Publish most) (m.lanes q) (is_rest (m.lanes q).phase)
turn_driver q h (turns.Work place) m = work_driver q h m.scene (m.lanes q) (slice_get (unfinished q m) place)
