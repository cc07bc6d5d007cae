-- A fetch of a queue, step by step, on a split ring and its in-flight region.
use Rattle.std.proofs.Common.{◌≡◌, ◌<◌, ℕ, true, List, [], ◌∷◌, ◌++◌, length, refl, ap, sym, ◌∙◌, subst, arith}
use Rattle.std.specs.Prelude.{slice_index}
use Rattle.vub_base.specs.declared.header.Header1.{Header1}
use Rattle.vub_steps.specs.declared.steps.Phase.TheVariants as phases
use Rattle.vub_steps.specs.declared.steps.Step.TheVariants as steps
use Rattle.vub_infl_split.specs.declared.region.SplitStore.TheVariants.{SF1, SF2}
use Rattle.vub_infl_split.specs.Stores.{store_of, tag_of}
use Rattle.vub_device.specs.declared.entry.Entry.{Entry}
use Rattle.vub_device.specs.declared.entry.Entry.TheVariants as entries
use Rattle.vub_device.specs.Past.{accepted, started}
use Rattle.vub_run.specs.Memory.{Scene}
use Rattle.vub_run.specs.Moments.{Lane, open_heads, next_head}
use Rattle.vub_facts.specs.Facts.{Facts}
use Rattle.vub_run_laws.proofs.RunOwn.{accepted_own}
use Rattle.vub_run_laws.proofs.RunHeads.{heads_accept}
use Rattle.vub_run_laws.proofs.RunFrames.{next_unpublished}
use Rattle.vub_run_laws.proofs.RunGood.{IsSize, Known, LeavesQueue}
use Rattle.vub_run_laws.proofs.RingGood.{the_region, side_of, QueueFacts}
use Rattle.vub_run_laws.proofs.RingEntries.{ringed_entries, driven_same}
use Rattle.vub_run_laws.proofs.RingPositions.{at_position, head_there, fetch_waits}
use Rattle.vub_run_laws.proofs.RingStarts.{ringed_noted}
use Rattle.vub_run_laws.proofs.RingFacts.{words_in, none_fit, StepWords, step_words}
use Rattle.vub_run_laws.proofs.RunHolds.{fetching, noted_at, FetchCounts, FetchAccepts}

-- the counter is stored
pub fetch_counts : (q : ℕ) (h : Header1) (s : Scene) (l : Lane) → IsSize h.size → started s.past q ≡ true → QueueFacts q h s l.driver l.bell l.plan l.counter [] (phases.Fetch 0) → FetchCounts q h s l
fetch_counts q h s l size run x =
    let st = store_of (the_region q h.size) (SF1 (next_head h q s) l.counter) in
    let kept : StepWords q h s (fetching 0 l) steps.Count = step_words q h s (fetching 0 l) steps.Count size none_fit (record { in_phase = run; next = refl }) x.words in record {
      tag = tag_of (SF1 (next_head h q s) l.counter);
      place = st.place;
      bytes = st.bytes;
      stores = refl;
      queue = record {
        ringed = ringed_noted q h.size h.base s.past (s.heads q) s.memory st.place st.bytes x.ringed;
        driven = x.driven;
        words = kept;
        start = run;
      };
    }

-- the request is accepted: its head is that of the next number
pub fetch_accepts : (q : ℕ) (h : Header1) (s : Scene) (l : Lane) → IsSize h.size → started s.past q ≡ true → Known q h.size h.capacity s.past (s.heads q) → QueueFacts q h s l.driver l.bell l.plan l.counter [] (phases.Fetch 1) → FetchAccepts q h s l
fetch_accepts q h s l size run known x =
    let k : ℕ = accepted s.past q in
    let past' : List Entry = entries.Accept q k ∷ s.past in
    let st = store_of (the_region q h.size) (SF2 (next_head h q s)) in
    let s' : Scene = noted_at st.place st.bytes s in
    let heads : List ℕ = open_heads q s.past (s.heads q) in
    let more : k < length (s.heads q) = fetch_waits q h s l.bell l.plan l.counter [] 1 size known x.ringed x.words in
    let head : next_head h q s ≡ slice_index (s.heads q) k = head_there q h.size h.base s.past (s.heads q) s.memory _ x.ringed more (at_position q h.size h.capacity h.base s.past (s.heads q) s.memory known x.ringed) in
    let joins : open_heads q past' (s.heads q) ≡ heads ++ next_head h q s ∷ [] = heads_accept q s.past (s.heads q) k (next_unpublished q h.size h.capacity s.past (s.heads q) known) ∙ ap (λ (d : ℕ). heads ++ d ∷ []) (sym head) in
    let kept : StepWords q h s (fetching 1 l) steps.Accept = step_words q h s (fetching 1 l) steps.Accept size none_fit (record { in_phase = run; next = refl }) x.words in
    let leaves : LeavesQueue q s.past past' = record { accepts = omega (arith, accepted_own s.past q k); shows = refl; collects = omega arith; asks = λ j. refl } in record {
      more = more;
      tag = tag_of (SF2 (next_head h q s));
      place = st.place;
      bytes = st.bytes;
      stores = refl;
      queue = record {
        ringed = ringed_entries q h.size h.base s.past past' (s.heads q) s'.memory leaves (ringed_noted q h.size h.base s.past (s.heads q) s.memory st.place st.bytes x.ringed);
        driven = driven_same q h.size h.capacity h.base s.past past' (s.heads q) l.driver (λ j o. record { below = o.below; kept = o.kept }) x.driven;
        words = subst (λ (hs : List ℕ). Facts h.size hs h.base (side_of q h s l.bell l.plan l.counter [] phases.Rest) (words_in q h s')) (sym joins) kept;
        start = tt;
      };
    }
