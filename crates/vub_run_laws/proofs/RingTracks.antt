-- What is known of a split ring makes memory and history agree.
use Rattle.std.proofs.Common.{◌≡◌, ◌≤◌, ◌<◌, ℕ, zero, suc, ◌+◌, ◌%◌, Bool, List, [], ◌∷◌, length, refl, get_or, ap, drop, sym, map, ◌∙◌, subst, arith}
use Rattle.std.specs.Prelude.{slice_index}
use Rattle.std.proofs.lemmas.List.{length-drop, length-map, get_or-drop}
use Rattle.vub_base.specs.declared.header.Header1.{Header1}
use Rattle.vub_ring.specs.Ring.{ahead, avail_idx, used_idx, element_at, seen as seen_elements}
use Rattle.vub_device.specs.Past.{accepted, published, collected, numbers}
use Rattle.vub_split.proofs.Rings.{heads_are, elements_are}
use Rattle.vub_run.specs.Memory.{Scene}
use Rattle.vub_run.specs.Tracking.{answers, Tracks, element}
use Rattle.vub_run_laws.proofs.RingGood.{Ringed, the_ring, the_region, side_of, WordsAt}
use Rattle.vub_run_laws.proofs.RingPositions.{ahead_by, same_head_at, at_position, ahead_there}
use Rattle.vub_facts.specs.Facts.{Side, Words, words_at}
use Rattle.vub_facts.proofs.FactSteps.{facts_read, facts_undamaged}
use Rattle.vub_steps.specs.declared.steps.Phase.{Phase}
use Rattle.vub_steps.specs.declared.steps.Plan.{Plan}
use Rattle.vub_run_laws.proofs.RunGood.{IsSize, Known, spot, IsGood}
use Rattle.vub_run_laws.proofs.RunTracks.{elements_of_good, good-drop, numbers-drop, numbers_published}
use Rattle.vub_run.specs.Moments.{Lane, avail_position, open_heads}
use Rattle.vub_run_laws.proofs.RunHolds.{Holds}

pub get_map : (f : ℕ → ℕ × ℕ) (xs : List ℕ) (i : ℕ) (d : ℕ × ℕ) → i < length xs → get_or (map f xs) i d ≡ f (slice_index xs i)
get_map f [] i d l = absurd (omega arith)
get_map f (x ∷ xs) zero d l = refl
get_map f (x ∷ xs) (suc i) d l = get_map f xs i d (omega arith)

pub tracks : (q : ℕ) (h : Header1) (s : Scene) (bell : Bool) (plan : Plan) (counter : ℕ) (batch : List ℕ) (phase : Phase) → IsSize h.size → Known q h.size h.capacity s.past (s.heads q) → Ringed q h.size h.base s.past (s.heads q) s.memory → WordsAt q h s bell plan counter batch phase
    → Tracks h q s
tracks q h s bell plan counter batch phase size known ringed f =
    let c : ℕ = collected s.past q in
    let a : ℕ = accepted s.past q in
    let ps : List ℕ = published s.past q in
    let small : h.size ≤ 64 = size.small in
    let room : length (s.heads q) ≤ h.size + c = known.room in
    let in_order : a ≤ length (s.heads q) = known.offered in
    let fewer : length ps ≤ a = known.fewer in
    let shown : c ≤ length ps = known.shown in
    let seen_far : ahead (used_idx (the_ring q h.size) s.memory) (h.base + c) + c ≡ length ps = ap (λ (u : ℕ). ahead u (h.base + c) + c) ringed.used_idx_is ∙ ahead_by h.base (length ps) c shown (omega arith) in
    let side : Side = side_of q h s bell plan counter batch phase in
    let words : Words = words_at (the_ring q h.size) (the_region q h.size) s.memory in
    let p : ℕ = avail_position h q s in
    let at : p % 65536 ≡ (h.base + a) % 65536 = at_position q h.size h.capacity h.base s.past (s.heads q) s.memory known ringed in
    let waits_far : ahead (avail_idx (the_ring q h.size) s.memory) p + a ≡ length (s.heads q) = ahead_there q h.size h.capacity h.base s.past (s.heads q) s.memory p size known ringed at in
    let left : drop c ps ≡ numbers (drop c (answers s.past q)) = ap (drop c) (sym (numbers_published s.past q)) ∙ sym (numbers-drop c (answers s.past q)) in
    let right : map (element q s) (drop c (answers s.past q)) ≡ map (spot q (s.heads q) s.past) (drop c ps) =
    elements_of_good q s (drop c (answers s.past q)) (good-drop c (answers s.past q) known.good) ∙ ap (map (spot q (s.heads q) s.past)) (sym left) in
    let many : length (map (spot q (s.heads q) s.past) (drop c ps)) ≡ ahead (used_idx (the_ring q h.size) s.memory) (h.base + c) = omega (arith, length-map (drop c ps) (spot q (s.heads q) s.past), length-drop c ps, seen_far) in
    let sees : seen_elements (the_ring q h.size) s.memory (h.base + c) ≡ map (spot q (s.heads q) s.past) (drop c ps) =
    elements_are (the_ring q h.size) s.memory (ahead (used_idx (the_ring q h.size) s.memory) (h.base + c)) (h.base + c) (map (spot q (s.heads q) s.past) (drop c ps)) many (λ i l.
    let place : h.base + c + i ≡ h.base + (c + i) = omega arith in
    let within : c + i < length ps = omega arith in
    let inside : i < length (drop c ps) = omega (arith, length-drop c ps) in
    let named : slice_index (drop c ps) i ≡ slice_index ps (c + i) = get_or-drop c ps i 0 in
    subst (λ (p : ℕ). element_at (the_ring q h.size) s.memory p ≡ spot q (s.heads q) s.past (slice_index ps (c + i))) (sym place) (ringed.used_at (c + i) (omega arith) within)
    ∙ ap (spot q (s.heads q) s.past) (sym named) ∙ sym (get_map (spot q (s.heads q) s.past) (drop c ps) i (0, 0) inside)) in
    record {
      reads = record {
        undamaged = facts_undamaged h.size (open_heads q s.past (s.heads q)) h.base side words f;
        heads = facts_read h.size (open_heads q s.past (s.heads q)) h.base side words f;
      };
      sees = sees ∙ sym right;
      waits = heads_are (the_ring q h.size) s.memory (ahead (avail_idx (the_ring q h.size) s.memory) p) p (drop a (s.heads q)) (omega (arith, length-drop a (s.heads q), waits_far)) (λ i l.
          let same : (p + i) % 65536 ≡ (h.base + (a + i)) % 65536 = omega (arith, at) in
          let within : a + i < length (s.heads q) = omega arith in
          same_head_at (the_ring q h.size) s.memory (p + i) (h.base + (a + i)) same ∙ ringed.avail_at (a + i) (omega arith) within ∙ sym (get_or-drop a (s.heads q) i 0));
    }

-- where something waits at the avail position, an offer isn't accepted
pub some_waits : (q : ℕ) (h : Header1) (s : Scene) (l : Lane) → IsGood h → Holds q h s l → ahead (avail_idx (the_ring q h.size) s.memory) (avail_position h q s) + accepted s.past q ≡ length (s.heads q)
some_waits q h s l good x =
    ahead_there q h.size h.capacity h.base s.past (s.heads q) s.memory (avail_position h q s) good.size x.known x.queue.ringed (at_position q h.size h.capacity h.base s.past (s.heads q) s.memory x.known x.queue.ringed)
