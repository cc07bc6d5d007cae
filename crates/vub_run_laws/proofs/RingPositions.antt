-- The avail position of a queue is used.idx and the number of open requests: the base and the number of accepted ones,
-- modulo 65536. What is read there depends on it modulo 65536 alone.
use Rattle.std.proofs.Common.{◌≡◌, ◌≤◌, ◌<◌, ℕ, ◌+◌, ◌*◌, ◌%◌, ◌-◌, Bool, List, length, ap, sym, ◌∙◌, subst, arith}
use Rattle.std.specs.Prelude.{slice_index}
use Rattle.std.proofs.lemmas.List.{length-map}
use Rattle.vub_base.specs.declared.header.Header1.{Header1}
use Rattle.vub_shared.specs.Bytes.{Bytes, word}
use Rattle.vub_steps.specs.declared.steps.Phase.{Phase}
use Rattle.vub_steps.specs.declared.steps.Phase.TheVariants as phases
use Rattle.vub_steps.specs.declared.steps.Plan.{Plan}
use Rattle.vub_ring.specs.Ring.{Ring, ahead, avail_idx, used_idx, head_at}
use Rattle.vub_device.specs.declared.entry.Entry.{Entry}
use Rattle.vub_device.specs.Past.{accepted, published, open_numbers}
use Rattle.vub_run.specs.Memory.{Scene}
use Rattle.vub_run.specs.Moments.{open_heads}
use Rattle.vub_facts.specs.Facts.{words_at}
use Rattle.vub_facts.proofs.FactSteps.{SeesSame}
use Rattle.vub_run_laws.proofs.RunHeads.{missing_exact}
use Rattle.vub_run_laws.proofs.RunGood.{IsSize, Known}
use Rattle.vub_run_laws.proofs.RingGood.{the_ring, the_region, WordsAt, Ringed}

pub same_ahead : (a p p' : ℕ) → p % 65536 ≡ p' % 65536 → ahead a p ≡ ahead a p'
same_ahead a p p' e = ap (λ (y : ℕ). (a + 65536 - y) % 65536) e

pub same_head_at : (r : Ring) (m : Bytes) (p p' : ℕ) → p % 65536 ≡ p' % 65536 → head_at r m p ≡ head_at r m p'
same_head_at r m p p' e = ap (λ (y : ℕ). word 2 m r.avail_space (r.avail + (4 + 2 * (y % r.size)))) e

pub ahead_by : (base a b : ℕ) → b ≤ a → a < b + 65536 → ahead ((base + a) % 65536) (base + b) + b ≡ a
ahead_by base a b le near = omega arith

-- ---- the position

pub at_position : (q n cap base : ℕ) (past : List Entry) (heads : List ℕ) (m : Bytes) → Known q n cap past heads → Ringed q n base past heads m → (used_idx (the_ring q n) m + length (open_numbers past q)) % 65536 ≡ (base + accepted past q) % 65536
at_position q n cap base past heads m known r =
    let all : length (open_numbers past q) + length (published past q) ≡ accepted past q = missing_exact (published past q) (accepted past q) known.distinct known.below in
    omega (arith, all, r.used_idx_is)

-- by the number of open heads
pub at_heads : (q n cap base : ℕ) (past : List Entry) (heads : List ℕ) (m : Bytes) → Known q n cap past heads → Ringed q n base past heads m → (used_idx (the_ring q n) m + length (open_heads q past heads)) % 65536 ≡ (base + accepted past q) % 65536
at_heads q n cap base past heads m known r =
    let long : length (open_heads q past heads) ≡ length (open_numbers past q) = length-map (open_numbers past q) (slice_index heads) in
    ap (λ (k : ℕ). (used_idx (the_ring q n) m + k) % 65536) long ∙ at_position q n cap base past heads m known r

-- ---- what waits there

-- as many as offers aren't accepted
pub ahead_there : (q n cap base : ℕ) (past : List Entry) (heads : List ℕ) (m : Bytes) (p : ℕ) → IsSize n → Known q n cap past heads → Ringed q n base past heads m → p % 65536 ≡ (base + accepted past q) % 65536 → ahead (avail_idx (the_ring q n) m) p + accepted past q ≡ length heads
ahead_there q n cap base past heads m p size known r at =
    let small : n ≤ 64 = size.small in
    let room = known.room in
    let shown = known.shown in
    let fewer = known.fewer in
    ap (λ (d : ℕ). d + accepted past q) (same_ahead (avail_idx (the_ring q n) m) p (base + accepted past q) at)
    ∙ ap (λ (u : ℕ). ahead u (base + accepted past q) + accepted past q) r.avail_idx_is ∙ ahead_by base (length heads) (accepted past q) known.offered (omega arith)

-- the head there is that of the next number
pub head_there : (q n base : ℕ) (past : List Entry) (heads : List ℕ) (m : Bytes) (p : ℕ) → Ringed q n base past heads m → accepted past q < length heads → p % 65536 ≡ (base + accepted past q) % 65536 → head_at (the_ring q n) m p ≡ slice_index heads (accepted past q)
head_there q n base past heads m p r more at = same_head_at (the_ring q n) m p (base + accepted past q) at ∙ r.avail_at (accepted past q) (omega arith) more

-- ---- a fetch that is under way

-- an offer isn't accepted
pub fetch_waits : (q : ℕ) (h : Header1) (s : Scene) (bell : Bool) (plan : Plan) (counter : ℕ) (batch : List ℕ) (done : ℕ) → IsSize h.size → Known q h.size h.capacity s.past (s.heads q) → Ringed q h.size h.base s.past (s.heads q) s.memory
    → WordsAt q h s bell plan counter batch (phases.Fetch done) → accepted s.past q < length (s.heads q)
fetch_waits q h s bell plan counter batch done size known r f =
    let p : ℕ = used_idx (the_ring q h.size) s.memory + length (open_heads q s.past (s.heads q)) in
    omega (arith, f.batch.waits, ahead_there q h.size h.capacity h.base s.past (s.heads q) s.memory p size known r (at_heads q h.size h.capacity h.base s.past (s.heads q) s.memory known r))

-- the driver's stores are behind what it fetches: where as many are accepted, and no fewer are offered under the same heads
pub sees_same : (q : ℕ) (h : Header1) (s : Scene) (past' : List Entry) (heads' : List ℕ) (m' : Bytes) (bell : Bool) (plan : Plan) (counter : ℕ) (batch : List ℕ) (phase : Phase) → IsSize h.size → Known q h.size h.capacity s.past (s.heads q) → Ringed q h.size h.base s.past (s.heads q) s.memory
    → Ringed q h.size h.base past' heads' m' → accepted past' q ≡ accepted s.past q → length (s.heads q) ≤ length heads' → length heads' ≤ length (s.heads q) + 1 → ((k : ℕ) → k < length (s.heads q) → slice_index heads' k ≡ slice_index (s.heads q) k)
    → WordsAt q h s bell plan counter batch phase → SeesSame (open_heads q s.past (s.heads q)) (avail_idx (the_ring q h.size) m') (head_at (the_ring q h.size) m') (words_at (the_ring q h.size) (the_region q h.size) s.memory) phase
sees_same q h s past' heads' m' bell plan counter batch phase size known r r' accepts most few same f done is =
    let a : ℕ = accepted s.past q in
    let p : ℕ = used_idx (the_ring q h.size) s.memory + length (open_heads q s.past (s.heads q)) in
    let at : p % 65536 ≡ (h.base + a) % 65536 = at_heads q h.size h.capacity h.base s.past (s.heads q) s.memory known r in
    let more : a < length (s.heads q) = fetch_waits q h s bell plan counter batch done size known r (subst (λ (ph : Phase). WordsAt q h s bell plan counter batch ph) is f) in
    let small : h.size ≤ 64 = size.small in
    let room = known.room in
    let shown = known.shown in
    let fewer = known.fewer in
    let far : ahead (avail_idx (the_ring q h.size) m') p + a ≡ length heads' =
    ap (λ (d : ℕ). d + a) (same_ahead (avail_idx (the_ring q h.size) m') p (h.base + a) at) ∙ ap (λ (u : ℕ). ahead u (h.base + a) + a) r'.avail_idx_is ∙ ahead_by h.base (length heads') a (omega (arith, known.offered, most)) (omega arith) in
    let there : head_at (the_ring q h.size) m' (h.base + a) ≡ slice_index heads' a = r'.avail_at a (omega (arith, accepts)) (omega (arith, more, most)) in
    let old : head_at (the_ring q h.size) s.memory p ≡ slice_index (s.heads q) a = head_there q h.size h.base s.past (s.heads q) s.memory p r more at in (
      omega (arith, far, more, most),
      same_head_at (the_ring q h.size) m' p (h.base + a) at ∙ there ∙ same a more ∙ sym old,
    )
