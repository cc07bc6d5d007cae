-- Attaching the rings that are ready keeps a session sound.
use Rattle.std.proofs.Common.{◌≡◌, ◌≢◌, ℕ, zero, suc, ◌<◌, ◌≤◌, Bool, true, false, List, length, Option, Some, None, IsSome, refl, sym, ◌∙◌, ap, subst, arith, rules}
use Rattle.std.specs.Prelude.{◌==◌, nat_lt, is_none}
use Rattle.std.proofs.lemmas.Bool.Decides.{nat_tests}
use Rattle.std.proofs.lemmas.List.{get_or_past}
use Rattle.std.proofs.lemmas.List.FromFn.{get_or-map-range_with_len, length-map-range_with_len}
use Rattle.vub_memtable.specs.declared.region.Mapped.{Mapped}
use Rattle.vub_session.specs.Bounds.{RegionBounded, SizeBounded}
use Rattle.vub_session.specs.Ready.{attach, attached, bad_ring, can_run, is_bad, is_ready, least, or_last, region_fits, rings_of, sizes_fit}
use Rattle.vub_session.specs.Sound.{IsCandidate, ReadyAttached, Runs}
use Rattle.vub_session.specs.State.{is_packed, new_ring, ring_at}
use Rattle.vub_session.specs.declared.state.KeptRegion.{KeptRegion}
use Rattle.vub_session.specs.declared.state.Ring.{Ring}
use Rattle.vub_session.specs.declared.state.Terms.{Terms}
use Rattle.vub_session.specs.declared.state.TheConstants.{MAX_QUEUES}
use Rattle.vub_setup.specs.declared.setup.Rings.{Rings}

-- ---- no ring below is bad

or_none : (o : Option ℕ) (last : Bool) (n : ℕ) → or_last o last n ≡ None → (o ≡ None) × (last ≡ false)
or_none None true n e = absurd (cc)
or_none None false n e = (refl, refl)
or_none (Some k) last n e = absurd (cc)

least_one : (p : ℕ → Bool) (n k : ℕ) → (k < n → p k ≡ false) → p n ≡ false → (b : Bool) → (k == n) ≡ b → k < suc n → p k ≡ false
least_one p n k before last true e below = let same : n ≡ k = grind (arith, nat_tests) in let P : ℕ → Type 0 = λ x. p x ≡ false in subst P same last
least_one p n k before last false e below = let other : k ≢ n = grind (arith, nat_tests) in before (omega arith)

least_none : (p : ℕ → Bool) (n k : ℕ) → least p n ≡ None → k < n → p k ≡ false
least_none p zero k none below = absurd (omega arith)
least_none p (suc n) k none below = let parts : (least p n ≡ None) × (p n ≡ false) = or_none (least p n) (p n) n none in least_one p n k (λ before. least_none p n k parts.0 before) parts.1 (k == n) refl below

-- ---- rings after it

pub attached_here : (t : Terms) (index : ℕ) → index < MAX_QUEUES → ring_at (attach t) index ≡ attached t index
unfolding attach
attached_here t index below = get_or-map-range_with_len (attached t) 0 MAX_QUEUES index index new_ring below (omega arith)

attach_count : (t : Terms) → length (attach t).rings ≡ MAX_QUEUES
unfolding attach
attach_count t = length-map-range_with_len (attached t) 0 MAX_QUEUES

runs_attach : (table : List Mapped) (t : Terms) (index : ℕ) → Runs table t index (ring_at t index) → Runs table (attach t) index (attached t index)
unfolding attach can_run rings_of
runs_attach table t index h = record { can = h.can; lies = h.lies }

-- a ring that can run is counted by the region, and so is that of a queue
counted : (packed : Bool) (index queues : ℕ) (region : Option KeptRegion) (size : Option ℕ) → RegionBounded queues region → region_fits packed index region size ≡ true → index < queues
unfolding sizes_fit
counted packed index queues None size bounded fits = absurd (cc)
counted packed index queues (Some r) None bounded fits = absurd (cc)
counted packed index queues (Some r) (Some n) bounded fits =
    let few : r.queues ≤ queues = bounded.counted in
    grind (arith, nat_tests)

can_fits : (t : Terms) (index : ℕ) (ring : Ring) → can_run t index ring ≡ true → region_fits (is_packed t) index t.region ring.size ≡ true
unfolding can_run
can_fits t index ring can = grind arith

ready_can : (t : Terms) (index : ℕ) (ring : Ring) → is_ready t index ring ≡ true → can_run t index ring ≡ true
unfolding is_ready
ready_can t index ring ready = grind arith

some_of : (o : Option Rings) → is_none o ≡ false → IsSome o
some_of None e = absurd (cc)
some_of (Some x) e = search rules

not_bad : (t : Terms) (table : List Mapped) (index : ℕ) → is_bad t table index ≡ false → is_ready t index (ring_at t index) ≡ true → is_none (rings_of t table index (ring_at t index)) ≡ false
unfolding is_bad
not_bad t table index fine ready = grind arith

ready_runs : (queues : ℕ) (table : List Mapped) (t : Terms) (index : ℕ) → IsCandidate queues table t → bad_ring t table queues ≡ None → is_ready t index (ring_at t index) ≡ true → Runs table t index (ring_at t index)
ready_runs queues table t index old none ready =
    let can : can_run t index (ring_at t index) ≡ true = ready_can t index (ring_at t index) ready in
    let below : index < queues = counted (is_packed t) index queues t.region (ring_at t index).size old.bounded.region (can_fits t index (ring_at t index) can) in
    let fine : is_bad t table index ≡ false = least_none (is_bad t table) queues index none below in
    record { can = can; lies = some_of (rings_of t table index (ring_at t index)) (not_bad t table index fine ready) }

-- ---- by index

-- what holds of a ring of the index, whichever it is: past the last place stands a new ring
past : (t : Terms) (index : ℕ) → MAX_QUEUES ≤ index → ring_at (attach t) index ≡ new_ring
past t index above = let count : length (attach t).rings ≡ MAX_QUEUES = attach_count t in get_or_past (attach t).rings index new_ring (omega arith)

attached_runs : (queues : ℕ) (table : List Mapped) (t : Terms) (index : ℕ) → IsCandidate queues table t → bad_ring t table queues ≡ None → (was : Bool) → (ring_at t index).is_attached ≡ was
    → (attached t index).is_attached ≡ true → Runs table (attach t) index (attached t index)
attached_runs queues table t index old none true e is = runs_attach table t index (old.attached index e)
attached_runs queues table t index old none false e is =
    let ready : is_ready t index (ring_at t index) ≡ true = grind arith in
    runs_attach table t index (ready_runs queues table t index old none ready)

runs_by_place : (queues : ℕ) (table : List Mapped) (t : Terms) (index : ℕ) → IsCandidate queues table t → bad_ring t table queues ≡ None → (below : Bool) → nat_lt index MAX_QUEUES ≡ below
    → (ring_at (attach t) index).is_attached ≡ true → Runs table (attach t) index (ring_at (attach t) index)
runs_by_place queues table t index old none true e is =
    let inside : index < MAX_QUEUES = grind (arith, nat_tests) in
    let at : ring_at (attach t) index ≡ attached t index = attached_here t index inside in
    let R : Ring → Type 0 = λ r. Runs table (attach t) index r in
    subst R (sym at) (attached_runs queues table t index old none (ring_at t index).is_attached refl (ap (λ r. r.is_attached) (sym at) ∙ is))
runs_by_place queues table t index old none false e is =
    let outside : MAX_QUEUES ≤ index = grind (arith, nat_tests) in
    let at : ring_at (attach t) index ≡ new_ring = past t index outside in
    let idle : false ≡ true = ap (λ r. r.is_attached) (sym at) ∙ is in
    absurd (cc)

size_by_place : (queues : ℕ) (table : List Mapped) (t : Terms) (index : ℕ) → IsCandidate queues table t → (below : Bool) → nat_lt index MAX_QUEUES ≡ below → SizeBounded (ring_at (attach t) index).size
size_by_place queues table t index old true e =
    let inside : index < MAX_QUEUES = grind (arith, nat_tests) in
    let R : Ring → Type 0 = λ r. SizeBounded r.size in
    subst R (sym (attached_here t index inside)) (old.bounded.sizes index)
size_by_place queues table t index old false e =
    let outside : MAX_QUEUES ≤ index = grind (arith, nat_tests) in
    let R : Ring → Type 0 = λ r. SizeBounded r.size in
    subst R (sym (past t index outside)) (search rules)

region_same : (t : Terms) → (attach t).region ≡ t.region
unfolding attach
region_same t = refl

pub attach_candidate : (queues : ℕ) (table : List Mapped) (t : Terms) → IsCandidate queues table t → bad_ring t table queues ≡ None → IsCandidate queues table (attach t)
attach_candidate queues table t old none = record {
  bounded = record {
    count = attach_count t;
    sizes = λ index. size_by_place queues table t index old (nat_lt index MAX_QUEUES) refl;
    region = let P : Option KeptRegion → Type 0 = λ r. RegionBounded queues r in subst P (sym (region_same t)) old.bounded.region;
  };
  attached = λ index is. runs_by_place queues table t index old none (nat_lt index MAX_QUEUES) refl is;
}

ready_attached : (t : Terms) (index : ℕ) → is_ready (attach t) index (attached t index) ≡ true → (attached t index).is_attached ≡ true
unfolding attach is_ready can_run
ready_attached t index ready = grind arith

pub new_not_ready : (t : Terms) (index : ℕ) → is_ready t index new_ring ≡ true → ⊥
unfolding is_ready can_run
new_not_ready t index ready = grind arith

ready_by_place : (t : Terms) (index : ℕ) (below : Bool) → nat_lt index MAX_QUEUES ≡ below → is_ready (attach t) index (ring_at (attach t) index) ≡ true → (ring_at (attach t) index).is_attached ≡ true
ready_by_place t index true e ready =
    let inside : index < MAX_QUEUES = grind (arith, nat_tests) in
    let at : ring_at (attach t) index ≡ attached t index = attached_here t index inside in
    ap (λ r. r.is_attached) at ∙ ready_attached t index (ap (λ r. is_ready (attach t) index r) (sym at) ∙ ready)
ready_by_place t index false e ready =
    let outside : MAX_QUEUES ≤ index = grind (arith, nat_tests) in
    let at : ring_at (attach t) index ≡ new_ring = past t index outside in
    let new_ready : is_ready (attach t) index new_ring ≡ true = ap (λ r. is_ready (attach t) index r) (sym at) ∙ ready in
    absurd (new_not_ready (attach t) index new_ready)

pub attach_ready : (t : Terms) → ReadyAttached (attach t)
attach_ready t = λ index ready. ready_by_place t index (nat_lt index MAX_QUEUES) refl ready
