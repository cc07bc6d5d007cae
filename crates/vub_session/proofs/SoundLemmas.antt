-- Each row leaves a candidate: the rings that were attached can still run.
use Rattle.std.proofs.Common.{◌≡◌, ◌≢◌, ℕ, zero, suc, ◌^◌, ◌<◌, ◌≤◌, Bool, true, false, not, List, [], ◌∷◌, length, Option, Some, None, refl, sym, ◌∙◌, ap, subst, arith, get_or-set_same, get_or-set_other}
use Rattle.std.specs.Prelude.{◌==◌, ◌&&◌, slice_index_or}
use Rattle.std.specs.List.{list_any}
use Rattle.std.specs.Option.{ForSome}
use Rattle.std.proofs.lemmas.Bool.Decides.{nat_tests}
use Rattle.std.proofs.lemmas.Grind.{common_steps}
use Rattle.vub_memtable.specs.declared.region.Mapped.{Mapped}
use Rattle.vub_session.specs.Bounds.{IsBounded, IsRegion, SizeBounded}
use Rattle.vub_session.specs.Ready.{can_run, rings_of}
use Rattle.vub_session.specs.Sound.{IsCandidate, Runs}
use Rattle.vub_session.specs.State.{is_running, new_ring, ring_at, with_ring}
use Rattle.vub_session.specs.Table.{fits_inflight, kept_region, same_addresses}
use Rattle.vub_session.specs.declared.finding.Found.{Found}
use Rattle.vub_session.specs.declared.state.Addresses.{Addresses}
use Rattle.vub_session.specs.declared.state.KeptRegion.{KeptRegion}
use Rattle.vub_session.specs.declared.state.Ring.{Ring}
use Rattle.vub_session.specs.declared.state.State.{State}
use Rattle.vub_session.specs.declared.state.Terms.{Terms}
use Rattle.vub_wire.specs.declared.messages.Inflight.{Inflight}
use Rattle.vub_session.specs.declared.state.TheConstants.{MAX_QUEUES, MAX_QUEUE_SIZE}

-- ---- one ring is set

pub set_here : (t : Terms) (i : ℕ) (r : Ring) → length t.rings ≡ MAX_QUEUES → i < MAX_QUEUES → ring_at (with_ring t i r) i ≡ r
unfolding with_ring
set_here t i r count below = let inside : i < length t.rings = omega arith in rw get_or-set_same refl

pub set_there : (t : Terms) (i q : ℕ) (r : Ring) → q ≢ i → ring_at (with_ring t i r) q ≡ ring_at t q
unfolding with_ring
set_there t i q r other = rw get_or-set_other refl

set_count : (t : Terms) (i : ℕ) (r : Ring) → length (with_ring t i r).rings ≡ length t.rings
unfolding with_ring
set_count t i r = grind (arith, common_steps)

runs_set : (table : List Mapped) (t : Terms) (i q : ℕ) (r ring : Ring) → Runs table t q ring → Runs table (with_ring t i r) q ring
unfolding with_ring can_run rings_of
runs_set table t i q r ring h = record { can = h.can; lies = h.lies }

runs_at : (table : List Mapped) (t : Terms) (i : ℕ) (r : Ring) → length t.rings ≡ MAX_QUEUES → i < MAX_QUEUES → (r.is_attached ≡ true → Runs table t i r)
    → ((q : ℕ) → (ring_at t q).is_attached ≡ true → Runs table t q (ring_at t q)) → (q : ℕ) (b : Bool) → (q == i) ≡ b
    → (ring_at (with_ring t i r) q).is_attached ≡ true → Runs table (with_ring t i r) q (ring_at (with_ring t i r) q)
runs_at table t i r count below here there q true e is =
    let same : i ≡ q = grind (arith, nat_tests) in
    let P : ℕ → Type 0 = λ k. Runs table (with_ring t i r) k (ring_at (with_ring t i r) k) in
    let at : ring_at (with_ring t i r) i ≡ r = set_here t i r count below in
    let R : Ring → Type 0 = λ x. Runs table (with_ring t i r) i x in
    let now : r.is_attached ≡ true = ap (λ x. x.is_attached) (sym at) ∙ subst (λ (k : ℕ). (ring_at (with_ring t i r) k).is_attached ≡ true) (sym same) is in
    subst P same (subst R (sym at) (runs_set table t i i r r (here now)))
runs_at table t i r count below here there q false e is =
    let other : q ≢ i = grind (arith, nat_tests) in
    let at : ring_at (with_ring t i r) q ≡ ring_at t q = set_there t i q r other in
    let R : Ring → Type 0 = λ x. Runs table (with_ring t i r) q x in
    subst R (sym at) (runs_set table t i q r (ring_at t q) (there q (ap (λ x. x.is_attached) (sym at) ∙ is)))

size_at : (t : Terms) (i : ℕ) (r : Ring) → length t.rings ≡ MAX_QUEUES → i < MAX_QUEUES → SizeBounded r.size → ((q : ℕ) → SizeBounded (ring_at t q).size) → (q : ℕ) (b : Bool) → (q == i) ≡ b
    → SizeBounded (ring_at (with_ring t i r) q).size
size_at t i r count below here there q true e =
    let same : i ≡ q = grind (arith, nat_tests) in
    let P : ℕ → Type 0 = λ k. SizeBounded (ring_at (with_ring t i r) k).size in
    let R : Ring → Type 0 = λ x. SizeBounded x.size in
    subst P same (subst R (sym (set_here t i r count below)) here)
size_at t i r count below here there q false e =
    let other : q ≢ i = grind (arith, nat_tests) in
    let R : Ring → Type 0 = λ x. SizeBounded x.size in
    subst R (sym (set_there t i q r other)) (there q)

pub set_region : (t : Terms) (i : ℕ) (r : Ring) → (with_ring t i r).region ≡ t.region
unfolding with_ring
set_region t i r = refl

-- a ring may change so where its size stays bounded and, if it is attached, it can still run
pub ring_candidate : (queues : ℕ) (table : List Mapped) (t : Terms) (i : ℕ) (r : Ring) → i < MAX_QUEUES → IsCandidate queues table t → SizeBounded r.size → (r.is_attached ≡ true → Runs table t i r)
    → IsCandidate queues table (with_ring t i r)
unfolding with_ring
ring_candidate queues table t i r below old size runs = record {
  bounded = record {
    count = set_count t i r ∙ old.bounded.count;
    sizes = λ q. size_at t i r old.bounded.count below size old.bounded.sizes q (q == i) refl;
    region = old.bounded.region;
  };
  attached = λ q is. runs_at table t i r old.bounded.count below runs old.attached q (q == i) refl is;
}

-- a ring that isn't attached may get any size
pub idle_candidate : (queues : ℕ) (table : List Mapped) (t : Terms) (i : ℕ) (r : Ring) → i < MAX_QUEUES → IsCandidate queues table t → SizeBounded r.size → r.is_attached ≡ false
    → IsCandidate queues table (with_ring t i r)
idle_candidate queues table t i r below old size idle = ring_candidate queues table t i r below old size (λ is. absurd (cc))

-- ---- what an attached ring may change

kick_can : (t : Terms) (i : ℕ) (r : Ring) → can_run t i r ≡ true → can_run t i (record r { has_kick = true }) ≡ true
unfolding can_run
kick_can t i r can = grind arith

pub runs_kick : (table : List Mapped) (t : Terms) (i : ℕ) (r : Ring) → Runs table t i r → Runs table t i (record r { has_kick = true })
unfolding rings_of
runs_kick table t i r h = record { can = kick_can t i r h.can; lies = h.lies }

pub runs_call : (table : List Mapped) (t : Terms) (i : ℕ) (r : Ring) (bell : Bool) → Runs table t i r → Runs table t i (record r { has_bell = bell })
unfolding can_run rings_of
runs_call table t i r bell h = record { can = h.can; lies = h.lies }

pub runs_enable : (table : List Mapped) (t : Terms) (i : ℕ) (r : Ring) (enable : Bool) → Runs table t i r → Runs table t i (record r { is_enabled = enable })
unfolding can_run rings_of
runs_enable table t i r enable h = record { can = h.can; lies = h.lies }

same_record : (a b : Addresses) → a.desc ≡ b.desc → a.avail ≡ b.avail → a.used ≡ b.used → b ≡ a
same_record a b desc avail used =
    let make : ℕ → ℕ → ℕ → Addresses = λ x y z. record { desc = x; avail = y; used = z } in
    sym (ap (λ x. make x a.avail a.used) desc ∙ ap (λ y. make b.desc y a.used) avail ∙ ap (λ z. make b.desc b.avail z) used)

pub same_given : (a : Addresses) (given : Option Addresses) → same_addresses a given ≡ true → given ≡ Some a
same_given a None same = cc
same_given a (Some b) same =
    let desc : a.desc ≡ b.desc = grind (arith, nat_tests) in
    let avail : a.avail ≡ b.avail = grind (arith, nat_tests) in
    let used : a.used ≡ b.used = grind (arith, nat_tests) in
    ap (λ x. Some x) (same_record a b desc avail used)

pub runs_addresses : (table : List Mapped) (t : Terms) (i : ℕ) (r : Ring) (a : Addresses) → same_addresses a r.addresses ≡ true → Runs table t i r → Runs table t i (record r { addresses = Some a })
runs_addresses table t i r a same h =
    let R : Option Addresses → Type 0 = λ x. Runs table t i (record r { addresses = x }) in
    subst R (same_given a r.addresses same) h

-- ---- terms change where nothing runs

any_idle : (rs : List Ring) (k : ℕ) → list_any (λ r. r.is_attached) rs ≡ false → (slice_index_or rs k new_ring).is_attached ≡ false
any_idle [] k none = refl
any_idle (r ∷ rs) zero none = grind arith
any_idle (r ∷ rs) (suc k) none = any_idle rs k (grind arith)

pub quiet_candidate : (queues : ℕ) (table : List Mapped) (t : Terms) → IsBounded queues t → is_running t ≡ false → IsCandidate queues table t
unfolding is_running
quiet_candidate queues table t bounded none = record { bounded = bounded; attached = λ q is. let idle : (ring_at t q).is_attached ≡ false = any_idle t.rings q none in absurd (cc) }

pub features_candidate : (queues set : ℕ) (table : List Mapped) (t : Terms) → IsBounded queues t → is_running t ≡ false → IsCandidate queues table (record t { features = set })
unfolding is_running
features_candidate queues set table t b none = quiet_candidate queues table _ (record { count = b.count; sizes = b.sizes; region = b.region }) none

pub protocol_candidate : (queues set : ℕ) (table : List Mapped) (t : Terms) → IsBounded queues t → is_running t ≡ false → IsCandidate queues table (record t { protocol = set })
unfolding is_running
protocol_candidate queues set table t b none = quiet_candidate queues table _ (record { count = b.count; sizes = b.sizes; region = b.region }) none

pub table_candidate : (queues : ℕ) (table : List Mapped) (t : Terms) → IsBounded queues t → is_running t ≡ false → IsCandidate queues table (record t { has_table = true })
unfolding is_running
table_candidate queues table t b none = quiet_candidate queues table _ (record { count = b.count; sizes = b.sizes; region = b.region }) none

pub region_candidate : (queues : ℕ) (table : List Mapped) (t : Terms) (r : KeptRegion) → IsBounded queues t → is_running t ≡ false → IsRegion queues r → IsCandidate queues table (record t { region = Some r })
unfolding is_running
region_candidate queues table t r b none region = quiet_candidate queues table _ (record { count = b.count; sizes = b.sizes; region = region }) none

-- ---- what the rows leave

some_candidate : (queues : ℕ) (table : List Mapped) (t : Terms) → IsCandidate queues table t → ForSome (Some t) (IsCandidate queues table)
some_candidate queues table t h = λ x e. let P : Terms → Type 0 = λ y. IsCandidate queues table y in let same : t ≡ x = cc in subst P same h

-- what a session holds of a ring
pub record Known (queues : ℕ) (table : List Mapped) (t : Terms) (i : ℕ) (r : Ring) : Type 0 where
  pub below : i < MAX_QUEUES
  pub old : IsCandidate queues table t
  pub at : r ≡ ring_at t i

size_known : (queues : ℕ) (table : List Mapped) (t : Terms) (i : ℕ) (r : Ring) → Known queues table t i r → SizeBounded r.size
size_known queues table t i r h = let R : Ring → Type 0 = λ x. SizeBounded x.size in subst R (sym h.at) (h.old.bounded.sizes i)

runs_known : (queues : ℕ) (table : List Mapped) (t : Terms) (i : ℕ) (r : Ring) → Known queues table t i r → r.is_attached ≡ true → Runs table t i r
runs_known queues table t i r h is = let R : Ring → Type 0 = λ x. Runs table t i x in subst R (sym h.at) (h.old.attached i (ap (λ x. x.is_attached) (sym h.at) ∙ is))

pub size_set : (queues n : ℕ) (table : List Mapped) (t : Terms) (i : ℕ) (r : Ring) → Known queues table t i r → 1 ≤ n → n ≤ MAX_QUEUE_SIZE → r.is_attached ≡ false
    → ForSome (Some (with_ring t i (record r { size = Some n }))) (IsCandidate queues table)
size_set queues n table t i r h some few idle = some_candidate queues table _ (idle_candidate queues table t i (record r { size = Some n }) h.below h.old (some, few) idle)

pub base_set : (queues base : ℕ) (table : List Mapped) (t : Terms) (i : ℕ) (r : Ring) → Known queues table t i r → r.is_attached ≡ false
    → ForSome (Some (with_ring t i (record r { base = Some base }))) (IsCandidate queues table)
base_set queues base table t i r h idle = some_candidate queues table _ (idle_candidate queues table t i (record r { base = Some base }) h.below h.old (size_known queues table t i r h) idle)

pub same_if : (attached same : Bool) → (attached && not same) ≡ false → attached ≡ true → same ≡ true
same_if true true e is = refl
same_if true false e is = cc
same_if false same e is = absurd (cc)

pub addresses_set : (queues : ℕ) (a : Addresses) (table : List Mapped) (t : Terms) (i : ℕ) (r : Ring) → Known queues table t i r → (r.is_attached && not (same_addresses a r.addresses)) ≡ false
    → ForSome (Some (with_ring t i (record r { addresses = Some a }))) (IsCandidate queues table)
addresses_set queues a table t i r h same = some_candidate queues table _ (ring_candidate queues table t i (record r { addresses = Some a }) h.below h.old (size_known queues table t i r h)
    (λ is. runs_addresses table t i r a (same_if r.is_attached (same_addresses a r.addresses) same is) (runs_known queues table t i r h is)))

pub kick_set : (queues : ℕ) (table : List Mapped) (t : Terms) (i : ℕ) (r : Ring) → Known queues table t i r → ForSome (Some (with_ring t i (record r { has_kick = true }))) (IsCandidate queues table)
kick_set queues table t i r h = some_candidate queues table _ (ring_candidate queues table t i (record r { has_kick = true }) h.below h.old (size_known queues table t i r h)
    (λ is. runs_kick table t i r (runs_known queues table t i r h is)))

pub call_set : (queues : ℕ) (bell : Bool) (table : List Mapped) (t : Terms) (i : ℕ) (r : Ring) → Known queues table t i r → ForSome (Some (with_ring t i (record r { has_bell = bell }))) (IsCandidate queues table)
call_set queues bell table t i r h = some_candidate queues table _ (ring_candidate queues table t i (record r { has_bell = bell }) h.below h.old (size_known queues table t i r h)
    (λ is. runs_call table t i r bell (runs_known queues table t i r h is)))

pub enable_set : (queues : ℕ) (enable : Bool) (table : List Mapped) (t : Terms) (i : ℕ) (r : Ring) → Known queues table t i r → ForSome (Some (with_ring t i (record r { is_enabled = enable }))) (IsCandidate queues table)
enable_set queues enable table t i r h = some_candidate queues table _ (ring_candidate queues table t i (record r { is_enabled = enable }) h.below h.old (size_known queues table t i r h)
    (λ is. runs_enable table t i r enable (runs_known queues table t i r h is)))

pub features_set : (queues set : ℕ) (table : List Mapped) (t : Terms) → IsCandidate queues table t → is_running t ≡ false → ForSome (Some (record t { features = set })) (IsCandidate queues table)
features_set queues set table t old none = some_candidate queues table _ (features_candidate queues set table t old.bounded none)

pub protocol_set : (queues set : ℕ) (table : List Mapped) (t : Terms) → IsCandidate queues table t → is_running t ≡ false → ForSome (Some (record t { protocol = set })) (IsCandidate queues table)
protocol_set queues set table t old none = some_candidate queues table _ (protocol_candidate queues set table t old.bounded none)

pub region_set : (queues : ℕ) (table : List Mapped) (t : Terms) (r : KeptRegion) → IsCandidate queues table t → is_running t ≡ false → IsRegion queues r → ForSome (Some (record t { region = Some r })) (IsCandidate queues table)
region_set queues table t r old none region = some_candidate queues table _ (region_candidate queues table t r old.bounded none region)

-- the region that a message names lies in its space
pub fits_region : (s : State) (x : Inflight) (f : Found) → fits_inflight s x f ≡ true → f.size < 2 ^ 64 → IsRegion s.config.queues (kept_region x f)
fits_region s x f fits below = record {
  counted = grind (arith, nat_tests);
  inside = grind (arith, nat_tests);
  fits = below;
  aligned = grind (arith, nat_tests);
}
