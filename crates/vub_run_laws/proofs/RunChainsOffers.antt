-- Split chains. An offer adds the chain of its request; asks and collections leave the others.
use Rattle.std.proofs.Common.{◌≡◌, ◌≢◌, ◌≤◌, ◌<◌, ℕ, zero, suc, ◌+◌, Bool, true, false, cond, List, [], ◌∷◌, length, take, refl, ap, sym, ◌∙◌, subst, inl, inr, arith}
use Rattle.std.specs.Prelude.{Option, Some, None, ⊤, slice_index, is_none, ◌==◌}
use Rattle.std.proofs.lemmas.Bool.{cases_eq}
use Rattle.std.proofs.lemmas.Bool.Decides.{nat_tests}
use Rattle.std.proofs.lemmas.List.{length-take-le}
use Rattle.vub_base.specs.declared.header.Header1.{Header1}
use Rattle.vub_base.specs.declared.request.Ask.{Ask}
use Rattle.vub_base.specs.declared.request.Ask.TheVariants as wants
use Rattle.vub_base.specs.declared.request.Shape.TheVariants.{Direct}
use Rattle.vub_shared.specs.Bytes.{Bytes}
use Rattle.vub_driver.specs.Drivers.{Driver, Waiting, free_from, free_descriptors, can_take, chosen, first_or_zero, owned_by, waits_on, after_ask, is_that, without_owner}
use Rattle.vub_driver.specs.Requests.{descriptors_needed, has_data}
use Rattle.vub_driver.specs.Stores.{request_stores}
use Rattle.vub_device.specs.declared.entry.Asked.{Asked}
use Rattle.vub_device.specs.declared.entry.Entry.TheVariants as entries
use Rattle.vub_device.specs.Past.{asked}
use Rattle.vub_run.specs.Memory.{Scene}
use Rattle.vub_run.specs.Moments.{Lane}
use Rattle.vub_run_laws.proofs.RingGood.{the_ring, IsWaiting, WaitsWell, Driven}
use Rattle.vub_run_laws.proofs.RunTaken.{IsTaken, next_number, next_out, later_out}
use Rattle.vub_run_laws.proofs.RunChains.{chain_of}
use Rattle.vub_run_laws.proofs.RunChainsTurns.{IsLinked, IsPrepared, PreparedWell, Chained}
use Rattle.vub_run_laws.proofs.RingAsks.{is_none_means}

-- ---- the descriptors that an ask takes

-- rising from d on, below n, and nobody's
abbrev IsFreeFrom : ℕ → (ℕ → Option ℕ) → ℕ → List ℕ → Type 0
IsFreeFrom n owner d [] = ⊤
IsFreeFrom n owner d (x ∷ xs) = (d ≤ x) × ((x < n) × ((owner x ≡ None) × IsFreeFrom n owner (x + 1) xs))

free_lower : (n : ℕ) (owner : ℕ → Option ℕ) (d e : ℕ) (xs : List ℕ) → e ≤ d → IsFreeFrom n owner d xs → IsFreeFrom n owner e xs
free_lower n owner d e [] l all = tt
free_lower n owner d e (x ∷ xs) l all = (omega (arith, all.0), all.1)

free_are : (owner : ℕ → Option ℕ) (count d n : ℕ) → d + count ≤ n → IsFreeFrom n owner d (free_from owner count d)
free_are owner zero d n l = tt
free_are owner (suc count) d n l = go (is_none (owner d)) refl (free_are owner count (d + 1) n (omega arith))
  where
    go : (b : Bool) → is_none (owner d) ≡ b → IsFreeFrom n owner (d + 1) (free_from owner count (d + 1)) → IsFreeFrom n owner d (cond b (d ∷ free_from owner count (d + 1)) (free_from owner count (d + 1)))
    go true e rest = (omega arith, (omega arith, (is_none_means (owner d) e, rest)))
    go false e rest = free_lower n owner (d + 1) d (free_from owner count (d + 1)) (omega arith) rest

free_taken : (n : ℕ) (owner : ℕ → Option ℕ) (d k : ℕ) (xs : List ℕ) → IsFreeFrom n owner d xs → IsFreeFrom n owner d (take k xs)
free_taken n owner d zero xs all = tt
free_taken n owner d (suc k) [] all = tt
free_taken n owner d (suc k) (x ∷ xs) all = (all.0, (all.1.0, (all.1.1.0, free_taken n owner (x + 1) k xs all.1.1.1)))

-- who owns something owns it still
owned_still : (n head d : ℕ) (ds : List ℕ) (owner : ℕ → Option ℕ) (x e : ℕ) → IsFreeFrom n owner d ds → owner x ≡ Some e → owned_by head ds owner x ≡ Some e
owned_still n head d [] owner x e all is = is
owned_still n head d (y ∷ ys) owner x e all is = elim (cases_eq y x) [
  | inl same ↦ absurd (let none : owner x ≡ None = ap owner (sym same) ∙ all.1.1.0 in let fails : None ≡ Some e = sym none ∙ is in cc)
  | inr apart ↦ let rest : owned_by head ys owner x ≡ Some e = owned_still n head (y + 1) ys owner x e all.1.1.1 is in grind (arith, nat_tests)
]

-- how many descriptors a request takes
pub needed_is : (a : Ask) → descriptors_needed a ≡ cond (has_data a) 3 2
needed_is (wants.Read s c) = refl
needed_is (wants.Write s fills) = refl
needed_is wants.Flush = refl
needed_is wants.Id = refl
needed_is (wants.Discard parts) = refl
needed_is (wants.Zero parts) = refl

linked_still : (q n : ℕ) (owner owner' : ℕ → Option ℕ) (m : Bytes) (head : ℕ) (o : Option Asked) → ((d : ℕ) → owner d ≡ Some head → owner' d ≡ Some head) → IsLinked q n owner m head o → IsLinked q n owner' m head o
linked_still q n owner owner' m head o still was = record {
  body = was.body;
  status = was.status;
  body_fits = was.body_fits;
  status_fits = was.status_fits;
  body_mine = still was.body was.body_mine;
  status_mine = still was.status was.status_mine;
  request = was.request;
  is = was.is;
  stands = was.stands;
}

prepared_three : (q n : ℕ) (m : Bytes) (a : Ask) (v : Driver) (ds : List ℕ) → has_data a ≡ true → length ds ≡ 3 → IsFreeFrom n v.owner 0 ds
    → IsPrepared q n m (record v { owner = owned_by (first_or_zero ds) ds v.owner; waiting = Some (waits_on (the_ring q n) a ds v.avail_idx) }) (waits_on (the_ring q n) a ds v.avail_idx)
prepared_three q n m a v [] some three all = absurd (omega arith)
prepared_three q n m a v (x ∷ []) some three all = absurd (omega arith)
prepared_three q n m a v (x ∷ y ∷ []) some three all = absurd (omega arith)
prepared_three q n m a v (x ∷ y ∷ z ∷ []) some three all = record {
  body = y;
  status = z;
  up = omega (arith, all.1.1.1.0);
  within = omega (arith, all.1.1.1.1.1.1.0);
  upper = λ given. omega (arith, all.1.1.1.1.1.1.0);
  none = λ lacks. absurd (let fails : true ≡ false = sym some ∙ lacks in cc);
  fits = all.1.1.1.1.1.1.1.0;
  body_mine = grind (arith, nat_tests);
  status_mine = grind (arith, nat_tests);
  made = [];
  stores = ap (λ (b : Bool). request_stores (the_ring q n) v.avail_idx a (chain_of b x y z)) (sym some);
  some = omega arith;
  stand = refl;
}
prepared_three q n m a v (x ∷ y ∷ z ∷ t ∷ ts) some three all = absurd (omega arith)

prepared_two : (q n : ℕ) (m : Bytes) (a : Ask) (v : Driver) (ds : List ℕ) → has_data a ≡ false → length ds ≡ 2 → IsFreeFrom n v.owner 0 ds
    → IsPrepared q n m (record v { owner = owned_by (first_or_zero ds) ds v.owner; waiting = Some (waits_on (the_ring q n) a ds v.avail_idx) }) (waits_on (the_ring q n) a ds v.avail_idx)
prepared_two q n m a v [] none two all = absurd (omega arith)
prepared_two q n m a v (x ∷ []) none two all = absurd (omega arith)
prepared_two q n m a v (x ∷ y ∷ []) none two all = record {
  body = y;
  status = y;
  up = omega (arith, all.1.1.1.0);
  within = omega arith;
  upper = λ given. absurd (let fails : false ≡ true = sym none ∙ given in cc);
  none = λ lacks. refl;
  fits = all.1.1.1.1.0;
  body_mine = grind (arith, nat_tests);
  status_mine = grind (arith, nat_tests);
  made = [];
  stores = ap (λ (b : Bool). request_stores (the_ring q n) v.avail_idx a (chain_of b x y y)) (sym none);
  some = omega arith;
  stand = refl;
}
prepared_two q n m a v (x ∷ y ∷ z ∷ ds) none two all = absurd (omega arith)

prepared : (q n : ℕ) (m : Bytes) (a : Ask) (v : Driver) (ds : List ℕ) (b : Bool) → has_data a ≡ b → length ds ≡ cond b 3 2 → IsFreeFrom n v.owner 0 ds
    → IsPrepared q n m (record v { owner = owned_by (first_or_zero ds) ds v.owner; waiting = Some (waits_on (the_ring q n) a ds v.avail_idx) }) (waits_on (the_ring q n) a ds v.avail_idx)
prepared q n m a v ds true is many all = prepared_three q n m a v ds is many all
prepared q n m a v ds false is many all = prepared_two q n m a v ds is many all

pub ask_chained : (q : ℕ) (h : Header1) (s : Scene) (v : Driver) (a : Ask) → can_take h.size Direct a v ≡ true → Chained q h.size s v → Chained q h.size s (after_ask (the_ring q h.size) a v)
ask_chained q h s v a ready c =
    let free : List ℕ = free_descriptors h.size v in
    let ds : List ℕ = chosen h.size a v in
    let enough : descriptors_needed a ≤ length free = grind (arith, nat_tests) in
    let many : length ds ≡ cond (has_data a) 3 2 = length-take-le (descriptors_needed a) free enough ∙ needed_is a in
    let all : IsFreeFrom h.size v.owner 0 ds = free_taken h.size v.owner 0 (descriptors_needed a) free (free_are v.owner h.size 0 h.size (omega arith)) in
    record {
      linked = λ k out. linked_still q h.size v.owner (owned_by (first_or_zero ds) ds v.owner) s.memory (slice_index (s.heads q) k) (asked s.past q k)
          (λ d is. owned_still h.size (first_or_zero ds) 0 ds v.owner d (slice_index (s.heads q) k) all is) (c.linked k out);
      waits = prepared q h.size s.memory a v ds (has_data a) refl many all;
    }

-- ---- a collection

kept_owner : (owner : ℕ → Option ℕ) (x e d : ℕ) → e ≢ x → owner d ≡ Some e → without_owner x owner d ≡ Some e
kept_owner owner x e d apart is =
    let other : (e == x) ≡ false = grind (arith, nat_tests) in
    ap (λ (o : Option ℕ). cond (is_that x o) None o) is ∙ ap (λ (b : Bool). cond {A = Option ℕ} b None (Some e)) other

prepared_still : (q : ℕ) (h : Header1) (s : Scene) (l : Lane) (x : ℕ) (o : Option Waiting) → IsTaken q h s l x → PreparedWell q h.size s.memory l.driver o → ((w : Waiting) → o ≡ Some w → w.head ≢ x) → PreparedWell q h.size s.memory (record l.driver { owner = without_owner x l.driver.owner }) o
prepared_still q h s l x None t p apart = tt
prepared_still q h s l x (Some w) t p apart = record {
  body = p.body;
  status = p.status;
  up = p.up;
  within = p.within;
  upper = p.upper;
  none = p.none;
  fits = p.fits;
  body_mine = kept_owner l.driver.owner x w.head p.body (apart w refl) p.body_mine;
  status_mine = kept_owner l.driver.owner x w.head p.status (apart w refl) p.status_mine;
  made = p.made;
  stores = p.stores;
  some = p.some;
  stand = p.stand;
}

pub collect_chained : (q : ℕ) (h : Header1) (s : Scene) (l : Lane) (x k : ℕ) → IsTaken q h s l x → Chained q h.size s l.driver → Chained q h.size (record s { past = entries.Collect q k ∷ s.past }) (record l.driver { owner = without_owner x l.driver.owner })
collect_chained q h s l x k t c =
    let d : Driven q h.size h.capacity h.base s.past (s.heads q) l.driver = t.holds.queue.driven in record {
      linked = λ j out.
          let was = later_out q h s l x j k t out in
          let differs : slice_index (s.heads q) j ≢ x = λ same. was.1 (d.apart j (next_number q s) was.0 (next_out q h s l x t) (same ∙ t.head)) in
          linked_still q h.size l.driver.owner (without_owner x l.driver.owner) s.memory (slice_index (s.heads q) j) (asked s.past q j) (λ e is. kept_owner l.driver.owner x (slice_index (s.heads q) j) e differs is) (c.linked j was.0);
      waits = prepared_still q h s l x l.driver.waiting t c.waits (λ w waits same.
          let well : IsWaiting q h.size h.capacity s.past (s.heads q) l.driver w = subst (λ (o : Option Waiting). WaitsWell q h.size h.capacity s.past (s.heads q) l.driver o) waits d.waits in
          well.apart (next_number q s) (next_out q h s l x t) (sym t.head ∙ sym same));
    }
