-- A write that succeeded outlives a power stop once all was made stable after it.
use Rattle.std.proofs.Common.{◌≡◌, ℕ, zero, suc, ◌<◌, ◌≤◌, ◌==◌, ◌&&◌, Bool, true, false, true≢false, List, [], ◌∷◌, ◌++◌, get_or, refl, sym, ◌∙◌, ap, subst, inl, inr, arith}
use Rattle.std.specs.Prelude.{Contains, if◌then◌else◌}
use Rattle.std.proofs.lemmas.Bool.Decides.{nat_tests}
use Rattle.std.proofs.lemmas.Grind.{common_steps}
use Rattle.std.proofs.lemmas.List.Elements.{Contains-append_cases}
use Rattle.vub_base.specs.declared.header.CacheMode.{CacheMode}
use Rattle.vub_device.specs.declared.entry.Entry.{Entry}
use Rattle.vub_device.specs.declared.entry.Entry.TheVariants.{Offer, Accept, Look, Act, Sync, Fault, Publish, Kill, Start, Collect, Power}
use Rattle.vub_device.specs.Past.{offers, accepted, acts, synced}
use Rattle.vub_device.specs.Crash.{value, stable, unstable, candidates}
use Rattle.vub_device.specs.Durable.{joined, values_since, NoPower}
use Rattle.vub_device.specs.Legal.{Allowed}

-- ---- the values since a request's last act

-- the request has acted on the sector, which holds the first of these values
abbrev pub Acted : List Entry → ℕ → ℕ → ℕ → Type 0
Acted past q k s = (rest : List (List ℕ)) × (values_since past q k s ≡ value past s ∷ rest)

one_more : (v w : List ℕ) (xs rest : List (List ℕ)) → xs ≡ w ∷ rest → joined v xs ≡ v ∷ w ∷ rest
one_more v w xs rest is = ap (λ (ys : List (List ℕ)). joined v ys) is

acted_on : (v w : List ℕ) (xs : List (List ℕ)) (b c : Bool) → (rest : List (List ℕ)) × (xs ≡ w ∷ rest)
    → (rest : List (List ℕ)) × ((if b then (if c then v ∷ [] else joined v xs) else xs) ≡ (if b then v else w) ∷ rest)
acted_on v w xs true true is = ([], refl)
acted_on v w xs true false is = (w ∷ is.0, one_more v w xs is.0 is.1)
acted_on v w xs false c is = is

acted_first : (v w : List ℕ) (xs : List (List ℕ)) (b c : Bool) → b ≡ true → c ≡ true
    → (rest : List (List ℕ)) × ((if b then (if c then v ∷ [] else joined v xs) else xs) ≡ (if b then v else w) ∷ rest)
acted_first v w xs true true e f = ([], refl)
acted_first v w xs true false e f = absurd (true≢false (sym f))
acted_first v w xs false c e f = absurd (true≢false (sym e))

-- no entry but a power stop ends it
pub acted_kept : (q k s : ℕ) (past : List Entry) (e : Entry) → NoPower (e ∷ []) → Acted past q k s → Acted (e ∷ past) q k s
acted_kept q k s past (Act p j t v) calm is = acted_on v (value past s) (values_since past q k s) (t == s) ((p == q) && (j == k)) is
acted_kept q k s past (Power image) calm is = absurd calm
acted_kept q k s past (Offer p r) calm is = is
acted_kept q k s past (Accept p j) calm is = is
acted_kept q k s past (Look p j t v) calm is = is
acted_kept q k s past (Sync p j) calm is = is
acted_kept q k s past (Fault p j) calm is = is
acted_kept q k s past (Publish p answers) calm is = is
acted_kept q k s past Kill calm is = is
acted_kept q k s past (Start p list) calm is = is
acted_kept q k s past (Collect p j) calm is = is

-- the request's own act begins it
pub acted_made : (q k s : ℕ) (past : List Entry) (p j t : ℕ) (v : List ℕ) → p ≡ q → j ≡ k → t ≡ s → Acted (Act p j t v ∷ past) q k s
acted_made q k s past p j t v here this sector =
    let b : (t == s) ≡ true = grind (arith, common_steps, nat_tests) in
    let c : ((p == q) && (j == k)) ≡ true = grind (arith, common_steps, nat_tests) in
    acted_first v (value past s) (values_since past q k s) (t == s) ((p == q) && (j == k)) b c

-- ---- all that a power stop may leave is among these values

abbrev pub Safe : List Entry → ℕ → ℕ → ℕ → Type 0
Safe past q k s = (v : List ℕ) → Contains (candidates past s) v → Contains (values_since past q k s) v

contains_later : (v : List ℕ) (xs : List (List ℕ)) (w : List ℕ) → Contains xs w → Contains (joined v xs) w
contains_later v [] w c = absurd (omega (arith, c.1))
contains_later v (x ∷ xs) w c = (suc c.0, omega (arith, c.1), c.2)

contains_head : (xs : List (List ℕ)) (v : List ℕ) (rest : List (List ℕ)) → xs ≡ v ∷ rest → Contains xs v
contains_head xs v rest is = subst (λ (ys : List (List ℕ)). Contains ys v) (sym is) (zero, omega arith, refl)

only_at : (x w : List ℕ) (n : ℕ) → n < 1 → get_or (x ∷ []) n w ≡ w → x ≡ w
only_at x w zero lt is = is
only_at x w (suc n) lt is = absurd (omega (arith, lt))

only : (x w : List ℕ) → Contains (x ∷ []) w → x ≡ w
only x w c = only_at x w c.0 c.1 c.2

safe_on : (v w x : List ℕ) (xs us : List (List ℕ)) (b c : Bool) → c ≡ false → (rest : List (List ℕ)) × (xs ≡ w ∷ rest) → ((u : List ℕ) → Contains (x ∷ us) u → Contains xs u)
    → (u : List ℕ) → Contains (x ∷ (if b then us ++ v ∷ [] else us)) u → Contains (if b then (if c then v ∷ [] else joined v xs) else xs) u
safe_on v w x xs us true true other is safe u has = absurd (true≢false other)
safe_on v w x xs us true false other is safe u has = elim (Contains-append_cases (x ∷ us) (v ∷ []) u has) [
  | inl d ↦ contains_later v xs u (safe u d)
  | inr d ↦ subst (λ (y : List ℕ). Contains (joined v xs) y) (only v u d) (contains_head (joined v xs) v (w ∷ is.0) (one_more v w xs is.0 is.1))
]
safe_on v w x xs us false c other is safe u has = safe u has

-- an act of another request keeps it
pub safe_act : (q k s : ℕ) (past : List Entry) (p j t : ℕ) (v : List ℕ) → ((p == q) && (j == k)) ≡ false → Acted past q k s → Safe past q k s → Safe (Act p j t v ∷ past) q k s
safe_act q k s past p j t v other acted safe = safe_on v (value past s) (stable past s) (values_since past q k s) (unstable past s) (t == s) ((p == q) && (j == k)) other acted safe

-- once all is made stable it holds
pub safe_sync : (q k s : ℕ) (past : List Entry) (p j : ℕ) → Acted past q k s → Safe (Sync p j ∷ past) q k s
safe_sync q k s past p j acted v has = contains_head (values_since past q k s) v acted.0 (acted.1 ∙ ap (λ (w : List ℕ). w ∷ acted.0) (only (value past s) v has))

-- ---- what a legal history bounds

pub record Bounds (past : List Entry) (q k : ℕ) : Type 0 where
  pub taken : accepted past q ≤ offers past q
  pub synced : synced past q k ≡ true → k < offers past q
  pub acted : 0 < acts past q k → k < offers past q

pub bounds_kept : (capacity : ℕ) (mode : CacheMode) (q k : ℕ) (past : List Entry) (e : Entry) → Bounds past q k → Allowed capacity mode past e → Bounds (e ∷ past) q k
bounds_kept capacity mode q k past (Offer p r) x is = record {
  taken = let a : accepted past q ≤ offers past q = x.taken in grind (arith, common_steps, nat_tests);
  synced = λ e. let a : k < offers past q = x.synced e in grind (arith, common_steps, nat_tests);
  acted = λ e. let a : k < offers past q = x.acted e in grind (arith, common_steps, nat_tests);
}
bounds_kept capacity mode q k past (Accept p j) x is = record {
  taken = let a : accepted past q ≤ offers past q = x.taken in let n : j ≡ accepted past p = is.next in let o : j < offers past p = is.offered in grind (arith, common_steps, nat_tests);
  synced = x.synced;
  acted = x.acted;
}
bounds_kept capacity mode q k past (Sync p j) x is = record {
  taken = x.taken;
  synced = λ e. let a : accepted past q ≤ offers past q = x.taken in let n : j < accepted past p = is.works.is_open.taken in let o : synced past q k ≡ true → k < offers past q = x.synced in grind (arith, common_steps, nat_tests);
  acted = x.acted;
}
bounds_kept capacity mode q k past (Act p j t v) x is = record {
  taken = x.taken;
  synced = x.synced;
  acted = λ e. let a : accepted past q ≤ offers past q = x.taken in let n : j < accepted past p = is.works.is_open.taken in let o : 0 < acts past q k → k < offers past q = x.acted in grind (arith, common_steps, nat_tests);
}
bounds_kept capacity mode q k past (Start p list) x is = record {
  taken = x.taken;
  synced = λ e. let o : synced past q k ≡ true → k < offers past q = x.synced in grind (arith, common_steps, nat_tests);
  acted = λ e. let o : 0 < acts past q k → k < offers past q = x.acted in grind (arith, common_steps, nat_tests);
}
bounds_kept capacity mode q k past (Power image) x is = record { taken = omega arith; synced = λ e. absurd (true≢false (sym e)); acted = λ e. absurd (omega (arith, e)) }
bounds_kept capacity mode q k past (Look p j t v) x is = record { taken = x.taken; synced = x.synced; acted = x.acted }
bounds_kept capacity mode q k past (Fault p j) x is = record { taken = x.taken; synced = x.synced; acted = x.acted }
bounds_kept capacity mode q k past (Publish p answers) x is = record { taken = x.taken; synced = x.synced; acted = x.acted }
bounds_kept capacity mode q k past Kill x is = record { taken = x.taken; synced = x.synced; acted = x.acted }
bounds_kept capacity mode q k past (Collect p j) x is = record { taken = x.taken; synced = x.synced; acted = x.acted }
