-- The first turn that is ready.
use Rattle.std.proofs.Common.{◌≡◌, ℕ, zero, suc, Bool, true, false, List, [], ◌∷◌, ◌++◌, refl, ap, sym, ◌∙◌}
use Rattle.std.specs.Prelude.{if◌then◌else◌, slice_get, Some}
use Rattle.vub_steps.specs.declared.readiness.Standing.{Standing}
use Rattle.vub_steps.specs.declared.readiness.Turn.{Turn}
use Rattle.vub_steps.specs.declared.readiness.Turn.TheVariants.{Start, Fetch, Work, Publish}
use Rattle.vub_steps.specs.Readiness.{is_ready, is_fetch, is_publication, first_ready, publication_under_way, phase_under_way, any_turn, draining_turn}

-- where the first ready turn isn't ready, none of the list is
unready_at : (s : Standing) (turns : List Turn) (last : Turn) (k : ℕ) (turn : Turn) → is_ready s (first_ready s turns last) ≡ false → slice_get (turns ++ last ∷ []) k ≡ Some turn → is_ready s turn ≡ false
unready_at s [] last zero turn none at = let same : last ≡ turn = cc in ap (is_ready s) (sym same) ∙ none
unready_at s [] last (suc k) turn none at = absurd (cc at)
unready_at s (x ∷ turns) last k turn none at = go (is_ready s x) refl none k at (λ k none at. unready_at s turns last k turn none at)
  where
    go : (b : Bool) → is_ready s x ≡ b → is_ready s (if b then x else first_ready s turns last) ≡ false → (k : ℕ) → slice_get (x ∷ turns ++ last ∷ []) k ≡ Some turn
        → ((k : ℕ) → is_ready s (first_ready s turns last) ≡ false → slice_get (turns ++ last ∷ []) k ≡ Some turn → is_ready s turn ≡ false) → is_ready s turn ≡ false
    go true ready none k at rest = absurd (let fails : true ≡ false = sym ready ∙ none in cc)
    go false ready none zero at rest = let same : x ≡ turn = cc in ap (is_ready s) (sym same) ∙ ready
    go false ready none (suc k) at rest = rest k none at

-- no turn is ready
pub record NoneReady (size : ℕ) (s : Standing) : Type 0 where
  pub start : is_ready s Start ≡ false
  pub fetch : is_ready s Fetch ≡ false
  pub work : is_ready s (Work 0) ≡ false
  pub publish : is_ready s (Publish size) ≡ false

pub any_unready : (size : ℕ) (s : Standing) → is_ready s (any_turn size s) ≡ false → NoneReady size s
any_unready size s none = go (is_fetch s.phase) (is_publication s.phase) none
  where
    go : (f p : Bool) → is_ready s (first_ready s (Start ∷ (if f then Fetch ∷ [] else (if p then Publish size ∷ [] else [])) ++ Fetch ∷ Work 0 ∷ []) (Publish size)) ≡ false → NoneReady size s
    go true p none =
        let at = unready_at s (Start ∷ Fetch ∷ Fetch ∷ Work 0 ∷ []) (Publish size) in
        record { start = at 0 Start none refl; fetch = at 1 Fetch none refl; work = at 3 (Work 0) none refl; publish = at 4 (Publish size) none refl }
    go false true none =
        let at = unready_at s (Start ∷ Publish size ∷ Fetch ∷ Work 0 ∷ []) (Publish size) in
        record { start = at 0 Start none refl; fetch = at 2 Fetch none refl; work = at 3 (Work 0) none refl; publish = at 4 (Publish size) none refl }
    go false false none =
        let at = unready_at s (Start ∷ Fetch ∷ Work 0 ∷ []) (Publish size) in
        record { start = at 0 Start none refl; fetch = at 1 Fetch none refl; work = at 2 (Work 0) none refl; publish = at 3 (Publish size) none refl }

-- neither work on the oldest request nor a publication is ready
pub record NoneLeft (size : ℕ) (s : Standing) : Type 0 where
  pub work : is_ready s (Work 0) ≡ false
  pub publish : is_ready s (Publish size) ≡ false

pub draining_unready : (size : ℕ) (s : Standing) → is_ready s (draining_turn size s) ≡ false → NoneLeft size s
draining_unready size s none = go (is_publication s.phase) none
  where
    go : (p : Bool) → is_ready s (first_ready s ((if p then Publish size ∷ [] else []) ++ Work 0 ∷ []) (Publish size)) ≡ false → NoneLeft size s
    go true none = let at = unready_at s (Publish size ∷ Work 0 ∷ []) (Publish size) in record { work = at 1 (Work 0) none refl; publish = at 2 (Publish size) none refl }
    go false none = let at = unready_at s (Work 0 ∷ []) (Publish size) in record { work = at 0 (Work 0) none refl; publish = at 1 (Publish size) none refl }

-- work that comes first is ready
first_work : (s : Standing) (turns : List Turn) (size j : ℕ) → first_ready s turns (Publish size) ≡ Work j → is_ready s (Work j) ≡ true
first_work s [] size j is = absurd (cc is)
first_work s (x ∷ turns) size j is = go (is_ready s x) refl is (λ is. first_work s turns size j is)
  where
    go : (b : Bool) → is_ready s x ≡ b → (if b then x else first_ready s turns (Publish size)) ≡ Work j → (first_ready s turns (Publish size) ≡ Work j → is_ready s (Work j) ≡ true) → is_ready s (Work j) ≡ true
    go true ready is rest = ap (is_ready s) (sym is) ∙ ready
    go false ready is rest = rest is

pub any_works : (size j : ℕ) (s : Standing) → any_turn size s ≡ Work j → is_ready s (Work j) ≡ true
any_works size j s is = first_work s (Start ∷ phase_under_way size s ++ Fetch ∷ Work 0 ∷ []) size j is

pub draining_works : (size j : ℕ) (s : Standing) → draining_turn size s ≡ Work j → is_ready s (Work j) ≡ true
draining_works size j s is = first_work s (publication_under_way size s ++ Work 0 ∷ []) size j is

pub drain_works : (size j : ℕ) (s : Standing) (b : Bool) → (if b then any_turn size s else draining_turn size s) ≡ Work j → is_ready s (Work j) ≡ true
drain_works size j s true is = any_works size j s is
drain_works size j s false is = draining_works size j s is
