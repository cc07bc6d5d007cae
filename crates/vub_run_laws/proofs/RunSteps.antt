-- The steps of a request, by how many were made.
use Rattle.std.proofs.Common.{◌≡◌, ◌≤◌, ◌<◌, ℕ, zero, suc, ◌+◌, ◌*◌, ◌/◌, Bool, true, List, [], ◌∷◌, ◌++◌, length, refl, ap, sym, ◌∙◌, subst, inl, inr, arith}
use Rattle.std.specs.Prelude.{Option, Some, None, slice_get, slice_range, nat_lt, if◌then◌else◌}
use Rattle.std.proofs.lemmas.Bool.Decides.{nat_tests}
use Rattle.std.proofs.lemmas.Bool.{cases_lt}
use Rattle.vub_base.specs.declared.header.CacheMode.{CacheMode}
use Rattle.vub_base.specs.declared.header.CacheMode.TheVariants.{Back}
use Rattle.vub_base.specs.declared.header.Header1.{Header1}
use Rattle.vub_device.specs.declared.entry.Asked.{Asked}
use Rattle.vub_device.specs.declared.entry.Asked.TheVariants as asks
use Rattle.vub_device.specs.declared.entry.SectorValue.{SectorValue}
use Rattle.vub_device.specs.Requests.{look_at, effect_at, refusal}
use Rattle.vub_steps.specs.Tasks.{RequestStep, Look, Put, Act, Sync, Status, task_steps, unless_refused, disk_steps, look_steps, act_steps}
use Rattle.vub_run_laws.proofs.RunGood.{IsWideRead, IsWideWrite, IsWide, Progress, IsBegun, IsReadTo, IsWrittenTo}

-- ---- requests

pub data WideCases : ℕ → Option Asked → Type 0 where
  AtRead : {cap : ℕ} {o : Option Asked} → (s c : ℕ) → IsWideRead cap s c → o ≡ Some (asks.Read s c) → WideCases cap o
  AtWrite : {cap : ℕ} {o : Option Asked} → (s : ℕ) → (bytes : List ℕ) → IsWideWrite cap s bytes → o ≡ Some (asks.Write s bytes) → WideCases cap o
  AtFlush : {cap : ℕ} {o : Option Asked} → o ≡ Some asks.Flush → WideCases cap o

pub wide_cases : (cap : ℕ) (o : Option Asked) → IsWide cap o → WideCases cap o
wide_cases cap (Some (asks.Read s c)) wide = AtRead s c wide refl
wide_cases cap (Some (asks.Write s bytes)) wide = AtWrite s bytes wide refl
wide_cases cap (Some asks.Flush) wide = AtFlush refl
wide_cases cap (Some asks.Id) wide = absurd wide
wide_cases cap (Some (asks.Discard parts)) wide = absurd wide
wide_cases cap (Some (asks.Zero parts)) wide = absurd wide
wide_cases cap None wide = absurd wide

pub wide_some : (cap : ℕ) (o : Option Asked) → IsWide cap o → (r : Asked) × (o ≡ Some r)
wide_some cap (Some r) wide = (r, refl)
wide_some cap None wide = absurd wide

-- none of them is refused
pub wide_served : (h : Header1) (r : Asked) → h.mode ≡ Back → IsWide h.capacity (Some r) → refusal h.capacity h.mode r ≡ None
wide_served h (asks.Read s c) back wide = let fits : s + c ≤ h.capacity = wide.fits in grind (arith, nat_tests)
wide_served h (asks.Write s bytes) back wide =
    let fits : s + length bytes / 512 ≤ h.capacity = wide.fits in
    ap (λ (mode : CacheMode). refusal h.capacity mode (asks.Write s bytes)) back ∙ grind (arith, nat_tests)
wide_served h asks.Flush back wide = ap (λ (mode : CacheMode). refusal h.capacity mode asks.Flush) back
wide_served h asks.Id back wide = absurd wide
wide_served h (asks.Discard parts) back wide = absurd wide
wide_served h (asks.Zero parts) back wide = absurd wide

pub wide_steps : (h : Header1) (r : Asked) → h.mode ≡ Back → IsWide h.capacity (Some r) → task_steps h r ≡ disk_steps r ++ Status ∷ []
wide_steps h r back wide = ap (λ (o : Option ℕ). unless_refused o (disk_steps r) ++ Status ∷ []) (wide_served h r back wide)

-- ---- the step after so many, of the sectors from this one on

pub data ReadAt : ℕ → ℕ → ℕ → Option RequestStep → Type 0 where
  ToLook : {a c made : ℕ} {o : Option RequestStep} → (p : ℕ) → p < c → made ≡ 2 * p → o ≡ Some (Look (a + p)) → ReadAt a c made o
  ToPut : {a c made : ℕ} {o : Option RequestStep} → (p : ℕ) → p < c → made ≡ 2 * p + 1 → o ≡ Some (Put (a + p)) → ReadAt a c made o
  ToReply : {a c made : ℕ} {o : Option RequestStep} → made ≡ 2 * c → o ≡ Some Status → ReadAt a c made o

read_later : (a c made : ℕ) (o : Option RequestStep) → ReadAt (a + 1) c made o → ReadAt a (suc c) (suc (suc made)) o
read_later a c made o (ToLook p l d i) = ToLook (p + 1) (omega arith) (omega arith) (i ∙ ap (λ (k : ℕ). Some (Look k)) (let same : a + 1 + p ≡ a + (p + 1) = omega arith in same))
read_later a c made o (ToPut p l d i) = ToPut (p + 1) (omega arith) (omega arith) (i ∙ ap (λ (k : ℕ). Some (Put k)) (let same : a + 1 + p ≡ a + (p + 1) = omega arith in same))
read_later a c made o (ToReply d i) = ToReply (omega arith) i

pub read_at : (a c made : ℕ) → made ≤ 2 * c → ReadAt a c made (slice_get (look_steps a c ++ Status ∷ []) made)
read_at a zero zero l = ToReply refl refl
read_at a zero (suc made) l = absurd (omega arith)
read_at a (suc c) zero l = ToLook 0 (omega arith) refl (ap (λ (k : ℕ). Some (Look k)) (let same : a ≡ a + 0 = omega arith in same))
read_at a (suc c) (suc zero) l = ToPut 0 (omega arith) refl (ap (λ (k : ℕ). Some (Put k)) (let same : a ≡ a + 0 = omega arith in same))
read_at a (suc c) (suc (suc made)) l = read_later a c made (slice_get (look_steps (a + 1) c ++ Status ∷ []) made) (read_at (a + 1) c made (omega arith))

pub read_over : (a c made : ℕ) → 2 * c < made → slice_get (look_steps a c ++ Status ∷ []) made ≡ None
read_over a zero zero l = absurd (omega arith)
read_over a zero (suc made) l = refl
read_over a (suc c) zero l = absurd (omega arith)
read_over a (suc c) (suc zero) l = absurd (omega arith)
read_over a (suc c) (suc (suc made)) l = read_over (a + 1) c made (omega arith)

pub data WriteAt : ℕ → ℕ → ℕ → Option RequestStep → Type 0 where
  ToAct : {a n made : ℕ} {o : Option RequestStep} → made < n → o ≡ Some (Act (a + made)) → WriteAt a n made o
  ToEnd : {a n made : ℕ} {o : Option RequestStep} → made ≡ n → o ≡ Some Status → WriteAt a n made o

write_later : (a n made : ℕ) (o : Option RequestStep) → WriteAt (a + 1) n made o → WriteAt a (suc n) (suc made) o
write_later a n made o (ToAct l i) = ToAct (omega arith) (i ∙ ap (λ (k : ℕ). Some (Act k)) (let same : a + 1 + made ≡ a + suc made = omega arith in same))
write_later a n made o (ToEnd d i) = ToEnd (omega arith) i

pub write_at : (a n made : ℕ) → made ≤ n → WriteAt a n made (slice_get (act_steps a n ++ Status ∷ []) made)
write_at a zero zero l = ToEnd refl refl
write_at a zero (suc made) l = absurd (omega arith)
write_at a (suc n) zero l = ToAct (omega arith) (ap (λ (k : ℕ). Some (Act k)) (let same : a ≡ a + 0 = omega arith in same))
write_at a (suc n) (suc made) l = write_later a n made (slice_get (act_steps (a + 1) n ++ Status ∷ []) made) (write_at (a + 1) n made (omega arith))

pub write_over : (a n made : ℕ) → n < made → slice_get (act_steps a n ++ Status ∷ []) made ≡ None
write_over a zero zero l = absurd (omega arith)
write_over a zero (suc made) l = refl
write_over a (suc n) zero l = absurd (omega arith)
write_over a (suc n) (suc made) l = write_over (a + 1) n made (omega arith)

-- of the sectors of a request at most eight are stored
pub put_few : (h : Header1) (r : Asked) (made place : ℕ) → h.mode ≡ Back → IsWide h.capacity (Some r) → slice_get (task_steps h r) made ≡ Some (Put place) → place < 8
put_few h (asks.Read sector c) made place back wide is =
    let there : slice_get (look_steps 0 c ++ Status ∷ []) made ≡ Some (Put place) = subst (λ (steps : List RequestStep). slice_get steps made ≡ Some (Put place)) (wide_steps h (asks.Read sector c) back wide) is in
    elim (cases_lt (2 * c) made) [
      | inl over ↦ absurd (let fails : None ≡ Some (Put place) = sym (read_over 0 c made over) ∙ there in cc)
      | inr under ↦ go (slice_get (look_steps 0 c ++ Status ∷ []) made) there (read_at 0 c made (omega arith))
    ]
  where
    go : (o : Option RequestStep) → o ≡ Some (Put place) → ReadAt 0 c made o → place < 8
    go o there (ToLook p within at i) = absurd (let fails : Some (Look (0 + p)) ≡ Some (Put place) = sym i ∙ there in cc)
    go o there (ToPut p within at i) = let same : 0 + p ≡ place = (let both : Some (Put (0 + p)) ≡ Some (Put place) = sym i ∙ there in cc) in omega (arith, within, wide.few, same)
    go o there (ToReply at i) = absurd (let fails : Some Status ≡ Some (Put place) = sym i ∙ there in cc)
put_few h (asks.Write sector bytes) made place back wide is =
    let there : slice_get (act_steps 0 (length bytes / 512) ++ Status ∷ []) made ≡ Some (Put place) = subst (λ (steps : List RequestStep). slice_get steps made ≡ Some (Put place)) (wide_steps h (asks.Write sector bytes) back wide) is in
    absurd (elim (cases_lt (length bytes / 512) made) [
      | inl over ↦ let fails : None ≡ Some (Put place) = sym (write_over 0 (length bytes / 512) made over) ∙ there in cc
      | inr under ↦ go (slice_get (act_steps 0 (length bytes / 512) ++ Status ∷ []) made) there (write_at 0 (length bytes / 512) made (omega arith))
    ])
  where
    go : (o : Option RequestStep) → o ≡ Some (Put place) → WriteAt 0 (length bytes / 512) made o → ⊥
    go o there (ToAct within i) = let fails : Some (Act (0 + made)) ≡ Some (Put place) = sym i ∙ there in cc
    go o there (ToEnd at i) = let fails : Some Status ≡ Some (Put place) = sym i ∙ there in cc
put_few h asks.Flush made place back wide is = absurd (go made (subst (λ (steps : List RequestStep). slice_get steps made ≡ Some (Put place)) (wide_steps h asks.Flush back wide) is))
  where
    go : (i : ℕ) → slice_get (Sync ∷ Status ∷ []) i ≡ Some (Put place) → ⊥
    go zero there = let fails : Some Sync ≡ Some (Put place) = there in cc
    go (suc zero) there = let fails : Some Status ≡ Some (Put place) = there in cc
    go (suc (suc i)) there = let fails : None ≡ Some (Put place) = there in cc
put_few h asks.Id made place back wide is = absurd wide
put_few h (asks.Discard parts) made place back wide is = absurd wide
put_few h (asks.Zero parts) made place back wide is = absurd wide

-- ---- what a step does

pub look_is : (s c p : ℕ) → p < c → look_at (asks.Read s c) p ≡ Some (s + p)
look_is s c p l = grind (arith, nat_tests)

pub looks_end : (s c : ℕ) → look_at (asks.Read s c) c ≡ None
looks_end s c = grind (arith, nat_tests)

-- the sector that a write writes in a place
abbrev pub written : ℕ → List ℕ → ℕ → SectorValue
written s bytes p = record { sector = s + p; value = slice_range bytes (512 * p) (512 * p + 512) }

pub effect_is : (s : ℕ) (bytes : List ℕ) (p : ℕ) → p < length bytes / 512 → effect_at (asks.Write s bytes) p ≡ Some (written s bytes p)
effect_is s bytes p l =
    let within : nat_lt p (length bytes / 512) ≡ true = grind (arith, nat_tests) in
    ap (λ (t : Bool). if t then Some (written s bytes p) else None) within

pub effects_end : (s : ℕ) (bytes : List ℕ) → effect_at (asks.Write s bytes) (length bytes / 512) ≡ None
effects_end s bytes = grind (arith, nat_tests)

-- ---- progress of a request, also where no step was made

pub read_to : (s c made looked acted : ℕ) (read : List ℕ) (stable : Bool) (o : Option Asked) → o ≡ Some (asks.Read s c) → Progress made looked acted read stable o → IsReadTo c made looked read
read_to s c zero looked acted read stable o is p =
    let f = p.fresh refl in
    record { under = λ l. omega (arith, f.0); whole = λ l. omega (arith, f.0, l); long = omega (arith, f.0, ap (λ (xs : List ℕ). length xs) f.1.1.0) }
read_to s c (suc made) looked acted read stable o is p = subst (λ (x : Option Asked). IsBegun (suc made) looked acted read stable x) is (p.begun (omega arith))

pub written_to : (s made looked acted : ℕ) (bytes read : List ℕ) (stable : Bool) (o : Option Asked) → o ≡ Some (asks.Write s bytes) → Progress made looked acted read stable o → IsWrittenTo (length bytes / 512) made acted
written_to s zero looked acted bytes read stable o is p = let f = p.fresh refl in record { under = λ l. f.1.0; whole = λ l. omega (arith, f.1.0, l) }
written_to s (suc made) looked acted bytes read stable o is p = subst (λ (x : Option Asked). IsBegun (suc made) looked acted read stable x) is (p.begun (omega arith))

pub flushed_to : (made looked acted : ℕ) (read : List ℕ) (stable : Bool) (o : Option Asked) → o ≡ Some asks.Flush → 0 < made → Progress made looked acted read stable o → stable ≡ true
flushed_to made looked acted read stable o is some p = subst (λ (x : Option Asked). IsBegun made looked acted read stable x) is (p.begun some)
