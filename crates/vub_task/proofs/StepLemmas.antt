use Rattle.std.proofs.Common.{◌≡◌, ◌≤◌, ◌<◌, ℕ, zero, suc, ◌+◌, ◌*◌, ◌/◌, List, [], ◌∷◌, ◌++◌, length, refl, ap, sym, subst, arith, true, false, Bool}
use Rattle.std.proofs.lemmas.Bool.Decides.{nat_tests}
use Rattle.std.specs.Prelude.{Option, Some, None, slice_get, slice_range, nat_lt, if◌then◌else◌}
use Rattle.vub_base.specs.declared.header.Header1.{Header1}
use Rattle.vub_base.specs.declared.header.CacheMode.{CacheMode}
use Rattle.vub_base.specs.declared.header.CacheMode.TheVariants.{Back}
use Rattle.vub_device.specs.declared.entry.Asked.{Asked}
use Rattle.vub_device.specs.declared.entry.Asked.TheVariants.{Read, Write, Flush, Id, Discard, Zero}
use Rattle.vub_device.specs.declared.entry.SectorValue.{SectorValue}
use Rattle.vub_device.specs.Requests.{refusal, effect_at}
use Rattle.vub_steps.specs.Tasks.{RequestStep, Look, Put, Act, Sync, Status, task_steps, unless_refused, disk_steps, look_steps, act_steps}
use Rattle.vub_direct_chain.specs.ChainState.{sector_of, data_len, handed_bytes}
use Rattle.vub_task.specs.TaskState.{IsBasic}

-- what is known of a step of a table, and which one is after it
pub record Looks (end q : ℕ) (after : Option RequestStep) : Type 0 where
  pub within : q < end
  pub next : after ≡ Some (Put q)

pub record Puts (end q : ℕ) (after : Option RequestStep) : Type 0 where
  pub within : q < end
  pub more : q + 1 < end → after ≡ Some (Look (q + 1))
  pub last : end ≤ q + 1 → after ≡ Some Status

pub record Acts (end q : ℕ) (after : Option RequestStep) : Type 0 where
  pub within : q < end
  pub more : q + 1 < end → after ≡ Some (Act (q + 1))
  pub last : end ≤ q + 1 → after ≡ Some Status

abbrev pub OfLooks : ℕ → Option RequestStep → RequestStep → Type 0
OfLooks end after (Look q) = Looks end q after
OfLooks end after (Put q) = Puts end q after
OfLooks end after Status = after ≡ None
OfLooks end after step = ⊥

abbrev pub OfActs : ℕ → Option RequestStep → RequestStep → Type 0
OfActs end after (Act q) = Acts end q after
OfActs end after Status = after ≡ None
OfActs end after step = ⊥

none-≢-some : {T : Type 0} (x : T) → None ≡ Some x → ⊥
none-≢-some x h = cc h

some_is : {T : Type 0} (x y : T) → Some x ≡ Some y → x ≡ y
some_is x y h = cc h

looks : (p count end made : ℕ) (step : RequestStep) → end ≡ p + count → slice_get (look_steps p count ++ Status ∷ []) made ≡ Some step → OfLooks end (slice_get (look_steps p count ++ Status ∷ []) (suc made)) step
looks p zero end zero step is at = subst (λ (s : RequestStep). OfLooks end None s) (some_is Status step at) refl
looks p zero end (suc made) step is at = absurd (none-≢-some step at)
looks p (suc c) end zero step is at =
    subst (λ (s : RequestStep). OfLooks end (Some (Put p)) s) (some_is (Look p) step at) (record { within = omega (arith, is); next = refl })
looks p (suc zero) end (suc zero) step is at =
    subst (λ (s : RequestStep). OfLooks end (Some Status) s) (some_is (Put p) step at) (record { within = omega (arith, is); more = λ l. absurd (omega (arith, is, l)); last = λ l. refl })
looks p (suc (suc c)) end (suc zero) step is at =
    subst (λ (s : RequestStep). OfLooks end (Some (Look (p + 1))) s) (some_is (Put p) step at) (record { within = omega (arith, is); more = λ l. refl; last = λ l. absurd (omega (arith, is, l)) })
looks p (suc c) end (suc (suc made)) step is at = looks (p + 1) c end made step (omega (arith, is)) at

acts : (p count end made : ℕ) (step : RequestStep) → end ≡ p + count → slice_get (act_steps p count ++ Status ∷ []) made ≡ Some step → OfActs end (slice_get (act_steps p count ++ Status ∷ []) (suc made)) step
acts p zero end zero step is at = subst (λ (s : RequestStep). OfActs end None s) (some_is Status step at) refl
acts p zero end (suc made) step is at = absurd (none-≢-some step at)
acts p (suc zero) end zero step is at =
    subst (λ (s : RequestStep). OfActs end (Some Status) s) (some_is (Act p) step at) (record { within = omega (arith, is); more = λ l. absurd (omega (arith, is, l)); last = λ l. refl })
acts p (suc (suc c)) end zero step is at =
    subst (λ (s : RequestStep). OfActs end (Some (Act (p + 1))) s) (some_is (Act p) step at) (record { within = omega (arith, is); more = λ l. refl; last = λ l. absurd (omega (arith, is, l)) })
acts p (suc c) end (suc made) step is at = acts (p + 1) c end made step (omega (arith, is)) at

-- the steps of a request by its refusal
abbrev steps_of : Asked → Option ℕ → List RequestStep
steps_of request refused = unless_refused refused (disk_steps request) ++ Status ∷ []

-- what is known of a step of a request
abbrev pub OfRequest : ℕ → Asked → Option RequestStep → RequestStep → Type 0
OfRequest capacity request after (Look q) = Looks (data_len request / 512) q after × (sector_of request + data_len request / 512 ≤ capacity)
OfRequest capacity request after (Put q) = Puts (data_len request / 512) q after
OfRequest capacity request after (Act q) = Acts (data_len request / 512) q after × (sector_of request + data_len request / 512 ≤ capacity)
    × (data_len request ≡ length (handed_bytes request)) × (effect_at request q ≡ Some (record { sector = sector_of request + q; value = slice_range (handed_bytes request) (512 * q) (512 * q + 512) }))
OfRequest capacity request after Sync = after ≡ Some Status
OfRequest capacity request after Status = after ≡ None

refused_only : (capacity : ℕ) (request : Asked) (made : ℕ) (step : RequestStep) → slice_get (Status ∷ []) made ≡ Some step → OfRequest capacity request (slice_get (Status ∷ []) (suc made)) step
refused_only capacity request zero step at = subst (λ (s : RequestStep). OfRequest capacity request None s) (some_is Status step at) refl
refused_only capacity request (suc made) step at = absurd (none-≢-some step at)

of_looks : (capacity s n : ℕ) (after : Option RequestStep) (step : RequestStep) → s + n ≤ capacity → OfLooks n after step → OfRequest capacity (Read s n) after step
of_looks capacity s n after (Look q) low h =
    let same : 512 * n / 512 ≡ n = omega arith in
    (subst (λ (e : ℕ). Looks e q after) (sym same) h, omega (arith, low, same))
of_looks capacity s n after (Put q) low h =
    let same : 512 * n / 512 ≡ n = omega arith in
    subst (λ (e : ℕ). Puts e q after) (sym same) h
of_looks capacity s n after (Act q) low h = absurd h
of_looks capacity s n after Sync low h = absurd h
of_looks capacity s n after Status low h = h

of_acts : (capacity s : ℕ) (bytes : List ℕ) (after : Option RequestStep) (step : RequestStep) → s + length bytes / 512 ≤ capacity → OfActs (length bytes / 512) after step → OfRequest capacity (Write s bytes) after step
of_acts capacity s bytes after (Look q) low h = absurd h
of_acts capacity s bytes after (Put q) low h = absurd h
of_acts capacity s bytes after (Act q) low h =
    let within : nat_lt q (length bytes / 512) ≡ true = (let w : q < length bytes / 512 = h.within in grind (arith, nat_tests)) in
    let here : SectorValue = record { sector = s + q; value = slice_range bytes (512 * q) (512 * q + 512) } in
    (h, low, refl, ap (λ (t : Bool). if t then Some here else None) within)
of_acts capacity s bytes after Sync low h = absurd h
of_acts capacity s bytes after Status low h = h

flush : (capacity made : ℕ) (step : RequestStep) → slice_get (Sync ∷ Status ∷ []) made ≡ Some step → OfRequest capacity Flush (slice_get (Sync ∷ Status ∷ []) (suc made)) step
flush capacity zero step at = subst (λ (s : RequestStep). OfRequest capacity Flush (Some Status) s) (some_is Sync step at) refl
flush capacity (suc zero) step at = subst (λ (s : RequestStep). OfRequest capacity Flush None s) (some_is Status step at) refl
flush capacity (suc (suc made)) step at = absurd (none-≢-some step at)

pub step_of : (h : Header1) (request : Asked) (made : ℕ) (step : RequestStep) → IsBasic request → h.mode ≡ Back → slice_get (task_steps h request) made ≡ Some step → OfRequest h.capacity request (slice_get (task_steps h request) (suc made)) step
step_of h (Read s n) made step basic cached at =
    let P : Option ℕ → Type 0 = λ o. slice_get (steps_of (Read s n) o) made ≡ Some step → OfRequest h.capacity (Read s n) (slice_get (steps_of (Read s n) o) (suc made)) step in
    let go : (t : Bool) → nat_lt h.capacity (s + n) ≡ t → P (if t then Some 1 else None) = elim [
      | true ↦ λ late. refused_only h.capacity (Read s n) made step
      | false ↦ λ inside. λ is.
          let low : s + n ≤ h.capacity = grind (arith, nat_tests) in
          of_looks h.capacity s n _ step low (looks 0 n n made step (omega arith) is)
    ] in
    go (nat_lt h.capacity (s + n)) refl at
step_of h (Write s bytes) made step basic cached at =
    let P : Option ℕ → Type 0 = λ o. slice_get (steps_of (Write s bytes) o) made ≡ Some step → OfRequest h.capacity (Write s bytes) (slice_get (steps_of (Write s bytes) o) (suc made)) step in
    let c : ℕ = length bytes / 512 in
    let go : (t : Bool) → nat_lt h.capacity (s + c) ≡ t → P (if t then Some 1 else None) = elim [
      | true ↦ λ late. refused_only h.capacity (Write s bytes) made step
      | false ↦ λ inside. λ is.
          let low : s + c ≤ h.capacity = grind (arith, nat_tests) in
          of_acts h.capacity s bytes _ step low (acts 0 c c made step (omega arith) is)
    ] in
    let back : refusal h.capacity h.mode (Write s bytes) ≡ (if nat_lt h.capacity (s + c) then Some 1 else None) = ap (λ (mode : CacheMode). refusal h.capacity mode (Write s bytes)) cached in
    subst P (sym back) (go (nat_lt h.capacity (s + c)) refl) at
step_of h Flush made step basic cached at =
    let P : Option ℕ → Type 0 = λ o. slice_get (steps_of Flush o) made ≡ Some step → OfRequest h.capacity Flush (slice_get (steps_of Flush o) (suc made)) step in
    let back : refusal h.capacity h.mode Flush ≡ None = ap (λ (mode : CacheMode). refusal h.capacity mode Flush) cached in
    subst P (sym back) (flush h.capacity made step) at
step_of h Id made step basic cached at = absurd basic
step_of h (Discard parts) made step basic cached at = absurd basic
step_of h (Zero parts) made step basic cached at = absurd basic
