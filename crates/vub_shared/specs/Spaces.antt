-- The spaces that were handed out, and the names that mean them.
use Rattle.std.specs.Prelude.{◌≡◌, ◌≢◌, ◌<◌, ◌≤◌, ℕ, Bool, true, false, if◌then◌else◌, List, Option, Some, None, Result, OnOk, IfErr}
use Rattle.std.specs.Str.{bytes_eq}
use Rattle.vub_base.specs.Causes.{Rose}
use Rattle.vub_shared.specs.declared.fault.SharedFault.{SharedFault}
use Rattle.vub_shared.specs.declared.fault.SharedFault.TheVariants.{Failed, NoSuch}

-- the number of the space that a name means, if it means one
abbrev pub Names : Type 0
Names = List ℕ → Option ℕ

-- the same, but that name means that space
abbrev pub with_name : List ℕ → ℕ → Names → Names
with_name name space names other = if bytes_eq name other then Some space else names other

-- the names are told, and this one is none of them
abbrev pub Lacks : Option Names → List ℕ → Type 0
Lacks told name = (names : Names) × (told ≡ Some names) × (names name ≡ None)

-- a space that was handed out is still, and has its size
pub record KeepsHanded (before : ℕ → Bool) (old_sizes : ℕ → ℕ) (now : ℕ → Bool) (new_sizes : ℕ → ℕ) : Type 0 where
  pub handed : (s : ℕ) → before s ≡ true → now s ≡ true
  pub sizes : (s : ℕ) → before s ≡ true → new_sizes s ≡ old_sizes s

-- one space more is handed out, of that size, and the others are as they were
pub record HandsNew (before : ℕ → Bool) (old_sizes : ℕ → ℕ) (now : ℕ → Bool) (new_sizes : ℕ → ℕ) (space size : ℕ) : Type 0 where
  pub fresh : before space ≡ false
  pub joins : now space ≡ true
  pub sized : new_sizes space ≡ size
  pub handed : (s : ℕ) → s ≢ space → now s ≡ before s
  pub sizes : (s : ℕ) → s ≢ space → new_sizes s ≡ old_sizes s

-- all 65,536 spaces that there can be are handed out
abbrev pub AllHanded : (ℕ → Bool) → Type 0
AllHanded handed = (s : ℕ) → s < 65536 → handed s ≡ true

-- The count of faults didn't fall. A call failed only where it rose, and found nothing of a name
-- only where the told names lack it. Every answer but a failure leaves the count.
pub record HasReason {T : Type 0} (before now : ℕ) (names : Option Names) (name : List ℕ) (result : Result T SharedFault) : Type 0 where
  pub later : before ≤ now
  pub failed : IfErr result (λ e. e ≡ Failed → Rose before now)
  pub quiet : OnOk result (now ≡ before)
  pub others_quiet : IfErr result (λ e. e ≢ Failed → now ≡ before)
  pub lacking : IfErr result (λ e. e ≡ NoSuch → Lacks names name)
