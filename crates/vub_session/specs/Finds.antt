-- What the look-ups of names and the creation of a space answer, and leave of shared memory.
use Rattle.std.specs.Option.{option_map}
use Rattle.std.specs.Prelude.{◌≡◌, ◌≢◌, ◌≤◌, ◌<◌, ◌⊎◌, ℕ, Bool, true, List, [], ◌∷◌, length, take, slice_get, Any, Option, Some, None, Result, IfErr, OnOk}
use Rattle.vub_base.specs.Bells.{BellState, Attached, MayAttach}
use Rattle.vub_base.specs.Causes.{Rose}
use Rattle.vub_base.specs.Told.{WhereTold}
use Rattle.vub_session.specs.declared.finding.Found.{Found}
use Rattle.vub_session.specs.declared.handled.SessionFault.{SessionFault}
use Rattle.vub_session.specs.declared.handled.SessionFault.TheVariants as faults
use Rattle.vub_shared.specs.Bytes.{Bytes, cleared}
use Rattle.vub_shared.specs.Spaces.{Names, with_name, KeepsHanded, HandsNew, Lacks}
use Rattle.vub_shared.specs.Stores.{Store}

-- a name was looked up: the space that it means, with its size
pub record IsFound (told : Option Names) (handed : ℕ → Bool) (sizes : ℕ → ℕ) (name : List ℕ) (f : Found) : Type 0 where
  pub means : WhereTold told (λ n. n name ≡ Some f.space.number)
  pub is_handed : handed f.space.number ≡ true
  pub sized : sizes f.space.number ≡ f.size

-- each of the names was
abbrev pub AreFound : Option Names → (ℕ → Bool) → (ℕ → ℕ) → List (List ℕ) → List Found → Type 0
AreFound told handed sizes names found = (k : ℕ) (name : List ℕ) (f : Found) → slice_get names k ≡ Some name → slice_get found k ≡ Some f → IsFound told handed sizes name f

-- look-ups leave all that is told, and each space that was handed out
pub record OnlyFinds {M : Type 0} (told : M → Option Bytes) (trail : M → Option (List Store)) (names : M → Option Names) (handed : M → ℕ → Bool) (sizes : M → ℕ → ℕ) (before now : M) : Type 0 where
  pub same_told : told now ≡ told before
  pub same_trail : trail now ≡ trail before
  pub same_names : names now ≡ names before
  pub keeps : KeepsHanded (handed before) (sizes before) (handed now) (sizes now)

-- one space of so many zero bytes was made, which the name means
pub record Makes {M : Type 0} (told : M → Option Bytes) (trail : M → Option (List Store)) (names : M → Option Names) (handed : M → ℕ → Bool) (sizes : M → ℕ → ℕ) (before now : M) (name : List ℕ) (size : ℕ) (f : Found) : Type 0 where
  pub sized : f.size ≡ size
  pub hands : HandsNew (handed before) (sizes before) (handed now) (sizes now) f.space.number size
  pub zeroed : told now ≡ option_map (cleared f.space.number) (told before)
  pub named : names now ≡ option_map (with_name name f.space.number) (names before)
  pub same_trail : trail now ≡ trail before

-- what is made under the first name, or the look-ups of the first `count`, answered, and left of memory
abbrev pub AreAnswered : {M : Type 0} → (M → Option Bytes) → (M → Option (List Store)) → (M → Option Names) → (M → ℕ → Bool) → (M → ℕ → ℕ) → M → M → Option ℕ → ℕ → List (List ℕ) → List Found → Type 0
AreAnswered told trail names handed sizes before now None count list found =
    OnlyFinds told trail names handed sizes before now × (length found ≡ count) × AreFound (names before) (handed now) (sizes now) list found
AreAnswered told trail names handed sizes before now (Some size) count list found =
    (f : Found) × (name : List ℕ) × (found ≡ f ∷ []) × (slice_get list 0 ≡ Some name) × Makes told trail names handed sizes before now name size f

-- why the names of a message couldn't be taken and looked up: memory's count of faults rose, or the bell's did, or fewer
-- names are left than the message takes, or the told names lack one that it looks up. Each count stays at every other answer.
pub record HasFindReason {T : Type 0} (before now bell_before bell_now : ℕ) (told : Option Names) (count sought : ℕ) (list : List (List ℕ)) (result : Result T SessionFault) : Type 0 where
  pub later : before ≤ now
  pub bell_later : bell_before ≤ bell_now
  pub shared : IfErr result (λ e. e ≡ faults.Shared → Rose before now)
  pub bell : IfErr result (λ e. e ≡ faults.Bell → Rose bell_before bell_now)
  pub quiet : OnOk result ((now ≡ before) × (bell_now ≡ bell_before))
  pub others_quiet : IfErr result (λ e. e ≢ faults.Shared → now ≡ before)
  pub bell_quiet : IfErr result (λ e. e ≢ faults.Bell → bell_now ≡ bell_before)
  pub no_name : IfErr result (λ e. e ≡ faults.NoName → (length list < count) ⊎ Any (Lacks told) (take sought list))

-- the bell is as before, but that the queue of a call that brings one is attached
abbrev pub BellIs : Option ℕ → Option BellState → Option BellState → Type 0
BellIs None before now = now ≡ before
BellIs (Some queue) None now = now ≡ None
BellIs (Some queue) (Some before) now = (after : BellState) × (now ≡ Some after) × Attached before after queue

-- the bell after it failed: the same, but that the queue may be attached or not
abbrev pub BellMayBe : Option ℕ → Option BellState → Option BellState → Type 0
BellMayBe None before now = now ≡ before
BellMayBe (Some queue) None now = now ≡ None
BellMayBe (Some queue) (Some before) now = (after : BellState) × (now ≡ Some after) × MayAttach before after queue
