-- What a `TrailShared` holds, and what its stores leave.
use Rattle.std.specs.Prelude.{◌≡◌, ◌+◌, ◌-◌, ◌^◌, ℕ, List, length, Result, OnOk, OnErr, IsErr}
use Rattle.std.proofs.Common.{min}
use Rattle.vub_base.specs.Causes.{Rose}
use Rattle.vub_shared.specs.Stores.{Store}
use Rattle.vub_shared.specs.Trails.{TrailState, HasRoom, with_store}
use Rattle.vub_shared.specs.declared.trail_shared.TrailShared.{TrailShared}

-- the memory that it passes its calls on to
abbrev pub inner_of : {M : Type 0} → TrailShared M → M
inner_of t = t.inner

-- the stores that it keeps, and its room for them
abbrev pub trail_of : {M : Type 0} → TrailShared M → TrailState
trail_of t = t.trail

abbrev pub stores_of : {M : Type 0} → TrailShared M → List Store
stores_of t = t.trail.stores

-- the faults of the memory below and its own, cut at the end of their type
abbrev pub faults_with : {M : Type 0} → (M → ℕ) → TrailShared M → ℕ
faults_with faults t = min (faults t.inner + t.faults) (2 ^ 64 - 1)

-- A store that succeeds is kept. One without room fails and changes nothing but the count of
-- faults; one with room fails only where the memory below does.
pub record IsKeptIn {M T E : Type 0} (faults : M → ℕ) (before now : TrailShared M) (result : Result T E) (st : Store) : Type 0 where
  pub kept : OnOk result (trail_of now ≡ with_store st (trail_of before))
  pub not_kept : OnErr result (trail_of now ≡ trail_of before)
  pub refused : ¬ HasRoom (trail_of before) (length st.bytes) → IsErr result
  pub unchanged : ¬ HasRoom (trail_of before) (length st.bytes) → inner_of now ≡ inner_of before
  pub failed : HasRoom (trail_of before) (length st.bytes) → OnErr result (Rose (faults (inner_of before)) (faults (inner_of now)))
