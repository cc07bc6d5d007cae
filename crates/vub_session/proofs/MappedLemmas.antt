-- The regions with what was found for them, in turn.
use Rattle.std.proofs.Common.{◌≡◌, ℕ, zero, suc, List, [], ◌∷◌, ◌≤◌, length, drop, refl, arith}
use Rattle.vub_memtable.specs.declared.region.Region.{Region}
use Rattle.vub_session.specs.Table.{mapped}
use Rattle.vub_session.specs.declared.finding.Found.{Found}

mapped_none : (rs : List Region) → mapped rs [] ≡ []
mapped_none [] = refl
mapped_none (r ∷ rs) = refl

pub mapped_end : (rs : List Region) (fs : List Found) (i : ℕ) → length fs ≤ i → mapped rs (drop i fs) ≡ []
mapped_end rs [] zero e = mapped_none rs
mapped_end rs [] (suc i) e = mapped_none rs
mapped_end rs (f ∷ fs) zero e = absurd (omega arith)
mapped_end rs (f ∷ fs) (suc i) e = mapped_end rs fs i (omega arith)
