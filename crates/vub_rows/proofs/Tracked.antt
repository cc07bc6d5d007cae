-- What is left to compute where memory is to track history.
use Rattle.std.proofs.Common.{◌≡◌, ◌≢◌, zero, suc, Bool, true, false, ap, sym, ◌∙◌, arith}
use Rattle.vub_base.specs.declared.reading.Reading.{Reading}
use Rattle.vub_base.specs.declared.reading.Reading.TheVariants.{Damaged}
use Rattle.vub_base.specs.declared.reading.RegionFault.{RegionFault}
use Rattle.vub_run.specs.Memory.{Scene}
use Rattle.vub_run.specs.Tracking.{Tracks, EveryTracks}
use Rattle.vub_rows.specs.WriteAndRead.{header}

-- the reading is a damage, whatever its fault
abbrev pub is_damaged : Reading → Bool
is_damaged (Damaged fault) = true
is_damaged reading = false

-- a reading that is no damage is none by any fault
pub undamaged : (reading : Reading) → is_damaged reading ≡ false → (fault : RegionFault) → reading ≢ Damaged fault
undamaged reading sound fault damaged = let fails : true ≡ false = sym (ap is_damaged damaged) ∙ sound in cc

-- there is one queue
pub at_queue_0 : (s : Scene) → Tracks header 0 s → EveryTracks header s
at_queue_0 s tracks zero below = tracks
at_queue_0 s tracks (suc q) below = grind arith
