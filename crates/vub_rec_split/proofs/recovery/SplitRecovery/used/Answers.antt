use Rattle.std.proofs.Common.{subst, sym}
use Rattle.vub_split.specs.Split.{RingLies}
use Rattle.vub_rec_split.specs.Starts.{RecoveryState}
use Rattle.vub_rec_split.proofs.recovery.SplitRecovery.used.Goals as goal

pub used_idx-requires : goal.used_idx-requires
used_idx-requires g c = subst (λ (s : RecoveryState). RingLies (g.M.Shared.sizes c.args.mem.now) s.ring) (sym c.self.view_is) c.requires.lies.ring
