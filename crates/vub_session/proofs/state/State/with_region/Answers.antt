use Rattle.std.proofs.Common.{refl, rules}
use Rattle.vub_session.proofs.SoundLemmas.{region_set, fits_region}
use Rattle.vub_session.specs.Table.{kept_region}
use Rattle.vub_session.proofs.KeepLemmas.{same_keeps}
use Rattle.vub_session.proofs.state.State.with_region.Goals as goal

pub returns-clause-candidate : goal.returns-clause-candidate
returns-clause-candidate c =
    let f = c.in-Some.found.now in
    region_set c.args.self.now.config.queues c.args.self.now.table c.args.self.now.terms (kept_region c.args.inflight.now f) c.requires (search rules)
    (fits_region c.args.self.now c.args.inflight.now f (search rules) c.fits_inflight.ensures.fits)

pub returns-clause-keeps : goal.returns-clause-keeps
returns-clause-keeps c = same_keeps c.args.self.now.terms _ refl
