use Rattle.std.proofs.Common.{◌≡◌, Bool, true, rules}
use Rattle.vub_session.proofs.LieLemmas.{fits_known, region_known, rings_lie, size_known, sized_known}
use Rattle.vub_session.specs.Ready.{holds_queue}
use Rattle.vub_session.proofs.state.Terms.rings_of.Goals as goal

pub returns-clause-lie : goal.returns-clause-lie
returns-clause-lie c = λ sizes held sized fits.
    let region = c.in_ok-region.region in
    let n = c.in_ok-size.size in
    let packed : Bool = c.is_packed-packed.result in
    let bounds = size_known c.args.ring.now.size n c.in_ok-size.was c.requires.size in
    let holds : holds_queue packed c.args.index region ≡ true = search rules in
    rw (c.rings_at.ensures, c.queue_place-place.ensures)
    (rings_lie sizes c.requires.region.0 packed c.args.index n region c.in_ok-parts.parts (c.in_ok-parts.ensures.lie sizes held) bounds.0 bounds.1
    (fits_known _ packed c.args.index n c.args.self.now.region region c.args.ring.now.size c.is_packed-packed.ensures c.in_ok-region.was c.in_ok-size.was fits)
    holds (sized_known sizes c.args.self.now.region region c.in_ok-region.was sized) (region_known c.requires.region.0 c.args.self.now.region region c.in_ok-region.was c.requires.region.1))
