use Rattle.std.proofs.Common.{◌≡◌, ◌∙◌, sym, arith, true, false}
use Rattle.std.proofs.lemmas.Bool.Decides.{nat_tests}
use Rattle.vub_direct_chain.proofs.ChainRules.{after_link, nothing_next, some_next, header_alone, reached, two_long, three_long, fourth}
use Rattle.std.proofs.lemmas.Result.{err_from_is_err_and}
use Rattle.vub_driver.specs.Requests.{readable_piece}
use Rattle.vub_driver.specs.GuestChain.{second}
use Rattle.vub_direct_chain.specs.ChainState.{desc_in, has_next}
use Rattle.vub_direct_chain.proofs.ChainReading.{reads_err, some_same, tail_rest, pair_none, pair_some, is_none, ends_there}
use Rattle.vub_direct_chain.proofs.chain.tail_of.Goals as goal

pub returns-in_err-second-clause-tail : goal.returns-in_err-second-clause-tail
returns-in_err-second-clause-tail g c l buffer request m told means is =
    let p = err_from_is_err_and c.from_residual.result c.from_residual.ensures.1 in
    let failed = c.in_err-second.ensures.follows (readable_piece buffer 16) (second l) (is ∙ means.first) means.second_fits m told in
    rw (p.1, p.2) (reads_err c.in_err-second.field-0.0 _ _ failed)

pub returns-in_default-clause-tail : goal.returns-in_default-clause-tail
returns-in_default-clause-tail g c l buffer request m told means is =
    c.in_default.not-Some (desc_in c.args.ring.now m (second l)) (c.in_ok-second.ensures.follows (readable_piece buffer 16) (second l) (is ∙ means.first) means.second_fits m told)

pub returns-in_err-third-clause-tail : goal.returns-in_err-third-clause-tail
returns-in_err-third-clause-tail g c l buffer request m told means is =
    let r = c.args.ring.now in
    let p = err_from_is_err_and c.from_residual-in_err-third.result c.from_residual-in_err-third.ensures.1 in
    let same = some_same c.in_ok-second.field-0 c.in-Some.second (desc_in r m (second l)) c.in-Some.is (c.in_ok-second.ensures.follows (readable_piece buffer 16) (second l) (is ∙ means.first) means.second_fits m told) in
    let e = c.in_err-third.ensures in
    let rest = tail_rest r m l.body l.status buffer request c.in-Some.second _ same means.body means.last means.status_fits e.ends (λ q next at fits. e.follows q next at fits m (c.next_of.ensures.only_loads.same_told ∙ told)) in
    rw (p.1, p.2) (reads_err c.in_err-third.field-0.0 _ _ rest)

pub returns-in_default-2-clause-tail : goal.returns-in_default-2-clause-tail
returns-in_default-2-clause-tail g c l buffer request m told means is =
    let r = c.args.ring.now in
    let same = some_same c.in_ok-second.field-0 c.in-Some.second (desc_in r m (second l)) c.in-Some.is (c.in_ok-second.ensures.follows (readable_piece buffer 16) (second l) (is ∙ means.first) means.second_fits m told) in
    let e = c.in_ok-third.ensures in
    let rest = tail_rest r m l.body l.status buffer request c.in-Some.second _ same means.body means.last means.status_fits e.ends (λ q next at fits. e.follows q next at fits m (c.next_of.ensures.only_loads.same_told ∙ told)) in
    pair_none r m l.body l.status c.in-Some.second same (sym (is_none c.in_ok-third.field-0 c.in_default-2.not-Some) ∙ rest)

pub returns-then-third-ne0-clause-tail : goal.returns-then-third-ne0-clause-tail
returns-then-third-ne0-clause-tail g c l buffer request m told means is =
    let r = c.args.ring.now in
    let same = some_same c.in_ok-second.field-0 c.in-Some.second (desc_in r m (second l)) c.in-Some.is (c.in_ok-second.ensures.follows (readable_piece buffer 16) (second l) (is ∙ means.first) means.second_fits m told) in
    let e = c.in_ok-third.ensures in
    let rest = tail_rest r m l.body l.status buffer request c.in-Some.second _ same means.body means.last means.status_fits e.ends (λ q next at fits. e.follows q next at fits m (c.next_of.ensures.only_loads.same_told ∙ told)) in
    let third = pair_some r m l.body l.status c.in-Some.second c.in-Some-2.third same (sym c.in-Some-2.is ∙ rest) in
    absurd (c.if-third-ne0.true (ends_there r m l.status buffer c.in-Some.second _ c.in-Some-2.third means.last third))

pub returns-clause-tail : goal.returns-clause-tail
returns-clause-tail g c l buffer request m told means is =
    let r = c.args.ring.now in
    let same = some_same c.in_ok-second.field-0 c.in-Some.second (desc_in r m (second l)) c.in-Some.is (c.in_ok-second.ensures.follows (readable_piece buffer 16) (second l) (is ∙ means.first) means.second_fits m told) in
    let e = c.in_ok-third.ensures in
    let rest = tail_rest r m l.body l.status buffer request c.in-Some.second _ same means.body means.last means.status_fits e.ends (λ q next at fits. e.follows q next at fits m (c.next_of.ensures.only_loads.same_told ∙ told)) in
    pair_some r m l.body l.status c.in-Some.second c.in-Some-2.third same (sym c.in-Some-2.is ∙ rest)

pub returns-in_err-second-clause-exact : goal.returns-in_err-second-clause-exact
returns-in_err-second-clause-exact g c sizes m told is =
    let p = err_from_is_err_and c.from_residual.result c.from_residual.ensures.1 in
    rw (p.1, p.2) (after_link sizes c.args.ring.now m c.args.head 0 c.args.first.now (omega arith) tt is (c.in_err-second.ensures.next m told))

pub returns-in_default-clause-exact : goal.returns-in_default-clause-exact
returns-in_default-clause-exact g c sizes m told is =
    header_alone sizes c.args.ring.now m c.args.head c.args.first.now is (nothing_next c.args.ring.now m c.args.first.now _ c.in_default.not-Some (c.in_ok-second.ensures.next m told))

pub returns-in_err-third-clause-exact : goal.returns-in_err-third-clause-exact
returns-in_err-third-clause-exact g c sizes m told is =
    let r = c.args.ring.now in
    let p = err_from_is_err_and c.from_residual-in_err-third.result c.from_residual-in_err-third.ensures.1 in
    let at = reached r m c.args.head 0 c.args.first.now c.in-Some.second tt is (some_next r m c.args.first.now c.in-Some.second _ c.in-Some.is (c.in_ok-second.ensures.next m told)) in
    rw (p.1, p.2) (after_link sizes r m c.args.head 1 c.in-Some.second (omega arith) at.0 at.1 (c.in_err-third.ensures.next m (c.next_of.ensures.only_loads.same_told ∙ told)))

pub returns-in_default-2-clause-exact : goal.returns-in_default-2-clause-exact
returns-in_default-2-clause-exact g c sizes m told is =
    let r = c.args.ring.now in
    let at = reached r m c.args.head 0 c.args.first.now c.in-Some.second tt is (some_next r m c.args.first.now c.in-Some.second _ c.in-Some.is (c.in_ok-second.ensures.next m told)) in
    two_long r m c.args.head c.in-Some.second at (nothing_next r m c.in-Some.second _ c.in_default-2.not-Some (c.in_ok-third.ensures.next m (c.next_of.ensures.only_loads.same_told ∙ told)))

pub returns-then-third-ne0-clause-exact : goal.returns-then-third-ne0-clause-exact
returns-then-third-ne0-clause-exact g c sizes m told is =
    let r = c.args.ring.now in
    let at = reached r m c.args.head 0 c.args.first.now c.in-Some.second tt is (some_next r m c.args.first.now c.in-Some.second _ c.in-Some.is (c.in_ok-second.ensures.next m told)) in
    let third = reached r m c.args.head 1 c.in-Some.second c.in-Some-2.third at.0 at.1 (some_next r m c.in-Some.second c.in-Some-2.third _ c.in-Some-2.is (c.in_ok-third.ensures.next m (c.next_of.ensures.only_loads.same_told ∙ told))) in
    let goes : has_next c.in-Some-2.third ≡ true = grind (arith, nat_tests) in
    fourth sizes r m c.args.head c.in-Some-2.third third goes

pub returns-clause-exact : goal.returns-clause-exact
returns-clause-exact g c sizes m told is =
    let r = c.args.ring.now in
    let at = reached r m c.args.head 0 c.args.first.now c.in-Some.second tt is (some_next r m c.args.first.now c.in-Some.second _ c.in-Some.is (c.in_ok-second.ensures.next m told)) in
    let third = reached r m c.args.head 1 c.in-Some.second c.in-Some-2.third at.0 at.1 (some_next r m c.in-Some.second c.in-Some-2.third _ c.in-Some-2.is (c.in_ok-third.ensures.next m (c.next_of.ensures.only_loads.same_told ∙ told))) in
    let ends : has_next c.in-Some-2.third ≡ false = grind (arith, nat_tests) in
    three_long r m c.args.head c.in-Some.second c.in-Some-2.third at.1 third ends
