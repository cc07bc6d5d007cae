use Rattle.std.proofs.Common.{◌≡◌, ◌∙◌, ℕ, sym, ap, arith, true, false, refl}
use Rattle.std.proofs.lemmas.Bool.Decides.{nat_tests}
use Rattle.std.proofs.lemmas.Result.{err_from_is_err_and}
use Rattle.vub_direct_chain.specs.declared.chain.Span.{Span}
use Rattle.vub_direct_chain.specs.declared.chain.Parts.{Parts}
use Rattle.vub_direct_chain.specs.ChainState.{desc_in, HasTail, takes_status, is_writable, link_in, failed}
use Rattle.vub_direct_chain.proofs.ChainReading.{reads_err, means_still, cause_at_err}
use Rattle.vub_direct_chain.proofs.ChainRules.{after_span, takes_none, some_middle, lies_still, FindsMiddle, no_middle, a_middle, found_below, has_parts}
use Rattle.vub_direct_chain.proofs.chain.read_chain.Goals.{then-last-eq0-via-then-last-eq0, then-last-eq0-via-else-last-eq0+then-last-eq0-2, in-None, in-Some+in_ok-span_of-in-Some}
use Rattle.vub_direct_chain.proofs.chain.read_chain.Goals as goal

pub returns-in_err-second-clause-read : goal.returns-in_err-second-clause-read
returns-in_err-second-clause-read g c l buffer request m told means is =
    let r = c.args.ring.now in
    let p = err_from_is_err_and c.from_residual.result c.from_residual.ensures.1 in
    let first = c.in-Ok.ensures.loaded m told ∙ ap (desc_in r m) (sym is) in
    let failed = c.in_err-second.ensures.tail l buffer request m (c.descriptor_at.ensures.only_loads.same_told ∙ told) (means_still _ _ r m l buffer request c.descriptor_at.ensures.only_loads.spaces.same_sizes means) first in
    rw (p.1, p.2) (reads_err c.in_err-second.field-0.0 _ _ failed)

pub returns-in_err-span_of-in-Some-clause-cause : goal.returns-in_err-span_of-in-Some-clause-cause
returns-in_err-span_of-in-Some-clause-cause g c =
    let p = err_from_is_err_and c.from_residual-in_err-span_of-in-Some.result c.from_residual-in_err-span_of-in-Some.ensures.1 in
    rw (p.1, p.2) (cause_at_err Span Parts c.in_err-span_of-in-Some.field-0.0 _ _ (c.in_ok-second.ensures.cause.quiet ∙ c.in-Ok.ensures.cause.quiet) c.in_err-span_of-in-Some.ensures.cause)

pub returns-in_err-header-clause-cause : goal.returns-in_err-header-clause-cause
returns-in_err-header-clause-cause g c =
    let p = err_from_is_err_and c.from_residual-in_err-header.result c.from_residual-in_err-header.ensures.1 in
    rw (p.1, p.2) (cause_at_err Span Parts c.in_err-header.field-0.0 _ _ (c.in_ok-second.ensures.cause.quiet ∙ c.in-Ok.ensures.cause.quiet) c.in_err-header.ensures.cause)

pub returns-in_err-status-clause-cause : goal.returns-in_err-status-clause-cause
returns-in_err-status-clause-cause g c =
    let p = err_from_is_err_and c.from_residual-in_err-status.result c.from_residual-in_err-status.ensures.1 in
    rw (p.1, p.2) (cause_at_err Span Parts c.in_err-status.field-0.0 _ _ (c.in_ok-second.ensures.cause.quiet ∙ c.in-Ok.ensures.cause.quiet) c.in_err-status.ensures.cause)

pub returns-in-Err-clause-means : goal.returns-in-Err-clause-means
returns-in-Err-clause-means g c m told = failed

pub returns-in_err-second-clause-means : goal.returns-in_err-second-clause-means
returns-in_err-second-clause-means g c m told =
    let p = err_from_is_err_and c.from_residual.result c.from_residual.ensures.1 in
    rw (p.1, p.2) (c.in_err-second.ensures.exact (g.M.Shared.sizes c.args.mem.now) m (c.descriptor_at.ensures.only_loads.same_told ∙ told) (c.in-Ok.ensures.loaded m told))

pub returns-then-last-eq0-clause-means : goal.returns-then-last-eq0-clause-means
returns-then-last-eq0-clause-means g c m told =
    let r = c.args.ring.now in
    let sizes = g.M.Shared.sizes c.args.mem.now in
    let here = g.M.Shared.sizes c.tail_of.new.mem in
    let same : (s : ℕ) → here s ≡ sizes s = λ s. c.tail_of.ensures.only_loads.spaces.same_sizes s ∙ c.descriptor_at.ensures.only_loads.spaces.same_sizes s in
    let first = c.in-Ok.ensures.loaded m told in
    let tail : HasTail r m c.args.head (c.in_ok-second.second, c.in_ok-second.last) = c.in_ok-second.ensures.exact sizes m (c.descriptor_at.ensures.only_loads.same_told ∙ told) first in
    let not : takes_status c.in_ok-second.last ≡ false = elim c.then-last-eq0.branch [
      | then-last-eq0-via-then-last-eq0 w ↦ (let e = w.if-last-eq0.true in grind (arith, nat_tests))
      | then-last-eq0-via-else-last-eq0+then-last-eq0-2 w ↦ (let e = w.if-last-eq0-2.true in let f = w.if-last-eq0.false in grind (arith, nat_tests))
    ] in
    takes_none sizes r m c.args.head c.in_ok-second.second c.in_ok-second.last tail not

pub returns-in_err-header-clause-means : goal.returns-in_err-header-clause-means
returns-in_err-header-clause-means g c m told =
    let r = c.args.ring.now in
    let sizes = g.M.Shared.sizes c.args.mem.now in
    let here = g.M.Shared.sizes c.tail_of.new.mem in
    let same : (s : ℕ) → here s ≡ sizes s = λ s. c.tail_of.ensures.only_loads.spaces.same_sizes s ∙ c.descriptor_at.ensures.only_loads.spaces.same_sizes s in
    let first = c.in-Ok.ensures.loaded m told in
    let tail : HasTail r m c.args.head (c.in_ok-second.second, c.in_ok-second.last) = c.in_ok-second.ensures.exact sizes m (c.descriptor_at.ensures.only_loads.same_told ∙ told) first in
    let takes : takes_status c.in_ok-second.last ≡ true = grind (arith, nat_tests) in
    let p = err_from_is_err_and c.from_residual-in_err-header.result c.from_residual-in_err-header.ensures.1 in
    let end : takes_status (link_in r m c.args.head tail.last) ≡ true = ap takes_status (sym tail.is_last) ∙ takes in
    rw (p.1, p.2) (after_span here sizes r m c.args.head tail.last 0 c.in-Ok.first same tail.is_request end (omega arith) tt first c.in_err-header.ensures.exact)

pub returns-in_err-span_of-in-Some-clause-means : goal.returns-in_err-span_of-in-Some-clause-means
returns-in_err-span_of-in-Some-clause-means g c m told =
    let r = c.args.ring.now in
    let sizes = g.M.Shared.sizes c.args.mem.now in
    let here = g.M.Shared.sizes c.tail_of.new.mem in
    let same : (s : ℕ) → here s ≡ sizes s = λ s. c.tail_of.ensures.only_loads.spaces.same_sizes s ∙ c.descriptor_at.ensures.only_loads.spaces.same_sizes s in
    let first = c.in-Ok.ensures.loaded m told in
    let tail : HasTail r m c.args.head (c.in_ok-second.second, c.in_ok-second.last) = c.in_ok-second.ensures.exact sizes m (c.descriptor_at.ensures.only_loads.same_told ∙ told) first in
    let takes : takes_status c.in_ok-second.last ≡ true = grind (arith, nat_tests) in
    let p = err_from_is_err_and c.from_residual-in_err-span_of-in-Some.result c.from_residual-in_err-span_of-in-Some.ensures.1 in
    let end : takes_status (link_in r m c.args.head tail.last) ≡ true = ap takes_status (sym tail.is_last) ∙ takes in
    let at = some_middle r m c.args.head tail.last c.in-Some.second (sym c.in-Some.is ∙ tail.middle) in
    let lies = lies_still here sizes r c.in-Ok.first (link_in r m c.args.head 0) same first c.in_ok-header.ensures.exact.1 in
    rw (p.1, p.2) (after_span here sizes r m c.args.head tail.last 1 c.in-Some.second same tail.is_request end (omega (arith, at.1)) (tt, lies) at.0 c.in_err-span_of-in-Some.ensures.exact)

pub returns-in_err-status-clause-means : goal.returns-in_err-status-clause-means
returns-in_err-status-clause-means g c m told =
    let r = c.args.ring.now in
    let sizes = g.M.Shared.sizes c.args.mem.now in
    let here = g.M.Shared.sizes c.tail_of.new.mem in
    let same : (s : ℕ) → here s ≡ sizes s = λ s. c.tail_of.ensures.only_loads.spaces.same_sizes s ∙ c.descriptor_at.ensures.only_loads.spaces.same_sizes s in
    let first = c.in-Ok.ensures.loaded m told in
    let tail : HasTail r m c.args.head (c.in_ok-second.second, c.in_ok-second.last) = c.in_ok-second.ensures.exact sizes m (c.descriptor_at.ensures.only_loads.same_told ∙ told) first in
    let takes : takes_status c.in_ok-second.last ≡ true = grind (arith, nat_tests) in
    let found : FindsMiddle sizes r c.in_ok-second.second c.match-second.sectors = elim c.match-second.branch [
      | in-None w ↦ no_middle sizes r _ _ w.in-None.is w.sectors-is
      | in-Some+in_ok-span_of-in-Some w ↦
          let writes : _ ≡ is_writable w.in-Some.second = refl in
          a_middle here sizes r _ _ w.in-Some.second _ _ same w.in-Some.is w.in_ok-span_of-in-Some.ensures.exact writes w.sectors-is
    ] in
    let p = err_from_is_err_and c.from_residual-in_err-status.result c.from_residual-in_err-status.ensures.1 in
    let end : takes_status (link_in r m c.args.head tail.last) ≡ true = ap takes_status (sym tail.is_last) ∙ takes in
    let below = found_below here sizes r m c.args.head c.in_ok-second.second c.in-Ok.first c.in_ok-second.last c.in_ok-header.header c.match-second.sectors same tail first c.in_ok-header.ensures.exact found in
    rw (p.1, p.2) (after_span here sizes r m c.args.head tail.last tail.last c.in_ok-second.last same tail.is_request end (omega arith) below tail.is_last c.in_err-status.ensures.exact)

pub returns-clause-means : goal.returns-clause-means
returns-clause-means g c m told =
    let r = c.args.ring.now in
    let sizes = g.M.Shared.sizes c.args.mem.now in
    let here = g.M.Shared.sizes c.tail_of.new.mem in
    let same : (s : ℕ) → here s ≡ sizes s = λ s. c.tail_of.ensures.only_loads.spaces.same_sizes s ∙ c.descriptor_at.ensures.only_loads.spaces.same_sizes s in
    let first = c.in-Ok.ensures.loaded m told in
    let tail : HasTail r m c.args.head (c.in_ok-second.second, c.in_ok-second.last) = c.in_ok-second.ensures.exact sizes m (c.descriptor_at.ensures.only_loads.same_told ∙ told) first in
    let takes : takes_status c.in_ok-second.last ≡ true = grind (arith, nat_tests) in
    let found : FindsMiddle sizes r c.in_ok-second.second c.match-second.sectors = elim c.match-second.branch [
      | in-None w ↦ no_middle sizes r _ _ w.in-None.is w.sectors-is
      | in-Some+in_ok-span_of-in-Some w ↦
          let writes : _ ≡ is_writable w.in-Some.second = refl in
          a_middle here sizes r _ _ w.in-Some.second _ _ same w.in-Some.is w.in_ok-span_of-in-Some.ensures.exact writes w.sectors-is
    ] in
    has_parts here sizes r m c.args.head c.in_ok-second.second c.in-Ok.first c.in_ok-second.last c.in_ok-header.header c.in_ok-status.status c.match-second.sectors same tail first takes c.in_ok-header.ensures.exact found c.in_ok-status.ensures.exact
