use Rattle.std.proofs.Common.{◌≡◌, true, rules, arith, refl}
use Rattle.vub_direct_chain.specs.ChainState.{has_next, failed_link, bad_link}
use Rattle.vub_direct_chain.proofs.chain.next_of.Goals as goal

pub returns-then-desc-ring-clause-next : goal.returns-then-desc-ring-clause-next
returns-then-desc-ring-clause-next g c m told =
    let goes : has_next c.args.desc.now ≡ true = search rules in
    bad_link goes refl (omega arith)

pub returns-in-Err-clause-next : goal.returns-in-Err-clause-next
returns-in-Err-clause-next g c m told = failed_link
