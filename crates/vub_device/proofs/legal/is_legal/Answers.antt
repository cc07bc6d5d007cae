use Rattle.vub_device.proofs.Histories.{allowed_in, legal_next}
use Rattle.vub_device.proofs.legal.is_legal.Goals as goal

pub returns-then-not-is_allowed : goal.returns-then-not-is_allowed
returns-then-not-is_allowed c = (λ no. cc, λ is. let found = c.is_allowed.ensures.1 (allowed_in c.args.capacity c.args.mode c.args.history.now c.loop-index.index c.index-history-index.result c.loop-index-test.true c.index-history-index.is is) in cc)

pub loop-index-preserved : goal.loop-index-preserved
loop-index-preserved c = legal_next c.args.capacity c.args.mode c.args.history.now c.loop-index.index c.index-history-index.result c.loop-index-test.true c.index-history-index.is c.loop-index.invariant (c.is_allowed.ensures.0 (cc))
