use Rattle.std.proofs.Common.{length, refl, arith}
use Rattle.vub_pieces.proofs.GatherLemmas.{gathers_past, gathers_within, gathers_over}
use Rattle.vub_pieces.proofs.pieces.+gather.Goals as goal

pub returns-then-len-skip-clause-gathers : goal.returns-then-len-skip-clause-gathers
returns-then-len-skip-clause-gathers g t c =
    gathers_past c.gather.result (g.M.Shared.told c.args.mem.now) c.gather.new.into c.args.spans.now _ c.args.skip c.len_of-len.result (length c.args.into.now)
    (omega (arith, c.in-len1-up.len_at_least)) c.len_of-len.ensures.is (omega (arith, c.if-len-skip.true)) c.gather.ensures.gathers

pub returns-then-into-left-clause-gathers : goal.returns-then-into-left-clause-gathers
returns-then-into-left-clause-gathers g t c =
    gathers_within c.load.result (g.M.Shared.told c.args.mem.now) c.load.new.into c.args.spans.now _ c.args.skip c.len_of-len.result (length c.args.into.now)
    (omega (arith, c.in-len1-up.len_at_least)) c.len_of-len.ensures.is (omega (arith, c.if-len-skip.false)) (omega (arith, c.if-into-left.true)) c.load.ensures.loaded

pub returns-in_ok-load-in-len1-up-clause-gathers : goal.returns-in_ok-load-in-len1-up-clause-gathers
returns-in_ok-load-in-len1-up-clause-gathers g t c =
    gathers_over _ (g.M.Shared.told c.args.mem.now) (g.M.Shared.told c.load-in-len1-up.new.self) c.load-in-len1-up.new.into c.gather-in-len1-up.new.into c.args.spans.now _ c.args.skip c.len_of-len.result _ (length c.args.into.now) _ (length c.split_at_mut-front.result.1.now)
    (omega (arith, c.in-len1-up.len_at_least)) c.len_of-len.ensures.is (omega (arith, c.if-len-skip.false)) refl (omega (arith, c.if-into-left.false)) c.split_at_mut-front.ensures.front_len (omega (arith, c.split_at_mut-front.ensures.back_len)) c.load-in-len1-up.ensures.only_loads.same_told
    c.in_ok-load-in-len1-up.ensures.loaded c.gather-in-len1-up.ensures.gathers
