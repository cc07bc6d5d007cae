use Rattle.std.proofs.Common.{◌≡◌, Some, length, ap, ◌∙◌, arith}
use Rattle.std.specs.Prelude.{slice_get}
use Rattle.vub_session.proofs.FindLemmas.{finds_after, found_more}
use Rattle.vub_session.proofs.lookup.find_all.Goals as goal

pub loop-at-preserved : goal.loop-at-preserved
loop-at-preserved g c =
    let m = g.M.Shared in
    let finds = c.in_ok-found.ensures.finds in
    let count : length c.loop-at.all.items ≡ c.loop-at.at = c.loop-at.invariant.0 in
    let at : slice_get c.args.names.now (length c.loop-at.all.items) ≡ Some c.at.result.now = ap (λ k. slice_get c.args.names.now k) count ∙ c.at.ensures in (
      omega (arith, c.push.ensures.len),
      finds_after m.told m.trail m.names m.handed m.sizes c.args.mem.now c.loop-at.mem c.find.new.mem c.loop-at.invariant.1 finds,
      c.in_ok-found.ensures.quiet ∙ c.loop-at.invariant.2,
      rw c.push.ensures.items (found_more (m.names c.args.mem.now) (m.names c.loop-at.mem) (m.handed c.loop-at.mem) (m.handed c.find.new.mem) (m.sizes c.loop-at.mem) (m.sizes c.find.new.mem)
          c.args.names.now c.loop-at.all.items c.at.result.now c.in_ok-found.found c.loop-at.invariant.1.same_names finds.keeps c.loop-at.invariant.3 at c.in_ok-found.ensures.found),
    )
