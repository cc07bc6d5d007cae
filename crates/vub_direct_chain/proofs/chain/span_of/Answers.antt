use Rattle.std.proofs.Common.{◌<◌, ◌+◌, inl, inr, ◌∙◌, sym, refl}
use Rattle.std.proofs.lemmas.Bool.{false≢true, cases_lt}
use Rattle.vub_direct_chain.specs.ChainState.{outside}
use Rattle.vub_direct_chain.proofs.chain.span_of.Goals as goal

pub returns-else-lies_in-clause-exact : goal.returns-else-lies_in-clause-exact
returns-else-lies_in-clause-exact g c =
    let d = c.args.desc.now in
    let size = g.M.Shared.sizes c.args.mem.now c.args.ring.now.desc.0.number in
    let past : size < d.addr + d.len = elim (cases_lt size (d.addr + d.len)) [
      | inl late ↦ late
      | inr inside ↦ absurd (false≢true (sym c.if-lies_in.false ∙ c.lies_in.ensures.lies inside))
    ] in
    outside refl past
