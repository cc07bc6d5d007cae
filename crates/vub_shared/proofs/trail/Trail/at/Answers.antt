use Rattle.std.proofs.Common.{◌≡◌, ◌<◌, ◌∙◌, ap, sym, length, arith}
use Rattle.std.specs.Prelude.{Some, slice_get, slice_range}
use Rattle.std.proofs.lemmas.Grind.{common_steps}
use Rattle.vub_shared.specs.Stores.{one_store}
use Rattle.vub_shared.specs.Trails.{kept_stores}
use Rattle.vub_shared.proofs.TrailLemmas.{kept-at}
use Rattle.vub_shared.proofs.trail.Trail.at.Goals as goal

pub returns : goal.returns
returns c =
    let found = c.index-kept.result.now in
    let stores : kept_stores c.self.inside.bytes.items c.self.inside.kept.items ≡ c.args.self.now.stores = ap (λ t. t.stores) c.self.view_is in
    let in_range : c.args.index < length c.self.inside.kept.items = grind (arith, common_steps, c.self.invariant.4.count) in
    let at = kept-at c.self.inside.bytes.items c.self.inside.kept.items c.args.index found in_range in
    ap (λ sts. slice_get sts c.args.index) (sym stores) ∙ at ∙ ap (λ k. Some (one_store k.space.number k.place (slice_range c.self.inside.bytes.items k.start k.end))) (sym c.index-kept.ensures) ∙ ap (λ bs. Some (one_store found.space.number found.place (slice_range bs found.start found.end))) (sym c.deref.ensures.value)
