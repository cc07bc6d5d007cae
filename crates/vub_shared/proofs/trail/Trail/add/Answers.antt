use Rattle.std.proofs.Common.{◌≡◌, ◌+◌, ◌∙◌, ap, subst, sym, List, ℕ, [], ◌∷◌, ◌++◌, length, arith}
use Rattle.std.proofs.lemmas.Grind.{common_steps}
use Rattle.vub_shared.specs.Stores.{Store, one_store}
use Rattle.vub_shared.specs.Trails.{TrailState, kept_stores, with_store, IsKept}
use Rattle.vub_shared.specs.declared.kept.Kept.{Kept}
use Rattle.vub_shared.proofs.TrailLemmas.{kept-push, is_kept-push}
use Rattle.vub_shared.proofs.trail.Trail.add.Goals as goal

pub invariant_of-self : goal.invariant_of-self
invariant_of-self c =
    let k : Kept = record { space = c.args.space; place = c.args.place; start = c.len-start.result; end = c.len-start.result + length c.args.bytes.now } in
    let start : c.len-start.result ≡ length c.self.inside.bytes.items = grind (arith, common_steps) in
    let end : c.len-start.result + length c.args.bytes.now ≡ length c.self.inside.bytes.items + length c.args.bytes.now = ap (λ (n : ℕ). n + length c.args.bytes.now) start in
    let kept = is_kept-push c.self.inside.bytes.items c.args.bytes.now c.self.inside.kept.items k c.self.invariant.4 start end in
    let moved : IsKept c.append.new.all.items (c.self.inside.kept.items ++ k ∷ []) = subst (λ (bs : List ℕ). IsKept bs (c.self.inside.kept.items ++ k ∷ [])) (sym c.append.ensures.items) kept in (
      grind (arith, common_steps),
      grind (arith, common_steps),
      grind (arith, common_steps),
      grind (arith, common_steps),
      subst (λ ks. IsKept c.append.new.all.items ks) (sym c.append_kept.ensures.items) moved,
    )

pub returns : goal.returns
returns c =
    let k : Kept = record { space = c.args.space; place = c.args.place; start = c.len-start.result; end = c.len-start.result + length c.args.bytes.now } in
    let start : c.len-start.result ≡ length c.self.inside.bytes.items = grind (arith, common_steps) in
    let end : c.len-start.result + length c.args.bytes.now ≡ length c.self.inside.bytes.items + length c.args.bytes.now = ap (λ (n : ℕ). n + length c.args.bytes.now) start in
    let push = kept-push c.self.inside.bytes.items c.args.bytes.now c.self.inside.kept.items k c.self.invariant.4.within start end in
    let state_of : List Store → TrailState = λ sts. record { stores = sts; stores_room = c.self.inside.stores_room; bytes_room = c.self.inside.bytes_room } in
    ap (λ bs. state_of (kept_stores bs c.append_kept.new.all.items)) c.append.ensures.items ∙ ap (λ ks. state_of (kept_stores (c.self.inside.bytes.items ++ c.args.bytes.now) ks)) c.append_kept.ensures.items ∙ ap state_of push ∙ ap (λ t. with_store (one_store c.args.space.number c.args.place c.args.bytes.now) t) c.self.view_is
