use Rattle.std.proofs.Common.{◌≡◌, ◌∙◌, ◌+◌, ◌<◌, suc, ap, drop, length, refl, sym, rules, arith}
use Rattle.std.specs.Prelude.{Some, slice_get, string_bytes, map, option_map}
use Rattle.std.proofs.lemmas.Option.{slice_get-map, slice_get_read}
use Rattle.vub_session.proofs.NameLemmas.{drop_next, first_left}
use Rattle.vub_session.proofs.names.Names.take.Goals as goal

pub returns : goal.returns
returns c =
    let n = c.self.inside.next in
    let list = c.self.inside.list.items in
    let all = map string_bytes list in
    let next : n + 1 ≡ suc n = omega arith in
    let below : n < length list = search rules in
    let read : slice_get list n ≡ Some c.index.result.now = slice_get_read list (length list) n c.index.result.now refl below c.index.ensures in
    let first : slice_get all n ≡ Some c.as_str.result.now = slice_get-map string_bytes list n ∙ (ap (option_map string_bytes) read ∙ ap (λ x. Some x) (sym c.as_str.ensures.value)) in (
      (refl, (λ w. tt), ap (λ k. drop k all) next ∙ (drop_next n all ∙ ap (λ xs. drop 1 xs) c.self.view_is)),
      record { none = tt; first = ap (λ xs. slice_get xs 0) (sym c.self.view_is) ∙ (first_left n all ∙ first); rest = tt },
    )
