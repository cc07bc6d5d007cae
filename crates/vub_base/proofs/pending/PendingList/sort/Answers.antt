use Rattle.std.proofs.Common.{rules, ◌≡◌, ◌∙◌, ap}
use Rattle.std.proofs.lemmas.Fn.{always_returns_same}
use Rattle.vub_base.specs.declared.pending.Pending.{Pending}
use Rattle.vub_base.specs.Pending.{sorted}
use Rattle.vub_base.proofs.PendingLemmas.{sorted_from_order}
use Rattle.vub_base.proofs.pending.PendingList.sort.Goals as goal

pub returns : goal.returns
returns c =
    let done = c.sort_unstable_by_key.ensures in
    let up = done.sorted (λ (p : Pending). (p.counter, p.head, p.num)) (always_returns_same _ (λ a r. r ≡ (a.0.now.counter, a.0.now.head, a.0.now.num)) _ (λ a r q k. search rules)) in
    let items = sorted_from_order _ _ done.permutation up in
    λ i. record { items = (items ∙ ap (λ s. sorted s.items) c.self.view_is) i; room = (c.self.view_is i).room }
