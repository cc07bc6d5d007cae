use Rattle.std.proofs.Common.{◌≡◌, ℕ, List, length, subst, sym, ap, ◌∙◌, rules}
use Rattle.std.proofs.lemmas.List.{with_items_is, places}
use Rattle.std.specs.Prelude.{Option}
use Rattle.vub_driver.specs.Drivers.{without_owner}
use Rattle.vub_guest.specs.GuestState.{ring_in, owner_at}
use Rattle.vub_guest.proofs.ChainLemmas.{Waits, waits_still}
use Rattle.vub_guest.proofs.guest.Guest.take.Goals as goal

pub invariant_of-self-then-not-awaits-clause-waits : goal.invariant_of-self-then-not-awaits-clause-waits
invariant_of-self-then-not-awaits-clause-waits c =
    let g = c.args.self.now in
    let old : List (Option ℕ) = g.owners.items in
    let owners : (d : ℕ) → owner_at c.free.new.owners d ≡ without_owner c.args.head (owner_at old) d =
    subst (λ (xs : List (Option ℕ)). (d : ℕ) → owner_at c.free.new.owners d ≡ without_owner c.args.head (owner_at xs) d) c.deref_mut.ensures.value c.free.ensures.owners in
    subst (λ (xs : List (Option ℕ)). Waits xs g.waiting) (sym (with_items_is g.owners c.free.new.owners (search (rules, places))))
    (waits_still (ring_in g) g.avail_idx old c.free.new.owners c.args.head g.waiting (sym c.awaits.ensures ∙ c.if-not-awaits.true) (c.free.ensures.count ∙ ap length c.deref_mut.ensures.value) owners g.waits)

pub invariant_of-self-then-not-awaits-clause-owned : goal.invariant_of-self-then-not-awaits-clause-owned
invariant_of-self-then-not-awaits-clause-owned c =
    let g = c.args.self.now in
    ap length (with_items_is g.owners c.free.new.owners (search (rules, places))) ∙ c.free.ensures.count ∙ ap length c.deref_mut.ensures.value ∙ g.owned
