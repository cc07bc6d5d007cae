use Rattle.std.proofs.Common.{◌≡◌, ℕ, List, length, subst, sym, ap, ◌∙◌, rules}
use Rattle.std.proofs.lemmas.List.{with_items_is, places}
use Rattle.std.specs.Prelude.{Option, Some}
use Rattle.vub_driver.specs.Drivers.{owned_by}
use Rattle.vub_driver.specs.GuestChain.{descriptors, IsOwned}
use Rattle.vub_guest.specs.declared.guest.WaitingRequest.{WaitingRequest}
use Rattle.vub_guest.specs.declared.guest.Stage.TheVariants.{Header}
use Rattle.vub_guest.specs.GuestStores.{links_of}
use Rattle.vub_guest.specs.GuestState.{ring_in, driver_in, owner_at, Chooses}
use Rattle.vub_guest.proofs.ChainLemmas.{Waits, owned_after, waits_of}
use Rattle.vub_guest.proofs.GuestLemmas.{asked}
use Rattle.vub_guest.proofs.guest.Guest.queue_request.Goals as goal

pub returns-clause-driver : goal.returns-clause-driver
returns-clause-driver c =
    let g = c.args.self.now in
    let chain = c.in-Some.chain in
    let old : List (Option ℕ) = g.owners.items in
    let chooses : Chooses old c.args.ask.now (Some chain) = subst (λ (xs : List (Option ℕ)). Chooses xs c.args.ask.now (Some chain)) c.deref.ensures.value c.in-Some.ensures in
    let owners : (d : ℕ) → owner_at c.own.new.owners d ≡ owned_by chain.head (descriptors (links_of chain)) (owner_at old) d =
    subst (λ (xs : List (Option ℕ)). (d : ℕ) → owner_at c.own.new.owners d ≡ owned_by chain.head (descriptors (links_of chain)) (owner_at xs) d) c.deref_mut.ensures.value c.own.ensures.owners in
    rw (with_items_is g.owners c.own.new.owners (search (rules, places)))
    (asked (ring_in g) g.avail_idx old c.own.new.owners c.args.ask.now c.copied.result chain (driver_in g).waiting c.copied.ensures chooses g.owned owners)

pub invariant_of-self-clause-waits : goal.invariant_of-self-clause-waits
invariant_of-self-clause-waits c =
    let g = c.args.self.now in
    let chain = c.in-Some.chain in
    let old : List (Option ℕ) = g.owners.items in
    let chooses : Chooses old c.args.ask.now (Some chain) = subst (λ (xs : List (Option ℕ)). Chooses xs c.args.ask.now (Some chain)) c.deref.ensures.value c.in-Some.ensures in
    let owners : (d : ℕ) → owner_at c.own.new.owners d ≡ owned_by chain.head (descriptors (links_of chain)) (owner_at old) d =
    subst (λ (xs : List (Option ℕ)). (d : ℕ) → owner_at c.own.new.owners d ≡ owned_by chain.head (descriptors (links_of chain)) (owner_at xs) d) c.deref_mut.ensures.value c.own.ensures.owners in
    let p : WaitingRequest = record { ask = c.copied.result; chain = chain; stage = Header } in
    let owned : IsOwned c.own.new.owners (links_of chain) = owned_after old c.own.new.owners chain.head chain.body chain.status chooses.3 (c.own.ensures.count ∙ ap length c.deref_mut.ensures.value) owners in
    subst (λ (xs : List (Option ℕ)). Waits xs (Some p)) (sym (with_items_is g.owners c.own.new.owners (search (rules, places)))) (waits_of c.own.new.owners p owned)

pub invariant_of-self-clause-owned : goal.invariant_of-self-clause-owned
invariant_of-self-clause-owned c =
    let g = c.args.self.now in
    ap length (with_items_is g.owners c.own.new.owners (search (rules, places))) ∙ c.own.ensures.count ∙ ap length c.deref_mut.ensures.value ∙ g.owned
