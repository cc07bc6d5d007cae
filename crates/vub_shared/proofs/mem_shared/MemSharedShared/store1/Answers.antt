use Rattle.std.proofs.Common.{◌≡◌, ◌%◌, ◌∙◌, ap, sym, subst, List, ℕ, [], ◌∷◌, Some, arith}
use Rattle.vub_shared.specs.MemSpaces.{bytes_of}
use Rattle.vub_shared.specs.Stores.{Stores, one_store}
use Rattle.vub_shared.proofs.mem_shared.MemSharedShared.store1.Goals as goal

pub returns-clause-stores : goal.returns-clause-stores
returns-clause-stores c =
    let small : c.args.value % 256 ≡ c.args.value = omega (arith, c.ranges.value.fits) in
    let same = c.to_le_bytes.ensures ∙ ap (λ (b : ℕ). b ∷ []) (sym small) in
    subst (λ (bs : List ℕ). Stores (Some (bytes_of c.args.self.now)) (Some (bytes_of c.store.new.self)) c.store.result (one_store c.args.space.number c.args.place bs)) same c.store.ensures.stores
