use Rattle.std.proofs.Common.{◌≡◌, ◌<◌, ◌+◌, ◌∙◌, ap, ℕ, length, get_or, arith, refl}
use Rattle.vub_shared.specs.Held.{space_bytes, image}
use Rattle.vub_shared.proofs.ImageLemmas.{loaded-image}
use Rattle.vub_shared.proofs.mem_shared.MemSharedShared.load.Goals as goal

pub returns-clause-loaded : goal.returns-clause-loaded
returns-clause-loaded c =
    let same : (i : ℕ) → i < length c.args.into.now → get_or c.read.new.into i 0 ≡ get_or (space_bytes c.args.self.now.spaces.items c.args.space.number) (c.args.place + i) 0 =
    λ i l. c.read.ensures i l ∙ ap (λ v. get_or (space_bytes v c.from.result) (c.args.place + i) 0) (c.deref.ensures.value ∙ ap (λ v. v.items) c.is_failing.ensures.spaces) ∙ ap (λ (s : ℕ). get_or (space_bytes c.args.self.now.spaces.items s) (c.args.place + i) 0) c.from.ensures in
    loaded-image c.args.self.now.spaces.items c.args.space.number c.args.place (length c.args.into.now) c.read.new.into c.read.auto.into same (λ i. omega (arith, c.type_inv.into i)) (image c.args.self.now.spaces.items) refl
