use Rattle.std.proofs.Common.{◌≤◌, ◌<◌, ap, sym, subst, length, ◌*◌, arith}
use Rattle.vub_shared.specs.Stores.{Store, one_store}
use Rattle.vub_shared.specs.Trails.{TrailState, total_of}
use Rattle.vub_shared.proofs.TrailLemmas.{short-push}
use Rattle.vub_shared.proofs.watched_shared.WatchedShared.store.Goals as goal

pub invariant_of-self-2-clause-within : goal.invariant_of-self-2-clause-within
invariant_of-self-2-clause-within c = λ s.
    omega (arith, c.args.self.now.within s, c.store_run.ensures.spaces.sizes s, ap (λ (t : TrailState). t.bytes_room) c.add.ensures)

pub invariant_of-self-2-clause-short : goal.invariant_of-self-2-clause-short
invariant_of-self-2-clause-short c =
    let w = c.args.self.now in
    let st : Store = one_store c.args.space.number c.args.place c.args.bytes.now in
    let small : 2 * length c.args.bytes.now ≤ w.trail.bytes_room = omega (arith, w.within c.args.space.number, c.requires) in
    subst (λ (t : TrailState). length t.stores < 2 → 2 * total_of t.stores ≤ t.bytes_room) (sym c.add.ensures) (short-push w.trail.stores st w.trail.bytes_room small)
