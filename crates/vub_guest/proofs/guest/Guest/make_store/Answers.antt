use Rattle.std.proofs.Common.{◌≡◌, sym, subst}
use Rattle.vub_shared.specs.Frames.{MakesStore}
use Rattle.vub_shared.specs.Stores.{Store}
use Rattle.vub_shared.proofs.FrameLemmas.{makes_same}
use Rattle.vub_guest.specs.declared.guest.Stage.{Stage}
use Rattle.vub_guest.specs.declared.guest.Stage.TheVariants.{Header}
use Rattle.vub_guest.specs.GuestState.{waiting_store}
use Rattle.vub_guest.proofs.guest.Guest.make_store.Goals as goal

pub returns-in-Header-clause-makes_store : goal.returns-in-Header-clause-makes_store
returns-in-Header-clause-makes_store g c =
    let store : (Stage → Store) = waiting_store c.args.self.now c.args.waiting.now in
    let same : c.place_of-place.result ≡ (store Header).place = subst (λ (s : Stage). c.place_of-place.result ≡ (store s).place) c.in-Header.is c.place_of-place.ensures in
    subst (λ (s : Stage). MakesStore g.M.Shared.told g.M.Shared.trail g.M.Shared.names g.M.Shared.handed g.M.Shared.sizes c.args.mem.now c.store_run.new.self c.store_run.result (store s)) (sym c.in-Header.is)
    (makes_same _ _ _ _ _ _ _ _ _ _ _ _ _ same c.header.ensures c.store_run.ensures.makes_store)
