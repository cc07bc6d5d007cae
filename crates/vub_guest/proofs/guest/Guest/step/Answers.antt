use Rattle.std.proofs.Common.{refl, ap}
use Rattle.std.specs.Prelude.{option_map}
use Rattle.std.specs.Prelude.{Ok, Err}
use Rattle.vub_guest.specs.declared.guest.GuestStep.TheVariants.{Failed}
use Rattle.vub_guest.specs.GuestState.{ring_in, waiting_in}
use Rattle.vub_guest.proofs.ChainLemmas.{own_next}
use Rattle.vub_guest.proofs.GuestLemmas.{stores_made, trails_made}
use Rattle.vub_guest.proofs.guest.Guest.step.Goals as goal

pub returns-in-Ok-clause-stores : goal.returns-in-Ok-clause-stores
returns-in-Ok-clause-stores g c =
    let old = c.args.self.now in
    stores_made _ _ (ring_in old) old.avail_idx c.in-Some.waiting old.waiting c.advance.result (Ok tt) c.in-Some.is c.advance.ensures.outcome c.in-Ok.ensures.makes_store.stored

pub returns-in-Ok-clause-trails : goal.returns-in-Ok-clause-trails
returns-in-Ok-clause-trails g c =
    let old = c.args.self.now in
    trails_made _ _ (ring_in old) old.avail_idx c.in-Some.waiting old.waiting c.advance.result (Ok tt) c.in-Some.is c.advance.ensures.outcome c.in-Ok.ensures.makes_store.trailed

pub returns-in-Err-clause-stores : goal.returns-in-Err-clause-stores
returns-in-Err-clause-stores g c =
    let old = c.args.self.now in
    stores_made _ _ (ring_in old) old.avail_idx c.in-Some.waiting old.waiting Failed (Err tt) c.in-Some.is refl c.in-Err.ensures.makes_store.stored

pub returns-in-Err-clause-trails : goal.returns-in-Err-clause-trails
returns-in-Err-clause-trails g c =
    let old = c.args.self.now in
    trails_made _ _ (ring_in old) old.avail_idx c.in-Some.waiting old.waiting Failed (Err tt) c.in-Some.is refl c.in-Err.ensures.makes_store.trailed

pub returns-in-Err-clause-driver : goal.returns-in-Err-clause-driver
returns-in-Err-clause-driver g c =
    let old = c.args.self.now in
    (waiting_in (ring_in old) old.avail_idx c.in-Some.waiting, ap (option_map (waiting_in (ring_in old) old.avail_idx)) c.in-Some.is, refl)

pub returns-in-Ok-clause-own : goal.returns-in-Ok-clause-own
returns-in-Ok-clause-own g c =
    let old = c.args.self.now in
    own_next (ring_in old) old.avail_idx c.in-Some.waiting old.waiting old.owners.items c.in-Some.is old.owned old.waits c.make_store.ensures.small

pub returns-in-Err-clause-own : goal.returns-in-Err-clause-own
returns-in-Err-clause-own g c =
    let old = c.args.self.now in
    own_next (ring_in old) old.avail_idx c.in-Some.waiting old.waiting old.owners.items c.in-Some.is old.owned old.waits c.make_store.ensures.small
