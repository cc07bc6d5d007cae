use Rattle.std.proofs.Common.{refl, ap, sym, ◌∙◌}
use Rattle.std.specs.Prelude.{option_map}
use Rattle.vub_guest.specs.GuestState.{ring_in, driver_in, waiting_in}
use Rattle.vub_guest.proofs.ChainLemmas.{waits_of}
use Rattle.vub_guest.proofs.GuestLemmas.{steps_stored, steps_offered}
use Rattle.vub_guest.proofs.guest.Guest.advance.Goals as goal

pub returns-in-Some-next_stage-clause-driver : goal.returns-in-Some-next_stage-clause-driver
returns-in-Some-next_stage-clause-driver c =
    let g = c.args.self.now in
    steps_stored (ring_in g) g.avail_idx c.in-Some.waiting c.in-Some-next_stage.stage (driver_in g) _ (ap (option_map (waiting_in (ring_in g) g.avail_idx)) c.in-Some.is) (sym c.next_stage.ensures ∙ c.in-Some-next_stage.is) refl

pub returns-clause-driver : goal.returns-clause-driver
returns-clause-driver c =
    let g = c.args.self.now in
    steps_offered (ring_in g) g.avail_idx c.in-Some.waiting (driver_in g) _ (ap (option_map (waiting_in (ring_in g) g.avail_idx)) c.in-Some.is) (sym c.next_stage.ensures ∙ c.in_default-next_stage.is) refl

pub invariant_of-self-in-Some-next_stage-clause-waits : goal.invariant_of-self-in-Some-next_stage-clause-waits
invariant_of-self-in-Some-next_stage-clause-waits c =
    let p = c.in-Some.waiting in
    waits_of c.args.self.now.owners.items (record p { stage = c.in-Some-next_stage.stage }) (c.args.self.now.waits p c.in-Some.is)
