use Rattle.std.proofs.Common.{refl, []}
use Rattle.vub_run.specs.Moments.{opening}
use Rattle.vub_run_laws.proofs.RunsTo.{stands_none}
use Rattle.vub_world.proofs.MachineBackend.{stands_for}
use Rattle.vub_world.proofs.MachineOpening.{opens, opening_sound, none_offered}
use Rattle.vub_world.proofs.machine.Machine.new.Goals as goal

pub returns-clause-sound : goal.returns-clause-sound
returns-clause-sound c = opening_sound _ c.requires c.in_ok-memory.ensures.size c.in_ok-memory.ensures.inflight_size c.in_ok-memory.ensures.unfailed c.in_ok-new_sides.ensures refl c.in_ok-new.ensures.capacity

pub returns-clause-stands : goal.returns-clause-stands
returns-clause-stands c = stands_for _ [] [] (opening c.args.header.now) (returns-clause-sound c) (stands_none c.args.header.now c.requires) (opens _ c.requires c.in_ok-memory.ensures.bytes c.in_ok-new_sides.ensures refl c.in_ok-new.ensures.zero)

pub returns-clause-offers : goal.returns-clause-offers
returns-clause-offers c = none_offered c.args.header.now _ c.in_ok-new_sides.ensures.each
