use Rattle.std.proofs.Common.{◌≡◌, ℕ, ap, ◌∙◌, rules}
use Rattle.vub_shared.specs.declared.mem_shared.MemShared.{MemShared}
use Rattle.vub_shared.specs.MemSpaces.{sizes_of}
use Rattle.vub_shared.specs.Watched.{sizes_in}
use Rattle.vub_world.proofs.MachineLemmas.{guest_sound}
use Rattle.vub_world.proofs.driver_side.DriverSide.take_element.Goals.{After-collect}
use Rattle.vub_world.proofs.driver_side.DriverSide.take_element.Goals as goal

sizes_stay : (c : After-collect) → (s : ℕ) → sizes_in c.collect.new.mem s ≡ sizes_in c.args.memory.now s
sizes_stay c s = c.collect.ensures.only_loads.spaces.same_sizes s ∙ ap (λ (x : MemShared). sizes_of x s) c.restart.ensures.memory

pub returns-clause-sizes : goal.returns-clause-sizes
returns-clause-sizes c = sizes_stay c

pub returns-clause-sound : goal.returns-clause-sound
returns-clause-sound c = guest_sound c.args.memory.now c.collect.new.mem c.args.self.now c.collect.new.self (sizes_stay c) (search rules) c.collect.ensures.ring c.requires.sound
