-- Records of lives that begin and end, in which events are ready and idle.
use Rattle.std.specs.Prelude.{List, [], ◌∷◌, ◌++◌}
use Rattle.vub_device.specs.declared.entry.Entry.TheVariants.{Kill}
use Rattle.vub_schedule.specs.declared.types.Event.TheVariants as events
use Rattle.vub_report.specs.declared.items.Item.TheVariants.{Made, Bell, Idle}
use Rattle.vub_report.specs.declared.items.Record.{Record}
use Rattle.vub_rows.specs.WriteAndRead.{of}

-- a join that isn't ready, before a life begins
abbrev pub joined_early : List Record
joined_early = of events.Join (Idle ∷ []) ∷ of events.Boot [] ∷ []

-- a join with an item, which isn't idle
abbrev pub joined : List Record
joined = of events.Boot [] ∷ of events.Join (Bell 0 ∷ []) ∷ []

-- and a join and a boot that aren't ready any more
abbrev pub joined_twice : List Record
joined_twice = joined ++ of events.Join (Idle ∷ []) ∷ of events.Boot (Idle ∷ []) ∷ []

abbrev pub killed : List Record
killed = joined_twice ++ of events.Kill (Made Kill ∷ []) ∷ []

-- a next life that has no queue yet
abbrev pub booted_again : List Record
booted_again = killed ++ of events.Boot [] ∷ []
