-- What the turns of the device leave in the machine, and which items they note.
use Rattle.std.specs.Prelude.{◌≡◌, ◌≤◌, ◌⊎◌, ℕ, ◌+◌, ◌-◌, Bool, true, false, List, [], ◌∷◌, ◌++◌}
use Rattle.vub_base.specs.declared.header.Header1.{Header1}
use Rattle.vub_shared.specs.Watched.{bytes_in, stores_in}
use Rattle.vub_steps.specs.declared.readiness.Turn.{Turn}
use Rattle.vub_memdisk.specs.MemDisks.{values_of}
use Rattle.vub_device.specs.Past.{accepted, open_numbers}
use Rattle.vub_schedule.specs.declared.types.Event.{Event}
use Rattle.vub_world.specs.declared.device.Sequence.{Sequence}
use Rattle.vub_report.specs.declared.items.Item.{Item}
use Rattle.vub_report.specs.declared.items.Item.TheVariants as items
use Rattle.vub_report.specs.declared.items.Record.{Record}
use Rattle.vub_room.specs.Rooms.{RoomState}
use Rattle.vub_world.specs.declared.machine.Machine.{Machine}
use Rattle.vub_world.specs.declared.outstanding.OutstandingRequests.{OutstandingRequests}
use Rattle.vub_world.specs.OutstandingRequests.{offered_in, collected_in}
use Rattle.vub_world.specs.DriverSides.{Parts}
use Rattle.vub_queue.specs.declared.queue.Stepped.{Stepped}
use Rattle.vub_queue.specs.declared.queue.Stepped.TheVariants as says
use Rattle.vub_world.specs.Sequences.{choices_from, most_turns}
use Rattle.vub_run.specs.Moments.{Moment}
use Rattle.vub_queue.specs.QueueState.{is_idle}
use Rattle.vub_run.specs.Run.{Stands, played, single, turns, one_turn, is_due}
use Rattle.vub_world.specs.MachineAt.{MachineAt, PartsAt}
use Rattle.vub_world.specs.MachineDevice.{noted, IsMade, StoreFits, SectorFits, HeadFits, accepts, answers_shown, numbers_in, started_in}

-- a turn that was due
pub record MachineTurns (q : ℕ) (t : Turn) (w now : Parts) (m : Moment) (x : Stepped) : Type 0 where
  pub goes : is_idle x ≡ false
  pub made : IsMade x
  pub at : PartsAt q now (one_turn w.side.header q t m).next
  pub items_are : (one_turn w.side.header q t m).items ≡ noted q now.side.outstanding (values_of now.disk) (stores_in now.memory) (answers_shown q w.side.outstanding (bytes_in w.memory) w.life) (numbers_in now.side.outstanding now.life) x
  pub store : StoreFits x (stores_in now.memory)
  pub sector : SectorFits w.side.header.capacity x
  pub head : HeadFits w.side.header.size x
  pub taken : accepts x + accepted m.scene.past q ≡ accepted (one_turn w.side.header q t m).next.scene.past q
  pub starts : x ≡ says.Started → (started_in w.life ≡ false) × (numbers_in now.side.outstanding now.life ≡ open_numbers m.scene.past q)

-- a turn of the machine
abbrev pub TurnGoes : ℕ → Turn → Parts → Parts → Moment → Stepped → Type 0
TurnGoes q t w now m x =
    (is_due w.side.header q t m ≡ true → MachineTurns q t w now m x)
    × (is_due w.side.header q t m ≡ false → (x ≡ says.Idle) × PartsAt q now m)

-- a step: the turn was due and was made, and its items were noted, or it wasn't due; and how many requests were
-- accepted before and after it
abbrev pub StepGoes : ℕ → Bool → Turn → Parts → Parts → Moment → List Item → List Item → ℕ → ℕ → Type 0
StepGoes q false t w now m before after taken taken_after = (is_due w.side.header q t m ≡ false) × PartsAt q now m × (after ≡ before)
StepGoes q true t w now m before after taken taken_after =
    (is_due w.side.header q t m ≡ true) × PartsAt q now (one_turn w.side.header q t m).next × (after ≡ before ++ (one_turn w.side.header q t m).items)
    × (taken_after + accepted m.scene.past q ≡ taken + accepted (one_turn w.side.header q t m).next.scene.past q)

-- the most turns of a queue of n places that belong to no one request: those of its start, or, once it is started, those of a
-- publication behind used.idx
abbrev pub turns_besides : ℕ → ℕ
turns_besides n = n + 7

-- so many turns were made, and no more are due than are asked for; There tells what stands where they lead
pub record TurnsMade (q : ℕ) (h : Header1) (choose : Moment → Turn) (most : ℕ) (There : Moment → Type 0) (m : Moment) (before after : List Item) : Type 0 where
  pub count : ℕ
  pub few : count ≤ most
  pub small : count ≤ 2000
  pub at : There (turns count choose h q m).next
  pub items_are : after ≡ before ++ (turns count choose h q m).items
  pub ends : (count ≡ most) ⊎ (is_due h q (choose (turns count choose h q m).next) (turns count choose h q m).next ≡ false)

-- turns were made, at most so many; made tells whether the first was due
abbrev pub TurnsGo : ℕ → Header1 → Bool → Sequence → ℕ → (Moment → Type 0) → Moment → List Item → List Item → Type 0
TurnsGo q h false sequence most There m before after = (is_due h q (choices_from q h sequence m m) m ≡ false) × There m × (after ≡ before)
TurnsGo q h true sequence most There m before after = (is_due h q (choices_from q h sequence m m) m ≡ true) × TurnsMade q h (choices_from q h sequence m) most There m before after

-- until a queue is started there is room for the numbers of all its outstanding requests
abbrev pub HasStartRoom : Bool → OutstandingRequests → RoomState → Type 0
HasStartRoom started outstanding r = started ≡ false → offered_in outstanding - collected_in outstanding ≤ r.numbers

-- ---- events

-- wherever the machine stood, the single turn has these items, and leads to where the machine stands now
abbrev pub PlaysSingle : ℕ → Machine → Machine → Turn → List Item → Type 0
PlaysSingle q w now turn is = (es : List Event) (rs : List Record) (m : Moment) → Stands w.header es rs m → MachineAt w m → (next : Moment) × (played is next ≡ single w.header q turn m) × MachineAt now next

-- the event of at most so many turns, at a moment; it is idle where the first isn't due
abbrev pub TurnsEvent : ℕ → Header1 → Sequence → ℕ → (Moment → Type 0) → Moment → List Item → Type 0
TurnsEvent q h sequence most There m is =
    ((is_due h q (choices_from q h sequence m m) m ≡ false) × There m × (is ≡ items.Idle ∷ []))
    ⊎ ((is_due h q (choices_from q h sequence m m) m ≡ true) × TurnsMade q h (choices_from q h sequence m) most There m [] is)

-- wherever the machine stood, the event of turns has these items, and leads to where the machine stands now
abbrev pub PlaysTurns : ℕ → Machine → Machine → Sequence → List Item → Type 0
PlaysTurns q w now sequence is = (es : List Event) (rs : List Record) (m : Moment) → Stands w.header es rs m → MachineAt w m → TurnsEvent q w.header sequence (most_turns sequence) (MachineAt now) m is
