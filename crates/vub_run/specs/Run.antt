-- What it means that records are a run of a schedule.
use Rattle.std.specs.Prelude.{◌≡◌, ◌⊎◌, ℕ, zero, suc, ◌+◌, ◌-◌, Bool, true, false, not, ◌&&◌, if◌then◌else◌, List, [], ◌∷◌, ◌++◌, slice_index, Option, Some, None, is_some, ⊤}
use Rattle.vub_base.specs.declared.header.Header1.{Header1}
use Rattle.vub_base.specs.declared.request.Shape.{Shape}
use Rattle.vub_base.specs.declared.request.Ask.{Ask}
use Rattle.vub_base.specs.declared.store.Tag.TheVariants.{G}
use Rattle.vub_base.specs.declared.store.Area.TheVariants.{M}
use Rattle.vub_shared.specs.Stores.{Store}
use Rattle.vub_steps.specs.declared.readiness.Turn.{Turn}
use Rattle.vub_ring.specs.Ring.{seen}
use Rattle.vub_steps.specs.declared.readiness.Turn.TheVariants.{Start, Fetch, Work, Publish}
use Rattle.vub_steps.specs.Readiness.{is_ready, any_turn, drain_turn}
use Rattle.vub_driver.specs.Layout.{ring_of}
use Rattle.vub_driver.specs.Drivers.{Driver, Waiting, can_take, after_ask, after_stores, after_collect}
use Rattle.vub_device.specs.declared.entry.Entry.TheVariants as entries
use Rattle.vub_device.specs.Past.{accepted, published, collected}
use Rattle.std.specs.List.{AllByRecursion}
use Rattle.vub_schedule.specs.Spelling.{IsHeader, IsEvent}
use Rattle.vub_schedule.specs.declared.types.Event.{Event}
use Rattle.vub_schedule.specs.declared.types.Event.TheVariants as events
use Rattle.vub_schedule.specs.declared.types.Schedule.{Schedule}
use Rattle.vub_report.specs.declared.items.Item.{Item}
use Rattle.vub_report.specs.declared.items.Item.TheVariants as items
use Rattle.vub_report.specs.declared.items.Record.{Record}
use Rattle.vub_device.specs.Requests.{request_of}
use Rattle.vub_run.specs.Memory.{with_at, after_items}
use Rattle.vub_run.specs.Moments.{Lane, Moment, opening, fresh, attached, standing}
use Rattle.vub_run.specs.Turns.{turned}

-- items, and where they lead
pub record Played : Type 0 where
  pub items : List Item
  pub next : Moment

abbrev pub played : List Item → Moment → Played
played is m = record { items = is; next = m }

-- an event that isn't ready changes nothing
abbrev pub if_ready : Bool → Played → Moment → Played
if_ready ready p m = if ready then p else played (items.Idle ∷ []) m

abbrev pub with_lane : ℕ → Lane → Moment → Moment
with_lane q l m = record m { lanes = with_at m.lanes q l }

-- these items come about, and that lane is then the one of the queue
abbrev pub comes_about : Header1 → ℕ → List Item → Lane → Moment → Played
comes_about h q is l m = played is (with_lane q l (record m { scene = after_items h is m.scene }))

-- ---- the driver

abbrev pub with_driver : Driver → Lane → Lane
with_driver v l = record l { driver = v }

-- a ready ask has no items
abbrev pub ask : Header1 → ℕ → Shape → Ask → Moment → Played
ask h q shape a m =
    if_ready (can_take h.size shape a (m.lanes q).driver)
    (played [] (with_lane q (with_driver (after_ask (ring_of q h.size) a (m.lanes q).driver) (m.lanes q)) m))
    m

-- the stores, and after the last one that the request has the offer
abbrev pub guest_items : ℕ → ℕ → Ask → List Store → List Item
guest_items zero q a stores = []
guest_items (suc count) q a [] = []
guest_items (suc count) q a (st ∷ []) = items.Store G M st.place st.bytes ∷ items.Made (entries.Offer q (request_of a)) ∷ []
guest_items (suc count) q a (st ∷ st' ∷ stores) = items.Store G M st.place st.bytes ∷ guest_items count q a (st' ∷ stores)

-- the next so many stores of the request that waits, or all that are left
abbrev pub guest_stores : Header1 → ℕ → ℕ → Option Waiting → Moment → Played
guest_stores h q count None m = played [] m
guest_stores h q count (Some w) m = comes_about h q (guest_items count q w.ask w.left) (with_driver (after_stores count w (m.lanes q).driver) (m.lanes q)) m

abbrev pub guest : Header1 → ℕ → ℕ → Moment → Played
guest h q count m = if_ready (is_some (m.lanes q).driver.waiting) (guest_stores h q count (m.lanes q).driver.waiting m) m

-- the number that is collected next
abbrev pub next_collected : ℕ → Moment → ℕ
next_collected q m = slice_index (published m.scene.past q) (collected m.scene.past q)

-- the driver takes the first element that it sees
abbrev pub take_first : Header1 → ℕ → List (ℕ × ℕ) → Moment → Played
take_first h q [] m = played (items.Idle ∷ []) m
take_first h q (x ∷ xs) m = comes_about h q (items.Made (entries.Collect q (next_collected q m)) ∷ []) (with_driver (after_collect x.0 (m.lanes q).driver) (m.lanes q)) m

abbrev pub collect : Header1 → ℕ → Moment → Played
collect h q m = take_first h q (seen (ring_of q h.size) m.scene.memory (h.base + collected m.scene.past q)) m

-- ---- lives

-- a life begins, and has no queue
abbrev pub boot : Moment → Played
boot m = if_ready (not m.lives) (played [] (record m { lives = true; joined = false; lanes = λ q. fresh (m.lanes q) })) m

-- every queue is attached, and nothing is said
abbrev pub join : Moment → Played
join m = if_ready (m.lives && not m.joined) (played [] (record m { joined = true; lanes = λ q. attached (m.lanes q) })) m

-- there is no life: nothing is under way on any queue, and memory and history stand
abbrev pub ended : Moment → Moment
ended m = record m { lives = false; joined = false; lanes = λ q. fresh (m.lanes q) }

-- a life ends, whatever is under way
abbrev pub kill : Header1 → Moment → Played
kill h m = if_ready m.lives (played (items.Made entries.Kill ∷ []) (ended (record m { scene = after_items h (items.Made entries.Kill ∷ []) m.scene }))) m

-- ---- turns

abbrev pub one_turn : Header1 → ℕ → Turn → Moment → Played
one_turn h q t m = comes_about h q (turned h q t m).items (turned h q t m).lane m

-- a turn on an attached queue is ready
abbrev pub is_due : Header1 → ℕ → Turn → Moment → Bool
is_due h q t m = (m.lanes q).attached && is_ready (standing h q m) t

-- one after another
abbrev pub then_played : Played → Played → Played
then_played p p' = played (p.items ++ p'.items) p'.next

-- up to so many turns, each the one that is chosen where it is made, as long as they are ready
abbrev pub turns : ℕ → (Moment → Turn) → Header1 → ℕ → Moment → Played
turns zero choose h q m = played [] m
turns (suc count) choose h q m =
    if is_due h q (choose m) m
    then then_played (one_turn h q (choose m) m) (turns count choose h q (one_turn h q (choose m) m).next)
    else played [] m

-- a single turn
abbrev pub single : Header1 → ℕ → Turn → Moment → Played
single h q t m = if_ready (is_due h q t m) (one_turn h q t m) m

-- up to so many turns, if the first is ready
abbrev pub up_to : ℕ → (Moment → Turn) → Header1 → ℕ → Moment → Played
up_to count choose h q m = if_ready (is_due h q (choose m) m) (turns count choose h q m) m

-- the first that is ready of start, the phase under way, fetch, work on the oldest request and publication of all
abbrev pub any_choice : Header1 → ℕ → Moment → Turn
any_choice h q m = any_turn h.size (standing h q m)

-- the next turn of a drain that began when so many requests were accepted
abbrev pub drain_choice : Header1 → ℕ → ℕ → Moment → Turn
drain_choice h q before m = drain_turn h.size (accepted m.scene.past q - before) (standing h q m)

-- turns, as many as it takes until the next one isn't ready
pub record IsDrained (h : Header1) (q : ℕ) (m : Moment) (choose : Moment → Turn) (is : List Item) (next : Moment) : Type 0 where
  pub count : ℕ
  pub made : played is next ≡ turns count choose h q m
  pub ends : is_due h q (choose next) next ≡ false

-- a drain of which no turn is ready is idle
abbrev pub Drains : Header1 → ℕ → Moment → (Moment → Turn) → List Item → Moment → Type 0
Drains h q m choose is next =
    ((is_due h q (choose m) m ≡ false) × (played is next ≡ played (items.Idle ∷ []) m))
    ⊎ ((is_due h q (choose m) m ≡ true) × IsDrained h q m choose is next)

-- ---- runs

-- an event at a moment has these items, and leads to that moment
abbrev pub Plays : Header1 → Moment → Event → List Item → Moment → Type 0
Plays h m (events.Ask q shape a) is next = played is next ≡ ask h q shape a m
Plays h m (events.Guest q count) is next = played is next ≡ guest h q count m
Plays h m (events.Collect q) is next = played is next ≡ collect h q m
Plays h m events.Boot is next = played is next ≡ boot m
Plays h m events.Join is next = played is next ≡ join m
Plays h m (events.Start q) is next = played is next ≡ single h q Start m
Plays h m (events.Fetch q) is next = played is next ≡ single h q Fetch m
Plays h m (events.Work q place) is next = played is next ≡ single h q (Work place) m
Plays h m (events.Publish q most) is next = played is next ≡ single h q (Publish most) m
Plays h m (events.Turn q count) is next = played is next ≡ up_to count (any_choice h q) h q m
Plays h m (events.Drain q) is next = Drains h q m (drain_choice h q (accepted m.scene.past q)) is next
Plays h m events.Kill is next = played is next ≡ kill h m

-- the records' events are these in order, and each has the items that it has where the ones before lead
abbrev pub RunFrom : Header1 → Moment → List Event → List Record → Type 0
RunFrom h m [] [] = ⊤
RunFrom h m [] (r ∷ rs) = ⊥
RunFrom h m (e ∷ es) [] = ⊥
RunFrom h m (e ∷ es) (r ∷ rs) = (r.event ≡ e) × ((next : Moment) × Plays h m e r.items next × RunFrom h next es rs)

-- the records are a run of the schedule
abbrev pub Run : Schedule → List Record → Type 0
Run s records = RunFrom s.header (opening s.header) s.events records

-- the records are a run of these events from one moment to another
abbrev pub RunTo : Header1 → Moment → List Event → List Record → Moment → Type 0
RunTo h m [] [] n = n ≡ m
RunTo h m [] (r ∷ rs) n = ⊥
RunTo h m (e ∷ es) [] n = ⊥
RunTo h m (e ∷ es) (r ∷ rs) n = (r.event ≡ e) × ((next : Moment) × Plays h m e r.items next × RunTo h next es rs n)

-- the events are of the grammar, and the records are a run of them from the opening to that moment
pub record Stands (h : Header1) (es : List Event) (rs : List Record) (n : Moment) : Type 0 where
  pub header : IsHeader h
  pub events : AllByRecursion (IsEvent h) es
  pub run : RunTo h (opening h) es rs n
