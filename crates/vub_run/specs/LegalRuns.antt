-- The records of a run, and what is true of them.
use Rattle.std.specs.Prelude.{◌≡◌, ℕ, Bool, true, false, if◌then◌else◌, List, [], ◌∷◌, ◌++◌}
use Rattle.std.specs.List.{AllByRecursion}
use Rattle.vub_base.specs.declared.header.Header1.{Header1}
use Rattle.vub_device.specs.declared.entry.Entry.{Entry}
use Rattle.vub_device.specs.Legal.{Legal, after}
use Rattle.vub_device.specs.Past.{accepted, offers, open_numbers}
use Rattle.vub_schedule.specs.declared.types.Event.{Event}
use Rattle.vub_schedule.specs.declared.types.Event.TheVariants.{Boot, Join, Drain, Kill}
use Rattle.vub_report.specs.declared.items.Item.{Item}
use Rattle.vub_report.specs.declared.items.Item.TheVariants.{Idle}
use Rattle.vub_report.specs.declared.items.Record.{Record}
use Rattle.vub_report.specs.Entries.{IsEntry}
use Rattle.vub_report.specs.Histories.{history_of}
use Rattle.vub_run.specs.Lawful.{EveryStoreIsLawful}
use Rattle.vub_run.specs.Moments.{opening}
use Rattle.vub_run.specs.Run.{RunFrom}
use Rattle.vub_run.specs.Spared.{EveryAnswerIsSpared}
use Rattle.vub_run.specs.Tracking.{TracksAlways}

-- ---- the past of records, and what they say of attached queues

-- the history of these records, newest first
abbrev pub past_of : List Record → List Entry
past_of rs = after [] (history_of rs)

-- these items say that the event wasn't ready
abbrev pub is_idle : List Item → Bool
is_idle (Idle ∷ []) = true
is_idle is = false

-- Whether queue q is attached after an event with these items, by whether it was so before. A join that isn't idle
-- attaches each queue, with a boot that isn't idle a life begins in which none is yet, and after a kill there is no life.
abbrev pub attached_after : ℕ → Event → List Item → Bool → Bool
attached_after q Join is before = if is_idle is then before else true
attached_after q Boot is before = if is_idle is then before else false
attached_after q Kill is before = false
attached_after q e is before = before

-- and after records
abbrev pub attached_from : ℕ → Bool → List Record → Bool
attached_from q before [] = before
attached_from q before (r ∷ rs) = attached_from q (attached_after q r.event r.items before) rs

-- whether queue q is attached after these records, the first of a run
abbrev pub are_attached : ℕ → List Record → Bool
are_attached q rs = attached_from q false rs

-- ---- drains

-- no request of the queue is open, and every offer is accepted
pub record IsServed (q : ℕ) (rs : List Record) : Type 0 where
  pub none_open : open_numbers (past_of rs) q ≡ []
  pub all_accepted : accepted (past_of rs) q ≡ offers (past_of rs) q

-- each drain of an attached queue serves it, after the records up to and with that of the drain
abbrev pub EveryDrainServes : List Record → Type 0
EveryDrainServes rs = (before : List Record) (r : Record) (later : List Record) (q : ℕ)
    → rs ≡ before ++ r ∷ later → r.event ≡ Drain q → are_attached q before ≡ true → IsServed q (before ++ r ∷ [])

-- ---- runs

-- Under this header the records are a run of the events. Their history has none but entries that there are, and is
-- legal; every queue tracks it after each item, taken together with the entry that it makes; each store of a driver is
-- lawful where it is made, and each other one spares the answers that aren't collected.
pub record IsLegalRun (h : Header1) (es : List Event) (rs : List Record) : Type 0 where
  pub run : RunFrom h (opening h) es rs
  pub entries : AllByRecursion IsEntry (history_of rs)
  pub legal : Legal h.capacity h.mode (history_of rs)
  pub tracked : TracksAlways h rs
  pub lawful : EveryStoreIsLawful h rs
  pub spared : EveryAnswerIsSpared h rs
