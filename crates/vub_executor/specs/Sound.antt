-- What holds of the parts of an executor.
use Rattle.std.specs.Prelude.{◌≡◌, ◌≤◌, ◌+◌, length}
use Rattle.std.specs.VecDeque.{deque_capacity}
use Rattle.slab.specs.Slab.{slab_len}
use Rattle.vub_executor.specs.declared.executor.Executor.TheInside.{Inside}
use Rattle.vub_executor.specs.Keys.{keys_in}
use Rattle.vub_executor.specs.Lists.{Lists, StandOnce}
use Rattle.vub_executor.specs.Executors.{IsRising}

module _ {T : Type 0} where
  abbrev pub lists_in : Inside T → Lists T
  lists_in e = record { unfinished = e.unfinished.items; finished = keys_in e.finished; slots = e.items.slots; room = e.room }

  pub record IsSound (e : Inside T) : Type 0 where
    pub held : StandOnce (lists_in e)
    pub counted : slab_len e.items ≡ length e.unfinished.items + e.finished.len
    pub few : length e.unfinished.items + e.finished.len ≤ e.room
    pub rising : IsRising e.unfinished.items
    pub slots : e.room ≤ e.items.capacity
    pub places : e.room ≤ deque_capacity e.unfinished
    pub keys : e.finished.room ≡ e.room
