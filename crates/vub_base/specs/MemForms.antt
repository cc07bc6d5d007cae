-- What the forms in memory are seen as.
use Rattle.std.specs.Prelude.{ℕ, ◌+◌, ◌-◌, ◌^◌, Bool, ◌==◌, if◌then◌else◌, List, [], ◌∷◌, ◌++◌, length, drop}
use Rattle.std.specs.List.{list_any}
use Rattle.std.proofs.Common.{min}
use Rattle.vub_base.specs.Bells.{BellState}

-- a source: what is left, the most it gives per call, the number of the next call, the numbers of
-- the calls that fail, and how many have failed
pub record SourceState : Type 0 where
  pub left : List ℕ
  pub piece : ℕ
  pub call : ℕ
  pub fails : List ℕ
  pub faults : ℕ

-- a sink: what it holds, how much it may hold, and its calls as in a source
pub record SinkState : Type 0 where
  pub held : List ℕ
  pub room : ℕ
  pub call : ℕ
  pub fails : List ℕ
  pub faults : ℕ

-- a bell: the queues rung, how many they may be, the queues attached, and its calls as in a source, where a ring of a
-- queue that isn't attached is no call
pub record MemBellState : Type 0 where
  pub rung : List ℕ
  pub room : ℕ
  pub attached : List ℕ
  pub call : ℕ
  pub fails : List ℕ
  pub faults : ℕ

-- a count after one more, which stands at the end of its type
abbrev pub next_count : ℕ → ℕ
next_count n = min (n + 1) (2 ^ 64 - 1)

-- how many bytes a read into so many gives
abbrev pub given : SourceState → ℕ → ℕ
given s room = min (min (length s.left) room) s.piece

abbrev pub failed_read : SourceState → SourceState
failed_read s = record s { call = next_count s.call; faults = next_count s.faults }

abbrev pub read_of : ℕ → SourceState → SourceState
read_of n s = record s { left = drop n s.left; call = next_count s.call }

abbrev pub failed_write : SinkState → SinkState
failed_write s = record s { call = next_count s.call; faults = next_count s.faults }

abbrev pub written : List ℕ → SinkState → SinkState
written piece s = record s { held = s.held ++ piece; call = next_count s.call }

abbrev pub is_attached : MemBellState → ℕ → Bool
is_attached s queue = list_any (λ q. q == queue) s.attached

abbrev pub told_of : MemBellState → BellState
told_of s = record { rung = s.rung; attached = is_attached s }

abbrev pub failed_call : MemBellState → MemBellState
failed_call s = record s { call = next_count s.call; faults = next_count s.faults }

abbrev pub counted_call : MemBellState → MemBellState
counted_call s = record s { call = next_count s.call }

-- an attach of a queue takes the place of an earlier one
abbrev pub attached_once : ℕ → MemBellState → MemBellState
attached_once queue s = record s { attached = if is_attached s queue then s.attached else s.attached ++ queue ∷ []; call = next_count s.call }

abbrev pub rung_on : ℕ → MemBellState → MemBellState
rung_on queue s = if is_attached s queue then record s { rung = s.rung ++ queue ∷ []; call = next_count s.call } else s
