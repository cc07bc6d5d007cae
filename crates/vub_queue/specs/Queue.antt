-- The device's side of one queue.
use Rattle.vub_split.specs.declared.split.SplitRing.{SplitRing}
use Rattle.vub_queue.specs.declared.queue.Queue.{Queue}

-- where its ring lies
abbrev pub ring_in : Queue → SplitRing
ring_in q = q.ring
