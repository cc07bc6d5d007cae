-- What the code of a queue keeps agrees with the open heads and the words.
use Rattle.std.specs.Prelude.{◌≡◌, ◌<◌, ℕ, ◌+◌, ◌%◌, Bool, true, not, ◌==◌, ◌&&◌, ◌||◌, List, [], ◌∷◌, ◌++◌, length, take, drop, remove}
use Rattle.vub_device.specs.Past.{is_among}
use Rattle.vub_device.specs.Places.{are_distinct}
use Rattle.vub_steps.specs.declared.steps.Step.{Step}
use Rattle.vub_steps.specs.declared.steps.Step.TheVariants as steps
use Rattle.vub_facts.specs.Facts.{heads_in, without, Words}

-- the state of a queue, as far as the open heads are concerned
pub record State : Type 0 where
  -- head and used length of each request of a batch that isn't shown yet
  pub batch : List (ℕ × ℕ)
  -- the index of the avail entry that is fetched next
  pub avail : ℕ
  -- whether each head is accepted and not published
  pub taken : ℕ → Bool
  -- heads of the requests that aren't completed, in the order in which they were accepted
  pub unfinished : List ℕ
  -- head and used length of those that are completed and in no batch
  pub completed : List (ℕ × ℕ)

-- the heads that are in a batch or completed
abbrev pub busy : State → List ℕ
busy s = heads_in (s.batch ++ s.completed)

-- the heads that aren't completed are those that are open and not busy, in order, and what is busy is open
pub record Splits (heads busy unfinished : List ℕ) : Type 0 where
  pub once : are_distinct busy ≡ true
  pub opens : (h : ℕ) → is_among busy h ≡ true → is_among heads h ≡ true
  pub left : unfinished ≡ without busy heads

-- of a queue of n places
pub record Held (n : ℕ) (heads : List ℕ) (w : Words) (s : State) : Type 0 where
  -- no head is open twice
  pub distinct : are_distinct heads ≡ true
  pub below : (h : ℕ) → is_among heads h ≡ true → h < n
  pub avail : s.avail ≡ (w.ring.used + length heads) % 65536
  pub taken : (d : ℕ) → d < n → s.taken d ≡ is_among heads d
  pub splits : Splits heads (busy s) s.unfinished

-- ---- what changes

-- a step of a phase, where this head is fetched next
abbrev pub state_after : Step → ℕ → State → State
state_after steps.Accept head s = record s { avail = (s.avail + 1) % 65536; taken = λ d. (head == d) || s.taken d; unfinished = s.unfinished ++ head ∷ [] }
state_after steps.Index head s = record s { batch = []; taken = λ d. s.taken d && not (is_among (heads_in s.batch) d) }
state_after step head s = s

-- the begin of a publication, whose batch has the first completed requests, at most so many
abbrev pub publication_begun : ℕ → State → State
publication_begun most s = record s { batch = take most s.completed; completed = drop most s.completed }

-- the request in this place is completed with this used length
abbrev pub completed_at : ℕ → ℕ → ℕ → State → State
completed_at place head len s = record s { unfinished = remove s.unfinished place; completed = s.completed ++ (head, len) ∷ [] }
