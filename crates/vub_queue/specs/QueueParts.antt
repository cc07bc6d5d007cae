-- Parts of the state of the device's side of one queue, and what always holds of them.
use Rattle.std.specs.Prelude.{ℕ, ◌+◌, ◌*◌, Bool, true, false, not, ◌&&◌, ◌||◌, ◌==◌, if◌then◌else◌, nat_lt, List, [], ◌∷◌, length, get_or, set, Option, Some, None}
use Rattle.vub_steps.specs.declared.steps.Phase.{Phase}
use Rattle.vub_steps.specs.declared.steps.Phase.TheVariants as phases
use Rattle.vub_steps.specs.Steps.{publish_steps}
use Rattle.vub_queue.specs.declared.queue.Completed.{Completed}

-- head and used length
abbrev pub element : Completed → ℕ × ℕ
element c = (c.head, c.len)

-- a head past the ring's size counts as taken
abbrev pub is_taken : List Bool → ℕ → Bool
is_taken taken head = get_or taken head true

-- how many heads are taken
abbrev pub taken_count : List Bool → ℕ
taken_count [] = 0
taken_count (true ∷ taken) = taken_count taken + 1
taken_count (false ∷ taken) = taken_count taken

-- whether the heads of these lie in a table of so many, and their lengths are 32-bit numbers
abbrev pub elements_fit : ℕ → List Completed → Bool
elements_fit size [] = true
elements_fit size (x ∷ xs) = nat_lt x.head size && (nat_lt x.len 4294967296 && elements_fit size xs)

-- the heads of these elements are free
abbrev pub without_heads : List (ℕ × ℕ) → List Bool → List Bool
without_heads [] taken = taken
without_heads (x ∷ xs) taken = without_heads xs (set taken x.0 false)

-- the heads of these are taken
abbrev pub with_heads : List ℕ → List Bool → List Bool
with_heads [] taken = taken
with_heads (head ∷ heads) taken = with_heads heads (set taken head true)

-- a queue that isn't started has taken no head
abbrev pub takes_none_before : Bool → List Bool → Bool
takes_none_before started taken = started || (taken_count taken == 0)

-- none is under way, or a fetch between its two steps, or a publication before its last step; none begins before the start
abbrev pub phase_fits : Phase → ℕ → Bool → Bool → Bool
phase_fits phases.Rest batch bell started = batch == 0
phase_fits (phases.Fetch done) batch bell started = (done == 1) && (batch == 0) && started
phase_fits (phases.Publish done) batch bell started = nat_lt done (length (publish_steps batch bell)) && started
phase_fits p batch bell started = false

-- a fetch keeps its head between its two steps, which lies in the table and is free; no other phase has one
abbrev pub head_fits : Phase → Option ℕ → ℕ → List Bool → Bool
head_fits (phases.Fetch done) (Some head) size taken = nat_lt head size && not (is_taken taken head)
head_fits (phases.Fetch done) None size taken = false
head_fits p (Some head) size taken = false
head_fits p None size taken = true

-- how many of the completed ones in a batch of so many are shown in the used ring, and so have free heads: all behind the store
-- of used.idx, which comes after the four steps of each element
abbrev pub shown_of : Phase → ℕ → ℕ
shown_of (phases.Publish done) batch = if nat_lt (4 * batch) done then batch else 0
shown_of p batch = 0
