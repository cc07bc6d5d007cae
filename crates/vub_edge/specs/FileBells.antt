-- What a `FileBell` holds.
use Rattle.std.specs.Prelude.{◌==◌, ℕ, List, Option, Some, None, slice_get, IfSome}
use Rattle.std.specs.List.{position}
use Rattle.std.specs.Io.KnownBytes.{Appends}
use Rattle.vub_edge.specs.declared.file_bell.Attached.{Attached}
use Rattle.vub_edge.specs.declared.file_bell.FileBell.{FileBell}

abbrev pub attached_of : {R F : Type 0} → FileBell R F → List (Attached F)
attached_of b = b.attached.items

abbrev pub faults_of : {R F : Type 0} → FileBell R F → ℕ
faults_of b = b.faults

-- the place of a queue among the attached ones
abbrev pub place_in : {F : Type 0} → List (Attached F) → ℕ → Option ℕ
place_in attached queue = position (λ a. a.queue == queue) attached

-- what the file at a place holds, where that is known
abbrev pub contents_by : {F : Type 0} → (F → Option (List ℕ)) → Option (Attached F) → Option (List ℕ)
contents_by contents None = None
contents_by contents (Some a) = contents a.file

-- the file that the queue is attached to grew by these bytes
abbrev pub Writes : {F : Type 0} → (F → Option (List ℕ)) → List (Attached F) → List (Attached F) → ℕ → List ℕ → Type 0
Writes contents before now queue bytes = IfSome (place_in before queue) (λ i. Appends (contents_by contents (slice_get before i)) (contents_by contents (slice_get now i)) bytes)
