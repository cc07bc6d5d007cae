-- What a `FileShared` holds.
use Rattle.std.specs.Prelude.{ℕ, Bool, List, nat_lt, length}
use Rattle.vub_edge.specs.FileSpaces.{size_at}
use Rattle.vub_edge.specs.declared.file_space.FileSpace.{FileSpace}
use Rattle.vub_edge.specs.declared.file_shared.FileShared.{FileShared}

abbrev pub spaces_of : {R F : Type 0} → FileShared R F → List (FileSpace F)
spaces_of mem = mem.spaces.items

-- its spaces are numbered from 0
abbrev pub handed_of : {R F : Type 0} → FileShared R F → ℕ → Bool
handed_of mem s = nat_lt s (length (spaces_of mem))

abbrev pub sizes_of : {R F : Type 0} → FileShared R F → ℕ → ℕ
sizes_of mem = size_at (spaces_of mem)

abbrev pub faults_of : {R F : Type 0} → FileShared R F → ℕ
faults_of mem = mem.faults
