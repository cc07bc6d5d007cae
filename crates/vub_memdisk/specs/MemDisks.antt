-- What a `MemDisk` holds.
use Rattle.std.specs.Prelude.{ℕ, [], length, slice_index_or}
use Rattle.vub_disk.specs.Values.{Values}
use Rattle.vub_memdisk.specs.declared.mem_disk.MemDisk.{MemDisk}

-- the number of its sectors
abbrev pub capacity_of : MemDisk → ℕ
capacity_of d = length d.sectors.items

-- the value of each sector
abbrev pub values_of : MemDisk → Values
values_of d s = slice_index_or d.sectors.items s []

-- the value of each sector at the last flush, or at the opening before the first one
abbrev pub stable_of : MemDisk → Values
stable_of d s = slice_index_or d.stable.value.items s []
