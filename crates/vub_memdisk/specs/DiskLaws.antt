-- The laws of disks, at `MemDisk`.
use Rattle.std.specs.Prelude.{◌≡◌, ◌<◌, ℕ, List, [], Some, length, slice_index_or}
use Rattle.std.proofs.Common.{subst}
use Rattle.vub_disk.specs.Values.{Values}
use Rattle.vub_memdisk.specs.Sectors.{AreWhole}

-- a told value has 512 bytes
pub whole_values : (sectors : List (List ℕ)) → AreWhole sectors → (v : Values) → Some (λ (s : ℕ). slice_index_or sectors s []) ≡ Some v → (s : ℕ) → s < length sectors → length (v s) ≡ 512
whole_values sectors whole v told s below =
    let same : (λ (s : ℕ). slice_index_or sectors s []) ≡ v = cc in
    subst (λ (f : Values). length (f s) ≡ 512) same (whole s [] below)
