-- The config space, by its fields (VIRTIO 1.2, 5.2.4).
use Rattle.std.specs.Prelude.{◌≡◌, ℕ, List, [], ◌∷◌, replicate}
use Rattle.vub_base.specs.Fields.{field, with_field}
use Rattle.vub_base.specs.declared.standard.TheConstants.{SECTOR_SIZE}
use Rattle.vub_blkreq.specs.declared.config.DeviceConfig.{DeviceConfig}
use Rattle.vub_blkreq.specs.declared.config.TheConstants.{CONFIG_SIZE, MAX_PARTS, MAX_PART_SECTORS}

-- a number in so many bytes from a place on
pub record ConfigField : Type 0 where
  pub at : ℕ
  pub width : ℕ
  pub value : ℕ

abbrev pub config_field : ℕ → ℕ → ℕ → ConfigField
config_field at width value = record { at = at; width = width; value = value }

abbrev pub capacity : ℕ → ConfigField
capacity sectors = config_field 0 8 sectors

abbrev pub seg_max : ConfigField
seg_max = config_field 12 4 126

abbrev pub blk_size : ConfigField
blk_size = config_field 20 4 SECTOR_SIZE

abbrev pub writeback : ConfigField
writeback = config_field 32 1 1

abbrev pub num_queues : ℕ → ConfigField
num_queues queues = config_field 34 2 queues

abbrev pub max_discard_sectors : ConfigField
max_discard_sectors = config_field 36 4 MAX_PART_SECTORS

abbrev pub max_discard_seg : ConfigField
max_discard_seg = config_field 40 4 MAX_PARTS

abbrev pub discard_sector_alignment : ConfigField
discard_sector_alignment = config_field 44 4 1

abbrev pub max_write_zeroes_sectors : ConfigField
max_write_zeroes_sectors = config_field 48 4 MAX_PART_SECTORS

abbrev pub max_write_zeroes_seg : ConfigField
max_write_zeroes_seg = config_field 52 4 MAX_PARTS

abbrev pub write_zeroes_may_unmap : ConfigField
write_zeroes_may_unmap = config_field 56 1 0

abbrev pub config_fields : DeviceConfig → List ConfigField
config_fields c =
    capacity c.capacity
    ∷ seg_max
    ∷ blk_size
    ∷ writeback
    ∷ num_queues c.queues
    ∷ max_discard_sectors
    ∷ max_discard_seg
    ∷ discard_sector_alignment
    ∷ max_write_zeroes_sectors
    ∷ max_write_zeroes_seg
    ∷ write_zeroes_may_unmap
    ∷ []

-- the bytes, in which these fields then stand
abbrev pub with_fields : List ConfigField → List ℕ → List ℕ
with_fields [] bytes = bytes
with_fields (f ∷ fields) bytes = with_fields fields (with_field f.width f.at f.value bytes)

-- the fields, and zero in all other bytes
abbrev pub config_bytes : DeviceConfig → List ℕ
config_bytes c = with_fields (config_fields c) (replicate CONFIG_SIZE 0)

-- the field reads as its value
abbrev pub Holds : List ℕ → ConfigField → Type 0
Holds bytes f = field f.width f.at bytes ≡ f.value
