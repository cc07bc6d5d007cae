-- The features that the device offers, by their bits (VIRTIO 1.2, 5.2.3 and 6; vhost-user, "Protocol features").
use Rattle.std.specs.Prelude.{ℕ, ◌+◌, ◌^◌, Bool, if◌then◌else◌, List, [], ◌∷◌}
use Rattle.vub_base.specs.declared.standard.TheConstants.{VIRTIO_BLK_F_SEG_MAX, VIRTIO_BLK_F_RO, VIRTIO_BLK_F_BLK_SIZE, VIRTIO_BLK_F_FLUSH, VIRTIO_BLK_F_MQ, VIRTIO_BLK_F_DISCARD, VIRTIO_BLK_F_WRITE_ZEROES, VIRTIO_F_INDIRECT_DESC, VIRTIO_F_VERSION_1, VIRTIO_F_RING_PACKED}
use Rattle.vub_blkreq.specs.declared.features.TheConstants.{VHOST_USER_F_PROTOCOL_FEATURES, VHOST_USER_PROTOCOL_F_MQ, VHOST_USER_PROTOCOL_F_REPLY_ACK, VHOST_USER_PROTOCOL_F_CONFIG, VHOST_USER_PROTOCOL_F_INFLIGHT_SHMFD}

-- the number with exactly these bits, each named once
abbrev pub with_bits : List ℕ → ℕ
with_bits [] = 0
with_bits (bit ∷ bits) = 2 ^ bit + with_bits bits

-- what a device offers that may be written
abbrev pub offered_bits : List ℕ
offered_bits =
    VIRTIO_BLK_F_SEG_MAX
    ∷ VIRTIO_BLK_F_BLK_SIZE
    ∷ VIRTIO_BLK_F_FLUSH
    ∷ VIRTIO_BLK_F_MQ
    ∷ VIRTIO_BLK_F_DISCARD
    ∷ VIRTIO_BLK_F_WRITE_ZEROES
    ∷ VIRTIO_F_INDIRECT_DESC
    ∷ VHOST_USER_F_PROTOCOL_FEATURES
    ∷ VIRTIO_F_VERSION_1
    ∷ VIRTIO_F_RING_PACKED
    ∷ []

-- and a read-only one
abbrev pub offered : Bool → ℕ
offered read_only = with_bits (if read_only then VIRTIO_BLK_F_RO ∷ offered_bits else offered_bits)

abbrev pub offered_protocol : ℕ
offered_protocol = with_bits (VHOST_USER_PROTOCOL_F_MQ ∷ VHOST_USER_PROTOCOL_F_REPLY_ACK ∷ VHOST_USER_PROTOCOL_F_CONFIG ∷ VHOST_USER_PROTOCOL_F_INFLIGHT_SHMFD ∷ [])
