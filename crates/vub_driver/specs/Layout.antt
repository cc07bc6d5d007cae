-- Where things lie in guest memory. Queue q has the area of 1 MiB from q MiB on: its descriptor table, avail ring and
-- used ring, and a buffer of 8 KiB for each descriptor, which belongs to the request with that head.
use Rattle.std.specs.Prelude.{ℕ, ◌+◌, ◌*◌}
use Rattle.vub_ring.specs.Ring.{Ring}

-- the numbers of the spaces: guest memory, and the region of requests in flight
abbrev pub guest_space : ℕ
guest_space = 0

abbrev pub inflight_space : ℕ
inflight_space = 1

abbrev pub area_place : ℕ → ℕ
area_place q = 1048576 * q

-- the ring of a queue with so many places
abbrev pub ring_of : ℕ → ℕ → Ring
ring_of q size = record { desc_space = guest_space; desc = area_place q; avail_space = guest_space; avail = area_place q + 4096; used_space = guest_space; used = area_place q + 8192; size = size }

-- the buffer of a head in the area that begins at `area`
abbrev pub buffer_place : ℕ → ℕ → ℕ
buffer_place area head = area + (65536 + 8192 * head)

abbrev pub buffer_bytes : ℕ
buffer_bytes = 8192

-- the header of 16 bytes stands at the start of a buffer

-- the status byte of a buffer
abbrev pub status_place : ℕ → ℕ
status_place buffer = buffer + 16

-- the parts of a discard or a zeroing
abbrev pub parts_place : ℕ → ℕ
parts_place buffer = buffer + 32

-- the sectors of a read or a write, and the name that an id request reads
abbrev pub sectors_place : ℕ → ℕ
sectors_place buffer = buffer + 4096
