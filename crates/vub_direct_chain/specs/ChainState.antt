-- The chain of a request in the descriptor table, and what it means (VIRTIO 1.2, 2.7.5 and 5.2.6).
use Rattle.std.specs.Prelude.{◌≡◌, ◌<◌, ◌≤◌, ℕ, zero, suc, ◌+◌, ◌*◌, Bool, true, false, not, ◌==◌, ◌&&◌, bit_and, List, [], length, unwrap_or, Option, Some, None, option_map, Result, Ok, Err, ⊤, flat_map}
use Rattle.vub_shared.specs.Bytes.{Bytes, word, bytes_from}
use Rattle.vub_driver.specs.Layout.{area_place, buffer_place, status_place, parts_place, sectors_place}
use Rattle.vub_driver.specs.Requests.{Piece, readable_piece, writable_piece, write_flag, part_bytes}
use Rattle.vub_device.specs.declared.entry.Asked.{Asked}
use Rattle.vub_device.specs.declared.entry.Asked.TheVariants.{Read, Write, Flush, Id, Discard, Zero}
use Rattle.vub_driver.specs.GuestChain.{Links, second}
use Rattle.vub_driver.specs.GuestChain.{next_flag}
use Rattle.vub_split.specs.declared.split.SplitRing.{SplitRing}
use Rattle.vub_direct_chain.specs.declared.chain.Desc.{Desc}
use Rattle.vub_direct_chain.specs.declared.chain.Span.{Span}
use Rattle.vub_direct_chain.specs.declared.chain.Parts.{Parts}
use Rattle.vub_direct_chain.specs.declared.chain.Sectors.{Sectors}
use Rattle.vub_direct_chain.specs.declared.chain.Unread.{Unread}
use Rattle.vub_direct_chain.specs.declared.chain.Unread.TheVariants as unread
use Rattle.vub_base.specs.declared.ring_fault.RingFault.TheVariants as faults
use Rattle.vub_base.specs.declared.ring_fault.ChainFault.TheVariants as chains

-- ---- a request in its buffer

abbrev pub type_of : Asked → ℕ
type_of (Read s n) = 0
type_of (Write s bytes) = 1
type_of Flush = 4
type_of Id = 8
type_of (Discard parts) = 11
type_of (Zero parts) = 13

abbrev pub sector_of : Asked → ℕ
sector_of (Read s n) = s
sector_of (Write s bytes) = s
sector_of request = 0

-- what the driver hands over besides the header
abbrev pub handed_bytes : Asked → List ℕ
handed_bytes (Write s bytes) = bytes
handed_bytes (Discard parts) = flat_map part_bytes parts.items
handed_bytes (Zero parts) = flat_map part_bytes parts.items
handed_bytes request = []

-- where its data stands
abbrev pub data_start : ℕ → Asked → ℕ
data_start buffer (Discard parts) = parts_place buffer
data_start buffer (Zero parts) = parts_place buffer
data_start buffer request = sectors_place buffer

-- how long its data is: what is read, or what is handed over
abbrev pub data_len : Asked → ℕ
data_len (Read s n) = 512 * n
data_len Id = 20
data_len request = length (handed_bytes request)

-- whether the device writes the data
abbrev pub is_read : Asked → Bool
is_read (Read s n) = true
is_read Id = true
is_read request = false

-- the data of a request whose buffer begins there
abbrev pub data_of : ℕ → Asked → Piece
data_of buffer request = record { place = data_start buffer request; len = data_len request; writable = is_read request }

-- ---- the table

-- the descriptor at an index of the table: address, length, flags, next
abbrev pub desc_place : SplitRing → ℕ → ℕ
desc_place r index = r.desc.1 + 16 * index

abbrev pub desc_in : SplitRing → Bytes → ℕ → Desc
desc_in r m index = record {
  addr = word 8 m r.desc.0.number (desc_place r index);
  len = word 4 m r.desc.0.number (desc_place r index + 8);
  flags = word 2 m r.desc.0.number (desc_place r index + 12);
  next = word 2 m r.desc.0.number (desc_place r index + 14);
}

-- the descriptor of a piece, with the next one if another one follows
abbrev pub desc_of : Piece → Option ℕ → Desc
desc_of p next = record { addr = p.place; len = p.len; flags = write_flag p.writable + next_flag next; next = unwrap_or next 0 }

-- the descriptor of the data of a request, if it has any, with the next one
abbrev pub body_desc : ℕ → ℕ → Asked → Option Desc
body_desc buffer next Flush = None
body_desc buffer next request = Some (desc_of (data_of buffer request) (Some next))

-- memory m means a request, by the descriptors of its chain and its buffer: header, data if there is any, and status
-- are linked in the table, and the buffer holds its header and what is handed over. The buffer lies in the space
pub record MeansRequest (sizes : ℕ → ℕ) (r : SplitRing) (m : Bytes) (l : Links) (buffer : ℕ) (request : Asked) : Type 0 where
  pub first : desc_in r m l.head ≡ desc_of (readable_piece buffer 16) (Some (second l))
  pub body : option_map (desc_in r m) l.body ≡ body_desc buffer l.status request
  pub last : desc_in r m l.status ≡ desc_of (writable_piece (status_place buffer) 1) None
  pub second_fits : second l < r.size
  pub status_fits : l.status < r.size
  pub kind : word 4 m r.desc.0.number buffer ≡ type_of request
  pub sector : word 8 m r.desc.0.number (buffer + 8) ≡ sector_of request
  pub handed : bytes_from (length (handed_bytes request)) m r.desc.0.number (data_start buffer request) ≡ handed_bytes request
  pub room : buffer + (4096 + data_len request) ≤ sizes r.desc.0.number

-- the ring of queue q, of n places, in guest memory
pub record IsRingOf (q : ℕ) (sizes : ℕ → ℕ) (r : SplitRing) (n : ℕ) : Type 0 where
  pub space : r.desc.0.number ≡ 0
  pub table : r.desc.1 ≡ area_place q
  pub size : r.size ≡ n
  pub room : area_place q + 1048576 ≤ sizes 0

-- memory means a request under that head, by some chain in queue q
pub record Meant (q : ℕ) (sizes : ℕ → ℕ) (r : SplitRing) (m : Bytes) (head : ℕ) (o : Option Asked) : Type 0 where
  pub links : Links
  pub at_head : links.head ≡ head
  pub request : Asked
  pub is : o ≡ Some request
  pub means : MeansRequest sizes r m links (buffer_place (area_place q) head) request

-- ---- what the device finds

abbrev pub span_at : SplitRing → ℕ → ℕ → Span
span_at r place len = record { space = r.desc.0; place = place; len = len }

-- the data as the device finds it
abbrev pub sectors_of : SplitRing → ℕ → Asked → Option Sectors
sectors_of r buffer Flush = None
sectors_of r buffer request = Some (record { span = span_at r (data_start buffer request) (data_len request); writable = is_read request })

abbrev pub parts_of : SplitRing → ℕ → Asked → Parts
parts_of r buffer request = record { header = span_at r buffer 16; sectors = sectors_of r buffer request; status = span_at r (status_place buffer) 1 }

-- a value that was read from memory, which failed or else gave exactly this
abbrev pub Reads : {T : Type 0} → Result T Unread → T → Type 0
Reads (Ok x) y = x ≡ y
Reads (Err unread.Failed) y = ⊤
Reads (Err (unread.Broken fault)) y = ⊥

-- whether the memory failed in a read
abbrev pub read_outcome : {T : Type 0} → Result T Unread → Result (Unit {0}) (Unit {0})
read_outcome (Err unread.Failed) = Err tt
read_outcome r = Ok tt

-- ---- any chain, over any memory

-- whether a descriptor names a next one, whether the device may write its buffer, and whether that can take a status
abbrev pub has_next : Desc → Bool
has_next d = not (bit_and d.flags 1 == 0)

abbrev pub is_writable : Desc → Bool
is_writable d = not (bit_and d.flags 2 == 0)

abbrev pub takes_status : Desc → Bool
takes_status d = is_writable d && not (d.len == 0)

-- the buffer of a descriptor, and whether it lies in the space of the table
abbrev pub buffer_of : SplitRing → Desc → Span
buffer_of r d = span_at r d.addr d.len

abbrev pub Lies : (ℕ → ℕ) → SplitRing → Desc → Type 0
Lies sizes r d = d.addr + d.len ≤ sizes r.desc.0.number

-- the index of descriptor k of a chain: the head, and then what the one before it names
abbrev pub index_in : SplitRing → Bytes → ℕ → ℕ → ℕ
index_in r m head zero = head
index_in r m head (suc k) = (desc_in r m (index_in r m head k)).next

-- descriptor k of a chain, counted from 0
abbrev pub link_in : SplitRing → Bytes → ℕ → ℕ → Desc
link_in r m head k = desc_in r m (index_in r m head k)

-- each descriptor before number k names a next one, which is in the table
abbrev pub Reaches : SplitRing → Bytes → ℕ → ℕ → Type 0
Reaches r m head zero = ⊤
Reaches r m head (suc k) = Reaches r m head k × (has_next (link_in r m head k) ≡ true) × (index_in r m head (suc k) < r.size)

-- the chain of a head has its header, its sectors if there are three descriptors, and its status last (5.2.6)
pub record IsRequest (r : SplitRing) (m : Bytes) (head last : ℕ) : Type 0 where
  pub some : 1 ≤ last
  pub few : last ≤ 2
  pub reaches : Reaches r m head last
  pub ends : has_next (link_in r m head last) ≡ false

-- the descriptor of the sectors
abbrev pub middle_in : SplitRing → Bytes → ℕ → ℕ → Option Desc
middle_in r m head (suc (suc k)) = Some (link_in r m head 1)
middle_in r m head last = None

abbrev pub sectors_at : SplitRing → Desc → Sectors
sectors_at r d = record { span = buffer_of r d; writable = is_writable d }

-- the buffers of the descriptors before number k lie in the space
abbrev pub LieBelow : (ℕ → ℕ) → SplitRing → Bytes → ℕ → ℕ → Type 0
LieBelow sizes r m head zero = ⊤
LieBelow sizes r m head (suc k) = LieBelow sizes r m head k × Lies sizes r (link_in r m head k)

-- the parts of the request of a head
pub record HasParts (sizes : ℕ → ℕ) (r : SplitRing) (m : Bytes) (head : ℕ) (p : Parts) : Type 0 where
  pub last : ℕ
  pub is_request : IsRequest r m head last
  pub takes : takes_status (link_in r m head last) ≡ true
  pub lie : LieBelow sizes r m head (last + 1)
  pub header : p.header ≡ buffer_of r (link_in r m head 0)
  pub sectors : p.sectors ≡ option_map (sectors_at r) (middle_in r m head last)
  pub status : p.status ≡ buffer_of r (link_in r m head last)

-- the first rule that a chain breaks: of its links, then of its status, then of its buffers in their order; or the memory failed
pub data BreaksRule : (ℕ → ℕ) → SplitRing → Bytes → ℕ → Unread → Type 0 where
  failed : {sizes : ℕ → ℕ} {r : SplitRing} {m : Bytes} {head : ℕ} → BreaksRule sizes r m head unread.Failed
  -- a next one that isn't in the table
  bad_index : {sizes : ℕ → ℕ} {r : SplitRing} {m : Bytes} {head next : ℕ} → (k : ℕ) → k ≤ 1 → Reaches r m head k → has_next (link_in r m head k) ≡ true → next ≡ (link_in r m head k).next → r.size ≤ next
      → BreaksRule sizes r m head (unread.Broken (faults.Chain (chains.BadIndex next)))
  -- a fourth descriptor
  too_long : {sizes : ℕ → ℕ} {r : SplitRing} {m : Bytes} {head : ℕ} → Reaches r m head 2 → has_next (link_in r m head 2) ≡ true → BreaksRule sizes r m head (unread.Broken (faults.NoRoom head))
  -- a header alone
  alone : {sizes : ℕ → ℕ} {r : SplitRing} {m : Bytes} {head : ℕ} → has_next (link_in r m head 0) ≡ false → BreaksRule sizes r m head (unread.Broken (faults.NoStatus head))
  -- a last descriptor without a byte that the device may write
  no_status : {sizes : ℕ → ℕ} {r : SplitRing} {m : Bytes} {head : ℕ} → (last : ℕ) → IsRequest r m head last → takes_status (link_in r m head last) ≡ false → BreaksRule sizes r m head (unread.Broken (faults.NoStatus head))
  -- a buffer that doesn't lie in the space, at this address
  unmapped : {sizes : ℕ → ℕ} {r : SplitRing} {m : Bytes} {head addr : ℕ} → (last k : ℕ) → IsRequest r m head last → takes_status (link_in r m head last) ≡ true → k ≤ last → LieBelow sizes r m head k
      → addr ≡ (link_in r m head k).addr → sizes r.desc.0.number < addr + (link_in r m head k).len → BreaksRule sizes r m head (unread.Broken (faults.Chain (chains.Unmapped addr)))

-- what the chain of a head means: its parts, or the first rule that it breaks
abbrev pub Meaning : (ℕ → ℕ) → SplitRing → Bytes → ℕ → Result Parts Unread → Type 0
Meaning sizes r m head (Ok p) = HasParts sizes r m head p
Meaning sizes r m head (Err e) = BreaksRule sizes r m head e

-- ---- its parts, one by one

-- the descriptor after this one
pub data BreaksLink : SplitRing → Desc → Unread → Type 0 where
  failed_link : {r : SplitRing} {d : Desc} → BreaksLink r d unread.Failed
  bad_link : {r : SplitRing} {d : Desc} {next : ℕ} → has_next d ≡ true → next ≡ d.next → r.size ≤ next → BreaksLink r d (unread.Broken (faults.Chain (chains.BadIndex next)))

abbrev pub NextIn : SplitRing → Bytes → Desc → Result (Option Desc) Unread → Type 0
NextIn r m d (Ok None) = has_next d ≡ false
NextIn r m d (Ok (Some x)) = (has_next d ≡ true) × (d.next < r.size) × (x ≡ desc_in r m d.next)
NextIn r m d (Err e) = BreaksLink r d e

-- the descriptors after the head
pub record HasTail (r : SplitRing) (m : Bytes) (head : ℕ) (tail : Option Desc × Desc) : Type 0 where
  pub last : ℕ
  pub is_request : IsRequest r m head last
  pub middle : tail.0 ≡ middle_in r m head last
  pub is_last : tail.1 ≡ link_in r m head last

abbrev pub TailIn : (ℕ → ℕ) → SplitRing → Bytes → ℕ → Result (Option Desc × Desc) Unread → Type 0
TailIn sizes r m head (Ok tail) = HasTail r m head tail
TailIn sizes r m head (Err e) = BreaksRule sizes r m head e

-- a buffer that was found, or that doesn't lie in the space
pub data BreaksSpan : (ℕ → ℕ) → SplitRing → Desc → Unread → Type 0 where
  outside : {sizes : ℕ → ℕ} {r : SplitRing} {d : Desc} {addr : ℕ} → addr ≡ d.addr → sizes r.desc.0.number < addr + d.len → BreaksSpan sizes r d (unread.Broken (faults.Chain (chains.Unmapped addr)))

abbrev pub SpanIn : (ℕ → ℕ) → SplitRing → Desc → Result Span Unread → Type 0
SpanIn sizes r d (Ok span) = (span ≡ buffer_of r d) × Lies sizes r d
SpanIn sizes r d (Err e) = BreaksSpan sizes r d e

-- each part lies in its space, and the status has a byte
abbrev pub SpanLies : (ℕ → ℕ) → Span → Type 0
SpanLies sizes x = x.place + x.len ≤ sizes x.space.number

pub record PartsLie (sizes : ℕ → ℕ) (p : Parts) : Type 0 where
  pub header : SpanLies sizes p.header
  pub sectors : (x : Sectors) → p.sectors ≡ Some x → SpanLies sizes x.span
  pub status : SpanLies sizes p.status
  pub takes : 1 ≤ p.status.len
