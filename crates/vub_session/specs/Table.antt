-- The message table: what each message of the front end does to a session, what it answers and what it refuses
-- (QEMU's "Vhost-user Protocol").
use Rattle.std.specs.Int.RustNames.{bit_and}
use Rattle.std.specs.Prelude.{◌≡◌, ℕ, ◌+◌, ◌*◌, ◌/◌, ◌%◌, ◌==◌, ◌&&◌, ◌||◌, Bool, true, false, not, nat_lt, nat_le, is_some, if◌then◌else◌, List, [], ◌∷◌, length, slice_range, Option, Some, None, option_map, unwrap_or}
use Rattle.std.specs.Option.{option_or}
use Rattle.vub_blkreq.specs.Config.{config_bytes}
use Rattle.vub_blkreq.specs.Features.{offered, offered_protocol}
use Rattle.vub_blkreq.specs.declared.config.TheConstants.{CONFIG_SIZE}
use Rattle.vub_memtable.specs.Tables.{fault_of}
use Rattle.vub_memtable.specs.declared.region.Mapped.{Mapped}
use Rattle.vub_memtable.specs.declared.region.Region.{Region}
use Rattle.vub_session.specs.Ready.{attach, bad_ring}
use Rattle.vub_session.specs.State.{IsAttached, has_reply_ack, is_packed, is_running, ring_at, ring_of, with_ring}
use Rattle.vub_session.specs.declared.finding.Found.{Found}
use Rattle.vub_session.specs.declared.handled.Handled.{Handled}
use Rattle.vub_session.specs.declared.handled.Handled.TheVariants.{Silent, Ack, Drain}
use Rattle.vub_session.specs.declared.handled.Handled.TheVariants as handled
use Rattle.vub_session.specs.declared.handled.Refusal.{Refusal}
use Rattle.vub_session.specs.declared.handled.Refusal.TheVariants as refusals
use Rattle.vub_session.specs.declared.handled.Row.{Row}
use Rattle.vub_session.specs.declared.state.Addresses.{Addresses}
use Rattle.vub_session.specs.declared.state.KeptRegion.{KeptRegion}
use Rattle.vub_session.specs.declared.state.Ring.{Ring}
use Rattle.vub_session.specs.declared.state.State.{State}
use Rattle.vub_session.specs.declared.state.Terms.{Terms}
use Rattle.vub_session.specs.declared.state.TheConstants.{MAX_QUEUE_SIZE}
use Rattle.vub_setup.specs.Setups.{region_size}
use Rattle.vub_wire.specs.Flags.{needs_reply}
use Rattle.vub_wire.specs.Grammar.{number_of}
use Rattle.vub_wire.specs.declared.messages.Config.{Config}
use Rattle.vub_wire.specs.declared.messages.Header.{Header}
use Rattle.vub_wire.specs.declared.messages.Inflight.{Inflight}
use Rattle.vub_wire.specs.declared.messages.Message.{Message}
use Rattle.vub_wire.specs.declared.messages.Message.TheVariants as messages
use Rattle.vub_wire.specs.declared.messages.ReplyBody.{ReplyBody}
use Rattle.vub_wire.specs.declared.messages.ReplyBody.TheVariants as bodies
use Rattle.vub_wire.specs.declared.numbers.TheConstants.{GET_CONFIG, GET_INFLIGHT_FD, GET_VRING_BASE, SET_CONFIG, SET_MEM_TABLE}

-- ---- what a row says

-- the session after the row, and what the row answers
pub record Step : Type 0 where
  pub next : State
  pub row : Row

-- carried out, with no reply of its own
abbrev pub done : State → Step
done s = record { next = s; row = record { cause = None; reply = None } }

-- with a reply of its own
abbrev pub replied : State → ReplyBody → Step
replied s body = record { next = s; row = record { cause = None; reply = Some body } }

-- refused; nothing changes
abbrev pub refused : State → Refusal → Step
refused s cause = record { next = s; row = record { cause = Some cause; reply = None } }

abbrev pub refused_with : State → Refusal → ReplyBody → Step
refused_with s cause body = record { next = s; row = record { cause = Some cause; reply = Some body } }

-- each ring that became ready is attached, but the request is refused where one of them can't run
abbrev pub unless_bad : State → ℕ → Terms → List Mapped → Option ℕ → Step
unless_bad s request terms table None = done (record s { terms = attach terms; table = table })
unless_bad s request terms table (Some ring) = refused s (refusals.BadRing request ring)

-- the row would leave these terms, and this table; or it refuses
abbrev pub settled_over : State → ℕ → List Mapped → Option Terms → Step
settled_over s request table None = refused s (refusals.Row request)
settled_over s request table (Some terms) = unless_bad s request terms table (bad_ring terms table s.config.queues)

unfoldable pub settled : State → ℕ → Option Terms → Step
settled s request terms = settled_over s request s.table terms

-- ---- features

-- each bit of the set is offered
abbrev pub is_offered : ℕ → ℕ → Bool
is_offered set offer = bit_and set offer == set

unfoldable pub with_features : State → ℕ → Option Terms
with_features s set = if not (is_offered set (offered s.config.read_only)) || is_running s.terms then None else Some (record s.terms { features = set })

unfoldable pub with_protocol : State → ℕ → Option Terms
with_protocol s set = if not (is_offered set offered_protocol) || is_running s.terms then None else Some (record s.terms { protocol = set })

-- ---- rings

abbrev pub is_queue_size : ℕ → Bool
is_queue_size n = nat_le 1 n && nat_le n MAX_QUEUE_SIZE

-- the size of a ring that isn't attached
abbrev pub ring_with_size : Terms → ℕ → ℕ → Option Ring → Option Terms
ring_with_size t index n None = None
ring_with_size t index n (Some ring) = if ring.is_attached || not (is_queue_size n) then None else Some (with_ring t index (record ring { size = Some n }))

unfoldable pub with_size : State → ℕ → ℕ → Option Terms
with_size s index n = ring_with_size s.terms index n (ring_of s index)

-- the addresses, which an attached ring keeps
abbrev pub same_addresses : Addresses → Option Addresses → Bool
same_addresses a None = false
same_addresses a (Some b) = (a.desc == b.desc) && ((a.avail == b.avail) && (a.used == b.used))

abbrev pub ring_with_addresses : Terms → ℕ → Addresses → Option Ring → Option Terms
ring_with_addresses t index a None = None
ring_with_addresses t index a (Some ring) = if ring.is_attached && not (same_addresses a ring.addresses) then None else Some (with_ring t index (record ring { addresses = Some a }))

unfoldable pub with_addresses : State → ℕ → Addresses → Option Terms
with_addresses s index a = ring_with_addresses s.terms index a (ring_of s index)

-- the base of a ring that isn't attached
abbrev pub ring_with_base : Terms → ℕ → ℕ → Option Ring → Option Terms
ring_with_base t index base None = None
ring_with_base t index base (Some ring) = if ring.is_attached then None else Some (with_ring t index (record ring { base = Some base }))

unfoldable pub with_base : State → ℕ → ℕ → Option Terms
with_base s index base = ring_with_base s.terms index base (ring_of s index)

-- bits 0 to 7 of the word of kick, call and err are the index, and bit 8 says that no descriptor comes with it
abbrev pub queue_in : ℕ → ℕ
queue_in word = word % 256

abbrev pub brings_descriptor : ℕ → Bool
brings_descriptor word = word / 256 % 2 == 0

abbrev pub ring_with_kick : Terms → ℕ → Option Ring → Option Terms
ring_with_kick t index None = None
ring_with_kick t index (Some ring) = Some (with_ring t index (record ring { has_kick = true }))

unfoldable pub with_kick : State → ℕ → Option Terms
with_kick s word = ring_with_kick s.terms (queue_in word) (ring_of s (queue_in word))

abbrev pub ring_with_call : Terms → ℕ → Bool → Option Ring → Option Terms
ring_with_call t index bell None = None
ring_with_call t index bell (Some ring) = Some (with_ring t index (record ring { has_bell = bell }))

unfoldable pub with_call : State → ℕ → Option Terms
with_call s word = ring_with_call s.terms (queue_in word) (brings_descriptor word) (ring_of s (queue_in word))

unfoldable pub with_err : State → ℕ → Option Terms
with_err s word = option_map (λ ring. s.terms) (ring_of s (queue_in word))

abbrev pub ring_with_enable : Terms → ℕ → ℕ → Option Ring → Option Terms
ring_with_enable t index num None = None
ring_with_enable t index num (Some ring) = if nat_lt 1 num then None else Some (with_ring t index (record ring { is_enabled = num == 1 }))

unfoldable pub with_enable : State → ℕ → ℕ → Option Terms
with_enable s index num = ring_with_enable s.terms index num (ring_of s index)

-- a queue that was stopped with this base: its ring is detached, and its kick is forgotten
abbrev pub stopped_ring : ℕ → Ring → Ring
stopped_ring base ring = record ring { base = Some base; has_kick = false; is_attached = false }

abbrev pub with_base_reply : State → ℕ → Option Ring → Step
with_base_reply s index None = refused_with s (refusals.Row GET_VRING_BASE) (bodies.State index 0)
with_base_reply s index (Some ring) = replied s (bodies.State index (unwrap_or ring.base 0))

unfoldable pub base_reply : State → ℕ → Step
base_reply s index = with_base_reply s index (ring_of s index)

-- ---- the memory table

-- the regions with what was found for them
abbrev pub mapped : List Region → List Found → List Mapped
mapped [] found = []
mapped (r ∷ regions) [] = []
mapped (r ∷ regions) (f ∷ found) = record { region = r; space = f.space; space_size = f.size } ∷ mapped regions found

unfoldable pub table_set : State → List Mapped → Step
table_set s table = settled_over s SET_MEM_TABLE table (if is_running s.terms || is_some (fault_of table) then None else Some (record s.terms { has_table = true }))

-- ---- the config space

-- the part that is asked for, of so many bytes as the message carries
abbrev pub is_config_part : Config → Bool
is_config_part c = (length c.bytes.items == c.size) && nat_le (c.offset + c.size) CONFIG_SIZE

unfoldable pub config_part : State → Config → Config
config_part s c = record c { bytes = record { items = slice_range (config_bytes s.config) c.offset (c.offset + c.size) } }

unfoldable pub config_reply : State → Config → Step
config_reply s c = if is_config_part c then replied s (bodies.Config (config_part s c)) else refused_with s (refusals.Row GET_CONFIG) bodies.Empty

-- ---- the in-flight region

-- so many queues and descriptors as the device may have
abbrev pub has_inflight_numbers : State → Inflight → Bool
has_inflight_numbers s x = (nat_le 1 x.queues && nat_le x.queues s.config.queues) && is_queue_size x.queue_size

-- the bytes of the region
abbrev pub inflight_size : State → Inflight → ℕ
inflight_size s x = x.queues * region_size (is_packed s.terms) x.queue_size

unfoldable pub inflight_reply : State → Inflight → Step
inflight_reply s x =
    if has_inflight_numbers s x then replied s (bodies.Inflight (record x { size = inflight_size s x; offset = 0 }))
    else refused_with s (refusals.Row GET_INFLIGHT_FD) (bodies.Inflight (record x { size = 0; offset = 0 }))

abbrev pub kept_region : Inflight → Found → KeptRegion
kept_region x f = record { space = f.space; space_size = f.size; offset = x.offset; size = x.size; queues = x.queues; queue_size = x.queue_size }

-- the region lies in its space at a multiple of 8, and has room for its queues
abbrev pub fits_inflight : State → Inflight → Found → Bool
fits_inflight s x f = has_inflight_numbers s x && ((x.offset % 8 == 0) && (nat_le (inflight_size s x) x.size && nat_le (x.offset + x.size) f.size))

abbrev pub with_found_region : State → Inflight → List Found → Option Terms
with_found_region s x [] = None
with_found_region s x (f ∷ found) = if is_running s.terms || not (fits_inflight s x f) then None else Some (record s.terms { region = Some (kept_region x f) })

unfoldable pub with_region : State → Inflight → List Found → Option Terms
with_region s x found = with_found_region s x found

-- ---- the table: a line a request

-- the terms that a request leaves which changes nothing else, or None where its row refuses it
unfoldable pub next_terms : State → Message → List Found → Option Terms
next_terms s (messages.SetFeatures set) found = with_features s set
next_terms s (messages.SetNum index num) found = with_size s index num
next_terms s (messages.SetAddr index flags desc used avail log) found = with_addresses s index (record { desc = desc; avail = avail; used = used })
next_terms s (messages.SetBase index num) found = with_base s index num
next_terms s (messages.SetKick word) found = with_kick s word
next_terms s (messages.SetCall word) found = with_call s word
next_terms s (messages.SetErr word) found = with_err s word
next_terms s (messages.SetProtocol set) found = with_protocol s set
next_terms s (messages.SetEnable index num) found = with_enable s index num
next_terms s (messages.SetInflight x) found = with_region s x found
next_terms s m found = None

-- and each request, the last line those above
unfoldable pub step : State → Message → List Found → Step
step s messages.GetFeatures found = replied s (bodies.Number (offered s.config.read_only))
step s messages.SetOwner found = done s
step s (messages.SetMemTable regions) found = table_set s (mapped regions.items found)
step s (messages.GetBase index num) found = base_reply s index
step s messages.GetProtocol found = replied s (bodies.Number offered_protocol)
step s messages.GetQueueNum found = replied s (bodies.Number s.config.queues)
step s (messages.GetConfig config) found = config_reply s config
step s (messages.SetConfig config) found = refused s (refusals.Row SET_CONFIG)
step s (messages.GetInflight x) found = inflight_reply s x
step s (messages.Other request) found = refused s (refusals.Row request)
step s m found = settled s (number_of m) (next_terms s m found)

-- a request of the last line
abbrev pub changes_terms : Message → Bool
changes_terms messages.GetFeatures = false
changes_terms messages.SetOwner = false
changes_terms (messages.SetMemTable regions) = false
changes_terms (messages.GetBase index num) = false
changes_terms messages.GetProtocol = false
changes_terms messages.GetQueueNum = false
changes_terms (messages.GetConfig config) = false
changes_terms (messages.SetConfig config) = false
changes_terms (messages.GetInflight x) = false
changes_terms (messages.Other request) = false
changes_terms m = true

-- how many names a message takes
unfoldable pub names_taken : State → Message → ℕ
names_taken s (messages.SetMemTable regions) = length regions.items
names_taken s (messages.SetKick word) = if brings_descriptor word then 1 else 0
names_taken s (messages.SetCall word) = if brings_descriptor word then 1 else 0
names_taken s (messages.SetErr word) = if brings_descriptor word then 1 else 0
names_taken s (messages.GetInflight x) = if has_inflight_numbers s x then 1 else 0
names_taken s (messages.SetInflight x) = 1
names_taken s m = 0

-- how many of them it looks up
unfoldable pub looked_up : Message → ℕ
looked_up (messages.SetMemTable regions) = length regions.items
looked_up (messages.SetInflight x) = 1
looked_up m = 0

-- the size of the space that it makes, if it makes one
unfoldable pub created : State → Message → Option ℕ
created s (messages.GetInflight x) = if has_inflight_numbers s x then Some (inflight_size s x) else None
created s m = None

-- the queue whose bell it attaches to a call, if it brings one
abbrev pub bell_of : ℕ → Option Ring → Option ℕ
bell_of word None = None
bell_of word (Some ring) = if brings_descriptor word then Some (queue_in word) else None

unfoldable pub bell_attached : State → Message → Option ℕ
bell_attached s (messages.SetCall word) = bell_of word (ring_of s (queue_in word))
bell_attached s m = None

-- the attached queue that it stops, if it stops one
abbrev pub stopped_by : ℕ → Option Ring → Option ℕ
stopped_by index None = None
stopped_by index (Some ring) = if ring.is_attached then Some index else None

unfoldable pub drained : State → Message → Option ℕ
drained s (messages.GetBase index num) = stopped_by index (ring_of s index)
drained s m = None

-- the message is a GET_VRING_BASE of this queue, which is attached
abbrev pub StopsAttached : State → Message → ℕ → Type 0
StopsAttached s m queue = (num : ℕ) × (m ≡ messages.GetBase queue num) × IsAttached s queue

-- ---- what is sent back

-- an acknowledgement is asked for, and both sides know acknowledgements
abbrev pub acknowledges : State → Header → Bool
acknowledges s h = has_reply_ack s.terms && needs_reply h.flags

abbrev pub handled_row : ℕ → Bool → Option Refusal → Option ReplyBody → Handled
handled_row request ack cause (Some body) = handled.Reply (record { request = request; body = body })
handled_row request true (Some cause) None = Ack 1
handled_row request true None None = Ack 0
handled_row request false cause None = Silent

-- a refusal is kept
abbrev pub noted : State → Option Refusal → State
noted s cause = record s { refused = option_or cause s.refused }

-- the session after a message, and what is sent back, by the state after it
unfoldable pub answered : State → Header → Message → List Found → State × Handled
answered s h m found = let x = step s m found in (noted x.next x.row.cause, handled_row (number_of m) (acknowledges x.next h) x.row.cause x.row.reply)

-- a session whose queue was stopped with this base
unfoldable pub stopped : State → ℕ → ℕ → State
stopped s index base = record s { terms = with_ring s.terms index (stopped_ring base (ring_at s.terms index)) }

-- the whole table: a message that stops an attached queue is answered once it was stopped with its base
abbrev pub after_stop : State → ℕ → Option ℕ → State
after_stop s base None = s
after_stop s base (Some index) = stopped s index base

unfoldable pub table : State → Header → Message → List Found → ℕ → State × Handled
table s h m found base = answered (after_stop s base (drained s m)) h m found
