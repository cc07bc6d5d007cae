-- What a block device may do next, and its legal histories. A past lists entries with the newest first, a history in order.
use Rattle.std.specs.Prelude.{◌≡◌, ◌≢◌, ⊤, ℕ, ◌<◌, ◌≤◌, ◌⊎◌, true, false, List, [], ◌∷◌, length, slice_get, All, Some, None}
use Rattle.vub_base.specs.declared.header.CacheMode.{CacheMode}
use Rattle.vub_base.specs.declared.header.CacheMode.TheVariants.{Through}
use Rattle.vub_device.specs.declared.entry.Answered.{Answered}
use Rattle.vub_device.specs.declared.entry.Asked.{Asked}
use Rattle.vub_device.specs.declared.entry.Asked.TheVariants.{Read, Write, Flush, Id, Discard, Zero}
use Rattle.vub_device.specs.declared.entry.Entry.{Entry}
use Rattle.vub_device.specs.declared.entry.Entry.TheVariants.{Offer, Accept, Look, Act, Sync, Fault, Publish, Kill, Start, Collect, Power}
use Rattle.vub_device.specs.Requests.{device_name, look_at, effect_at, refusal}
use Rattle.vub_device.specs.Past.{offers, asked, accepted, published, collected, numbers, IsDistinct, open_numbers, IsOpen, started, looks, bytes_read, acts, synced, faulted}
use Rattle.vub_device.specs.Crash.{value, IsCrashImage}

-- the queue's next offer is taken
pub record MayAccept (past : List Entry) (q k : ℕ) : Type 0 where
  pub started : started past q ≡ true
  pub next : k ≡ accepted past q
  pub offered : k < offers past q

-- the device may call the disk for this request
pub record IsAtWork (capacity : ℕ) (mode : CacheMode) (past : List Entry) (q k : ℕ) (r : Asked) : Type 0 where
  pub started : started past q ≡ true
  pub is_open : IsOpen past q k
  pub asked : asked past q k ≡ Some r
  pub served : refusal capacity mode r ≡ None
  pub unfaulted : faulted past q k ≡ false

-- the next sector of the request is read, and holds this
pub record MayLook (capacity : ℕ) (mode : CacheMode) (past : List Entry) (q k s : ℕ) (v : List ℕ) : Type 0 where
  pub request : Asked
  pub works : IsAtWork capacity mode past q k request
  pub next : look_at request (looks past q k) ≡ Some s
  pub held : v ≡ value past s

-- the next sector of the request is written
pub record MayAct (capacity : ℕ) (mode : CacheMode) (past : List Entry) (q k s : ℕ) (v : List ℕ) : Type 0 where
  pub request : Asked
  pub works : IsAtWork capacity mode past q k request
  pub next : effect_at request (acts past q k) ≡ Some (record { sector = s; value = v })

-- no sector is left to read for the request in this life
abbrev pub IsRead : List Entry → ℕ → ℕ → Asked → Type 0
IsRead past q k r = look_at r (looks past q k) ≡ None

-- no sector is left to write for the request in this life
abbrev pub IsWritten : List Entry → ℕ → ℕ → Asked → Type 0
IsWritten past q k r = effect_at r (acts past q k) ≡ None

-- a request that makes all stable: a flush, and a write that isn't cached once it is written
abbrev pub IsSyncDue : CacheMode → List Entry → ℕ → ℕ → Asked → Type 0
IsSyncDue mode past q k Flush = ⊤
IsSyncDue mode past q k (Write s values) = (mode ≡ Through) × IsWritten past q k (Write s values)
IsSyncDue mode past q k r = ⊥

pub record MaySync (capacity : ℕ) (mode : CacheMode) (past : List Entry) (q k : ℕ) : Type 0 where
  pub request : Asked
  pub works : IsAtWork capacity mode past q k request
  pub first : synced past q k ≡ false
  pub due : IsSyncDue mode past q k request

-- a call of the disk fails, which an id request makes none of
pub record MayFault (capacity : ℕ) (mode : CacheMode) (past : List Entry) (q k : ℕ) : Type 0 where
  pub request : Asked
  pub works : IsAtWork capacity mode past q k request
  pub calls : request ≢ Id

-- the request was done in this life, and these are the bytes of its answer
abbrev pub IsDone : CacheMode → List Entry → ℕ → ℕ → Asked → List ℕ → Type 0
IsDone mode past q k (Read s n) bytes = IsRead past q k (Read s n) × (bytes ≡ bytes_read past q k)
IsDone mode past q k (Write s values) bytes = IsWritten past q k (Write s values) × (mode ≡ Through → synced past q k ≡ true) × (bytes ≡ [])
IsDone mode past q k Flush bytes = (synced past q k ≡ true) × (bytes ≡ [])
IsDone mode past q k Id bytes = bytes ≡ device_name
IsDone mode past q k (Discard parts) bytes = IsWritten past q k (Discard parts) × (bytes ≡ [])
IsDone mode past q k (Zero parts) bytes = IsWritten past q k (Zero parts) × (bytes ≡ [])

-- status 0: the request isn't refused, no call failed for it, and it is done
pub record IsSuccess (capacity : ℕ) (mode : CacheMode) (past : List Entry) (q k : ℕ) (r : Asked) (bytes : List ℕ) : Type 0 where
  pub served : refusal capacity mode r ≡ None
  pub unfaulted : faulted past q k ≡ false
  pub done : IsDone mode past q k r bytes

-- status 1: a call failed for the request, or it is refused with that status
pub record IsFailure (capacity : ℕ) (mode : CacheMode) (past : List Entry) (q k : ℕ) (r : Asked) (bytes : List ℕ) : Type 0 where
  pub cause : (faulted past q k ≡ true) ⊎ (refusal capacity mode r ≡ Some 1)
  pub empty : bytes ≡ []

-- status 2: the request is refused with that status
pub record IsUnsupported (capacity : ℕ) (mode : CacheMode) (r : Asked) (bytes : List ℕ) : Type 0 where
  pub cause : refusal capacity mode r ≡ Some 2
  pub empty : bytes ≡ []

-- an answer to a request: there are three statuses (VIRTIO 1.2, 5.2.6)
pub record IsAnswer (capacity : ℕ) (mode : CacheMode) (past : List Entry) (q : ℕ) (a : Answered) : Type 0 where
  pub request : Asked
  pub offered : asked past q a.number ≡ Some request
  pub known : a.status ≤ 2
  pub success : a.status ≡ 0 → IsSuccess capacity mode past q a.number request a.bytes
  pub failure : a.status ≡ 1 → IsFailure capacity mode past q a.number request a.bytes
  pub unsupported : a.status ≡ 2 → IsUnsupported capacity mode request a.bytes

-- these answers are shown at once: some, to distinct open requests
pub record MayPublish (capacity : ℕ) (mode : CacheMode) (past : List Entry) (q : ℕ) (answers : List Answered) : Type 0 where
  pub started : started past q ≡ true
  pub some : 0 < length answers
  pub distinct : IsDistinct (numbers answers)
  pub opens : All (λ a. IsOpen past q a.number) answers
  pub answered : All (λ a. IsAnswer capacity mode past q a) answers

-- a queue is started that isn't, with its open numbers
pub record MayStart (past : List Entry) (q : ℕ) (list : List ℕ) : Type 0 where
  pub stopped : started past q ≡ false
  pub resubmits : list ≡ open_numbers past q

-- answers are collected in the order in which they were published
abbrev pub MayCollect : List Entry → ℕ → ℕ → Type 0
MayCollect past q k = slice_get (published past q) (collected past q) ≡ Some k

-- the entry may follow this past
abbrev pub Allowed : ℕ → CacheMode → List Entry → Entry → Type 0
Allowed capacity mode past (Offer q r) = ⊤
Allowed capacity mode past (Accept q k) = MayAccept past q k
Allowed capacity mode past (Look q k s v) = MayLook capacity mode past q k s v
Allowed capacity mode past (Act q k s v) = MayAct capacity mode past q k s v
Allowed capacity mode past (Sync q k) = MaySync capacity mode past q k
Allowed capacity mode past (Fault q k) = MayFault capacity mode past q k
Allowed capacity mode past (Publish q answers) = MayPublish capacity mode past q answers
Allowed capacity mode past Kill = ⊤
Allowed capacity mode past (Start q list) = MayStart past q list
Allowed capacity mode past (Collect q k) = MayCollect past q k
Allowed capacity mode past (Power image) = IsCrashImage capacity past image

-- each entry is allowed by those before it
abbrev pub LegalFrom : ℕ → CacheMode → List Entry → List Entry → Type 0
LegalFrom capacity mode past [] = ⊤
LegalFrom capacity mode past (e ∷ es) = Allowed capacity mode past e × LegalFrom capacity mode (e ∷ past) es

-- a legal history of a block device with that many sectors
abbrev pub Legal : ℕ → CacheMode → List Entry → Type 0
Legal capacity mode history = LegalFrom capacity mode [] history

-- the past after these entries
abbrev pub after : List Entry → List Entry → List Entry
after past [] = past
after past (e ∷ es) = after (e ∷ past) es
