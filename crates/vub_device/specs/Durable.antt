-- Which writes outlive a power stop (VIRTIO 1.2, 5.2.6: a flush, and a device that doesn't cache writes). A past lists entries
-- with the newest first.
use Rattle.std.specs.Prelude.{◌≡◌, ⊤, ℕ, ◌==◌, ◌&&◌, if◌then◌else◌, List, [], ◌∷◌, Contains, Some}
use Rattle.vub_device.specs.declared.entry.Answered.{Answered}
use Rattle.vub_device.specs.declared.entry.Entry.{Entry}
use Rattle.vub_device.specs.declared.entry.Entry.TheVariants.{Act, Power}
use Rattle.vub_device.specs.declared.entry.SectorValue.{SectorValue}
use Rattle.vub_device.specs.declared.entry.Asked.TheVariants.{Write, Flush}
use Rattle.vub_device.specs.Past.{asked}
use Rattle.vub_device.specs.Requests.{effect_at}
use Rattle.vub_device.specs.Crash.{image_at}

-- one more value in front, where there are some
abbrev pub joined : {A : Type 0} → A → List A → List A
joined v [] = []
joined v (x ∷ xs) = v ∷ x ∷ xs

-- the values that acts gave a sector from the request's last act on it on, the newest first; none where the request has not
-- acted on it since the last power stop
abbrev pub values_since : List Entry → ℕ → ℕ → ℕ → List (List ℕ)
values_since [] q k s = []
values_since (Act p j t v ∷ past) q k s = if t == s then (if (p == q) && (j == k) then v ∷ [] else joined v (values_since past q k s)) else values_since past q k s
values_since (Power image ∷ past) q k s = []
values_since (e ∷ past) q k s = values_since past q k s

-- an image holds at a sector what the request's last act wrote there, or what a later act did
abbrev pub Outlives : List Entry → ℕ → ℕ → ℕ → List SectorValue → Type 0
Outlives past q k s image = Contains (values_since past q k s) (image_at image s)

-- a number is answered with status 0 by one of these answers
pub record Succeeds (answers : List Answered) (k : ℕ) : Type 0 where
  pub answer : Answered
  pub is : Contains answers answer
  pub number : answer.number ≡ k
  pub status : answer.status ≡ 0

-- the next entry answers a write of these bytes from the sector `start` on with status 0
pub record AnswersWrite (past : List Entry) (q : ℕ) (answers : List Answered) (k start : ℕ) (bytes : List ℕ) : Type 0 where
  pub asked : asked past q k ≡ Some (Write start bytes)
  pub succeeds : Succeeds answers k

-- the next entry answers a flush with status 0
pub record AnswersFlush (past : List Entry) (q : ℕ) (answers : List Answered) (k : ℕ) : Type 0 where
  pub asked : asked past q k ≡ Some Flush
  pub succeeds : Succeeds answers k

-- a write of these bytes from the sector `start` on writes this sector
abbrev pub WritesSector : ℕ → List ℕ → ℕ → Type 0
WritesSector start bytes s = (i : ℕ) × (v : List ℕ) × (effect_at (Write start bytes) i ≡ Some (record { sector = s; value = v }))

-- no power stop is among these entries
abbrev pub NoPower : List Entry → Type 0
NoPower [] = ⊤
NoPower (Power image ∷ es) = ⊥
NoPower (e ∷ es) = NoPower es
