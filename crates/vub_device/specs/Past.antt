-- What has happened since the last power stop. A past lists entries with the newest first. A number k of a queue q
-- stands for the k-th offer of that queue since the last power stop, counted from 0.
use Rattle.std.specs.Prelude.{◌≡◌, ◌≢◌, ℕ, zero, suc, ◌+◌, ◌<◌, Bool, false, ◌==◌, ◌&&◌, ◌||◌, if◌then◌else◌, List, [], ◌∷◌, ◌++◌, map, AllPairs, Option, Some, None}
use Rattle.std.specs.List.{list_any}
use Rattle.vub_device.specs.declared.entry.Answered.{Answered}
use Rattle.vub_device.specs.declared.entry.Asked.{Asked}
use Rattle.vub_device.specs.declared.entry.Entry.{Entry}
use Rattle.vub_device.specs.declared.entry.Entry.TheVariants.{Offer, Accept, Look, Act, Sync, Fault, Publish, Kill, Start, Collect, Power}

-- how many requests were offered
abbrev pub offers : List Entry → ℕ → ℕ
offers [] q = 0
offers (Offer p r ∷ past) q = if p == q then offers past q + 1 else offers past q
offers (Power image ∷ past) q = 0
offers (e ∷ past) q = offers past q

-- the request that was offered under a number
abbrev pub asked : List Entry → ℕ → ℕ → Option Asked
asked [] q k = None
asked (Offer p r ∷ past) q k = if (p == q) && (offers past q == k) then Some r else asked past q k
asked (Power image ∷ past) q k = None
asked (e ∷ past) q k = asked past q k

-- how many were accepted
abbrev pub accepted : List Entry → ℕ → ℕ
accepted [] q = 0
accepted (Accept p k ∷ past) q = if p == q then accepted past q + 1 else accepted past q
accepted (Power image ∷ past) q = 0
accepted (e ∷ past) q = accepted past q

-- the numbers that these answers answer
abbrev pub numbers : List Answered → List ℕ
numbers answers = map (λ a. a.number) answers

-- the numbers that were published, in order
abbrev pub published : List Entry → ℕ → List ℕ
published [] q = []
published (Publish p answers ∷ past) q = if p == q then published past q ++ numbers answers else published past q
published (Power image ∷ past) q = []
published (e ∷ past) q = published past q

-- how many were collected
abbrev pub collected : List Entry → ℕ → ℕ
collected [] q = 0
collected (Collect p k ∷ past) q = if p == q then collected past q + 1 else collected past q
collected (Power image ∷ past) q = 0
collected (e ∷ past) q = collected past q

-- whether a number is among these
abbrev pub is_among : List ℕ → ℕ → Bool
is_among xs k = list_any (λ x. x == k) xs

-- no number stands twice
abbrev pub IsDistinct : List ℕ → Type 0
IsDistinct xs = AllPairs (λ a b. a ≢ b) xs

-- the numbers below n that aren't among these, rising
abbrev pub missing_below : List ℕ → ℕ → List ℕ
missing_below xs zero = []
missing_below xs (suc n) = if is_among xs n then missing_below xs n else missing_below xs n ++ n ∷ []

-- the open numbers, rising: accepted and not published
abbrev pub open_numbers : List Entry → ℕ → List ℕ
open_numbers past q = missing_below (published past q) (accepted past q)

-- a number is open
pub record IsOpen (past : List Entry) (q k : ℕ) : Type 0 where
  pub taken : k < accepted past q
  pub unpublished : is_among (published past q) k ≡ false

-- whether the queue was started since the last kill
abbrev pub started : List Entry → ℕ → Bool
started [] q = false
started (Start p list ∷ past) q = (p == q) || started past q
started (Kill ∷ past) q = false
started (Power image ∷ past) q = false
started (e ∷ past) q = started past q

-- in this life, which begins with the queue's last start: how many looks were made for a request
abbrev pub looks : List Entry → ℕ → ℕ → ℕ
looks [] q k = 0
looks (Look p j s v ∷ past) q k = if (p == q) && (j == k) then looks past q k + 1 else looks past q k
looks (Start p list ∷ past) q k = if p == q then 0 else looks past q k
looks (Power image ∷ past) q k = 0
looks (e ∷ past) q k = looks past q k

-- in this life: the bytes that they read, joined in order
abbrev pub bytes_read : List Entry → ℕ → ℕ → List ℕ
bytes_read [] q k = []
bytes_read (Look p j s v ∷ past) q k = if (p == q) && (j == k) then bytes_read past q k ++ v else bytes_read past q k
bytes_read (Start p list ∷ past) q k = if p == q then [] else bytes_read past q k
bytes_read (Power image ∷ past) q k = []
bytes_read (e ∷ past) q k = bytes_read past q k

-- in this life: how many acts were made for a request
abbrev pub acts : List Entry → ℕ → ℕ → ℕ
acts [] q k = 0
acts (Act p j s v ∷ past) q k = if (p == q) && (j == k) then acts past q k + 1 else acts past q k
acts (Start p list ∷ past) q k = if p == q then 0 else acts past q k
acts (Power image ∷ past) q k = 0
acts (e ∷ past) q k = acts past q k

-- in this life: whether all was made stable for a request
abbrev pub synced : List Entry → ℕ → ℕ → Bool
synced [] q k = false
synced (Sync p j ∷ past) q k = ((p == q) && (j == k)) || synced past q k
synced (Start p list ∷ past) q k = if p == q then false else synced past q k
synced (Power image ∷ past) q k = false
synced (e ∷ past) q k = synced past q k

-- in this life: whether a call of the disk failed for a request
abbrev pub faulted : List Entry → ℕ → ℕ → Bool
faulted [] q k = false
faulted (Fault p j ∷ past) q k = ((p == q) && (j == k)) || faulted past q k
faulted (Start p list ∷ past) q k = if p == q then false else faulted past q k
faulted (Power image ∷ past) q k = false
faulted (e ∷ past) q k = faulted past q k
