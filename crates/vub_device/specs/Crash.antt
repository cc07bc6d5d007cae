-- What the sectors hold, and what they may hold after a power stop. A past lists entries with the newest first.
use Rattle.std.specs.Prelude.{◌≢◌, ℕ, ⊤, ◌+◌, ◌<◌, ◌≤◌, ◌==◌, if◌then◌else◌, List, [], ◌∷◌, ◌++◌, Contains}
use Rattle.vub_device.specs.declared.entry.SectorValue.{SectorValue}
use Rattle.vub_device.specs.declared.entry.Entry.{Entry}
use Rattle.vub_device.specs.declared.entry.Entry.TheVariants.{Act, Sync, Power}
use Rattle.vub_device.specs.Requests.{zeros}

-- what an image holds at a sector: zeros where it lists none
abbrev pub image_at : List SectorValue → ℕ → List ℕ
image_at [] s = zeros
image_at (x ∷ image) s = if x.sector == s then x.value else image_at image s

-- what a sector holds now: what the last act on it wrote. The disk opens with zeros
abbrev pub value : List Entry → ℕ → List ℕ
value [] s = zeros
value (Act q k t v ∷ past) s = if t == s then v else value past s
value (Power image ∷ past) s = image_at image s
value (e ∷ past) s = value past s

-- what a sector held when all was last made stable, or at the last power stop if that is later
abbrev pub stable : List Entry → ℕ → List ℕ
stable [] s = zeros
stable (Sync q k ∷ past) s = value past s
stable (Power image ∷ past) s = image_at image s
stable (e ∷ past) s = stable past s

-- the values that acts gave it since, in order
abbrev pub unstable : List Entry → ℕ → List (List ℕ)
unstable [] s = []
unstable (Act q k t v ∷ past) s = if t == s then unstable past s ++ v ∷ [] else unstable past s
unstable (Sync q k ∷ past) s = []
unstable (Power image ∷ past) s = []
unstable (e ∷ past) s = unstable past s

-- what it may hold after a power stop
abbrev pub candidates : List Entry → ℕ → List (List ℕ)
candidates past s = stable past s ∷ unstable past s

-- a list names an image in its one way: the sectors from this one on that aren't all zero, rising
abbrev pub IsImageFrom : ℕ → ℕ → List SectorValue → Type 0
IsImageFrom low capacity [] = ⊤
IsImageFrom low capacity (x ∷ image) = (low ≤ x.sector) × (x.sector < capacity) × (x.value ≢ zeros) × IsImageFrom (x.sector + 1) capacity image

-- an image that a power stop may leave
pub record IsCrashImage (capacity : ℕ) (past : List Entry) (image : List SectorValue) : Type 0 where
  pub form : IsImageFrom 0 capacity image
  pub each : (s : ℕ) → s < capacity → Contains (candidates past s) (image_at image s)
