-- The free list of a packed queue's region, and the chains of its open heads beside it (vhost-user, "Inflight I/O
-- tracking").
use Rattle.std.specs.Prelude.{◌≡◌, ◌≤◌, ◌<◌, ℕ, ◌+◌, ◌==◌, if◌then◌else◌, List, [], ◌∷◌, ◌++◌, length, ⊤}
use Rattle.vub_inflight.specs.Links.{links}

-- along next from a head on these entries come, and then an end
abbrev pub IsPath : (ℕ → ℕ) → ℕ → List ℕ → ℕ → Type 0
IsPath next head [] end = head ≡ end
IsPath next head (x ∷ xs) end = (head ≡ x) × IsPath next (next x) xs end

-- the entries of a head's chain: as many as its num, from it on
abbrev pub chain : (ℕ → ℕ) → (ℕ → ℕ) → ℕ → List ℕ
chain next num head = links next (num head) head

-- those of several heads, one chain after another
abbrev pub chains : (ℕ → ℕ) → (ℕ → ℕ) → List ℕ → List ℕ
chains next num [] = []
chains next num (h ∷ hs) = chain next num h ++ chains next num hs

-- how many entries they have together
abbrev pub total : (ℕ → ℕ) → List ℕ → ℕ
total num [] = 0
total num (h ∷ hs) = num h + total num hs

-- how often an entry stands in a list, and in the chains of these heads
abbrev pub count : ℕ → List ℕ → ℕ
count i [] = 0
count i (x ∷ xs) = (if x == i then 1 else 0) + count i xs

abbrev pub in_chains : (ℕ → ℕ) → (ℕ → ℕ) → ℕ → List ℕ → ℕ
in_chains next num i [] = 0
in_chains next num i (h ∷ hs) = count i (chain next num h) + in_chains next num i hs

-- the last of a list, or d where it is empty
abbrev pub last_of : ℕ → List ℕ → ℕ
last_of d [] = d
last_of d (x ∷ xs) = last_of x xs

-- each chain has an entry, and ends at its head's last
abbrev pub ChainsEnd : (ℕ → ℕ) → (ℕ → ℕ) → (ℕ → ℕ) → List ℕ → Type 0
ChainsEnd next num last [] = ⊤
ChainsEnd next num last (h ∷ hs) = (0 < num h) × (last_of h (chain next num h) ≡ last h) × ChainsEnd next num last hs

-- free list and chains share no entry, none stands twice, and together they are all n
pub record Apart (n : ℕ) (next num : ℕ → ℕ) (free heads : List ℕ) : Type 0 where
  pub once : (i : ℕ) → count i free + in_chains next num i heads ≤ 1
  pub sum : length free + total num heads ≡ n
