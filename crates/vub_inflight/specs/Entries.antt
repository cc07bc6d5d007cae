-- The open entries of an in-flight region of n entries (vhost-user, "Inflight I/O tracking"), and what their counters say.
use Rattle.std.specs.Prelude.{◌≡◌, ◌<◌, ◌≤◌, ℕ, zero, suc, ◌+◌, Bool, true, not, ◌==◌, ◌&&◌, nat_lt, if◌then◌else◌, List, [], ◌∷◌, ◌++◌, length, map, filter, Option, None, ⊤}
use Rattle.std.specs.List.{find, AllByRecursion}
use Rattle.std.specs.Option.{option_map, option_or}
use Rattle.vub_base.specs.Pending.{sorted}
use Rattle.vub_base.specs.declared.pending.Pending.{Pending}
use Rattle.vub_device.specs.Past.{is_among}
use Rattle.vub_device.specs.Places.{are_distinct}

-- f with the value v at i
abbrev pub with_at : (ℕ → ℕ) → ℕ → ℕ → ℕ → ℕ
with_at f i v j = if j == i then v else f j

-- ---- which entries are open

-- an entry is in flight, and none of these
abbrev pub in_flight_but : List ℕ → (ℕ → ℕ) → ℕ → Bool
in_flight_but entries inflight i = not (inflight i == 0) && not (is_among entries i)

-- entry i, by the counter and the number of descriptors of each
abbrev pub entry_at : (ℕ → ℕ) → (ℕ → ℕ) → ℕ → Pending
entry_at counter num i = record { head = i; counter = counter i; num = num i }

-- of the entries below n those that are open, by rising index
abbrev pub by_index : (ℕ → ℕ) → (ℕ → ℕ) → (ℕ → Bool) → ℕ → List Pending
by_index counter num is_open zero = []
by_index counter num is_open (suc n) = by_index counter num is_open n ++ (if is_open n then entry_at counter num n ∷ [] else [])

-- the same by rising counter
abbrev pub by_counter : (ℕ → ℕ) → (ℕ → ℕ) → (ℕ → Bool) → ℕ → List Pending
by_counter counter num is_open n = sorted (by_index counter num is_open n)

abbrev pub heads_of : List Pending → List ℕ
heads_of entries = map (λ (e : Pending). e.head) entries

-- those whose head isn't among these
abbrev pub without_heads : List ℕ → List Pending → List Pending
without_heads heads entries = filter (λ (e : Pending). not (is_among heads e.head)) entries

-- a list of entries below n: no more than n, and no head stands twice
pub record AreEntries (n : ℕ) (entries : List Pending) : Type 0 where
  pub few : length entries ≤ n
  pub below : AllByRecursion (λ (e : Pending). e.head < n) entries
  pub distinct : are_distinct (heads_of entries) ≡ true

-- ---- counters

abbrev pub CountersBelow : ℕ → List Pending → Type 0
CountersBelow k entries = AllByRecursion (λ (e : Pending). e.counter < k) entries

-- each counter is below those after it
abbrev pub CountersRise : List Pending → Type 0
CountersRise [] = ⊤
CountersRise (x ∷ xs) = AllByRecursion (λ (e : Pending). x.counter < e.counter) xs × CountersRise xs

-- one more than the greatest counter, or 0 where there is none
abbrev pub next_counter : List Pending → ℕ
next_counter [] = 0
next_counter (x ∷ xs) = if nat_lt (next_counter xs) (x.counter + 1) then x.counter + 1 else next_counter xs

-- the first entry with this counter
abbrev pub with_counter : ℕ → List Pending → Option ℕ
with_counter counter entries = option_map (λ (e : Pending). e.head) (find (λ (e : Pending). e.counter == counter) entries)

-- the first entry whose counter a later one has too, and the first such later one
abbrev pub same_counter : List Pending → Option (ℕ × ℕ)
same_counter [] = None
same_counter (x ∷ xs) = option_or (option_map (λ (head : ℕ). (x.head, head)) (with_counter x.counter xs)) (same_counter xs)
