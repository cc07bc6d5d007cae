-- An executor as two lists, and the items by their keys.
use Rattle.std.specs.Prelude.{◌≡◌, ◌≢◌, ℕ, ◌+◌, ◌==◌, if◌then◌else◌, List, ◌∷◌, sum_by, Option, Some, None, is_some, slice_index_or}
use Rattle.vub_executor.specs.declared.executor.Unfinished.{Unfinished}

-- 1 for that key
abbrev pub one_for : ℕ → ℕ → ℕ
one_for k key = if key == k then 1 else 0

abbrev pub one_at : ℕ → Unfinished → ℕ
one_at k u = one_for k u.key

-- what isn't finished in the order of acceptance, the keys of the finished in the order of completion,
-- the item or nothing at each key, and for how many items there is room
pub record Lists (T : Type 0) : Type 0 where
  pub unfinished : List Unfinished
  pub finished : List ℕ
  pub slots : List (Option T)
  pub room : ℕ

module _ {T : Type 0} where
  -- the item with a key
  abbrev pub item_of : Lists T → ℕ → Option T
  item_of e key = slice_index_or e.slots key None

  -- every other item is as it was
  abbrev pub OthersKept : Lists T → Lists T → ℕ → Type 0
  OthersKept old new key = (k : ℕ) → k ≢ key → item_of new k ≡ item_of old k

  -- how often a key stands among the unfinished and the finished
  abbrev pub times_in : Lists T → ℕ → ℕ
  times_in e key = sum_by (one_at key) e.unfinished + sum_by (one_for key) e.finished

  -- each key that has an item stands once among the unfinished and the finished, and no other key does
  abbrev pub StandOnce : Lists T → Type 0
  StandOnce e = (key : ℕ) → times_in e key ≡ (if is_some (item_of e key) then 1 else 0)

  -- the first finished item is taken out
  pub record TakesFirst (old new : Lists T) (taken : T) : Type 0 where
    pub key : ℕ
    pub finished : old.finished ≡ key ∷ new.finished
    pub item : item_of old key ≡ Some taken
    pub gone : item_of new key ≡ None
    pub others : OthersKept old new key
