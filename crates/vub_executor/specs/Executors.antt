-- What is unfinished.
use Rattle.std.specs.Prelude.{◌<◌, ℕ, ◌==◌, Bool, List, length, get_or, option_map, unwrap_or, position, remove}
use Rattle.vub_executor.specs.declared.executor.Unfinished.{Unfinished}

abbrev pub key_of : Unfinished → ℕ
key_of u = u.key

-- each order is above the one before
abbrev pub IsRising : List Unfinished → Type 0
IsRising us = (d : Unfinished) (i j : ℕ) → i < j → j < length us → (get_or us i d).order < (get_or us j d).order

abbrev pub has_key : ℕ → Unfinished → Bool
has_key k u = u.key == k

-- the list without the first that has that key, if one has
abbrev pub without : ℕ → List Unfinished → List Unfinished
without k us = unwrap_or (option_map (remove us) (position (has_key k) us)) us
