-- The words that a program is called with.
use Rattle.std.specs.Prelude.{◌≡◌, ℕ, List, [], ◌∷◌, ◌++◌, codes, map, string_bytes, String}
use Rattle.std.specs.Global.{Global}
use Rattle.vublk.specs.declared.words.Command.{Command}
use Rattle.vublk.specs.declared.words.Command.TheVariants.{Replay, Entries}

abbrev pub word_of : Command → List ℕ
word_of Replay = codes "replay"
word_of Entries = codes "entries"

-- the one word of this command
abbrev pub IsCommand : Command → List (String Global) → Type 0
IsCommand c words = map (λ w. string_bytes w) words ≡ word_of c ∷ []

-- the words are those of a command
abbrev pub IsAccepted : List (String Global) → Type 0
IsAccepted words = (c : Command) × IsCommand c words

-- and this is so of that command
abbrev pub Asks : List (String Global) → (Command → Type 0) → Type 0
Asks words P = (c : Command) × IsCommand c words × P c

abbrev pub usage_text : List ℕ
usage_text = codes "usage: vublk replay|entries|bulk SEED COUNT|inspect FORMAT SIZE WORD|serve [--read-only] IMAGE NAME.." ++ 10 ∷ []
