-- The names that are left while one is lent.
use Rattle.std.specs.Prelude.{◌≡◌, ⊤, ℕ, List, drop}
use Rattle.std.specs.Borrow.{follows_so, MutBor, Fml}
use mathlib.Core.Option.{none}
use Rattle.vub_session.specs.contracts.names.Names.{the_row}

-- once the name is no longer in use, the first one is gone; where none was left, nothing changes
abbrev pub LeavesRest : MutBor (List (List ℕ)) → Fml
LeavesRest names = follows_so the_row the_row names.ghost_name none (λ _ _. ⊤) (λ left. left ≡ drop 1 names.now)
