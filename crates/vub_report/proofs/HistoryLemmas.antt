-- The entries of items one after another.
use Rattle.std.proofs.Common.{◌≡◌, List, [], ◌∷◌, ◌++◌, refl, ap}
use Rattle.vub_report.specs.declared.items.Item.{Item}
use Rattle.vub_report.specs.declared.items.Item.TheVariants as items
use Rattle.vub_report.specs.Histories.{entries_of}

pub entries-append : (xs ys : List Item) → entries_of (xs ++ ys) ≡ entries_of xs ++ entries_of ys
entries-append [] ys = refl
entries-append (items.Made e ∷ xs) ys = ap (λ es. e ∷ es) (entries-append xs ys)
entries-append (items.Store tag area place bytes ∷ xs) ys = entries-append xs ys
entries-append (items.Bell q ∷ xs) ys = entries-append xs ys
entries-append (items.Idle ∷ xs) ys = entries-append xs ys
