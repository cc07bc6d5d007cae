-- The history of records.
use Rattle.std.specs.Prelude.{List, [], ◌∷◌, ◌++◌}
use Rattle.vub_device.specs.declared.entry.Entry.{Entry}
use Rattle.vub_report.specs.declared.items.Item.{Item}
use Rattle.vub_report.specs.declared.items.Item.TheVariants as items
use Rattle.vub_report.specs.declared.items.Record.{Record}

abbrev pub entries_of : List Item → List Entry
entries_of [] = []
entries_of (items.Made e ∷ is) = e ∷ entries_of is
entries_of (i ∷ is) = entries_of is

-- the entries of these records, in order
abbrev pub history_of : List Record → List Entry
history_of [] = []
history_of (r ∷ rs) = entries_of r.items ++ history_of rs
