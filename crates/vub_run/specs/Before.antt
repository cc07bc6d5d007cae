-- A fact of each item of a run, where it comes about.
use Rattle.std.specs.Prelude.{List, [], ◌∷◌, ⊤}
use Rattle.vub_base.specs.declared.header.Header1.{Header1}
use Rattle.vub_report.specs.declared.items.Item.{Item}
use Rattle.vub_run.specs.Memory.{Scene, after_item}

-- a fact of each item at the scene before it
abbrev pub BeforeEach : Header1 → (Scene → Item → Type 0) → Scene → List Item → Type 0
BeforeEach h P s [] = ⊤
BeforeEach h P s (i ∷ is) = P s i × BeforeEach h P (after_item h i s) is
