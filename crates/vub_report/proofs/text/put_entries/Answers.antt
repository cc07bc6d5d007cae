use Rattle.std.proofs.Common.{◌≡◌, ◌+◌, ◌<◌, ◌++◌, ◌∷◌, [], ℕ, List, length, take, get_or, ap, sym, ◌∙◌, append_assoc}
use Rattle.std.proofs.lemmas.List.{take_more}
use Rattle.std.proofs.lemmas.Grind.{flat_map-append}
use Rattle.vub_report.specs.declared.items.Item.{Item}
use Rattle.vub_report.specs.RecordText.{entry_line, entries_spelling}
use Rattle.vub_report.specs.Histories.{entries_of}
use Rattle.vub_report.proofs.HistoryLemmas.{entries-append}
use Rattle.vub_report.proofs.text.put_entries.Goals as goal

abbrev text_of : List Item → List ℕ
text_of is = entries_spelling (entries_of is)

item_added : (is : List Item) (i : ℕ) (item : Item) (old before now : List ℕ) → i < length is → item ≡ get_or is i item → before ≡ old ++ text_of (take i is) → now ≡ before ++ text_of (item ∷ [])
    → now ≡ old ++ text_of (take (i + 1) is)
item_added is i item old before now lt at so added =
    let one_more : take i is ++ item ∷ [] ≡ take (i + 1) is = ap (λ (x : Item). take i is ++ x ∷ []) at ∙ sym (take_more is i item lt) in
    let both : text_of (take i is ++ item ∷ []) ≡ text_of (take i is) ++ text_of (item ∷ []) =
    ap (λ es. entries_spelling es) (entries-append (take i is) (item ∷ [])) ∙ flat_map-append entry_line (entries_of (take i is)) (entries_of (item ∷ [])) in
    added ∙ ap (λ t. t ++ text_of (item ∷ [])) so ∙ append_assoc old (text_of (take i is)) (text_of (item ∷ [])) ∙ ap (λ t. old ++ t) (sym both ∙ ap text_of one_more)

pub loop-item-preserved : goal.loop-item-preserved
loop-item-preserved c =
    item_added c.list-item-items.result.now c.loop-item.item-index c.item-item.result c.args.out.now.items c.loop-item.out.items c.put_made.new.out.items c.loop-item-test.true c.item-item.is c.loop-item.invariant c.in_ok-put_made.ensures
