use Rattle.std.proofs.Common.{◌≡◌, ◌++◌, ◌∷◌, take}
use Rattle.std.specs.List.{flat_map}
use Rattle.vub_schedule.proofs.writing.put_after_commas.Given as goal

abbrev pub invariant-loop-part : goal.invariant-loop-part
invariant-loop-part g l = l.out.items ≡ l.fn.out.items ++ flat_map (λ x. 44 ∷ g.T.AskPart.text x) (take l.part-index l.parts)
