use Rattle.std.proofs.Common.{rules, ◌≡◌, ◌++◌, ◌∷◌, [], sym, subst, arith, true}
use Rattle.std.specs.Prelude.{IsSome, ◌==◌}
use Rattle.std.proofs.lemmas.Bool.Decides.{nat_tests}
use Rattle.vub_edge.proofs.Positions.{position-push}
use Rattle.vub_edge.specs.FileBells.{place_in}
use Rattle.vub_edge.specs.declared.file_bell.Attached.{Attached}
use Rattle.vub_edge.proofs.file_bell.FileBell.add.Goals as goal

pub returns-clause-attached : goal.returns-clause-attached
returns-clause-attached g c =
    let same : (c.args.one.queue == c.args.one.queue) ≡ true = grind (arith, nat_tests) in
    let more : c.push.new.self.items ≡ c.args.self.now.attached.items ++ (c.args.one ∷ []) = search rules in
    subst (λ xs. IsSome (place_in xs c.args.one.queue)) (sym more) (position-push (λ (a : Attached g.row.F.Denot). a.queue == c.args.one.queue) c.args.self.now.attached.items c.args.one same)
