use Rattle.std.proofs.Common.{◌≡◌, ◌<◌, ◌≤◌, ℕ, ◌+◌, ◌-◌, not, ap, ◌∙◌, arith}
use Rattle.vub_base.specs.declared.position.Position.{Position}
use Rattle.vub_base.proofs.PositionLemmas.{moved_within, moved_past}
use Rattle.vub_base.proofs.position.Position.advance.Goals as goal

pub returns-then-next-end-clause-counted : goal.returns-then-next-end-clause-counted
returns-then-next-end-clause-counted c p some is =
    let index : c.from.result + c.from-2.result ≡ c.args.self.index + c.args.by = omega (arith, c.from.ensures, c.from-2.ensures) in
    let less : c.args.self.index + c.args.by < c.args.size = omega (arith, c.if-next-end.true, c.from.ensures, c.from-2.ensures, c.from-end.ensures) in
    ap (λ (i : ℕ). let at : Position = record { index = i; wrap = c.args.self.wrap } in at) index ∙ moved_within c.args.size c.args.by p c.args.self less c.requires is

pub returns-else-next-end-clause-counted : goal.returns-else-next-end-clause-counted
returns-else-next-end-clause-counted c p some is =
    let index : c.from.result + c.from-2.result - c.from-end.result ≡ c.args.self.index + c.args.by - c.args.size = omega (arith, c.from.ensures, c.from-2.ensures, c.from-end.ensures) in
    let more : c.args.size ≤ c.args.self.index + c.args.by = omega (arith, c.if-next-end.false, c.from.ensures, c.from-2.ensures, c.from-end.ensures) in
    ap (λ (i : ℕ). let at : Position = record { index = i; wrap = not c.args.self.wrap } in at) index ∙ moved_past c.args.size c.args.by p c.args.self more some c.requires is
