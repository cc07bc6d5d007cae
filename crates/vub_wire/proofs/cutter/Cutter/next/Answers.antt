use Rattle.std.proofs.Common.{◌≤◌, ap, sym, ◌∙◌, arith, length, drop}
use Rattle.std.proofs.lemmas.Slice.{between_to_end}
use Rattle.vub_wire.specs.Streams.{Held, total}
use Rattle.vub_wire.proofs.StreamLemmas.{hand_out}
use Rattle.vub_wire.proofs.cutter.Cutter.next.Goals as goal

pub returns-clause-message : goal.returns-clause-message
returns-clause-message c =
    let s = c.self.inside in
    let x = c.in_ok-header in
    let bytes = c.deref.result.now in
    let all : length bytes ≤ length bytes = omega arith in
    hand_out c.args.self.now s.bytes.items _ s.start x.length c.saturating_add-self-inside.result x.header x.message
    (sym (ap (λ (h : Held). h.held) c.self.view_is))
    (between_to_end bytes s.start (length bytes) all ∙ ap (drop s.start) c.deref.ensures.value)
    x.ensures.found.0 x.ensures.found.1
    (c.saturating_add-self-inside.ensures ∙ ap (λ (h : Held). total h.taken x.length) c.self.view_is)
