use Rattle.std.proofs.Common.{List, sym, subst}
use Rattle.vub_session.proofs.HeldLemmas.{answer_held}
use Rattle.vub_session.specs.Lies.{AreHeld}
use Rattle.vub_session.specs.Table.{answered, created, looked_up}
use Rattle.vub_session.specs.declared.finding.Found.{Found}
use Rattle.vub_session.specs.declared.state.State.{State}
use Rattle.vub_session.proofs.session.Session.answer.Goals as goal

pub returns-clause-held : goal.returns-clause-held
returns-clause-held g c = λ held.
    let m = g.M.Shared in
    let before = c.args.mem.now in
    let now = c.look_up-found.new.mem in
    let s : State = c.self.inside.state in
    let message = c.args.message.now in
    let found : List Found = c.in_ok-found.found.items in
    let S : State → Type 0 = λ x. AreHeld (m.handed before) (m.sizes before) x in
    let N : State → Type 0 = λ x. AreHeld (m.handed now) (m.sizes now) x in
    let F : List Found → Type 0 = λ fs. N (answered s c.args.header.now message fs).0 in
    let kept : F found = answer_held m.told m.trail m.names m.handed m.sizes before now (created s message) (looked_up message) c.args.names.now s c.args.header.now message found
    c.in_ok-found.ensures.few c.in_ok-found.ensures.answered (subst S (sym c.self.view_is) held) in
    subst N (sym c.answer.ensures.next) (subst F (sym c.deref.ensures.0) kept)
