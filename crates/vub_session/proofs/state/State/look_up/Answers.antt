use Rattle.std.proofs.Common.{◌≡◌, ◌≢◌, ◌⊎◌, IsOk, inl, inr}
use Rattle.vub_session.proofs.BellLemmas.{holds_at_err}
use Rattle.vub_session.specs.declared.handled.SessionFault.TheVariants as faults
use Rattle.vub_session.proofs.state.State.look_up.Goals as goal

pub returns-clause-bell_kept : goal.returns-clause-bell_kept
returns-clause-bell_kept g c =
    let same = g.B.Bell.told c.attach_bell.new.bell ≡ g.B.Bell.told c.args.bell.now in
    let either : same ⊎ IsOk c.find_named.result = elim c.in_ok-attach_bell.ensures.alone [ inl kept ↦ inl kept | inr alone ↦ inr (c.find_named.ensures.nothing alone.0 alone.1) ] in
    holds_at_err c.find_named.result same (λ e. e ≢ faults.Bell) either
