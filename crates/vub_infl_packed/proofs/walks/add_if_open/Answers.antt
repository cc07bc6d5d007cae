use Rattle.std.proofs.Common.{◌+◌, refl, sym, subst, ap, List}
use Rattle.vub_base.specs.Pending.{PendingState}
use Rattle.vub_base.specs.declared.pending.Pending.{Pending}
use Rattle.vub_inflight.specs.Entries.{AreEntries}
use Rattle.vub_inflight.proofs.EntryLemmas.{entries_push}
use Rattle.vub_infl_packed.proofs.walks.add_if_open.Goals as goal

pub returns-clause-entries : goal.returns-clause-entries
returns-clause-entries g c f =
    let pushed = ap (λ (x : PendingState). x.items) c.push.ensures in
    subst (λ (xs : List Pending). AreEntries (c.args.index + 1) xs) (sym pushed) (entries_push c.args.index c.args.into.now.items _ refl f)
