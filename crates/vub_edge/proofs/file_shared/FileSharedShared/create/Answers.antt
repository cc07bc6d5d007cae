use Rattle.std.proofs.Common.{rules}
use Rattle.vub_edge.proofs.SpaceLemmas.{all_there}
use Rattle.vub_edge.proofs.file_shared.FileSharedShared.create.Goals as goal

pub returns-in_err-name-clause-all_handed : goal.returns-in_err-name-clause-all_handed
returns-in_err-name-clause-all_handed g c all =
    let there = all_there c.args.self.now all in
    search rules

pub returns-clause-all_handed : goal.returns-clause-all_handed
returns-clause-all_handed g c all =
    let there = all_there c.args.self.now all in
    search rules
