use Rattle.std.proofs.Common.{rules, ◌≡◌}
use Rattle.vub_shared.specs.MemSpaces.{count_of}
use Rattle.vub_shared.proofs.SpaceLemmas.{all_there}
use Rattle.vub_shared.proofs.mem_shared.MemSharedShared.create.Goals as goal

pub returns-in-Ok-add_zeroed-clause-all_handed : goal.returns-in-Ok-add_zeroed-clause-all_handed
returns-in-Ok-add_zeroed-clause-all_handed c all =
    let there : count_of c.args.self.now ≡ 65536 = all_there c.args.self.now all in
    search rules

pub returns-in-Err-clause-all_handed : goal.returns-in-Err-clause-all_handed
returns-in-Err-clause-all_handed c all =
    let there : count_of c.args.self.now ≡ 65536 = all_there c.args.self.now all in
    search rules
