use Rattle.std.proofs.Common.{rules, ◌≡◌}
use Rattle.vub_shared.specs.Watched.{count_in}
use Rattle.vub_shared.proofs.SpaceLemmas.{all_there}
use Rattle.vub_shared.proofs.watched_shared.WatchedSharedShared.create.Goals as goal

pub returns-then-is_err-clause-all_handed : goal.returns-then-is_err-clause-all_handed
returns-then-is_err-clause-all_handed c all =
    let there : count_in c.args.self.now ≡ 65536 = all_there c.args.self.now.memory all in
    let reserved = c.reserve.ensures.full there in
    search rules
