use Rattle.std.proofs.Common.{rules, ◌≡◌, ◌<◌, ◌^◌, arith}
use Rattle.vub_blkreq.specs.Config.{config_bytes}
use Rattle.vub_blkreq.proofs.ConfigLemmas.{fields_hold}
use Rattle.vub_blkreq.proofs.config.config_space.Goals as goal

pub returns-clause-fields : goal.returns-clause-fields
returns-clause-fields c =
    let are : c.put_u32-7.new.bytes ≡ config_bytes c.args.config.now = search rules in
    let capacity : c.args.config.now.capacity < 2 ^ 64 = omega arith in
    let queues : c.args.config.now.queues < 2 ^ 16 = omega arith in
    fields_hold c.args.config.now c.put_u32-7.new.bytes are capacity queues
