use Rattle.std.proofs.Common.{sym, subst, rules}
use Rattle.vub_base.specs.declared.store.Tag.{Tag}
use Rattle.vub_steps.specs.Rows.{region_row}
use Rattle.vub_queue.specs.declared.queue.Stepped.TheVariants as says
use Rattle.vub_queue.specs.QueueState.{state_of, Moves}
use Rattle.vub_queue.proofs.MoveLemmas.{plain_moves}
use Rattle.vub_queue.proofs.queue.Queue.store_in_region.Goals as goal

pub returns-in-Ok : goal.returns-in-Ok
returns-in-Ok g c =
    let s = state_of c.args.self.now in
    let told = g.M.Shared.told c.args.mem.now in
    let moves : Moves told (says.Stored c.tag.result) s (state_of c.advance.new.self) = subst (λ (tag : Tag). Moves told (says.Stored tag) s (state_of c.advance.new.self)) (sym c.tag.ensures)
    (plain_moves told (region_row s.recovery.region c.args.step) s (state_of c.advance.new.self) (λ m tells. (c.requires.due m tells).plain) (λ m tells. (c.requires.due m tells).row) c.advance.ensures.state) in
    record {
      ring = search rules;
      stopped = search rules;
      lies = search rules;
      moves = moves;
      makes_row = search rules;
      publishing = search rules;
      no_disk = search rules;
      silent = search rules;
      cause = search rules;
    }
