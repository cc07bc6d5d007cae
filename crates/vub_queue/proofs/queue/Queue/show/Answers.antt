use Rattle.std.proofs.Common.{refl, rules, arith}
use Rattle.std.proofs.lemmas.Grind.{common_steps}
use Rattle.vub_steps.specs.declared.steps.Step.TheVariants.{Index}
use Rattle.vub_queue.specs.declared.queue.Stepped.TheVariants as says
use Rattle.vub_queue.specs.QueueState.{state_of, seen_by}
use Rattle.vub_queue.proofs.MoveLemmas.{moves_by}
use Rattle.vub_queue.proofs.queue.Queue.show.Goals as goal

pub returns-in-Ok-publish_idx : goal.returns-in-Ok-publish_idx
returns-in-Ok-publish_idx g c =
    let s = state_of c.args.self.now in
    let moves = moves_by (g.M.Shared.told c.args.mem.now) says.Published Index s (state_of c.free_heads.new.self) c.requires.next (λ m tells. (refl, c.free_heads.ensures.state (seen_by s m).head)) in
    record {
      ring = search rules;
      stopped = search rules;
      lies = search rules;
      moves = moves;
      makes_row = grind (arith, common_steps);
      publishing = search rules;
      no_disk = search rules;
      silent = search rules;
      cause = search rules;
    }
