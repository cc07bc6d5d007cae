use Rattle.std.proofs.Common.{subst, rules}
use Rattle.std.specs.Prelude.{Option}
use Rattle.vub_shared.specs.Bytes.{Bytes}
use Rattle.vub_queue.specs.QueueState.{state_of, Moves, Unless, is_fault}
use Rattle.vub_queue.proofs.queue.Queue.note_used.Goals as goal

pub returns : goal.returns
returns g c =
    let moves = subst (λ (o : Option Bytes). Unless (is_fault c.store_in_region.result) (Moves o c.store_in_region.result (state_of c.args.self.now) (state_of c.store_in_region.new.self))) c.in-Ok.ensures.only_loads.same_told c.store_in_region.ensures.moves in
    record {
      ring = search rules;
      stopped = search rules;
      lies = search rules;
      moves = moves;
      makes_row = search rules;
      publishing = search rules;
      no_disk = search rules;
      silent = search rules;
      cause = search rules;
    }
