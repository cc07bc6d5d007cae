use Rattle.std.proofs.Common.{◌<◌, ◌∙◌, ap, List, arith}
use Rattle.vub_base.specs.declared.pending.Pending.{Pending}
use Rattle.vub_inflight.specs.Entries.{heads_of}
use Rattle.vub_rec_split.specs.Starts.{due_in}
use Rattle.vub_rec_split.proofs.LoadLemmas.{lies_on}
use Rattle.vub_rec_split.proofs.StandLemmas.{told_moved, told_either, stands_on, left_on, stands_undamaged, stands_reads, done_reads}
use Rattle.vub_rec_split.proofs.recovery.SplitRecovery.step.Goals as goal

pub returns-clause-lies : goal.returns-clause-lies
returns-clause-lies g c = lies_on (g.M.Shared.sizes c.args.mem.now) (g.M.Shared.sizes c.go_on.new.mem) c.args.self.now c.go_on.new.self c.go_on.ensures.keeps_spaces.same_sizes c.go_on.ensures.same_queue c.requires.lies

pub returns-clause-undamaged : goal.returns-clause-undamaged
returns-clause-undamaged g c heads m told stands fault = stands_undamaged c.args.self.now m heads c.go_on.result fault stands (c.go_on.ensures.answers m told)

pub returns-clause-stands : goal.returns-clause-stands
returns-clause-stands g c heads m told stands fine m' told' =
    let small : c.args.self.now.region.size < 65536 = omega (arith, c.requires.lies.same_size, c.requires.lies.ring.few) in
    let now = told_moved _ _ _ _ _ _ _ c.go_on.result c.args.self.now.region (due_in c.args.self.now m) m (c.go_on.ensures.due m told) told fine in
    stands_on c.args.self.now c.go_on.new.self m m' heads (g.M.Shared.told c.go_on.new.mem) (g.met.M.Shared.told_fits c.args.mem.now m told) small stands (c.go_on.ensures.state m told fine) now told'

pub returns-clause-left : goal.returns-clause-left
returns-clause-left g c heads m told stands m' told' =
    let small : c.args.self.now.region.size < 65536 = omega (arith, c.requires.lies.same_size, c.requires.lies.ring.few) in
    let now = told_either _ _ _ _ _ _ _ c.go_on.result c.args.self.now.region (due_in c.args.self.now m) m (c.go_on.ensures.due m told) told in
    (left_on c.args.self.now m m' heads (g.M.Shared.told c.go_on.new.mem) (g.met.M.Shared.told_fits c.args.mem.now m told) small stands now told').0

pub returns-clause-same_entries : goal.returns-clause-same_entries
returns-clause-same_entries g c heads m told stands m' told' =
    let small : c.args.self.now.region.size < 65536 = omega (arith, c.requires.lies.same_size, c.requires.lies.ring.few) in
    let now = told_either _ _ _ _ _ _ _ c.go_on.result c.args.self.now.region (due_in c.args.self.now m) m (c.go_on.ensures.due m told) told in
    (left_on c.args.self.now m m' heads (g.M.Shared.told c.go_on.new.mem) (g.met.M.Shared.told_fits c.args.mem.now m told) small stands now told').1

pub returns-clause-reading : goal.returns-clause-reading
returns-clause-reading g c heads m told stands is_done =
    c.go_on.ensures.list m told is_done ∙ done_reads c.args.self.now m heads c.go_on.result (g.met.M.Shared.told_fits c.args.mem.now m told) stands (c.go_on.ensures.answers m told) is_done

pub returns-clause-open_heads : goal.returns-clause-open_heads
returns-clause-open_heads g c heads m told stands is_done =
    let read = c.go_on.ensures.list m told is_done ∙ done_reads c.args.self.now m heads c.go_on.result (g.met.M.Shared.told_fits c.args.mem.now m told) stands (c.go_on.ensures.answers m told) is_done in
    ap (λ (entries : List Pending). heads_of entries) read ∙ stands_reads c.args.self.now m heads stands
