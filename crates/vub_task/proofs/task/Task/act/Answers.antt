use Rattle.std.proofs.Common.{◌≡◌, ◌+◌, ◌*◌, length, rules, sym, ◌∙◌}
use Rattle.vub_task.proofs.TaskLemmas.{act_written, act_changed}
use Rattle.vub_task.proofs.task.Task.act.Goals as goal

pub returns-clause-written : goal.returns-clause-written
returns-clause-written g c m told =
    let t = c.args.transfer in
    let whole : length c.args.sector.now ≡ 512 = search rules in
    act_written _ _ (t.sector + t.done) c.load.new.into _ m t.span.space.number c.sector_place-place.result (t.span.place + 512 * t.done) (length c.args.sector.now) c.load.result c.write.result
    c.sector_place-place.ensures whole told (sym c.is_err.ensures.value ∙ c.if-is_err.false) c.load.ensures.loaded (sym c.is_err-2.ensures.value ∙ c.if-is_err-2.false) c.write.ensures.writes

pub returns-then-is_err-2-clause-changed : goal.returns-then-is_err-2-clause-changed
returns-then-is_err-2-clause-changed g c m told =
    let t = c.args.transfer in
    let whole : length c.args.sector.now ≡ 512 = search rules in
    act_changed _ _ (t.sector + t.done) c.load.new.into _ m t.span.space.number c.sector_place-place.result (t.span.place + 512 * t.done) (length c.args.sector.now) c.load.result c.write.result
    c.sector_place-place.ensures whole told (sym c.is_err.ensures.value ∙ c.if-is_err.false) c.load.ensures.loaded c.write.ensures.writes

pub returns-clause-changed : goal.returns-clause-changed
returns-clause-changed g c m told =
    let t = c.args.transfer in
    let whole : length c.args.sector.now ≡ 512 = search rules in
    act_changed _ _ (t.sector + t.done) c.load.new.into _ m t.span.space.number c.sector_place-place.result (t.span.place + 512 * t.done) (length c.args.sector.now) c.load.result c.write.result
    c.sector_place-place.ensures whole told (sym c.is_err.ensures.value ∙ c.if-is_err.false) c.load.ensures.loaded c.write.ensures.writes
