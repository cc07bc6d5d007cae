use Rattle.std.proofs.Common.{◌≡◌, ◌+◌, ◌-◌, ◌<◌, ◌∙◌, [], ◌∷◌, ◌++◌, length, sym, arith, length-append}
use Rattle.std.proofs.lemmas.Bool.Decides.{nat_tests}
use Rattle.vub_schedule.proofs.Requests.{fills_next, fills_fail, fills_end, fills_full}
use Rattle.vub_schedule.proofs.reading.fills_at.Goals.{else-loop-rest-test, then-loop-rest-test+in_default}
use Rattle.vub_schedule.proofs.reading.fills_at.Goals as goal

pub returns-in_err-fill : goal.returns-in_err-fill
returns-in_err-fill c =
    let fills = c.loop-rest.fills.items in
    let room : 0 < 8 - length fills = grind (arith, nat_tests, c.loop-rest-test.ensures.value, c.loop-rest-test.ensures.fits) in
    let none = fills_fail (8 - length fills) fills c.loop-rest.rest.now c.in-Some.after.now room (sym c.in-Some.ensures) c.in_err-fill.ensures in
    rw c.from_residual-in_err-fill.ensures (c.loop-rest.invariant ∙ none)

pub loop-rest-preserved : goal.loop-rest-preserved
loop-rest-preserved c =
    let fills = c.loop-rest.fills.items in
    let one_more = length-append fills (c.in_ok-fill.fill ∷ []) in
    let room : 8 - length fills ≡ 8 - length (fills ++ c.in_ok-fill.fill ∷ []) + 1 = grind (arith, nat_tests, one_more, c.loop-rest-test.ensures.value, c.loop-rest-test.ensures.fits) in
    rw c.push-in-loop-rest.ensures.items (c.loop-rest.invariant ∙ fills_next _ _ fills c.loop-rest.rest.now c.in-Some.after.now c.in_ok-fill.after.now c.in_ok-fill.fill room (sym c.in-Some.ensures) c.in_ok-fill.ensures)

pub returns : goal.returns
returns c =
    let fills = c.loop-rest.fills.items in
    elim c.loop-rest-test.branch [
      | else-loop-rest-test w ↦ c.loop-rest.invariant ∙ fills_full (8 - length fills) fills c.loop-rest.rest.now (grind (arith, nat_tests, w.loop-rest-test.ensures.value))
      | then-loop-rest-test+in_default w ↦ c.loop-rest.invariant ∙ fills_end (8 - length fills) fills c.loop-rest.rest.now (sym w.in_default.ensures)
    ]
