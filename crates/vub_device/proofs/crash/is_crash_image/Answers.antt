use Rattle.std.proofs.Common.{◌≡◌, true, false, reverse, arith}
use Rattle.std.specs.Prelude.{Contains}
use Rattle.std.proofs.lemmas.Grind.{common_steps}
use borrow.Author.Count.{below_more}
use Rattle.vub_device.specs.Crash.{image_at, candidates}
use Rattle.vub_device.specs.Places.{is_held}
use Rattle.vub_device.proofs.Candidates.{Contains-from_is_held, is_held-from_Contains}
use Rattle.vub_device.proofs.crash.is_crash_image.Goals as goal

pub returns-then-not-is_candidate : goal.returns-then-not-is_candidate
returns-then-not-is_candidate c =
    let s = c.loop-sector.sector in
    let missed : is_held (candidates (reverse c.args.past.now) s) (image_at c.args.image.now s) ≡ false = grind (arith, common_steps) in
    (λ no. cc, λ is. let found : is_held (candidates (reverse c.args.past.now) s) (image_at c.args.image.now s) ≡ true = is_held-from_Contains (candidates (reverse c.args.past.now) s) (image_at c.args.image.now s) (is.each s (omega arith)) in cc)

pub loop-sector-preserved : goal.loop-sector-preserved
loop-sector-preserved c =
    let s = c.loop-sector.sector in
    let found : is_held (candidates (reverse c.args.past.now) s) (image_at c.args.image.now s) ≡ true = grind (arith, common_steps) in
    below_more (λ t. Contains (candidates (reverse c.args.past.now) t) (image_at c.args.image.now t)) s c.loop-sector.invariant (Contains-from_is_held (candidates (reverse c.args.past.now) s) (image_at c.args.image.now s) found)
