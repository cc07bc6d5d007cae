use Rattle.std.proofs.Common.{◌^◌, arith, refl}
use Rattle.std.proofs.lemmas.Bool.{le-ltb}
use Rattle.std.specs.Str.Parse.{digits_value}
use Rattle.vub_schedule.proofs.Digits.{digit_step}
use Rattle.vub_schedule.proofs.reading.value_of.Goals as goal

pub returns-in_err-checked_mul : goal.returns-in_err-checked_mul
returns-in_err-checked_mul c =
    let s = digit_step c.args.digits.now c.loop-digit.digit-index c.requires c.loop-digit-test.true in
    rw c.from_residual.ensures (rw (le-ltb (digits_value 10 c.args.digits.now) (2 ^ 64) (omega (arith, s.next, s.below, c.in_err-checked_mul.ensures))) refl)

pub overflow_sub-digit : goal.overflow_sub-digit
overflow_sub-digit c = (digit_step c.args.digits.now c.loop-digit.digit-index c.requires c.loop-digit-test.true).low

pub returns-in_err-value : goal.returns-in_err-value
returns-in_err-value c =
    let s = digit_step c.args.digits.now c.loop-digit.digit-index c.requires c.loop-digit-test.true in
    rw c.from_residual-in_err-value.ensures (rw (le-ltb (digits_value 10 c.args.digits.now) (2 ^ 64) (omega (arith, s.next, s.below, c.in_err-value.ensures, c.in_ok-checked_mul.ensures))) refl)

pub loop-digit-preserved : goal.loop-digit-preserved
loop-digit-preserved c =
    let s = digit_step c.args.digits.now c.loop-digit.digit-index c.requires c.loop-digit-test.true in
    record { is = omega (arith, s.next, c.in_ok-checked_mul.ensures, c.in_ok-value.ensures); fits = omega (arith, c.in_ok-checked_mul.ensures, c.in_ok-value.ensures) }
