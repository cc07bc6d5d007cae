use Rattle.vub_schedule.proofs.Digits.{AllDigits-front}
use Rattle.vub_schedule.proofs.reading.number_at.Goals as goal

pub value_of-requires : goal.value_of-requires
value_of-requires c = rw (c.split_at.ensures.front, c.digit_count.ensures) (AllDigits-front c.args.bytes.now)
