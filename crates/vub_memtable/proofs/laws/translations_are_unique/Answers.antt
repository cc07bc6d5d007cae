use Rattle.vub_memtable.proofs.LawLemmas.{answer_of, guests_apart, one_range, part_of, range_of, users_apart}
use Rattle.vub_memtable.proofs.laws.translations_are_unique.Goals as goal

pub returns-clause-guest : goal.returns-clause-guest
returns-clause-guest c xs address len s p t q table = one_range (λ m. m.region.guest) xs address len s p t q (guests_apart xs table.apart)

pub returns-clause-user : goal.returns-clause-user
returns-clause-user c xs address len s p t q table = one_range (λ m. m.region.user) xs address len s p t q (users_apart xs table.apart)

pub returns-clause-guest_answer : goal.returns-clause-guest_answer
returns-clause-guest_answer c xs address len s p table some = (range_of (λ m. m.region.guest) xs address len s p, answer_of (λ m. m.region.guest) xs address len s p (guests_apart xs table.apart) some)

pub returns-clause-user_answer : goal.returns-clause-user_answer
returns-clause-user_answer c xs address len s p table some = (range_of (λ m. m.region.user) xs address len s p, answer_of (λ m. m.region.user) xs address len s p (users_apart xs table.apart) some)

pub returns-clause-guest_part : goal.returns-clause-guest_part
returns-clause-guest_part c xs address len s p past part = part_of (λ m. m.region.guest) xs address len s p past part

pub returns-clause-user_part : goal.returns-clause-user_part
returns-clause-user_part c xs address len s p past part = part_of (λ m. m.region.user) xs address len s p past part
