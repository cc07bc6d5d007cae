use Rattle.std.proofs.Common.{◌<◌, ◌∙◌, ap, sym, subst, ℕ, List, arith}
use Rattle.std.proofs.lemmas.Bool.Decides.{nat_tests}
use Rattle.vub_base.specs.declared.pending.Pending.{Pending}
use Rattle.vub_device.specs.Past.{is_among}
use Rattle.vub_shared.proofs.BytesLemmas.{word-lt}
use Rattle.vub_shared.specs.Bytes.{word}
use Rattle.vub_inflight.specs.Entries.{in_flight_but, heads_of, CountersRise}
use Rattle.vub_inflight.specs.Readings.{read_list}
use Rattle.vub_inflight.proofs.EntryLemmas.{among_by_counter}
use Rattle.vub_infl_packed.specs.Readings.{free_list, open_entries}
use Rattle.vub_infl_packed.specs.Region.{RegionWords, words_of, in_entry}
use Rattle.vub_infl_packed.proofs.FaultLemmas.{read_rises}
use Rattle.vub_infl_packed.proofs.laws.the_open_heads_are_listed.Goals as goal

pub returns-clause-heads : goal.returns-clause-heads
returns-clause-heads c n flags w i is = ap (λ x. is_among (heads_of (read_list x (open_entries n flags w))) i) is ∙ among_by_counter w.counter w.num (in_flight_but (free_list n flags w) w.inflight) n i

pub returns-clause-rising : goal.returns-clause-rising
returns-clause-rising c r m flags fits is =
    let w : RegionWords = words_of r m in
    let counters : (i : ℕ) → w.counter i < 18446744073709551616 = λ i. (let here : word 8 m r.space.number (in_entry r i 8) < 18446744073709551616 = word-lt 8 m r.space.number (in_entry r i 8) fits in grind (arith, nat_tests)) in
    subst (λ (xs : List Pending). CountersRise xs) (sym (ap (λ x. read_list x (open_entries r.size flags w)) is)) (read_rises r.size flags w counters is)
