use Rattle.std.proofs.Common.{◌<◌, ◌+◌, ◌*◌, ◌%◌, ◌++◌, ◌∷◌, [], ℕ, List, length, filter, not, arith}
use Rattle.std.specs.Prelude.{slice_index}
use Rattle.vub_device.specs.Past.{is_among}
use Rattle.vub_steps.specs.declared.steps.Phase.TheVariants as phases
use Rattle.vub_infl_split.specs.declared.region.SplitStore.TheVariants.{SF1, SF2, SP3, SP4, SP6, SP7}
use Rattle.vub_infl_split.specs.Region.{RegionWords, words_of}
use Rattle.vub_region_facts.specs.Phases.{index_step, note_step, IsBatch, HasCounter, InLife}
use Rattle.vub_region_facts.proofs.BatchLemmas.{among_get_or}
use Rattle.vub_region_facts.proofs.LifeLemmas.{life_begins, life_left, fetch_gives_counter, fetch_accepts, publication_stores_element, publication_stores_link, publication_sets_last_batch_head, publication_shows_batch, publication_clears_entry, publication_notes_batch}
use Rattle.vub_region_facts.proofs.MemoryLemmas.{holds_stored, holds_elsewhere}
use Rattle.vub_region_facts.proofs.laws.a_life_keeps_the_open_requests.Goals as goal

-- each element of a batch is an entry
low : (n : ℕ) (batch : List ℕ) (e : ℕ) → IsBatch n batch → e < length batch → slice_index batch e < n
low n batch e b more = b.below (slice_index batch e) (among_get_or batch e more)

pub returns-clause-begins : goal.returns-clause-begins
returns-clause-begins c r used head heads batch m p = life_begins r.size used head heads batch (words_of r m) p

pub returns-clause-counter : goal.returns-clause-counter
returns-clause-counter c r used head counter heads batch m small fits within out few p =
    holds_stored (InLife r.size used head (counter + 1) heads batch (phases.Fetch 1)) r (SF1 head counter) m small within (omega (arith, few)) (fetch_gives_counter r.size used head counter heads batch (words_of r m) fits within out few p)

pub returns-clause-accept : goal.returns-clause-accept
returns-clause-accept c r used head next counter heads batch m small fits p =
    let given : HasCounter r.size used head counter (words_of r m) = p.under_way.given (omega arith) in
    holds_stored (InLife r.size used next counter (heads ++ head ∷ []) batch phases.Rest) r (SF2 head) m small given.within tt (fetch_accepts r.size used head next counter heads batch (words_of r m) fits p)

pub returns-clause-element : goal.returns-clause-element
returns-clause-element c r used head counter heads batch e done m st more which off p =
    holds_elsewhere (InLife r.size used head counter heads batch (phases.Publish (done + 1))) r m st off (publication_stores_element r.size used head counter heads batch e done (words_of r m) more which p)

pub returns-clause-link : goal.returns-clause-link
returns-clause-link c r used head counter heads batch e m small fits more b p =
    let w : RegionWords = words_of r m in
    holds_stored (InLife r.size used head counter heads batch (phases.Publish (4 * e + 3))) r (SP3 (slice_index batch e) w.last_batch_head) m small (low r.size batch e b more) p.sound.last_fits
    (publication_stores_link r.size used head counter heads batch e w fits more b p)

pub returns-clause-last_batch_head : goal.returns-clause-last_batch_head
returns-clause-last_batch_head c r used head counter heads batch e m small fits more b p =
    holds_stored (InLife r.size used head counter heads batch (phases.Publish (4 * e + 4))) r (SP4 (slice_index batch e)) m small tt (omega (arith, low r.size batch e b more, small))
    (publication_sets_last_batch_head r.size used head counter heads batch e (words_of r m) small fits more b p)

pub returns-clause-used_idx : goal.returns-clause-used_idx
returns-clause-used_idx c r used head next counter heads batch m st small fits b off p =
    holds_elsewhere (InLife r.size ((used + length batch) % 65536) next counter (filter (λ (h : ℕ). not (is_among batch h)) heads) batch (phases.Publish (index_step batch + 1))) r m st off
    (publication_shows_batch r.size used head next counter heads batch (words_of r m) small fits b p)

pub returns-clause-clear : goal.returns-clause-clear
returns-clause-clear c r used head counter heads batch e m small more b p =
    holds_stored (InLife r.size used head counter heads batch (phases.Publish (index_step batch + 1 + (e + 1)))) r (SP6 (slice_index batch e)) m small (low r.size batch e b more) tt
    (publication_clears_entry r.size used head counter heads batch e (words_of r m) more p)

pub returns-clause-note : goal.returns-clause-note
returns-clause-note c r used head counter heads batch m small fits p =
    holds_stored (InLife r.size used head counter heads batch (phases.Publish (note_step batch + 1))) r (SP7 used) m small tt fits (publication_notes_batch r.size used head counter heads batch (words_of r m) fits p)

pub returns-clause-elsewhere : goal.returns-clause-elsewhere
returns-clause-elsewhere c r used head counter heads batch phase m st off p = holds_elsewhere (InLife r.size used head counter heads batch phase) r m st off p

pub returns-clause-ends : goal.returns-clause-ends
returns-clause-ends c r used head counter base heads batch phase m p = life_left r.size used head counter base heads batch phase (words_of r m) p
