use Rattle.std.proofs.Common.{◌<◌, ◌+◌, ℕ}
use Rattle.vub_infl_split.specs.declared.region.SplitStore.TheVariants.{SI1, SI2, SI3, SR1, SR2}
use Rattle.vub_infl_split.specs.Region.{RegionWords, words_of}
use Rattle.vub_infl_split.specs.Readings.{counted}
use Rattle.vub_inflight.specs.Links.{link_at}
use Rattle.vub_region_facts.specs.Starts.{InNew, InSettling, IsSettled}
use Rattle.vub_region_facts.specs.Phases.{NotStarted}
use Rattle.vub_region_facts.proofs.BatchLemmas.{below_among}
use Rattle.vub_region_facts.proofs.StartLemmas.{start_begins, new_features, new_frees, new_makes, settling_link, settling_clears, settling_notes}
use Rattle.vub_region_facts.proofs.LifeLemmas.{not_started_left}
use Rattle.vub_region_facts.proofs.MemoryLemmas.{holds_stored, holds_elsewhere}
use Rattle.vub_region_facts.proofs.laws.a_start_keeps_the_open_requests.Goals as goal

pub returns-clause-begins : goal.returns-clause-begins
returns-clause-begins c r used heads base m fits p = start_begins r.size used heads base (words_of r m) fits p

pub returns-clause-features : goal.returns-clause-features
returns-clause-features c r used heads base m small p = holds_stored (InNew r.size used heads base 1) r SI1 m small tt tt (new_features r.size used heads base (words_of r m) p)

pub returns-clause-entry : goal.returns-clause-entry
returns-clause-entry c r used heads base i m small more p = holds_stored (InNew r.size used heads base (i + 2)) r (SI2 i) m small more tt (new_frees r.size used heads base i (words_of r m) more p)

pub returns-clause-header : goal.returns-clause-header
returns-clause-header c r used heads base m small fits p = holds_stored (IsSettled r.size used heads) r (SI3 used) m small tt fits (new_makes r.size used heads base (words_of r m) fits p)

pub returns-clause-clear : goal.returns-clause-clear
returns-clause-clear c r used heads count done m small more p =
    let w : RegionWords = words_of r m in
    let entry : ℕ = link_at w.next done w.last_batch_head in
    let low : entry < r.size = below_among r.size (counted used w) entry p.sound.within (settling_link r.size used heads count done w more p) in
    holds_stored (InSettling r.size used heads count (done + 1)) r (SR1 entry) m small low tt (settling_clears r.size used heads count done w more p)

pub returns-clause-note : goal.returns-clause-note
returns-clause-note c r used heads count m small fits p = holds_stored (IsSettled r.size used heads) r (SR2 used) m small tt fits (settling_notes r.size used heads count (words_of r m) fits p)

pub returns-clause-elsewhere : goal.returns-clause-elsewhere
returns-clause-elsewhere c r used heads base plan phase m st off p = holds_elsewhere (NotStarted r.size used heads base plan phase) r m st off p

pub returns-clause-cut_off : goal.returns-clause-cut_off
returns-clause-cut_off c r used heads base plan phase m p = not_started_left r.size used heads base plan phase (words_of r m) p
