use Rattle.std.proofs.Common.{ap, sym, subst, ◌∙◌, List, ℕ}
use Rattle.vub_inflight.specs.Entries.{heads_of}
use Rattle.vub_inflight.specs.Readings.{read_list}
use Rattle.vub_infl_split.specs.Readings.{open_entries}
use Rattle.vub_infl_split.specs.Region.{words_of}
use Rattle.vub_infl_split.specs.Sound.{Sound}
use Rattle.vub_infl_split.proofs.ReadingLemmas.{sound_reads, sound_unchecked, words_fit, entries_sound}
use Rattle.vub_infl_split.proofs.laws.a_sound_region_is_read.Goals as goal

pub returns-clause-sound : goal.returns-clause-sound
returns-clause-sound c r m used fits is =
    let list = ap (λ x. heads_of (read_list x (open_entries r.size used (words_of r m)))) is in
    subst (λ (heads : List ℕ). Sound r.size used heads (words_of r m)) (sym list) (entries_sound r.size used (words_of r m) (words_fit r m fits) is)

pub returns-clause-reads : goal.returns-clause-reads
returns-clause-reads c n used heads w s = sound_reads n used heads w s

pub returns-clause-heads : goal.returns-clause-heads
returns-clause-heads c n used heads w s = ap (λ x. heads_of (read_list x (open_entries n used w))) (sound_reads n used heads w s) ∙ s.reads

pub returns-clause-unchecked : goal.returns-clause-unchecked
returns-clause-unchecked c n used heads w s = sound_unchecked n used heads w s
