-- What a command writes before all records, and then of records.
use Rattle.std.proofs.Common.{◌≡◌, ℕ, List, [], ◌++◌, length, take, refl, ap, sym, ◌∙◌, subst, Option}
use Rattle.std.proofs.Math.Seq.{take-length}
use Rattle.std.proofs.lemmas.List.{append-nil}
use Rattle.vub_base.specs.declared.header.Header1.{Header1}
use Rattle.vub_schedule.specs.declared.types.Event.{Event}
use Rattle.vub_schedule.specs.declared.types.Schedule.{Schedule}
use Rattle.vub_report.specs.declared.items.Record.{Record}
use Rattle.vub_run.specs.LegalRuns.{IsLegalRun, EveryDrainServes}
use Rattle.vublk.specs.declared.words.Command.{Command}
use Rattle.vublk.specs.declared.words.Command.TheVariants.{Replay, Entries}
use Rattle.vublk.specs.Flows.{Wrote, WrotePart, WroteBut}
use Rattle.vublk.specs.Records.{written, head_of, records_text}
use Rattle.vublk.specs.Ends.{PrintsAll, PrintsSome, PrintsPart}
use Rattle.vublk.proofs.OneMore.{no_run, none_drained}
use Rattle.vublk.proofs.Streams.{But-then, But-part, But-flushed, But-flushed_part}

written_parts : (c : Command) (h : Header1) (rs : List Record) → head_of c h ++ records_text c rs ≡ written c h rs
written_parts Replay h rs = refl
written_parts Entries h rs = refl

written_none : (c : Command) (h : Header1) → written c h [] ≡ head_of c h
written_none Replay h = append-nil (head_of Replay h)
written_none Entries h = refl

all_under : (s : Schedule) (h : Header1) (events : List Event) (rs : List Record) → h ≡ s.header → events ≡ s.events → IsLegalRun h events rs → IsLegalRun s.header s.events rs
all_under s h events rs under same run = subst (λ (k : Header1). IsLegalRun k s.events rs) under (subst (λ (es : List Event). IsLegalRun h es rs) same run)

run_under : (s : Schedule) (h : Header1) (events : List Event) (n : ℕ) (rs : List Record) → h ≡ s.header → events ≡ s.events → IsLegalRun h (take n events) rs → IsLegalRun s.header (take n s.events) rs
run_under s h events n rs under same run = subst (λ (k : Header1). IsLegalRun k (take n s.events) rs) under (subst (λ (es : List Event). IsLegalRun h (take n es) rs) same run)

-- ---- after the head, and with what waits written

-- what was put after the head, of which all was put but what waited
put_after : (c : Command) (h : Header1) (rs : List Record) (first : List ℕ) → first ≡ [] → (first ++ head_of c h) ++ records_text c rs ≡ written c h rs
put_after c h rs first none = ap (λ (t : List ℕ). (t ++ head_of c h) ++ records_text c rs) none ∙ written_parts c h rs

But-after : (c : Command) (s : Schedule) (rs : List Record) (before at after : Option (List ℕ)) (first waiting later : List ℕ) → first ≡ [] → WroteBut before at waiting (first ++ head_of c s.header) → WroteBut at after later (waiting ++ records_text c rs)
    → WroteBut before after later (written c s.header rs)
But-after c s rs before at after first waiting later none head p =
    subst (λ (t : List ℕ). WroteBut before after later t) (put_after c s.header rs first none) (But-then before at after waiting later (first ++ head_of c s.header) (records_text c rs) head p)

pub Part-after : (c : Command) (s : Schedule) (h : Header1) (events : List Event) (before at after : Option (List ℕ)) (first waiting : List ℕ) → h ≡ s.header → events ≡ s.events → first ≡ [] → WroteBut before at waiting (first ++ head_of c s.header)
    → (n : ℕ) × (rs : List Record) × IsLegalRun h (take n events) rs × EveryDrainServes rs × WrotePart at after (waiting ++ records_text c rs) → PrintsPart c s before after
Part-after c s h events before at after first waiting under same none head p = (
  p.0,
  p.1,
  run_under s h events p.0 p.1 under same p.2,
  p.3,
  subst (λ (t : List ℕ). WrotePart before after t) (put_after c s.header p.1 first none) (But-part before at after waiting (first ++ head_of c s.header) (records_text c p.1) head p.4),
)

-- all of a run was put
pub All-flushed : (c : Command) (s : Schedule) (h : Header1) (events : List Event) (before at after end : Option (List ℕ)) (first waiting later : List ℕ) → h ≡ s.header → events ≡ s.events → first ≡ [] → WroteBut before at waiting (first ++ head_of c s.header)
    → (rs : List Record) × IsLegalRun h events rs × EveryDrainServes rs × WroteBut at after later (waiting ++ records_text c rs) → Wrote after end later → PrintsAll c s before end
All-flushed c s h events before at after end first waiting later under same none head p flushed = (
  p.0,
  all_under s h events p.0 under same p.1,
  p.2,
  But-flushed before after end later (written c s.header p.0) (But-after c s p.0 before at after first waiting later none head p.3) flushed,
)

pub All-flushed_part : (c : Command) (s : Schedule) (h : Header1) (events : List Event) (before at after end : Option (List ℕ)) (first waiting later : List ℕ) → h ≡ s.header → events ≡ s.events → first ≡ [] → WroteBut before at waiting (first ++ head_of c s.header)
    → (rs : List Record) × IsLegalRun h events rs × EveryDrainServes rs × WroteBut at after later (waiting ++ records_text c rs) → WrotePart after end later → PrintsPart c s before end
All-flushed_part c s h events before at after end first waiting later under same none head p flushed = (
  length s.events,
  p.0,
  subst (λ (es : List Event). IsLegalRun s.header es p.0) (sym (take-length s.events)) (all_under s h events p.0 under same p.1),
  p.2,
  But-flushed_part before after end later (written c s.header p.0) (But-after c s p.0 before at after first waiting later none head p.3) flushed,
)

-- what was put of a run of the first events
pub Some-flushed : (c : Command) (s : Schedule) (h : Header1) (events : List Event) (before at after end : Option (List ℕ)) (first waiting later : List ℕ) → h ≡ s.header → events ≡ s.events → first ≡ [] → WroteBut before at waiting (first ++ head_of c s.header)
    → (n : ℕ) × (rs : List Record) × IsLegalRun h (take n events) rs × EveryDrainServes rs × WroteBut at after later (waiting ++ records_text c rs) → Wrote after end later → PrintsSome c s before end
Some-flushed c s h events before at after end first waiting later under same none head p flushed = (
  p.0,
  p.1,
  run_under s h events p.0 p.1 under same p.2,
  p.3,
  But-flushed before after end later (written c s.header p.1) (But-after c s p.1 before at after first waiting later none head p.4) flushed,
)

pub Some-flushed_part : (c : Command) (s : Schedule) (h : Header1) (events : List Event) (before at after end : Option (List ℕ)) (first waiting later : List ℕ) → h ≡ s.header → events ≡ s.events → first ≡ [] → WroteBut before at waiting (first ++ head_of c s.header)
    → (n : ℕ) × (rs : List Record) × IsLegalRun h (take n events) rs × EveryDrainServes rs × WroteBut at after later (waiting ++ records_text c rs) → WrotePart after end later → PrintsPart c s before end
Some-flushed_part c s h events before at after end first waiting later under same none head p flushed = (
  p.0,
  p.1,
  run_under s h events p.0 p.1 under same p.2,
  p.3,
  But-flushed_part before after end later (written c s.header p.1) (But-after c s p.1 before at after first waiting later none head p.4) flushed,
)

pub Part-head : (c : Command) (s : Schedule) (before after : Option (List ℕ)) (first : List ℕ) → first ≡ [] → WrotePart before after (first ++ head_of c s.header) → PrintsPart c s before after
Part-head c s before after first none p = (0, [], no_run s.header, none_drained, subst (λ (t : List ℕ). WrotePart before after t) (ap (λ (t : List ℕ). t ++ head_of c s.header) none ∙ sym (written_none c s.header)) p)
