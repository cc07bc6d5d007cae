-- What a command writes of one record more, or a part of it.
use Rattle.std.proofs.Common.{◌≡◌, ℕ, ◌<◌, ◌+◌, ◌-◌, ◌^◌, List, [], ◌∷◌, ◌++◌, take, length, get_or, refl, sym, ap, ◌∙◌, subst, append_assoc, arith, length-take, Option}
use Rattle.std.proofs.lemmas.List.{take_more, append-nil}
use Rattle.std.proofs.lemmas.Grind.{flat_map-append}
use Rattle.std.specs.List.{flat_map}
use Rattle.vub_base.specs.declared.header.Header1.{Header1}
use Rattle.vub_schedule.specs.declared.types.Event.{Event}
use Rattle.vub_world.specs.declared.machine.Machine.{Machine}
use Rattle.vub_report.specs.declared.items.Record.{Record}
use Rattle.vub_run.specs.LegalRuns.{IsLegalRun, EveryDrainServes}
use Rattle.vub_world.specs.MachineAt.{StandsFor, StandsOn, GoesOn}
use Rattle.vub_report.specs.RecordText.{record_spelling, entry_line, entries_spelling}
use Rattle.vub_report.specs.Histories.{entries_of, history_of}
use Rattle.vublk.specs.Flows.{WrotePart, WroteBut}
use Rattle.vublk.specs.Records.{piece_of, records_text}
use Rattle.vublk.specs.declared.words.Command.{Command}
use Rattle.vublk.specs.declared.words.Command.TheVariants.{Replay, Entries}
use Rattle.vublk.proofs.Streams.{But-none, But-then, But-part}

history-more : (rs : List Record) (r : Record) → history_of (rs ++ r ∷ []) ≡ history_of rs ++ entries_of r.items
history-more [] r = append-nil (entries_of r.items)
history-more (x ∷ rs) r = ap (λ es. entries_of x.items ++ es) (history-more rs r) ∙ sym (append_assoc (entries_of x.items) (history_of rs) (entries_of r.items))

records_text-more : (c : Command) (rs : List Record) (r : Record) → records_text c (rs ++ r ∷ []) ≡ records_text c rs ++ piece_of c r
records_text-more Replay rs r = flat_map-append record_spelling rs (r ∷ []) ∙ ap (λ (t : List ℕ). flat_map record_spelling rs ++ t) (append-nil (record_spelling r))
records_text-more Entries rs r = ap (λ es. entries_spelling es) (history-more rs r) ∙ flat_map-append entry_line (history_of rs) (entries_of r.items)

-- a world after the first so many events, with their records
pub record IsPlayed (h : Header1) (w : Machine) (events : List Event) (rs : List Record) : Type 0 where
  pub stands : StandsFor w events rs
  pub runs : IsLegalRun h events rs
  pub drained : EveryDrainServes rs

-- before the first
pub none_drained : EveryDrainServes []
none_drained [] r later q parts is attached = absurd (cc)
none_drained (x ∷ before) r later q parts is attached = absurd (cc)

pub no_run : (h : Header1) → IsLegalRun h [] []
no_run h = record { run = tt; entries = tt; legal = tt; tracked = tt; lawful = tt; spared = tt }

no_text : (c : Command) → records_text c [] ≡ []
no_text Replay = refl
no_text Entries = refl

pub none_played : (c : Command) (h : Header1) (w : Machine) (at : Option (List ℕ)) (first : List ℕ) → StandsFor w [] [] → (rs : List Record) × IsPlayed h w [] rs × WroteBut at at first (first ++ records_text c rs)
none_played c h w at first stands = ([], record { stands = stands; runs = no_run h; drained = none_drained }, But-none at first (first ++ records_text c []) (sym (ap (λ (t : List ℕ). first ++ t) (no_text c) ∙ append-nil first)))

-- and after one more
pub played_more : (h : Header1) (w now : Machine) (events : List Event) (i : ℕ) (e : Event) (rs : List Record) (r : Record) → i < length events → length events < 2 ^ 64 - 1 → e ≡ get_or events i e → w.header ≡ h → IsPlayed h w (take i events) rs → StandsOn w now e r
    → IsPlayed h now (take (i + 1) events) (rs ++ r ∷ [])
played_more h w now events i e rs r lt few is same so on =
    let went : GoesOn w now e (take i events ++ e ∷ []) (rs ++ r ∷ []) = on (take i events) rs so.stands in
    let at : take i events ++ e ∷ [] ≡ take (i + 1) events = ap (λ (x : Event). take i events ++ x ∷ []) is ∙ sym (take_more events i e lt) in record {
      stands = subst (λ (es : List Event). StandsFor now es (rs ++ r ∷ [])) at went.stands;
      runs = subst (λ (k : Header1). IsLegalRun k (take (i + 1) events) (rs ++ r ∷ [])) same (subst (λ (es : List Event). IsLegalRun w.header es (rs ++ r ∷ [])) at went.runs);
      drained = went.drained (omega (arith, lt, few, ap length at, length-take (i + 1) events));
    }

-- the text after what waited at first grows by the piece of one record more
put_more : (c : Command) (first : List ℕ) (rs : List Record) (r : Record) → (first ++ records_text c rs) ++ piece_of c r ≡ first ++ records_text c (rs ++ r ∷ [])
put_more c first rs r = append_assoc first (records_text c rs) (piece_of c r) ∙ ap (λ (t : List ℕ). first ++ t) (sym (records_text-more c rs r))

pub Whole-more : (c : Command) (h : Header1) (w now : Machine) (events : List Event) (i : ℕ) (e : Event) (rs : List Record) (r : Record) (before at after : Option (List ℕ)) (first waiting later : List ℕ)
    → i < length events → length events < 2 ^ 64 - 1 → e ≡ get_or events i e → w.header ≡ h → IsPlayed h w (take i events) rs → StandsOn w now e r → WroteBut before at waiting (first ++ records_text c rs) → WroteBut at after later (waiting ++ piece_of c r)
    → (rs : List Record) × IsPlayed h now (take (i + 1) events) rs × WroteBut before after later (first ++ records_text c rs)
Whole-more c h w now events i e rs r before at after first waiting later lt few is same so on wrote next =
    (rs ++ r ∷ [], played_more h w now events i e rs r lt few is same so on, rw (← put_more c first rs r) (But-then before at after waiting later (first ++ records_text c rs) (piece_of c r) wrote next))

pub Part-more : (c : Command) (h : Header1) (w now : Machine) (events : List Event) (i : ℕ) (e : Event) (rs : List Record) (r : Record) (before at after : Option (List ℕ)) (first waiting : List ℕ)
    → i < length events → length events < 2 ^ 64 - 1 → e ≡ get_or events i e → w.header ≡ h → IsPlayed h w (take i events) rs → StandsOn w now e r → WroteBut before at waiting (first ++ records_text c rs) → WrotePart at after (waiting ++ piece_of c r)
    → (n : ℕ) × (rs : List Record) × IsLegalRun h (take n events) rs × EveryDrainServes rs × WrotePart before after (first ++ records_text c rs)
Part-more c h w now events i e rs r before at after first waiting lt few is same so on wrote part =
    let next : IsPlayed h now (take (i + 1) events) (rs ++ r ∷ []) = played_more h w now events i e rs r lt few is same so on in
    (i + 1, rs ++ r ∷ [], next.runs, next.drained, rw (← put_more c first rs r) (But-part before at after waiting (first ++ records_text c rs) (piece_of c r) wrote part))
