-- The laws on flushes and on writes that aren't cached.
use Rattle.std.proofs.Common.{◌≡◌, ℕ, ◌<◌, ◌≤◌, ◌+◌, ◌/◌, ◌==◌, ◌&&◌, ◌||◌, Bool, true, false, true≢false, List, [], ◌∷◌, ◌++◌, length, refl, sym, ◌∙◌, ap, subst, inl, inr, ◌⊎◌, arith}
use Rattle.std.specs.Prelude.{◌*◌, Some, None, if◌then◌else◌, nat_lt, slice_range}
use Rattle.std.proofs.lemmas.Bool.Decides.{nat_tests}
use Rattle.std.proofs.lemmas.Grind.{common_steps}
use Rattle.std.proofs.lemmas.List.{get_or-map, length-map}
use Rattle.vub_base.specs.declared.header.CacheMode.{CacheMode}
use Rattle.vub_base.specs.declared.header.CacheMode.TheVariants.{Through}
use Rattle.vub_device.specs.declared.entry.Answered.{Answered}
use Rattle.vub_device.specs.declared.entry.Asked.{Asked}
use Rattle.vub_device.specs.declared.entry.Asked.TheVariants.{Write, Flush}
use Rattle.vub_device.specs.declared.entry.Entry.{Entry}
use Rattle.vub_device.specs.declared.entry.Entry.TheVariants.{Offer, Accept, Look, Act, Sync, Fault, Publish, Kill, Start, Collect, Power}
use Rattle.vub_device.specs.declared.entry.SectorValue.{SectorValue}
use Rattle.vub_device.specs.Past.{offers, asked, published, numbers, is_among, acts, synced}
use Rattle.vub_device.specs.Crash.{image_at}
use Rattle.vub_device.specs.Requests.{effect_at, is_read_only, refusal}
use Rattle.vub_device.specs.Durable.{Succeeds, AnswersWrite, AnswersFlush, WritesSector, NoPower, Outlives}
use Rattle.vub_device.specs.Legal.{Allowed, LegalFrom, Legal, IsSuccess, IsSyncDue, IsAnswer, MayPublish, after}
use Rattle.vub_device.proofs.Distinct.{among_at}
use Rattle.vub_device.proofs.Histories.{kept, front_legal, rest_legal, after_append}
use Rattle.vub_device.proofs.Numbers.{is_among_append}
use Rattle.vub_device.proofs.Durable.{Acted, acted_kept, acted_made, Safe, safe_act, safe_sync, Bounds, bounds_kept}

-- ---- the sectors of a request

-- in place i it writes this sector
abbrev Writes : Asked → ℕ → ℕ → Type 0
Writes r i s = (v : List ℕ) × (effect_at r i ≡ Some (record { sector = s; value = v }))

some_same : (x y : SectorValue) → Some x ≡ Some y → x ≡ y
some_same x y e = cc

asked_same : (x y : Asked) → Some x ≡ Some y → x ≡ y
asked_same x y e = cc

either : (b : Bool) → (b ≡ true) ⊎ (b ≡ false)
either true = inl refl
either false = inr refl

below_or : (i n : ℕ) → i < n + 1 → (i < n) ⊎ (i ≡ n)
below_or i n lt = grind (arith, lt)

none_some : (x : SectorValue) → None ≡ Some x → ⊥
none_some x e = cc

-- an offer leaves what was asked for before
offered_before : (q k : ℕ) (past : List Entry) (p : ℕ) (o r : Asked) → k < offers past q → asked (Offer p o ∷ past) q k ≡ Some r → asked past q k ≡ Some r
offered_before q k past p o r known at =
    let same : asked (Offer p o ∷ past) q k ≡ asked past q k = grind (arith, common_steps, nat_tests) in
    sym same ∙ at

-- of a request that was asked for, each sector that it has come to was acted on
record Reaches (past : List Entry) (q k : ℕ) : Type 0 where
  bounds : Bounds past q k
  acted : (r : Asked) (i s : ℕ) → asked past q k ≡ Some r → i < acts past q k → Writes r i s → Acted past q k s

reaches_act : (capacity : ℕ) (mode : CacheMode) (q k : ℕ) (past : List Entry) (p j t : ℕ) (v : List ℕ) → Reaches past q k → Allowed capacity mode past (Act p j t v)
    → (r : Asked) (i s : ℕ) → asked past q k ≡ Some r → i < acts (Act p j t v ∷ past) q k → Writes r i s → Acted (Act p j t v ∷ past) q k s
reaches_act capacity mode q k past p j t v x is r i s at lt w =
    elim (either ((p == q) && (j == k))) [
      | inl same ↦
          let here : p ≡ q = grind (arith, common_steps, nat_tests) in
          let this : j ≡ k = grind (arith, common_steps, nat_tests) in
          let asked_is : asked past q k ≡ Some is.request = subst (λ (n : ℕ). asked past n k ≡ Some is.request) here (subst (λ (n : ℕ). asked past p n ≡ Some is.request) this is.works.asked) in
          let r_is : r ≡ is.request = asked_same r is.request (sym at ∙ asked_is) in
          let made : acts past p j ≡ acts past q k = ap (λ (n : ℕ). acts past n j) here ∙ ap (λ (n : ℕ). acts past q n) this in
          let more : acts (Act p j t v ∷ past) q k ≡ acts past q k + 1 = grind (arith, common_steps, nat_tests) in
          elim (below_or i (acts past q k) (subst (λ (n : ℕ). i < n) more lt)) [
            | inl old ↦ acted_kept q k s past (Act p j t v) tt (x.acted r i s at old w)
            | inr last ↦
                let next : effect_at r i ≡ Some (record { sector = t; value = v }) = ap (λ (o : Asked). effect_at o i) r_is ∙ ap (λ (n : ℕ). effect_at is.request n) (last ∙ sym made) ∙ is.next in
                let sector : t ≡ s = ap (λ (y : SectorValue). y.sector) (some_same (record { sector = t; value = v }) (record { sector = s; value = w.0 }) (sym next ∙ w.1)) in
                acted_made q k s past p j t v here this sector
          ]
      | inr other ↦
          let same : acts (Act p j t v ∷ past) q k ≡ acts past q k = grind (arith, common_steps, nat_tests) in
          acted_kept q k s past (Act p j t v) tt (x.acted r i s at (subst (λ (n : ℕ). i < n) same lt) w)
    ]

reaches_kept : (capacity : ℕ) (mode : CacheMode) (q k : ℕ) (past : List Entry) (e : Entry) → Reaches past q k → Allowed capacity mode past e → Reaches (e ∷ past) q k
reaches_kept capacity mode q k past (Act p j t v) x is = record { bounds = bounds_kept capacity mode q k past (Act p j t v) x.bounds is; acted = reaches_act capacity mode q k past p j t v x is }
reaches_kept capacity mode q k past (Offer p o) x is = record {
  bounds = bounds_kept capacity mode q k past (Offer p o) x.bounds is;
  acted = λ r i s at lt w. x.acted r i s (offered_before q k past p o r (x.bounds.acted (omega (arith, lt))) at) lt w;
}
reaches_kept capacity mode q k past (Start p list) x is = record {
  bounds = bounds_kept capacity mode q k past (Start p list) x.bounds is;
  acted = λ r i s at lt w. let old : i < acts past q k = grind (arith, common_steps, nat_tests) in x.acted r i s at old w;
}
reaches_kept capacity mode q k past (Power image) x is = record { bounds = bounds_kept capacity mode q k past (Power image) x.bounds is; acted = λ r i s at lt w. absurd (omega (arith, lt)) }
reaches_kept capacity mode q k past (Accept p j) x is = record { bounds = bounds_kept capacity mode q k past (Accept p j) x.bounds is; acted = x.acted }
reaches_kept capacity mode q k past (Look p j t v) x is = record { bounds = bounds_kept capacity mode q k past (Look p j t v) x.bounds is; acted = x.acted }
reaches_kept capacity mode q k past (Sync p j) x is = record { bounds = bounds_kept capacity mode q k past (Sync p j) x.bounds is; acted = x.acted }
reaches_kept capacity mode q k past (Fault p j) x is = record { bounds = bounds_kept capacity mode q k past (Fault p j) x.bounds is; acted = x.acted }
reaches_kept capacity mode q k past (Publish p answers) x is = record { bounds = bounds_kept capacity mode q k past (Publish p answers) x.bounds is; acted = x.acted }
reaches_kept capacity mode q k past Kill x is = record { bounds = bounds_kept capacity mode q k past Kill x.bounds is; acted = x.acted }
reaches_kept capacity mode q k past (Collect p j) x is = record { bounds = bounds_kept capacity mode q k past (Collect p j) x.bounds is; acted = x.acted }

reaches_open : (q k : ℕ) → Reaches [] q k
reaches_open q k = record {
  bounds = record { taken = omega arith; synced = λ e. absurd (true≢false (sym e)); acted = λ e. absurd (omega (arith, e)) };
  acted = λ r i s at lt w. absurd (omega (arith, lt));
}

-- ---- an answer

answered : (capacity : ℕ) (mode : CacheMode) (q k : ℕ) (past : List Entry) (answers : List Answered) (r : Asked) → MayPublish capacity mode past q answers → Succeeds answers k → asked past q k ≡ Some r
    → (bytes : List ℕ) × IsSuccess capacity mode past q k r bytes
answered capacity mode q k past answers r is ok at =
    let one : IsAnswer capacity mode past q ok.answer = subst (λ (a : Answered). IsAnswer capacity mode past q a) ok.is.2 (is.answered ok.is.0 ok.answer ok.is.1) in
    let request : one.request ≡ r = asked_same one.request r (sym one.offered ∙ ap (λ (n : ℕ). asked past q n) ok.number ∙ at) in
    let done : IsSuccess capacity mode past q ok.answer.number one.request ok.answer.bytes = one.success ok.status in
    (ok.answer.bytes, subst (λ (o : Asked). IsSuccess capacity mode past q k o ok.answer.bytes) request (subst (λ (n : ℕ). IsSuccess capacity mode past q n one.request ok.answer.bytes) ok.number done))

among_answers : (answers : List Answered) (k : ℕ) → Succeeds answers k → is_among (numbers answers) k ≡ true
among_answers answers k ok =
    let low : ok.is.0 < length (numbers answers) = subst (λ (n : ℕ). ok.is.0 < n) (sym (length-map answers (λ (a : Answered). a.number))) ok.is.1 in
    among_at (numbers answers) ok.is.0 0 k low (get_or-map (λ (a : Answered). a.number) answers ok.is.0 ok.answer 0 ok.is.1 ∙ ap (λ (a : Answered). a.number) ok.is.2 ∙ ok.number)

among_more : (q k : ℕ) (past : List Entry) (p : ℕ) (answers : List Answered) → is_among (published past q) k ≡ true → is_among (published (Publish p answers ∷ past) q) k ≡ true
among_more q k past p answers old =
    let both : is_among (published past q ++ numbers answers) k ≡ (is_among (published past q) k || is_among (numbers answers) k) = is_among_append (published past q) (numbers answers) k in
    grind (arith, common_steps)

among_new : (q k : ℕ) (past : List Entry) (answers : List Answered) → Succeeds answers k → is_among (published (Publish q answers ∷ past) q) k ≡ true
among_new q k past answers ok =
    let both : is_among (published past q ++ numbers answers) k ≡ (is_among (published past q) k || is_among (numbers answers) k) = is_among_append (published past q) (numbers answers) k in
    let new : is_among (numbers answers) k ≡ true = among_answers answers k ok in
    grind (arith, common_steps, nat_tests)

-- ---- from the answer of a write on

abbrev is_sync : Entry → Bool
is_sync (Sync q k) = true
is_sync e = false

-- the write of which this is a sector was answered, and since this came true all of its sectors were made stable
record Since (due : List Entry → Bool) (q k s : ℕ) (past : List Entry) : Type 0 where
  among : is_among (published past q) k ≡ true
  acted : Acted past q k s
  safe : due past ≡ true → Safe past q k s

-- it doesn't come true but by a sync
abbrev Grows : (List Entry → Bool) → Type 0
Grows due = (past : List Entry) (e : Entry) → NoPower (e ∷ []) → is_sync e ≡ false → due (e ∷ past) ≡ true → due past ≡ true

since_kept : (due : List Entry → Bool) → Grows due → (capacity : ℕ) (mode : CacheMode) (q k s : ℕ) (past : List Entry) (e : Entry) → NoPower (e ∷ []) → Since due q k s past → Allowed capacity mode past e → Since due q k s (e ∷ past)
since_kept due grows capacity mode q k s past (Act p j t v) calm x is = record {
  among = x.among;
  acted = acted_kept q k s past (Act p j t v) tt x.acted;
  safe = λ e.
      let closed : is_among (published past p) j ≡ false = is.works.is_open.unpublished in
      let old : is_among (published past q) k ≡ true = x.among in
      let other : ((p == q) && (j == k)) ≡ false = elim (either ((p == q) && (j == k))) [
        | inl same ↦
            let here : p ≡ q = grind (arith, common_steps, nat_tests) in
            let this : j ≡ k = grind (arith, common_steps, nat_tests) in
            let again : is_among (published past q) k ≡ false = subst (λ (n : ℕ). is_among (published past n) k ≡ false) here (subst (λ (n : ℕ). is_among (published past p) n ≡ false) this closed) in
            absurd (true≢false (sym old ∙ again))
        | inr other ↦ other
      ] in
      safe_act q k s past p j t v other x.acted (x.safe (grows past (Act p j t v) tt refl e));
}
since_kept due grows capacity mode q k s past (Sync p j) calm x is = record { among = x.among; acted = x.acted; safe = λ e. safe_sync q k s past p j x.acted }
since_kept due grows capacity mode q k s past (Publish p answers) calm x is = record { among = among_more q k past p answers x.among; acted = x.acted; safe = λ e. x.safe (grows past (Publish p answers) tt refl e) }
since_kept due grows capacity mode q k s past (Power image) calm x is = absurd calm
since_kept due grows capacity mode q k s past (Offer p r) calm x is = record { among = x.among; acted = x.acted; safe = λ e. x.safe (grows past (Offer p r) tt refl e) }
since_kept due grows capacity mode q k s past (Accept p j) calm x is = record { among = x.among; acted = x.acted; safe = λ e. x.safe (grows past (Accept p j) tt refl e) }
since_kept due grows capacity mode q k s past (Look p j t v) calm x is = record { among = x.among; acted = x.acted; safe = λ e. x.safe (grows past (Look p j t v) tt refl e) }
since_kept due grows capacity mode q k s past (Fault p j) calm x is = record { among = x.among; acted = x.acted; safe = λ e. x.safe (grows past (Fault p j) tt refl e) }
since_kept due grows capacity mode q k s past Kill calm x is = record { among = x.among; acted = x.acted; safe = λ e. x.safe (grows past Kill tt refl e) }
since_kept due grows capacity mode q k s past (Start p list) calm x is = record { among = x.among; acted = x.acted; safe = λ e. x.safe (grows past (Start p list) tt refl e) }
since_kept due grows capacity mode q k s past (Collect p j) calm x is = record { among = x.among; acted = x.acted; safe = λ e. x.safe (grows past (Collect p j) tt refl e) }

calm_both : (e : Entry) (es : List Entry) → NoPower (e ∷ es) → NoPower (e ∷ []) × NoPower es
calm_both (Power image) es calm = absurd calm
calm_both (Offer p r) es calm = (tt, calm)
calm_both (Accept p j) es calm = (tt, calm)
calm_both (Look p j t v) es calm = (tt, calm)
calm_both (Act p j t v) es calm = (tt, calm)
calm_both (Sync p j) es calm = (tt, calm)
calm_both (Fault p j) es calm = (tt, calm)
calm_both (Publish p answers) es calm = (tt, calm)
calm_both Kill es calm = (tt, calm)
calm_both (Start p list) es calm = (tt, calm)
calm_both (Collect p j) es calm = (tt, calm)

since_held : (due : List Entry → Bool) → Grows due → (capacity : ℕ) (mode : CacheMode) (q k s : ℕ) (past es : List Entry) → NoPower es → Since due q k s past → LegalFrom capacity mode past es → Since due q k s (after past es)
since_held due grows capacity mode q k s past [] calm x legal = x
since_held due grows capacity mode q k s past (e ∷ es) calm x legal =
    let both : NoPower (e ∷ []) × NoPower es = calm_both e es calm in
    since_held due grows capacity mode q k s (e ∷ past) es both.1 (since_kept due grows capacity mode q k s past e both.0 x legal.0) legal.1

-- whether all was made stable for a flush
synced_grows : (p j : ℕ) → Grows (λ past. synced past p j)
synced_grows p j past (Start a list) calm other e = let x : (if a == p then false else synced past p j) ≡ true = e in grind (arith, common_steps)
synced_grows p j past (Sync a b) calm other e = absurd (true≢false other)
synced_grows p j past (Power image) calm other e = absurd calm
synced_grows p j past (Offer a r) calm other e = e
synced_grows p j past (Accept a b) calm other e = e
synced_grows p j past (Look a b t v) calm other e = e
synced_grows p j past (Act a b t v) calm other e = e
synced_grows p j past (Fault a b) calm other e = e
synced_grows p j past (Publish a answers) calm other e = e
synced_grows p j past Kill calm other e = e
synced_grows p j past (Collect a b) calm other e = e

abbrev always : List Entry → Bool
always past = true

always_grows : Grows always
always_grows past e calm other is = refl

-- ---- the sectors of a write

effect_here : (b : Bool) (x y : SectorValue) → (if b then Some x else None) ≡ Some y → (b ≡ true) × (x ≡ y)
effect_here true x y e = (refl, some_same x y e)
effect_here false x y e = cc

effect_gone : (b : Bool) (x : SectorValue) → (if b then Some x else None) ≡ None → b ≡ false
effect_gone true x e = cc
effect_gone false x e = refl

-- what a write writes in place i
abbrev effect_in : ℕ → List ℕ → ℕ → SectorValue
effect_in start bytes i = record { sector = start + i; value = slice_range bytes (512 * i) (512 * i + 512) }

within_write : (start : ℕ) (bytes : List ℕ) (i s : ℕ) → Writes (Write start bytes) i s → (i < length bytes / 512) × (start + i ≡ s)
within_write start bytes i s w =
    let is : (nat_lt i (length bytes / 512) ≡ true) × (effect_in start bytes i ≡ record { sector = s; value = w.0 }) = effect_here (nat_lt i (length bytes / 512)) (effect_in start bytes i) (record { sector = s; value = w.0 }) w.1 in
    let within : nat_lt i (length bytes / 512) ≡ true = is.0 in
    (grind (arith, nat_tests), ap (λ (y : SectorValue). y.sector) is.1)

-- where nothing is left to write, each place was written
written_to : (start : ℕ) (bytes : List ℕ) (n i s : ℕ) → effect_at (Write start bytes) n ≡ None → Writes (Write start bytes) i s → i < n
written_to start bytes n i s none w =
    let gone : nat_lt n (length bytes / 512) ≡ false = effect_gone (nat_lt n (length bytes / 512)) (effect_in start bytes n) none in
    let low : i < length bytes / 512 = (within_write start bytes i s w).0 in
    grind (arith, nat_tests)

served_fits : (b : Bool) (n : ℕ) → (if b then Some n else None) ≡ None → b ≡ false
served_fits true n e = cc
served_fits false n e = refl

-- a sector of a write that isn't refused is below the capacity
below_capacity : (capacity : ℕ) (mode : CacheMode) (start : ℕ) (bytes : List ℕ) (i s : ℕ) → refusal capacity mode (Write start bytes) ≡ None → Writes (Write start bytes) i s → s < capacity
below_capacity capacity mode start bytes i s served w =
    let fits : (is_read_only mode || nat_lt capacity (start + length bytes / 512)) ≡ false = served_fits (is_read_only mode || nat_lt capacity (start + length bytes / 512)) 1 served in
    let low : i < length bytes / 512 = (within_write start bytes i s w).0 in
    let sector : start + i ≡ s = (within_write start bytes i s w).1 in
    grind (arith, common_steps, nat_tests)

-- ---- a flush

-- where a write is answered that a flush follows which isn't offered yet
since_answer : (capacity : ℕ) (mode : CacheMode) (q k s : ℕ) (past : List Entry) (answers : List Answered) (start : ℕ) (bytes : List ℕ) (i p j : ℕ)
    → Reaches past q k → Bounds past p j → MayPublish capacity mode past q answers → asked past q k ≡ Some (Write start bytes) → Succeeds answers k → Writes (Write start bytes) i s → offers past p ≤ j
    → Since (λ past. synced past p j) q k s (Publish q answers ∷ past)
since_answer capacity mode q k s past answers start bytes i p j reaches bounds shown at ok w late =
    let done : (b : List ℕ) × IsSuccess capacity mode past q k (Write start bytes) b = answered capacity mode q k past answers (Write start bytes) shown ok at in
    record {
      among = among_new q k past answers ok;
      acted = reaches.acted (Write start bytes) i s at (written_to start bytes (acts past q k) i s done.1.done.0 w) w;
      safe = λ e. absurd (omega (arith, bounds.synced e, late));
    }

pub flush_outlives : (capacity : ℕ) (mode : CacheMode) (before between later : List Entry) (image : List SectorValue) (q k : ℕ) (answers : List Answered) (start : ℕ) (bytes : List ℕ) (p j : ℕ) (flushed : List Answered)
    → Legal capacity mode (before ++ (Publish q answers ∷ (between ++ (Publish p flushed ∷ (later ++ (Power image ∷ [])))))) → NoPower between → NoPower later
    → AnswersWrite (after [] before) q answers k start bytes → offers (after [] before) p ≤ j → AnswersFlush (after [] (before ++ (Publish q answers ∷ between))) p flushed j
    → (s : ℕ) → WritesSector start bytes s
    → Outlives (after [] (before ++ (Publish q answers ∷ (between ++ (Publish p flushed ∷ later))))) q k s image
flush_outlives capacity mode before between later image q k answers start bytes p j flushed legal calm calm_later write late flush_is s writes =
    let at : asked (after [] before) q k ≡ Some (Write start bytes) = write.asked in
    let ok : Succeeds answers k = write.succeeds in
    let i : ℕ = writes.0 in
    let here : Writes (Write start bytes) i s = (writes.1, writes.2) in
    let one : List Entry = after [] before in
    let two : List Entry = after (Publish q answers ∷ one) between in
    let three : List Entry = after (Publish p flushed ∷ two) later in
    let front : LegalFrom capacity mode [] before = front_legal capacity mode [] before (Publish q answers ∷ (between ++ (Publish p flushed ∷ (later ++ (Power image ∷ []))))) legal in
    let first : LegalFrom capacity mode one (Publish q answers ∷ (between ++ (Publish p flushed ∷ (later ++ (Power image ∷ []))))) = rest_legal capacity mode [] before (Publish q answers ∷ (between ++ (Publish p flushed ∷ (later ++ (Power image ∷ []))))) legal in
    let reaches : Reaches one q k = kept capacity mode (λ past. Reaches past q k) (reaches_kept capacity mode q k) [] before (reaches_open q k) front in
    let bounds : Reaches one p j = kept capacity mode (λ past. Reaches past p j) (reaches_kept capacity mode p j) [] before (reaches_open p j) front in
    let done : (b : List ℕ) × IsSuccess capacity mode one q k (Write start bytes) b = answered capacity mode q k one answers (Write start bytes) first.0 ok at in
    let begun : Since (λ past. synced past p j) q k s (Publish q answers ∷ one) = since_answer capacity mode q k s one answers start bytes i p j reaches bounds.bounds first.0 at ok here late in
    let second : LegalFrom capacity mode two (Publish p flushed ∷ (later ++ (Power image ∷ []))) = rest_legal capacity mode (Publish q answers ∷ one) between (Publish p flushed ∷ (later ++ (Power image ∷ []))) first.1 in
    let held : Since (λ past. synced past p j) q k s two = since_held (λ past. synced past p j) (synced_grows p j) capacity mode q k s (Publish q answers ∷ one) between calm begun
    (front_legal capacity mode (Publish q answers ∷ one) between (Publish p flushed ∷ (later ++ (Power image ∷ []))) first.1) in
    let asked_here : asked two p j ≡ Some Flush = subst (λ (past : List Entry). asked past p j ≡ Some Flush) (after_append [] before (Publish q answers ∷ between)) flush_is.asked in
    let flush : (b : List ℕ) × IsSuccess capacity mode two p j Flush b = answered capacity mode p j two flushed Flush second.0 flush_is.succeeds asked_here in
    let stays : Since always q k s (Publish p flushed ∷ two) = record { among = among_more q k two p flushed held.among; acted = held.acted; safe = λ e. held.safe flush.1.done.0 } in
    let end : Since always q k s three = since_held always always_grows capacity mode q k s (Publish p flushed ∷ two) later calm_later stays (front_legal capacity mode (Publish p flushed ∷ two) later (Power image ∷ []) second.1) in
    let power : LegalFrom capacity mode three (Power image ∷ []) = rest_legal capacity mode (Publish p flushed ∷ two) later (Power image ∷ []) second.1 in
    let same : three ≡ after [] (before ++ (Publish q answers ∷ (between ++ (Publish p flushed ∷ later)))) =
    sym (after_append [] before (Publish q answers ∷ (between ++ (Publish p flushed ∷ later))) ∙ after_append (Publish q answers ∷ one) between (Publish p flushed ∷ later)) in
    subst (λ (past : List Entry). Outlives past q k s image) same (end.safe refl (image_at image s) (power.0.each s (below_capacity capacity mode start bytes i s done.1.served here)))

-- ---- a write that isn't cached

-- once all was made stable for a write, nothing of it is left to write, and its sectors are safe
record Synced (past : List Entry) (q k : ℕ) : Type 0 where
  reaches : Reaches past q k
  written : (start : ℕ) (bytes : List ℕ) → asked past q k ≡ Some (Write start bytes) → synced past q k ≡ true → effect_at (Write start bytes) (acts past q k) ≡ None
  safe : (start : ℕ) (bytes : List ℕ) (i s : ℕ) → asked past q k ≡ Some (Write start bytes) → synced past q k ≡ true → Writes (Write start bytes) i s → Safe past q k s

synced_open : (q k : ℕ) → Synced [] q k
synced_open q k = record { reaches = reaches_open q k; written = λ start bytes at e. absurd (true≢false (sym e)); safe = λ start bytes i s at e w. absurd (true≢false (sym e)) }

-- it has acted on each
synced_acted : (past : List Entry) (q k start : ℕ) (bytes : List ℕ) (i s : ℕ) → Reaches past q k → asked past q k ≡ Some (Write start bytes) → effect_at (Write start bytes) (acts past q k) ≡ None → Writes (Write start bytes) i s → Acted past q k s
synced_acted past q k start bytes i s x at none w = x.acted (Write start bytes) i s at (written_to start bytes (acts past q k) i s none w) w

-- a sync of it comes when nothing is left to write
due_written : (mode : CacheMode) (past : List Entry) (q k start : ℕ) (bytes : List ℕ) (r : Asked) → r ≡ Write start bytes → IsSyncDue mode past q k r → effect_at (Write start bytes) (acts past q k) ≡ None
due_written mode past q k start bytes r is due = (subst (λ (o : Asked). IsSyncDue mode past q k o) is due).1

sync_written : (capacity : ℕ) (mode : CacheMode) (q k : ℕ) (past : List Entry) (p j : ℕ) → Synced past q k → Allowed capacity mode past (Sync p j)
    → (start : ℕ) (bytes : List ℕ) → asked past q k ≡ Some (Write start bytes) → synced (Sync p j ∷ past) q k ≡ true → effect_at (Write start bytes) (acts past q k) ≡ None
sync_written capacity mode q k past p j x is start bytes at e =
    elim (either ((p == q) && (j == k))) [
      | inl same ↦
          let here : p ≡ q = grind (arith, common_steps, nat_tests) in
          let this : j ≡ k = grind (arith, common_steps, nat_tests) in
          let asked_is : asked past q k ≡ Some is.request = subst (λ (n : ℕ). asked past n k ≡ Some is.request) here (subst (λ (n : ℕ). asked past p n ≡ Some is.request) this is.works.asked) in
          let request : is.request ≡ Write start bytes = asked_same is.request (Write start bytes) (sym asked_is ∙ at) in
          due_written mode past q k start bytes is.request request (subst (λ (n : ℕ). IsSyncDue mode past n k is.request) here (subst (λ (n : ℕ). IsSyncDue mode past p n is.request) this is.due))
      | inr other ↦
          let old : synced past q k ≡ true = let f : (((p == q) && (j == k)) || synced past q k) ≡ true = e in grind (arith, common_steps) in
          x.written start bytes at old
    ]

-- an act of it comes when something is
act_other : (capacity : ℕ) (mode : CacheMode) (q k : ℕ) (past : List Entry) (p j t : ℕ) (v : List ℕ) → Allowed capacity mode past (Act p j t v)
    → (start : ℕ) (bytes : List ℕ) → asked past q k ≡ Some (Write start bytes) → effect_at (Write start bytes) (acts past q k) ≡ None → ((p == q) && (j == k)) ≡ false
act_other capacity mode q k past p j t v is start bytes at none =
    elim (either ((p == q) && (j == k))) [
      | inl same ↦
          let here : p ≡ q = grind (arith, common_steps, nat_tests) in
          let this : j ≡ k = grind (arith, common_steps, nat_tests) in
          let asked_is : asked past q k ≡ Some is.request = subst (λ (n : ℕ). asked past n k ≡ Some is.request) here (subst (λ (n : ℕ). asked past p n ≡ Some is.request) this is.works.asked) in
          let request : is.request ≡ Write start bytes = asked_same is.request (Write start bytes) (sym asked_is ∙ at) in
          let made : acts past p j ≡ acts past q k = ap (λ (n : ℕ). acts past n j) here ∙ ap (λ (n : ℕ). acts past q n) this in
          let next : effect_at (Write start bytes) (acts past q k) ≡ Some (record { sector = t; value = v }) = ap (λ (o : Asked). effect_at o (acts past q k)) (sym request) ∙ ap (λ (n : ℕ). effect_at is.request n) (sym made) ∙ is.next in
          absurd (none_some (record { sector = t; value = v }) (sym none ∙ next))
      | inr other ↦ other
    ]

synced_act : (capacity : ℕ) (mode : CacheMode) (q k : ℕ) (past : List Entry) (p j t : ℕ) (v : List ℕ) → Synced past q k → Allowed capacity mode past (Act p j t v) → Synced (Act p j t v ∷ past) q k
synced_act capacity mode q k past p j t v x is = record {
  reaches = reaches_kept capacity mode q k past (Act p j t v) x.reaches is;
  written = λ start bytes at e.
      let none : effect_at (Write start bytes) (acts past q k) ≡ None = x.written start bytes at e in
      let other : ((p == q) && (j == k)) ≡ false = act_other capacity mode q k past p j t v is start bytes at none in
      let same : acts (Act p j t v ∷ past) q k ≡ acts past q k = grind (arith, common_steps, nat_tests) in
      ap (λ (n : ℕ). effect_at (Write start bytes) n) same ∙ none;
  safe = λ start bytes i s at e w.
      let none : effect_at (Write start bytes) (acts past q k) ≡ None = x.written start bytes at e in
      safe_act q k s past p j t v (act_other capacity mode q k past p j t v is start bytes at none) (synced_acted past q k start bytes i s x.reaches at none w) (x.safe start bytes i s at e w);
}

synced_kept : (capacity : ℕ) (mode : CacheMode) (q k : ℕ) (past : List Entry) (e : Entry) → Synced past q k → Allowed capacity mode past e → Synced (e ∷ past) q k
synced_kept capacity mode q k past (Act p j t v) x is = synced_act capacity mode q k past p j t v x is
synced_kept capacity mode q k past (Sync p j) x is = record {
  reaches = reaches_kept capacity mode q k past (Sync p j) x.reaches is;
  written = sync_written capacity mode q k past p j x is;
  safe = λ start bytes i s at e w. safe_sync q k s past p j (synced_acted past q k start bytes i s x.reaches at (sync_written capacity mode q k past p j x is start bytes at e) w);
}
synced_kept capacity mode q k past (Offer p o) x is = record {
  reaches = reaches_kept capacity mode q k past (Offer p o) x.reaches is;
  written = λ start bytes at e. x.written start bytes (offered_before q k past p o (Write start bytes) (x.reaches.bounds.synced e) at) e;
  safe = λ start bytes i s at e w. x.safe start bytes i s (offered_before q k past p o (Write start bytes) (x.reaches.bounds.synced e) at) e w;
}
synced_kept capacity mode q k past (Start p list) x is = record {
  reaches = reaches_kept capacity mode q k past (Start p list) x.reaches is;
  written = λ start bytes at e.
      let old : synced past q k ≡ true = grind (arith, common_steps) in
      let other : (p == q) ≡ false = grind (arith, common_steps) in
      let same : acts (Start p list ∷ past) q k ≡ acts past q k = grind (arith, common_steps) in
      ap (λ (n : ℕ). effect_at (Write start bytes) n) same ∙ x.written start bytes at old;
  safe = λ start bytes i s at e w. let old : synced past q k ≡ true = grind (arith, common_steps) in x.safe start bytes i s at old w;
}
synced_kept capacity mode q k past (Power image) x is = record { reaches = reaches_kept capacity mode q k past (Power image) x.reaches is; written = λ start bytes at e. absurd (true≢false (sym e)); safe = λ start bytes i s at e w. absurd (true≢false (sym e)) }
synced_kept capacity mode q k past (Accept p j) x is = record { reaches = reaches_kept capacity mode q k past (Accept p j) x.reaches is; written = x.written; safe = x.safe }
synced_kept capacity mode q k past (Look p j t v) x is = record { reaches = reaches_kept capacity mode q k past (Look p j t v) x.reaches is; written = x.written; safe = x.safe }
synced_kept capacity mode q k past (Fault p j) x is = record { reaches = reaches_kept capacity mode q k past (Fault p j) x.reaches is; written = x.written; safe = x.safe }
synced_kept capacity mode q k past (Publish p answers) x is = record { reaches = reaches_kept capacity mode q k past (Publish p answers) x.reaches is; written = x.written; safe = x.safe }
synced_kept capacity mode q k past Kill x is = record { reaches = reaches_kept capacity mode q k past Kill x.reaches is; written = x.written; safe = x.safe }
synced_kept capacity mode q k past (Collect p j) x is = record { reaches = reaches_kept capacity mode q k past (Collect p j) x.reaches is; written = x.written; safe = x.safe }

pub write_through_outlives : (capacity : ℕ) (before later : List Entry) (image : List SectorValue) (q k : ℕ) (answers : List Answered) (start : ℕ) (bytes : List ℕ)
    → Legal capacity Through (before ++ (Publish q answers ∷ (later ++ (Power image ∷ [])))) → NoPower later
    → AnswersWrite (after [] before) q answers k start bytes
    → (s : ℕ) → WritesSector start bytes s
    → Outlives (after [] (before ++ (Publish q answers ∷ later))) q k s image
write_through_outlives capacity before later image q k answers start bytes legal calm write s writes =
    let at : asked (after [] before) q k ≡ Some (Write start bytes) = write.asked in
    let ok : Succeeds answers k = write.succeeds in
    let i : ℕ = writes.0 in
    let here : Writes (Write start bytes) i s = (writes.1, writes.2) in
    let one : List Entry = after [] before in
    let two : List Entry = after (Publish q answers ∷ one) later in
    let first : LegalFrom capacity Through one (Publish q answers ∷ (later ++ (Power image ∷ []))) = rest_legal capacity Through [] before (Publish q answers ∷ (later ++ (Power image ∷ []))) legal in
    let x : Synced one q k = kept capacity Through (λ past. Synced past q k) (synced_kept capacity Through q k) [] before (synced_open q k)
    (front_legal capacity Through [] before (Publish q answers ∷ (later ++ (Power image ∷ []))) legal) in
    let done : (b : List ℕ) × IsSuccess capacity Through one q k (Write start bytes) b = answered capacity Through q k one answers (Write start bytes) first.0 ok at in
    let stable : synced one q k ≡ true = done.1.done.1 refl in
    let begun : Since always q k s (Publish q answers ∷ one) = record {
      among = among_new q k one answers ok;
      acted = synced_acted one q k start bytes i s x.reaches at done.1.done.0 here;
      safe = λ e. x.safe start bytes i s at stable here;
    } in
    let end : Since always q k s two = since_held always always_grows capacity Through q k s (Publish q answers ∷ one) later calm begun (front_legal capacity Through (Publish q answers ∷ one) later (Power image ∷ []) first.1) in
    let power : LegalFrom capacity Through two (Power image ∷ []) = rest_legal capacity Through (Publish q answers ∷ one) later (Power image ∷ []) first.1 in
    let same : two ≡ after [] (before ++ (Publish q answers ∷ later)) = sym (after_append [] before (Publish q answers ∷ later)) in
    subst (λ (past : List Entry). Outlives past q k s image) same (end.safe refl (image_at image s) (power.0.each s (below_capacity capacity Through start bytes i s done.1.served here)))
