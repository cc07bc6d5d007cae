use Rattle.std.proofs.Common.{◌≡◌, ◌≤◌, ◌<◌, ℕ, zero, suc, ◌+◌, ◌*◌, List, [], ◌∷◌, length, refl, inr, ap, sym, ◌∙◌, subst, arith, true, false, Bool}
use Rattle.std.proofs.lemmas.Bool.{false≢true}
use Rattle.std.specs.Prelude.{Option, Some, None, option_map, Result, Ok, Err, OnOk}
use Rattle.std.specs.Result.{is_err}
use Rattle.vub_base.specs.Told.{WhereTold}
use Rattle.vub_shared.specs.Bytes.{Bytes, bytes_from, word}
use Rattle.vub_base.specs.Fields.{field}
use Rattle.vub_direct_chain.proofs.ChainReading.{field_of_loaded}
use Rattle.vub_disk.specs.Values.{Values, Writes, with_value}
use Rattle.std.proofs.Common.{◌/◌, ◌%◌, ◌++◌}
use Rattle.std.proofs.lemmas.Bool.Decides.{nat_tests}
use Rattle.std.specs.Prelude.{unwrap_or, slice_get, nat_lt, nat_le, not, ◌==◌, ◌&&◌, if◌then◌else◌}
use Rattle.vub_base.specs.declared.header.Header1.{Header1}
use Rattle.vub_base.specs.declared.header.CacheMode.{CacheMode}
use Rattle.vub_base.specs.declared.header.CacheMode.TheVariants.{Back}
use Rattle.vub_device.specs.declared.entry.Asked.{Asked}
use Rattle.vub_device.specs.declared.entry.Asked.TheVariants.{Read, Write, Flush, Id, Discard, Zero}
use Rattle.vub_device.specs.Requests.{refusal}
use Rattle.vub_driver.specs.Layout.{status_place}
use Rattle.vub_steps.specs.Tasks.{RequestStep, Look, Act, Sync, Status, task_steps, status_of, used_len, unless_refused, disk_steps, act_steps}
use Rattle.vub_direct_chain.specs.ChainState.{parts_of, span_at, type_of, sector_of, data_start}
use Rattle.vub_task.specs.TaskState.{ChangedOrNot, FirstWork, can_move, DiskServes, IsBasic, answer_of, work_for, whole_transfer, plain_answer_of, plain_len_of}
use Rattle.vub_split.specs.declared.split.SplitRing.{SplitRing}
use Rattle.vub_direct_chain.specs.declared.chain.Parts.{Parts}
use Rattle.vub_direct_chain.specs.declared.chain.Sectors.{Sectors}
use Rattle.vub_task.specs.declared.task.Answer.{Answer}
use Rattle.vub_task.specs.declared.task.Transfer.{Transfer}
use Rattle.vub_task.specs.declared.task.Work.{Work}
use Rattle.vub_task.specs.declared.task.Work.TheVariants as work
use Rattle.vub_direct_chain.specs.declared.chain.Span.{Span}

-- what was loaded is written
pub act_written : {T E F : Type 0} (before after : Option Values) (s : ℕ) (into : List ℕ) (told : Option Bytes) (m : Bytes) (space p q w : ℕ) (loads : Result T E) (writes : Result T F) → p ≡ q → w ≡ 512 → told ≡ Some m → is_err loads ≡ false
    → OnOk loads (WhereTold told (λ m. into ≡ bytes_from w m space p)) → is_err writes ≡ false → Writes before after writes s into → after ≡ option_map (with_value s (bytes_from 512 m space q)) before
act_written before after s into told m space p q w (Ok x) (Ok y) place whole is_told e loaded f is =
    let bytes : into ≡ bytes_from 512 m space q = loaded m is_told ∙ ap (λ (k : ℕ). bytes_from k m space p) whole ∙ ap (bytes_from 512 m space) place in
    is ∙ ap (λ (bs : List ℕ). option_map (with_value s bs) before) bytes
act_written before after s into told m space p q w (Ok x) (Err y) place whole is_told e loaded f is = absurd (false≢true (sym f))
act_written before after s into told m space p q w (Err x) writes place whole is_told e loaded f is = absurd (false≢true (sym e))

-- the same of a write that may have failed
pub act_changed : {T E F : Type 0} (before after : Option Values) (s : ℕ) (into : List ℕ) (told : Option Bytes) (m : Bytes) (space p q w : ℕ) (loads : Result T E) (writes : Result T F) → p ≡ q → w ≡ 512 → told ≡ Some m → is_err loads ≡ false
    → OnOk loads (WhereTold told (λ m. into ≡ bytes_from w m space p)) → Writes before after writes s into → ChangedOrNot (with_value s (bytes_from 512 m space q)) before after
act_changed {T} {E} {F} before after s into told m space p q w loads (Ok y) place whole is_told e loaded is = inr (act_written {T = T} {E = E} {F = F} before after s into told m space p q w loads (Ok y) place whole is_told e loaded refl is)
act_changed before after s into told m space p q w (Ok x) (Err y) place whole is_told e loaded is =
    let bytes : into ≡ bytes_from 512 m space q = loaded m is_told ∙ ap (λ (k : ℕ). bytes_from k m space p) whole ∙ ap (bytes_from 512 m space) place in
    subst (λ (bs : List ℕ). ChangedOrNot (with_value s bs) before after) bytes is
act_changed before after s into told m space p q w (Err x) (Err y) place whole is_told e loaded is = absurd (false≢true (sym e))

-- ---- the first work of a request

abbrev answer_with : ℕ → ℕ → ℕ → Span → Answer
answer_with status len plain_len span = record { status = status; len = len; plain_len = plain_len; span = span }

abbrev transfer_with : ℕ → ℕ → ℕ → Span → Answer → Transfer
transfer_with sector count done span answer = record { sector = sector; count = count; done = done; span = span; answer = answer }

-- the answer of a request that gets this status
answer_is : (h : Header1) (r : SplitRing) (buffer : ℕ) (request : Asked) (status len plain_len : ℕ) → status ≡ status_of h request → len ≡ used_len status request → plain_len ≡ used_len 1 request
    → answer_with status len plain_len (span_at r (status_place buffer) 1) ≡ answer_of h r buffer request
answer_is h r buffer request status len plain_len a b c =
    let span : Span = span_at r (status_place buffer) 1 in
    ap (λ (x : ℕ). answer_with x len plain_len span) a
    ∙ ap (λ (x : ℕ). answer_with (status_of h request) x plain_len span) (b ∙ ap (λ (k : ℕ). used_len k request) a)
    ∙ ap (λ (x : ℕ). answer_with (status_of h request) (used_len (status_of h request) request) x span) c

-- what is next, by the refusal of the request
abbrev first_of : Asked → Option ℕ → Option RequestStep
first_of request refused = slice_get (unless_refused refused (disk_steps request) ++ Status ∷ []) 0

to_step : (h : Header1) (r : SplitRing) (buffer : ℕ) (request : Asked) (o : Option RequestStep) (step x : RequestStep) (w : Work) → o ≡ Some step → o ≡ Some x → w ≡ work_for h r buffer request x → w ≡ work_for h r buffer request step
to_step h r buffer request o step x w is at same =
    let e : x ≡ step = cc (is, at) in
    same ∙ ap (work_for h r buffer request) e

plain_of_read : (r : SplitRing) (buffer s n : ℕ) → plain_len_of (parts_of r buffer (Read s n)) ≡ used_len 1 (Read s n)
plain_of_read r buffer s zero = grind (arith, nat_tests)
plain_of_read r buffer s (suc n) = grind (arith, nat_tests)

abbrev sectors_at : SplitRing → ℕ → ℕ → Bool → Sectors
sectors_at r buffer len writable = record { span = span_at r (data_start buffer Flush) len; writable = writable }

pub first_read : (h : Header1) (r : SplitRing) (buffer s n : ℕ) (w : Work) (step : RequestStep) → slice_get (task_steps h (Read s n)) 0 ≡ Some step
    → let p : Parts = parts_of r buffer (Read s n) in
    let x : Sectors = sectors_at r buffer (512 * n) true in
    (s + 512 * n / 512 ≤ h.capacity → 0 < 512 * n / 512 → w ≡ work.Look (whole_transfer p s x))
    → (512 * n ≡ 0 → s ≤ h.capacity → w ≡ work.Reply (whole_transfer p s x).answer)
    → (h.capacity < s + 512 * n / 512 → w ≡ work.Reply (plain_answer_of p 1))
    → w ≡ work_for h r buffer (Read s n) step
first_read h r buffer s n w step is more nothing past =
    let plain : plain_len_of (parts_of r buffer (Read s n)) ≡ used_len 1 (Read s n) = plain_of_read r buffer s n in
    let count : 512 * n / 512 ≡ n = omega arith in
    let go : (t : Bool) → nat_lt h.capacity (s + n) ≡ t → w ≡ work_for h r buffer (Read s n) step = elim [
      | true ↦ λ late.
          let over : h.capacity < s + n = grind (arith, nat_tests) in
          let refused : refusal h.capacity h.mode (Read s n) ≡ Some 1 = ap (λ (t : Bool). if t then Some 1 else None) late in
          let status : 1 ≡ status_of h (Read s n) = sym (ap (λ (o : Option ℕ). unwrap_or o 0) refused) in
          to_step h r buffer (Read s n) _ step Status w is (ap (first_of (Read s n)) refused) (past (omega (arith, over, count)) ∙ ap work.Reply (answer_is h r buffer (Read s n) 1 _ _ status plain plain))
      | false ↦ λ inside.
          let within : s + n ≤ h.capacity = grind (arith, nat_tests) in
          let refused : refusal h.capacity h.mode (Read s n) ≡ None = ap (λ (t : Bool). if t then Some 1 else None) inside in
          let status : 0 ≡ status_of h (Read s n) = sym (ap (λ (o : Option ℕ). unwrap_or o 0) refused) in
          let answer = answer_is h r buffer (Read s n) 0 _ _ status refl plain in
          let each : (k : ℕ) → n ≡ k → w ≡ work_for h r buffer (Read s n) step = elim [
            | zero ↦ λ none.
                let at : first_of (Read s n) None ≡ Some Status = ap (λ (k : ℕ). first_of (Read s k) None) none in
                to_step h r buffer (Read s n) _ step Status w is (ap (first_of (Read s n)) refused ∙ at) (nothing (omega (arith, none)) (omega (arith, within)) ∙ ap work.Reply answer)
            | suc k ↦ λ some.
                let at : first_of (Read s n) None ≡ Some (Look 0) = ap (λ (k : ℕ). first_of (Read s k) None) some in
                to_step h r buffer (Read s n) _ step (Look 0) w is (ap (first_of (Read s n)) refused ∙ at)
                (more (omega (arith, within, count)) (omega (arith, count, some)) ∙ ap (λ (a : Answer). work.Look (transfer_with s (512 * n / 512) 0 (span_at r (data_start buffer (Read s n)) (512 * n)) a)) answer)
          ] in
          each n refl
    ] in
    go (nat_lt h.capacity (s + n)) refl

pub first_write : (h : Header1) (r : SplitRing) (buffer s : ℕ) (bytes : List ℕ) (w : Work) (step : RequestStep) → h.mode ≡ Back → length bytes % 512 ≡ 0 → slice_get (task_steps h (Write s bytes)) 0 ≡ Some step
    → let p : Parts = parts_of r buffer (Write s bytes) in
    let x : Sectors = sectors_at r buffer (length bytes) false in
    (s + length bytes / 512 ≤ h.capacity → 0 < length bytes / 512 → w ≡ work.Act (whole_transfer p s x))
    → (length bytes ≡ 0 → s ≤ h.capacity → w ≡ work.Reply (whole_transfer p s x).answer)
    → (h.capacity < s + length bytes / 512 → w ≡ work.Reply (plain_answer_of p 1))
    → w ≡ work_for h r buffer (Write s bytes) step
first_write h r buffer s bytes w step cached whole is more nothing past =
    let request : Asked = Write s bytes in
    let c : ℕ = length bytes / 512 in
    let go : (t : Bool) → nat_lt h.capacity (s + c) ≡ t → w ≡ work_for h r buffer request step = elim [
      | true ↦ λ late.
          let over : h.capacity < s + c = grind (arith, nat_tests) in
          let refused : refusal h.capacity h.mode request ≡ Some 1 = ap (λ (mode : CacheMode). refusal h.capacity mode request) cached ∙ ap (λ (t : Bool). if t then Some 1 else None) late in
          let status : 1 ≡ status_of h request = sym (ap (λ (o : Option ℕ). unwrap_or o 0) refused) in
          to_step h r buffer request _ step Status w is (ap (first_of request) refused) (past over ∙ ap work.Reply (answer_is h r buffer request 1 _ _ status refl refl))
      | false ↦ λ inside.
          let within : s + c ≤ h.capacity = grind (arith, nat_tests) in
          let refused : refusal h.capacity h.mode request ≡ None = ap (λ (mode : CacheMode). refusal h.capacity mode request) cached ∙ ap (λ (t : Bool). if t then Some 1 else None) inside in
          let status : 0 ≡ status_of h request = sym (ap (λ (o : Option ℕ). unwrap_or o 0) refused) in
          let answer = answer_is h r buffer request 0 1 1 status refl refl in
          let each : (k : ℕ) → c ≡ k → w ≡ work_for h r buffer request step = elim [
            | zero ↦ λ none.
                let at : first_of request None ≡ Some Status = ap (λ (k : ℕ). slice_get (act_steps 0 k ++ Status ∷ []) 0) none in
                to_step h r buffer request _ step Status w is (ap (first_of request) refused ∙ at) (nothing (omega (arith, none, whole)) (omega (arith, within)) ∙ ap work.Reply answer)
            | suc k ↦ λ some.
                let at : first_of request None ≡ Some (Act 0) = ap (λ (k : ℕ). slice_get (act_steps 0 k ++ Status ∷ []) 0) some in
                to_step h r buffer request _ step (Act 0) w is (ap (first_of request) refused ∙ at)
                (more within (omega (arith, some)) ∙ ap (λ (a : Answer). work.Act (transfer_with s c 0 (span_at r (data_start buffer request) (length bytes)) a)) answer)
          ] in
          each c refl
    ] in
    go (nat_lt h.capacity (s + c)) refl

pub first_flush : (h : Header1) (r : SplitRing) (buffer : ℕ) (w : Work) (step : RequestStep) → h.mode ≡ Back → slice_get (task_steps h Flush) 0 ≡ Some step → w ≡ work.Sync (plain_answer_of (parts_of r buffer Flush) 0) → w ≡ work_for h r buffer Flush step
first_flush h r buffer w step cached is syncs =
    let refused : refusal h.capacity h.mode Flush ≡ None = ap (λ (mode : CacheMode). refusal h.capacity mode Flush) cached in
    let status : 0 ≡ status_of h Flush = sym (ap (λ (o : Option ℕ). unwrap_or o 0) refused) in
    to_step h r buffer Flush _ step Sync w is (ap (first_of Flush) refused) (syncs ∙ ap work.Sync (answer_is h r buffer Flush 0 1 1 status refl refl))

-- whole sectors in the right direction and within the capacity can be moved
moves : (sector capacity : ℕ) (writable : Bool) (x : Sectors) → x.writable ≡ writable → x.span.len % 512 ≡ 0 → sector + x.span.len / 512 ≤ capacity → can_move sector capacity writable (Some x) ≡ true
moves sector capacity true x is whole within = grind (arith, nat_tests)
moves sector capacity false x is whole within = grind (arith, nat_tests)

and_false : (a b c : Bool) → c ≡ false → a && (b && c) ≡ false
and_false true true c is = is
and_false true false c is = refl
and_false false b c is = refl

moves_past : (sector capacity : ℕ) (writable : Bool) (x : Sectors) → capacity < sector + x.span.len / 512 → can_move sector capacity writable (Some x) ≡ false
moves_past sector capacity writable x past =
    let past_it : nat_le (sector + x.span.len / 512) capacity ≡ false = grind (arith, nat_tests) in
    and_false (if writable then x.writable else not x.writable) (x.span.len % 512 == 0) (nat_le (sector + x.span.len / 512) capacity) past_it

first_by : (h : Header1) (r : SplitRing) (buffer : ℕ) (request : Asked) (w : Work) (step : RequestStep) → IsBasic request → h.mode ≡ Back → slice_get (task_steps h request) 0 ≡ Some step
    → FirstWork (parts_of r buffer request) (type_of request) (sector_of request) h.capacity w → w ≡ work_for h r buffer request step
first_by h r buffer (Read s n) w step basic cached is f =
    let x : Sectors = sectors_at r buffer (512 * n) true in
    first_read h r buffer s n w step is (λ low some. f.read x refl refl (moves s h.capacity true x refl (omega arith) low) some) (λ none low. f.read_nothing x refl refl (moves s h.capacity true x refl (omega arith) (omega (arith, none, low))) none) (λ past. f.read_refused refl (moves_past s h.capacity true x past))
first_by h r buffer (Write s bytes) w step basic cached is f =
    let x : Sectors = sectors_at r buffer (length bytes) false in
    first_write h r buffer s bytes w step cached basic is (λ low some. f.write x refl refl (moves s h.capacity false x refl basic low) some) (λ none low. f.write_nothing x refl refl (moves s h.capacity false x refl basic (omega (arith, none, low))) none) (λ past. f.write_refused refl (moves_past s h.capacity false x past))
first_by h r buffer Flush w step basic cached is f = first_flush h r buffer w step cached is (f.flush refl)
first_by h r buffer Id w step basic cached is f = absurd basic
first_by h r buffer (Discard parts) w step basic cached is f = absurd basic
first_by h r buffer (Zero parts) w step basic cached is f = absurd basic

pub first_is : (h : Header1) (r : SplitRing) (buffer : ℕ) (request : Asked) (w : Work) (step : RequestStep) (p : Parts) (kind sector capacity : ℕ) → p ≡ parts_of r buffer request → kind ≡ type_of request → sector ≡ sector_of request
    → DiskServes h capacity request → slice_get (task_steps h request) 0 ≡ Some step → FirstWork p kind sector capacity w → w ≡ work_for h r buffer request step
first_is h r buffer request w step p kind sector capacity same kinds sectors served is f =
    let a : FirstWork (parts_of r buffer request) kind sector capacity w = subst (λ (q : Parts). FirstWork q kind sector capacity w) same f in
    let b : FirstWork (parts_of r buffer request) (type_of request) sector capacity w = subst (λ (k : ℕ). FirstWork (parts_of r buffer request) k sector capacity w) kinds a in
    let d : FirstWork (parts_of r buffer request) (type_of request) (sector_of request) capacity w = subst (λ (k : ℕ). FirstWork (parts_of r buffer request) (type_of request) k capacity w) sectors b in
    first_by h r buffer request w step served.basic served.cached is (subst (λ (k : ℕ). FirstWork (parts_of r buffer request) (type_of request) (sector_of request) k w) (sym served.capacity) d)

-- a field of what was loaded
pub loaded_field : {T E : Type 0} (at w n : ℕ) (into : List ℕ) (told : Option Bytes) (m : Bytes) (space place s p : ℕ) (loads : Result T E) → told ≡ Some m → is_err loads ≡ false → at + w ≤ n → space ≡ s → place ≡ p
    → OnOk loads (WhereTold told (λ m. into ≡ bytes_from n m space place)) → field w at into ≡ word w m s (p + at)
loaded_field at w n into told m space place s p (Ok x) is_told e fits same_space same_place loaded =
    ap (field w at) (loaded m is_told) ∙ field_of_loaded at w n m space place fits ∙ ap (λ (t : ℕ). word w m t (place + at)) same_space ∙ ap (λ (q : ℕ). word w m s (q + at)) same_place
loaded_field at w n into told m space place s p (Err x) is_told e fits same_space same_place loaded = absurd (false≢true (sym e))
