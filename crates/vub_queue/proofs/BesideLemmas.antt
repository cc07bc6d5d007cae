-- A store of a task, whose spans are apart from its queue's words.
use Rattle.std.proofs.Common.{◌≡◌, ◌≢◌, ◌≤◌, ◌<◌, ◌⊎◌, ℕ, ◌+◌, ◌-◌, ◌*◌, ◌/◌, ◌%◌, Bool, true, false, List, length, refl, ap, sym, ◌∙◌, subst, inl, inr, arith}
use Rattle.std.specs.Prelude.{Option, Some, None, nat_le, ◌==◌}
use Rattle.std.proofs.lemmas.Bool.Decides.{nat_tests}
use Rattle.std.proofs.lemmas.Bool.{cases_Bool}
use Rattle.vub_shared.specs.Bytes.{Bytes, Apart}
use Rattle.vub_shared.specs.Stores.{Store, one_store, after_store}
use Rattle.vub_disk.specs.Values.{Values}
use Rattle.vub_ring.specs.Ring.{Ring}
use Rattle.vub_infl_split.specs.declared.region.SplitRegion.{SplitRegion}
use Rattle.vub_facts.specs.Facts.{Elsewhere}
use Rattle.vub_direct_chain.specs.declared.chain.Span.{Span}
use Rattle.vub_direct_chain.specs.declared.chain.Sectors.{Sectors}
use Rattle.vub_direct_chain.specs.declared.chain.Parts.{Parts}
use Rattle.vub_direct_chain.specs.declared.chain.Desc.{Desc}
use Rattle.vub_direct_chain.specs.ChainState.{HasParts, takes_status, link_in}
use Rattle.vub_task.specs.declared.task.Answer.{Answer}
use Rattle.vub_task.specs.declared.task.Task.{Task}
use Rattle.vub_task.specs.declared.task.TaskStep as made
use Rattle.vub_task.specs.declared.task.TaskStep.TheVariants as answers
use Rattle.vub_task.specs.declared.task.Work.{Work}
use Rattle.vub_task.specs.declared.task.Work.TheVariants as work
use Rattle.vub_task.specs.TaskState.{FirstWork, StartsAs, can_move, WorkLies, TaskLies, store_by, after_maybe, Worked, Begins, BegunAs, head_in, is_begun}
use Rattle.vub_task.specs.Writes.{sectors_span, spans_written, parts_written}
use Rattle.vub_queue.specs.declared.queue.Stepped.{Stepped}
use Rattle.vub_queue.specs.QueueState.{QueueState, StepsTask, WorksTask, said, is_fault, sector_at}
use Rattle.vub_queue.specs.QueueFacts.{ring_of, SpanApart, SpansApart, TaskApart}

-- memory is as it was, or after one store that touches no word of the queue
pub record IsBeside (s : QueueState) (m after : Bytes) : Type 0 where
  pub is : (after ≡ m) ⊎ ((st : Store) × Elsewhere (ring_of s) s.recovery.region st × (after ≡ after_store st m))

-- ---- a store within a span

within_apart : (space from len place count t q v : ℕ) → from ≤ place → place + count ≤ from + len → Apart space from len t q v → Apart space place count t q v
within_apart space from len place count t q v low high (inl other) = inl other
within_apart space from len place count t q v low high (inr (inl before)) = inr (inl (omega (arith, low, before)))
within_apart space from len place count t q v low high (inr (inr behind)) = inr (inr (omega (arith, high, behind)))

elsewhere : (r : Ring) (g : SplitRegion) (x : Span) (place : ℕ) (bytes : List ℕ) → SpanApart r g x → x.place ≤ place → place + length bytes ≤ x.place + x.len → Elsewhere r g (one_store x.space.number place bytes)
elsewhere r g x place bytes apart low high = record {
  avail = within_apart _ x.place x.len place (length bytes) _ _ _ low high apart.avail;
  used = within_apart _ x.place x.len place (length bytes) _ _ _ low high apart.used;
  region = within_apart _ x.place x.len place (length bytes) _ _ _ low high apart.region;
}

some_is : {A : Type 0} (a b : A) → Some a ≡ Some b → a ≡ b
some_is a b same = cc same

-- the store of a step of work whose spans are apart
store_elsewhere : (sizes : ℕ → ℕ) (capacity : ℕ) (s : QueueState) (w : Work) (sector : List ℕ) (st : Store) → WorkLies sizes capacity w → length sector ≡ 512 → SpansApart s (spans_written w) → store_by w sector ≡ Some st → Elsewhere (ring_of s) s.recovery.region st
store_elsewhere sizes capacity s work.Begin sector st lies whole apart is = absurd (cc is)
store_elsewhere sizes capacity s (work.Look t) sector st lies whole apart is = absurd (cc is)
store_elsewhere sizes capacity s (work.Store t) sector st lies whole apart is =
    subst (Elsewhere (ring_of s) s.recovery.region) (some_is _ st is) (elsewhere (ring_of s) s.recovery.region (sectors_span t) (t.span.place + 512 * t.done) sector (apart 1 t.answer.span (omega arith)) (omega arith) (omega (arith, whole, lies.left)))
store_elsewhere sizes capacity s (work.Act t) sector st lies whole apart is = absurd (cc is)
store_elsewhere sizes capacity s (work.Sync a) sector st lies whole apart is = absurd (cc is)
store_elsewhere sizes capacity s (work.Reply a) sector st lies whole apart is =
    subst (Elsewhere (ring_of s) s.recovery.region) (some_is _ st is) (elsewhere (ring_of s) s.recovery.region a.span (a.span.place + (a.span.len - 1)) _ (apart 0 a.span (omega arith)) (omega arith) (omega (arith, lies.some)))

-- ---- a step

-- memory after a store of a step, or none
made_store : (s : QueueState) (o : Option Store) (m now : Bytes) (told_after : Option Bytes) → ((st : Store) → o ≡ Some st → Elsewhere (ring_of s) s.recovery.region st) → told_after ≡ Some (after_maybe o m) → told_after ≡ Some now → IsBeside s m now
made_store s None m now told_after off is told = record { is = inl (some_is now m (sym told ∙ is)) }
made_store s (Some st) m now told_after off is told = record { is = inr (st, off st refl, some_is now (after_store st m) (sym told ∙ is)) }

worked_beside : (s : QueueState) (w : Work) (sector after : List ℕ) (head : ℕ) (step : made.TaskStep) (next : Work) (m now : Bytes) (told_after : Option Bytes) (trail trail_after : Option (List Store)) (v v_after : Option Values)
    → ((st : Store) → store_by w sector ≡ Some st → Elsewhere (ring_of s) s.recovery.region st) → Worked w sector after step next (Some m) told_after trail trail_after v v_after → is_fault (said head step) ≡ false → told_after ≡ Some now → IsBeside s m now
worked_beside s w sector after head answers.Faulted next m now told_after trail trail_after v v_after off h fine told = record { is = inl (some_is now m (sym told ∙ h.unstored)) }
worked_beside s w sector after head answers.Failed next m now told_after trail trail_after v v_after off h fine told = absurd (cc fine)
worked_beside s w sector after head (answers.Stored tag) next m now told_after trail trail_after v v_after off h fine told = made_store s (store_by w sector) m now told_after off h.stored told
worked_beside s w sector after head (answers.Looked k) next m now told_after trail trail_after v v_after off h fine told = made_store s (store_by w sector) m now told_after off h.stored told
worked_beside s w sector after head (answers.Acted k) next m now told_after trail trail_after v v_after off h fine told = made_store s (store_by w sector) m now told_after off h.stored told
worked_beside s w sector after head answers.Synced next m now told_after trail trail_after v v_after off h fine told = made_store s (store_by w sector) m now told_after off h.stored told
worked_beside s w sector after head (answers.Done status len) next m now told_after trail trail_after v v_after off h fine told = made_store s (store_by w sector) m now told_after off h.stored told
worked_beside s w sector after head (answers.Broken fault) next m now told_after trail trail_after v v_after off h fine told = made_store s (store_by w sector) m now told_after off h.stored told

-- ---- the first step

-- the first step of a chain stores its status, or nothing
abbrev Replies : Parts → Work → List ℕ → Type 0
Replies p w sector = (st : Store) → store_by w sector ≡ Some st → (a : Answer) × (w ≡ work.Reply a) × (a.span ≡ p.status)

replies : (p : Parts) (w : Work) (sector : List ℕ) (a : Answer) → w ≡ work.Reply a → a.span ≡ p.status → Replies p w sector
replies p w sector a is span st stores = (a, is, span)

stores_none : (p : Parts) (w : Work) (sector : List ℕ) → store_by w sector ≡ None → Replies p w sector
stores_none p w sector none st stores = absurd (cc (none, stores))

moves_whole : (sector capacity : ℕ) (writable : Bool) (o : Option Sectors) (x : Sectors) → o ≡ Some x → can_move sector capacity writable o ≡ true → x.span.len % 512 ≡ 0
moves_whole sector capacity writable o x is can = go (subst (λ (y : Option Sectors). can_move sector capacity writable y ≡ true) is can)
  where
    go : can_move sector capacity writable (Some x) ≡ true → x.span.len % 512 ≡ 0
    go can = grind (arith, nat_tests, can)

first_read : (p : Parts) (sector capacity : ℕ) (w : Work) (bytes : List ℕ) (o : Option Sectors) → p.sectors ≡ o → FirstWork p 0 sector capacity w → Replies p w bytes
first_read p sector capacity w bytes o is f = elim (cases_Bool (can_move sector capacity true p.sectors)) [
  | inr refused ↦ replies p w bytes _ (f.read_refused refl refused) refl
  | inl can ↦ go o is can
]
  where
    go : (o : Option Sectors) → p.sectors ≡ o → can_move sector capacity true p.sectors ≡ true → Replies p w bytes
    go None none can = absurd (cc (sym (ap (can_move sector capacity true) none) ∙ can))
    go (Some x) some can = elim (cases_Bool (nat_le (x.span.len / 512) 0)) [
      | inl empty ↦
          let whole = moves_whole sector capacity true p.sectors x some can in
          let few : x.span.len / 512 ≤ 0 = grind (arith, nat_tests, empty) in
          replies p w bytes _ (f.read_nothing x refl some can (omega (arith, whole, few))) refl
      | inr more ↦
          let left : 0 < x.span.len / 512 = grind (arith, nat_tests, more) in
          stores_none p w bytes (ap (λ (k : Work). store_by k bytes) (f.read x refl some can left))
    ]

first_write : (p : Parts) (sector capacity : ℕ) (w : Work) (bytes : List ℕ) (o : Option Sectors) → p.sectors ≡ o → FirstWork p 1 sector capacity w → Replies p w bytes
first_write p sector capacity w bytes o is f = elim (cases_Bool (can_move sector capacity false p.sectors)) [
  | inr refused ↦ replies p w bytes _ (f.write_refused refl refused) refl
  | inl can ↦ go o is can
]
  where
    go : (o : Option Sectors) → p.sectors ≡ o → can_move sector capacity false p.sectors ≡ true → Replies p w bytes
    go None none can = absurd (cc (sym (ap (can_move sector capacity false) none) ∙ can))
    go (Some x) some can = elim (cases_Bool (nat_le (x.span.len / 512) 0)) [
      | inl empty ↦
          let whole = moves_whole sector capacity false p.sectors x some can in
          let few : x.span.len / 512 ≤ 0 = grind (arith, nat_tests, empty) in
          replies p w bytes _ (f.write_nothing x refl some can (omega (arith, whole, few))) refl
      | inr more ↦
          let left : 0 < x.span.len / 512 = grind (arith, nat_tests, more) in
          stores_none p w bytes (ap (λ (k : Work). store_by k bytes) (f.write x refl some can left))
    ]

first_replies : (p : Parts) (kind sector capacity : ℕ) (w : Work) (bytes : List ℕ) → FirstWork p kind sector capacity w → Replies p w bytes
first_replies p kind sector capacity w bytes f = go kind f
  where
    other : (k : ℕ) → k ≢ 0 → k ≢ 1 → k ≢ 4 → FirstWork p k sector capacity w → Replies p w bytes
    other k a b d f = replies p w bytes _ (f.unsupported a b d) refl

    go : (k : ℕ) → FirstWork p k sector capacity w → Replies p w bytes
    go k f = elim (cases_Bool (k == 0)) [
      | inl zero ↦ let is : k ≡ 0 = grind (arith, nat_tests, zero) in first_read p sector capacity w bytes p.sectors refl (subst (λ (j : ℕ). FirstWork p j sector capacity w) is f)
      | inr not_zero ↦ elim (cases_Bool (k == 1)) [
        | inl one ↦ let is : k ≡ 1 = grind (arith, nat_tests, one) in first_write p sector capacity w bytes p.sectors refl (subst (λ (j : ℕ). FirstWork p j sector capacity w) is f)
        | inr not_one ↦ elim (cases_Bool (k == 4)) [
          | inl four ↦ let is : k ≡ 4 = grind (arith, nat_tests, four) in stores_none p w bytes (ap (λ (j : Work). store_by j bytes) (f.flush is))
          | inr not_four ↦ other k (grind (arith, nat_tests, not_zero)) (grind (arith, nat_tests, not_one)) (grind (arith, nat_tests, not_four)) f
        ]
      ]
    ]

starts_replies : (m : Bytes) (p : Parts) (capacity : ℕ) (w : Work) (bytes : List ℕ) → StartsAs m p capacity w → Replies p w bytes
starts_replies m p capacity w bytes f = elim (cases_Bool (nat_le 16 p.header.len)) [
  | inl whole ↦ first_replies p _ _ capacity w bytes (f.whole (grind (arith, nat_tests, whole)))
  | inr short ↦ replies p w bytes _ (f.short (grind (arith, nat_tests, short))) refl
]

-- the status of a chain has a byte
takes_some : (d : Desc) → takes_status d ≡ true → 1 ≤ d.len
takes_some d takes = grind (arith, nat_tests, takes)

first_elsewhere : (sizes : ℕ → ℕ) (capacity head : ℕ) (s : QueueState) (m : Bytes) (p : Parts) (w : Work) (bytes : List ℕ) (st : Store) → HasParts sizes s.ring m head p → StartsAs m p capacity w → SpansApart s (parts_written p) → store_by w bytes ≡ Some st
    → Elsewhere (ring_of s) s.recovery.region st
first_elsewhere sizes capacity head s m p w bytes st means starts apart stores =
    let reply = starts_replies m p capacity w bytes starts st stores in
    let a : Answer = reply.0 in
    let some : 1 ≤ a.span.len = subst (λ (x : Span). 1 ≤ x.len) (sym reply.2) (subst (λ (x : Span). 1 ≤ x.len) (sym means.status) (takes_some (link_in s.ring m head means.last) means.takes)) in
    let off : SpanApart (ring_of s) s.recovery.region a.span = subst (SpanApart (ring_of s) s.recovery.region) (sym reply.2) (apart 0 p.status (omega arith)) in
    let is : store_by (work.Reply a) bytes ≡ Some st = ap (λ (k : Work). store_by k bytes) (sym reply.1) ∙ stores in
    subst (Elsewhere (ring_of s) s.recovery.region) (some_is _ st is) (elsewhere (ring_of s) s.recovery.region a.span (a.span.place + (a.span.len - 1)) _ off (omega arith) (omega (arith, some)))

begins_beside : (sizes : ℕ → ℕ) (capacity head : ℕ) (s : QueueState) (sector after : List ℕ) (step : made.TaskStep) (next : Work) (m now : Bytes) (told_after : Option Bytes) (trail trail_after : Option (List Store)) (v v_after : Option Values)
    → ((p : Parts) → HasParts sizes s.ring m head p → SpansApart s (parts_written p)) → Begins sizes s.ring m head capacity sector after step next told_after trail trail_after v v_after → is_fault (said head step) ≡ false → told_after ≡ Some now → IsBeside s m now
begins_beside sizes capacity head s sector after step next m now told_after trail trail_after v v_after apart h fine told = go step h fine
  where
    first : (x : made.TaskStep) → BegunAs sizes s.ring m head capacity sector after x next told_after trail trail_after v v_after → is_fault (said head x) ≡ false → IsBeside s m now
    first x b fine = worked_beside s b.first sector after head x next m now told_after trail trail_after v v_after (λ st. first_elsewhere sizes capacity head s m b.parts b.first sector st b.means b.starts (apart b.parts b.means)) b.worked fine told

    go : (x : made.TaskStep) → Begins sizes s.ring m head capacity sector after x next told_after trail trail_after v v_after → is_fault (said head x) ≡ false → IsBeside s m now
    go (answers.Broken fault) h fine = record { is = inl (some_is now m (sym told ∙ h.1)) }
    go answers.Failed h fine = absurd (cc fine)
    go (answers.Stored tag) h fine = first (answers.Stored tag) h fine
    go (answers.Looked k) h fine = first (answers.Looked k) h fine
    go (answers.Acted k) h fine = first (answers.Acted k) h fine
    go answers.Synced h fine = first answers.Synced h fine
    go answers.Faulted h fine = first answers.Faulted h fine
    go (answers.Done status len) h fine = first (answers.Done status len) h fine

-- ---- a turn of work

begun_or_not : (w : Work) → (w ≡ work.Begin) ⊎ (is_begun w ≡ true)
begun_or_not work.Begin = inl refl
begun_or_not (work.Look t) = inr refl
begun_or_not (work.Store t) = inr refl
begun_or_not (work.Act t) = inr refl
begun_or_not (work.Sync a) = inr refl
begun_or_not (work.Reply a) = inr refl

pub task_beside : (sizes : ℕ → ℕ) (capacity place : ℕ) (task : Task) (told told_after : Option Bytes) (trail trail_after : Option (List Store)) (v v_after : Option Values) (x : Stepped) (s t : QueueState) (m now : Bytes)
    → told ≡ Some m → told_after ≡ Some now → is_fault x ≡ false → TaskLies sizes capacity task → WorksTask sizes capacity place task told told_after trail trail_after v v_after x s t → TaskApart sizes m s task → IsBeside s m now
task_beside sizes capacity place task told told_after trail trail_after v v_after x s t m now is is_now fine lies works apart =
    let h : StepsTask sizes capacity place task works.head works.step told told_after trail trail_after v v_after s works.stepped = works.steps in
    let ok : is_fault (said works.head works.step) ≡ false = ap is_fault (sym works.says) ∙ fine in
    let sector : List ℕ = sector_at s (head_in task) in
    elim (begun_or_not task.work) [
      | inl fresh ↦
          begins_beside sizes capacity (head_in task) s sector h.sector works.step h.next.work m now told_after trail trail_after v v_after (apart.begins fresh) (h.begins fresh m is)
          (subst (λ (k : ℕ). is_fault (said k works.step) ≡ false) h.heads.0 ok) is_now
      | inr begun ↦
          let worked = subst (λ (o : Option Bytes). Worked task.work sector h.sector works.step h.next.work o told_after trail trail_after v v_after) is (h.goes_on begun) in
          worked_beside s task.work sector h.sector works.head works.step h.next.work m now told_after trail trail_after v v_after
          (λ st stores. store_elsewhere sizes capacity s task.work sector st lies worked.whole apart.goes_on stores) worked ok is_now
    ]
