-- A line that is read is the line that was written, and what was written is read again.
use Rattle.std.proofs.Common.{◌≡◌, ℕ, ◌^◌, ◌<◌, ◌≤◌, true, leb, List, [], ◌∷◌, ◌++◌, Option, Some, None, refl, sym, ap, subst, ◌∙◌, append_assoc, arith, inl, inr, ◌⊎◌, lit≤}
use Rattle.std.specs.Prelude.{codes, ◌&&◌}
use Rattle.std.specs.Option.{option_or}
use Rattle.std.proofs.lemmas.Bool.Decides.{nat_tests}
use Rattle.std.proofs.lemmas.Bool.{leb-true, le-leb}
use Rattle.std.proofs.lemmas.Option.{cond_some}
use Rattle.std.specs.Fmt.{decimal}
use Rattle.std.proofs.lemmas.Fmt.{decimal_digit}
use Rattle.vub_base.specs.declared.header.Format.{Format}
use Rattle.vub_base.specs.declared.header.Format.TheVariants.{Split}
use Rattle.vub_base.specs.declared.header.CacheMode.{CacheMode}
use Rattle.vub_base.specs.declared.header.CacheMode.TheVariants.{Back}
use Rattle.vub_base.specs.declared.header.Header1.{Header1}
use Rattle.vub_base.specs.declared.request.Shape.{Shape}
use Rattle.vub_base.specs.declared.request.Shape.TheVariants.{Direct}
use Rattle.vub_base.specs.declared.request.Ask.{Ask}
use Rattle.vub_schedule.specs.declared.types.Event.{Event}
use Rattle.vub_schedule.specs.declared.types.Event.TheVariants as events
use Rattle.vub_schedule.specs.Spelling.{line, ask_text, event_text, header_text, header_line, event_line, is_size, IsHeader, IsAsk, IsEvent}
use Rattle.vub_schedule.specs.Reading.{base_at, capacity_at, ◌>>=◌, decide, tag, number_at, count_at, ask_at, as_event, with_ask, with_number, asked_at, numbered_at, word_at, event_text_at, event_at, plain_header, header_of, header_at, with_header, back_at, middle_at}
use Rattle.vub_schedule.proofs.Fields.{bind_some, some_is, both, tag_takes, tag_again, number_takes, number_again, count_takes, count_again}
use Rattle.vub_schedule.proofs.Requests.{decided, ask_takes, ask_again}

-- ---- pieces of text, grouped to the right

header_pieces : (v f s q n k z m l rest : List ℕ) → v ++ (f ++ s ++ (q ++ s ++ n ++ s ++ k ++ s ++ z) ++ s ++ m ++ l) ++ rest ≡ v ++ (f ++ (s ++ (q ++ (s ++ (n ++ (s ++ (k ++ (s ++ (z ++ (s ++ (m ++ (l ++ rest))))))))))))
header_pieces v f s q n k z m l rest = simp append_assoc

-- ---- events

zero_text : decimal 0 ≡ codes "0"
zero_text = decimal_digit 0 (omega arith)

-- what is read at the front of the bytes is the text of that event, which is of the grammar
abbrev Found : Header1 → List ℕ → Event × List ℕ → Type 0
Found h bytes x = (bytes ≡ event_text x.0 ++ x.1) × IsEvent h x.0

ask_grouped : (ask : Ask) (rest : List ℕ) → event_text (events.Ask 0 Direct ask) ++ rest ≡ codes "ask 0 d " ++ (ask_text ask ++ rest)
unfolding event_text
ask_grouped ask rest = rw zero_text refl

guest_text : (k : ℕ) → event_text (events.Guest 0 k) ≡ codes "guest 0 " ++ decimal k
unfolding event_text
guest_text k = rw zero_text refl

work_text : (j : ℕ) → event_text (events.Work 0 j) ≡ codes "work 0 " ++ decimal j
unfolding event_text
work_text j = rw zero_text refl

publish_text : (m : ℕ) → event_text (events.Publish 0 m) ≡ codes "publish 0 " ++ decimal m
unfolding event_text
publish_text m = rw zero_text refl

turn_text : (k : ℕ) → event_text (events.Turn 0 k) ≡ codes "turn 0 " ++ decimal k
unfolding event_text
turn_text k = rw zero_text refl

start_text : event_text (events.Start 0) ≡ codes "start 0"
unfolding event_text
start_text = rw zero_text refl

fetch_text : event_text (events.Fetch 0) ≡ codes "fetch 0"
unfolding event_text
fetch_text = rw zero_text refl

drain_text : event_text (events.Drain 0) ≡ codes "drain 0"
unfolding event_text
drain_text = rw zero_text refl

collect_text : event_text (events.Collect 0) ≡ codes "collect 0"
unfolding event_text
collect_text = rw zero_text refl

boot_text : event_text events.Boot ≡ codes "boot"
unfolding event_text
boot_text = refl

join_text : event_text events.Join ≡ codes "join"
unfolding event_text
join_text = refl

kill_text : event_text events.Kill ≡ codes "kill"
unfolding event_text
kill_text = refl

-- the text of an event, with a newline behind it, is read as that event
Again : Header1 → Event → List ℕ → Type 0
Again h e rest = event_text_at h (event_text e ++ 10 ∷ rest) ≡ Some (e, 10 ∷ rest)

ask_0 : (h : Header1) (ask : Ask) (rest : List ℕ) → h.capacity ≤ 2 ^ 64 → IsAsk h ask → Again h (events.Ask 0 Direct ask) rest
unfolding Again event_text_at asked_at tag
ask_0 h ask rest fits is = ap (event_text_at h) (ask_grouped ask (10 ∷ rest)) ∙ rw (ask_again h ask rest fits is) refl

guest_0 : (h : Header1) (k : ℕ) (rest : List ℕ) → 1 ≤ k → k < 65536 → Again h (events.Guest 0 k) rest
unfolding Again event_text_at asked_at numbered_at tag
guest_0 h k rest some few = rw (guest_text k, count_again 65535 k (10 ∷ rest) (lit≤ tt) some (omega (arith, few)) refl) refl

work_0 : (h : Header1) (j : ℕ) (rest : List ℕ) → j < 64 → Again h (events.Work 0 j) rest
unfolding Again event_text_at asked_at numbered_at tag
work_0 h j rest few = rw (work_text j, number_again 64 j (10 ∷ rest) (lit≤ tt) few refl) refl

publish_0 : (h : Header1) (m : ℕ) (rest : List ℕ) → 1 ≤ m → m ≤ 64 → Again h (events.Publish 0 m) rest
unfolding Again event_text_at asked_at numbered_at tag
publish_0 h m rest some few = rw (publish_text m, count_again 64 m (10 ∷ rest) (lit≤ tt) some few refl) refl

turn_0 : (h : Header1) (k : ℕ) (rest : List ℕ) → 1 ≤ k → k < 65536 → Again h (events.Turn 0 k) rest
unfolding Again event_text_at asked_at numbered_at tag
turn_0 h k rest some few = rw (turn_text k, count_again 65535 k (10 ∷ rest) (lit≤ tt) some (omega (arith, few)) refl) refl

start_0 : (h : Header1) (rest : List ℕ) → Again h (events.Start 0) rest
unfolding Again event_text_at asked_at numbered_at word_at tag
start_0 h rest = rw start_text refl

fetch_0 : (h : Header1) (rest : List ℕ) → Again h (events.Fetch 0) rest
unfolding Again event_text_at asked_at numbered_at word_at tag
fetch_0 h rest = rw fetch_text refl

drain_0 : (h : Header1) (rest : List ℕ) → Again h (events.Drain 0) rest
unfolding Again event_text_at asked_at numbered_at word_at tag
drain_0 h rest = rw drain_text refl

collect_0 : (h : Header1) (rest : List ℕ) → Again h (events.Collect 0) rest
unfolding Again event_text_at asked_at numbered_at word_at tag
collect_0 h rest = rw collect_text refl

boot_0 : (h : Header1) (rest : List ℕ) → Again h events.Boot rest
unfolding Again event_text_at asked_at numbered_at word_at tag
boot_0 h rest = rw boot_text refl

join_0 : (h : Header1) (rest : List ℕ) → Again h events.Join rest
unfolding Again event_text_at asked_at numbered_at word_at tag
join_0 h rest = rw join_text refl

kill_0 : (h : Header1) (rest : List ℕ) → Again h events.Kill rest
unfolding Again event_text_at asked_at numbered_at word_at tag
kill_0 h rest = rw kill_text refl

-- the queue of an event of the grammar is queue 0
on_queue : (h : Header1) (event : ℕ → Event) (q : ℕ) (rest : List ℕ) → q ≡ 0 → Again h (event 0) rest → Again h (event q) rest
on_queue h event q rest zero again = subst (λ (k : ℕ). Again h (event k) rest) (sym zero) again

text_again : (h : Header1) (e : Event) (rest : List ℕ) → h.capacity ≤ 2 ^ 64 → IsEvent h e → Again h e rest
text_again h (events.Ask q shape ask) rest fits is =
    on_queue h (λ k. events.Ask k shape ask) q rest is.0 (subst (λ (s : Shape). Again h (events.Ask 0 s ask) rest) (sym is.1) (ask_0 h ask rest fits is.2))
text_again h (events.Guest q k) rest fits is = on_queue h (λ n. events.Guest n k) q rest is.0 (guest_0 h k rest is.1 is.2)
text_again h (events.Collect q) rest fits is = on_queue h events.Collect q rest is (collect_0 h rest)
text_again h events.Boot rest fits is = boot_0 h rest
text_again h events.Join rest fits is = join_0 h rest
text_again h (events.Start q) rest fits is = on_queue h events.Start q rest is (start_0 h rest)
text_again h (events.Fetch q) rest fits is = on_queue h events.Fetch q rest is (fetch_0 h rest)
text_again h (events.Work q j) rest fits is = on_queue h (λ n. events.Work n j) q rest is.0 (work_0 h j rest is.1)
text_again h (events.Publish q m) rest fits is = on_queue h (λ n. events.Publish n m) q rest is.0 (publish_0 h m rest is.1 is.2)
text_again h (events.Turn q k) rest fits is = on_queue h (λ n. events.Turn n k) q rest is.0 (turn_0 h k rest is.1 is.2)
text_again h (events.Drain q) rest fits is = on_queue h events.Drain q rest is (drain_0 h rest)
text_again h events.Kill rest fits is = kill_0 h rest

-- an event that is always the same text
word_found : (h : Header1) (text bytes after : List ℕ) (e : Event) (x : Event × List ℕ) → event_text e ≡ text → IsEvent h e → tag text bytes ≡ Some after → as_event e after ≡ Some x → Found h bytes x
word_found h text bytes after e x same is t eq = subst (λ (y : Event × List ℕ). Found h bytes y) (some_is (e, after) x eq) (rw same (tag_takes text bytes after t), is)

-- an event that is a text and a number
numbered_found : (h : Header1) (text bytes after : List ℕ) (number : Option (ℕ × List ℕ)) (event : ℕ → Event) (x : Event × List ℕ) → ((n : ℕ) → event_text (event n) ≡ text ++ decimal n)
    → ((n : ℕ) (rest : List ℕ) → number ≡ Some (n, rest) → (after ≡ decimal n ++ rest) × IsEvent h (event n)) → tag text bytes ≡ Some after → (number >>= with_number event) ≡ Some x → Found h bytes x
numbered_found h text bytes after number event x same takes t eq =
    let n = bind_some number (with_number event) x eq in
    let p = takes n.0.0 n.0.1 n.1 in
    let grouped : bytes ≡ event_text (event n.0.0) ++ n.0.1 = rw (same n.0.0, tag_takes text bytes after t, p.0) (simp append_assoc) in
    subst (λ (y : Event × List ℕ). Found h bytes y) (some_is (event n.0.0, n.0.1) x n.2) (grouped, p.1)

asked_takes : (h : Header1) (bytes : List ℕ) (x : Event × List ℕ) → h.capacity ≤ 2 ^ 64 → asked_at h bytes ≡ Some x → Found h bytes x
unfolding asked_at
asked_takes h bytes x fits e =
    let t = bind_some (tag (codes "ask 0 d ") bytes) (λ rest. ask_at h.capacity rest >>= with_ask) x e in
    let a = bind_some (ask_at h.capacity t.0) with_ask x t.2 in
    let p = ask_takes h t.0 a.0 fits a.1 in
    let text : bytes ≡ event_text (events.Ask 0 Direct a.0.0) ++ a.0.1 = tag_takes (codes "ask 0 d ") bytes t.0 t.1 ∙ ap (λ (y : List ℕ). codes "ask 0 d " ++ y) p.0 ∙ sym (ask_grouped a.0.0 a.0.1) in
    subst (λ (y : Event × List ℕ). Found h bytes y) (some_is (events.Ask 0 Direct a.0.0, a.0.1) x a.2) (text, (refl, refl, p.1))

-- one event of the grammar after another
or_else : (h : Header1) (text bytes : List ℕ) (read : List ℕ → Option (Event × List ℕ)) (other : Option (Event × List ℕ)) (x : Event × List ℕ)
    → ((after : List ℕ) → tag text bytes ≡ Some after → read after ≡ Some x → Found h bytes x) → (other ≡ Some x → Found h bytes x) → decide (tag text bytes) read other ≡ Some x → Found h bytes x
or_else h text bytes read other x here there e = elim (decided (tag text bytes) read other x e) [ inl d ↦ here d.0 d.1 d.2 | inr d ↦ there d.1 ]

numbered_takes : (h : Header1) (bytes : List ℕ) (x : Event × List ℕ) → numbered_at bytes ≡ Some x → Found h bytes x
unfolding numbered_at
numbered_takes h bytes x =
    or_else h _ bytes _ _ x (λ after t. numbered_found h _ bytes after _ (events.Guest 0) x guest_text (λ k rest e. let c = count_takes 65535 after k rest (lit≤ tt) e in (c.0, (refl, c.1, omega (arith, c.2)))) t) (
    or_else h _ bytes _ _ x (λ after t. numbered_found h _ bytes after _ (events.Work 0) x work_text (λ j rest e. let c = number_takes 64 after j rest (lit≤ tt) e in (c.0, (refl, c.1))) t) (
    or_else h _ bytes _ _ x (λ after t. numbered_found h _ bytes after _ (events.Publish 0) x publish_text (λ m rest e. let c = count_takes 64 after m rest (lit≤ tt) e in (c.0, (refl, c.1, c.2))) t) (
    λ e.
    let t = bind_some (tag (codes "turn 0 ") bytes) (λ rest. count_at 65535 rest >>= with_number (events.Turn 0)) x e in
    numbered_found h _ bytes t.0 _ (events.Turn 0) x turn_text (λ k rest e. let c = count_takes 65535 t.0 k rest (lit≤ tt) e in (c.0, (refl, c.1, omega (arith, c.2)))) t.1 t.2)))

word_takes : (h : Header1) (bytes : List ℕ) (x : Event × List ℕ) → word_at bytes ≡ Some x → Found h bytes x
unfolding word_at
word_takes h bytes x =
    or_else h _ bytes _ _ x (λ after t is. word_found h _ bytes after (events.Start 0) x start_text refl t is) (
    or_else h _ bytes _ _ x (λ after t is. word_found h _ bytes after (events.Fetch 0) x fetch_text refl t is) (
    or_else h _ bytes _ _ x (λ after t is. word_found h _ bytes after (events.Drain 0) x drain_text refl t is) (
    or_else h _ bytes _ _ x (λ after t is. word_found h _ bytes after (events.Collect 0) x collect_text refl t is) (
    or_else h _ bytes _ _ x (λ after t is. word_found h _ bytes after events.Boot x boot_text tt t is) (
    or_else h _ bytes _ _ x (λ after t is. word_found h _ bytes after events.Join x join_text tt t is) (
    λ is. let k = bind_some (tag (codes "kill") bytes) (as_event events.Kill) x is in word_found h _ bytes k.0 events.Kill x kill_text tt k.1 k.2))))))

-- which of two options it was
which : {A : Type 0} (o other : Option A) (x : A) → option_or o other ≡ Some x → (o ≡ Some x) ⊎ (other ≡ Some x)
which (Some y) other x e = inl e
which None other x e = inr e

text_takes : (h : Header1) (bytes : List ℕ) (x : Event × List ℕ) → h.capacity ≤ 2 ^ 64 → event_text_at h bytes ≡ Some x → Found h bytes x
unfolding event_text_at
text_takes h bytes x fits e =
    elim (which (asked_at h bytes) (option_or (numbered_at bytes) (word_at bytes)) x e) [
      | inl a ↦ asked_takes h bytes x fits a
      | inr o ↦ elim (which (numbered_at bytes) (word_at bytes) x o) [ inl n ↦ numbered_takes h bytes x n | inr w ↦ word_takes h bytes x w ]
    ]

-- ---- lines

line_text : (bytes text after rest : List ℕ) → bytes ≡ text ++ after → after ≡ 10 ∷ rest → bytes ≡ line text ++ rest
line_text bytes text after rest e f = rw (e, f) (simp append_assoc)

pub event_again : (h : Header1) (e : Event) (rest : List ℕ) → h.capacity ≤ 2 ^ 64 → IsEvent h e → event_at h (event_line e ++ rest) ≡ Some (e, rest)
unfolding event_at event_line Again
event_again h e rest fits is =
    let grouped : event_line e ++ rest ≡ event_text e ++ (10 ∷ rest) = simp append_assoc in
    let text : event_text_at h (event_text e ++ (10 ∷ rest)) ≡ Some (e, 10 ∷ rest) = text_again h e rest fits is in
    ap (event_at h) grouped ∙ rw (text, tag_again (10 ∷ []) rest) refl

pub event_takes : (h : Header1) (bytes : List ℕ) (e : Event) (rest : List ℕ) → h.capacity ≤ 2 ^ 64 → event_at h bytes ≡ Some (e, rest) → (bytes ≡ event_line e ++ rest) × IsEvent h e
unfolding event_at event_line
event_takes h bytes e rest fits is =
    let a = bind_some (event_text_at h bytes) (λ event. tag (10 ∷ []) event.1 >>= λ rest. Some (event.0, rest)) (e, rest) is in
    let b = bind_some (tag (10 ∷ []) a.0.1) (λ rest. Some (a.0.0, rest)) (e, rest) a.2 in
    let p = text_takes h bytes a.0 fits a.1 in
    subst (λ (x : Event × List ℕ). (bytes ≡ line (event_text x.0) ++ x.1) × IsEvent h x.0) (some_is (a.0.0, b.0) (e, rest) b.2)
    (line_text bytes (event_text a.0.0) a.0.1 b.0 p.0 (tag_takes (10 ∷ []) a.0.1 b.0 b.1), p.1)

-- ---- the first line

pub record HeaderIs (size capacity base : ℕ) (h : Header1) : Type 0 where
  pub same : plain_header size capacity base ≡ h
  pub is : IsHeader h

header_is : (size capacity base : ℕ) (h : Header1) → header_of size capacity base ≡ Some h → capacity < 4097 → base < 65536 → HeaderIs size capacity base h
unfolding header_of
header_is size capacity base h e few begins =
    let p = cond_some (is_size size && leb 1 capacity) (plain_header size capacity base) h e in
    let tests = both (is_size size) (leb 1 capacity) p.0 in
    let good : IsHeader (plain_header size capacity base) = record { split = refl; one = refl; sized = tests.0; some = leb-true 1 capacity tests.1; few = omega arith; begins = begins; back = refl } in
    subst (λ (x : Header1). HeaderIs size capacity base x) p.1 (record { same = refl; is = good })

plain : (f : Format) (q n k b : ℕ) (m : CacheMode) → f ≡ Split → q ≡ 1 → m ≡ Back → plain_header n k b ≡ record { format = f; queues = q; size = n; capacity = k; base = b; mode = m }
plain f q n k b m e1 e2 e3 = rw (e1, e2, e3) refl

-- a header of the grammar is the plain one of its size, capacity and base
is_plain : (h : Header1) → IsHeader h → plain_header h.size h.capacity h.base ≡ h
is_plain h is = plain h.format h.queues h.size h.capacity h.base h.mode is.split is.one is.back

header_known : (h : Header1) → IsHeader h → header_of h.size h.capacity h.base ≡ Some h
unfolding header_of
header_known h is = rw (is.sized, le-leb 1 h.capacity is.some) (ap (λ (x : Header1). Some x) (is_plain h is))

size_small : (n : ℕ) → is_size n ≡ true → n < 65
size_small n e = grind (arith, nat_tests)

one_text : decimal 1 ≡ codes "1"
one_text = decimal_digit 1 (omega arith)

-- what stands behind the base, behind the capacity and behind the size
behind_base : List ℕ → List ℕ
behind_base rest = (codes " back" ++ 10 ∷ []) ++ rest

behind_capacity : ℕ → List ℕ → List ℕ
behind_capacity b rest = codes " " ++ (decimal b ++ behind_base rest)

behind_size : ℕ → ℕ → List ℕ → List ℕ
behind_size k b rest = codes " " ++ (decimal k ++ behind_capacity b rest)

plain_grouped : (n k b : ℕ) (rest : List ℕ) → header_line (plain_header n k b) ++ rest ≡ codes "vub 1 split 1 " ++ (decimal n ++ behind_size k b rest)
unfolding header_line header_text behind_base behind_capacity behind_size
plain_grouped n k b rest = rw one_text (header_pieces (codes "vub 1 ") (codes "split") (codes " ") (codes "1") (decimal n) (decimal k) (decimal b) (codes "back") (10 ∷ []) rest)

header_grouped : (h : Header1) (rest : List ℕ) → IsHeader h → header_line h ++ rest ≡ codes "vub 1 split 1 " ++ (decimal h.size ++ behind_size h.capacity h.base rest)
header_grouped h rest is = ap (λ (x : Header1). header_line x ++ rest) (sym (is_plain h is)) ∙ plain_grouped h.size h.capacity h.base rest

pub header_again : (h : Header1) (rest : List ℕ) → IsHeader h → header_at (header_line h ++ rest) ≡ Some (h, rest)
unfolding header_at base_at behind_base behind_capacity behind_size
header_again h rest is =
    ap header_at (header_grouped h rest is) ∙
    rw (
      tag_again (codes "vub 1 split 1 ") (decimal h.size ++ behind_size h.capacity h.base rest),
      number_again 65 h.size (behind_size h.capacity h.base rest) (lit≤ tt) (size_small h.size is.sized) refl,
      tag_again (codes " ") (decimal h.capacity ++ behind_capacity h.base rest),
      number_again 4097 h.capacity (behind_capacity h.base rest) (lit≤ tt) (omega (arith, is.few)) refl,
      tag_again (codes " ") (decimal h.base ++ behind_base rest),
      number_again 65536 h.base (behind_base rest) (lit≤ tt) is.begins refl,
      tag_again (codes " back" ++ 10 ∷ []) rest,
      header_known h is,
    ) refl

-- each of these is the text that is read there, and what follows it
head_text : (bytes a b c d e f rest : List ℕ) (s k base : ℕ) → bytes ≡ codes "vub 1 split 1 " ++ a → a ≡ decimal s ++ b → b ≡ codes " " ++ c → c ≡ decimal k ++ d → d ≡ codes " " ++ e → e ≡ decimal base ++ f
    → f ≡ behind_base rest → bytes ≡ header_line (plain_header s k base) ++ rest
unfolding behind_capacity behind_size
head_text bytes a b c d e f rest s k base e1 e2 e3 e4 e5 e6 e7 = rw (e1, e2, e3, e4, e5, e6, e7) (sym (plain_grouped s k base rest))

pub header_takes : (bytes : List ℕ) (h : Header1) (rest : List ℕ) → header_at bytes ≡ Some (h, rest) → (bytes ≡ header_line h ++ rest) × IsHeader h
unfolding header_at base_at behind_base
header_takes bytes h rest e =
    let a = bind_some (tag (codes "vub 1 split 1 ") bytes) (λ front. number_at 65 front >>= middle_at) (h, rest) e in
    let b = bind_some (number_at 65 a.0) middle_at (h, rest) a.2 in
    let c = bind_some (tag (codes " ") b.0.1) (λ middle. number_at 4097 middle >>= capacity_at b.0.0) (h, rest) b.2 in
    let d = bind_some (number_at 4097 c.0) (capacity_at b.0.0) (h, rest) c.2 in
    let f = bind_some (tag (codes " ") d.0.1) (λ middle. number_at 65536 middle >>= back_at b.0.0 d.0.0) (h, rest) d.2 in
    let g = bind_some (number_at 65536 f.0) (back_at b.0.0 d.0.0) (h, rest) f.2 in
    let i = bind_some (tag (codes " back" ++ 10 ∷ []) g.0.1) (λ rest. header_of b.0.0 d.0.0 g.0.0 >>= λ header. with_header header rest) (h, rest) g.2 in
    let j = bind_some (header_of b.0.0 d.0.0 g.0.0) (λ header. with_header header i.0) (h, rest) i.2 in
    let size = number_takes 65 a.0 b.0.0 b.0.1 (lit≤ tt) b.1 in
    let capacity = number_takes 4097 c.0 d.0.0 d.0.1 (lit≤ tt) d.1 in
    let base = number_takes 65536 f.0 g.0.0 g.0.1 (lit≤ tt) g.1 in
    let is = header_is b.0.0 d.0.0 g.0.0 j.0 j.1 capacity.1 base.1 in
    let text = head_text bytes a.0 b.0.1 c.0 d.0.1 f.0 g.0.1 i.0 b.0.0 d.0.0 g.0.0
    (tag_takes (codes "vub 1 split 1 ") bytes a.0 a.1) size.0 (tag_takes (codes " ") b.0.1 c.0 c.1) capacity.0 (tag_takes (codes " ") d.0.1 f.0 f.1) base.0 (tag_takes (codes " back" ++ 10 ∷ []) g.0.1 i.0 i.1)
    in
    subst (λ (x : Header1 × List ℕ). (bytes ≡ header_line x.0 ++ x.1) × IsHeader x.0) (some_is (j.0, i.0) (h, rest) j.2)
    (subst (λ (x : Header1). bytes ≡ header_line x ++ i.0) is.same text, is.is)
