-- A request that is read is the request that was written, and what was written is read again. A newline stands behind it.
use Rattle.std.proofs.Common.{◌≡◌, ℕ, zero, suc, ◌+◌, ◌^◌, ◌<◌, ◌≤◌, leb, List, [], ◌∷◌, ◌++◌, length, Option, Some, None, refl, sym, ap, subst, ◌∙◌, append_assoc, arith, inl, inr, ◌⊎◌, lit≤}
use Rattle.std.specs.Prelude.{codes}
use Rattle.std.specs.List.{AllByRecursion, flat_map}
use Rattle.std.proofs.lemmas.List.{append-nil}
use Rattle.arrayvec.specs.ArrayVec.{ArrayVec}
use Rattle.std.proofs.lemmas.Bool.{leb-true, le-leb}
use Rattle.std.proofs.lemmas.Option.{cond_some}
use Rattle.std.specs.Fmt.{decimal}
use Rattle.vub_base.specs.declared.header.Header1.{Header1}
use Rattle.vub_base.specs.declared.request.Ask.{Ask}
use Rattle.vub_base.specs.declared.request.Ask.TheVariants as asks
use Rattle.vub_schedule.specs.Spelling.{commas, hex_pair, ask_text, IsAsk}
use Rattle.vub_schedule.specs.Reading.{◌>>=◌, decide, tag, number_at, count_at, pair_at, more_fills, fills_at, as_read, as_write, as_flush, read_at, write_at, ask_at}
use Rattle.vub_schedule.proofs.Fields.{bind_some, some_is, tag_takes, number_takes, number_again, count_takes, count_again, pair_takes, pair_again}

-- which of two readings it was
pub decided : {A B : Type 0} (o : Option A) (f : A → Option B) (other : Option B) (y : B) → decide o f other ≡ Some y → ((x : A) × (o ≡ Some x) × (f x ≡ Some y)) ⊎ ((o ≡ None) × (other ≡ Some y))
decided (Some x) f other y e = inl (x, refl, e)
decided None f other y e = inr (refl, e)

-- ---- the bytes that fill sectors

-- a comma and a byte
pub fills_next : (more less : ℕ) (fills bytes after rest : List ℕ) (fill : ℕ) → more ≡ less + 1 → tag (codes ",") bytes ≡ Some after → pair_at after ≡ Some (fill, rest)
    → more_fills more fills bytes ≡ more_fills less (fills ++ fill ∷ []) rest
unfolding more_fills
fills_next zero less fills bytes after rest fill e comma pair = absurd (omega (arith, e))
fills_next (suc more) less fills bytes after rest fill e comma pair = let same : more ≡ less = omega (arith, e) in rw (comma, pair, same) refl

-- a comma and no byte
pub fills_fail : (more : ℕ) (fills bytes after : List ℕ) → 0 < more → tag (codes ",") bytes ≡ Some after → pair_at after ≡ None → more_fills more fills bytes ≡ None
unfolding more_fills
fills_fail zero fills bytes after lt comma pair = absurd (omega (arith, lt))
fills_fail (suc more) fills bytes after lt comma pair = rw (comma, pair) refl

-- no comma
pub fills_end : (more : ℕ) (fills bytes : List ℕ) → tag (codes ",") bytes ≡ None → more_fills more fills bytes ≡ Some (record { items = fills }, bytes)
unfolding more_fills
fills_end zero fills bytes comma = refl
fills_end (suc more) fills bytes comma = rw comma refl

-- no more may come
pub fills_full : (more : ℕ) (fills bytes : List ℕ) → more ≡ 0 → more_fills more fills bytes ≡ Some (record { items = fills }, bytes)
unfolding more_fills
fills_full more fills bytes e = rw e refl

-- the bytes behind the first, each with a comma before it
abbrev more_text : List ℕ → List ℕ
more_text fills = flat_map (λ b. 44 ∷ hex_pair b) fills

abbrev AreBytes : List ℕ → Type 0
AreBytes fills = AllByRecursion (λ b. b < 256) fills

more_again : (more : ℕ) (fills others rest : List ℕ) → length others ≤ more → AreBytes others → more_fills more fills (more_text others ++ 10 ∷ rest) ≡ Some (record { items = fills ++ others }, 10 ∷ rest)
unfolding tag
more_again more fills [] rest le bytes = rw (append-nil fills) (fills_end more fills (10 ∷ rest) refl)
more_again zero fills (b ∷ others) rest le bytes = absurd (omega (arith, le))
more_again (suc more) fills (b ∷ others) rest le bytes =
    fills_next (suc more) more fills (more_text (b ∷ others) ++ 10 ∷ rest) (hex_pair b ++ (more_text others ++ 10 ∷ rest)) (more_text others ++ 10 ∷ rest) b (omega arith) refl (pair_again b (more_text others ++ 10 ∷ rest) bytes.0) ∙
    more_again more (fills ++ b ∷ []) others rest (omega (arith, le)) bytes.1 ∙
    ap (λ (xs : List ℕ). Some (record { items = xs }, 10 ∷ rest)) (append_assoc fills (b ∷ []) others)

-- what is read behind the first bytes
record MoreFills (more : ℕ) (fills bytes : List ℕ) (read : ArrayVec ℕ × List ℕ) (others : List ℕ) : Type 0 where
  items : read.0.items ≡ fills ++ others
  text : bytes ≡ more_text others ++ read.1
  few : length others ≤ more
  are : AreBytes others

none_more : (more : ℕ) (fills bytes : List ℕ) (read : ArrayVec ℕ × List ℕ) → Some (record { items = fills }, bytes) ≡ Some read → (others : List ℕ) × MoreFills more fills bytes read others
none_more more fills bytes read e =
    subst (λ (x : ArrayVec ℕ × List ℕ). (others : List ℕ) × MoreFills more fills bytes x others) (some_is (record { items = fills }, bytes) read e)
    ([], record { items = sym (append-nil fills); text = refl; few = omega arith; are = tt })

one_more : (more : ℕ) (fills bytes after behind : List ℕ) (b : ℕ) (read : ArrayVec ℕ × List ℕ) (others : List ℕ) → bytes ≡ codes "," ++ after → after ≡ hex_pair b ++ behind → b < 256
    → MoreFills more (fills ++ b ∷ []) behind read others → MoreFills (suc more) fills bytes read (b ∷ others)
one_more more fills bytes after behind b read others comma pair lt m = record {
  items = m.items ∙ append_assoc fills (b ∷ []) others;
  text = rw (comma, pair, m.text) refl;
  few = omega (arith, m.few);
  are = (lt, m.are);
}

more_takes : (more : ℕ) (fills bytes : List ℕ) (read : ArrayVec ℕ × List ℕ) → more_fills more fills bytes ≡ Some read → (others : List ℕ) × MoreFills more fills bytes read others
unfolding more_fills
more_takes zero fills bytes read e = none_more zero fills bytes read e
more_takes (suc more) fills bytes read e =
    elim (decided (tag (codes ",") bytes) (λ rest. pair_at rest >>= λ fill. more_fills more (fills ++ fill.0 ∷ []) fill.1) (Some (record { items = fills }, bytes)) read e) [
      | inl d ↦
          let f = bind_some (pair_at d.0) (λ fill. more_fills more (fills ++ fill.0 ∷ []) fill.1) read d.2 in
          let p = pair_takes d.0 f.0.0 f.0.1 f.1 in
          let m = more_takes more (fills ++ f.0.0 ∷ []) f.0.1 read f.2 in
          (f.0.0 ∷ m.0, one_more more fills bytes d.0 f.0.1 f.0.0 read m.0 (tag_takes (codes ",") bytes d.0 d.1) p.0 p.1 m.1)
      | inr d ↦ none_more (suc more) fills bytes read d.1
    ]

-- the bytes of a write: one to eight
abbrev AreFills : List ℕ → Type 0
AreFills fills = (1 ≤ length fills) × (length fills ≤ 8) × AreBytes fills

fills_again : (fills rest : List ℕ) → AreFills fills → fills_at (commas hex_pair fills ++ 10 ∷ rest) ≡ Some (record { items = fills }, 10 ∷ rest)
unfolding fills_at
fills_again [] rest are = absurd (omega (arith, are.0))
fills_again (b ∷ others) rest are = rw (pair_again b (more_text others ++ 10 ∷ rest) are.2.0) (more_again 7 (b ∷ []) others rest (omega (arith, are.1)) are.2.1)

all_fills : (bytes behind : List ℕ) (b : ℕ) (read : ArrayVec ℕ × List ℕ) (others : List ℕ) → bytes ≡ hex_pair b ++ behind → b < 256 → MoreFills 7 (b ∷ []) behind read others
    → (bytes ≡ commas hex_pair read.0.items ++ read.1) × AreFills read.0.items
all_fills bytes behind b read others pair lt m =
    let text : bytes ≡ commas hex_pair (b ∷ others) ++ read.1 = rw (pair, m.text) refl in
    let are : AreFills (b ∷ others) = (omega arith, omega (arith, m.few), (lt, m.are)) in
    subst (λ (fills : List ℕ). (bytes ≡ commas hex_pair fills ++ read.1) × AreFills fills) (sym m.items) (text, are)

fills_takes : (bytes : List ℕ) (read : ArrayVec ℕ × List ℕ) → fills_at bytes ≡ Some read → (bytes ≡ commas hex_pair read.0.items ++ read.1) × AreFills read.0.items
unfolding fills_at
fills_takes bytes read e =
    let f = bind_some (pair_at bytes) (λ fill. more_fills 7 (fill.0 ∷ []) fill.1) read e in
    let p = pair_takes bytes f.0.0 f.0.1 f.1 in
    let m = more_takes 7 (f.0.0 ∷ []) f.0.1 read f.2 in
    all_fills bytes f.0.1 f.0.0 read m.0 p.0 p.1 m.1

-- ---- requests

-- what is read at the front of the bytes is the text of that request, which is of the grammar
abbrev pub FoundAsk : Header1 → List ℕ → Ask × List ℕ → Type 0
FoundAsk h bytes x = (bytes ≡ ask_text x.0 ++ x.1) × IsAsk h x.0

four : (a b c d rest : List ℕ) → a ++ b ++ c ++ d ++ rest ≡ a ++ (b ++ (c ++ (d ++ rest)))
four a b c d rest = simp append_assoc

read_grouped : (s n : ℕ) (rest : List ℕ) → ask_text (asks.Read s n) ++ rest ≡ codes "read " ++ (decimal s ++ (codes " " ++ (decimal n ++ rest)))
unfolding ask_text
read_grouped s n rest = four (codes "read ") (decimal s) (codes " ") (decimal n) rest

write_grouped : (s : ℕ) (fills : ArrayVec ℕ) (rest : List ℕ) → ask_text (asks.Write s fills) ++ rest ≡ codes "write " ++ (decimal s ++ (codes " " ++ (commas hex_pair fills.items ++ rest)))
unfolding ask_text
write_grouped s fills rest = four (codes "write ") (decimal s) (codes " ") (commas hex_pair fills.items) rest

flush_text : ask_text asks.Flush ≡ codes "flush"
unfolding ask_text
flush_text = refl

-- the text of a request is read as that request
AskAgain : Header1 → Ask → List ℕ → Type 0
AskAgain h ask rest = ask_at h.capacity (ask_text ask ++ 10 ∷ rest) ≡ Some (ask, 10 ∷ rest)

read_again : (h : Header1) (s n : ℕ) (rest : List ℕ) → h.capacity ≤ 2 ^ 64 → IsAsk h (asks.Read s n) → AskAgain h (asks.Read s n) rest
unfolding AskAgain ask_at read_at tag
read_again h s n rest fits is =
    ap (ask_at h.capacity) (read_grouped s n (10 ∷ rest)) ∙
    rw (
      number_again h.capacity s (codes " " ++ (decimal n ++ 10 ∷ rest)) fits (omega (arith, is.0, is.1)) refl,
      count_again 8 n (10 ∷ rest) (lit≤ tt) is.1 is.2 refl,
      le-leb (s + n) h.capacity is.0,
    ) refl

write_again : (h : Header1) (s : ℕ) (fills : ArrayVec ℕ) (rest : List ℕ) → h.capacity ≤ 2 ^ 64 → IsAsk h (asks.Write s fills) → AskAgain h (asks.Write s fills) rest
unfolding AskAgain ask_at write_at tag
write_again h s fills rest fits is =
    ap (ask_at h.capacity) (write_grouped s fills (10 ∷ rest)) ∙
    rw (
      number_again h.capacity s (codes " " ++ (commas hex_pair fills.items ++ 10 ∷ rest)) fits (omega (arith, is.0, is.1)) refl,
      fills_again fills.items rest (is.1, is.2, is.3),
      le-leb (s + length fills.items) h.capacity is.0,
    ) refl

flush_again : (h : Header1) (rest : List ℕ) → AskAgain h asks.Flush rest
unfolding AskAgain ask_at tag
flush_again h rest = rw flush_text refl

pub ask_again : (h : Header1) (ask : Ask) (rest : List ℕ) → h.capacity ≤ 2 ^ 64 → IsAsk h ask → ask_at h.capacity (ask_text ask ++ 10 ∷ rest) ≡ Some (ask, 10 ∷ rest)
unfolding AskAgain
ask_again h (asks.Read s n) rest fits is = read_again h s n rest fits is
ask_again h (asks.Write s fills) rest fits is = write_again h s fills rest fits is
ask_again h asks.Flush rest fits is = flush_again h rest
ask_again h asks.Id rest fits is = absurd is
ask_again h (asks.Discard parts) rest fits is = absurd is
ask_again h (asks.Zero parts) rest fits is = absurd is

read_found : (h : Header1) (bytes after last rest : List ℕ) (s n : ℕ) (x : Ask × List ℕ) → bytes ≡ decimal s ++ after → after ≡ codes " " ++ last → last ≡ decimal n ++ rest → 1 ≤ n → n ≤ 8
    → as_read h.capacity s (n, rest) ≡ Some x → FoundAsk h (codes "read " ++ bytes) x
read_found h bytes after last rest s n x sector space count some few e =
    let p = cond_some (leb (s + n) h.capacity) (asks.Read s n, rest) x e in
    let text : codes "read " ++ bytes ≡ ask_text (asks.Read s n) ++ rest = rw (sector, space, count) (sym (read_grouped s n rest)) in
    subst (λ (y : Ask × List ℕ). FoundAsk h (codes "read " ++ bytes) y) p.1 (text, (leb-true _ _ p.0, some, few))

write_found : (h : Header1) (bytes after last rest : List ℕ) (s : ℕ) (fills : ArrayVec ℕ) (x : Ask × List ℕ) → bytes ≡ decimal s ++ after → after ≡ codes " " ++ last → last ≡ commas hex_pair fills.items ++ rest → AreFills fills.items
    → as_write h.capacity s (fills, rest) ≡ Some x → FoundAsk h (codes "write " ++ bytes) x
write_found h bytes after last rest s fills x sector space list are e =
    let p = cond_some (leb (s + length fills.items) h.capacity) (asks.Write s fills, rest) x e in
    let text : codes "write " ++ bytes ≡ ask_text (asks.Write s fills) ++ rest = rw (sector, space, list) (sym (write_grouped s fills rest)) in
    subst (λ (y : Ask × List ℕ). FoundAsk h (codes "write " ++ bytes) y) p.1 (text, (leb-true _ _ p.0, are.0, are.1, are.2))

read_takes : (h : Header1) (bytes : List ℕ) (x : Ask × List ℕ) → h.capacity ≤ 2 ^ 64 → read_at h.capacity bytes ≡ Some x → FoundAsk h (codes "read " ++ bytes) x
unfolding read_at
read_takes h bytes x fits e =
    let s = bind_some (number_at h.capacity bytes) (λ sector. tag (codes " ") sector.1 >>= λ rest. count_at 8 rest >>= as_read h.capacity sector.0) x e in
    let t = bind_some (tag (codes " ") s.0.1) (λ rest. count_at 8 rest >>= as_read h.capacity s.0.0) x s.2 in
    let n = bind_some (count_at 8 t.0) (as_read h.capacity s.0.0) x t.2 in
    let sector = number_takes h.capacity bytes s.0.0 s.0.1 fits s.1 in
    let count = count_takes 8 t.0 n.0.0 n.0.1 (lit≤ tt) n.1 in
    read_found h bytes s.0.1 t.0 n.0.1 s.0.0 n.0.0 x sector.0 (tag_takes (codes " ") s.0.1 t.0 t.1) count.0 count.1 count.2 n.2

write_takes : (h : Header1) (bytes : List ℕ) (x : Ask × List ℕ) → h.capacity ≤ 2 ^ 64 → write_at h.capacity bytes ≡ Some x → FoundAsk h (codes "write " ++ bytes) x
unfolding write_at
write_takes h bytes x fits e =
    let s = bind_some (number_at h.capacity bytes) (λ sector. tag (codes " ") sector.1 >>= λ rest. fills_at rest >>= as_write h.capacity sector.0) x e in
    let t = bind_some (tag (codes " ") s.0.1) (λ rest. fills_at rest >>= as_write h.capacity s.0.0) x s.2 in
    let f = bind_some (fills_at t.0) (as_write h.capacity s.0.0) x t.2 in
    let sector = number_takes h.capacity bytes s.0.0 s.0.1 fits s.1 in
    let fills = fills_takes t.0 f.0 f.1 in
    write_found h bytes s.0.1 t.0 f.0.1 s.0.0 f.0.0 x sector.0 (tag_takes (codes " ") s.0.1 t.0 t.1) fills.0 fills.1 f.2

flush_takes : (h : Header1) (bytes after : List ℕ) (x : Ask × List ℕ) → tag (codes "flush") bytes ≡ Some after → as_flush after ≡ Some x → FoundAsk h bytes x
flush_takes h bytes after x t e = subst (λ (y : Ask × List ℕ). FoundAsk h bytes y) (some_is (asks.Flush, after) x e) (rw flush_text (tag_takes (codes "flush") bytes after t), tt)

pub ask_takes : (h : Header1) (bytes : List ℕ) (x : Ask × List ℕ) → h.capacity ≤ 2 ^ 64 → ask_at h.capacity bytes ≡ Some x → FoundAsk h bytes x
unfolding ask_at
ask_takes h bytes x fits e =
    let last = tag (codes "flush") bytes >>= as_flush in
    elim (decided (tag (codes "write ") bytes) (write_at h.capacity) (decide (tag (codes "read ") bytes) (read_at h.capacity) last) x e) [
      | inl d ↦ rw (tag_takes (codes "write ") bytes d.0 d.1) (write_takes h d.0 x fits d.2)
      | inr d ↦
          elim (decided (tag (codes "read ") bytes) (read_at h.capacity) last x d.1) [
            | inl r ↦ rw (tag_takes (codes "read ") bytes r.0 r.1) (read_takes h r.0 x fits r.2)
            | inr r ↦ let f = bind_some (tag (codes "flush") bytes) as_flush x r.1 in flush_takes h bytes f.0 x f.1 f.2
          ]
    ]
