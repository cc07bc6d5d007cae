-- A store elsewhere leaves descriptors, tables and chains.
use Rattle.std.proofs.Common.{◌≡◌, ◌≤◌, ◌<◌, ℕ, zero, suc, ◌+◌, ◌*◌, Bool, true, false, cond, ◌&&◌, List, [], ◌∷◌, length, refl, ap, ◌∙◌, inl, inr, arith}
use Rattle.std.specs.Prelude.{nat_lt, ◌==◌, Option, Some, None}
use Rattle.std.specs.List.{AllByRecursion}
use Rattle.std.specs.Bool.{OnTrue}
use Rattle.std.proofs.lemmas.Bool.Decides.{nat_tests}
use Rattle.vub_shared.specs.Bytes.{Bytes, word}
use Rattle.vub_shared.specs.Stores.{Store, after_store}
use Rattle.vub_shared.proofs.BytesLemmas.{word-put_other}
use Rattle.vub_memtable.specs.declared.region.Mapped.{Mapped}
use Rattle.vub_chain.specs.declared.walk.Desc.{Desc}
use Rattle.vub_chain.specs.Descs.{Source, goes_on, is_table, linked_desc, listed_desc, listed_from}
use Rattle.vub_chain.specs.Chains.{Limits, Link, all_listed, linked, linked_entries, linked_from, list_chain, listed, listed_entries, source_in, split_chain, with_entries}
use Rattle.vub_chain.specs.Leaves.{OffDesc, OffLinked, OffList, OffNamed, OffSplit, OffTable, indices_from}
use Rattle.vub_chain.proofs.DescLemmas.{make}

-- a word of a descriptor
word_off : (w at : ℕ) (m : Bytes) (st : Store) (s : Source) (i : ℕ) → at + w ≤ 16 → OffDesc st s i → word w (after_store st m) s.space (s.place + 16 * i + at) ≡ word w m s.space (s.place + 16 * i + at)
word_off w at m st s i within (inl other) = word-put_other w m st.space st.place st.bytes s.space (s.place + 16 * i + at) (inl other)
word_off w at m st s i within (inr (inl before)) = word-put_other w m st.space st.place st.bytes s.space (s.place + 16 * i + at) (inr (inl (omega (arith, before, within))))
word_off w at m st s i within (inr (inr after)) = word-put_other w m st.space st.place st.bytes s.space (s.place + 16 * i + at) (inr (inr (omega (arith, after))))

first_off : (w : ℕ) (m : Bytes) (st : Store) (s : Source) (i : ℕ) → w ≤ 16 → OffDesc st s i → word w (after_store st m) s.space (s.place + 16 * i) ≡ word w m s.space (s.place + 16 * i)
first_off w m st s i within (inl other) = word-put_other w m st.space st.place st.bytes s.space (s.place + 16 * i) (inl other)
first_off w m st s i within (inr (inl before)) = word-put_other w m st.space st.place st.bytes s.space (s.place + 16 * i) (inr (inl (omega (arith, before, within))))
first_off w m st s i within (inr (inr after)) = word-put_other w m st.space st.place st.bytes s.space (s.place + 16 * i) (inr (inr (omega (arith, after))))

pub same_desc : (a b c d k l n o : ℕ) → a ≡ k → b ≡ l → c ≡ n → d ≡ o → make a b c d ≡ make k l n o
same_desc a b c d k l n o e f g h = ap (λ (v : ℕ). make v b c d) e ∙ ap (λ (v : ℕ). make k v c d) f ∙ ap (λ (v : ℕ). make k l v d) g ∙ ap (make k l n) h

pub linked_off : (m : Bytes) (st : Store) (s : Source) (i : ℕ) → OffDesc st s i → linked_desc (after_store st m) s i ≡ linked_desc m s i
linked_off m st s i off = same_desc _ _ _ _ _ _ _ _ (first_off 8 m st s i (omega arith) off) (word_off 4 8 m st s i (omega arith) off) (word_off 2 12 m st s i (omega arith) off) (word_off 2 14 m st s i (omega arith) off)

listed_off : (m : Bytes) (st : Store) (s : Source) (i : ℕ) → OffDesc st s i → listed_desc (after_store st m) s i ≡ listed_desc m s i
listed_off m st s i off = same_desc _ _ _ _ _ _ _ _ (first_off 8 m st s i (omega arith) off) (word_off 4 8 m st s i (omega arith) off) (word_off 2 14 m st s i (omega arith) off) refl

-- a store off a table is off each of its descriptors
each_off : (st : Store) (s : Source) (i : ℕ) → i < s.count → OffTable st (Some s) → OffDesc st s i
each_off st s i below (inl other) = inl other
each_off st s i below (inr (inl before)) = inr (inl (omega (arith, before, below)))
each_off st s i below (inr (inr after)) = inr (inr (omega (arith, after)))

-- ---- tables

go_step : (m n : Bytes) (s : Source) (i : ℕ) (within : Bool) (most : ℕ) → linked_desc n s i ≡ linked_desc m s i
    → linked_from within n s (suc most) i ≡ linked within s (linked_desc m s i) ∷ cond (goes_on (linked_desc m s i) && nat_lt (linked_desc m s i).next s.count) (linked_from within n s most (linked_desc m s i).next) []
go_step m n s i within most same = ap (λ (d : Desc). linked within s d ∷ cond (goes_on d && nat_lt d.next s.count) (linked_from within n s most d.next) []) same

-- one or none of two lists that agree where they are taken
taken : (l : Link) (b : Bool) (xs ys : List Link) → (b ≡ true → xs ≡ ys) → ◌≡◌ {A = List Link} (l ∷ cond b xs []) (l ∷ cond b ys [])
taken l true xs ys same = ap (λ (zs : List Link). l ∷ zs) (same refl)
taken l false xs ys same = refl

low_of : (a b : Bool) → (a && b) ≡ true → b ≡ true
low_of true b h = h
low_of false b h = absurd cc

entries_off : (m : Bytes) (st : Store) (s : Source) (most i : ℕ) → i < s.count → OffTable st (Some s) → linked_from true (after_store st m) s most i ≡ linked_from true m s most i
entries_off m st s zero i below off = refl
entries_off m st s (suc most) i below off =
    go_step m (after_store st m) s i true most (linked_off m st s i (each_off st s i below off))
    ∙ taken (linked true s (linked_desc m s i)) (goes_on (linked_desc m s i) && nat_lt (linked_desc m s i).next s.count) _ _
    (λ both. entries_off m st s most (linked_desc m s i).next (let low : nat_lt (linked_desc m s i).next s.count ≡ true = low_of (goes_on (linked_desc m s i)) (nat_lt (linked_desc m s i).next s.count) both in grind (arith, nat_tests)) off)

listed_all_off : (m : Bytes) (st : Store) (s : Source) (n i : ℕ) → i + n ≤ s.count → OffTable st (Some s) → listed_from (after_store st m) s n i ≡ listed_from m s n i
listed_all_off m st s zero i within off = refl
listed_all_off m st s (suc n) i within off =
    ap (λ (d : Desc). d ∷ listed_from (after_store st m) s n (i + 1)) (listed_off m st s i (each_off st s i (omega arith) off))
    ∙ ap (λ (ds : List Desc). listed_desc m s i ∷ ds) (listed_all_off m st s n (i + 1) (omega arith) off)

unless : (b : Bool) (xs ys : List Link) → (b ≡ false → xs ≡ ys) → ◌≡◌ {A = List Link} (cond b [] xs) (cond b [] ys)
unless true xs ys same = refl
unless false xs ys same = same refl

named_off : (x : Limits) (m : Bytes) (st : Store) (o : Option Source) → OffTable st o → linked_entries x (after_store st m) o ≡ linked_entries x m o
named_off x m st None off = refl
named_off x m st (Some s) off = unless (s.count == 0) _ _ (λ some. entries_off m st s (x.size + 1) 0 (let e : (s.count == 0) ≡ false = some in grind (arith, nat_tests)) off)

listed_named_off : (m : Bytes) (st : Store) (o : Option Source) → OffTable st o → listed_entries (after_store st m) o ≡ listed_entries m o
listed_named_off m st None off = refl
listed_named_off m st (Some s) off = ap (all_listed true true) (listed_all_off m st s s.count 0 (omega arith) off)

-- ---- chains

-- one of two lists, each of which agrees where it is taken
either_same : (l : Link) (b : Bool) (ks bs cs ds : List Link) → (b ≡ true → ks ≡ cs) → (b ≡ false → bs ≡ ds) → ◌≡◌ {A = List Link} (cond b (l ∷ ks) (l ∷ bs)) (cond b (l ∷ cs) (l ∷ ds))
either_same l true ks bs cs ds one two = ap (λ (ls : List Link). l ∷ ls) (one refl)
either_same l false ks bs cs ds one two = ap (λ (ls : List Link). l ∷ ls) (two refl)

named_here : (b : Bool) (P : Type 0) → OnTrue b P → b ≡ true → P
named_here true P p h = p
named_here false P p h = absurd cc

all_here : (P : ℕ → Type 0) (b : Bool) (is : List ℕ) → AllByRecursion P (cond b is []) → b ≡ true → AllByRecursion P is
all_here P true is all h = all
all_here P false is all h = absurd cc

ring_off : (x : Limits) (m : Bytes) (st : Store) (s : Source) (most i : ℕ) → AllByRecursion (OffLinked st x m s) (indices_from m s most i) → linked_from false (after_store st m) s most i ≡ linked_from false m s most i
ring_off x m st s zero i off = refl
ring_off x m st s (suc most) i off =
    go_step m (after_store st m) s i false most (linked_off m st s i off.0.0)
    ∙ taken (linked false s (linked_desc m s i)) (goes_on (linked_desc m s i) && nat_lt (linked_desc m s i).next s.count) _ _
    (λ both. ring_off x m st s most (linked_desc m s i).next (all_here (OffLinked st x m s) (goes_on (linked_desc m s i) && nat_lt (linked_desc m s i).next s.count) (indices_from m s most (linked_desc m s i).next) off.1 both))

with_taken : (table : List Mapped) (e f : Option Source → List Link) (b : Bool) (ls : List Link) → (b ≡ true → with_entries table e ls ≡ with_entries table f ls) → with_entries table e (cond b ls []) ≡ with_entries table f (cond b ls [])
with_taken table e f true ls same = same refl
with_taken table e f false ls same = refl

entries_same : (x : Limits) (m : Bytes) (st : Store) (s : Source) (most i : ℕ) → AllByRecursion (OffLinked st x m s) (indices_from m s most i)
    → with_entries x.table (linked_entries x (after_store st m)) (linked_from false m s most i) ≡ with_entries x.table (linked_entries x m) (linked_from false m s most i)
entries_same x m st s zero i off = refl
entries_same x m st s (suc most) i off =
    either_same (linked false s (linked_desc m s i)) (is_table (linked_desc m s i)) _ _ _ _
    (λ table. named_off x m st (source_in x.table (linked_desc m s i)) (named_here (is_table (linked_desc m s i)) (OffTable st (source_in x.table (linked_desc m s i))) off.0.1 table))
    (λ bytes. with_taken x.table (linked_entries x (after_store st m)) (linked_entries x m) (goes_on (linked_desc m s i) && nat_lt (linked_desc m s i).next s.count) (linked_from false m s most (linked_desc m s i).next)
    (λ both. entries_same x m st s most (linked_desc m s i).next (all_here (OffLinked st x m s) (goes_on (linked_desc m s i) && nat_lt (linked_desc m s i).next s.count) (indices_from m s most (linked_desc m s i).next) off.1 both)))

pub split_off : (x : Limits) (m : Bytes) (st : Store) (space place head : ℕ) → OffSplit st x m space place head → split_chain x (after_store st m) space place head ≡ split_chain x m space place head
split_off x m st space place head off =
    let s : Source = record { space = space; place = place; count = x.size } in
    ap (with_entries x.table (linked_entries x (after_store st m))) (ring_off x m st s (x.size + 1) head off) ∙ entries_same x m st s (x.size + 1) head off

listed_same : (table : List Mapped) (m : Bytes) (st : Store) (alone : Bool) (ds : List Desc) → AllByRecursion (OffNamed st table) ds
    → with_entries table (listed_entries (after_store st m)) (all_listed false alone ds) ≡ with_entries table (listed_entries m) (all_listed false alone ds)
listed_same table m st alone [] off = refl
listed_same table m st alone (d ∷ ds) off =
    either_same (listed false alone d) (is_table d) _ _ _ _
    (λ names. listed_named_off m st (source_in table d) (named_here (is_table d) (OffTable st (source_in table d)) off.0 names))
    (λ bytes. listed_same table m st alone ds off.1)

pub list_off : (x : Limits) (m : Bytes) (st : Store) (ds : List Desc) → OffList st x ds → list_chain x (after_store st m) ds ≡ list_chain x m ds
list_off x m st ds off = listed_same x.table m st (length ds == 1) ds off
