-- Chains and the free list as entries move between them.
use Rattle.std.proofs.Common.{◌≡◌, ◌≤◌, ℕ, zero, suc, ◌+◌, ◌-◌, true, false, cond, not, filter, List, [], ◌∷◌, ◌++◌, length, refl, ap, sym, ◌∙◌, subst, inl, inr, arith}
use Rattle.std.specs.Prelude.{◌==◌, if◌then◌else◌}
use Rattle.std.proofs.lemmas.Bool.Decides.{nat_tests}
use Rattle.std.proofs.lemmas.Bool.{cases_eq}
use Rattle.std.proofs.lemmas.List.{length-append}
use Rattle.vub_device.specs.Past.{is_among}
use Rattle.vub_inflight.specs.Entries.{with_at}
use Rattle.vub_inflight.specs.Links.{links}
use Rattle.vub_packed_facts.specs.Chains.{IsPath, chain, in_chains, total, count, last_of, ChainsEnd, Apart}
use Rattle.vub_packed_facts.proofs.PathLemmas.{count-append, has-count}

-- heads without these
abbrev pub without : List ℕ → List ℕ → List ℕ
without these [] = []
without these (x ∷ xs) = if is_among these x then without these xs else x ∷ without these xs

pub filtered : (these xs : List ℕ) → filter (λ (h : ℕ). not (is_among these h)) xs ≡ without these xs
filtered these [] = refl
filtered these (x ∷ xs) = let rest : filter (λ (h : ℕ). not (is_among these h)) xs ≡ without these xs = filtered these xs in grind arith

-- a path's entries are the links from its head
pub path_links : (next : ℕ → ℕ) (h : ℕ) (xs : List ℕ) (t : ℕ) → IsPath next h xs t → links next (length xs) h ≡ xs
path_links next h [] t p = refl
path_links next h (x ∷ xs) t p =
    let rest : links next (length xs) (next x) ≡ xs = path_links next (next x) xs t p.1 in
    let here : h ≡ x = p.0 in
    rw here (ap (λ ys. x ∷ ys) rest)

-- the word of an entry that isn't before the last link
pub links_last : (next : ℕ → ℕ) (i v k h : ℕ) → is_among (links next k h) i ≡ false → links (with_at next i v) (suc k) h ≡ links next (suc k) h
links_last next i v zero h out = refl
links_last next i v (suc k) h out =
    let rest : is_among (links next k (next h)) i ≡ false → links (with_at next i v) (suc k) (next h) ≡ links next (suc k) (next h) = links_last next i v k (next h) in
    let same : with_at next i v h ≡ next h = grind (arith, nat_tests) in
    let rest_out : is_among (links next k (next h)) i ≡ false = grind (arith, nat_tests) in
    ap (λ ys. h ∷ ys) (ap (links (with_at next i v) (suc k)) same ∙ rest rest_out)

-- the chains don't see a word of an entry that stands in none of them
pub chains_other : (next num : ℕ → ℕ) (i v j : ℕ) (xs : List ℕ) → in_chains next num i xs ≡ 0 → in_chains (with_at next i v) num j xs ≡ in_chains next num j xs
chains_other next num i v j [] none = refl
chains_other next num i v j (x ∷ xs) none =
    let here : count i (links next (num x) x) ≡ 0 = omega arith in
    let same : links (with_at next i v) (num x) x ≡ links next (num x) x = links_out next i v (num x) x (has-count i (links next (num x) x) here) in
    let rest : in_chains (with_at next i v) num j xs ≡ in_chains next num j xs = chains_other next num i v j xs (omega arith) in
    let counts : count j (links (with_at next i v) (num x) x) ≡ count j (links next (num x) x) = ap (count j) same in
    omega (arith, counts, rest)
  where
    links_out : (f : ℕ → ℕ) (a b k h : ℕ) → is_among (links f k h) a ≡ false → links (with_at f a b) k h ≡ links f k h
    links_out f a b zero h out = refl
    links_out f a b (suc k) h out =
        let rest : is_among (links f k (f h)) a ≡ false → links (with_at f a b) k (f h) ≡ links f k (f h) = links_out f a b k (f h) in
        grind (arith, nat_tests)

-- a change of num at a head that isn't open
pub chains_num : (next num : ℕ → ℕ) (h v j : ℕ) (xs : List ℕ) → is_among xs h ≡ false → in_chains next (with_at num h v) j xs ≡ in_chains next num j xs
chains_num next num h v j [] out = refl
chains_num next num h v j (x ∷ xs) out =
    let rest : is_among xs h ≡ false → in_chains next (with_at num h v) j xs ≡ in_chains next num j xs = chains_num next num h v j xs in
    let same : with_at num h v x ≡ num x = grind (arith, nat_tests) in
    let rest_out : is_among xs h ≡ false = grind (arith, nat_tests) in
    let counts : count j (links next (with_at num h v x) x) ≡ count j (links next (num x) x) = ap (λ k. count j (links next k x)) same in
    let more = rest rest_out in
    omega (arith, counts, more)

pub in_chains-push : (next num : ℕ → ℕ) (i : ℕ) (xs : List ℕ) (x : ℕ) → in_chains next num i (xs ++ x ∷ []) ≡ in_chains next num i xs + count i (chain next num x)
in_chains-push next num i [] x = omega arith
in_chains-push next num i (y ∷ xs) x = omega (arith, in_chains-push next num i xs x)

pub total-push : (num : ℕ → ℕ) (xs : List ℕ) (x : ℕ) → total num (xs ++ x ∷ []) ≡ total num xs + num x
total-push num [] x = omega arith
total-push num (y ∷ xs) x = omega (arith, total-push num xs x)

-- a fetch is accepted: the chain leaves the free list and joins the chains
pub apart_accepted : (n : ℕ) (next num : ℕ → ℕ) (c free : List ℕ) (opens : List ℕ) (e : ℕ) → Apart n next num (c ++ free) opens → chain next num e ≡ c → num e ≡ length c
    → Apart n next num free (opens ++ e ∷ [])
apart_accepted n next num c free opens e a is so_many = record {
  once = λ i.
      let all : count i (c ++ free) + in_chains next num i opens ≤ 1 = a.once i in
      let joined : count i (c ++ free) ≡ count i c + count i free = count-append i c free in
      let pushed : in_chains next num i (opens ++ e ∷ []) ≡ in_chains next num i opens + count i (chain next num e) = in_chains-push next num i opens e in
      let mine : count i (chain next num e) ≡ count i c = ap (count i) is in
      omega arith;
  sum = omega (arith, a.sum, length-append c free, total-push num opens e);
}

-- taking one open head out: its chain's counts go
pub in_chains-without : (next num : ℕ → ℕ) (i h : ℕ) (xs : List ℕ) → is_among xs h ≡ true → in_chains next num i (without (h ∷ []) xs) + count i (chain next num h) ≤ in_chains next num i xs
in_chains-without next num i h [] held = absurd (let no : false ≡ true = held in cc)
in_chains-without next num i h (x ∷ xs) held = elim (cases_eq x h) [
  | inl here ↦
      let drops : without (h ∷ []) (x ∷ xs) ≡ without (h ∷ []) xs = grind (arith, nat_tests) in
      let less : in_chains next num i (without (h ∷ []) xs) ≤ in_chains next num i xs = fewer (h ∷ []) xs in
      let mine : count i (chain next num x) ≡ count i (chain next num h) = ap (λ k. count i (chain next num k)) here in
      rw drops (omega (arith, less, mine))
  | inr apart ↦
      let keeps : without (h ∷ []) (x ∷ xs) ≡ x ∷ without (h ∷ []) xs = grind (arith, nat_tests) in
      let held_rest : is_among xs h ≡ true = grind (arith, nat_tests) in
      let rest : in_chains next num i (without (h ∷ []) xs) + count i (chain next num h) ≤ in_chains next num i xs = in_chains-without next num i h xs held_rest in
      rw keeps (omega (arith, rest))
]
  where
    fewer : (hs : List ℕ) (ys : List ℕ) → in_chains next num i (without hs ys) ≤ in_chains next num i ys
    fewer hs [] = omega arith
    fewer hs (y ∷ ys) = elim (is_among hs y) as (λ b. in_chains next num i (cond b (without hs ys) (y ∷ without hs ys)) ≤ count i (chain next num y) + in_chains next num i ys) [
      | true ↦ omega (arith, fewer hs ys)
      | false ↦ omega (arith, fewer hs ys)
    ]

-- the chains before their last entries
abbrev pub fronts : (ℕ → ℕ) → (ℕ → ℕ) → ℕ → List ℕ → ℕ
fronts next num i [] = 0
fronts next num i (x ∷ xs) = count i (links next (num x - 1) x) + fronts next num i xs

-- a chain but for its last entry, and that entry
count-last : (i k : ℕ) (next : ℕ → ℕ) (h : ℕ) → count i (links next (suc k) h) ≡ count i (links next k h) + (if last_of h (links next (suc k) h) == i then 1 else 0)
count-last i zero next h = omega arith
count-last i (suc k) next h =
    let rest : count i (links next (suc k) (next h)) ≡ count i (links next k (next h)) + (if last_of (next h) (links next (suc k) (next h)) == i then 1 else 0) = count-last i k next (next h) in
    omega (arith, rest)

-- setting next of an entry that isn't before the last one leaves a chain
pub chain_kept : (next : ℕ → ℕ) (i v k h : ℕ) → count i (links next (k - 1) h) ≡ 0 → links (with_at next i v) k h ≡ links next k h
chain_kept next i v zero h out = refl
chain_kept next i v (suc k) h out =
    let less : suc k - 1 ≡ k = omega arith in
    let bare : count i (links next k h) ≡ 0 = rw less at out in
    links_last next i v k h (has-count i (links next k h) bare)

-- setting next of an entry that no front is_among all leaves chains
pub chains_kept : (next num : ℕ → ℕ) (i v j : ℕ) (xs : List ℕ) → fronts next num i xs ≡ 0 → in_chains (with_at next i v) num j xs ≡ in_chains next num j xs
chains_kept next num i v j [] none = refl
chains_kept next num i v j (x ∷ xs) none =
    let rest : in_chains (with_at next i v) num j xs ≡ in_chains next num j xs = chains_kept next num i v j xs (omega arith) in
    let here : count i (links next (num x - 1) x) ≡ 0 = omega arith in
    let same : links (with_at next i v) (num x) x ≡ links next (num x) x = chain_kept next i v (num x) x here in
    let counts : count j (links (with_at next i v) (num x) x) ≡ count j (links next (num x) x) = ap (count j) same in
    omega (arith, counts, rest)

-- the last entry of an open chain stands in no front, where each entry stands once
pub last_in_no_front : (next num last : ℕ → ℕ) (free : List ℕ) (xs : List ℕ) (h : ℕ) → ((i : ℕ) → count i free + in_chains next num i xs ≤ 1) → ChainsEnd next num last xs → is_among xs h ≡ true → fronts next num (last h) xs ≡ 0
last_in_no_front next num last free xs h once ends held =
    let whole : (i : ℕ) (ys : List ℕ) → ChainsEnd next num last ys → fronts next num i ys + lasts i ys ≡ in_chains next num i ys = in_two in
    let mine : 1 ≤ lasts (last h) xs = has_last xs held in
    let both : fronts next num (last h) xs + lasts (last h) xs ≡ in_chains next num (last h) xs = whole (last h) xs ends in
    let all : count (last h) free + in_chains next num (last h) xs ≤ 1 = once (last h) in
    omega arith
  where
    lasts : ℕ → List ℕ → ℕ
    lasts i [] = 0
    lasts i (y ∷ ys) = (if last y == i then 1 else 0) + lasts i ys

    has_last : (ys : List ℕ) → is_among ys h ≡ true → 1 ≤ lasts (last h) ys
    has_last [] e = absurd (let no : false ≡ true = e in cc)
    has_last (y ∷ ys) e =
        let rest : is_among ys h ≡ true → 1 ≤ lasts (last h) ys = has_last ys in
        elim (cases_eq y h) [
          | inl same ↦ (let l : last y ≡ last h = ap last same in grind (arith, nat_tests))
          | inr apart ↦ (let r : is_among ys h ≡ true = grind (arith, nat_tests) in let s = rest r in omega arith)
        ]

    in_two : (i : ℕ) (ys : List ℕ) → ChainsEnd next num last ys → fronts next num i ys + lasts i ys ≡ in_chains next num i ys
    in_two i [] e = refl
    in_two i (y ∷ ys) e =
        let rest : fronts next num i ys + lasts i ys ≡ in_chains next num i ys = in_two i ys e.2 in
        let some : num y ≡ suc (num y - 1) = omega (arith, e.0) in
        let split : count i (links next (suc (num y - 1)) y) ≡ count i (links next (num y - 1) y) + (if last_of y (links next (suc (num y - 1)) y) == i then 1 else 0) = count-last i (num y - 1) next y in
        let P : ℕ → Type 0 = λ k. count i (links next k y) ≡ count i (links next (num y - 1) y) + (if last_of y (links next k y) == i then 1 else 0) in
        let again : P (num y) = subst P (sym some) split in
        let Q : ℕ → Type 0 = λ l. count i (links next (num y) y) ≡ count i (links next (num y - 1) y) + (if l == i then 1 else 0) in
        let at_last : count i (links next (num y) y) ≡ count i (links next (num y - 1) y) + (if last y == i then 1 else 0) = subst Q e.1 again in
        omega (arith, rest, at_last)
