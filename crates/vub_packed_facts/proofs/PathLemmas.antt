-- Paths along next, and how often an entry stands in a list.
use Rattle.std.proofs.Common.{◌≡◌, ◌≢◌, ◌≤◌, ◌<◌, ℕ, zero, suc, ◌+◌, true, false, List, [], ◌∷◌, ◌++◌, length, refl, sym, subst, arith}
use Rattle.std.specs.Prelude.{⊤}
use Rattle.std.specs.List.{AllByRecursion}
use Rattle.std.proofs.lemmas.Bool.Decides.{nat_tests}
use Rattle.vub_device.specs.Past.{is_among}
use Rattle.vub_device.specs.Places.{are_distinct}
use Rattle.vub_inflight.specs.Entries.{with_at}
use Rattle.vub_inflight.specs.Links.{links, links_within}
use Rattle.vub_packed_facts.specs.Chains.{IsPath, count, last_of}

-- each once
abbrev pub IsOnce : List ℕ → Type 0
IsOnce [] = ⊤
IsOnce (x ∷ xs) = (is_among xs x ≡ false) × IsOnce xs

pub once_of : (xs : List ℕ) → are_distinct xs ≡ true → IsOnce xs
once_of [] d = tt
once_of (x ∷ xs) d = (grind (arith, nat_tests), once_of xs (grind (arith, nat_tests)))

-- a path to n is the list that the links within n give
pub path_within : (next : ℕ → ℕ) (n k h : ℕ) (xs : List ℕ) → IsPath next h xs n → AllByRecursion (λ (i : ℕ). i < n) xs → length xs ≤ k → links_within n next k h ≡ xs
path_within next n zero h [] p b l = refl
path_within next n zero h (x ∷ xs) p b l = absurd (omega (arith, l))
path_within next n (suc k) h [] p b l = let here : h ≡ n = p in grind (arith, nat_tests)
path_within next n (suc k) h (x ∷ xs) p b l =
    let rest : links_within n next k (next x) ≡ xs = path_within next n k (next x) xs p.1 b.1 (omega (arith, l)) in
    let here : h ≡ x = p.0 in
    let below : x < n = b.0 in
    grind (arith, nat_tests)

-- a word that no entry of the path has
pub path_other : (next : ℕ → ℕ) (i v h : ℕ) (xs : List ℕ) (t : ℕ) → is_among xs i ≡ false → IsPath next h xs t → IsPath (with_at next i v) h xs t
path_other next i v h [] t out p = p
path_other next i v h (x ∷ xs) t out p =
    let apart : x ≢ i = grind (arith, nat_tests) in
    let same : with_at next i v x ≡ next x = grind (arith, nat_tests) in
    let out_rest : is_among xs i ≡ false = grind (arith, nat_tests) in
    (p.0, subst (λ k. IsPath (with_at next i v) k xs t) (sym same) (path_other next i v (next x) xs t out_rest p.1))

-- two paths, one after the other
pub path_join : (next : ℕ → ℕ) (h : ℕ) (xs : List ℕ) (m : ℕ) (ys : List ℕ) (t : ℕ) → IsPath next h xs m → IsPath next m ys t → IsPath next h (xs ++ ys) t
path_join next h [] m ys t p q = subst (λ k. IsPath next k ys t) (sym p) q
path_join next h (x ∷ xs) m ys t p q = (p.0, path_join next (next x) xs m ys t p.1 q)

-- a chain whose last next is set to f is a path to f
pub chain_ends : (next : ℕ → ℕ) (f x : ℕ) (xs : List ℕ) → links next (suc (length xs)) x ≡ x ∷ xs → IsOnce (x ∷ xs) → IsPath (with_at next (last_of x xs) f) x (x ∷ xs) f
chain_ends next f x [] run d = (refl, grind (arith, nat_tests))
chain_ends next f x (y ∷ ys) run d =
    let tail : links next (suc (length ys)) (next x) ≡ y ∷ ys = grind arith in
    let here : next x ≡ y = grind arith in
    let rest : links next (suc (length ys)) y ≡ y ∷ ys = subst (λ k. links next (suc (length ys)) k ≡ y ∷ ys) here tail in
    let apart : x ≢ last_of y ys = not_last x y ys d.0 in
    let same : with_at next (last_of y ys) f x ≡ y = grind (arith, nat_tests) in
    (refl, subst (λ k. IsPath (with_at next (last_of y ys) f) k (y ∷ ys) f) (sym same) (chain_ends next f y ys rest d.1))
  where
    not_last : (a b : ℕ) (bs : List ℕ) → is_among (b ∷ bs) a ≡ false → a ≢ last_of b bs
    not_last a b [] out = grind (arith, nat_tests)
    not_last a b (c ∷ cs) out = not_last a c cs (grind (arith, nat_tests))

-- putting a chain before the free list: the step of publishing one element
pub chain_prepended : (next : ℕ → ℕ) (f n x : ℕ) (xs free : List ℕ) → links next (suc (length xs)) x ≡ x ∷ xs → IsOnce (x ∷ xs) → is_among free (last_of x xs) ≡ false → IsPath next f free n
    → IsPath (with_at next (last_of x xs) f) x ((x ∷ xs) ++ free) n
chain_prepended next f n x xs free run d out p =
    path_join (with_at next (last_of x xs) f) x (x ∷ xs) f free n (chain_ends next f x xs run d) (path_other next (last_of x xs) f f free n out p)

-- taking the head of the free list: the step of fetching one descriptor
pub head_taken : (next : ℕ → ℕ) (h n x : ℕ) (xs : List ℕ) → IsPath next h (x ∷ xs) n → (h ≡ x) × IsPath next (next h) xs n
head_taken next h n x xs p = (p.0, subst (λ k. IsPath next (next k) xs n) (sym p.0) p.1)

-- counts of joined lists
pub count-append : (i : ℕ) (xs ys : List ℕ) → count i (xs ++ ys) ≡ count i xs + count i ys
count-append i [] ys = omega arith
count-append i (x ∷ xs) ys = omega (arith, count-append i xs ys)

-- an entry that stands nowhere in a list
pub has-count : (i : ℕ) (xs : List ℕ) → count i xs ≡ 0 → is_among xs i ≡ false
has-count i [] h = refl
has-count i (x ∷ xs) h =
    let rest : count i xs ≡ 0 → is_among xs i ≡ false = has-count i xs in
    grind (arith, nat_tests)

pub count-has : (i : ℕ) (xs : List ℕ) → is_among xs i ≡ true → 1 ≤ count i xs
count-has i [] h = absurd (let no : false ≡ true = h in cc)
count-has i (x ∷ xs) h =
    let rest : is_among xs i ≡ true → 1 ≤ count i xs = count-has i xs in
    grind (arith, nat_tests)

-- each at most once is distinct
pub distinct-count : (xs : List ℕ) → ((i : ℕ) → count i xs ≤ 1) → IsOnce xs
distinct-count [] h = tt
distinct-count (x ∷ xs) h =
    let once : count x xs ≡ 0 = let all : count x (x ∷ xs) ≤ 1 = h x in grind (arith, nat_tests) in
    (has-count x xs once, distinct-count xs (λ i. let all : count i (x ∷ xs) ≤ 1 = h i in grind (arith, nat_tests)))
