-- Links, and the first bad one.
use Rattle.std.proofs.Common.{◌≡◌, ◌≤◌, ◌<◌, ℕ, zero, suc, ◌+◌, Bool, true, false, cond, List, [], ◌∷◌, ◌++◌, length, get_or, set, refl, ap, sym, subst, ◌∙◌, inl, inr, arith}
use Rattle.std.specs.Prelude.{not, ◌||◌, ◌==◌, nat_lt, Option, Some, None}
use Rattle.std.specs.List.{AllByRecursion}
use Rattle.std.proofs.lemmas.Bool.Decides.{nat_tests}
use Rattle.std.proofs.lemmas.Bool.{cases_eq, cases_Bool}
use Rattle.std.proofs.lemmas.List.{append_assoc, length-set, get_or-set_same, get_or-set_other}
use Rattle.vub_device.specs.Past.{is_among}
use Rattle.vub_device.specs.Places.{are_distinct}
use Rattle.vub_device.proofs.Numbers.{is_among_append}
use Rattle.vub_inflight.specs.Entries.{with_at}
use Rattle.vub_inflight.specs.Links.{link_at, links, links_within, first_bad, AreMarked}

link_at-next : (next : ℕ → ℕ) (count entry : ℕ) → link_at next (suc count) entry ≡ next (link_at next count entry)
link_at-next next zero entry = refl
link_at-next next (suc count) entry = link_at-next next count (next entry)

-- one link more
links-more : (next : ℕ → ℕ) (count entry : ℕ) → links next (suc count) entry ≡ links next count entry ++ link_at next count entry ∷ []
links-more next zero entry = refl
links-more next (suc count) entry = ap (λ (xs : List ℕ). entry ∷ xs) (links-more next count (next entry))

pub length-links : (next : ℕ → ℕ) (count entry : ℕ) → length (links next count entry) ≡ count
length-links next zero entry = refl
length-links next (suc count) entry = omega (arith, length-links next count (next entry))

-- the links don't see a word of an entry that isn't one of them
pub links-with_at : (next : ℕ → ℕ) (i v count entry : ℕ) → is_among (links next count entry) i ≡ false → links (with_at next i v) count entry ≡ links next count entry
links-with_at next i v zero entry out = refl
links-with_at next i v (suc count) entry out =
    let rest : is_among (links next count (next entry)) i ≡ false → links (with_at next i v) count (next entry) ≡ links next count (next entry) = links-with_at next i v count (next entry) in
    grind (arith, nat_tests)

-- links that are distinct entries have no bad one
pub no_bad : (n : ℕ) (met xs : List ℕ) → are_distinct xs ≡ true → AllByRecursion (λ x. x < n) xs → ((i : ℕ) → is_among xs i ≡ true → is_among met i ≡ false) → first_bad n met xs ≡ None
no_bad n met [] d b out = refl
no_bad n met (x ∷ xs) d b out =
    let first : is_among met x ≡ false = out x (grind (arith, nat_tests)) in
    let new : is_among xs x ≡ false = grind (arith, nat_tests) in
    let rest : first_bad n (met ++ x ∷ []) xs ≡ None = no_bad n (met ++ x ∷ []) xs (grind (arith, nat_tests)) b.1 (λ i held.
    let before : is_among met i ≡ false = out i (grind (arith, nat_tests)) in
    let joined : is_among (met ++ x ∷ []) i ≡ (is_among met i || is_among (x ∷ []) i) = is_among_append met (x ∷ []) i in
    let apart : (x == i) ≡ false = elim (cases_eq x i) [
      | inl same ↦ absurd (let twice : is_among xs x ≡ true = ap (is_among xs) same ∙ held in cc)
      | inr differ ↦ grind (arith, nat_tests)
    ] in
    grind (arith, nat_tests)) in
    let low : nat_lt x n ≡ true = let l : x < n = b.0 in grind (arith, nat_tests) in
    grind (arith, nat_tests)

-- after one link more
pub link_goes_on : (next : ℕ → ℕ) (k k' h h' head : ℕ) → k' ≡ k + 1 → h ≡ link_at next k head → h' ≡ next h → h' ≡ link_at next k' head
link_goes_on next k k' h h' head more at to =
    let is_suc : k' ≡ suc k = omega (arith, more) in
    to ∙ ap next at ∙ sym (link_at-next next k head) ∙ ap (λ (j : ℕ). link_at next j head) (sym is_suc)

pub links_go_on : (next : ℕ → ℕ) (k k' h head : ℕ) → k' ≡ k + 1 → h ≡ link_at next k head → links next k' head ≡ links next k head ++ h ∷ []
links_go_on next k k' h head more at =
    let is_suc : k' ≡ suc k = omega (arith, more) in
    ap (λ (j : ℕ). links next j head) is_suc ∙ links-more next k head ∙ ap (λ (x : ℕ). links next k head ++ x ∷ []) (sym at)

-- one that is no bad one, where others were met before
pub bad_goes_on : (n : ℕ) (met : List ℕ) (next : ℕ → ℕ) (k k' left left' h h' head : ℕ) (result : Option ℕ) → k' ≡ k + 1 → left ≡ left' + 1 → h ≡ link_at next k head → h' ≡ next h → h < n → is_among (met ++ links next k head) h ≡ false
    → first_bad n (met ++ links next k head) (links next left h) ≡ result → first_bad n (met ++ links next k' head) (links next left' h') ≡ result
bad_goes_on n met next k k' left left' h h' head result more less at to low new so_far =
    let is_suc : left ≡ suc left' = omega (arith, less) in
    let all : met ++ links next k' head ≡ (met ++ links next k head) ++ h ∷ [] = ap (λ (xs : List ℕ). met ++ xs) (links_go_on next k k' h head more at) ∙ sym (append_assoc met (links next k head) (h ∷ [])) in
    let fine : nat_lt h n ≡ true = grind (arith, nat_tests) in
    let opened : first_bad n (met ++ links next k head) (links next (suc left') h) ≡ result = rw is_suc at so_far in
    let step : first_bad n (met ++ links next k head) (h ∷ links next left' (next h)) ≡ first_bad n ((met ++ links next k head) ++ h ∷ []) (links next left' (next h)) = grind (arith, nat_tests) in
    rw (all, to) (sym step ∙ opened)

-- a bad one
pub bad_found : (n : ℕ) (next : ℕ → ℕ) (left h : ℕ) (met : List ℕ) → 0 < left → (not (nat_lt h n) || is_among met h) ≡ true → first_bad n met (links next left h) ≡ Some h
bad_found n next zero h met some bad = absurd (omega (arith, some))
bad_found n next (suc left) h met some bad = ap (λ (b : Bool). cond b (Some h) (first_bad n (met ++ h ∷ []) (links next left (next h)))) bad

-- one entry more is marked
marked_more : (marks : List Bool) (entries : List ℕ) (h : ℕ) → h < length marks → AreMarked marks entries → AreMarked (set marks h true) (entries ++ h ∷ [])
marked_more marks entries h low marked i l =
    let joined : is_among (entries ++ h ∷ []) i ≡ (is_among entries i || is_among (h ∷ []) i) = is_among_append entries (h ∷ []) i in
    let long : length (set marks h true) ≡ length marks = length-set marks h true in
    elim (cases_eq i h) [
      | inl here ↦
          let at_h : get_or (set marks h true) h false ≡ true = get_or-set_same marks h true false low in
          let at_i : get_or (set marks h true) i false ≡ true = ap (λ (j : ℕ). get_or (set marks h true) j false) here ∙ at_h in
          grind (arith, nat_tests)
      | inr apart ↦
          let at_i : get_or (set marks h true) i false ≡ get_or marks i false = get_or-set_other marks h i true false apart in
          let old : get_or marks i false ≡ is_among entries i = marked i (omega (arith, l, long)) in
          grind (arith, nat_tests)
    ]

-- the marks of one link more, where others were met before
pub marks_go_on : (met : List ℕ) (next : ℕ → ℕ) (k k' h head : ℕ) (marks : List Bool) → k' ≡ k + 1 → h ≡ link_at next k head → h < length marks
    → AreMarked marks (met ++ links next k head) → AreMarked (set marks h true) (met ++ links next k' head)
marks_go_on met next k k' h head marks more at low marked =
    let all : met ++ links next k' head ≡ (met ++ links next k head) ++ h ∷ [] = ap (λ (xs : List ℕ). met ++ xs) (links_go_on next k k' h head more at) ∙ sym (append_assoc met (links next k head) (h ∷ [])) in
    subst (λ (entries : List ℕ). AreMarked (set marks h true) entries) (sym all) (marked_more marks (met ++ links next k head) h low marked)

-- a mark tells whether an entry below 1024 was met
pub bad_by_mark : (link n : ℕ) (mark met : Bool) → n ≤ 1024 → (link < 1024 → mark ≡ met) → (not (nat_lt link n) || mark) ≡ true → (not (nat_lt link n) || met) ≡ true
bad_by_mark link n mark met few same bad = grind (arith, nat_tests)

-- links with no bad one are distinct entries, none of them met before
pub record FineLinks (n : ℕ) (met xs : List ℕ) : Type 0 where
  pub distinct : are_distinct xs ≡ true
  pub within : AllByRecursion (λ (x : ℕ). x < n) xs
  pub new : (i : ℕ) → is_among xs i ≡ true → is_among met i ≡ false

pub fine_links : (n : ℕ) (met xs : List ℕ) → first_bad n met xs ≡ None → FineLinks n met xs
fine_links n met [] none = record { distinct = refl; within = tt; new = λ i held. (let fails : false ≡ true = held in absurd cc) }
fine_links n met (x ∷ xs) none = go (fine_links n (met ++ x ∷ []) xs) (not (nat_lt x n) || is_among met x) refl none
  where
    with_rest : nat_lt x n ≡ true → is_among met x ≡ false → FineLinks n (met ++ x ∷ []) xs → FineLinks n met (x ∷ xs)
    with_rest low out rest =
        let joined : (i : ℕ) → is_among (met ++ x ∷ []) i ≡ (is_among met i || is_among (x ∷ []) i) = is_among_append met (x ∷ []) in
        let here : is_among (met ++ x ∷ []) x ≡ true = let at_x = joined x in grind (arith, nat_tests) in
        let first : is_among xs x ≡ false = elim (cases_Bool (is_among xs x)) [
          | inl there ↦ absurd (let old : is_among (met ++ x ∷ []) x ≡ false = rest.new x there in let fails : true ≡ false = sym here ∙ old in cc)
          | inr never ↦ never
        ] in
        record {
          distinct = let others : are_distinct xs ≡ true = rest.distinct in grind arith;
          within = (grind (arith, nat_tests), rest.within);
          new = λ i held. elim (cases_eq x i) [
            | inl same ↦ ap (is_among met) (sym same) ∙ out
            | inr apart ↦ let later : is_among xs i ≡ true = grind (arith, nat_tests) in let old : is_among (met ++ x ∷ []) i ≡ false = rest.new i later in let at_i = joined i in grind (arith, nat_tests)
          ];
        }

    go : (first_bad n (met ++ x ∷ []) xs ≡ None → FineLinks n (met ++ x ∷ []) xs) → (b : Bool) → (not (nat_lt x n) || is_among met x) ≡ b → cond b (Some x) (first_bad n (met ++ x ∷ []) xs) ≡ None → FineLinks n met (x ∷ xs)
    go rest true is none' = absurd (let fails : ◌≡◌ {A = Option ℕ} (Some x) None = none' in cc)
    go rest false is none' = with_rest (grind arith) (grind arith) (rest none')

-- ---- links that end before one that isn't below n

-- where all are below n they are the links
pub links_all_within : (n : ℕ) (next : ℕ → ℕ) (count entry : ℕ) → AllByRecursion (λ (i : ℕ). i < n) (links next count entry) → links_within n next count entry ≡ links next count entry
links_all_within n next zero entry below = refl
links_all_within n next (suc count) entry below =
    let rest : links_within n next count (next entry) ≡ links next count (next entry) = links_all_within n next count (next entry) below.1 in
    let low : entry < n = below.0 in
    grind (arith, nat_tests)

-- one link more that is below n
pub within_goes_on : (n : ℕ) (next : ℕ → ℕ) (k k' left left' h h' head : ℕ) (whole : List ℕ) → k' ≡ k + 1 → left ≡ left' + 1 → h ≡ link_at next k head → h' ≡ next h → h < n
    → links next k head ++ links_within n next left h ≡ whole → links next k' head ++ links_within n next left' h' ≡ whole
within_goes_on n next k k' left left' h h' head whole more less at to low so_far =
    let is_suc : left ≡ suc left' = omega (arith, less) in
    let front : links next k' head ≡ links next k head ++ h ∷ [] = links_go_on next k k' h head more at in
    let opened : links_within n next (suc left') h ≡ h ∷ links_within n next left' (next h) = grind (arith, nat_tests) in
    let rest : links_within n next left h ≡ h ∷ links_within n next left' h' = ap (λ (j : ℕ). links_within n next j h) is_suc ∙ opened ∙ ap (λ (j : ℕ). h ∷ links_within n next left' j) (sym to) in
    ap (λ (xs : List ℕ). xs ++ links_within n next left' h') front ∙ append_assoc (links next k head) (h ∷ []) (links_within n next left' h') ∙ ap (λ (xs : List ℕ). links next k head ++ xs) (sym rest) ∙ so_far

-- one that isn't ends them
pub within_ends : (n : ℕ) (next : ℕ → ℕ) (left h : ℕ) → n ≤ h → links_within n next left h ≡ []
within_ends n next zero h out = refl
within_ends n next (suc left) h out = grind (arith, nat_tests)
