-- What names mean in spaces of which one is written or added.
use Rattle.std.proofs.Common.{◌≡◌, ◌<◌, ℕ, zero, suc, ◌+◌, List, [], ◌∷◌, ◌++◌, length, get_or, set, take, ap, ◌∙◌, arith, zero-add}
use Rattle.std.specs.Prelude.{if◌then◌else◌, Some, None, string_bytes}
use Rattle.std.specs.Str.{bytes_eq}
use Rattle.std.proofs.lemmas.List.{take_more}
use Rattle.std.proofs.lemmas.Grind.{common_steps}
use Rattle.vub_shared.specs.Held.{meaning_from, later}
use Rattle.vub_shared.specs.Spaces.{with_name}
use Rattle.vub_shared.specs.declared.held.Held.{Held}

-- a space that is written keeps its name
pub meaning-set : (k : ℕ) (spaces : List Held) (s : ℕ) (v d : Held) → s < length spaces → string_bytes v.name ≡ string_bytes (get_or spaces s d).name
    → (name : List ℕ) → meaning_from k (set spaces s v) name ≡ meaning_from k spaces name
meaning-set k [] s v d l same name = absurd (omega arith)
meaning-set k (h ∷ hs) zero v d l same name = ap (λ (text : List ℕ). later (meaning_from (k + 1) hs name) (if bytes_eq text name then Some k else None)) same
meaning-set k (h ∷ hs) (suc s) v d l same name = ap (λ o. later o (if bytes_eq (string_bytes h.name) name then Some k else None)) (meaning-set (k + 1) hs s v d (omega arith) same name)

-- one space more
pub meaning-push : (k : ℕ) (spaces : List Held) (h : Held) (name : List ℕ) → meaning_from k (spaces ++ h ∷ []) name ≡ (if bytes_eq (string_bytes h.name) name then Some (k + length spaces) else meaning_from k spaces name)
meaning-push k [] h name = grind (arith, common_steps)
meaning-push k (g ∷ gs) h name =
    let rest : meaning_from (k + 1) (gs ++ h ∷ []) name ≡ (if bytes_eq (string_bytes h.name) name then Some (k + 1 + length gs) else meaning_from (k + 1) gs name) = meaning-push (k + 1) gs h name in
    let same : k + 1 + length gs ≡ k + length (g ∷ gs) = omega arith in
    grind (arith, common_steps)

-- the first i + 1 spaces
pub meaning-more : (spaces : List Held) (i : ℕ) (d : Held) (name : List ℕ) → i < length spaces → meaning_from 0 (take (i + 1) spaces) name ≡ (if bytes_eq (string_bytes (get_or spaces i d).name) name then Some i else meaning_from 0 (take i spaces) name)
meaning-more spaces i d name l =
    let cut : take (i + 1) spaces ≡ take i spaces ++ get_or spaces i d ∷ [] = take_more spaces i d l in
    let push = meaning-push 0 (take i spaces) (get_or spaces i d) name in
    let len : 0 + length (take i spaces) ≡ i = grind (arith, common_steps) in
    ap (λ hs. meaning_from 0 hs name) cut ∙ push ∙ ap (λ n. if bytes_eq (string_bytes (get_or spaces i d).name) name then Some n else meaning_from 0 (take i spaces) name) len

-- one space more is what its name means
pub meaning-add : (spaces : List Held) (h : Held) (name : List ℕ) → string_bytes h.name ≡ name → (other : List ℕ) → meaning_from 0 (spaces ++ h ∷ []) other ≡ with_name name (length spaces) (meaning_from 0 spaces) other
meaning-add spaces h name is other =
    let push = meaning-push 0 spaces h other in
    push ∙ ap (λ text. if bytes_eq text other then Some (0 + length spaces) else meaning_from 0 spaces other) is ∙ ap (λ n. if bytes_eq name other then Some n else meaning_from 0 spaces other) (zero-add (length spaces))
