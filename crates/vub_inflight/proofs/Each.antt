-- What holds of each entry of a list, as the list is sorted.
use Rattle.std.proofs.Common.{Bool, true, false, cond, List, [], ◌∷◌, ◌++◌, filter}
use Rattle.std.specs.List.{AllByRecursion}
use Rattle.vub_base.specs.declared.pending.Pending.{Pending}
use Rattle.vub_base.specs.Pending.{precedes, insert_pending, sorted}

pub all_weaker : {X : Type 0} (P Q : X → Type 0) (xs : List X) → ((x : X) → P x → Q x) → AllByRecursion P xs → AllByRecursion Q xs
all_weaker P Q [] h a = tt
all_weaker P Q (x ∷ xs) h a = (h x a.0, all_weaker P Q xs h a.1)

pub all_append : {X : Type 0} (P : X → Type 0) (xs ys : List X) → AllByRecursion P xs → AllByRecursion P ys → AllByRecursion P (xs ++ ys)
all_append P [] ys a b = b
all_append P (x ∷ xs) ys a b = (a.0, all_append P xs ys a.1 b)

pub append_all : {X : Type 0} (P : X → Type 0) (xs ys : List X) → AllByRecursion P (xs ++ ys) → AllByRecursion P xs × AllByRecursion P ys
append_all P [] ys a = (tt, a)
append_all P (x ∷ xs) ys a = let rest = append_all P xs ys a.1 in ((a.0, rest.0), rest.1)

pub all_filter : (P : Pending → Type 0) (p : Pending → Bool) (xs : List Pending) → AllByRecursion P xs → AllByRecursion P (filter p xs)
all_filter P p [] a = tt
all_filter P p (x ∷ xs) a = elim (p x) as (λ b. AllByRecursion P (cond b (x ∷ filter p xs) (filter p xs))) [
  | true ↦ (a.0, all_filter P p xs a.1)
  | false ↦ all_filter P p xs a.1
]

pub all_insert : (P : Pending → Type 0) (e : Pending) (xs : List Pending) → P e → AllByRecursion P xs → AllByRecursion P (insert_pending e xs)
all_insert P e [] h a = (h, tt)
all_insert P e (x ∷ xs) h a = elim (precedes e x) as (λ b. AllByRecursion P (cond b (e ∷ (x ∷ xs)) (x ∷ insert_pending e xs))) [
  | true ↦ (h, a)
  | false ↦ (a.0, all_insert P e xs h a.1)
]

pub insert_all : (P : Pending → Type 0) (e : Pending) (xs : List Pending) → AllByRecursion P (insert_pending e xs) → P e × AllByRecursion P xs
insert_all P e [] a = a
insert_all P e (x ∷ xs) a =
    let Q : Bool → Type 0 = λ b. AllByRecursion P (cond b (e ∷ (x ∷ xs)) (x ∷ insert_pending e xs)) → P e × AllByRecursion P (x ∷ xs) in
    let go : (b : Bool) → Q b = elim [
      | true ↦ λ g. g
      | false ↦ λ g. let rest = insert_all P e xs g.1 in (rest.0, (g.0, rest.1))
    ] in
    go (precedes e x) a

pub all_sorted : (P : Pending → Type 0) (xs : List Pending) → AllByRecursion P xs → AllByRecursion P (sorted xs)
all_sorted P [] a = tt
all_sorted P (x ∷ xs) a = all_insert P x (sorted xs) a.0 (all_sorted P xs a.1)

pub sorted_all : (P : Pending → Type 0) (xs : List Pending) → AllByRecursion P (sorted xs) → AllByRecursion P xs
sorted_all P [] a = tt
sorted_all P (x ∷ xs) a = let both = insert_all P x (sorted xs) a in (both.0, sorted_all P xs both.1)
