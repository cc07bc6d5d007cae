-- Spaces that are open files, and one more of them.
use Rattle.std.proofs.Common.{◌≡◌, ◌≢◌, ◌<◌, ◌≤◌, ◌+◌, ◌∙◌, ℕ, zero, suc, true, List, [], ◌∷◌, ◌++◌, length, get_or, Some, refl, sym, ap, arith}
use Rattle.std.proofs.lemmas.Grind.{common_steps}
use Rattle.std.proofs.lemmas.Bool.Decides.{nat_tests}
use Rattle.std.proofs.lemmas.Slice.Eq.{bytes_eq-Decides}
use Rattle.std.specs.Str.{bytes_eq}
use Rattle.std.specs.Prelude.{string_bytes, nat_lt}
use Rattle.vub_shared.specs.Spaces.{AllHanded, HandsNew}
use Rattle.vub_edge.specs.FileSpaces.{size_at, name_at}
use Rattle.vub_edge.specs.FileShareds.{handed_of, spaces_of}
use Rattle.vub_edge.specs.declared.file_space.FileSpace.{FileSpace}
use Rattle.vub_edge.specs.declared.file_shared.FileShared.{FileShared}

name_at-get : {F : Type 0} (spaces : List (FileSpace F)) (s : ℕ) (d : FileSpace F) → s < length spaces → name_at spaces s ≡ Some (string_bytes (get_or spaces s d).name)
name_at-get [] s d l = absurd (omega arith)
name_at-get (x ∷ xs) zero d l = refl
name_at-get (x ∷ xs) (suc s) d l = name_at-get xs s d (omega arith)

-- a space whose name was compared with this one, and is equal
pub found : {F : Type 0} (spaces : List (FileSpace F)) (s : ℕ) (d : FileSpace F) (text name : List ℕ) → s < length spaces → d ≡ get_or spaces s d → text ≡ string_bytes d.name → bytes_eq text name ≡ true
    → name_at spaces s ≡ Some name
found spaces s d text name l is same equal =
    name_at-get spaces s d l ∙ ap (λ (x : FileSpace _). Some (string_bytes x.name)) (sym is) ∙ ap (λ (t : List ℕ). Some t) (sym same ∙ (bytes_eq-Decides text name).0 equal)

name_at-pushed : {F : Type 0} (spaces : List (FileSpace F)) (x : FileSpace F) → name_at (spaces ++ x ∷ []) (length spaces) ≡ Some (string_bytes x.name)
name_at-pushed [] x = refl
name_at-pushed (y ∷ ys) x = name_at-pushed ys x

size_at-pushed : {F : Type 0} (spaces : List (FileSpace F)) (x : FileSpace F) → size_at (spaces ++ x ∷ []) (length spaces) ≡ x.size
size_at-pushed [] x = refl
size_at-pushed (y ∷ ys) x = size_at-pushed ys x

size_at-push : {F : Type 0} (spaces : List (FileSpace F)) (x : FileSpace F) (s : ℕ) → s ≢ length spaces → size_at (spaces ++ x ∷ []) s ≡ size_at spaces s
size_at-push [] x zero apart = absurd (apart refl)
size_at-push [] x (suc s) apart = refl
size_at-push (y ∷ ys) x zero apart = refl
size_at-push (y ∷ ys) x (suc s) apart = size_at-push ys x s (λ e. apart (ap (λ (n : ℕ). suc n) e))

-- one space more is handed out
pub pushed : {F : Type 0} (before now : List (FileSpace F)) (x : FileSpace F) (number : ℕ) → now ≡ before ++ x ∷ [] → number ≡ length before
    → HandsNew (λ s. nat_lt s (length before)) (size_at before) (λ s. nat_lt s (length now)) (size_at now) number x.size
pushed before now x number more last = record {
  fresh = grind (arith, nat_tests);
  joins = let count = counted before now x more in grind (arith, nat_tests);
  sized = ap (λ xs. size_at xs number) more ∙ ap (λ s. size_at (before ++ x ∷ []) s) last ∙ size_at-pushed before x;
  handed = λ s apart. let count = counted before now x more in grind (arith, nat_tests);
  sizes = λ s apart. ap (λ xs. size_at xs s) more ∙ size_at-push before x s (λ e. apart (e ∙ sym last));
}
  where
    counted : {F : Type 0} (before now : List (FileSpace F)) (x : FileSpace F) → now ≡ before ++ x ∷ [] → length now ≡ length before + 1
    counted before now x more = ap (λ xs. length xs) more ∙ grind (arith, common_steps)

-- it has the name that it was handed out for
pub named : {F : Type 0} (before now : List (FileSpace F)) (x : FileSpace F) (number : ℕ) → now ≡ before ++ x ∷ [] → number ≡ length before → name_at now number ≡ Some (string_bytes x.name)
named before now x number more last = ap (λ xs. name_at xs number) more ∙ ap (λ s. name_at (before ++ x ∷ []) s) last ∙ name_at-pushed before x

-- where every number is handed out, all 65,536 spaces are there
pub all_there : {R F : Type 0} (mem : FileShared R F) → AllHanded (handed_of mem) → length (spaces_of mem) ≡ 65536
all_there mem all =
    let last : nat_lt 65535 (length (spaces_of mem)) ≡ true = all 65535 (omega arith) in
    let few : length (spaces_of mem) ≤ 65536 = omega (arith, mem.numbered, mem.spaces.ok) in
    grind (arith, nat_tests)
