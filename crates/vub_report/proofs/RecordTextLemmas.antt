use Rattle.std.proofs.Common.{◌≡◌, ℕ, zero, suc, ◌+◌, ◌*◌, ◌<◌, ◌==◌, List, [], ◌∷◌, ◌++◌, length, take, drop, refl, ap, sym, ◌∙◌, arith, Bool, true, false, append_assoc, cond}
use Rattle.std.proofs.lemmas.Bool.Decides.{nat_tests}
use Rattle.std.proofs.lemmas.List.{append-nil}
use Rattle.std.specs.List.{take_while, prefix_len}
use Rattle.std.specs.Prelude.{codes, slice_range}
use Rattle.vub_report.specs.RecordText.{repeated_text, joint_text, text_after, bytes_text, before_sector, written_text}

-- how many bytes at the front are b
abbrev pub leading : ℕ → List ℕ → ℕ
leading b xs = length (take_while (λ x. x == b) xs)

-- a run goes on as long as its byte comes
pub text_after-run : (b n : ℕ) (xs : List ℕ) → text_after b n xs ≡ repeated_text b (n + leading b xs) ++ (joint_text (n + leading b xs) (drop (leading b xs) xs) ++ bytes_text (drop (leading b xs) xs))
unfolding bytes_text
text_after-run b n [] = let zero : n ≡ n + 0 = omega arith in sym (append-nil (repeated_text b n)) ∙ ap (λ k. repeated_text b k ++ []) zero
text_after-run b n (x ∷ xs) =
    let rest : text_after b (n + 1) xs ≡ repeated_text b (n + 1 + leading b xs) ++ (joint_text (n + 1 + leading b xs) (drop (leading b xs) xs) ++ bytes_text (drop (leading b xs) xs)) = text_after-run b (n + 1) xs in
    let k : Bool → ℕ = λ t. length (take (cond t (1 + prefix_len (λ y. y == b) xs) 0) (x ∷ xs)) in
    let P : Bool → Type 0 = λ t.
    cond t (text_after b (n + 1) xs) (repeated_text b n ++ (joint_text n (x ∷ xs) ++ text_after x 1 xs))
    ≡ repeated_text b (n + k t) ++ (joint_text (n + k t) (drop (k t) (x ∷ xs)) ++ bytes_text (drop (k t) (x ∷ xs))) in
    let go : (t : Bool) → P t = λ t. elim t as P [
      | true ↦
          let one_more : suc (leading b xs) ≡ k true = grind arith in
          let more : n + 1 + leading b xs ≡ n + suc (leading b xs) = omega arith in
          rest ∙ ap (λ j. repeated_text b j ++ (joint_text j (drop (leading b xs) xs) ++ bytes_text (drop (leading b xs) xs))) more
          ∙ ap (λ j. repeated_text b (n + j) ++ (joint_text (n + j) (drop j (x ∷ xs)) ++ bytes_text (drop j (x ∷ xs)))) one_more
      | false ↦ let zero : n ≡ n + 0 = omega arith in ap (λ j. repeated_text b j ++ (joint_text j (x ∷ xs) ++ bytes_text (x ∷ xs))) zero
    ] in
    go (x == b)

pub bytes_text-run : (b k : ℕ) (xs ys : List ℕ) → ys ≡ b ∷ xs → k ≡ leading b ys → bytes_text ys ≡ repeated_text b k ++ (joint_text k (drop k ys) ++ bytes_text (drop k ys))
unfolding bytes_text
bytes_text-run b k xs ys is many =
    let here : (b == b) ≡ true = grind (arith, nat_tests) in
    let front : leading b (b ∷ xs) ≡ suc (leading b xs) = grind (arith, nat_tests) in
    let so_many : k ≡ suc (leading b xs) = many ∙ ap (leading b) is ∙ front in
    let from_one : 1 + leading b xs ≡ k = omega arith in
    let whole : text_after b 1 xs ≡ repeated_text b (1 + leading b xs) ++ (joint_text (1 + leading b xs) (drop (leading b xs) xs) ++ bytes_text (drop (leading b xs) xs)) = text_after-run b 1 xs in
    let left : drop k ys ≡ drop (leading b xs) xs = ap (drop k) is ∙ ap (λ n. drop n (b ∷ xs)) so_many in
    ap bytes_text is ∙ whole ∙ ap (λ j. repeated_text b j ++ (joint_text j (drop (leading b xs) xs) ++ bytes_text (drop (leading b xs) xs))) from_one
    ∙ ap (λ l. repeated_text b k ++ (joint_text k l ++ bytes_text l)) (sym left)

pub bytes_text-none : (xs : List ℕ) → length xs < 1 → bytes_text xs ≡ []
unfolding bytes_text
bytes_text-none [] h = refl
bytes_text-none (x ∷ xs) h = absurd (omega arith)

pub run_written : (b k : ℕ) (old repeated new bytes rest xs : List ℕ) → bytes ≡ b ∷ xs → k ≡ leading b bytes → rest ≡ drop k bytes
    → repeated ≡ old ++ repeated_text b k → new ≡ repeated ++ joint_text k rest → new ++ bytes_text rest ≡ old ++ bytes_text bytes
run_written b k old repeated new bytes rest xs is many left first second =
    let joined : new ≡ (old ++ repeated_text b k) ++ joint_text k rest = second ∙ ap (λ l. l ++ joint_text k rest) first in
    let parts : bytes_text bytes ≡ repeated_text b k ++ (joint_text k rest ++ bytes_text rest) = bytes_text-run b k xs bytes is many ∙ ap (λ r. repeated_text b k ++ (joint_text k r ++ bytes_text r)) (sym left) in
    ap (λ l. l ++ bytes_text rest) joined ∙ append_assoc (old ++ repeated_text b k) (joint_text k rest) (bytes_text rest) ∙ append_assoc old (repeated_text b k) (joint_text k rest ++ bytes_text rest) ∙ ap (λ l. old ++ l) (sym parts)

-- ---- the sectors of a write

pub comma_before : (place : ℕ) → 0 < place → before_sector place ≡ codes ","
comma_before zero some = absurd (omega arith)
comma_before (suc n) some = refl

pub none_before : (place : ℕ) → place < 1 → before_sector place ≡ []
none_before zero none = refl
none_before (suc n) none = absurd (omega arith)

-- one sector more
pub written_more : (place : ℕ) (bytes old before mid now : List ℕ) → before ≡ old ++ written_text place bytes → mid ≡ before ++ before_sector place → now ≡ mid ++ bytes_text (slice_range bytes (512 * place) (512 * place + 512)) → now ≡ old ++ written_text (suc place) bytes
written_more place bytes old before mid now so joint more =
    let here : List ℕ = bytes_text (slice_range bytes (512 * place) (512 * place + 512)) in
    more ∙ ap (λ l. l ++ here) (joint ∙ ap (λ l. l ++ before_sector place) so ∙ append_assoc old (written_text place bytes) (before_sector place)) ∙ append_assoc old (written_text place bytes ++ before_sector place) here
    ∙ ap (λ l. old ++ l) (append_assoc (written_text place bytes) (before_sector place) here)
