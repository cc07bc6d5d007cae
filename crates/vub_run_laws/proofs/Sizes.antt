-- Sizes of a queue.
use Rattle.std.proofs.Common.{◌≡◌, ◌≤◌, ℕ, sym, subst, true, refl, lit≤, inl, inr, arith}
use Rattle.std.specs.Int.{◌∣◌}
use Rattle.std.proofs.lemmas.Bool.Decides.{nat_tests}
use Rattle.std.proofs.lemmas.Bool.{cases_eq}
use Rattle.std.proofs.lemmas.Nat.Gcd.{dvd_of_mod-eq-zero}
use Rattle.vub_schedule.specs.Spelling.{is_size}

-- a size of a queue divides the range of its indexes
pub size_laps : (n : ℕ) → is_size n ≡ true → (1 ≤ n) × (n ≤ 64) × (n ∣ 65536)
size_laps n h =
    let P : ℕ → Type 0 = λ m. (1 ≤ m) × (m ≤ 64) × (m ∣ 65536) in
    elim (cases_eq n 2) [
      | inl e ↦ subst P (sym e) (lit≤ tt, lit≤ tt, dvd_of_mod-eq-zero 2 refl)
      | inr not2 ↦ elim (cases_eq n 4) [
        | inl e ↦ subst P (sym e) (lit≤ tt, lit≤ tt, dvd_of_mod-eq-zero 4 refl)
        | inr not4 ↦ elim (cases_eq n 8) [
          | inl e ↦ subst P (sym e) (lit≤ tt, lit≤ tt, dvd_of_mod-eq-zero 8 refl)
          | inr not8 ↦ elim (cases_eq n 16) [
            | inl e ↦ subst P (sym e) (lit≤ tt, lit≤ tt, dvd_of_mod-eq-zero 16 refl)
            | inr not16 ↦ elim (cases_eq n 32) [
              | inl e ↦ subst P (sym e) (lit≤ tt, lit≤ tt, dvd_of_mod-eq-zero 32 refl)
              | inr not32 ↦
                  let e : n ≡ 64 = grind (arith, nat_tests) in
                  subst P (sym e) (lit≤ tt, lit≤ tt, dvd_of_mod-eq-zero 64 refl)
            ]
          ]
        ]
      ]
    ]
