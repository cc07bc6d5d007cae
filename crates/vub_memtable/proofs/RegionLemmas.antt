-- The tests of regions are the facts.
use Rattle.std.proofs.Common.{◌≡◌, ◌≤◌, ◌<◌, ◌⊎◌, ℕ, ◌+◌, Bool, true, false, refl, inl, inr, arith}
use Rattle.std.specs.Prelude.{◌^◌, ◌||◌, nat_lt}
use Rattle.std.proofs.lemmas.Bool.{cases_Bool}
use Rattle.std.proofs.lemmas.Bool.Decides.{nat_tests}
use Rattle.vub_memtable.specs.declared.region.Mapped.{Mapped}
use Rattle.vub_memtable.specs.Regions.{IsAmong, EndsPast, ShareAddress, ends_past, ranges_meet, regions_meet}

one_of : (a b c : Bool) → (a || b) || c ≡ true → (a ≡ true) ⊎ ((b ≡ true) ⊎ (c ≡ true))
one_of true b c some = inl refl
one_of false true c some = inr (inl refl)
one_of false false c some = inr (inr some)

pub past_is : (m : Mapped) → ends_past m ≡ true → EndsPast m
past_is m past = elim (one_of (nat_lt m.space_size (m.region.offset + m.region.size)) (nat_lt (2 ^ 64) (m.region.guest + m.region.size)) (nat_lt (2 ^ 64) (m.region.user + m.region.size)) past) [
  | inl space ↦ inl (grind (arith, nat_tests))
  | inr (inl guest) ↦ inr (inl (grind (arith, nat_tests)))
  | inr (inr user) ↦ inr (inr (grind (arith, nat_tests)))
]

pub not_past : (m : Mapped) → ends_past m ≡ false → ¬ EndsPast m
not_past m fits (inl space) = grind (arith, nat_tests)
not_past m fits (inr (inl guest)) = grind (arith, nat_tests)
not_past m fits (inr (inr user)) = grind (arith, nat_tests)

-- two ranges that have a number in common
abbrev pub HaveCommon : ℕ → ℕ → ℕ → ℕ → Type 0
HaveCommon start size other other_size = (number : ℕ) × IsAmong start size number × IsAmong other other_size number

common_is : (start size other other_size : ℕ) → ranges_meet start size other other_size ≡ true → HaveCommon start size other other_size
common_is start size other other_size meet = elim (cases_Bool (nat_lt start other)) [
  | inl below ↦ (other, (grind (arith, nat_tests), grind (arith, nat_tests)), (grind (arith, nat_tests), grind (arith, nat_tests)))
  | inr above ↦ (start, (grind (arith, nat_tests), grind (arith, nat_tests)), (grind (arith, nat_tests), grind (arith, nat_tests)))
]

no_common : (start size other other_size : ℕ) → ranges_meet start size other other_size ≡ false → ¬ HaveCommon start size other other_size
no_common start size other other_size apart common =
    let n : ℕ = common.0 in
    let one : start ≤ n = common.1.0 in
    let two : n < start + size = common.1.1 in
    let three : other ≤ n = common.2.0 in
    let four : n < other + other_size = common.2.1 in
    grind (arith, nat_tests)

pub share_is : (a b : Mapped) → regions_meet a b ≡ true → ShareAddress a b
share_is a b meet = elim (cases_Bool (ranges_meet a.region.guest a.region.size b.region.guest b.region.size)) [
  | inl guest ↦ inl (common_is a.region.guest a.region.size b.region.guest b.region.size guest)
  | inr other ↦ inr (common_is a.region.user a.region.size b.region.user b.region.size (grind (arith, nat_tests)))
]

pub no_share : (a b : Mapped) → regions_meet a b ≡ false → ¬ ShareAddress a b
no_share a b apart (inl guest) = no_common a.region.guest a.region.size b.region.guest b.region.size (grind (arith, nat_tests)) guest
no_share a b apart (inr user) = no_common a.region.user a.region.size b.region.user b.region.size (grind (arith, nat_tests)) user
