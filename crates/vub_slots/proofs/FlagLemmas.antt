-- The bits of the flags of a slot that is available, used or restored.
use Rattle.std.proofs.Common.{◌≡◌, ◌≢◌, ◌<◌, ℕ, ◌-◌, ◌*◌, ◌^◌, ◌%◌, min, max, w16, Bool, true, false, refl, ap, ◌∙◌, lit<, arith}
use Rattle.std.specs.Int.{bit_at, bit_not}
use Rattle.std.specs.Prelude.{bit_and}
use Rattle.std.proofs.lemmas.Bool.Decides.{nat_tests}
use Rattle.std.proofs.lemmas.Nat.Bits.{bit_at_and, bit_at_or, bit_at-lt, bit_at_clear_other, bit_at_ones, bit_at-pow_other}
use Rattle.vub_base.specs.Positions.{is_available, is_used}
use Rattle.vub_slots.specs.Flags.{available_flags, used_flags, restored_flags, SameOthers}

pub available_is : (wrap : Bool) → is_available (available_flags wrap) wrap ≡ true
available_is true = refl
available_is false = refl

pub used_is : (wrap : Bool) → is_used (used_flags wrap) wrap ≡ true
used_is true = refl
used_is false = refl

-- a bit of restored flags
restored_bit : (flags : ℕ) (wrap : Bool) (k : ℕ) → bit_at (restored_flags flags wrap) k ≡ max (min (bit_at flags k) (bit_at 0x7f7f k)) (bit_at (available_flags wrap) k)
restored_bit flags wrap k = bit_at_or (bit_and flags 0x7f7f) (available_flags wrap) k ∙ ap (λ (b : ℕ). max b (bit_at (available_flags wrap) k)) (bit_at_and flags 0x7f7f k)

pub restored_is : (flags : ℕ) (wrap : Bool) → is_available (restored_flags flags wrap) wrap ≡ true
restored_is flags true =
    let avail : bit_at (restored_flags flags true) 7 ≡ 1 = (let e = restored_bit flags true 7 in omega (arith, e)) in
    let used : bit_at (restored_flags flags true) 15 ≡ 0 = (let e = restored_bit flags true 15 in omega (arith, e)) in
    rw (avail, used) refl
restored_is flags false =
    let avail : bit_at (restored_flags flags false) 7 ≡ 0 = (let e = restored_bit flags false 7 in omega (arith, e)) in
    let used : bit_at (restored_flags flags false) 15 ≡ 1 = (let e = restored_bit flags false 15 in omega (arith, e)) in
    rw (avail, used) refl

-- where the mask has a bit, and neither AVAIL nor USED is it, the flags keep theirs
kept_bit : (flags : ℕ) (wrap : Bool) (k : ℕ) → bit_at 0x7f7f k ≡ 1 → bit_at (available_flags wrap) k ≡ 0 → bit_at (restored_flags flags wrap) k ≡ bit_at flags k
kept_bit flags wrap k mask none =
    let e : bit_at (restored_flags flags wrap) k ≡ max (min (bit_at flags k) (bit_at 0x7f7f k)) (bit_at (available_flags wrap) k) = restored_bit flags wrap k in
    let few : bit_at flags k < 2 = bit_at-lt flags k in
    omega (arith, e, few, mask, none)

-- the mask has every bit but those two
mask : (k : ℕ) → k < 16 → k ≢ 7 → k ≢ 15 → bit_at 0x7f7f k ≡ 1
mask k few avail used =
    let clear : bit_at (bit_and (2 ^ 15 - 1) (bit_not w16 (1 * 2 ^ 7 % 2 ^ 16))) k ≡ bit_at (2 ^ 15 - 1) k = bit_at_clear_other w16 (2 ^ 15 - 1) 7 (lit< tt) k few avail in
    let ones : bit_at (2 ^ 15 - 1) k ≡ 1 = bit_at_ones 15 k (omega arith) in
    clear ∙ ones

none : (wrap : Bool) (k : ℕ) → k ≢ 7 → k ≢ 15 → bit_at (available_flags wrap) k ≡ 0
none true k avail used = bit_at-pow_other 7 k avail
none false k avail used = bit_at-pow_other 15 k used

pub restored_others : (flags : ℕ) (wrap : Bool) → SameOthers (restored_flags flags wrap) flags
restored_others flags wrap k few avail used = kept_bit flags wrap k (mask k few avail used) (none wrap k avail used)

-- an available slot isn't used
pub not_both : (flags : ℕ) (wrap : Bool) → is_available flags wrap ≡ true → is_used flags wrap ≡ false
not_both flags wrap available = grind (arith, nat_tests)
