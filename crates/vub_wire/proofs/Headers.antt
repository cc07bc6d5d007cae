-- The header at the front of the bytes, and the tests that it passes.
use Rattle.std.proofs.Common.{◌≡◌, ℕ, ◌+◌, ◌^◌, ◌<◌, ◌≤◌, Bool, true, false, cond, List, ◌++◌, length, drop, refl, ap, subst, ◌∙◌, arith, length-append, length-drop}
use Rattle.std.specs.Prelude.{◌==◌, not, nat_lt, Result, Ok, Err}
use Rattle.std.proofs.Math.Bool.{beq}
use Rattle.std.proofs.lemmas.Bool.Decides.{nat_tests}
use Rattle.std.proofs.lemmas.List.{drop-append-le}
use Rattle.byteorder.specs.Endian.{little_number}
use Rattle.byteorder.specs.Numbers.{little_from-append}
use Rattle.vub_base.specs.Fields.{field}
use Rattle.vub_wire.specs.declared.fault.WireFault.{WireFault}
use Rattle.vub_wire.specs.declared.messages.Header.{Header}
use Rattle.vub_wire.specs.Flags.{version, marks_reply}
use Rattle.vub_wire.specs.Grammar.{header_bytes}
use Rattle.vub_wire.specs.Faults.{header_at}
use Rattle.vub_wire.specs.Reading.{checked_header}
use Rattle.vub_wire.proofs.Fields.{AreBytes, field_fits, field_takes, field_again}

-- ---- tests

abbrev pub good : {A : Type 0} → A → Result A WireFault
good x = Ok x

abbrev pub bad : {A : Type 0} → WireFault → Result A WireFault
bad e = Err e

pub good_is : {A : Type 0} (x y : A) → good x ≡ good y → x ≡ y
good_is x y e = cc

-- a test that was passed
pub passed : {A : Type 0} (b : Bool) (e : WireFault) (o : Result A WireFault) (y : A) → cond b (bad e) o ≡ good y → (b ≡ false) × (o ≡ good y)
passed true e o y is = absurd cc
passed false e o y is = (refl, is)

same_as : (a b : Bool) → not (beq a b) ≡ false → a ≡ b
same_as true true e = refl
same_as true false e = absurd cc
same_as false true e = absurd cc
same_as false false e = refl

as_itself : (b : Bool) → beq b b ≡ true
as_itself true = refl
as_itself false = refl

-- ---- the header that is read

pub header_takes : (bytes : List ℕ) → 12 ≤ length bytes → AreBytes bytes → bytes ≡ header_bytes (header_at bytes) ++ drop 12 bytes
unfolding header_at
header_takes bytes long b = field_takes 4 0 bytes _ (omega arith) b (field_takes 4 4 bytes _ (omega arith) b (field_takes 4 8 bytes _ (omega arith) b refl))

pub request_fits : (bytes : List ℕ) → AreBytes bytes → (header_at bytes).request < 2 ^ 32
unfolding header_at
request_fits bytes b = field_fits 4 0 bytes b

pub flags_fit : (bytes : List ℕ) → AreBytes bytes → (header_at bytes).flags < 2 ^ 32
unfolding header_at
flags_fit bytes b = field_fits 4 4 bytes b

-- a header that passed its tests
pub record HeaderPasses (reply : Bool) (bytes : List ℕ) (h : Header) : Type 0 where
  pub long : 12 ≤ length bytes
  pub is : header_at bytes ≡ h
  pub version_is : version h.flags ≡ 1
  pub bit : marks_reply h.flags ≡ reply
  pub small : h.size ≤ 4096

pub header_passes : (reply : Bool) (bytes : List ℕ) (h : Header) → checked_header reply bytes ≡ good h → HeaderPasses reply bytes h
unfolding checked_header
header_passes reply bytes h e =
    let one = passed (nat_lt (length bytes) 12) _ _ h e in
    let two = passed (not (version (header_at bytes).flags == 1)) _ _ h one.1 in
    let three = passed (not (beq (marks_reply (header_at bytes).flags) reply)) _ _ h two.1 in
    let four = passed (nat_lt 4096 (header_at bytes).size) _ _ h three.1 in
    subst (λ (k : Header). HeaderPasses reply bytes k) (good_is (header_at bytes) h four.1) (record {
      long = grind (arith, nat_tests, one.0);
      is = refl;
      version_is = grind (arith, nat_tests, two.0);
      bit = same_as (marks_reply (header_at bytes).flags) reply three.0;
      small = grind (arith, nat_tests, four.0);
    })

-- ---- the header that was written

pub header_again : (h : Header) (rest : List ℕ) → h.request < 2 ^ 32 → h.flags < 2 ^ 32 → h.size < 2 ^ 32 → header_at (header_bytes h ++ rest) ≡ h
unfolding header_at
header_again h rest a b c =
    let p : List ℕ = header_bytes h ++ rest in
    let one : field 4 0 p ≡ h.request = field_again 4 0 h.request p _ refl a in
    let two : field 4 4 p ≡ h.flags = field_again 4 4 h.flags p _ refl b in
    let three : field 4 8 p ≡ h.size = field_again 4 8 h.size p _ refl c in
    rw (one, two, three) refl

pub header_read : (reply : Bool) (h : Header) (rest : List ℕ) → h.request < 2 ^ 32 → h.flags < 2 ^ 32 → version h.flags ≡ 1 → marks_reply h.flags ≡ reply → h.size ≤ 4096
    → checked_header reply (header_bytes h ++ rest) ≡ good h
unfolding checked_header
header_read reply h rest request flags one bit few =
    let long : nat_lt (length (header_bytes h ++ rest)) 12 ≡ false = grind (arith, nat_tests, length-append (header_bytes h) rest) in
    let header : header_at (header_bytes h ++ rest) ≡ h = header_again h rest request flags (omega (arith, few)) in
    let small : nat_lt 4096 h.size ≡ false = grind (arith, nat_tests) in
    rw (long, header, one, bit, as_itself reply, small) refl

-- ---- more bytes behind it

field_before : (w at : ℕ) (p more : List ℕ) → at + w ≤ length p → field w at (p ++ more) ≡ field w at p
field_before w at p more long =
    ap (λ (l : List ℕ). little_number w l) (drop-append-le at p more (omega arith)) ∙ little_from-append w (drop at p) more (omega (arith, length-drop at p))

pub header_before : (p more : List ℕ) → 12 ≤ length p → header_at (p ++ more) ≡ header_at p
unfolding header_at
header_before p more long = rw (field_before 4 0 p more (omega arith), field_before 4 4 p more (omega arith), field_before 4 8 p more (omega arith)) refl
