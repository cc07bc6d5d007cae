use Rattle.std.proofs.Common.{◌≡◌, ◌<◌, ℕ, ◌+◌, ◌-◌, ◌*◌, ◌/◌, ◌^◌, List, [], ◌∷◌, ◌++◌, length, refl, arith}
use Rattle.std.specs.Prelude.{Bool, true, false, nat_lt, ◌&&◌, ◌||◌, if◌then◌else◌, Some, None, flat_map, replicate, take}
use Rattle.std.specs.List.{list_any}
use Rattle.std.proofs.Math.Nat.{mul-div_cancel_left, mul-mod_right}
use Rattle.std.proofs.lemmas.Bool.Decides.{nat_tests}
use Rattle.std.proofs.lemmas.List.{length-replicate, length-append}
use Rattle.byteorder.specs.Endian.{little_bytes, little_number}
use Rattle.byteorder.specs.Numbers.{little_number-reads_back}
use Rattle.arrayvec.specs.ArrayVec.{ArrayVec}
use Rattle.vub_base.specs.declared.header.CacheMode.{CacheMode}
use Rattle.vub_base.specs.declared.header.CacheMode.TheVariants.{Back, Through, ReadOnly}
use Rattle.vub_base.specs.declared.request.Part.{Part}
use Rattle.vub_base.specs.declared.request.Ask.{Ask}
use Rattle.vub_base.specs.declared.request.Ask.TheVariants as asks
use Rattle.vub_blkreq.specs.declared.request.DeviceMode.{DeviceMode}
use Rattle.vub_blkreq.specs.declared.request.Request.{Request}
use Rattle.vub_blkreq.specs.declared.request.Request.TheVariants.{Read, Write, Discard, Zero, Fixed}
use Rattle.vub_blkreq.specs.declared.request_type.RequestType.TheVariants as types
use Rattle.vub_blkreq.specs.Requests.{Given, meaning, is_torn, is_outside, is_parts_size, has_flags_above, type_of, parts_given, readable_data, row, first_row, io_error}
use Rattle.vub_device.specs.Requests.{request_of}
use Rattle.vub_blkreq_laws.specs.Meanings.{IsLaidOut, AreParts, readable_bytes, mode_of, given, request_to, unless_refused}
use Rattle.vub_blkreq_laws.proofs.Parts.{parts_back}

pub whole : (n : ℕ) → is_torn (512 * n) ≡ false
whole n = rw (mul-mod_right 512 n)

pub quotient : (n : ℕ) → 512 * n / 512 ≡ n
quotient n = mul-div_cancel_left n (omega arith)

pub refused_if : (b : Bool) (status : ℕ) (r : Request) → unless_refused (if b then Some status else None) r ≡ (if b then Fixed status else r)
refused_if true status r = refl
refused_if false status r = refl

pub refused_ifs : (b b' : Bool) (r : Request) → unless_refused (if b then Some 2 else if b' then Some 1 else None) r ≡ (if b then Fixed 2 else if b' then Fixed 1 else r)
refused_ifs true b' r = refl
refused_ifs false b' r = refused_if b' 1 r

pub flush_means : (capacity : ℕ) (mode : CacheMode) → meaning (mode_of capacity mode) (given asks.Flush) ≡ request_to capacity mode (request_of asks.Flush)
flush_means capacity Back = refl
flush_means capacity Through = refl
flush_means capacity ReadOnly = refl

pub id_means : (capacity : ℕ) (mode : CacheMode) → meaning (mode_of capacity mode) (given asks.Id) ≡ request_to capacity mode (request_of asks.Id)
id_means capacity Back = refl
id_means capacity Through = refl
id_means capacity ReadOnly = refl

-- the rows of a read, where its sector and its length are what they are
pub read_rows : (capacity s n s' len : ℕ) → s' ≡ s → len ≡ 512 * n
    → first_row (row (is_torn len) io_error ∷ row (nat_lt capacity (s' + len / 512)) io_error ∷ []) (Read s' (len / 512))
    ≡ unless_refused (if nat_lt capacity (s + n) then Some 1 else None) (Read s n)
read_rows capacity s n s' len is is' = rw (is, is', whole n, quotient n, refused_if)

pub read_means : (capacity : ℕ) (mode : CacheMode) (s n : ℕ) → s < 2 ^ 64 → meaning (mode_of capacity mode) (given (asks.Read s n)) ≡ request_to capacity mode (request_of (asks.Read s n))
read_means capacity Back s n fits = read_rows capacity s n _ _ (little_number-reads_back 8 s [] fits) (omega arith)
read_means capacity Through s n fits = read_rows capacity s n _ _ (little_number-reads_back 8 s [] fits) (omega arith)
read_means capacity ReadOnly s n fits = read_rows capacity s n _ _ (little_number-reads_back 8 s [] fits) (omega arith)

-- the rows of a discard and of a zeroing
pub discard_rows : (m : DeviceMode) (g : Given) (parts : List Part) → m.discard ≡ true → nat_lt g.readable 16 ≡ false → type_of g ≡ Some types.Discard → is_parts_size (readable_data g) ≡ true → parts_given g ≡ parts
    → meaning m g ≡ (if m.read_only && true then io_error else unless_refused (if list_any (has_flags_above 0) parts then Some 2 else if list_any (is_outside m.capacity) parts then Some 1 else None) (Discard (record { items = parts })))
discard_rows m g parts on long kind len same = rw (long, kind, on, len, same, refused_ifs)

pub zero_rows : (m : DeviceMode) (g : Given) (parts : List Part) → m.write_zeroes ≡ true → nat_lt g.readable 16 ≡ false → type_of g ≡ Some types.WriteZeroes → is_parts_size (readable_data g) ≡ true → parts_given g ≡ parts
    → meaning m g ≡ (if m.read_only && true then io_error else unless_refused (if list_any (has_flags_above 1) parts then Some 2 else if list_any (is_outside m.capacity) parts then Some 1 else None) (Zero (record { items = parts })))
zero_rows m g parts on long kind len same = rw (long, kind, on, len, same, refused_ifs)

pub discard_means : (capacity : ℕ) (mode : CacheMode) (parts : ArrayVec Part) → AreParts parts.items → meaning (mode_of capacity mode) (given (asks.Discard parts)) ≡ request_to capacity mode (request_of (asks.Discard parts))
discard_means capacity Back parts laid = let read = parts_back 11 parts.items laid in discard_rows (mode_of capacity Back) (given (asks.Discard parts)) parts.items refl read.long refl read.whole read.same
discard_means capacity Through parts laid = let read = parts_back 11 parts.items laid in discard_rows (mode_of capacity Through) (given (asks.Discard parts)) parts.items refl read.long refl read.whole read.same
discard_means capacity ReadOnly parts laid = let read = parts_back 11 parts.items laid in discard_rows (mode_of capacity ReadOnly) (given (asks.Discard parts)) parts.items refl read.long refl read.whole read.same

pub zero_means : (capacity : ℕ) (mode : CacheMode) (parts : ArrayVec Part) → AreParts parts.items → meaning (mode_of capacity mode) (given (asks.Zero parts)) ≡ request_to capacity mode (request_of (asks.Zero parts))
zero_means capacity Back parts laid = let read = parts_back 13 parts.items laid in zero_rows (mode_of capacity Back) (given (asks.Zero parts)) parts.items refl read.long refl read.whole read.same
zero_means capacity Through parts laid = let read = parts_back 13 parts.items laid in zero_rows (mode_of capacity Through) (given (asks.Zero parts)) parts.items refl read.long refl read.whole read.same
zero_means capacity ReadOnly parts laid = let read = parts_back 13 parts.items laid in zero_rows (mode_of capacity ReadOnly) (given (asks.Zero parts)) parts.items refl read.long refl read.whole read.same

-- as many bytes for each fill
pub length-fills : (fills : List ℕ) → length (flat_map (λ b. replicate 512 b) fills) ≡ 512 * length fills
length-fills [] = refl
length-fills (b ∷ fills) =
    let rest : length (flat_map (λ b. replicate 512 b) fills) ≡ 512 * length fills = length-fills fills in
    omega (arith, length-append (replicate 512 b) (flat_map (λ b. replicate 512 b) fills), length-replicate 512 b, rest)

pub either : (a b : Bool) (r : Request) → (if a && true then io_error else if b then io_error else r) ≡ (if a || b then io_error else r)
either true b r = refl
either false b r = refl

pub write_rows : (read_only : Bool) (capacity s n s' readable bytes : ℕ) → s' ≡ s → bytes ≡ 512 * n → readable ≡ 16 + bytes
    → (if nat_lt readable 16 then io_error else if read_only && true then io_error else first_row (row (is_torn (readable - 16)) io_error ∷ row (nat_lt capacity (s' + (readable - 16) / 512)) io_error ∷ []) (Write s' ((readable - 16) / 512)))
    ≡ unless_refused (if read_only || nat_lt capacity (s + bytes / 512) then Some 1 else None) (Write s (bytes / 512))
write_rows read_only capacity s n s' readable bytes is is' is'' =
    let long : nat_lt readable 16 ≡ false = grind (arith, nat_tests) in
    let behind : readable - 16 ≡ 512 * n = omega arith in
    rw (long, behind, is, is', whole n, quotient n, refused_if) (either read_only (nat_lt capacity (s + n)) (Write s n))

pub write_means : (capacity : ℕ) (mode : CacheMode) (s : ℕ) (fills : ArrayVec ℕ) → s < 2 ^ 64 → meaning (mode_of capacity mode) (given (asks.Write s fills)) ≡ request_to capacity mode (request_of (asks.Write s fills))
write_means capacity mode s fills fits =
    let bytes : List ℕ = flat_map (λ b. replicate 512 b) fills.items in
    let many : length bytes ≡ 512 * length fills.items = length-fills fills.items in
    let first : little_number 8 (little_bytes 8 s ++ take 64 bytes) ≡ s = little_number-reads_back 8 s (take 64 bytes) fits in
    elim mode as (λ mode. meaning (mode_of capacity mode) (given (asks.Write s fills)) ≡ request_to capacity mode (request_of (asks.Write s fills))) [
      | Back ↦ write_rows false capacity s (length fills.items) (little_number 8 (little_bytes 8 s ++ take 64 bytes)) (length (readable_bytes (asks.Write s fills))) (length bytes) first many (omega arith)
      | Through ↦ write_rows false capacity s (length fills.items) (little_number 8 (little_bytes 8 s ++ take 64 bytes)) (length (readable_bytes (asks.Write s fills))) (length bytes) first many (omega arith)
      | ReadOnly ↦ write_rows true capacity s (length fills.items) (little_number 8 (little_bytes 8 s ++ take 64 bytes)) (length (readable_bytes (asks.Write s fills))) (length bytes) first many (omega arith)
    ]

-- the bytes of each request mean it
pub bytes_mean : (capacity : ℕ) (mode : CacheMode) (ask : Ask) → IsLaidOut ask → meaning (mode_of capacity mode) (given ask) ≡ request_to capacity mode (request_of ask)
bytes_mean capacity mode (asks.Read s n) laid = read_means capacity mode s n laid
bytes_mean capacity mode (asks.Write s fills) laid = write_means capacity mode s fills laid
bytes_mean capacity mode asks.Flush laid = flush_means capacity mode
bytes_mean capacity mode asks.Id laid = id_means capacity mode
bytes_mean capacity mode (asks.Discard parts) laid = discard_means capacity mode parts laid
bytes_mean capacity mode (asks.Zero parts) laid = zero_means capacity mode parts laid
