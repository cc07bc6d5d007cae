-- A message's payload: what is read is that message's, and what is that message's is read again.
use Rattle.std.proofs.Common.{◌≡◌, ℕ, ◌+◌, ◌*◌, ◌-◌, ◌/◌, ◌%◌, ◌^◌, ◌<◌, ◌≤◌, Bool, true, false, cond, List, [], ◌∷◌, ◌++◌, length, take, drop, Option, Some, refl, sym, ap, ◌∙◌, inl, inr, arith, length-append, length-drop, length-take}
use Rattle.std.specs.Prelude.{◌==◌}
use Rattle.std.specs.List.{flat_map, AllByRecursion}
use Rattle.std.proofs.lemmas.Bool.{cases_Bool}
use Rattle.std.proofs.lemmas.Bool.Decides.{nat_tests}
use Rattle.std.proofs.Math.Seq.{drop-append_seam}
use Rattle.std.proofs.lemmas.List.{take-append-drop, drop-drop}
use Rattle.vub_base.specs.Fields.{field}
use Rattle.vub_memtable.specs.declared.region.Region.{Region}
use Rattle.vub_wire.specs.declared.numbers.TheConstants.{GET_CONFIG, GET_FEATURES, GET_INFLIGHT_FD, GET_PROTOCOL_FEATURES, GET_QUEUE_NUM, GET_VRING_BASE, SET_CONFIG, SET_FEATURES, SET_INFLIGHT_FD, SET_MEM_TABLE, SET_OWNER, SET_PROTOCOL_FEATURES, SET_VRING_ADDR, SET_VRING_BASE, SET_VRING_CALL, SET_VRING_ENABLE, SET_VRING_ERR, SET_VRING_KICK, SET_VRING_NUM}
use Rattle.vub_wire.specs.declared.messages.Header.{Header}
use Rattle.vub_wire.specs.declared.messages.Config.{Config}
use Rattle.vub_wire.specs.declared.messages.Inflight.{Inflight}
use Rattle.vub_wire.specs.declared.messages.Message.{Message}
use Rattle.vub_wire.specs.declared.messages.Message.TheVariants as messages
use Rattle.vub_wire.specs.declared.requests.Request.{Request}
use Rattle.vub_wire.specs.declared.requests.Request.TheVariants as requests
use Rattle.vub_wire.specs.Requests.{request_at, is_config_size, is_inflight_size, has_size, allows}
use Rattle.vub_wire.specs.Grammar.{payload_bytes, AreFree, Fits, IsPayload, number_of, region_bytes, RegionFits, table_bytes, address_bytes, config_bytes, ConfigFits, inflight_bytes, InflightFits, tail_size}
use Rattle.vub_wire.specs.Faults.{carries_all}
use Rattle.vub_wire.specs.Reading.{regions_at, config_at, inflight_at, message_of, message_carried}
use Rattle.vub_wire.proofs.Fields.{AreBytes, field_fits, field_takes, field_again}
use Rattle.vub_wire.proofs.PayloadParts.{read, addresses_again, number_takes, pair_takes, addresses_take, config_takes, inflight_takes, regions_take, length_regions, regions_fit, number_again, pair_again, config_again, inflight_again, regions_again}

-- ---- the numbers of requests

abbrev pub number_in : Request → ℕ
number_in requests.GetFeatures = GET_FEATURES
number_in requests.SetFeatures = SET_FEATURES
number_in requests.SetOwner = SET_OWNER
number_in requests.SetMemTable = SET_MEM_TABLE
number_in requests.SetNum = SET_VRING_NUM
number_in requests.SetAddr = SET_VRING_ADDR
number_in requests.SetBase = SET_VRING_BASE
number_in requests.GetBase = GET_VRING_BASE
number_in requests.SetKick = SET_VRING_KICK
number_in requests.SetCall = SET_VRING_CALL
number_in requests.SetErr = SET_VRING_ERR
number_in requests.GetProtocol = GET_PROTOCOL_FEATURES
number_in requests.SetProtocol = SET_PROTOCOL_FEATURES
number_in requests.GetQueueNum = GET_QUEUE_NUM
number_in requests.SetEnable = SET_VRING_ENABLE
number_in requests.GetConfig = GET_CONFIG
number_in requests.SetConfig = SET_CONFIG
number_in requests.GetInflight = GET_INFLIGHT_FD
number_in requests.SetInflight = SET_INFLIGHT_FD

given : Request → Option Request
given r = Some r

-- one test of the table
step : (n k : ℕ) (r q : Request) (o : Option Request) → cond (n == k) (given r) o ≡ Some q → number_in r ≡ k → (o ≡ Some q → n ≡ number_in q) → n ≡ number_in q
unfolding given
step n k r q o e is rest = elim (cases_Bool (n == k)) [
  | inl equal ↦ let same : r ≡ q = grind (arith, nat_tests) in let here : n ≡ k = grind (arith, nat_tests) in here ∙ sym is ∙ ap number_in same
  | inr other ↦ rest (grind (arith, nat_tests))
]

pub request_takes : (n : ℕ) (r : Request) → request_at n ≡ Some r → n ≡ number_in r
unfolding request_at given
request_takes n r e =
    step n 1 _ r _ e refl (λ e. step n 2 _ r _ e refl (λ e. step n 3 _ r _ e refl (λ e. step n 5 _ r _ e refl (λ e. step n 8 _ r _ e refl (λ e.
    step n 9 _ r _ e refl (λ e. step n 10 _ r _ e refl (λ e. step n 11 _ r _ e refl (λ e. step n 12 _ r _ e refl (λ e. step n 13 _ r _ e refl (λ e.
    step n 14 _ r _ e refl (λ e. step n 15 _ r _ e refl (λ e. step n 16 _ r _ e refl (λ e. step n 17 _ r _ e refl (λ e. step n 18 _ r _ e refl (λ e.
    step n 24 _ r _ e refl (λ e. step n 25 _ r _ e refl (λ e. step n 31 _ r _ e refl (λ e. step n 32 _ r _ e refl (λ e. absurd cc)))))))))))))))))))

-- ---- payloads that are read

pub empty_is : (p : List ℕ) → (length p == 0) ≡ true → p ≡ []
empty_is [] e = refl
empty_is (x ∷ p) e = absurd (grind (arith, nat_tests))

pub long_of : (k : ℕ) (p : List ℕ) → (length p == k) ≡ true → length p ≡ k
long_of k p e = grind (arith, nat_tests)

-- a message without free bytes
abbrev plain : (m : Message) (p : List ℕ) → Fits m → AreFree m [] [] → p ≡ payload_bytes m [] [] → IsPayload m p
plain m p fits free is = record { padding = []; tail = []; fits = fits; free = free; is = is }

table_takes : (p : List ℕ) → has_size requests.SetMemTable (length p) ≡ true → carries_all (Some requests.SetMemTable) p ≡ true → AreBytes p → IsPayload (message_of requests.SetMemTable p) p
unfolding table_bytes
table_takes p size whole b =
    let count : ℕ = field 4 0 p in
    let low : 8 ≤ length p = grind (arith, nat_tests) in
    let even : (length p - 8) % 32 ≡ 0 = grind (arith, nat_tests) in
    let few : (length p - 8) / 32 ≤ 127 = grind (arith, nat_tests) in
    let all : 8 + 32 * count ≤ length p = grind (arith, nat_tests) in
    let tail : List ℕ = drop (8 + 32 * count) p in
    let more : ℕ = (length p - 8) / 32 - count in
    let behind : drop 4 p ≡ take 4 (drop 4 p) ++ (flat_map region_bytes (regions_at count p) ++ tail) =
    sym (take-append-drop 4 (drop 4 p)) ∙ ap (λ (l : List ℕ). take 4 (drop 4 p) ++ l) (drop-drop 4 4 p ∙ regions_take count p tail all b refl) in
    record {
      padding = take 4 (drop 4 p);
      tail = tail;
      fits = (regions_fit count p b, omega (arith, length_regions count p));
      free = (omega (arith, length-take 4 (drop 4 p), length-drop 4 p), (more, omega (arith, length-drop (8 + 32 * count) p), omega (arith, length_regions count p)));
      is = field_takes 4 0 p _ (omega arith) b behind ∙ rw (length_regions count p) refl;
    }

pub config_found : (p : List ℕ) → is_config_size (length p) ≡ true → AreBytes p → ConfigFits (config_at p) × (p ≡ config_bytes (config_at p))
unfolding config_at
config_found p size b =
    let low : 12 ≤ length p = grind (arith, nat_tests) in
    let high : length p ≤ 268 = grind (arith, nat_tests) in
    ((field_fits 4 0 p b, field_fits 4 4 p b, field_fits 4 8 p b, omega (arith, length-drop 12 p)), config_takes p low b)

tail_of : (p : List ℕ) → is_inflight_size (length p) ≡ true → length (drop 20 p) ≡ tail_size (length p == 24)
tail_of p size = elim (cases_Bool (length p == 24)) [
  | inl long ↦ rw long (grind (arith, nat_tests, length-drop 20 p))
  | inr short ↦ rw short (grind (arith, nat_tests, length-drop 20 p))
]

pub inflight_found : (p : List ℕ) → is_inflight_size (length p) ≡ true → AreBytes p → InflightFits (inflight_at p) × (length (drop 20 p) ≡ tail_size (inflight_at p).long) × (p ≡ inflight_bytes (inflight_at p) (drop 20 p))
unfolding inflight_at
inflight_found p size b =
    let low : 20 ≤ length p = grind (arith, nat_tests) in
    ((field_fits 8 0 p b, field_fits 8 8 p b, field_fits 2 16 p b, field_fits 2 18 p b), tail_of p size, inflight_takes p low b)

-- a pair's numbers fit
abbrev pair_fits : (p : List ℕ) → AreBytes p → (field 4 0 p < 2 ^ 32) × (field 4 4 p < 2 ^ 32)
pair_fits p b = (field_fits 4 0 p b, field_fits 4 4 p b)

pub payload_takes : (r : Request) (p : List ℕ) → has_size r (length p) ≡ true → carries_all (Some r) p ≡ true → AreBytes p → IsPayload (message_of r p) p × (number_of (message_of r p) ≡ number_in r)
payload_takes requests.GetFeatures p size whole b = (plain _ p tt (refl, refl) (empty_is p size), refl)
payload_takes requests.SetFeatures p size whole b = (plain _ p (field_fits 8 0 p b) (refl, refl) (number_takes p (long_of 8 p size) b), refl)
payload_takes requests.SetOwner p size whole b = (plain _ p tt (refl, refl) (empty_is p size), refl)
payload_takes requests.SetMemTable p size whole b = (table_takes p size whole b, refl)
payload_takes requests.SetNum p size whole b = (plain _ p (pair_fits p b) (refl, refl) (pair_takes p (long_of 8 p size) b), refl)
payload_takes requests.SetAddr p size whole b =
    (plain _ p (field_fits 4 0 p b, field_fits 4 4 p b, field_fits 8 8 p b, field_fits 8 16 p b, field_fits 8 24 p b, field_fits 8 32 p b) (refl, refl) (addresses_take p (long_of 40 p size) b), refl)
payload_takes requests.SetBase p size whole b = (plain _ p (pair_fits p b) (refl, refl) (pair_takes p (long_of 8 p size) b), refl)
payload_takes requests.GetBase p size whole b = (plain _ p (pair_fits p b) (refl, refl) (pair_takes p (long_of 8 p size) b), refl)
payload_takes requests.SetKick p size whole b = (plain _ p (field_fits 8 0 p b) (refl, refl) (number_takes p (long_of 8 p size) b), refl)
payload_takes requests.SetCall p size whole b = (plain _ p (field_fits 8 0 p b) (refl, refl) (number_takes p (long_of 8 p size) b), refl)
payload_takes requests.SetErr p size whole b = (plain _ p (field_fits 8 0 p b) (refl, refl) (number_takes p (long_of 8 p size) b), refl)
payload_takes requests.GetProtocol p size whole b = (plain _ p tt (refl, refl) (empty_is p size), refl)
payload_takes requests.SetProtocol p size whole b = (plain _ p (field_fits 8 0 p b) (refl, refl) (number_takes p (long_of 8 p size) b), refl)
payload_takes requests.GetQueueNum p size whole b = (plain _ p tt (refl, refl) (empty_is p size), refl)
payload_takes requests.SetEnable p size whole b = (plain _ p (pair_fits p b) (refl, refl) (pair_takes p (long_of 8 p size) b), refl)
payload_takes requests.GetConfig p size whole b = let c = config_found p size b in (plain _ p c.0 (refl, refl) c.1, refl)
payload_takes requests.SetConfig p size whole b = let c = config_found p size b in (plain _ p c.0 (refl, refl) c.1, refl)
payload_takes requests.GetInflight p size whole b = let i = inflight_found p size b in (record { padding = []; tail = drop 20 p; fits = i.0; free = (refl, i.1); is = i.2 }, refl)
payload_takes requests.SetInflight p size whole b = let i = inflight_found p size b in (record { padding = []; tail = drop 20 p; fits = i.0; free = (refl, i.1); is = i.2 }, refl)

-- ---- payloads that were written

pub length_regions_bytes : (rs : List Region) → length (flat_map region_bytes rs) ≡ 32 * length rs
unfolding region_bytes
length_regions_bytes [] = refl
length_regions_bytes (r ∷ rs) = let e = length_regions_bytes rs in omega (arith, e, length-append (region_bytes r) (flat_map region_bytes rs))

table_again : (rs : List Region) (padding tail : List ℕ) (more : ℕ) → AllByRecursion RegionFits rs → length padding ≡ 4 → length tail ≡ 32 * more → length rs + more ≤ 127
    → (has_size requests.SetMemTable (length (table_bytes rs padding tail)) ≡ true) × (carries_all (Some requests.SetMemTable) (table_bytes rs padding tail) ≡ true)
    × (regions_at (field 4 0 (table_bytes rs padding tail)) (table_bytes rs padding tail) ≡ rs)
unfolding table_bytes
table_again rs padding tail more fits pad extra few =
    let p : List ℕ = table_bytes rs padding tail in
    let carried : length (flat_map region_bytes rs ++ tail) ≡ 32 * (length rs + more) = omega (arith, length_regions_bytes rs, length-append (flat_map region_bytes rs) tail, extra) in
    let long : length p ≡ 8 + 32 * (length rs + more) = omega (arith, length-append padding (flat_map region_bytes rs ++ tail), carried, pad) in
    let count : field 4 0 p ≡ length rs = field_again 4 0 (length rs) p _ refl (omega (arith, few)) in
    let behind : drop 8 p ≡ flat_map region_bytes rs ++ tail = sym (drop-drop 4 4 p) ∙ ap (λ (n : ℕ). drop n (padding ++ (flat_map region_bytes rs ++ tail))) (sym pad) ∙ drop-append_seam padding (flat_map region_bytes rs ++ tail) in
    (grind (arith, nat_tests, long, few), grind (arith, nat_tests, long, count), rw count (regions_again rs p tail fits behind))

config_size : (c : Config) → ConfigFits c → is_config_size (length (config_bytes c)) ≡ true
unfolding config_bytes
config_size c fits = let few : length c.bytes.items ≤ 256 = fits.3 in grind (arith, nat_tests)

size_is : (b : Bool) (n : ℕ) → n ≡ tail_size b → is_inflight_size (20 + n) ≡ true
size_is true n e = rw e refl
size_is false n e = rw e refl

pub inflight_size : (x : Inflight) (tail : List ℕ) → length tail ≡ tail_size x.long → is_inflight_size (length (inflight_bytes x tail)) ≡ true
unfolding inflight_bytes
inflight_size x tail free =
    let long : length (inflight_bytes x tail) ≡ 20 + length tail = omega arith in
    rw long (size_is x.long (length tail) free)

pub payload_again : (h : Header) (m : Message) (padding tail : List ℕ) → Fits m → AreFree m padding tail → h.request ≡ number_of m
    → (allows (request_at (number_of m)) (length (payload_bytes m padding tail)) ≡ true) × (message_carried h (request_at (number_of m)) (payload_bytes m padding tail) ≡ read m)
unfolding message_carried request_at address_bytes
payload_again h messages.GetFeatures padding tail fits free is = (refl, refl)
payload_again h (messages.SetFeatures n) padding tail fits free is = (refl, ap (λ (x : ℕ). read (messages.SetFeatures x)) (number_again n fits))
payload_again h messages.SetOwner padding tail fits free is = (refl, refl)
payload_again h (messages.SetMemTable rs) padding tail fits free is =
    let t = table_again rs.items padding tail free.1.0 fits.0 free.0 free.1.1 free.1.2 in (t.0, rw (t.1, t.2) refl)
payload_again h (messages.SetNum index num) padding tail fits free is = let p = pair_again index num fits.0 fits.1 in (refl, rw (p.0, p.1) refl)
payload_again h (messages.SetAddr index flags desc used avail log) padding tail fits free is =
    (refl, addresses_again index flags desc used avail log fits.0 fits.1 fits.2 fits.3 fits.4 fits.5)
payload_again h (messages.SetBase index num) padding tail fits free is = let p = pair_again index num fits.0 fits.1 in (refl, rw (p.0, p.1) refl)
payload_again h (messages.GetBase index num) padding tail fits free is = let p = pair_again index num fits.0 fits.1 in (refl, rw (p.0, p.1) refl)
payload_again h (messages.SetKick n) padding tail fits free is = (refl, ap (λ (x : ℕ). read (messages.SetKick x)) (number_again n fits))
payload_again h (messages.SetCall n) padding tail fits free is = (refl, ap (λ (x : ℕ). read (messages.SetCall x)) (number_again n fits))
payload_again h (messages.SetErr n) padding tail fits free is = (refl, ap (λ (x : ℕ). read (messages.SetErr x)) (number_again n fits))
payload_again h messages.GetProtocol padding tail fits free is = (refl, refl)
payload_again h (messages.SetProtocol n) padding tail fits free is = (refl, ap (λ (x : ℕ). read (messages.SetProtocol x)) (number_again n fits))
payload_again h messages.GetQueueNum padding tail fits free is = (refl, refl)
payload_again h (messages.SetEnable index num) padding tail fits free is = let p = pair_again index num fits.0 fits.1 in (refl, rw (p.0, p.1) refl)
payload_again h (messages.GetConfig c) padding tail fits free is = (config_size c fits, ap (λ (x : Config). read (messages.GetConfig x)) (config_again c fits))
payload_again h (messages.SetConfig c) padding tail fits free is = (config_size c fits, ap (λ (x : Config). read (messages.SetConfig x)) (config_again c fits))
payload_again h (messages.GetInflight x) padding tail fits free is = (inflight_size x tail free.1, ap (λ (y : Inflight). read (messages.GetInflight y)) (inflight_again x tail fits free.1))
payload_again h (messages.SetInflight x) padding tail fits free is = (inflight_size x tail free.1, ap (λ (y : Inflight). read (messages.SetInflight y)) (inflight_again x tail fits free.1))
payload_again h (messages.Other n) padding tail fits free is = rw fits.1 (refl, ap (λ (x : ℕ). read (messages.Other x)) is)
