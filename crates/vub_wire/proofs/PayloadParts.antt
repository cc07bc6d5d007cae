-- Parts of payloads: what is read is what stands there, and what stands there is read again.
use Rattle.std.proofs.Common.{◌≡◌, ℕ, zero, suc, ◌+◌, ◌*◌, ◌^◌, ◌<◌, ◌≤◌, Bool, true, false, List, [], ◌∷◌, ◌++◌, length, drop, refl, sym, ap, ◌∙◌, arith, append_assoc, length-append}
use Rattle.std.specs.List.{flat_map, AllByRecursion}
use Rattle.std.proofs.lemmas.Grind.{flat_map-append}
use Rattle.std.proofs.lemmas.List.{append-nil, drop-drop, drop_all}
use Rattle.byteorder.specs.Endian.{little_bytes}
use Rattle.vub_base.specs.Fields.{field}
use Rattle.vub_memtable.specs.declared.region.Region.{Region}
use Rattle.std.specs.Prelude.{◌==◌, Result, Ok}
use Rattle.vub_wire.specs.declared.fault.WireFault.{WireFault}
use Rattle.vub_wire.specs.declared.messages.Message.{Message}
use Rattle.vub_wire.specs.declared.messages.Message.TheVariants as messages
use Rattle.vub_wire.specs.declared.requests.Request.TheVariants.{SetAddr}
use Rattle.vub_wire.specs.declared.messages.Config.{Config}
use Rattle.vub_wire.specs.declared.messages.Inflight.{Inflight}
use Rattle.vub_wire.specs.Grammar.{pair_bytes, region_bytes, RegionFits, address_bytes, config_bytes, inflight_bytes, ConfigFits, InflightFits, tail_size}
use Rattle.vub_wire.specs.Reading.{message_of, region_at, regions_at, config_at, inflight_at}
use Rattle.vub_wire.proofs.Fields.{AreBytes, field_fits, field_takes, field_again}

-- the message that was read, of the type that readers answer
abbrev pub read : Message → Result Message WireFault
read m = Ok m

-- ---- what is read

-- the last field
pub last_takes : (w at : ℕ) (p : List ℕ) → at + w ≡ length p → AreBytes p → drop at p ≡ little_bytes w (field w at p)
last_takes w at p long fits = field_takes w at p [] (omega arith) fits (drop_all (at + w) p (omega arith)) ∙ append-nil (little_bytes w (field w at p))

pub number_takes : (p : List ℕ) → length p ≡ 8 → AreBytes p → p ≡ little_bytes 8 (field 8 0 p)
number_takes p long fits = last_takes 8 0 p (sym long) fits

pub pair_takes : (p : List ℕ) → length p ≡ 8 → AreBytes p → p ≡ pair_bytes (field 4 0 p) (field 4 4 p)
pair_takes p long fits = field_takes 4 0 p (little_bytes 4 (field 4 4 p)) (omega arith) fits (last_takes 4 4 p (sym long) fits)

pub addresses_take : (p : List ℕ) → length p ≡ 40 → AreBytes p → p ≡ address_bytes (field 4 0 p) (field 4 4 p) (field 8 8 p) (field 8 16 p) (field 8 24 p) (field 8 32 p)
unfolding address_bytes
addresses_take p long fits =
    field_takes 4 0 p _ (omega arith) fits (field_takes 4 4 p _ (omega arith) fits (field_takes 8 8 p _ (omega arith) fits
    (field_takes 8 16 p _ (omega arith) fits (field_takes 8 24 p _ (omega arith) fits (last_takes 8 32 p (sym long) fits)))))

pub config_takes : (p : List ℕ) → 12 ≤ length p → AreBytes p → p ≡ config_bytes (config_at p)
unfolding config_bytes config_at
config_takes p long fits = field_takes 4 0 p _ (omega arith) fits (field_takes 4 4 p _ (omega arith) fits (field_takes 4 8 p _ (omega arith) fits refl))

pub inflight_takes : (p : List ℕ) → 20 ≤ length p → AreBytes p → p ≡ inflight_bytes (inflight_at p) (drop 20 p)
unfolding inflight_bytes inflight_at
inflight_takes p long fits =
    field_takes 8 0 p _ (omega arith) fits (field_takes 8 8 p _ (omega arith) fits (field_takes 2 16 p _ (omega arith) fits (field_takes 2 18 p _ (omega arith) fits refl)))

region_takes : (at : ℕ) (p rest : List ℕ) → at + 32 ≤ length p → AreBytes p → drop (at + 32) p ≡ rest → drop at p ≡ region_bytes (region_at at p) ++ rest
unfolding region_bytes region_at
region_takes at p rest long fits e =
    let two : drop (at + 8 + 8) p ≡ drop (at + 16) p = ap (λ (n : ℕ). drop n p) (omega arith) in
    let three : drop (at + 16 + 8) p ≡ drop (at + 24) p = ap (λ (n : ℕ). drop n p) (omega arith) in
    let end : drop (at + 24 + 8) p ≡ drop (at + 32) p = ap (λ (n : ℕ). drop n p) (omega arith) in
    field_takes 8 at p _ (omega arith) fits (field_takes 8 (at + 8) p _ (omega arith) fits (two ∙ field_takes 8 (at + 16) p _ (omega arith) fits (three ∙ field_takes 8 (at + 24) p rest (omega arith) fits (end ∙ e))))

pub regions_take : (k : ℕ) (p rest : List ℕ) → 8 + 32 * k ≤ length p → AreBytes p → drop (8 + 32 * k) p ≡ rest → drop 8 p ≡ flat_map region_bytes (regions_at k p) ++ rest
regions_take zero p rest long fits e = e
regions_take (suc k) p rest long fits e =
    let r : Region = region_at (8 + 32 * k) p in
    let place : 8 + 32 * suc k ≡ (8 + 32 * k) + 32 = omega arith in
    let next : drop (8 + 32 * k) p ≡ region_bytes r ++ rest = region_takes (8 + 32 * k) p rest (omega arith) fits (ap (λ (n : ℕ). drop n p) (sym place) ∙ e) in
    let last : flat_map region_bytes (r ∷ []) ≡ region_bytes r = append-nil (region_bytes r) in
    regions_take k p (region_bytes r ++ rest) (omega arith) fits next
    ∙ sym (rw (flat_map-append region_bytes (regions_at k p) (r ∷ []), last, append_assoc) refl)

pub length_regions : (k : ℕ) (p : List ℕ) → length (regions_at k p) ≡ k
length_regions zero p = refl
length_regions (suc k) p = let e = length_regions k p in omega (arith, e, length-append (regions_at k p) (region_at (8 + 32 * k) p ∷ []))

region_fits : (at : ℕ) (p : List ℕ) → AreBytes p → RegionFits (region_at at p)
unfolding region_at
region_fits at p fits = (field_fits 8 at p fits, field_fits 8 (at + 8) p fits, field_fits 8 (at + 16) p fits, field_fits 8 (at + 24) p fits)

all_more : (P : Region → Type 0) (xs : List Region) (x : Region) → AllByRecursion P xs → P x → AllByRecursion P (xs ++ x ∷ [])
all_more P [] x all one = (one, tt)
all_more P (y ∷ xs) x all one = (all.0, all_more P xs x all.1 one)

pub regions_fit : (k : ℕ) (p : List ℕ) → AreBytes p → AllByRecursion RegionFits (regions_at k p)
regions_fit zero p fits = tt
regions_fit (suc k) p fits = all_more RegionFits (regions_at k p) (region_at (8 + 32 * k) p) (regions_fit k p fits) (region_fits (8 + 32 * k) p fits)

-- ---- what is written

pub pair_again : (index num : ℕ) → index < 2 ^ 32 → num < 2 ^ 32 → (field 4 0 (pair_bytes index num) ≡ index) × (field 4 4 (pair_bytes index num) ≡ num)
pair_again index num a b =
    let p : List ℕ = pair_bytes index num in
    (field_again 4 0 index p (little_bytes 4 num) refl a, field_again 4 4 num p [] (sym (append-nil (little_bytes 4 num))) b)

pub number_again : (n : ℕ) → n < 2 ^ 64 → field 8 0 (little_bytes 8 n) ≡ n
number_again n a = field_again 8 0 n (little_bytes 8 n) [] (sym (append-nil (little_bytes 8 n))) a

pub config_again : (c : Config) → ConfigFits c → config_at (config_bytes c) ≡ c
unfolding config_bytes config_at
config_again c fits =
    let p : List ℕ = config_bytes c in
    let a : field 4 0 p ≡ c.offset = field_again 4 0 c.offset p _ refl fits.0 in
    let b : field 4 4 p ≡ c.size = field_again 4 4 c.size p _ refl fits.1 in
    let d : field 4 8 p ≡ c.flags = field_again 4 8 c.flags p _ refl fits.2 in
    rw (a, b, d) refl

long_is : (b : Bool) (tail : List ℕ) → length tail ≡ tail_size b → (20 + length tail == 24) ≡ b
long_is true tail e = rw e refl
long_is false tail e = rw e refl

pub inflight_again : (x : Inflight) (tail : List ℕ) → InflightFits x → length tail ≡ tail_size x.long → inflight_at (inflight_bytes x tail) ≡ x
unfolding inflight_bytes inflight_at
inflight_again x tail fits free =
    let p : List ℕ = inflight_bytes x tail in
    let a : field 8 0 p ≡ x.size = field_again 8 0 x.size p _ refl fits.0 in
    let b : field 8 8 p ≡ x.offset = field_again 8 8 x.offset p _ refl fits.1 in
    let c : field 2 16 p ≡ x.queues = field_again 2 16 x.queues p _ refl fits.2 in
    let d : field 2 18 p ≡ x.queue_size = field_again 2 18 x.queue_size p _ refl fits.3 in
    let size : length p ≡ 20 + length tail = omega arith in
    let long : (length p == 24) ≡ x.long = ap (λ (n : ℕ). n == 24) size ∙ long_is x.long tail free in
    rw (a, b, c, d, long) refl

pub region_again : (at : ℕ) (r : Region) (p rest : List ℕ) → RegionFits r → drop at p ≡ region_bytes r ++ rest → region_at at p ≡ r
unfolding region_bytes region_at
region_again at r p rest fits e =
    let behind : (n : ℕ) (l : List ℕ) → drop n (region_bytes r ++ rest) ≡ l → drop (at + n) p ≡ l = λ n l same. sym (drop-drop n at p) ∙ ap (drop n) e ∙ same in
    let a : field 8 at p ≡ r.guest = field_again 8 at r.guest p _ e fits.0 in
    let b : field 8 (at + 8) p ≡ r.size = field_again 8 (at + 8) r.size p _ (behind 8 _ refl) fits.1 in
    let c : field 8 (at + 16) p ≡ r.user = field_again 8 (at + 16) r.user p _ (behind 16 _ refl) fits.2 in
    let d : field 8 (at + 24) p ≡ r.offset = field_again 8 (at + 24) r.offset p _ (behind 24 _ refl) fits.3 in
    rw (a, b, c, d) refl

past_region : (r : Region) (rest : List ℕ) → drop 32 (region_bytes r ++ rest) ≡ rest
unfolding region_bytes
past_region r rest = refl

-- the regions behind those that are read already
regions_go_on : (done rs : List Region) (p rest : List ℕ) → AllByRecursion RegionFits rs → regions_at (length done) p ≡ done
    → drop (8 + 32 * length done) p ≡ flat_map region_bytes rs ++ rest → regions_at (length done + length rs) p ≡ done ++ rs
regions_go_on done [] p rest fits are e = let none : length done + 0 ≡ length done = omega arith in ap (λ (n : ℕ). regions_at n p) none ∙ are ∙ sym (append-nil done)
regions_go_on done (r ∷ rs) p rest fits are e =
    let at : ℕ = 8 + 32 * length done in
    let here : region_at at p ≡ r = region_again at r p (flat_map region_bytes rs ++ rest) fits.0 (e ∙ append_assoc (region_bytes r) (flat_map region_bytes rs) rest) in
    let more : length (done ++ r ∷ []) ≡ suc (length done) = omega (arith, length-append done (r ∷ [])) in
    let next : regions_at (length (done ++ r ∷ [])) p ≡ done ++ r ∷ [] = ap (λ (n : ℕ). regions_at n p) more ∙ rw (are, here) refl in
    let place : 8 + 32 * length (done ++ r ∷ []) ≡ at + 32 = omega (arith, more) in
    let behind : drop (8 + 32 * length (done ++ r ∷ [])) p ≡ flat_map region_bytes rs ++ rest =
    ap (λ (n : ℕ). drop n p) place ∙ sym (drop-drop 32 at p) ∙ ap (drop 32) (e ∙ append_assoc (region_bytes r) (flat_map region_bytes rs) rest) ∙ past_region r (flat_map region_bytes rs ++ rest) in
    let count : length done + length (r ∷ rs) ≡ length (done ++ r ∷ []) + length rs = omega (arith, more) in
    ap (λ (n : ℕ). regions_at n p) count ∙ regions_go_on (done ++ r ∷ []) rs p rest fits.1 next behind ∙ append_assoc done (r ∷ []) rs

pub regions_again : (rs : List Region) (p rest : List ℕ) → AllByRecursion RegionFits rs → drop 8 p ≡ flat_map region_bytes rs ++ rest → regions_at (length rs) p ≡ rs
regions_again rs p rest fits e = let all : length rs ≡ 0 + length rs = omega arith in ap (λ (n : ℕ). regions_at n p) all ∙ regions_go_on [] rs p rest fits refl e

pub addresses_again : (index flags desc used avail log : ℕ) → index < 2 ^ 32 → flags < 2 ^ 32 → desc < 2 ^ 64 → used < 2 ^ 64 → avail < 2 ^ 64 → log < 2 ^ 64
    → read (message_of SetAddr (address_bytes index flags desc used avail log)) ≡ read (messages.SetAddr index flags desc used avail log)
unfolding address_bytes
addresses_again index flags desc used avail log a b c d e f =
    let p : List ℕ = address_bytes index flags desc used avail log in
    let one : field 4 0 p ≡ index = field_again 4 0 index p _ refl a in
    let two : field 4 4 p ≡ flags = field_again 4 4 flags p _ refl b in
    let three : field 8 8 p ≡ desc = field_again 8 8 desc p _ refl c in
    let four : field 8 16 p ≡ used = field_again 8 16 used p _ refl d in
    let five : field 8 24 p ≡ avail = field_again 8 24 avail p _ refl e in
    let six : field 8 32 p ≡ log = field_again 8 32 log p [] (sym (append-nil (little_bytes 8 log))) f in
    rw (one, two, three, four, five, six) refl
