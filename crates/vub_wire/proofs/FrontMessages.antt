-- The message at the front of the bytes.
use Rattle.std.proofs.Common.{◌≡◌, ℕ, zero, suc, ◌+◌, ◌^◌, ◌<◌, ◌≤◌, true, false, List, [], ◌∷◌, ◌++◌, length, take, drop, Option, Some, None, refl, sym, ap, subst, ◌∙◌, inl, inr, arith, append_assoc, length-append, length-drop, length-take}
use Rattle.std.specs.Prelude.{◌==◌, not, nat_lt, Result, Ok, Err, IfOk}
use Rattle.std.specs.Result.{result_err}
use Rattle.std.proofs.Math.Seq.{take-append_seam, take-append-add}
use Rattle.std.proofs.lemmas.Bool.{cases_Bool}
use Rattle.std.proofs.lemmas.Bool.Decides.{nat_tests}
use Rattle.vub_wire.specs.declared.fault.WireFault.{WireFault}
use Rattle.vub_wire.specs.declared.messages.Header.{Header}
use Rattle.vub_wire.specs.declared.messages.Message.{Message}
use Rattle.vub_wire.specs.declared.messages.Message.TheVariants as messages
use Rattle.vub_wire.specs.declared.requests.Request.{Request}
use Rattle.vub_wire.specs.Flags.{version, marks_reply}
use Rattle.vub_wire.specs.Requests.{request_at, allows}
use Rattle.vub_wire.specs.Grammar.{Fits, payload_bytes, IsPayload, IsMessage, number_of, header_bytes}
use Rattle.vub_wire.specs.Faults.{header_at, carries_all, fault_behind, message_fault}
use Rattle.vub_wire.specs.Reading.{Front, message_in, message_carried, message_behind, with_header, behind_header, checked_header, message_at}
use Rattle.vub_wire.proofs.Fields.{AreBytes, bytes_behind}
use Rattle.vub_wire.proofs.Headers.{good, good_is, passed, HeaderPasses, header_passes, header_takes, request_fits, flags_fit, header_read}
use Rattle.vub_wire.proofs.PayloadParts.{read}
use Rattle.vub_wire.proofs.Payloads.{request_takes, payload_takes, payload_again}

-- ---- what is read

pub bytes_before : (n : ℕ) (p : List ℕ) → AreBytes p → AreBytes (take n p)
bytes_before zero p fits i = omega arith
bytes_before (suc n) [] fits i = omega arith
bytes_before (suc n) (a ∷ p) fits zero = fits 0
bytes_before (suc n) (a ∷ p) fits (suc i) = bytes_before n p (λ k. fits (suc k)) i

-- what a body is read from
record Carries (h : Header) (m : Message) (p : List ℕ) : Type 0 where
  is : IsPayload m p
  number : h.request ≡ number_of m

message_takes_payload : (h : Header) (r : Option Request) (p : List ℕ) → request_at h.request ≡ r → h.request < 2 ^ 32 → allows r (length p) ≡ true → carries_all r p ≡ true → AreBytes p
    → Carries h (message_in h.request r p) p
message_takes_payload h None p known fits size whole b = record { is = record { padding = []; tail = p; fits = (fits, known); free = refl; is = refl }; number = refl }
message_takes_payload h (Some r) p known fits size whole b =
    let t = payload_takes r p size whole b in
    record { is = t.0; number = request_takes h.request r known ∙ sym t.1 }

body_takes : (h : Header) (r : Option Request) (p : List ℕ) (m : Message) → request_at h.request ≡ r → h.request < 2 ^ 32 → allows r (length p) ≡ true → AreBytes p → message_carried h r p ≡ read m → Carries h m p
unfolding message_carried
body_takes h r p m known fits size b e = elim (cases_Bool (carries_all r p)) [
  | inl whole ↦
      let same : message_in h.request r p ≡ m = good_is (message_in h.request r p) m (sym (rw whole refl) ∙ e) in
      subst (λ (x : Message). Carries h x p) same (message_takes_payload h r p known fits size whole b)
  | inr not_whole ↦ absurd (grind (arith, nat_tests))
]

record Behind (h : Header) (m : Message) (bytes : List ℕ) : Type 0 where
  carries : Carries h m (take h.size bytes)
  long : h.size ≤ length bytes

behind_takes : (h : Header) (bytes : List ℕ) (m : Message) → h.request < 2 ^ 32 → AreBytes bytes → message_behind h (request_at h.request) bytes ≡ read m → Behind h m bytes
unfolding message_behind
behind_takes h bytes m fits b e =
    let one = passed (not (allows (request_at h.request) h.size)) _ _ m e in
    let two = passed (nat_lt (length bytes) h.size) _ _ m one.1 in
    let allowed : allows (request_at h.request) h.size ≡ true = grind (arith, nat_tests, one.0) in
    let long : h.size ≤ length bytes = grind (arith, nat_tests, two.0) in
    let size : length (take h.size bytes) ≡ h.size = omega (arith, length-take h.size bytes) in
    let carries = body_takes h (request_at h.request) (take h.size bytes) m refl fits (rw size allowed) (bytes_before h.size bytes b) two.1 in
    record { carries = carries; long = long }

header_found : (h : Header) (o : Result Message WireFault) (x : Front) → with_header h o ≡ good x → (m : Message) × (o ≡ read m) × ((h, m, 12 + h.size) ≡ x)
header_found h (Ok m) x e = (m, refl, good_is (h, m, 12 + h.size) x e)
header_found h (Err f) x e = absurd cc

-- the header before what is read
header_is : (bytes : List ℕ) (o : Result Header WireFault) (x : Front) → behind_header bytes o ≡ good x
    → (h : Header) × (o ≡ good h) × (with_header h (message_behind h (request_at h.request) (drop 12 bytes)) ≡ good x)
header_is bytes (Ok h) x e = (h, refl, e)
header_is bytes (Err f) x e = absurd cc

-- what is read is a message at the front
pub record Takes (bytes : List ℕ) (x : Front) : Type 0 where
  pub message : IsMessage (take x.2 bytes) x.0 x.1
  pub long : x.2 ≤ length bytes

found_at : (bytes : List ℕ) (h : Header) (m : Message) → AreBytes bytes → HeaderPasses false bytes h → Behind h m (drop 12 bytes) → Takes bytes (h, m, 12 + h.size)
found_at bytes h m b passes behind =
    let front : bytes ≡ header_bytes h ++ drop 12 bytes = header_takes bytes passes.long b ∙ ap (λ (k : Header). header_bytes k ++ drop 12 bytes) passes.is in
    record {
      message = record {
        payload = take h.size (drop 12 bytes);
        is = ap (take (12 + h.size)) front ∙ take-append-add (header_bytes h) (drop 12 bytes) h.size;
        request = behind.carries.number;
        size = omega (arith, length-take h.size (drop 12 bytes), behind.long);
        small = passes.small;
        flags = subst (λ (k : Header). k.flags < 2 ^ 32) passes.is (flags_fit bytes b);
        version_is = passes.version_is;
        no_reply = passes.bit;
        carries = behind.carries.is;
      };
      long = omega (arith, length-drop 12 bytes, behind.long, passes.long);
    }

pub message_takes : (bytes : List ℕ) (x : Front) → AreBytes bytes → message_at bytes ≡ good x → Takes bytes x
unfolding message_at
message_takes bytes x b e =
    let a = header_is bytes (checked_header false bytes) x e in
    let passes = header_passes false bytes a.0 a.1 in
    let found = header_found a.0 (message_behind a.0 (request_at a.0.request) (drop 12 bytes)) x a.2 in
    let fits : a.0.request < 2 ^ 32 = subst (λ (k : Header). k.request < 2 ^ 32) passes.is (request_fits bytes b) in
    subst (λ (y : Front). Takes bytes y) found.2 (found_at bytes a.0 found.0 b passes (behind_takes a.0 (drop 12 bytes) found.0 fits (bytes_behind 12 bytes b) found.1))

-- ---- what is written

number_fits : (m : Message) → Fits m → number_of m < 2 ^ 32
number_fits messages.GetFeatures fits = omega arith
number_fits (messages.SetFeatures n) fits = omega arith
number_fits messages.SetOwner fits = omega arith
number_fits (messages.SetMemTable rs) fits = omega arith
number_fits (messages.SetNum index num) fits = omega arith
number_fits (messages.SetAddr index flags desc used avail log) fits = omega arith
number_fits (messages.SetBase index num) fits = omega arith
number_fits (messages.GetBase index num) fits = omega arith
number_fits (messages.SetKick n) fits = omega arith
number_fits (messages.SetCall n) fits = omega arith
number_fits (messages.SetErr n) fits = omega arith
number_fits messages.GetProtocol fits = omega arith
number_fits (messages.SetProtocol n) fits = omega arith
number_fits messages.GetQueueNum fits = omega arith
number_fits (messages.SetEnable index num) fits = omega arith
number_fits (messages.GetConfig c) fits = omega arith
number_fits (messages.SetConfig c) fits = omega arith
number_fits (messages.GetInflight x) fits = omega arith
number_fits (messages.SetInflight x) fits = omega arith
number_fits (messages.Other n) fits = fits.0

record Reads (h : Header) (m : Message) (p : List ℕ) : Type 0 where
  allowed : allows (request_at h.request) (length p) ≡ true
  body : message_carried h (request_at h.request) p ≡ read m

body_again : (h : Header) (m : Message) (p : List ℕ) → IsPayload m p → h.request ≡ number_of m → Reads h m p
body_again h m p i number =
    let a = payload_again h m i.padding i.tail i.fits i.free number in
    let bytes : Reads h m (payload_bytes m i.padding i.tail) = record {
      allowed = ap (λ (n : ℕ). allows (request_at n) (length (payload_bytes m i.padding i.tail))) number ∙ a.0;
      body = ap (λ (n : ℕ). message_carried h (request_at n) (payload_bytes m i.padding i.tail)) number ∙ a.1;
    } in
    subst (λ (q : List ℕ). Reads h m q) (sym i.is) bytes

behind_again : (h : Header) (m : Message) (p rest : List ℕ) → Reads h m p → h.size ≡ length p → message_behind h (request_at h.request) (p ++ rest) ≡ read m
unfolding message_behind
behind_again h m p rest r size =
    let allowed : allows (request_at h.request) h.size ≡ true = ap (allows (request_at h.request)) size ∙ r.allowed in
    let long : nat_lt (length (p ++ rest)) h.size ≡ false = grind (arith, nat_tests, length-append p rest, size) in
    let front : take h.size (p ++ rest) ≡ p = ap (λ (n : ℕ). take n (p ++ rest)) size ∙ take-append_seam p rest in
    rw (allowed, long, front) r.body

pub message_again : (first rest : List ℕ) (h : Header) (m : Message) → IsMessage first h m → message_at (first ++ rest) ≡ good (h, m, length first)
unfolding message_at
message_again first rest h m is =
    let number : h.request < 2 ^ 32 = rw is.request (number_fits m is.carries.fits) in
    let grouped : first ++ rest ≡ header_bytes h ++ (is.payload ++ rest) = ap (λ (l : List ℕ). l ++ rest) is.is ∙ append_assoc (header_bytes h) is.payload rest in
    let header = header_read false h (is.payload ++ rest) number is.flags is.version_is is.no_reply is.small in
    let behind = behind_again h m is.payload rest (body_again h m is.payload is.carries is.request) is.size in
    let size : 12 + h.size ≡ length first = sym (ap length is.is ∙ omega (arith, length-append (header_bytes h) is.payload, is.size)) in
    ap message_at grouped ∙ rw (header, behind) (ap (λ (n : ℕ). good (h, m, n)) size)

-- ---- as a reader answers

pub found_of : (bytes : List ℕ) (o : Result Front WireFault) → AreBytes bytes → o ≡ message_at bytes → IfOk o (λ x. IsMessage (take x.2 bytes) x.0 x.1 × (x.2 ≤ length bytes))
found_of bytes (Ok x) b e = let t = message_takes bytes x b (sym e) in (t.message, t.long)
found_of bytes (Err f) b e = tt

pub only_of : (bytes : List ℕ) (o : Result Front WireFault) → o ≡ message_at bytes
    → (first rest : List ℕ) (h : Header) (m : Message) → IsMessage first h m → bytes ≡ first ++ rest → o ≡ good (h, m, length first)
only_of bytes o e first rest h m is whole = e ∙ ap message_at whole ∙ message_again first rest h m is

-- ---- the first fault

behind_fault : (h : Header) (bytes : List ℕ) → version h.flags ≡ 1 → marks_reply h.flags ≡ false → nat_lt 4096 h.size ≡ false
    → result_err (with_header h (message_behind h (request_at h.request) bytes)) ≡ fault_behind h bytes
unfolding message_behind message_carried fault_behind
behind_fault h bytes one none small = elim (cases_Bool (allows (request_at h.request) h.size)) [
  | inr refused ↦ rw (one, none, small, refused) refl
  | inl allowed ↦ elim (cases_Bool (nat_lt (length bytes) h.size)) [
    | inl short ↦ rw (one, none, small, allowed, short) refl
    | inr long ↦ elim (cases_Bool (carries_all (request_at h.request) (take h.size bytes))) [
      | inl whole ↦ rw (one, none, small, allowed, long, whole) refl
      | inr more ↦ rw (one, none, small, allowed, long, more) refl
    ]
  ]
]

pub first_fault : (bytes : List ℕ) → result_err (message_at bytes) ≡ message_fault bytes
unfolding message_at checked_header message_fault fault_behind
first_fault bytes = elim (cases_Bool (nat_lt (length bytes) 12)) [
  | inl short ↦ rw short refl
  | inr long ↦ elim (cases_Bool (version (header_at bytes).flags == 1)) [
    | inr other ↦ rw (long, other) refl
    | inl is ↦
        let one : version (header_at bytes).flags ≡ 1 = grind (arith, nat_tests) in
        elim (cases_Bool (marks_reply (header_at bytes).flags)) [
          | inl reply ↦ rw (long, is, reply) refl
          | inr none ↦ elim (cases_Bool (nat_lt 4096 (header_at bytes).size)) [
            | inl large ↦ rw (long, is, none, large) refl
            | inr small ↦ rw (long, is, none, small) (behind_fault (header_at bytes) (drop 12 bytes) one none small ∙ rw (is, none, small) refl)
          ]
        ]
  ]
]
