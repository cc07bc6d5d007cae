-- The reply at the front of the bytes, and the reply that was written.
use Rattle.std.proofs.Common.{◌≡◌, ℕ, ◌+◌, ◌^◌, ◌<◌, ◌≤◌, true, false, List, [], ◌++◌, length, take, drop, refl, sym, ap, subst, ◌∙◌, inl, inr, arith, append_assoc, length-append, length-drop, length-take}
use Rattle.std.specs.Prelude.{◌==◌, not, nat_lt, Result, Ok, Err, IfOk}
use Rattle.std.specs.Result.{result_err}
use Rattle.std.proofs.Math.Seq.{take-append_seam, take-append-add}
use Rattle.std.proofs.lemmas.Bool.{cases_Bool}
use Rattle.std.proofs.lemmas.Bool.Decides.{nat_tests}
use Rattle.vub_wire.specs.declared.fault.WireFault.{WireFault}
use Rattle.vub_wire.specs.declared.messages.Header.{Header}
use Rattle.vub_wire.specs.declared.messages.Config.{Config}
use Rattle.vub_wire.specs.declared.messages.Inflight.{Inflight}
use Rattle.vub_wire.specs.declared.messages.Reply.{Reply}
use Rattle.vub_wire.specs.declared.messages.ReplyBody.{ReplyBody}
use Rattle.vub_wire.specs.declared.messages.ReplyBody.TheVariants as bodies
use Rattle.vub_wire.specs.declared.replies.Kind.{Kind}
use Rattle.vub_wire.specs.declared.replies.Kind.TheVariants as kinds
use Rattle.vub_wire.specs.Flags.{version, marks_reply}
use Rattle.vub_wire.specs.Requests.{kind_at, has_reply_size, allows_reply}
use Rattle.vub_wire.specs.Grammar.{config_bytes, ConfigFits, inflight_bytes, tail_size, header_bytes}
use Rattle.vub_wire.specs.Faults.{header_at, reply_fault_behind, reply_fault}
use Rattle.vub_wire.specs.Reading.{checked_header, config_or_empty, body_at, reply_behind, reply_from, reply_at}
use Rattle.vub_wire.specs.Replies.{kind_of, body_bytes, BodyFits, IsFreeTail, reply_header, IsReply, reply_tail, reply_bytes}
use Rattle.vub_wire.proofs.Fields.{AreBytes, bytes_behind, field_fits}
use Rattle.vub_wire.proofs.PayloadParts.{number_takes, pair_takes, number_again, pair_again, config_again, inflight_again}
use Rattle.vub_wire.proofs.Payloads.{empty_is, long_of, config_found, inflight_found, inflight_size}
use Rattle.vub_wire.proofs.Headers.{good, good_is, passed, HeaderPasses, header_passes, header_takes, request_fits, flags_fit, header_read}
use Rattle.vub_wire.proofs.FrontMessages.{bytes_before}
use Rattle.vub_wire.proofs.WrittenMessages.{tail_long, tail_few}

-- ---- what is read

-- a body with its free tail
record IsBody (b : ReplyBody) (p : List ℕ) : Type 0 where
  tail : List ℕ
  is : p ≡ body_bytes b tail
  fits : BodyFits b
  free : IsFreeTail b tail

config_takes : (p : List ℕ) → has_reply_size kinds.Config (length p) ≡ true → AreBytes p → IsBody (config_or_empty p) p × (kind_of (config_or_empty p) ≡ kinds.Config)
config_takes p size b = elim (cases_Bool (length p == 0)) [
  | inl none ↦ rw none (record { tail = []; is = empty_is p none; fits = tt; free = refl }, refl)
  | inr some ↦
      let c = config_found p (grind (arith, nat_tests)) b in
      rw some (record { tail = []; is = c.1; fits = c.0; free = refl }, refl)
]

body_takes : (k : Kind) (p : List ℕ) → has_reply_size k (length p) ≡ true → AreBytes p → IsBody (body_at k p) p × (kind_of (body_at k p) ≡ k)
body_takes kinds.Number p size b = (record { tail = []; is = number_takes p (long_of 8 p size) b; fits = field_fits 8 0 p b; free = refl }, refl)
body_takes kinds.State p size b = (record { tail = []; is = pair_takes p (long_of 8 p size) b; fits = (field_fits 4 0 p b, field_fits 4 4 p b); free = refl }, refl)
body_takes kinds.Config p size b = config_takes p size b
body_takes kinds.Inflight p size b = let i = inflight_found p size b in (record { tail = drop 20 p; is = i.2; fits = i.0; free = i.1 }, refl)

-- what is read is a reply at the front
pub record Takes (bytes : List ℕ) (x : Reply × ℕ) : Type 0 where
  pub reply : IsReply (take x.1 bytes) x.0
  pub long : x.1 ≤ length bytes

-- the header before what is read
header_is : (bytes : List ℕ) (o : Result Header WireFault) (x : Reply × ℕ) → reply_from bytes o ≡ good x → (h : Header) × (o ≡ good h) × (reply_behind h (drop 12 bytes) ≡ good x)
header_is bytes (Ok h) x e = (h, refl, e)
header_is bytes (Err f) x e = absurd cc

record Behind (h : Header) (bytes : List ℕ) (x : Reply × ℕ) : Type 0 where
  sized : allows_reply h.request h.size ≡ true
  long : h.size ≤ length bytes
  is : (record { request = h.request; body = body_at (kind_at h.request) (take h.size bytes) }, 12 + h.size) ≡ x

behind_takes : (h : Header) (bytes : List ℕ) (x : Reply × ℕ) → reply_behind h bytes ≡ good x → Behind h bytes x
unfolding reply_behind
behind_takes h bytes x e =
    let one = passed (not (allows_reply h.request h.size)) _ _ x e in
    let two = passed (nat_lt (length bytes) h.size) _ _ x one.1 in
    record { sized = grind (arith, nat_tests, one.0); long = grind (arith, nat_tests, two.0); is = good_is _ x two.1 }

found_at : (bytes : List ℕ) (h : Header) (x : Reply × ℕ) → AreBytes bytes → HeaderPasses true bytes h → Behind h (drop 12 bytes) x → Takes bytes x
found_at bytes h x b passes behind =
    let rest : List ℕ = drop 12 bytes in
    let payload : List ℕ = take h.size rest in
    let size : length payload ≡ h.size = omega (arith, length-take h.size rest, behind.long) in
    let body = body_takes (kind_at h.request) payload (rw size behind.sized) (bytes_before h.size rest (bytes_behind 12 bytes b)) in
    let made : List ℕ = body_bytes (body_at (kind_at h.request) payload) body.0.tail in
    let e : bytes ≡ header_bytes h ++ rest = header_takes bytes passes.long b ∙ ap (λ (k : Header). header_bytes k ++ rest) passes.is in
    let front : take (12 + h.size) bytes ≡ header_bytes h ++ payload = ap (take (12 + h.size)) e ∙ take-append-add (header_bytes h) rest h.size in
    let long : h.size ≡ length made = sym size ∙ ap length body.0.is in
    let head : header_bytes h ≡ header_bytes (reply_header h.request h.flags (length made)) = ap (λ (n : ℕ). header_bytes (reply_header h.request h.flags n)) long in
    subst (Takes bytes) behind.is (record {
      reply = record {
        flags = h.flags;
        tail = body.0.tail;
        is = front ∙ ap (λ (l : List ℕ). l ++ payload) head ∙ ap (λ (l : List ℕ). header_bytes (reply_header h.request h.flags (length made)) ++ l) body.0.is;
        request = subst (λ (k : Header). k.request < 2 ^ 32) passes.is (request_fits bytes b);
        flags_fit = subst (λ (k : Header). k.flags < 2 ^ 32) passes.is (flags_fit bytes b);
        version_is = passes.version_is;
        is_reply = passes.bit;
        kind = sym body.1;
        fits = body.0.fits;
        free = body.0.free;
      };
      long = omega (arith, length-drop 12 bytes, behind.long, passes.long);
    })

pub reply_takes : (bytes : List ℕ) (x : Reply × ℕ) → AreBytes bytes → reply_at bytes ≡ good x → Takes bytes x
unfolding reply_at
reply_takes bytes x b e =
    let a = header_is bytes (checked_header true bytes) x e in
    found_at bytes a.0 x b (header_passes true bytes a.0 a.1) (behind_takes a.0 (drop 12 bytes) x a.2)

-- ---- what is written

-- a body is read again, of a size that its kind has
record Reads (b : ReplyBody) (p : List ℕ) : Type 0 where
  body : body_at (kind_of b) p ≡ b
  sized : has_reply_size (kind_of b) (length p) ≡ true
  small : length p ≤ 4096

config_long : (c : Config) → length (config_bytes c) ≡ 12 + length c.bytes.items
unfolding config_bytes
config_long c = omega arith

-- a config's payload isn't empty
config_body : (c : Config) → ConfigFits c → Reads (bodies.Config c) (config_bytes c)
config_body c fits =
    let long : length (config_bytes c) ≡ 12 + length c.bytes.items = config_long c in
    let some : (length (config_bytes c) == 0) ≡ false = grind (arith, nat_tests) in
    let few : length c.bytes.items ≤ 256 = fits.3 in
    record { body = rw some (ap bodies.Config (config_again c fits)); sized = grind (arith, nat_tests, long, few); small = omega (arith, long, few) }

inflight_few : (x : Inflight) (tail : List ℕ) → length tail ≡ tail_size x.long → length (inflight_bytes x tail) ≤ 4096
unfolding inflight_bytes
inflight_few x tail free = omega (arith, free, tail_few x.long)

body_again : (b : ReplyBody) (tail : List ℕ) → BodyFits b → IsFreeTail b tail → Reads b (body_bytes b tail)
body_again (bodies.Number n) tail fits free = record { body = ap bodies.Number (number_again n fits); sized = refl; small = omega arith }
body_again (bodies.State index num) tail fits free = let p = pair_again index num fits.0 fits.1 in record { body = rw (p.0, p.1) refl; sized = refl; small = omega arith }
body_again (bodies.Config c) tail fits free = config_body c fits
body_again bodies.Empty tail fits free = record { body = refl; sized = refl; small = omega arith }
body_again (bodies.Inflight x) tail fits free = record { body = ap bodies.Inflight (inflight_again x tail fits free); sized = inflight_size x tail free; small = inflight_few x tail free }

behind_again : (h : Header) (r : Reply) (p rest : List ℕ) → h.request ≡ r.request → h.size ≡ length p → kind_at r.request ≡ kind_of r.body → Reads r.body p → reply_behind h (p ++ rest) ≡ good (r, 12 + h.size)
unfolding reply_behind
behind_again h r p rest request size kind reads =
    let k : kind_at h.request ≡ kind_of r.body = ap kind_at request ∙ kind in
    let sized : has_reply_size (kind_of r.body) h.size ≡ true = ap (has_reply_size (kind_of r.body)) size ∙ reads.sized in
    let long : nat_lt (length (p ++ rest)) h.size ≡ false = grind (arith, nat_tests, length-append p rest, size) in
    let front : take h.size (p ++ rest) ≡ p = ap (λ (n : ℕ). take n (p ++ rest)) size ∙ take-append_seam p rest in
    rw (k, sized, long, front, reads.body, request) refl

pub reply_again : (first rest : List ℕ) (r : Reply) → IsReply first r → reply_at (first ++ rest) ≡ good (r, length first)
unfolding reply_at
reply_again first rest r is =
    let p : List ℕ = body_bytes r.body is.tail in
    let h : Header = reply_header r.request is.flags (length p) in
    let reads : Reads r.body p = body_again r.body is.tail is.fits is.free in
    let grouped : first ++ rest ≡ header_bytes h ++ (p ++ rest) = ap (λ (l : List ℕ). l ++ rest) is.is ∙ append_assoc (header_bytes h) p rest in
    let header = header_read true h (p ++ rest) is.request is.flags_fit is.version_is is.is_reply reads.small in
    let size : 12 + length p ≡ length first = sym (ap length is.is ∙ omega (arith, length-append (header_bytes h) p)) in
    ap reply_at grouped ∙ rw header (behind_again h r p rest refl refl is.kind reads ∙ ap (λ (n : ℕ). good (r, n)) size)

-- ---- as readers answer, and as is written

pub found_of : (bytes : List ℕ) (o : Result (Reply × ℕ) WireFault) → AreBytes bytes → o ≡ reply_at bytes → IfOk o (λ x. IsReply (take x.1 bytes) x.0 × (x.1 ≤ length bytes))
found_of bytes (Ok x) b e = let t = reply_takes bytes x b (sym e) in (t.reply, t.long)
found_of bytes (Err f) b e = tt

pub only_of : (bytes : List ℕ) (o : Result (Reply × ℕ) WireFault) → o ≡ reply_at bytes → (first rest : List ℕ) (r : Reply) → IsReply first r → bytes ≡ first ++ rest → o ≡ good (r, length first)
only_of bytes o e first rest r is whole = e ∙ ap reply_at whole ∙ reply_again first rest r is

-- ---- the first fault

behind_fault : (h : Header) (bytes : List ℕ) → version h.flags ≡ 1 → marks_reply h.flags ≡ true → nat_lt 4096 h.size ≡ false → result_err (reply_behind h bytes) ≡ reply_fault_behind h bytes
unfolding reply_behind reply_fault_behind
behind_fault h bytes one reply small = elim (cases_Bool (allows_reply h.request h.size)) [
  | inr refused ↦ rw (one, reply, small, refused) refl
  | inl allowed ↦ elim (cases_Bool (nat_lt (length bytes) h.size)) [
    | inl short ↦ rw (one, reply, small, allowed, short) refl
    | inr long ↦ rw (one, reply, small, allowed, long) refl
  ]
]

pub first_fault : (bytes : List ℕ) → result_err (reply_at bytes) ≡ reply_fault bytes
unfolding reply_at checked_header reply_fault reply_fault_behind
first_fault bytes = elim (cases_Bool (nat_lt (length bytes) 12)) [
  | inl short ↦ rw short refl
  | inr long ↦ elim (cases_Bool (version (header_at bytes).flags == 1)) [
    | inr other ↦ rw (long, other) refl
    | inl is ↦
        let one : version (header_at bytes).flags ≡ 1 = grind (arith, nat_tests) in
        elim (cases_Bool (marks_reply (header_at bytes).flags)) [
          | inr none ↦ rw (long, is, none) refl
          | inl reply ↦ elim (cases_Bool (nat_lt 4096 (header_at bytes).size)) [
            | inl large ↦ rw (long, is, reply, large) refl
            | inr small ↦ rw (long, is, reply, small) (behind_fault (header_at bytes) (drop 12 bytes) one reply small ∙ rw (is, reply, small) refl)
          ]
        ]
  ]
]

-- ---- one reply

pub one_reply_of : (first second rest others : List ℕ) (r s : Reply) → IsReply first r → IsReply second s → first ++ rest ≡ second ++ others → (first ≡ second) × (r ≡ s)
one_reply_of first second rest others r s a b e =
    let same : good (r, length first) ≡ good (s, length second) = sym (reply_again first rest r a) ∙ ap reply_at e ∙ reply_again second others s b in
    let equal = good_is (r, length first) (s, length second) same in
    let size : length first ≡ length second = ap (λ (x : Reply × ℕ). x.1) equal in
    let front : first ≡ second = sym (take-append_seam first rest) ∙ ap (take (length first)) e ∙ ap (λ (i : ℕ). take i (second ++ others)) size ∙ take-append_seam second others in
    (front, ap (λ (x : Reply × ℕ). x.0) equal)

pub one_spelling : (first second : List ℕ) (r : Reply) (a : IsReply first r) (b : IsReply second r) → a.flags ≡ b.flags → a.tail ≡ b.tail → first ≡ second
one_spelling first second r a b flags tail =
    let made : ℕ → List ℕ → List ℕ = λ f t. header_bytes (reply_header r.request f (length (body_bytes r.body t))) ++ body_bytes r.body t in
    a.is ∙ ap (λ (f : ℕ). made f a.tail) flags ∙ ap (made b.flags) tail ∙ sym b.is

-- ---- what is written

free_tail : (b : ReplyBody) → IsFreeTail b (reply_tail b)
free_tail (bodies.Number n) = refl
free_tail (bodies.State index num) = refl
free_tail (bodies.Config c) = refl
free_tail bodies.Empty = refl
free_tail (bodies.Inflight x) = tail_long x.long

pub written : (r : Reply) → r.request < 2 ^ 32 → kind_at r.request ≡ kind_of r.body → BodyFits r.body → IsReply (reply_bytes r) r
written r request kind fits = record {
  flags = 5;
  tail = reply_tail r.body;
  is = refl;
  request = request;
  flags_fit = omega arith;
  version_is = refl;
  is_reply = refl;
  kind = kind;
  fits = fits;
  free = free_tail r.body;
}
