-- What is written is the message, and no other.
use Rattle.std.proofs.Common.{◌≡◌, ℕ, ◌^◌, ◌<◌, ◌≤◌, Bool, true, false, List, ◌++◌, length, take, drop, ap, sym, ◌∙◌, refl, arith}
use Rattle.std.specs.Prelude.{replicate}
use Rattle.std.proofs.Math.Seq.{take-append_seam, drop-append_seam}
use Rattle.vub_wire.specs.declared.messages.Header.{Header}
use Rattle.vub_wire.specs.declared.messages.Message.{Message}
use Rattle.vub_wire.specs.declared.messages.Message.TheVariants as messages
use Rattle.vub_wire.specs.Flags.{version, marks_reply}
use Rattle.vub_wire.specs.Grammar.{Fits, AreFree, IsMessage, payload_bytes, header_bytes, address_bytes, config_bytes, inflight_bytes, tail_size}
use Rattle.vub_wire.specs.Writing.{padding_of, tail_of, written_payload, written_header, message_bytes}
use Rattle.vub_wire.specs.Reading.{Front, message_at}
use Rattle.vub_wire.proofs.Appends.{table_long}
use Rattle.vub_wire.proofs.Headers.{good, good_is}
use Rattle.vub_wire.proofs.FrontMessages.{message_again}

pub tail_long : (b : Bool) → length {A = ℕ} (replicate (tail_size b) 0) ≡ tail_size b
tail_long true = refl
tail_long false = refl

pub tail_few : (b : Bool) → tail_size b ≤ 4
tail_few true = omega arith
tail_few false = omega arith

are_free : (m : Message) → Fits m → AreFree m (padding_of m) (tail_of m)
are_free messages.GetFeatures fits = (refl, refl)
are_free (messages.SetFeatures n) fits = (refl, refl)
are_free messages.SetOwner fits = (refl, refl)
are_free (messages.SetMemTable rs) fits = (refl, (0, refl, omega (arith, fits.1)))
are_free (messages.SetNum index num) fits = (refl, refl)
are_free (messages.SetAddr index flags desc used avail log) fits = (refl, refl)
are_free (messages.SetBase index num) fits = (refl, refl)
are_free (messages.GetBase index num) fits = (refl, refl)
are_free (messages.SetKick n) fits = (refl, refl)
are_free (messages.SetCall n) fits = (refl, refl)
are_free (messages.SetErr n) fits = (refl, refl)
are_free messages.GetProtocol fits = (refl, refl)
are_free (messages.SetProtocol n) fits = (refl, refl)
are_free messages.GetQueueNum fits = (refl, refl)
are_free (messages.SetEnable index num) fits = (refl, refl)
are_free (messages.GetConfig c) fits = (refl, refl)
are_free (messages.SetConfig c) fits = (refl, refl)
are_free (messages.GetInflight x) fits = (refl, tail_long x.long)
are_free (messages.SetInflight x) fits = (refl, tail_long x.long)
are_free (messages.Other n) fits = refl

are_small : (m : Message) → Fits m → length (written_payload m) ≤ 4096
unfolding address_bytes config_bytes inflight_bytes
are_small messages.GetFeatures fits = omega arith
are_small (messages.SetFeatures n) fits = omega arith
are_small messages.SetOwner fits = omega arith
are_small (messages.SetMemTable rs) fits = omega (arith, table_long rs.items, fits.1)
are_small (messages.SetNum index num) fits = omega arith
are_small (messages.SetAddr index flags desc used avail log) fits = omega arith
are_small (messages.SetBase index num) fits = omega arith
are_small (messages.GetBase index num) fits = omega arith
are_small (messages.SetKick n) fits = omega arith
are_small (messages.SetCall n) fits = omega arith
are_small (messages.SetErr n) fits = omega arith
are_small messages.GetProtocol fits = omega arith
are_small (messages.SetProtocol n) fits = omega arith
are_small messages.GetQueueNum fits = omega arith
are_small (messages.SetEnable index num) fits = omega arith
are_small (messages.GetConfig c) fits = omega (arith, fits.3)
are_small (messages.SetConfig c) fits = omega (arith, fits.3)
are_small (messages.GetInflight x) fits = omega (arith, tail_long x.long, tail_few x.long)
are_small (messages.SetInflight x) fits = omega (arith, tail_long x.long, tail_few x.long)
are_small (messages.Other n) fits = omega arith

pub written : (m : Message) (flags : ℕ) → Fits m → flags < 2 ^ 32 → version flags ≡ 1 → marks_reply flags ≡ false → IsMessage (message_bytes m flags) (written_header m flags) m
written m flags fits small one none = record {
  payload = written_payload m;
  is = refl;
  request = refl;
  size = refl;
  small = are_small m fits;
  flags = small;
  version_is = one;
  no_reply = none;
  carries = record { padding = padding_of m; tail = tail_of m; fits = fits; free = are_free m fits; is = refl };
}

-- ---- one message

-- two messages at the front are one
pub one_front : (first second rest others : List ℕ) (h k : Header) (m n : Message) → IsMessage first h m → IsMessage second k n → first ++ rest ≡ second ++ others
    → (first ≡ second) × (h ≡ k) × (m ≡ n) × (rest ≡ others)
one_front first second rest others h k m n a b e =
    let same : good (h, m, length first) ≡ good (k, n, length second) = sym (message_again first rest h m a) ∙ ap message_at e ∙ message_again second others k n b in
    let equal = good_is (h, m, length first) (k, n, length second) same in
    let size : length first ≡ length second = ap (λ (f : Front). f.2) equal in
    let front : first ≡ second = sym (take-append_seam first rest) ∙ ap (take (length first)) e ∙ ap (λ (i : ℕ). take i (second ++ others)) size ∙ take-append_seam second others in
    let behind : rest ≡ others = sym (drop-append_seam first rest) ∙ ap (drop (length first)) e ∙ ap (λ (i : ℕ). drop i (second ++ others)) size ∙ drop-append_seam second others in
    (front, ap (λ (f : Front). f.0) equal, ap (λ (f : Front). f.1) equal, behind)

pub one_message_of : (first second rest others : List ℕ) (h k : Header) (m n : Message) → IsMessage first h m → IsMessage second k n → first ++ rest ≡ second ++ others
    → (first ≡ second) × (h ≡ k) × (m ≡ n)
one_message_of first second rest others h k m n a b e = let one = one_front first second rest others h k m n a b e in (one.0, one.1, one.2)

pub one_spelling : (first second : List ℕ) (h : Header) (m : Message) (a : IsMessage first h m) (b : IsMessage second h m)
    → a.carries.padding ≡ b.carries.padding → a.carries.tail ≡ b.carries.tail → first ≡ second
one_spelling first second h m a b padding tail =
    let payload : a.payload ≡ b.payload = a.carries.is ∙ ap (λ (l : List ℕ). payload_bytes m l a.carries.tail) padding ∙ ap (payload_bytes m b.carries.padding) tail ∙ sym b.carries.is in
    a.is ∙ ap (λ (l : List ℕ). header_bytes h ++ l) payload ∙ sym b.is
