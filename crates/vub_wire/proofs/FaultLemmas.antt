-- A fault other than `NeedMore` stays, whatever follows.
use Rattle.std.proofs.Common.{◌≡◌, [], ◌∷◌, ◌≢◌, ℕ, ◌≤◌, false, List, ◌++◌, length, take, drop, refl, sym, ap, ◌∙◌, inl, inr, arith, length-append}
use Rattle.std.specs.Prelude.{◌==◌, Some, Result, Ok, Err, nat_lt}
use Rattle.std.proofs.lemmas.Bool.{cases_Bool}
use Rattle.std.proofs.lemmas.Bool.Decides.{nat_tests}
use Rattle.std.proofs.lemmas.List.{take-append-le, drop-append-le}
use Rattle.vub_wire.specs.declared.fault.WireFault.{WireFault}
use Rattle.vub_wire.specs.declared.fault.WireFault.TheVariants.{NeedMore}
use Rattle.vub_wire.specs.declared.messages.Header.{Header}
use Rattle.vub_wire.specs.declared.messages.Message.{Message}
use Rattle.vub_wire.specs.Flags.{version, marks_reply}
use Rattle.vub_wire.specs.Requests.{request_at, allows}
use Rattle.vub_wire.specs.Faults.{header_at, fault_behind, message_fault}
use Rattle.vub_wire.specs.Streams.{Held, fed, Call, Feed, Next, Ran, AllFault}
use Rattle.vub_wire.proofs.Headers.{header_before}
use Rattle.vub_wire.proofs.StreamLemmas.{none_at_fault}

fault_is : (e f : WireFault) → Some e ≡ Some f → e ≡ f
fault_is e f is = cc

behind_stays : (h : Header) (p more : List ℕ) (e : WireFault) → fault_behind h p ≡ Some e → e ≢ NeedMore → fault_behind h (p ++ more) ≡ Some e
unfolding fault_behind
behind_stays h p more e is other = elim (cases_Bool (version h.flags == 1)) [
  | inr bad_version ↦ rw bad_version (rw bad_version at is)
  | inl one ↦ elim (cases_Bool (marks_reply h.flags)) [
    | inl reply ↦ rw (one, reply) (rw (one, reply) at is)
    | inr none ↦ elim (cases_Bool (nat_lt 4096 h.size)) [
      | inl large ↦ rw (one, none, large) (rw (one, none, large) at is)
      | inr small ↦ elim (cases_Bool (allows (request_at h.request) h.size)) [
        | inr refused ↦ rw (one, none, small, refused) (rw (one, none, small, refused) at is)
        | inl allowed ↦ elim (cases_Bool (nat_lt (length p) h.size)) [
          | inl short ↦ absurd (other (sym (fault_is NeedMore e (sym (rw (one, none, small, allowed, short) refl) ∙ is))))
          | inr long ↦
              let fits : h.size ≤ length p = grind (arith, nat_tests) in
              let longer : nat_lt (length (p ++ more)) h.size ≡ false = grind (arith, nat_tests, length-append p more) in
              let front : take h.size (p ++ more) ≡ take h.size p = take-append-le h.size p more fits in
              rw (one, none, small, allowed, longer, front) (rw (one, none, small, allowed, long) at is)
        ]
      ]
    ]
  ]
]

pub fault_goes_on : (bytes more : List ℕ) (e : WireFault) → message_fault bytes ≡ Some e → e ≢ NeedMore → message_fault (bytes ++ more) ≡ Some e
unfolding message_fault
fault_goes_on bytes more e is other = elim (cases_Bool (nat_lt (length bytes) 12)) [
  | inl short ↦ absurd (other (sym (fault_is NeedMore e (sym (rw short refl) ∙ is))))
  | inr long ↦
      let low : 12 ≤ length bytes = grind (arith, nat_tests) in
      let longer : nat_lt (length (bytes ++ more)) 12 ≡ false = grind (arith, nat_tests, length-append bytes more) in
      let header : header_at (bytes ++ more) ≡ header_at bytes = header_before bytes more low in
      let behind : drop 12 (bytes ++ more) ≡ drop 12 bytes ++ more = drop-append-le 12 bytes more low in
      rw (longer, header, behind) (behind_stays (header_at bytes) (drop 12 bytes) more e (rw long at is) other)
]

-- ---- any calls

abbrev answer : WireFault → Result (Header × Message) WireFault
answer e = Err e

pub all_fault : (calls : List Call) (s t : Held) (e : WireFault) → Ran s calls t → message_fault s.held ≡ Some e → e ≢ NeedMore → AllFault e calls
all_fault [] s t e r fault other = tt
all_fault (Feed piece ∷ calls) s t e r fault other = all_fault calls (fed piece s) t e r (fault_goes_on s.held piece e fault other) other
all_fault (Next (Ok x) ∷ calls) s t e (mid, (first, is, held, taken), r) fault other = absurd (none_at_fault s.held e fault first mid.held x.0 x.1 is held)
all_fault (Next (Err f) ∷ calls) s t e (mid, (was, same), r) fault other =
    let equal : f ≡ e = fault_is f e (sym was ∙ fault) in
    let stays : message_fault mid.held ≡ Some e = ap (λ (x : Held). message_fault x.held) same ∙ fault in
    (ap (λ (g : WireFault). answer g) equal, all_fault calls mid t e r stays other)
