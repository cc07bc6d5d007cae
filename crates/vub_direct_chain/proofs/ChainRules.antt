use Rattle.std.proofs.Common.{◌≡◌, ◌≤◌, ◌<◌, ℕ, zero, suc, ◌+◌, refl, ap, sym, ◌∙◌, subst, arith, true, false, Bool}
use Rattle.std.specs.Prelude.{Option, Some, None, option_map, Ok}
use Rattle.vub_base.specs.declared.ring_fault.RingFault.TheVariants as faults
use Rattle.vub_shared.specs.Bytes.{Bytes}
use Rattle.vub_split.specs.declared.split.SplitRing.{SplitRing}
use Rattle.vub_direct_chain.specs.declared.chain.Desc.{Desc}
use Rattle.vub_direct_chain.specs.declared.chain.Span.{Span}
use Rattle.vub_direct_chain.specs.declared.chain.Sectors.{Sectors}
use Rattle.vub_direct_chain.specs.declared.chain.Unread.{Unread}
use Rattle.vub_direct_chain.specs.declared.chain.Unread.TheVariants as unread
use Rattle.vub_direct_chain.specs.ChainState.{desc_in, has_next, is_writable, takes_status, link_in, middle_in, sectors_at, buffer_of, Lies, Reaches, IsRequest, LieBelow, HasParts, BreaksRule, failed, bad_index, too_long, alone, no_status, unmapped, BreaksLink, failed_link, bad_link, NextIn, HasTail, BreaksSpan, outside, SpanIn}

-- ---- the links

-- a rule that is broken after descriptor k
pub after_link : {e : Unread} (sizes : ℕ → ℕ) (r : SplitRing) (m : Bytes) (head k : ℕ) (d : Desc) → k ≤ 1 → Reaches r m head k → d ≡ link_in r m head k → BreaksLink r d e → BreaksRule sizes r m head e
after_link sizes r m head k d few reaches is failed_link = failed
after_link sizes r m head k d few reaches is (bad_link goes at past) =
    bad_index k few reaches (ap has_next (sym is) ∙ goes) (at ∙ ap (λ (x : Desc). x.next) is) past

pub nothing_next : (r : SplitRing) (m : Bytes) (d : Desc) (o : Option Desc) → ((x : Desc) → o ≡ Some x → ⊥) → NextIn r m d (Ok o) → has_next d ≡ false
nothing_next r m d None not h = h
nothing_next r m d (Some x) not h = absurd (not x refl)

pub some_next : (r : SplitRing) (m : Bytes) (d x : Desc) (o : Option Desc) → o ≡ Some x → NextIn r m d (Ok o) → NextIn r m d (Ok (Some x))
some_next r m d x o is h = subst (λ (q : Option Desc). NextIn r m d (Ok q)) is h

pub header_alone : (sizes : ℕ → ℕ) (r : SplitRing) (m : Bytes) (head : ℕ) (first : Desc) → first ≡ desc_in r m head → has_next first ≡ false → BreaksRule sizes r m head (unread.Broken (faults.NoStatus head))
header_alone sizes r m head first is ends = alone (ap has_next (sym is) ∙ ends)

-- descriptor k + 1 is reached
pub reached : (r : SplitRing) (m : Bytes) (head k : ℕ) (d x : Desc) → Reaches r m head k → d ≡ link_in r m head k → NextIn r m d (Ok (Some x)) → Reaches r m head (suc k) × (x ≡ link_in r m head (suc k))
reached r m head k d x reaches is h =
    ((reaches, ap has_next (sym is) ∙ h.0, subst (λ (q : Desc). q.next < r.size) is h.1), h.2 ∙ ap (λ (q : Desc). desc_in r m q.next) is)

pub two_long : (r : SplitRing) (m : Bytes) (head : ℕ) (x : Desc) → Reaches r m head 1 × (x ≡ link_in r m head 1) → has_next x ≡ false → HasTail r m head (None, x)
two_long r m head x h ends = record {
  last = 1;
  is_request = record { some = omega arith; few = omega arith; reaches = h.0; ends = ap has_next (sym h.1) ∙ ends };
  middle = refl;
  is_last = h.1;
}

pub three_long : (r : SplitRing) (m : Bytes) (head : ℕ) (x y : Desc) → x ≡ link_in r m head 1 → Reaches r m head 2 × (y ≡ link_in r m head 2) → has_next y ≡ false → HasTail r m head (Some x, y)
three_long r m head x y at h ends = record {
  last = 2;
  is_request = record { some = omega arith; few = omega arith; reaches = h.0; ends = ap has_next (sym h.1) ∙ ends };
  middle = ap Some at;
  is_last = h.1;
}

pub fourth : (sizes : ℕ → ℕ) (r : SplitRing) (m : Bytes) (head : ℕ) (y : Desc) → Reaches r m head 2 × (y ≡ link_in r m head 2) → has_next y ≡ true → BreaksRule sizes r m head (unread.Broken (faults.NoRoom head))
fourth sizes r m head y h goes = too_long h.0 (ap has_next (sym h.1) ∙ goes)

-- ---- the buffers

-- a buffer that doesn't lie, of descriptor k
pub after_span : {e : Unread} (here sizes : ℕ → ℕ) (r : SplitRing) (m : Bytes) (head last k : ℕ) (d : Desc) → ((s : ℕ) → here s ≡ sizes s) → IsRequest r m head last → takes_status (link_in r m head last) ≡ true → k ≤ last
    → LieBelow sizes r m head k → d ≡ link_in r m head k → BreaksSpan here r d e → BreaksRule sizes r m head e
after_span here sizes r m head last k d same request takes within below is (outside at past) =
    unmapped last k request takes within below (at ∙ ap (λ (x : Desc). x.addr) is) (omega (arith, past, same r.desc.0.number, ap (λ (x : Desc). x.len) is))

pub lies_still : (here sizes : ℕ → ℕ) (r : SplitRing) (d x : Desc) → ((s : ℕ) → here s ≡ sizes s) → d ≡ x → Lies here r d → Lies sizes r x
lies_still here sizes r d x same is lies = omega (arith, lies, same r.desc.0.number, ap (λ (q : Desc). q.addr) is, ap (λ (q : Desc). q.len) is)

pub takes_none : (sizes : ℕ → ℕ) (r : SplitRing) (m : Bytes) (head : ℕ) (middle : Option Desc) (x : Desc) → HasTail r m head (middle, x) → takes_status x ≡ false → BreaksRule sizes r m head (unread.Broken (faults.NoStatus head))
takes_none sizes r m head middle x h not = no_status h.last h.is_request (ap takes_status (sym h.is_last) ∙ not)

pub some_middle : (r : SplitRing) (m : Bytes) (head last : ℕ) (x : Desc) → Some x ≡ middle_in r m head last → (x ≡ link_in r m head 1) × (2 ≤ last)
some_middle r m head zero x is = absurd (cc is)
some_middle r m head (suc zero) x is = absurd (cc is)
some_middle r m head (suc (suc k)) x is = (cc is, omega arith)

-- the sectors that were found of the descriptor between header and status, if there is one
pub record FindsMiddle (sizes : ℕ → ℕ) (r : SplitRing) (middle : Option Desc) (o : Option Sectors) : Type 0 where
  pub is : o ≡ option_map (sectors_at r) middle
  pub lies : (x : Desc) → middle ≡ Some x → Lies sizes r x

pub no_middle : (sizes : ℕ → ℕ) (r : SplitRing) (middle : Option Desc) (o : Option Sectors) → middle ≡ None → o ≡ None → FindsMiddle sizes r middle o
no_middle sizes r middle o none is = record {
  is = is ∙ ap (option_map (sectors_at r)) (sym none);
  lies = λ x some. absurd (cc (none, some));
}

pub a_middle : (here sizes : ℕ → ℕ) (r : SplitRing) (middle : Option Desc) (o : Option Sectors) (x : Desc) (span : Span) (writable : Bool) → ((s : ℕ) → here s ≡ sizes s) → middle ≡ Some x → SpanIn here r x (Ok span) → writable ≡ is_writable x
    → o ≡ Some (record { span = span; writable = writable }) → FindsMiddle sizes r middle o
a_middle here sizes r middle o x span writable same some found writes is =
    let make : Span → Bool → Option Sectors = λ s w. Some (record { span = s; writable = w }) in
    record {
      is = is ∙ ap (λ (s : Span). make s writable) found.0 ∙ ap (make (buffer_of r x)) writes ∙ ap (option_map (sectors_at r)) (sym some);
      lies = λ y at. lies_still here sizes r x y same (cc (some, at)) found.1;
    }

below_last : (sizes : ℕ → ℕ) (r : SplitRing) (m : Bytes) (head last : ℕ) (middle : Option Desc) → 1 ≤ last → last ≤ 2 → middle ≡ middle_in r m head last → Lies sizes r (link_in r m head 0) → ((x : Desc) → middle ≡ Some x → Lies sizes r x)
    → LieBelow sizes r m head last
below_last sizes r m head zero middle some few is first lies = absurd (omega arith)
below_last sizes r m head (suc zero) middle some few is first lies = (tt, first)
below_last sizes r m head (suc (suc zero)) middle some few is first lies = ((tt, first), lies (link_in r m head 1) is)
below_last sizes r m head (suc (suc (suc k))) middle some few is first lies = absurd (omega arith)

-- header and sectors were found
pub found_below : (here sizes : ℕ → ℕ) (r : SplitRing) (m : Bytes) (head : ℕ) (middle : Option Desc) (first x : Desc) (header : Span) (o : Option Sectors) → ((s : ℕ) → here s ≡ sizes s) → (t : HasTail r m head (middle, x)) → first ≡ link_in r m head 0
    → SpanIn here r first (Ok header) → FindsMiddle sizes r middle o → LieBelow sizes r m head t.last
found_below here sizes r m head middle first x header o same t is header_in found =
    below_last sizes r m head t.last middle t.is_request.some t.is_request.few t.middle (lies_still here sizes r first (link_in r m head 0) same is header_in.1) found.lies

pub has_parts : (here sizes : ℕ → ℕ) (r : SplitRing) (m : Bytes) (head : ℕ) (middle : Option Desc) (first x : Desc) (header status : Span) (o : Option Sectors) → ((s : ℕ) → here s ≡ sizes s) → (t : HasTail r m head (middle, x)) → first ≡ link_in r m head 0
    → takes_status x ≡ true → SpanIn here r first (Ok header) → FindsMiddle sizes r middle o → SpanIn here r x (Ok status) → HasParts sizes r m head (record { header = header; sectors = o; status = status })
has_parts here sizes r m head middle first x header status o same t is takes header_in found status_in =
    let P : ℕ → Type 0 = λ k. LieBelow sizes r m head k in
    let all : LieBelow sizes r m head (suc t.last) = (found_below here sizes r m head middle first x header o same t is header_in found, lies_still here sizes r x (link_in r m head t.last) same t.is_last status_in.1) in
    record {
      last = t.last;
      is_request = t.is_request;
      takes = ap takes_status (sym t.is_last) ∙ takes;
      lie = subst P (let e : suc t.last ≡ t.last + 1 = omega arith in e) all;
      header = header_in.0 ∙ ap (buffer_of r) is;
      sectors = found.is ∙ ap (option_map (sectors_at r)) t.middle;
      status = status_in.0 ∙ ap (buffer_of r) t.is_last;
    }
