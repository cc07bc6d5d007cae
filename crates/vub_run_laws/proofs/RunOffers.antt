-- An offer keeps what holds.
use Rattle.std.proofs.Common.{◌≡◌, ◌<◌, ℕ, ◌+◌, ◌*◌, List, [], ◌∷◌, ◌++◌, length, refl, ap, sym, ◌∙◌, subst, inl, inr, arith}
use Rattle.std.specs.Prelude.{Option, Some, slice_index}
use Rattle.std.proofs.lemmas.Bool.Decides.{nat_tests}
use Rattle.std.proofs.lemmas.Bool.{cases_lt}
use Rattle.std.proofs.lemmas.List.{length_push, get_or_append_left, get_or_push}
use Rattle.vub_driver.specs.Layout.{area_place}
use Rattle.vub_shared.specs.Bytes.{Bytes}
use Rattle.vub_steps.specs.declared.steps.Phase.{Phase}
use Rattle.vub_device.specs.declared.entry.Asked.{Asked}
use Rattle.vub_device.specs.declared.entry.Entry.{Entry}
use Rattle.vub_device.specs.declared.entry.Entry.TheVariants as entries
use Rattle.vub_device.specs.Past.{offers, asked, collected, looks, bytes_read, acts, synced}
use Rattle.vub_run_laws.proofs.RunOwn.{offers_own}
use Rattle.vub_run_laws.proofs.RunGood.{IsWide, Known, IsBegun, IsFull, IsPending, Worked, Stored, IsRead}

pub same_head : (heads : List ℕ) (h k : ℕ) → k < length heads → slice_index (heads ++ h ∷ []) k ≡ slice_index heads k
same_head heads h k l = get_or_append_left heads (h ∷ []) 0 k l

pub new_head : (heads : List ℕ) (h : ℕ) → slice_index (heads ++ h ∷ []) (length heads) ≡ h
new_head heads h = get_or_push heads h 0 (length heads) refl

pub same_asked : (q : ℕ) (past : List Entry) (r : Asked) (k : ℕ) → k < offers past q → asked (entries.Offer q r ∷ past) q k ≡ asked past q k
same_asked q past r k l = grind (arith, nat_tests)

pub new_asked : (q : ℕ) (past : List Entry) (r : Asked) (k : ℕ) → k ≡ offers past q → asked (entries.Offer q r ∷ past) q k ≡ Some r
new_asked q past r k l = grind (arith, nat_tests)

pub offer_known : (q n cap : ℕ) (past : List Entry) (heads : List ℕ) (r : Asked) (h : ℕ) → Known q n cap past heads → IsWide cap (Some r) → length heads < n + collected past q → Known q n cap (entries.Offer q r ∷ past) (heads ++ h ∷ [])
offer_known q n cap past heads r h known simple room =
    let longer : length (heads ++ h ∷ []) ≡ length heads + 1 = length_push heads h in record {
      offers_are = omega (arith, longer, known.offers_are, offers_own past q r);
      offered = omega (arith, longer, known.offered);
      distinct = known.distinct;
      below = known.below;
      shown = known.shown;
      fewer = known.fewer;
      room = omega (arith, longer, room);
      good = known.good;
      wide = λ k l. elim (cases_lt k (length heads)) [
        | inl low ↦ subst (λ (o : Option Asked). IsWide cap o) (sym (same_asked q past r k (omega (arith, known.offers_are)))) (known.wide k low)
        | inr high ↦ subst (λ (o : Option Asked). IsWide cap o) (sym (new_asked q past r k (omega (arith, longer, known.offers_are)))) simple
      ];
      unfaulted = known.unfaulted;
      values = known.values;
    }

pub offer_worked : (q n cap : ℕ) (past : List Entry) (heads : List ℕ) (r : Asked) (phase : Phase) (batch completed : List ℕ) (made : ℕ → ℕ) → Known q n cap past heads → Worked q past phase batch completed made → Worked q (entries.Offer q r ∷ past) phase batch completed made
offer_worked q n cap past heads r phase batch completed made known worked = record {
  distinct = worked.distinct;
  opens = λ k held. record { taken = (worked.opens k held).taken; unpublished = (worked.opens k held).unpublished };
  untouched = worked.untouched;
  progress = λ on k. record {
    fresh = (worked.progress on k).fresh;
    begun = λ some. elim (cases_lt k (offers past q)) [
      | inl low ↦ subst (λ (o : Option Asked). IsBegun (made k) (looks past q k) (acts past q k) (bytes_read past q k) (synced past q k) o) (sym (same_asked q past r k low)) ((worked.progress on k).begun some)
      | inr high ↦ absurd (let none : made k ≡ 0 = worked.untouched k (omega (arith, known.offers_are, known.offered)) in omega arith)
    ];
  };
  full = λ k held.
      let low : k < offers past q = omega (arith, (worked.opens k held).taken, known.offers_are, known.offered) in
      subst (λ (o : Option Asked). IsFull (made k) o) (sym (same_asked q past r k low)) (worked.full k held);
  pending = λ k is_open out.
      let low : k < offers past q = omega (arith, is_open.taken, known.offers_are, known.offered) in
      subst (λ (o : Option Asked). IsPending (made k) o) (sym (same_asked q past r k low)) (worked.pending k (record { taken = is_open.taken; unpublished = is_open.unpublished }) out);
  quiet = worked.quiet;
  between = worked.between;
}

pub offer_stored : (q n cap : ℕ) (past : List Entry) (heads : List ℕ) (r : Asked) (h : ℕ) (m : Bytes) (phase : Phase) (batch completed : List ℕ) (made : ℕ → ℕ) → Known q n cap past heads → Worked q past phase batch completed made
    → Stored q past heads m batch completed made → Stored q (entries.Offer q r ∷ past) (heads ++ h ∷ []) m batch completed made
offer_stored q n cap past heads r h m phase batch completed made known worked stored = record {
  sectors = λ k i is_open kept read.
      let low : k < length heads = omega (arith, is_open.taken, known.offered) in
      let low_too : k < offers past q = omega (arith, low, known.offers_are) in
      let read_too : IsRead (asked past q k) = subst (λ (o : Option Asked). IsRead o) (same_asked q past r k low_too) read in
      ap (λ (x : ℕ). m 0 (area_place q + (65536 + 8192 * x) + 4096 + i)) (same_head heads h k low) ∙ stored.sectors k i (record { taken = is_open.taken; unpublished = is_open.unpublished }) kept read_too;
  status = λ k held.
      let low : k < length heads = omega (arith, (worked.opens k held).taken, known.offered) in
      ap (λ (x : ℕ). m 0 (area_place q + (65536 + 8192 * x) + 16)) (same_head heads h k low) ∙ stored.status k held;
}
