-- What the elements of a batch are, and what is known of the work while they are stored.
use Rattle.std.proofs.Common.{◌≡◌, ◌≤◌, ◌<◌, ℕ, zero, suc, ◌+◌, ◌^◌, true, List, [], ◌∷◌, ◌++◌, length, map, refl, ap, ◌∙◌, inl, inr, arith}
use Rattle.std.specs.Prelude.{Option, Some, None, slice_index, slice_get, ◌||◌, unwrap_or}
use Rattle.std.proofs.lemmas.Bool.Decides.{nat_tests}
use Rattle.std.proofs.lemmas.Bool.{cases_Bool, or_right}
use Rattle.std.proofs.lemmas.List.{length-append}
use Rattle.vub_base.specs.declared.header.CacheMode.TheVariants.{Back}
use Rattle.vub_base.specs.declared.header.Header1.{Header1}
use Rattle.vub_steps.specs.declared.steps.Phase.{Phase}
use Rattle.vub_steps.specs.declared.steps.Phase.TheVariants as phases
use Rattle.vub_device.specs.declared.entry.Asked.{Asked}
use Rattle.vub_device.specs.declared.entry.Asked.TheVariants as asks
use Rattle.vub_device.specs.declared.entry.Entry.{Entry}
use Rattle.vub_device.specs.Past.{accepted, published, is_among, IsOpen}
use Rattle.vub_device.proofs.Numbers.{is_among_append}
use Rattle.vub_run.specs.Moments.{Lane}
use Rattle.vub_run.specs.Tracking.{answered_len}
use Rattle.vub_run.specs.Turns.{len_of}
use Rattle.vub_run_laws.proofs.RunNumbers.{distinct_join}
use Rattle.vub_facts.proofs.HeadLemmas.{few_below, distinct_parts}
use Rattle.vub_run_laws.proofs.RunGood.{IsWide, Known, Worked}
use Rattle.vub_run_laws.proofs.RunSteps.{wide_served}

-- ---- elements

pub get_map : (f : ℕ → ℕ × ℕ) (xs : List ℕ) (e : ℕ) → e < length xs → slice_get (map f xs) e ≡ Some (f (slice_index xs e))
get_map f [] e l = absurd (omega arith)
get_map f (x ∷ xs) zero l = refl
get_map f (x ∷ xs) (suc e) l = get_map f xs e (omega arith)

len_small : (cap : ℕ) (r : Asked) → IsWide cap (Some r) → answered_len 0 (Some r) < 256 ^ 4
len_small cap (asks.Read s c) wide = let few : c ≤ 8 = wide.few in omega arith
len_small cap (asks.Write s bytes) wide = omega arith
len_small cap asks.Flush wide = omega arith
len_small cap asks.Id wide = absurd wide
len_small cap (asks.Discard parts) wide = absurd wide
len_small cap (asks.Zero parts) wide = absurd wide

-- the used length of a request that succeeds
pub len_is : (h : Header1) (o : Option Asked) → h.mode ≡ Back → IsWide h.capacity o → (len_of h o ≡ answered_len 0 o) × (answered_len 0 o < 256 ^ 4)
len_is h (Some r) back wide = (ap (λ (x : Option ℕ). answered_len (unwrap_or x 0) (Some r)) (wide_served h r back wide), len_small h.capacity r wide)
len_is h None back wide = absurd wide

-- the numbers of a batch are as many as open ones, so the ring has room for their elements
pub batch_room : (q : ℕ) (past : List Entry) (phase : Phase) (batch completed : List ℕ) (made : ℕ → ℕ) (n cap : ℕ) (heads : List ℕ) → Known q n cap past heads → Worked q past phase batch completed made → length (published past q) + length batch ≤ accepted past q
batch_room q past phase batch completed made n cap heads known w =
    let parts = distinct_parts completed batch w.distinct in
    let in_batch : (k : ℕ) → is_among batch k ≡ true → IsOpen past q k = λ k held. w.opens k (is_among_append completed batch k ∙ or_right (is_among completed k) (is_among batch k) held) in
    let d = distinct_join (published past q) batch known.distinct parts.second (λ k held. (in_batch k held).unpublished) in
    let few : length (published past q ++ batch) ≤ accepted past q = few_below (published past q ++ batch) (accepted past q) d (λ k held. elim (cases_Bool (is_among batch k)) [
      | inl there ↦ (in_batch k there).taken
      | inr out ↦ known.below k (let joined : is_among (published past q ++ batch) k ≡ (is_among (published past q) k || is_among batch k) = is_among_append (published past q) batch k in grind (arith, nat_tests))
    ]) in
    omega (arith, few, length-append (published past q) batch)

-- the lane with one more store made
abbrev pub one_on : ℕ → Lane → Lane
one_on done l = record l { phase = phases.Publish (done + 1) }
