-- Split chains. What leaves the chains of offered requests, and what was made of the one that waits.
use Rattle.std.proofs.Common.{◌≡◌, ◌≢◌, ◌≤◌, ◌<◌, ◌⊎◌, ℕ, ◌+◌, ◌*◌, List, [], ◌∷◌, length, refl, sym, subst, inl, inr, arith}
use Rattle.std.specs.Prelude.{Option, Some, slice_index}
use Rattle.std.specs.List.{AllByRecursion}
use Rattle.std.proofs.lemmas.Bool.{cases_lt}
use Rattle.vub_driver.specs.Layout.{area_place}
use Rattle.vub_base.specs.declared.header.Header1.{Header1}
use Rattle.vub_shared.specs.Stores.{Store}
use Rattle.vub_device.specs.declared.entry.Asked.{Asked}
use Rattle.vub_device.specs.Past.{asked}
use Rattle.vub_run.specs.Memory.{Scene}
use Rattle.vub_run.specs.Moments.{Lane}
use Rattle.vub_run_laws.proofs.RunGood.{IsWide, IsOut, IsGood, stored_at}
use Rattle.vub_run_laws.proofs.RunHolds.{Holds, noted_at}
use Rattle.vub_run_laws.proofs.RunFrames.{other_buffer}
use Rattle.vub_run_laws.proofs.RunChains.{buffer_at, HasChain, Spares, chain_kept, chain_stays}
use Rattle.vub_run_laws.proofs.RunChainsStores.{handed_fits}
use Rattle.vub_run_laws.proofs.RunChainsMade.{Stand, stand_kept, stand_stays, Serves, serving_off}
use Rattle.vub_run_laws.proofs.RunQueue.{head_below}

-- a head under which no request is offered and not collected
abbrev pub IsUnused : ℕ → Scene → ℕ → Type 0
IsUnused q s head = (k : ℕ) → IsOut q s.past (s.heads q) k → slice_index (s.heads q) k ≢ head

pub record IsGentle (q n : ℕ) (s s' : Scene) : Type 0 where
  pub heads : s'.heads q ≡ s.heads q
  pub same : (k : ℕ) → asked s'.past q k ≡ asked s.past q k
  pub out : (k : ℕ) → IsOut q s'.past (s.heads q) k → IsOut q s.past (s.heads q) k
  pub chain : (k body status : ℕ) (r : Asked) → IsOut q s.past (s.heads q) k → body < n → status < n → asked s.past q k ≡ Some r
      → HasChain q s.memory (slice_index (s.heads q) k) body status r → HasChain q s'.memory (slice_index (s.heads q) k) body status r
  -- what was made of a request that isn't offered
  pub made : (head : ℕ) (sts : List Store) → IsUnused q s head → AllByRecursion (Serves q head) sts → Stand sts s.memory → Stand sts s'.memory

pub gentle_none : (q n : ℕ) (s : Scene) → IsGentle q n s s
gentle_none q n s = record { heads = refl; same = λ k. refl; out = λ k o. o; chain = λ k body status r out fb fs is c. c; made = λ head sts unused serve stand. stand }

-- outside the buffer of a head
abbrev pub IsAway : ℕ → ℕ → ℕ → List ℕ → Type 0
IsAway q head p bs = (p + length bs ≤ buffer_at q head) ⊎ (buffer_at q head + 8192 ≤ p)

-- a store above the avail ring that spares each chain, and the buffers of unused heads
pub store_gentle : (q : ℕ) (h : Header1) (s : Scene) (l : Lane) (p : ℕ) (bs : List ℕ) → Holds q h s l → area_place q + 8192 ≤ p → ((head : ℕ) → IsUnused q s head → IsAway q head p bs)
    → ((k body status : ℕ) (r : Asked) → IsOut q s.past (s.heads q) k → slice_index (s.heads q) k < h.size → body < h.size → status < h.size → asked s.past q k ≡ Some r → IsWide h.capacity (Some r) → Spares q (slice_index (s.heads q) k) body status r p bs)
    → IsGentle q h.size s (stored_at p bs s)
store_gentle q h s l p bs x above away spares = record {
  heads = refl;
  same = λ k. refl;
  out = λ k o. o;
  chain = λ k body status r out fb fs is held.
      let simple : IsWide h.capacity (Some r) = subst (λ (o : Option Asked). IsWide h.capacity o) is (x.known.wide k out.below) in
      chain_kept q s.memory (slice_index (s.heads q) k) body status r p bs (spares k body status r out (head_below q h s l.driver l.bell l.plan l.counter l.batch l.phase k x.queue out) fb fs is simple) held;
  made = λ head sts unused serve stand. stand_kept sts s.memory p bs (serving_off q head sts p bs above (away head unused) serve) stand;
}

-- a store into the in-flight region leaves everything
pub note_gentle : (q n : ℕ) (s : Scene) (st : Store) → IsGentle q n s (noted_at st.place st.bytes s)
note_gentle q n s st = record {
  heads = refl;
  same = λ k. refl;
  out = λ k o. o;
  chain = λ k body status r out fb fs is held. chain_stays q s.memory (slice_index (s.heads q) k) body status r st.place st.bytes held;
  made = λ head sts unused serve stand. stand_stays sts s.memory st.place st.bytes stand;
}

-- between table and buffers
pub ring_spares : (q cap head body status : ℕ) (r : Asked) (p : ℕ) (bs : List ℕ) → head < 64 → body < 64 → status < 64 → IsWide cap (Some r) → area_place q + 4096 ≤ p → p + length bs ≤ area_place q + 65536 → Spares q head body status r p bs
ring_spares q cap head body status r p bs fh fb fs simple from upto =
    let at = handed_fits cap (buffer_at q head) r simple in record {
      first = inl (omega arith);
      middle = inl (omega arith);
      last = inl (omega arith);
      header = inr (omega arith);
      handed = inr (omega (arith, at.0));
    }

-- in the buffer of another head
pub buffer_spares : (q cap head body status other : ℕ) (r : Asked) (p : ℕ) (bs : List ℕ) → head < 64 → body < 64 → status < 64 → IsWide cap (Some r) → head ≢ other → area_place q + (65536 + 8192 * other) ≤ p → p + length bs ≤ area_place q + (65536 + 8192 * other) + 8192 → Spares q head body status r p bs
buffer_spares q cap head body status other r p bs fh fb fs simple apart from upto =
    let at = handed_fits cap (buffer_at q head) r simple in record {
      first = inl (omega arith);
      middle = inl (omega arith);
      last = inl (omega arith);
      header = elim (cases_lt head other) [
        | inl less ↦ inl (omega arith)
        | inr more ↦ inr (let above : other < head = omega arith in omega arith)
      ];
      handed = elim (cases_lt head other) [
        | inl less ↦ inl (omega (arith, at.0, at.1.0))
        | inr more ↦ inr (let above : other < head = omega arith in omega (arith, at.0))
      ];
    }

-- a store in the buffer of a request that is offered is outside those of unused heads
pub offered_away : (q : ℕ) (s : Scene) (k p : ℕ) (bs : List ℕ) → IsOut q s.past (s.heads q) k → buffer_at q (slice_index (s.heads q) k) ≤ p → p + length bs ≤ buffer_at q (slice_index (s.heads q) k) + 8192 → (head : ℕ) → IsUnused q s head → IsAway q head p bs
offered_away q s k p bs out from upto head unused = other_buffer q (head ∷ []) 0 (slice_index (s.heads q) k) p bs (λ same. unused k out (sym same)) (omega arith) (omega arith)

-- in the used ring
pub ring_gentle : (q : ℕ) (h : Header1) (s : Scene) (l : Lane) (p : ℕ) (bs : List ℕ) → IsGood h → Holds q h s l → area_place q + 8192 ≤ p → p + length bs ≤ area_place q + 65536 → IsGentle q h.size s (stored_at p bs s)
ring_gentle q h s l p bs good x from upto =
    let small : h.size ≤ 64 = good.size.small in
    store_gentle q h s l p bs x from (λ head unused. inl (omega arith)) (λ k body status r out fh fb fs is simple. ring_spares q h.capacity (slice_index (s.heads q) k) body status r p bs (omega arith) (omega arith) (omega arith) simple (omega arith) upto)
