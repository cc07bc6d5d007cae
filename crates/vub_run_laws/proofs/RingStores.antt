-- The driver's stores of a request, each one, on a split ring.
use Rattle.std.proofs.Common.{◌≡◌, ◌≤◌, ◌<◌, ℕ, ◌+◌, ◌*◌, ◌%◌, true, List, [], ◌∷◌, ◌++◌, length, refl, ap, sym, ◌∙◌, subst, inl, inr, arith, Bool}
use Rattle.std.specs.List.{AllByRecursion}
use Rattle.std.proofs.lemmas.List.{length-append}
use Rattle.byteorder.specs.Endian.{little_bytes}
use Rattle.vub_base.specs.declared.header.Header1.{Header1}
use Rattle.vub_shared.specs.Bytes.{Bytes, put}
use Rattle.vub_shared.specs.Stores.{Store, one_store}
use Rattle.vub_steps.specs.declared.steps.Phase.{Phase}
use Rattle.vub_steps.specs.declared.steps.Plan.{Plan}
use Rattle.vub_ring.specs.Ring.{avail_entry_place, avail_idx_place, last_head}
use Rattle.vub_driver.specs.Layout.{area_place}
use Rattle.vub_driver.specs.Drivers.{Driver, Waiting}
use Rattle.vub_driver.specs.Stores.{offer_stores}
use Rattle.vub_driver.specs.TableChain.{chain_in}
use Rattle.vub_device.specs.declared.entry.Entry.{Entry}
use Rattle.vub_device.specs.declared.entry.Entry.TheVariants as entries
use Rattle.vub_device.specs.Past.{accepted, is_among}
use Rattle.vub_device.specs.Requests.{request_of}
use Rattle.vub_run.specs.Memory.{Scene, with_at, with_last}
use Rattle.vub_run_laws.proofs.RunOwn.{at_own}
use Rattle.vub_run_laws.proofs.RunGood.{IsSize, Known}
use Rattle.vub_run_laws.proofs.RingGood.{the_ring, index_store, IsHarmless, IsPlan, IsWaiting, Ringed, Driven, QueueFacts, LastStands, offered_by}
use Rattle.vub_run_laws.proofs.RunFrames.{below_buffers, other_buffer, length_little}
use Rattle.vub_run_laws.proofs.RingFrames.{OffRings, entry_small, same_entry, ringed_entry}
use Rattle.vub_run_laws.proofs.RunOffers.{same_head}
use Rattle.vub_run_laws.proofs.RingPositions.{sees_same}
use Rattle.vub_run_laws.proofs.RingFacts.{OfferedWords, words_below, words_offer, facts_elsewhere}
use Rattle.vub_run_laws.proofs.RingOffers.{offer_room, offer_ringed, shown_head, offer_driven}
use Rattle.vub_run_laws.proofs.RunHolds.{StoresLast, StoresBefore}

-- ---- a store before the last one

harmless_before : (q : ℕ) (h : Header1) (s : Scene) (v : Driver) (w : Waiting) (bell : Bool) (plan : Plan) (counter : ℕ) (batch : List ℕ) (phase : Phase) (st : Store) (all left : List Store) → IsSize h.size → IsWaiting q h.size h.capacity s.past (s.heads q) v (record w { left = all })
    → IsHarmless q w.head st → IsPlan q h.size v.avail_idx w.head left → QueueFacts q h s v bell plan counter batch phase → StoresBefore q h s v w bell plan counter batch phase st left
harmless_before q h s v w bell plan counter batch phase st all left size waits harmless ready x =
    let off : OffRings q st.place st.bytes = elim harmless.lies [
      | inl low ↦ inl low.1
      | inr high ↦ inr (omega (arith, high.0))
    ] in record {
      off = λ k out. elim harmless.lies [
        | inl low ↦ below_buffers q (s.heads q) k st.place st.bytes (omega (arith, low.1))
        | inr high ↦ other_buffer q (s.heads q) k w.head st.place st.bytes (waits.apart k out) high.0 high.1
      ];
      queue = facts_elsewhere q h s st.place st.bytes v bell plan counter batch phase size off x;
      waits = record { wide = waits.wide; below = waits.below; mine = waits.mine; apart = waits.apart; plan = inl ready };
      last = λ one. absurd (omega (arith, one, ap length ready.whole, length-append ready.first (offer_stores (the_ring q h.size) v.avail_idx w.head)));
    }

entry_before : (q : ℕ) (h : Header1) (s : Scene) (v : Driver) (w : Waiting) (bell : Bool) (plan : Plan) (counter : ℕ) (batch : List ℕ) (phase : Phase) (all left : List Store) → IsSize h.size → Known q h.size h.capacity s.past (s.heads q) → IsWaiting q h.size h.capacity s.past (s.heads q) v (record w { left = all })
    → left ≡ index_store (the_ring q h.size) v.avail_idx ∷ [] → QueueFacts q h s v bell plan counter batch phase → StoresBefore q h s v w bell plan counter batch phase (one_store 0 (avail_entry_place (the_ring q h.size) v.avail_idx) (little_bytes 2 w.head)) left
entry_before q h s v w bell plan counter batch phase all left size known waits is x =
    let p : ℕ = avail_entry_place (the_ring q h.size) v.avail_idx in
    let bs : List ℕ = little_bytes 2 w.head in
    let two : length bs ≡ 2 = length_little 2 w.head in
    let index : v.avail_idx ≡ (h.base + length (s.heads q)) % 65536 = x.driven.index in
    let at : p ≡ avail_entry_place (the_ring q h.size) (h.base + length (s.heads q)) = ap (avail_entry_place (the_ring q h.size)) index ∙ ap (λ (y : ℕ). area_place q + 4096 + (4 + 2 * y)) (same_entry q h.size (h.base + length (s.heads q))) in
    let room = offer_room q h.size h.capacity h.base s.past (s.heads q) v (record w { left = all }) known x.driven waits in
    let small : h.size ≤ 64 = size.small in
    let low = entry_small h.size v.avail_idx size in
    let below : p + length bs ≤ area_place q + 8192 = omega arith in
    let ring = ringed_entry q h.size h.capacity h.base s.past (s.heads q) s.memory p w.head size known room at (omega (arith, waits.below)) x.ringed in record {
      off = λ k out. below_buffers q (s.heads q) k p bs (omega arith);
      queue = record { ringed = ring.0; driven = x.driven; words = words_below q h s p bs bell plan counter batch phase size below (sees_same q h s s.past (s.heads q) (put s.memory 0 p bs) bell plan counter batch phase size known x.ringed ring.0 refl (omega arith) (omega arith) (λ k l. refl) x.words) x.words; start = x.start };
      waits = record { wide = waits.wide; below = waits.below; mine = waits.mine; apart = waits.apart; plan = inr is };
      last = λ one. ring.1;
    }

pub stores_before : (q : ℕ) (h : Header1) (s : Scene) (v : Driver) (w : Waiting) (bell : Bool) (plan : Plan) (counter : ℕ) (batch : List ℕ) (phase : Phase) (st st' : Store) (left : List Store) → IsSize h.size → Known q h.size h.capacity s.past (s.heads q)
    → IsWaiting q h.size h.capacity s.past (s.heads q) v (record w { left = st ∷ st' ∷ left }) → QueueFacts q h s v bell plan counter batch phase → StoresBefore q h s v w bell plan counter batch phase st (st' ∷ left)
stores_before q h s v w bell plan counter batch phase st st' left size known waits x = elim waits.plan [
  | inl plan ↦ go plan.first plan.few plan.harmless plan.whole
  | inr last ↦ absurd (omega (arith, ap length last))
]
  where
    go : (first : List Store) → length first ≤ 14 → AllByRecursion (IsHarmless q w.head) first → st ∷ st' ∷ left ≡ first ++ offer_stores (the_ring q h.size) v.avail_idx w.head → StoresBefore q h s v w bell plan counter batch phase st (st' ∷ left)
    go [] few harmless whole =
        let here : one_store 0 (avail_entry_place (the_ring q h.size) v.avail_idx) (little_bytes 2 w.head) ≡ st = cc in
        let rest : st' ∷ left ≡ index_store (the_ring q h.size) v.avail_idx ∷ [] = cc in
        subst (λ (x : Store). StoresBefore q h s v w bell plan counter batch phase x (st' ∷ left)) here (entry_before q h s v w bell plan counter batch phase (st ∷ st' ∷ left) (st' ∷ left) size known waits rest x)
    go (x' ∷ first) few harmless whole =
        let here : x' ≡ st = cc in
        let rest : st' ∷ left ≡ first ++ offer_stores (the_ring q h.size) v.avail_idx w.head = cc in
        let mild : IsHarmless q w.head st = subst (IsHarmless q w.head) here harmless.0 in
        harmless_before q h s v w bell plan counter batch phase st (st ∷ st' ∷ left) (st' ∷ left) size waits mild (record { first = first; few = omega arith; harmless = harmless.1; whole = rest }) x

-- ---- the last store, with its offer

index_last : (q : ℕ) (h : Header1) (s : Scene) (v : Driver) (w : Waiting) (bell : Bool) (plan : Plan) (counter : ℕ) (batch : List ℕ) (phase : Phase) (left : List Store) → IsSize h.size → Known q h.size h.capacity s.past (s.heads q) → ((k : ℕ) → is_among batch k ≡ true → k < accepted s.past q)
    → IsWaiting q h.size h.capacity s.past (s.heads q) v (record w { left = left }) → LastStands q h s (record w { left = left }) → length left ≡ 1 → QueueFacts q h s v bell plan counter batch phase → StoresLast q h s v w bell plan counter batch phase (index_store (the_ring q h.size) v.avail_idx)
index_last q h s v w bell plan counter batch phase left size known taken waits stands one x =
    let p : ℕ = avail_idx_place (the_ring q h.size) in
    let y : ℕ = (v.avail_idx + 1) % 65536 in
    let bs : List ℕ = little_bytes 2 y in
    let two : length bs ≡ 2 = length_little 2 y in
    let m : Bytes = put s.memory 0 p bs in
    let r = request_of w.ask in
    let ringed = offer_ringed q h.size h.capacity h.base s.past (s.heads q) s.memory r w.head v.avail_idx size known x.driven.index (stands one) x.ringed in
    let longer : length (s.heads q ++ w.head ∷ []) ≡ length (s.heads q) + 1 = length-append (s.heads q) (w.head ∷ []) in
    let last : last_head (the_ring q h.size) m ≡ w.head = shown_head q h.size h.base s.past (s.heads q) m r w.head known.offered ringed in
    let words = words_below q h s p bs bell plan counter batch phase size (omega arith)
    (sees_same q h s (entries.Offer q r ∷ s.past) (s.heads q ++ w.head ∷ []) m bell plan counter batch phase size known x.ringed ringed refl (omega (arith, longer)) (omega (arith, longer)) (λ k l. same_head (s.heads q) w.head k l) x.words) x.words in
    let past' : List Entry = entries.Offer q r ∷ s.past in
    let heads' : List ℕ = s.heads q ++ w.head ∷ [] in
    let own : heads' ≡ with_at s.heads q heads' q = sym (at_own s.heads q heads') in
    let whole : QueueFacts q h (record { memory = m; past = past'; heads = with_at s.heads q heads'; descriptors = with_last s.descriptors q (chain_in (the_ring q h.size) m w.head) }) (offered_by v) bell plan counter batch phase = record {
      ringed = subst (λ (hs : List ℕ). Ringed q h.size h.base past' hs m) own ringed;
      driven = subst (λ (hs : List ℕ). Driven q h.size h.capacity h.base past' hs (offered_by v)) own (offer_driven q h.size h.capacity h.base s.past (s.heads q) v (record w { left = left }) r x.driven waits);
      words = subst (λ (hs : List ℕ). OfferedWords q h s r m bell plan counter batch phase hs) own (words_offer q h s r w.head m bell plan counter batch phase known taken words);
      start = x.start;
    } in record {
      off = λ k. below_buffers q (s.heads q) k p bs (omega arith);
      room = offer_room q h.size h.capacity h.base s.past (s.heads q) v (record w { left = left }) known x.driven waits;
      heads = ap (λ (y : ℕ). with_last s.heads q y q) last ∙ sym own;
      queue = subst (λ (y : ℕ). QueueFacts q h (record { memory = m; past = past'; heads = with_last s.heads q y; descriptors = with_last s.descriptors q (chain_in (the_ring q h.size) m y) }) (offered_by v) bell plan counter batch phase) (sym last) whole;
    }

pub stores_last : (q : ℕ) (h : Header1) (s : Scene) (v : Driver) (w : Waiting) (bell : Bool) (plan : Plan) (counter : ℕ) (batch : List ℕ) (phase : Phase) (st : Store) → IsSize h.size → Known q h.size h.capacity s.past (s.heads q) → ((k : ℕ) → is_among batch k ≡ true → k < accepted s.past q)
    → IsWaiting q h.size h.capacity s.past (s.heads q) v (record w { left = st ∷ [] }) → LastStands q h s (record w { left = st ∷ [] }) → QueueFacts q h s v bell plan counter batch phase → StoresLast q h s v w bell plan counter batch phase st
stores_last q h s v w bell plan counter batch phase st size known taken waits stands x = elim waits.plan [
  | inl plan ↦ absurd (omega (arith, ap length plan.whole, length-append plan.first (offer_stores (the_ring q h.size) v.avail_idx w.head)))
  | inr last ↦
      let here : index_store (the_ring q h.size) v.avail_idx ≡ st = cc in
      subst (λ (y : Store). StoresLast q h s v w bell plan counter batch phase y) here (index_last q h s v w bell plan counter batch phase (st ∷ []) size known taken waits stands (ap length last) x)
]

-- ---- what is left

-- something is left of a request that waits
pub some_left : (q n cap : ℕ) (past : List Entry) (heads : List ℕ) (v : Driver) (w : Waiting) → IsWaiting q n cap past heads v w → 0 < length w.left
some_left q n cap past heads v w waits = elim waits.plan [
  | inl plan ↦ omega (arith, ap length plan.whole, length-append plan.first (offer_stores (the_ring q n) v.avail_idx w.head))
  | inr last ↦ omega (arith, ap length last)
]
