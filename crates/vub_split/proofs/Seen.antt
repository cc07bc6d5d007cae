-- What waits in a ring, and what is seen of it, after each store.
use Rattle.std.proofs.Common.{◌≡◌, ◌≢◌, ◌≤◌, ◌<◌, ℕ, zero, suc, ◌+◌, ◌*◌, ◌%◌, List, [], ◌∷◌, ◌++◌, length, get_or, refl, ap, sym, ◌∙◌, arith}
use Rattle.std.specs.Int.{◌∣◌}
use Rattle.vub_shared.specs.Bytes.{Bytes, word}
use Rattle.vub_shared.specs.Stores.{Store, after_store}
use Rattle.vub_ring.specs.Ring.{Ring, entry_of, avail_idx, head_at, used_idx, element_at, ahead, heads_from, elements_from, waiting, seen}
use Rattle.vub_split.specs.Words.{OffAvail, OffUsed}
use Rattle.vub_split.specs.Stores.{avail_idx_store, avail_entry_store, used_idx_store, used_id_store, used_len_store}
use Rattle.vub_split.proofs.Rings.{entries_apart, elements_are}
use Rattle.vub_split.proofs.Words.{avail_idx_off, head_off, used_idx_off, element_off, avail_idx_stored, head_beside_idx, avail_idx_beside_entry, head_beside, head_stored, used_idx_stored, element_beside_idx, used_idx_beside_id, element_beside_id, used_idx_beside_len, element_beside_len}

-- ---- lists of entries

-- the same heads where the same stand in those entries
heads_same : (r : Ring) (m n : Bytes) (k d : ℕ) → ((i : ℕ) → i < k → head_at r n (d + i) ≡ head_at r m (d + i)) → heads_from r n k d ≡ heads_from r m k d
heads_same r m n zero d each = refl
heads_same r m n (suc k) d each =
    let place : d + 0 ≡ d = omega arith in
    let first : head_at r n d ≡ head_at r m d = ap (head_at r n) (sym place) ∙ each 0 (omega arith) ∙ ap (head_at r m) place in
    let rest : heads_from r n k (d + 1) ≡ heads_from r m k (d + 1) = heads_same r m n k (d + 1) (λ i l.
    let next : d + 1 + i ≡ d + suc i = omega arith in
    ap (head_at r n) next ∙ each (suc i) (omega (arith, l)) ∙ ap (head_at r m) (sym next)) in
    cc

elements_same : (r : Ring) (m n : Bytes) (k d : ℕ) → ((i : ℕ) → i < k → element_at r n (d + i) ≡ element_at r m (d + i)) → elements_from r n k d ≡ elements_from r m k d
elements_same r m n zero d each = refl
elements_same r m n (suc k) d each =
    let place : d + 0 ≡ d = omega arith in
    let first : element_at r n d ≡ element_at r m d = ap (element_at r n) (sym place) ∙ each 0 (omega arith) ∙ ap (element_at r m) place in
    let rest : elements_from r n k (d + 1) ≡ elements_from r m k (d + 1) = elements_same r m n k (d + 1) (λ i l.
    let next : d + 1 + i ≡ d + suc i = omega arith in
    ap (element_at r n) next ∙ each (suc i) (omega (arith, l)) ∙ ap (element_at r m) (sym next)) in
    cc

pub length-heads : (r : Ring) (m : Bytes) (k d : ℕ) → length (heads_from r m k d) ≡ k
length-heads r m zero d = refl
length-heads r m (suc k) d = omega (arith, length-heads r m k (d + 1))

pub length-elements : (r : Ring) (m : Bytes) (k d : ℕ) → length (elements_from r m k d) ≡ k
length-elements r m zero d = refl
length-elements r m (suc k) d = omega (arith, length-elements r m k (d + 1))

-- one more head
heads_more : (r : Ring) (m : Bytes) (k d : ℕ) → heads_from r m (k + 1) d ≡ heads_from r m k d ++ head_at r m (d + k) ∷ []
heads_more r m zero d =
    let place : d ≡ d + 0 = omega arith in
    ap (λ (i : ℕ). head_at r m i ∷ []) place
heads_more r m (suc k) d =
    let rest : heads_from r m (k + 1) (d + 1) ≡ heads_from r m k (d + 1) ++ head_at r m (d + 1 + k) ∷ [] = heads_more r m k (d + 1) in
    let place : d + 1 + k ≡ d + suc k = omega arith in
    let many : suc k + 1 ≡ suc (k + 1) = omega arith in
    ap (λ (x : ℕ). heads_from r m x d) many ∙ ap (λ (xs : List ℕ). head_at r m d ∷ xs) (rest ∙ ap (λ (i : ℕ). heads_from r m k (d + 1) ++ head_at r m i ∷ []) place)

-- the elements of a batch after others
elements_more : (r : Ring) (m : Bytes) (j k d : ℕ) → elements_from r m (j + k) d ≡ elements_from r m j d ++ elements_from r m k (d + j)
elements_more r m zero k d =
    let place : d ≡ d + 0 = omega arith in
    let many : 0 + k ≡ k = omega arith in
    ap (λ (x : ℕ). elements_from r m x d) many ∙ ap (λ (i : ℕ). elements_from r m k i) place
elements_more r m (suc j) k d =
    let rest : elements_from r m (j + k) (d + 1) ≡ elements_from r m j (d + 1) ++ elements_from r m k (d + 1 + j) = elements_more r m j k (d + 1) in
    let place : d + 1 + j ≡ d + suc j = omega arith in
    let many : suc j + k ≡ suc (j + k) = omega arith in
    ap (λ (x : ℕ). elements_from r m x d) many ∙ ap (λ (xs : List (ℕ × ℕ)). element_at r m d ∷ xs) (rest ∙ ap (λ (i : ℕ). elements_from r m j (d + 1) ++ elements_from r m k i) place)

-- ---- how far ahead

ahead_more : (a from k : ℕ) → ahead a from + k < 65536 → ahead ((a + k) % 65536) from ≡ ahead a from + k
ahead_more a from k near = omega (arith, near)

-- the index is so far from the position
at_ahead : (a from : ℕ) → (from + ahead a from) % 65536 ≡ a % 65536
at_ahead a from = omega arith

head_there : (r : Ring) (m : Bytes) (i j : ℕ) → i % 65536 ≡ j % 65536 → head_at r m i ≡ head_at r m j
head_there r m i j same = ap (λ (x : ℕ). word 2 m r.avail_space (r.avail + (4 + 2 * (x % r.size)))) same

element_there : (r : Ring) (m : Bytes) (i j : ℕ) → i % 65536 ≡ j % 65536 → element_at r m i ≡ element_at r m j
element_there r m i j same = ap (λ (x : ℕ). (word 4 m r.used_space (r.used + (4 + 8 * (x % r.size))), word 4 m r.used_space (r.used + (8 + 8 * (x % r.size))))) same

further : (a b i : ℕ) → a % 65536 ≡ b % 65536 → (a + i) % 65536 ≡ (b + i) % 65536
further a b i same = omega (arith, same)

-- an index ahead of a position by more than so many, and by less than a lap, has another entry
entry_ahead : (r : Ring) (index from i : ℕ) → 0 < r.size → r.size ∣ 65536 → i < ahead index from → ahead index from < r.size → entry_of r (from + i) ≢ entry_of r index
entry_ahead r index from i some laps before near same =
    let there : entry_of r (from + ahead index from) ≡ entry_of r index = ap (λ (x : ℕ). x % r.size) (at_ahead index from) in
    entries_apart r.size (from + i) (from + ahead index from) some laps (omega (arith, before)) (omega (arith, near)) (same ∙ sym there)

-- ---- what waits

-- the heads that wait are those of the same entries
waiting_same : (r : Ring) (m n : Bytes) (from : ℕ) → avail_idx r n ≡ avail_idx r m → ((i : ℕ) → i < ahead (avail_idx r m) from → head_at r n (from + i) ≡ head_at r m (from + i)) → waiting r n from ≡ waiting r m from
waiting_same r m n from index each = ap (λ (x : ℕ). heads_from r n (ahead x from) from) index ∙ heads_same r m n (ahead (avail_idx r m) from) from each

pub waiting_off : (r : Ring) (m : Bytes) (st : Store) (from : ℕ) → 0 < r.size → OffAvail r st → waiting r (after_store st m) from ≡ waiting r m from
waiting_off r m st from some off = waiting_same r m (after_store st m) from (avail_idx_off r m st off) (λ i l. head_off r m st (from + i) some off)

-- the head goes into the next entry, and nothing more waits yet
pub waiting_entry : (r : Ring) (m : Bytes) (from head : ℕ) → 0 < r.size → r.size ∣ 65536 → length (waiting r m from) < r.size → waiting r (after_store (avail_entry_store r (avail_idx r m) head) m) from ≡ waiting r m from
waiting_entry r m from head some laps room =
    let index : ℕ = avail_idx r m in
    let near : ahead index from < r.size = omega (arith, room, length-heads r m (ahead index from) from) in
    waiting_same r m (after_store (avail_entry_store r index head) m) from (avail_idx_beside_entry r m index head)
    (λ i l. head_beside r m index head (from + i) (entry_ahead r index from i some laps l near))

-- the index goes on, and the head in its entry waits
pub waiting_index : (r : Ring) (m : Bytes) (from : ℕ) → length (waiting r m from) < 65535
    → waiting r (after_store (avail_idx_store r ((avail_idx r m + 1) % 65536)) m) from ≡ waiting r m from ++ head_at r m (avail_idx r m) ∷ []
waiting_index r m from room =
    let index : ℕ = avail_idx r m in
    let k : ℕ = ahead index from in
    let near : k + 1 < 65536 = omega (arith, room, length-heads r m k from) in
    let n : Bytes = after_store (avail_idx_store r ((index + 1) % 65536)) m in
    let stored : avail_idx r n ≡ (index + 1) % 65536 = avail_idx_stored r m ((index + 1) % 65536) (omega arith) in
    let far : ahead (avail_idx r n) from ≡ k + 1 = ap (λ (x : ℕ). ahead x from) stored ∙ ahead_more index from 1 near in
    let same : heads_from r n (k + 1) from ≡ heads_from r m (k + 1) from = heads_same r m n (k + 1) from (λ i l. head_beside_idx r m ((index + 1) % 65536) (from + i)) in
    let last : head_at r m (from + k) ≡ head_at r m index = head_there r m (from + k) index (at_ahead index from) in
    ap (λ (x : ℕ). heads_from r n x from) far ∙ same ∙ heads_more r m k from ∙ ap (λ (x : ℕ). heads_from r m k from ++ x ∷ []) last

-- entry and index, one after the other
pub waiting_offer : (r : Ring) (m : Bytes) (from head : ℕ) → r.size ≤ 32768 → 0 < r.size → r.size ∣ 65536 → length (waiting r m from) < r.size → head < 65536
    → waiting r (after_store (avail_idx_store r ((avail_idx r m + 1) % 65536)) (after_store (avail_entry_store r (avail_idx r m) head) m)) from ≡ waiting r m from ++ head ∷ []
waiting_offer r m from head small some laps room fits =
    let index : ℕ = avail_idx r m in
    let n : Bytes = after_store (avail_entry_store r index head) m in
    let still : waiting r n from ≡ waiting r m from = waiting_entry r m from head some laps room in
    let at_index : avail_idx r n ≡ index = avail_idx_beside_entry r m index head in
    let fewer : length (waiting r n from) < 65535 = omega (arith, ap length still, room, small) in
    let there : head_at r n index ≡ head = head_stored r m index head index fits refl in
    ap (λ (x : ℕ). waiting r (after_store (avail_idx_store r ((x + 1) % 65536)) n) from) (sym at_index) ∙ waiting_index r n from fewer
    ∙ ap (λ (x : ℕ). waiting r n from ++ head_at r n x ∷ []) at_index ∙ ap (λ (x : ℕ). waiting r n from ++ x ∷ []) there ∙ ap (λ (xs : List ℕ). xs ++ head ∷ []) still

-- ---- what is seen

seen_same : (r : Ring) (m n : Bytes) (from : ℕ) → used_idx r n ≡ used_idx r m → ((i : ℕ) → i < ahead (used_idx r m) from → element_at r n (from + i) ≡ element_at r m (from + i)) → seen r n from ≡ seen r m from
seen_same r m n from index each = ap (λ (x : ℕ). elements_from r n (ahead x from) from) index ∙ elements_same r m n (ahead (used_idx r m) from) from each

pub seen_off : (r : Ring) (m : Bytes) (st : Store) (from : ℕ) → 0 < r.size → OffUsed r st → seen r (after_store st m) from ≡ seen r m from
seen_off r m st from some off = seen_same r m (after_store st m) from (used_idx_off r m st off) (λ i l. element_off r m st (from + i) some off)

-- an element that isn't seen yet may change
entry_later : (r : Ring) (m : Bytes) (from index i : ℕ) → 0 < r.size → r.size ∣ 65536 → length (seen r m from) ≤ ahead index from → ahead index from < r.size → i < ahead (used_idx r m) from → entry_of r (from + i) ≢ entry_of r index
entry_later r m from index i some laps later near l = entry_ahead r index from i some laps (omega (arith, l, later, length-elements r m (ahead (used_idx r m) from) from)) near

pub seen_id : (r : Ring) (m : Bytes) (from index id : ℕ) → 0 < r.size → r.size ∣ 65536 → length (seen r m from) ≤ ahead index from → ahead index from < r.size → seen r (after_store (used_id_store r index id) m) from ≡ seen r m from
seen_id r m from index id some laps later near = seen_same r m (after_store (used_id_store r index id) m) from (used_idx_beside_id r m index id)
    (λ i l. element_beside_id r m index id (from + i) (entry_later r m from index i some laps later near l))

pub seen_len : (r : Ring) (m : Bytes) (from index len : ℕ) → 0 < r.size → r.size ∣ 65536 → length (seen r m from) ≤ ahead index from → ahead index from < r.size → seen r (after_store (used_len_store r index len) m) from ≡ seen r m from
seen_len r m from index len some laps later near = seen_same r m (after_store (used_len_store r index len) m) from (used_idx_beside_len r m index len)
    (λ i l. element_beside_len r m index len (from + i) (entry_later r m from index i some laps later near l))

-- the index goes on by a batch, and the elements that stand in its entries are seen
pub seen_index : (r : Ring) (m : Bytes) (from : ℕ) (batch : List (ℕ × ℕ)) → length (seen r m from) + length batch < 65536 → ((i : ℕ) → i < length batch → element_at r m (used_idx r m + i) ≡ get_or batch i (0, 0))
    → seen r (after_store (used_idx_store r ((used_idx r m + length batch) % 65536)) m) from ≡ seen r m from ++ batch
seen_index r m from batch room each =
    let index : ℕ = used_idx r m in
    let k : ℕ = ahead index from in
    let b : ℕ = length batch in
    let near : k + b < 65536 = omega (arith, room, length-elements r m k from) in
    let n : Bytes = after_store (used_idx_store r ((index + b) % 65536)) m in
    let stored : used_idx r n ≡ (index + b) % 65536 = used_idx_stored r m ((index + b) % 65536) (omega arith) in
    let far : ahead (used_idx r n) from ≡ k + b = ap (λ (x : ℕ). ahead x from) stored ∙ ahead_more index from b near in
    let same : elements_from r n (k + b) from ≡ elements_from r m (k + b) from = elements_same r m n (k + b) from (λ i l. element_beside_idx r m ((index + b) % 65536) (from + i)) in
    let there : elements_from r m b (from + k) ≡ batch = elements_are r m b (from + k) batch refl (λ i l.
    let place : (from + k + i) % 65536 ≡ (index + i) % 65536 = further (from + k) index i (at_ahead index from) in
    element_there r m (from + k + i) (index + i) place ∙ each i l) in
    ap (λ (x : ℕ). elements_from r n x from) far ∙ same ∙ elements_more r m k b from ∙ ap (λ (xs : List (ℕ × ℕ)). elements_from r m k from ++ xs) there
