-- Split chains. The driver's stores of a request leave the chains of the others, and its offer adds one.
use Rattle.std.proofs.Common.{◌≡◌, ◌≢◌, ◌≤◌, ◌<◌, ℕ, zero, suc, ◌+◌, ◌%◌, Bool, true, false, List, [], ◌∷◌, ◌++◌, length, take, drop, refl, ap, sym, ◌∙◌, subst, inl, inr, arith}
use Rattle.std.specs.Prelude.{Option, Some, None, slice_index}
use Rattle.std.specs.List.{AllByRecursion}
use Rattle.std.proofs.lemmas.Bool.{cases_lt}
use Rattle.std.proofs.lemmas.List.{length_push, length-drop, append_assoc, take-append-drop}
use Rattle.vub_base.specs.declared.header.Header1.{Header1}
use Rattle.vub_base.specs.declared.request.Ask.{Ask}
use Rattle.vub_shared.specs.Bytes.{Bytes, put}
use Rattle.vub_shared.specs.Stores.{Store}
use Rattle.vub_ring.specs.Ring.{last_head}
use Rattle.vub_driver.specs.Drivers.{Driver, Waiting, with_left, after_stores}
use Rattle.vub_driver.specs.Requests.{pieces, has_data}
use Rattle.vub_driver.specs.Stores.{buffer_stores, chain_stores, offer_stores, stores_with, request_stores}
use Rattle.vub_driver.specs.TableChain.{chain_in}
use Rattle.vub_device.specs.declared.entry.Asked.{Asked}
use Rattle.vub_device.specs.declared.entry.Entry.{Entry}
use Rattle.vub_device.specs.declared.entry.Entry.TheVariants as entries
use Rattle.vub_device.specs.Past.{asked}
use Rattle.vub_report.specs.declared.items.Item.TheVariants as items
use Rattle.vub_run.specs.Memory.{Scene, with_at, with_last, after_item, after_items}
use Rattle.vub_run.specs.Run.{guest_items}
use Rattle.vub_device.specs.Requests.{request_of}
use Rattle.vub_run_laws.proofs.RunOwn.{at_own}
use Rattle.vub_run_laws.proofs.RingGood.{the_ring, IsWaiting, Driven}
use Rattle.vub_run_laws.proofs.RingHeads.{offer_shows}
use Rattle.vub_run_laws.proofs.RunGood.{IsWide, IsOut, Known, IsGood}
use Rattle.vub_run_laws.proofs.RunOffers.{same_head, new_head, same_asked, new_asked}
use Rattle.vub_run_laws.proofs.RunChains.{table_place, buffer_at, chain_of, HasChain, IsOff, Spares, chain_kept}
use Rattle.vub_run_laws.proofs.RunChainsStores.{put_all, handed_fits, stores_make}
use Rattle.vub_run_laws.proofs.RunChainsMade.{all_first, all_last, put_append, stand_append, IsMine, AreMine}
use Rattle.vub_run_laws.proofs.RunChainsGentle.{ring_spares, buffer_spares}
use Rattle.vub_run_laws.proofs.RunChainsTurns.{IsLinked, IsPrepared, Chained, all_mine}

-- ---- they leave the chains of others

table_off : (q p d e : ℕ) (bs : List ℕ) → p ≡ table_place q d → d ≢ e → length bs ≡ 16 → IsOff p bs (table_place q e) 16
table_off q p d e bs at apart long = elim (cases_lt d e) [
  | inl less ↦ inr (omega arith)
  | inr more ↦ inl (let above : e < d = omega arith in omega arith)
]

owners_apart : (owner : ℕ → Option ℕ) (d e x y : ℕ) → owner d ≡ Some x → owner e ≡ Some y → y ≢ x → d ≢ e
owners_apart owner d e x y is_d is_e apart same =
    let both : Some x ≡ Some y = sym is_d ∙ ap owner same ∙ is_e in
    apart (let t : y ≡ x = cc in t)

other_spared : (q cap : ℕ) (owner : ℕ → Option ℕ) (other head body status : ℕ) (r : Asked) (p : ℕ) (bs : List ℕ) → IsWide cap (Some r) → head < 64 → body < 64 → status < 64 → head ≢ other → owner head ≡ Some head → owner body ≡ Some head → owner status ≡ Some head
    → IsMine q owner other p bs → Spares q head body status r p bs
other_spared q cap owner other head body status r p bs simple fh fb fs apart mh mb ms (inl ring) = ring_spares q cap head body status r p bs fh fb fs simple ring.0 (omega (arith, ring.1))
other_spared q cap owner other head body status r p bs simple fh fb fs apart mh mb ms (inr (inl own)) = buffer_spares q cap head body status other r p bs fh fb fs simple apart own.0 own.1
other_spared q cap owner other head body status r p bs simple fh fb fs apart mh mb ms (inr (inr t)) =
    let d : ℕ = t.0 in
    let low : d < 64 = t.1 in
    let at : p ≡ table_place q d = t.3 in
    let long : length bs ≡ 16 = t.4 in
    let there = handed_fits cap (buffer_at q head) r simple in
    record {
      first = table_off q p d head bs at (owners_apart owner d head other head t.2 mh apart) long;
      middle = table_off q p d body bs at (owners_apart owner d body other head t.2 mb apart) long;
      last = table_off q p d status bs at (owners_apart owner d status other head t.2 ms apart) long;
      header = inr (omega arith);
      handed = inr (omega (arith, there.0));
    }

pub chain_stays : (q cap : ℕ) (owner : ℕ → Option ℕ) (other head body status : ℕ) (r : Asked) (sts : List Store) (m : Bytes) → IsWide cap (Some r) → head < 64 → body < 64 → status < 64 → head ≢ other → owner head ≡ Some head → owner body ≡ Some head → owner status ≡ Some head
    → AreMine q owner other sts → HasChain q m head body status r → HasChain q (put_all sts m) head body status r
chain_stays q cap owner other head body status r [] m simple fh fb fs apart mh mb ms mine h = h
chain_stays q cap owner other head body status r (st ∷ sts) m simple fh fb fs apart mh mb ms mine h =
    chain_stays q cap owner other head body status r sts (put m 0 st.place st.bytes) simple fh fb fs apart mh mb ms mine.1
    (chain_kept q m head body status r st.place st.bytes (other_spared q cap owner other head body status r st.place st.bytes simple fh fb fs apart mh mb ms mine.0) h)

-- ---- the scene after them

-- all of the stores, and the offer
pub guest_scene : (q : ℕ) (h : Header1) (count : ℕ) (a : Ask) (sts : List Store) (s : Scene) → 0 < length sts → length sts ≤ count → after_items h (guest_items count q a sts) s ≡ after_item h (items.Made (entries.Offer q (request_of a))) (record s { memory = put_all sts s.memory })
guest_scene q h zero a [] s some few = absurd (omega arith)
guest_scene q h zero a (st ∷ sts) s some few = absurd (omega arith)
guest_scene q h (suc count) a [] s some few = absurd (omega arith)
guest_scene q h (suc count) a (st ∷ []) s some few = refl
guest_scene q h (suc count) a (st ∷ st' ∷ sts) s some few = guest_scene q h count a (st' ∷ sts) (record s { memory = put s.memory 0 st.place st.bytes }) (omega arith) (omega arith)

-- a part of the stores
pub part_scene : (q : ℕ) (h : Header1) (count : ℕ) (a : Ask) (sts : List Store) (s : Scene) → count < length sts → after_items h (guest_items count q a sts) s ≡ record s { memory = put_all (take count sts) s.memory }
part_scene q h zero a sts s part = refl
part_scene q h (suc count) a [] s part = absurd (omega arith)
part_scene q h (suc count) a (st ∷ []) s part = absurd (omega arith)
part_scene q h (suc count) a (st ∷ st' ∷ sts) s part = part_scene q h count a (st' ∷ sts) (record s { memory = put s.memory 0 st.place st.bytes }) (omega arith)

-- ---- the chains of others

other_linked : (q : ℕ) (h : Header1) (s : Scene) (v : Driver) (w : Waiting) (sts : List Store) (k : ℕ) → IsGood h → Known q h.size h.capacity s.past (s.heads q) → Driven q h.size h.capacity h.base s.past (s.heads q) v
    → IsWaiting q h.size h.capacity s.past (s.heads q) v w → AreMine q v.owner w.head sts → IsOut q s.past (s.heads q) k → IsLinked q h.size v.owner s.memory (slice_index (s.heads q) k) (asked s.past q k)
    → IsLinked q h.size v.owner (put_all sts s.memory) (slice_index (s.heads q) k) (asked s.past q k)
other_linked q h s v w sts k good known driven waits mine out was =
    let small : h.size ≤ 64 = good.size.small in
    let below : slice_index (s.heads q) k < h.size = driven.below k out in
    let fb : was.body < h.size = was.body_fits in
    let fs : was.status < h.size = was.status_fits in
    let simple : IsWide h.capacity (Some was.request) = subst (λ (o : Option Asked). IsWide h.capacity o) was.is (known.wide k out.below) in
    record {
      body = was.body;
      status = was.status;
      body_fits = was.body_fits;
      status_fits = was.status_fits;
      body_mine = was.body_mine;
      status_mine = was.status_mine;
      request = was.request;
      is = was.is;
      stands = chain_stays q h.capacity v.owner w.head (slice_index (s.heads q) k) was.body was.status was.request sts s.memory simple (omega arith) (omega arith) (omega arith) (waits.apart k out) (driven.owned k out) was.body_mine was.status_mine mine was.stands;
    }

-- ---- some of the stores

pub part_chained : (q : ℕ) (h : Header1) (s : Scene) (v : Driver) (w : Waiting) (count : ℕ) → IsGood h → Known q h.size h.capacity s.past (s.heads q) → Driven q h.size h.capacity h.base s.past (s.heads q) v
    → IsWaiting q h.size h.capacity s.past (s.heads q) v w → count < length w.left → IsPrepared q h.size s.memory v w → Chained q h.size s v → Chained q h.size (record s { memory = put_all (take count w.left) s.memory }) (after_stores count w v)
part_chained q h s v w count good known driven waits part ready c = go (drop count w.left) refl
  where
    done : List Store
    done = take count w.left

    m : Bytes
    m = put_all done s.memory

    mine : AreMine q v.owner w.head done
    mine =
        let P : Store → Type 0 = λ st. IsMine q v.owner w.head st.place st.bytes in
        let left : AllByRecursion P w.left = all_last P ready.made w.left (all_mine q h.size h.capacity s.past (s.heads q) s.memory v w good.size waits ready) in
        all_first P done (drop count w.left) (subst (λ (sts : List Store). AllByRecursion P sts) (sym (take-append-drop count w.left)) left)

    go : (rest : List Store) → drop count w.left ≡ rest → Chained q h.size (record s { memory = m }) (with_left w rest v)
    go [] e = absurd (let whole : length (drop count w.left) ≡ 0 = ap length e in omega (arith, length-drop count w.left))
    go (st ∷ rest) e = record {
      linked = λ k out. other_linked q h s v w done k good known driven waits mine out (c.linked k out);
      waits = record {
        body = ready.body;
        status = ready.status;
        up = ready.up;
        within = ready.within;
        upper = ready.upper;
        none = ready.none;
        fits = ready.fits;
        body_mine = ready.body_mine;
        status_mine = ready.status_mine;
        made = ready.made ++ done;
        stores = append_assoc ready.made done (st ∷ rest) ∙ ap (λ (sts : List Store). ready.made ++ (done ++ sts)) (sym e) ∙ ap (λ (sts : List Store). ready.made ++ sts) (take-append-drop count w.left) ∙ ready.stores;
        some = omega arith;
        stand = stand_append ready.made done s.memory ready.stand;
      };
    }

-- ---- the offer

abbrev offered_driver : Driver → Driver
offered_driver v = record v { avail_idx = (v.avail_idx + 1) % 65536; waiting = None }

-- those of the buffer and of the chain, and then these
split : (q n index head : ℕ) (a : Ask) (ds : List ℕ) → (front : List Store) × (stores_with (the_ring q n) index head a ds ≡ front ++ offer_stores (the_ring q n) index head)
split q n index head a ds =
    let front : List Store = buffer_stores (the_ring q n) (buffer_at q head) a in
    let chain : List Store = chain_stores (the_ring q n) (pieces (buffer_at q head) a) ds in
    (front ++ chain, sym (append_assoc front chain (offer_stores (the_ring q n) index head)))

-- a request's stores end with the offer's two
pub front_stores : (q n index head body status : ℕ) (a : Ask) (b : Bool) → (front : List Store) × (request_stores (the_ring q n) index a (chain_of b head body status) ≡ front ++ offer_stores (the_ring q n) index head)
front_stores q n index head body status a true = split q n index head a (head ∷ body ∷ status ∷ [])
front_stores q n index head body status a false = split q n index head a (head ∷ status ∷ [])

pub guest_chained : (q : ℕ) (h : Header1) (s : Scene) (v : Driver) (w : Waiting) (count : ℕ) → IsGood h → h.capacity ≤ 4096 → q < 65536 → Known q h.size h.capacity s.past (s.heads q) → Driven q h.size h.capacity h.base s.past (s.heads q) v
    → IsWaiting q h.size h.capacity s.past (s.heads q) v w → length w.left ≤ count → IsPrepared q h.size s.memory v w → Chained q h.size s v → Chained q h.size (after_items h (guest_items count q w.ask w.left) s) (offered_driver v)
guest_chained q h s v w count good few numbered known driven waits whole ready c =
    let n : ℕ = h.size in
    let r : Asked = request_of w.ask in
    let up : w.head < ready.body = ready.up in
    let within : ready.body ≤ ready.status = ready.within in
    let all : List Store = request_stores (the_ring q n) v.avail_idx w.ask (chain_of (has_data w.ask) w.head ready.body ready.status) in
    let m : Bytes = put_all w.left s.memory in
    let from_all : m ≡ put_all all s.memory = ap (put_all w.left) (sym ready.stand) ∙ sym (put_append ready.made w.left s.memory) ∙ ap (λ (sts : List Store). put_all sts s.memory) ready.stores in
    let ends = front_stores q n v.avail_idx w.head ready.body ready.status w.ask (has_data w.ask) in
    let offer : List Store = offer_stores (the_ring q n) v.avail_idx w.head in
    let from_offer : m ≡ put_all offer (put_all ends.0 s.memory) = from_all ∙ ap (λ (sts : List Store). put_all sts s.memory) ends.1 ∙ put_append ends.0 offer s.memory in
    let index : v.avail_idx < 65536 = omega (arith, driven.index) in
    let small : n ≤ 64 = good.size.small in
    let shows : last_head (the_ring q n) m ≡ w.head = ap (last_head (the_ring q n)) from_offer ∙ offer_shows q n v.avail_idx w.head (put_all ends.0 s.memory) index (omega (arith, waits.below)) in
    let mine : AreMine q v.owner w.head w.left = all_last (λ (st : Store). IsMine q v.owner w.head st.place st.bytes) ready.made w.left (all_mine q h.size h.capacity s.past (s.heads q) s.memory v w good.size waits ready) in
    let made : HasChain q m w.head ready.body ready.status r = subst (λ (x : Bytes). HasChain q x w.head ready.body ready.status r) (sym from_all)
    (stores_make q n h.capacity v.avail_idx w.head ready.body ready.status w.ask s.memory numbered good.size few waits.wide up ready.upper ready.none ready.fits) in
    let past : List Entry = entries.Offer q r ∷ s.past in
    let heads : List ℕ = s.heads q ++ w.head ∷ [] in
    let next : Scene = record { memory = m; past = past; heads = with_at s.heads q heads; descriptors = with_last s.descriptors q (chain_in (the_ring q n) m w.head) } in
    let own : heads ≡ next.heads q = sym (at_own s.heads q heads) in
    let each : (k : ℕ) → IsOut q past heads k → IsLinked q n v.owner m (slice_index heads k) (asked past q k) = λ k out. elim (cases_lt k (length (s.heads q))) [
      | inl low ↦
          let out_k : IsOut q s.past (s.heads q) k = record { below = low; kept = out.kept } in
          let was : IsLinked q n v.owner m (slice_index (s.heads q) k) (asked s.past q k) = other_linked q h s v w w.left k good known driven waits mine out_k (c.linked k out_k) in
          subst (λ (x : ℕ). IsLinked q n v.owner m x (asked past q k)) (sym (same_head (s.heads q) w.head k low))
          (subst (λ (o : Option Asked). IsLinked q n v.owner m (slice_index (s.heads q) k) o) (sym (same_asked q s.past r k (omega (arith, known.offers_are)))) was)
      | inr high ↦
          let longer : length heads ≡ length (s.heads q) + 1 = length_push (s.heads q) w.head in
          let last : k ≡ length (s.heads q) = omega (arith, longer, out.below) in
          let here : slice_index heads k ≡ w.head = ap (slice_index heads) last ∙ new_head (s.heads q) w.head in
          subst (λ (x : ℕ). IsLinked q n v.owner m x (asked past q k)) (sym here) (record {
            body = ready.body;
            status = ready.status;
            body_fits = omega (arith, ready.fits);
            status_fits = ready.fits;
            body_mine = ready.body_mine;
            status_mine = ready.status_mine;
            request = r;
            is = new_asked q s.past r k (omega (arith, last, known.offers_are));
            stands = made;
          })
    ] in
    let stands : Chained q n next (offered_driver v) = record {
      linked = λ k out. subst (λ (hs : List ℕ). IsLinked q n v.owner m (slice_index hs k) (asked past q k)) own (each k (subst (λ (hs : List ℕ). IsOut q past hs k) (sym own) out));
      waits = tt;
    } in
    let shown : Chained q n (after_item h (items.Made (entries.Offer q r)) (record s { memory = m })) (offered_driver v) =
    subst (λ (x : ℕ). Chained q n (record { memory = m; past = past; heads = with_last s.heads q x; descriptors = with_last s.descriptors q (chain_in (the_ring q n) m x) }) (offered_driver v)) (sym shows) stands in
    subst (λ (x : Scene). Chained q n x (offered_driver v)) (sym (guest_scene q h count w.ask w.left s ready.some whole)) shown
