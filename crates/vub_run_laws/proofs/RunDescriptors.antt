-- Split chains. The descriptors that history keeps of each request that is offered and not collected are its chain in memory.
use Rattle.std.proofs.Common.{◌≡◌, ◌≤◌, ◌<◌, ℕ, zero, suc, ◌+◌, Bool, true, false, not, cond, List, [], ◌∷◌, ◌++◌, length, take, drop, refl, ap, sym, ◌∙◌, subst, inl, inr, arith}
use Rattle.std.specs.Prelude.{Option, Some, None, ◌==◌, ◌&&◌, bit_and, get_or, slice_index, is_some, if◌then◌else◌}
use Rattle.std.specs.List.{AllByRecursion}
use Rattle.std.proofs.lemmas.Bool.{cases_lt, cases_eq}
use Rattle.std.proofs.lemmas.Bool.Decides.{nat_tests}
use Rattle.std.proofs.lemmas.List.{length_push, get_or_append_left, get_or_push, take-append-drop}
use Rattle.vub_base.specs.declared.header.Header1.{Header1}
use Rattle.vub_base.specs.declared.request.Shape.{Shape}
use Rattle.vub_base.specs.declared.request.Shape.TheVariants.{Direct}
use Rattle.vub_shared.specs.Bytes.{Bytes}
use Rattle.vub_shared.specs.Stores.{Store}
use Rattle.vub_steps.specs.declared.readiness.Turn.{Turn}
use Rattle.vub_steps.specs.declared.readiness.Turn.TheVariants as readiness
use Rattle.vub_ring.specs.Ring.{seen}
use Rattle.vub_driver.specs.Drivers.{Driver, Waiting, can_take}
use Rattle.vub_driver.specs.Layout.{status_place}
use Rattle.vub_driver.specs.Requests.{Piece, readable_piece, writable_piece, write_flag}
use Rattle.vub_driver.specs.TableChain.{names_next, desc_next, chain_from, chain_in}
use Rattle.vub_device.specs.declared.entry.Asked.{Asked}
use Rattle.vub_device.specs.declared.entry.Entry.TheVariants as entries
use Rattle.vub_device.specs.Past.{asked, accepted, collected, is_among}
use Rattle.vub_device.specs.Requests.{request_of}
use Rattle.vub_direct_chain.specs.ChainState.{desc_of, data_of}
use Rattle.vub_schedule.specs.declared.types.Event.{Event}
use Rattle.vub_schedule.specs.declared.types.Event.TheVariants as events
use Rattle.vub_schedule.specs.Spelling.{IsEvent}
use Rattle.vub_report.specs.declared.items.Item.{Item}
use Rattle.vub_report.specs.declared.items.Item.TheVariants as items
use Rattle.vub_run.specs.Memory.{Scene, shown_head, after_item, after_items}
use Rattle.vub_run.specs.Moments.{Moment, opening}
use Rattle.vub_run.specs.Run.{Played, played, if_ready, guest, guest_stores, ask, collect, take_first, boot, join, one_turn, is_due, then_played, turns, single, up_to, any_choice, drain_choice, Drains, Plays, kill}
use Rattle.vub_run.specs.Turns.{turned}
use Rattle.vub_run_laws.proofs.RunOwn.{at_own}
use Rattle.vub_run_laws.proofs.RunQueues.{IsOn}
use Rattle.vub_run_laws.proofs.RingGood.{the_ring, IsWaiting}
use Rattle.vub_run_laws.proofs.RunGood.{IsWide, IsOut}
use Rattle.vub_run_laws.proofs.RunOffers.{same_head, new_head}
use Rattle.vub_run_laws.proofs.RunGuests.{waits_well}
use Rattle.vub_run_laws.proofs.RunTaken.{IsTaken, next_number, later_out}
use Rattle.vub_run_laws.proofs.RunTurns.{IsPlain, Good}
use Rattle.vub_run_laws.proofs.RunEvents.{turn_right}
use Rattle.vub_run_laws.proofs.RunFrames.{none_out}
use Rattle.vub_run_laws.proofs.RunChains.{buffer_at, has_body, chain_of, HasDesc, HasChain}
use Rattle.vub_run_laws.proofs.RunChainsStores.{put_all}
use Rattle.vub_run_laws.proofs.RunChainsMade.{all_first, all_last, IsMine, AreMine}
use Rattle.vub_run_laws.proofs.RunChainsGentle.{IsGentle}
use Rattle.vub_run_laws.proofs.RunChainsTurns.{IsLinked, IsPrepared, PreparedWell, Chained, all_mine, turn_gentle}
use Rattle.vub_run_laws.proofs.RunChainsGuests.{chain_stays, part_scene, guest_scene}
use Rattle.vub_run_laws.proofs.RunChainsEvents.{ChainedAt, one_turn_chained}
use Rattle.vub_run_laws.proofs.RunsLegal.{HoldsOf}
use Rattle.vub_run_laws.proofs.RunQuiet.{turned_quiet, quiet_kept}
use Rattle.vub_run_laws.proofs.RunQueue.{head_below, head_owned, queue_first}

-- ---- what holds

pub record Described (q n : ℕ) (s : Scene) : Type 0 where
  pub many : length (s.descriptors q) ≡ length (s.heads q)
  pub stands : (k : ℕ) → IsOut q s.past (s.heads q) k → get_or (s.descriptors q) k [] ≡ chain_in (the_ring q n) s.memory (slice_index (s.heads q) k)

abbrev pub DescribedAt : ℕ → Header1 → Moment → Type 0
DescribedAt q h m = Described q h.size m.scene

-- ---- a chain that stands in memory, as the table tells it

flags_some : (w : Bool) → not (bit_and (write_flag w + 1) 1 == 0) ≡ true
flags_some true = refl
flags_some false = refl

flags_none : (w : Bool) → not (bit_and (write_flag w + 0) 1 == 0) ≡ false
flags_none true = refl
flags_none false = refl

take_none : (k : ℕ) → take {A = ℕ} k [] ≡ []
take_none zero = refl
take_none (suc k) = refl

last_is : (q n more : ℕ) (m : Bytes) (d : ℕ) (p : Piece) → HasDesc q m d (desc_of p None) → chain_from more (the_ring q n) m d ≡ take more (d ∷ [])
last_is q n zero m d p h = refl
last_is q n (suc more) m d p h =
    let ends : names_next (the_ring q n) m d ≡ false = ap (λ (f : ℕ). not (bit_and f 1 == 0)) h.flags ∙ flags_none p.writable in
    ap (λ (b : Bool). d ∷ (if b then chain_from more (the_ring q n) m (desc_next (the_ring q n) m d) else [])) ends ∙ ap (λ (xs : List ℕ). d ∷ xs) (sym (take_none more))

link_is : (q n more : ℕ) (m : Bytes) (d e : ℕ) (p : Piece) (rest : List ℕ) → HasDesc q m d (desc_of p (Some e)) → ((k : ℕ) → chain_from k (the_ring q n) m e ≡ take k rest) → chain_from more (the_ring q n) m d ≡ take more (d ∷ rest)
link_is q n zero m d e p rest h tail = refl
link_is q n (suc more) m d e p rest h tail =
    let follows : names_next (the_ring q n) m d ≡ true = ap (λ (f : ℕ). not (bit_and f 1 == 0)) h.flags ∙ flags_some p.writable in
    let next : desc_next (the_ring q n) m d ≡ e = h.next in
    ap (λ (b : Bool). d ∷ (if b then chain_from more (the_ring q n) m (desc_next (the_ring q n) m d) else [])) follows
    ∙ ap (λ (x : ℕ). d ∷ chain_from more (the_ring q n) m x) next
    ∙ ap (λ (xs : List ℕ). d ∷ xs) (tail more)

-- its descriptors, in order
chain_is : (q n more : ℕ) (m : Bytes) (head body status : ℕ) (r : Asked) → HasChain q m head body status r → chain_from more (the_ring q n) m head ≡ take more (chain_of (has_body r) head body status)
chain_is q n more m head body status r c = go (has_body r) refl
  where
    first : Piece
    first = readable_piece (buffer_at q head) 16

    last : (k : ℕ) → chain_from k (the_ring q n) m status ≡ take k (status ∷ [])
    last k = last_is q n k m status (writable_piece (status_place (buffer_at q head)) 1) c.last

    go : (b : Bool) → has_body r ≡ b → chain_from more (the_ring q n) m head ≡ take more (chain_of b head body status)
    go true some = link_is q n more m head body first (body ∷ status ∷ []) c.first (λ k. link_is q n k m body status (data_of (buffer_at q head) r) (status ∷ []) (c.middle some) last)
    go false none = link_is q n more m head body first (status ∷ []) c.first (λ k. ap (chain_from k (the_ring q n) m) (c.none none) ∙ last k)

-- they are the same in two memories where the chain stands
chain_same : (q n : ℕ) (m m' : Bytes) (head body status : ℕ) (r : Asked) → HasChain q m head body status r → HasChain q m' head body status r → chain_in (the_ring q n) m head ≡ chain_in (the_ring q n) m' head
chain_same q n m m' head body status r c c' = chain_is q n n m head body status r c ∙ sym (chain_is q n n m' head body status r c')

-- each of them belongs to the head
among_owned : (owner : ℕ → Option ℕ) (head : ℕ) (xs : List ℕ) (d : ℕ) → AllByRecursion (λ (x : ℕ). owner x ≡ Some head) xs → is_among xs d ≡ true → owner d ≡ Some head
among_owned owner head [] d all held = absurd (let fails : false ≡ true = held in cc)
among_owned owner head (x ∷ xs) d all held = elim (cases_eq x d) [
  | inl same ↦ ap owner (sym same) ∙ all.0
  | inr apart ↦ let rest : is_among xs d ≡ true = grind (arith, nat_tests) in among_owned owner head xs d all.1 rest
]

pub chain_owned : (q n : ℕ) (owner : ℕ → Option ℕ) (m : Bytes) (head d : ℕ) (o : Option Asked) → owner head ≡ Some head → IsLinked q n owner m head o → is_among (chain_in (the_ring q n) m head) d ≡ true → owner d ≡ Some head
chain_owned q n owner m head d o mine l held =
    let mine_too : ℕ → Type 0 = λ x. owner x ≡ Some head in
    let ds : List ℕ = chain_of (has_body l.request) head l.body l.status in
    let each : (b : Bool) → AllByRecursion mine_too (chain_of b head l.body l.status) = λ b. elim b as (λ (b : Bool). AllByRecursion mine_too (chain_of b head l.body l.status)) [ true ↦ (mine, (l.body_mine, (l.status_mine, tt))) | false ↦ (mine, (l.status_mine, tt)) ] in
    let all : AllByRecursion mine_too (take n ds) = all_first mine_too (take n ds) (drop n ds) (subst (λ (xs : List ℕ). AllByRecursion mine_too xs) (sym (take-append-drop n ds)) (each (has_body l.request))) in
    among_owned owner head (take n ds) d all (ap (λ (xs : List ℕ). is_among xs d) (sym (chain_is q n n m head l.body l.status l.request l.stands)) ∙ held)

-- ---- the driver's stores

-- they leave the chains of others
other_same : (q : ℕ) (h : Header1) (m : Moment) (w : Waiting) (sts : List Store) (k : ℕ) → IsPlain h → Good q h m → ChainedAt q h m → IsWaiting q h.size h.capacity m.scene.past (m.scene.heads q) (m.lanes q).driver w → AreMine q (m.lanes q).driver.owner w.head sts
    → IsOut q m.scene.past (m.scene.heads q) k → chain_in (the_ring q h.size) m.scene.memory (slice_index (m.scene.heads q) k) ≡ chain_in (the_ring q h.size) (put_all sts m.scene.memory) (slice_index (m.scene.heads q) k)
other_same q h m w sts k plain good c waits mine out =
    let s : Scene = m.scene in
    let v : Driver = (m.lanes q).driver in
    let head : ℕ = slice_index (s.heads q) k in
    let was : IsLinked q h.size v.owner s.memory head (asked s.past q k) = c.linked k out in
    let small : h.size ≤ 64 = plain.good.size.small in
    let below : head < h.size = head_below q h m.scene (m.lanes q).driver (m.lanes q).bell (m.lanes q).plan (m.lanes q).counter (m.lanes q).batch (m.lanes q).phase k good.holds.queue out in
    let body : was.body < h.size = was.body_fits in
    let status : was.status < h.size = was.status_fits in
    let wide : IsWide h.capacity (Some was.request) = subst (λ (o : Option Asked). IsWide h.capacity o) was.is (good.holds.known.wide k out.below) in
    chain_same q h.size s.memory (put_all sts s.memory) head was.body was.status was.request was.stands
    (chain_stays q h.capacity v.owner w.head head was.body was.status was.request sts s.memory wide (omega arith) (omega arith) (omega arith) (waits.apart k out) (head_owned q h m.scene (m.lanes q).driver (m.lanes q).bell (m.lanes q).plan (m.lanes q).counter (m.lanes q).batch (m.lanes q).phase k good.holds.queue out) was.body_mine was.status_mine mine was.stands)

stored_described : (q : ℕ) (h : Header1) (m : Moment) (w : Waiting) (sts : List Store) → IsPlain h → Good q h m → ChainedAt q h m → IsWaiting q h.size h.capacity m.scene.past (m.scene.heads q) (m.lanes q).driver w → AreMine q (m.lanes q).driver.owner w.head sts → DescribedAt q h m
    → Described q h.size (record m.scene { memory = put_all sts m.scene.memory })
stored_described q h m w sts plain good c waits mine x = record { many = x.many; stands = λ k out. x.stands k out ∙ other_same q h m w sts k plain good c waits mine out }

-- an offer adds the chain that stands in memory
offer_described : (q : ℕ) (h : Header1) (s : Scene) (r : Asked) → Described q h.size s → Described q h.size (after_item h (items.Made (entries.Offer q r)) s)
offer_described q h s r x =
    let s' : Scene = after_item h (items.Made (entries.Offer q r)) s in
    let heads : List ℕ = s.heads q in
    let head : ℕ = shown_head h q s.memory in
    let ds : List ℕ = chain_in (the_ring q h.size) s.memory head in
    let heads' : List ℕ = heads ++ head ∷ [] in
    let lists' : List (List ℕ) = s.descriptors q ++ ds ∷ [] in
    let own : s'.heads q ≡ heads' = at_own s.heads q heads' in
    let own_too : s'.descriptors q ≡ lists' = at_own s.descriptors q lists' in
    let longer : length heads' ≡ length heads + 1 = length_push heads head in
    let more : length lists' ≡ length (s.descriptors q) + 1 = length_push (s.descriptors q) ds in
    let as_many : length lists' ≡ length heads' = omega (arith, longer, more, x.many) in
    let each : (k : ℕ) → IsOut q s'.past heads' k → get_or lists' k [] ≡ chain_in (the_ring q h.size) s.memory (slice_index heads' k) = λ k out. elim (cases_lt k (length heads)) [
      | inl low ↦
          get_or_append_left (s.descriptors q) (ds ∷ []) [] k (omega (arith, low, x.many))
          ∙ x.stands k (record { below = low; kept = out.kept })
          ∙ ap (chain_in (the_ring q h.size) s.memory) (sym (same_head heads head k low))
      | inr high ↦
          let last : k ≡ length heads = omega (arith, longer, out.below) in
          let here : slice_index heads' k ≡ head = ap (slice_index heads') last ∙ new_head heads head in
          get_or_push (s.descriptors q) ds [] k (omega (arith, last, x.many)) ∙ ap (chain_in (the_ring q h.size) s.memory) (sym here)
    ] in
    record {
      many = ap length own_too ∙ as_many ∙ sym (ap length own);
      stands = λ k out.
          ap (λ (xs : List (List ℕ)). get_or xs k []) own_too
          ∙ each k (subst (λ (hs : List ℕ). IsOut q s'.past hs k) own out)
          ∙ ap (λ (hs : List ℕ). chain_in (the_ring q h.size) s.memory (slice_index hs k)) (sym own);
    }

-- some of the stores, or all that are left
guest_described : (q : ℕ) (h : Header1) (count : ℕ) (m : Moment) (w : Waiting) → IsPlain h → Good q h m → ChainedAt q h m → (m.lanes q).driver.waiting ≡ Some w → DescribedAt q h m → DescribedAt q h (guest_stores h q count (Some w) m).next
guest_described q h count m w plain good c waiting x = elim (cases_lt count (length w.left)) [
  | inl part ↦
      let first : AreMine q v.owner w.head (take count w.left) = all_first mine (take count w.left) (drop count w.left) (subst (λ (sts : List Store). AllByRecursion mine sts) (sym (take-append-drop count w.left)) all) in
      subst (λ (s : Scene). Described q h.size s) (sym (part_scene q h count w.ask w.left m.scene part)) (stored_described q h m w (take count w.left) plain good c waits first x)
  | inr whole ↦
      subst (λ (s : Scene). Described q h.size s) (sym (guest_scene q h count w.ask w.left m.scene ready.some (omega (arith, whole))))
      (offer_described q h (record m.scene { memory = put_all w.left m.scene.memory }) (request_of w.ask) (stored_described q h m w w.left plain good c waits all x))
]
  where
    v : Driver
    v = (m.lanes q).driver

    waits : IsWaiting q h.size h.capacity m.scene.past (m.scene.heads q) v w
    waits = waits_well q h m.scene (m.lanes q) w waiting good.holds

    ready : IsPrepared q h.size m.scene.memory v w
    ready = subst (λ (o : Option Waiting). PreparedWell q h.size m.scene.memory v o) waiting c.waits

    mine : Store → Type 0
    mine st = IsMine q v.owner w.head st.place st.bytes

    all : AreMine q v.owner w.head w.left
    all = all_last mine ready.made w.left (all_mine q h.size h.capacity m.scene.past (m.scene.heads q) m.scene.memory v w plain.good.size waits ready)

guest_all : (q : ℕ) (h : Header1) (count : ℕ) (m : Moment) → IsPlain h → Good q h m → ChainedAt q h m → DescribedAt q h m → DescribedAt q h (guest h q count m).next
guest_all q h count m plain good c x = go (m.lanes q).driver.waiting refl
  where
    go : (o : Option Waiting) → (m.lanes q).driver.waiting ≡ o → DescribedAt q h (if_ready (is_some o) (guest_stores h q count o m) m).next
    go None e = x
    go (Some w) e = guest_described q h count m w plain good c e x

-- ---- a collection

collect_all : (q : ℕ) (h : Header1) (m : Moment) → IsPlain h → Good q h m → DescribedAt q h m → DescribedAt q h (collect h q m).next
collect_all q h m plain good c = go (seen (the_ring q h.size) m.scene.memory (h.base + collected m.scene.past q)) refl
  where
    go : (xs : List (ℕ × ℕ)) → seen (the_ring q h.size) m.scene.memory (h.base + collected m.scene.past q) ≡ xs → DescribedAt q h (take_first h q xs m).next
    go [] e = c
    go (x ∷ xs) e =
        let t : IsTaken q h m.scene (m.lanes q) x.0 = queue_first q h m.scene (m.lanes q) x xs plain.good good.holds e in
        record { many = c.many; stands = λ k out. c.stands k (later_out q h m.scene (m.lanes q) x.0 k (next_number q m.scene) t out).0 }

-- ---- turns

gentle_described : (q n : ℕ) (s s' : Scene) (v : Driver) → s'.descriptors ≡ s.descriptors → IsGentle q n s s' → Chained q n s v → Described q n s → Described q n s'
gentle_described q n s s' v same g c x = record {
  many = ap (λ (f : ℕ → List (List ℕ)). length (f q)) same ∙ x.many ∙ sym (ap length g.heads);
  stands = λ k out.
      let before : IsOut q s.past (s.heads q) k = g.out k (subst (λ (hs : List ℕ). IsOut q s'.past hs k) g.heads out) in
      let head : ℕ = slice_index (s.heads q) k in
      let was : IsLinked q n v.owner s.memory head (asked s.past q k) = c.linked k before in
      let now : HasChain q s'.memory head was.body was.status was.request = g.chain k was.body was.status was.request before was.body_fits was.status_fits was.is was.stands in
      ap (λ (f : ℕ → List (List ℕ)). get_or (f q) k []) same
      ∙ x.stands k before
      ∙ chain_same q n s.memory s'.memory head was.body was.status was.request was.stands now
      ∙ ap (λ (hs : List ℕ). chain_in (the_ring q n) s'.memory (slice_index hs k)) (sym g.heads);
}

one_turn_described : (q : ℕ) (h : Header1) (t : Turn) (m : Moment) → IsPlain h → Good q h m → ChainedAt q h m → DescribedAt q h m → DescribedAt q h (one_turn h q t m).next
one_turn_described q h t m plain good c x =
    gentle_described q h.size m.scene (after_items h (turned h q t m).items m.scene) (m.lanes q).driver (quiet_kept h m.scene (turned h q t m).items (turned_quiet q h t m)) (turn_gentle q h t m plain good) c x

turns_described : (q count : ℕ) (choose : Moment → Turn) (h : Header1) (m : Moment) → IsPlain h → Good q h m → ChainedAt q h m → DescribedAt q h m → DescribedAt q h (turns count choose h q m).next
turns_described q zero choose h m plain good c x = x
turns_described q (suc count) choose h m plain good c x = go (is_due h q (choose m) m) refl (λ good' c' x'. turns_described q count choose h (one_turn h q (choose m) m).next plain good' c' x')
  where
    N : Moment
    N = (one_turn h q (choose m) m).next

    go : (b : Bool) → is_due h q (choose m) m ≡ b → (Good q h N → ChainedAt q h N → DescribedAt q h N → DescribedAt q h (turns count choose h q N).next)
        → DescribedAt q h (cond {A = Played} b (then_played (one_turn h q (choose m) m) (turns count choose h q (one_turn h q (choose m) m).next)) (played [] m)).next
    go true due rest = rest (turn_right q h (choose m) m plain good due).good (one_turn_chained q h (choose m) m plain good c) (one_turn_described q h (choose m) m plain good c x)
    go false due rest = x

-- ---- any event

tested : (q : ℕ) (h : Header1) (m : Moment) (ready : Bool) (p : Played) → DescribedAt q h m → (ready ≡ true → DescribedAt q h p.next) → DescribedAt q h (if_ready ready p m).next
tested q h m true p x made = made refl
tested q h m false p x made = x

made_described : (q : ℕ) (h : Header1) (is : List Item) (next : Moment) (p : Played) → played is next ≡ p → DescribedAt q h p.next → DescribedAt q h next
made_described q h is next p e x = subst (λ (n : Moment). DescribedAt q h n) (sym (ap (λ (y : Played). y.next) e)) x

drain_described : (q : ℕ) (h : Header1) (m : Moment) (choose : Moment → Turn) (is : List Item) (next : Moment) → IsPlain h → Good q h m → ChainedAt q h m → DescribedAt q h m → Drains h q m choose is next → DescribedAt q h next
drain_described q h m choose is next plain good c x (inl none) = made_described q h is next (played (items.Idle ∷ []) m) none.1 x
drain_described q h m choose is next plain good c x (inr some) = made_described q h is next (turns some.1.count choose h q m) some.1.made (turns_described q some.1.count choose h m plain good c x)

single_described : (q : ℕ) (h : Header1) (t : Turn) (m : Moment) → IsPlain h → Good q h m → ChainedAt q h m → DescribedAt q h m → DescribedAt q h (single h q t m).next
single_described q h t m plain good c x = tested q h m (is_due h q t m) (one_turn h q t m) x (λ due. one_turn_described q h t m plain good c x)

up_to_described : (q count : ℕ) (choose : Moment → Turn) (h : Header1) (m : Moment) → IsPlain h → Good q h m → ChainedAt q h m → DescribedAt q h m → DescribedAt q h (up_to count choose h q m).next
up_to_described q count choose h m plain good c x = tested q h m (is_due h q (choose m) m) (turns count choose h q m) x (λ due. turns_described q count choose h m plain good c x)

-- after an event of the queue
pub event_described : (q : ℕ) (h : Header1) (m : Moment) (e : Event) (is : List Item) (next : Moment) → IsPlain h → HoldsOf q h m → DescribedAt q h m → IsOn q e → IsEvent h e → Plays h m e is next → DescribedAt q h next
event_described q h m (events.Ask p shape a) is next plain held x on fits plays =
    let P : ℕ → Shape → Type 0 = λ p sh. Plays h m (events.Ask p sh a) is next in
    let here : P q Direct = subst (λ (sh : Shape). P q sh) fits.1 (subst (λ (p : ℕ). P p shape) on plays) in
    made_described q h is next (ask h q Direct a m) here (tested q h m (can_take h.size Direct a (m.lanes q).driver) _ x (λ ready. x))
event_described q h m (events.Guest p k) is next plain held x on fits plays =
    let here : Plays h m (events.Guest q k) is next = subst (λ (p : ℕ). Plays h m (events.Guest p k) is next) on plays in
    made_described q h is next (guest h q k m) here (guest_all q h k m plain held.good held.chained x)
event_described q h m (events.Collect p) is next plain held x on fits plays =
    let here : Plays h m (events.Collect q) is next = subst (λ (p : ℕ). Plays h m (events.Collect p) is next) on plays in
    made_described q h is next (collect h q m) here (collect_all q h m plain held.good x)
event_described q h m events.Boot is next plain held x on fits plays = made_described q h is next (boot m) plays (tested q h m (not m.lives) _ x (λ ready. x))
event_described q h m events.Join is next plain held x on fits plays = made_described q h is next (join m) plays (tested q h m (m.lives && not m.joined) _ x (λ ready. x))
event_described q h m events.Kill is next plain held x on fits plays =
    made_described q h is next (kill h m) plays (tested q h m m.lives _ x (λ ready. record { many = x.many; stands = λ k out. x.stands k (record { below = out.below; kept = out.kept }) }))
event_described q h m (events.Start p) is next plain held x on fits plays =
    let here : Plays h m (events.Start q) is next = subst (λ (p : ℕ). Plays h m (events.Start p) is next) on plays in
    made_described q h is next (single h q readiness.Start m) here (single_described q h readiness.Start m plain held.good held.chained x)
event_described q h m (events.Fetch p) is next plain held x on fits plays =
    let here : Plays h m (events.Fetch q) is next = subst (λ (p : ℕ). Plays h m (events.Fetch p) is next) on plays in
    made_described q h is next (single h q readiness.Fetch m) here (single_described q h readiness.Fetch m plain held.good held.chained x)
event_described q h m (events.Work p place) is next plain held x on fits plays =
    let here : Plays h m (events.Work q place) is next = subst (λ (p : ℕ). Plays h m (events.Work p place) is next) on plays in
    made_described q h is next (single h q (readiness.Work place) m) here (single_described q h (readiness.Work place) m plain held.good held.chained x)
event_described q h m (events.Publish p most) is next plain held x on fits plays =
    let here : Plays h m (events.Publish q most) is next = subst (λ (p : ℕ). Plays h m (events.Publish p most) is next) on plays in
    made_described q h is next (single h q (readiness.Publish most) m) here (single_described q h (readiness.Publish most) m plain held.good held.chained x)
event_described q h m (events.Turn p count) is next plain held x on fits plays =
    let here : Plays h m (events.Turn q count) is next = subst (λ (p : ℕ). Plays h m (events.Turn p count) is next) on plays in
    made_described q h is next (up_to count (any_choice h q) h q m) here (up_to_described q count (any_choice h q) h m plain held.good held.chained x)
event_described q h m (events.Drain p) is next plain held x on fits plays =
    let here : Plays h m (events.Drain q) is next = subst (λ (p : ℕ). Plays h m (events.Drain p) is next) on plays in
    drain_described q h m (drain_choice h q (accepted m.scene.past q)) is next plain held.good held.chained x here

-- where every run begins
pub opening_described : (q : ℕ) (h : Header1) → DescribedAt q h (opening h)
opening_described q h = record { many = refl; stands = λ k out. absurd (none_out q k out) }
