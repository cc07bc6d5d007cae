-- The spaces of a session stay those that were handed out.
use Rattle.std.proofs.Common.{◌≡◌, ◌≢◌, ℕ, suc, ◌≤◌, Bool, true, false, List, [], ◌∷◌, length, Option, Some, None, refl, sym, ◌∙◌, ap, subst, arith}
use Rattle.std.specs.Prelude.{◌==◌, ◌||◌, if◌then◌else◌, option_map, is_some}
use Rattle.std.specs.Prelude.{All, slice_index_or}
use Rattle.std.proofs.lemmas.Bool.Decides.{nat_tests}
use Rattle.std.proofs.lemmas.Option.{slice_get-get_or}
use Rattle.vub_blkreq.specs.declared.config.DeviceConfig.{DeviceConfig}
use Rattle.vub_session.specs.Finds.{AreAnswered, AreFound}
use Rattle.std.proofs.lemmas.List.Elements.{All-nil, All-cons}
use Rattle.std.specs.Option.{ForSome}
use Rattle.vub_memtable.specs.Tables.{fault_of}
use Rattle.vub_memtable.specs.declared.region.Mapped.{Mapped}
use Rattle.vub_memtable.specs.declared.region.Region.{Region}
use Rattle.vub_session.specs.Lies.{AreHeld, AreSized, IsFoundHeld, IsMappedHeld, RegionHeld, RegionSized}
use Rattle.vub_session.specs.Ready.{attach, bad_ring}
use Rattle.vub_session.specs.State.{is_running, new_state, new_terms, ring_at, ring_of, with_ring}
use Rattle.vub_session.proofs.SoundLemmas.{set_region}
use Rattle.vub_session.specs.Table.{Step, answered, base_reply, config_reply, inflight_reply, is_config_part, has_inflight_numbers, mapped, next_terms, ring_with_addresses, ring_with_base, ring_with_call, ring_with_enable, ring_with_kick, ring_with_size, settled, settled_over, step, stopped, stopped_ring, table_set, unless_bad, with_addresses, with_base, with_base_reply, with_call, with_enable, with_err, with_features, with_found_region, with_kick, with_protocol, with_region, with_size}
use Rattle.vub_session.specs.declared.finding.Found.{Found}
use Rattle.vub_session.specs.declared.state.Addresses.{Addresses}
use Rattle.vub_session.specs.declared.state.KeptRegion.{KeptRegion}
use Rattle.vub_session.specs.declared.state.Ring.{Ring}
use Rattle.vub_session.specs.declared.state.State.{State}
use Rattle.vub_session.specs.declared.state.Terms.{Terms}
use Rattle.vub_shared.specs.Bytes.{Bytes}
use Rattle.vub_shared.specs.Spaces.{HandsNew, KeepsHanded, Names}
use Rattle.vub_shared.specs.Stores.{Store}
use Rattle.vub_wire.specs.declared.messages.Config.{Config}
use Rattle.vub_wire.specs.declared.messages.Header.{Header}
use Rattle.vub_wire.specs.declared.messages.Inflight.{Inflight}
use Rattle.vub_wire.specs.declared.messages.Message.{Message}
use Rattle.vub_wire.specs.declared.messages.Message.TheVariants as messages
use Rattle.vub_wire.specs.declared.numbers.TheConstants.{SET_MEM_TABLE}

-- ---- the memory table

mapped_held : (h : ℕ → Bool) (z : ℕ → ℕ) (rs : List Region) (fs : List Found) → All (IsFoundHeld h z) fs → All (IsMappedHeld h z) (mapped rs fs)
mapped_held h z [] fs all = All-nil (IsMappedHeld h z)
mapped_held h z (r ∷ rs) [] all = All-nil (IsMappedHeld h z)
mapped_held h z (r ∷ rs) (f ∷ fs) all =
    All-cons (IsMappedHeld h z) (record { region = r; space = f.space; space_size = f.size }) (mapped rs fs) (all 0 f (omega arith)) (mapped_held h z rs fs (λ k d below. all (suc k) d (omega arith)))

-- ---- what is settled

attach_region : (t : Terms) → (attach t).region ≡ t.region
unfolding attach
attach_region t = refl

unless_held : (h : ℕ → Bool) (z : ℕ → ℕ) (s : State) (request : ℕ) (t : Terms) (table : List Mapped) (bad : Option ℕ) → AreHeld h z s → All (IsMappedHeld h z) table → RegionHeld h z t.region
    → AreHeld h z (unless_bad s request t table bad).next
unless_held h z s request t table None old all region = record {
  table = all;
  region = let P : Option KeptRegion → Type 0 = λ r. RegionHeld h z r in subst P (sym (attach_region t)) region;
}
unless_held h z s request t table (Some ring) old all region = old

over_held : (h : ℕ → Bool) (z : ℕ → ℕ) (s : State) (request : ℕ) (table : List Mapped) (o : Option Terms) → AreHeld h z s → All (IsMappedHeld h z) table → ForSome o (λ t. RegionHeld h z t.region)
    → AreHeld h z (settled_over s request table o).next
over_held h z s request table None old all region = old
over_held h z s request table (Some t) old all region = unless_held h z s request t table (bad_ring t table s.config.queues) old all (region t refl)

settled_held : (h : ℕ → Bool) (z : ℕ → ℕ) (s : State) (request : ℕ) (o : Option Terms) → AreHeld h z s → ForSome o (λ t. RegionHeld h z t.region) → AreHeld h z (settled s request o).next
unfolding settled
settled_held h z s request o old region = over_held h z s request s.table o old old.table region

-- ---- the region of the terms

abbrev Stays : Option KeptRegion → Option Terms → Type 0
Stays r o = ForSome o (λ t. t.region ≡ r)

none_stays : (r : Option KeptRegion) → Stays r None
none_stays r = λ t e. absurd (cc)

some_stays : (r : Option KeptRegion) (x : Terms) → x.region ≡ r → Stays r (Some x)
some_stays r x is = λ t e. let same : x ≡ t = cc in ap (λ (y : Terms). y.region) (sym same) ∙ is

if_stays : (r : Option KeptRegion) (b : Bool) (x : Terms) → x.region ≡ r → Stays r (if b then None else Some x)
if_stays r true x is = none_stays r
if_stays r false x is = some_stays r x is

size_stays : (t : Terms) (i n : ℕ) (o : Option Ring) → Stays t.region (ring_with_size t i n o)
size_stays t i n None = none_stays t.region
size_stays t i n (Some r) = if_stays t.region _ (with_ring t i (record r { size = Some n })) (set_region t i (record r { size = Some n }))

addresses_stay : (t : Terms) (i : ℕ) (a : Addresses) (o : Option Ring) → Stays t.region (ring_with_addresses t i a o)
addresses_stay t i a None = none_stays t.region
addresses_stay t i a (Some r) = if_stays t.region _ (with_ring t i (record r { addresses = Some a })) (set_region t i (record r { addresses = Some a }))

base_stays : (t : Terms) (i base : ℕ) (o : Option Ring) → Stays t.region (ring_with_base t i base o)
base_stays t i base None = none_stays t.region
base_stays t i base (Some r) = if_stays t.region _ (with_ring t i (record r { base = Some base })) (set_region t i (record r { base = Some base }))

kick_stays : (t : Terms) (i : ℕ) (o : Option Ring) → Stays t.region (ring_with_kick t i o)
kick_stays t i None = none_stays t.region
kick_stays t i (Some r) = some_stays t.region (with_ring t i (record r { has_kick = true })) (set_region t i (record r { has_kick = true }))

call_stays : (t : Terms) (i : ℕ) (bell : Bool) (o : Option Ring) → Stays t.region (ring_with_call t i bell o)
call_stays t i bell None = none_stays t.region
call_stays t i bell (Some r) = some_stays t.region (with_ring t i (record r { has_bell = bell })) (set_region t i (record r { has_bell = bell }))

err_stays : (t : Terms) (o : Option Ring) → Stays t.region (option_map (λ ring. t) o)
err_stays t None = none_stays t.region
err_stays t (Some r) = some_stays t.region t refl

enable_stays : (t : Terms) (i num : ℕ) (o : Option Ring) → Stays t.region (ring_with_enable t i num o)
enable_stays t i num None = none_stays t.region
enable_stays t i num (Some r) = if_stays t.region _ (with_ring t i (record r { is_enabled = num == 1 })) (set_region t i (record r { is_enabled = num == 1 }))

if_region : (h : ℕ → Bool) (z : ℕ → ℕ) (b : Bool) (x : Terms) → RegionHeld h z x.region → ForSome (if b then None else Some x) (λ t. RegionHeld h z t.region)
if_region h z true x held = λ t e. absurd (cc)
if_region h z false x held = λ t e. let same : x ≡ t = cc in let P : Terms → Type 0 = λ y. RegionHeld h z y.region in subst P same held

found_region : (h : ℕ → Bool) (z : ℕ → ℕ) (s : State) (x : Inflight) (found : List Found) → All (IsFoundHeld h z) found → ForSome (with_found_region s x found) (λ t. RegionHeld h z t.region)
found_region h z s x [] all = λ t e. absurd (cc)
found_region h z s x (f ∷ found) all = if_region h z _ _ (all 0 f (omega arith))

stays_held : (h : ℕ → Bool) (z : ℕ → ℕ) (s : State) (o : Option Terms) → AreHeld h z s → Stays s.terms.region o → ForSome o (λ t. RegionHeld h z t.region)
stays_held h z s o old stays = λ t e. let P : Option KeptRegion → Type 0 = λ r. RegionHeld h z r in subst P (sym (stays t e)) old.region

-- ---- the table

terms_held : (h : ℕ → Bool) (z : ℕ → ℕ) (s : State) (m : Message) (found : List Found) → AreHeld h z s → All (IsFoundHeld h z) found → ForSome (next_terms s m found) (λ t. RegionHeld h z t.region)
unfolding next_terms with_features with_protocol with_size with_addresses with_base with_kick with_call with_err with_enable with_region
terms_held h z s (messages.SetFeatures set) found old all = stays_held h z s _ old (if_stays s.terms.region _ (record s.terms { features = set }) refl)
terms_held h z s (messages.SetNum index num) found old all = stays_held h z s _ old (size_stays s.terms index num (ring_of s index))
terms_held h z s (messages.SetAddr index flags desc used avail log) found old all = stays_held h z s _ old (addresses_stay s.terms index (record { desc = desc; avail = avail; used = used }) (ring_of s index))
terms_held h z s (messages.SetBase index num) found old all = stays_held h z s _ old (base_stays s.terms index num (ring_of s index))
terms_held h z s (messages.SetKick word) found old all = stays_held h z s _ old (kick_stays s.terms _ _)
terms_held h z s (messages.SetCall word) found old all = stays_held h z s _ old (call_stays s.terms _ _ _)
terms_held h z s (messages.SetErr word) found old all = stays_held h z s _ old (err_stays s.terms _)
terms_held h z s (messages.SetProtocol set) found old all = stays_held h z s _ old (if_stays s.terms.region _ (record s.terms { protocol = set }) refl)
terms_held h z s (messages.SetEnable index num) found old all = stays_held h z s _ old (enable_stays s.terms index num (ring_of s index))
terms_held h z s (messages.SetInflight x) found old all = found_region h z s x found all
terms_held h z s messages.GetFeatures found old all = λ t e. absurd (cc)
terms_held h z s messages.SetOwner found old all = λ t e. absurd (cc)
terms_held h z s (messages.SetMemTable regions) found old all = λ t e. absurd (cc)
terms_held h z s (messages.GetBase index num) found old all = λ t e. absurd (cc)
terms_held h z s messages.GetProtocol found old all = λ t e. absurd (cc)
terms_held h z s messages.GetQueueNum found old all = λ t e. absurd (cc)
terms_held h z s (messages.GetConfig config) found old all = λ t e. absurd (cc)
terms_held h z s (messages.SetConfig config) found old all = λ t e. absurd (cc)
terms_held h z s (messages.GetInflight x) found old all = λ t e. absurd (cc)
terms_held h z s (messages.Other request) found old all = λ t e. absurd (cc)

table_held : (h : ℕ → Bool) (z : ℕ → ℕ) (s : State) (table : List Mapped) → AreHeld h z s → All (IsMappedHeld h z) table → AreHeld h z (table_set s table).next
unfolding table_set
table_held h z s table old all = over_held h z s SET_MEM_TABLE table _ old all (stays_held h z s _ old (if_stays s.terms.region (is_running s.terms || is_some (fault_of table)) (record s.terms { has_table = true }) refl))

base_next : (h : ℕ → Bool) (z : ℕ → ℕ) (s : State) (index : ℕ) (o : Option Ring) → AreHeld h z s → AreHeld h z (with_base_reply s index o).next
base_next h z s index None old = old
base_next h z s index (Some r) old = old

if_next : (h : ℕ → Bool) (z : ℕ → ℕ) (b : Bool) (x y : Step) → AreHeld h z x.next → AreHeld h z y.next → AreHeld h z (if b then x else y).next
if_next h z true x y a b = a
if_next h z false x y a b = b

config_next : (h : ℕ → Bool) (z : ℕ → ℕ) (s : State) (c : Config) → AreHeld h z s → AreHeld h z (config_reply s c).next
unfolding config_reply
config_next h z s c old = if_next h z (is_config_part c) _ _ old old

inflight_next : (h : ℕ → Bool) (z : ℕ → ℕ) (s : State) (x : Inflight) → AreHeld h z s → AreHeld h z (inflight_reply s x).next
unfolding inflight_reply
inflight_next h z s x old = if_next h z (has_inflight_numbers s x) _ _ old old

row_held : (h : ℕ → Bool) (z : ℕ → ℕ) (s : State) (m : Message) (found : List Found) → AreHeld h z s → All (IsFoundHeld h z) found → AreHeld h z (step s m found).next
unfolding step base_reply
row_held h z s messages.GetFeatures found old all = old
row_held h z s messages.SetOwner found old all = old
row_held h z s (messages.SetMemTable regions) found old all = table_held h z s (mapped regions.items found) old (mapped_held h z regions.items found all)
row_held h z s (messages.GetBase index num) found old all = base_next h z s index (ring_of s index) old
row_held h z s messages.GetProtocol found old all = old
row_held h z s messages.GetQueueNum found old all = old
row_held h z s (messages.GetConfig config) found old all = config_next h z s config old
row_held h z s (messages.SetConfig config) found old all = old
row_held h z s (messages.GetInflight x) found old all = inflight_next h z s x old
row_held h z s (messages.Other request) found old all = old
row_held h z s (messages.SetFeatures set) found old all = settled_held h z s _ _ old (terms_held h z s (messages.SetFeatures set) found old all)
row_held h z s (messages.SetNum index num) found old all = settled_held h z s _ _ old (terms_held h z s (messages.SetNum index num) found old all)
row_held h z s (messages.SetAddr index flags desc used avail log) found old all = settled_held h z s _ _ old (terms_held h z s (messages.SetAddr index flags desc used avail log) found old all)
row_held h z s (messages.SetBase index num) found old all = settled_held h z s _ _ old (terms_held h z s (messages.SetBase index num) found old all)
row_held h z s (messages.SetKick word) found old all = settled_held h z s _ _ old (terms_held h z s (messages.SetKick word) found old all)
row_held h z s (messages.SetCall word) found old all = settled_held h z s _ _ old (terms_held h z s (messages.SetCall word) found old all)
row_held h z s (messages.SetErr word) found old all = settled_held h z s _ _ old (terms_held h z s (messages.SetErr word) found old all)
row_held h z s (messages.SetProtocol set) found old all = settled_held h z s _ _ old (terms_held h z s (messages.SetProtocol set) found old all)
row_held h z s (messages.SetEnable index num) found old all = settled_held h z s _ _ old (terms_held h z s (messages.SetEnable index num) found old all)
row_held h z s (messages.SetInflight x) found old all = settled_held h z s _ _ old (terms_held h z s (messages.SetInflight x) found old all)

-- ---- the laws

pub answered_held : (h : ℕ → Bool) (z : ℕ → ℕ) (s : State) (header : Header) (m : Message) (found : List Found) → AreHeld h z s → All (IsFoundHeld h z) found → AreHeld h z (answered s header m found).0
unfolding answered
answered_held h z s header m found old all = let next = row_held h z s m found old all in record { table = next.table; region = next.region }

kept_region_held : (h h' : ℕ → Bool) (z z' : ℕ → ℕ) (r : Option KeptRegion) → KeepsHanded h z h' z' → RegionHeld h z r → RegionHeld h' z' r
kept_region_held h h' z z' None keeps held = held
kept_region_held h h' z z' (Some r) keeps held = (keeps.handed r.space.number held.0, keeps.sizes r.space.number held.0 ∙ held.1)

pub held_kept : (h h' : ℕ → Bool) (z z' : ℕ → ℕ) (s : State) → KeepsHanded h z h' z' → AreHeld h z s → AreHeld h' z' s
held_kept h h' z z' s keeps held = record {
  table = λ k d below. let one = held.table k d below in (keeps.handed _ one.0, keeps.sizes _ one.0 ∙ one.1);
  region = kept_region_held h h' z z' s.terms.region keeps held.region;
}

sized_region : (h : ℕ → Bool) (z : ℕ → ℕ) (r : Option KeptRegion) → RegionHeld h z r → RegionSized z r
sized_region h z None held = held
sized_region h z (Some r) held = held.1

pub held_sized : (h : ℕ → Bool) (z : ℕ → ℕ) (s : State) → AreHeld h z s → AreSized z s
held_sized h z s held = record { table = λ k d below. (held.table k d below).1; region = sized_region h z s.terms.region held.region }

-- ---- what was found

pub found_held : (told : Option Names) (h : ℕ → Bool) (z : ℕ → ℕ) (names : List (List ℕ)) (fs : List Found) → AreFound told h z names fs → length fs ≤ length names → All (IsFoundHeld h z) fs
found_held told h z names fs found few = λ k d below.
    let one = found k (slice_index_or names k []) (slice_index_or fs k d) (slice_get-get_or names k [] (omega arith)) (slice_get-get_or fs k d below) in
    (one.is_handed, one.sized)

-- ---- what an answer leaves

hands_here : (h h' : ℕ → Bool) (z z' : ℕ → ℕ) (space size k : ℕ) (b : Bool) → (k == space) ≡ b → HandsNew h z h' z' space size → h k ≡ true → (h' k ≡ true) × (z' k ≡ z k)
hands_here h h' z z' space size k true e new is =
    let same : k ≡ space = grind (arith, nat_tests) in
    let was : h space ≡ true = ap h (sym same) ∙ is in
    let fresh : h space ≡ false = new.fresh in
    absurd (cc)
hands_here h h' z z' space size k false e new is = let other : k ≢ space = grind (arith, nat_tests) in (new.handed k other ∙ is, new.sizes k other)

-- a space more leaves those that were handed out
hands_keep : (h h' : ℕ → Bool) (z z' : ℕ → ℕ) (space size : ℕ) → HandsNew h z h' z' space size → KeepsHanded h z h' z'
hands_keep h h' z z' space size new = record {
  handed = λ k is. (hands_here h h' z z' space size k (k == space) refl new is).0;
  sizes = λ k is. (hands_here h h' z z' space size k (k == space) refl new is).1;
}

answered_keeps : {M : Type 0} (told : M → Option Bytes) (trail : M → Option (List Store)) (names : M → Option Names) (handed : M → ℕ → Bool) (sizes : M → ℕ → ℕ) (before now : M) (made : Option ℕ) (count : ℕ) (list : List (List ℕ)) (found : List Found)
    → AreAnswered told trail names handed sizes before now made count list found → KeepsHanded (handed before) (sizes before) (handed now) (sizes now)
answered_keeps told trail names handed sizes before now None count list found a = a.0.keeps
answered_keeps told trail names handed sizes before now (Some size) count list found a = hands_keep (handed before) (handed now) (sizes before) (sizes now) a.0.space.number size a.4.hands

answered_found : {M : Type 0} (told : M → Option Bytes) (trail : M → Option (List Store)) (names : M → Option Names) (handed : M → ℕ → Bool) (sizes : M → ℕ → ℕ) (before now : M) (made : Option ℕ) (count : ℕ) (list : List (List ℕ)) (found : List Found)
    → count ≤ length list → AreAnswered told trail names handed sizes before now made count list found → All (IsFoundHeld (handed now) (sizes now)) found
answered_found told trail names handed sizes before now None count list found few a = let all : length found ≡ count = a.1 in found_held (names before) (handed now) (sizes now) list found a.2 (omega arith)
answered_found told trail names handed sizes before now (Some size) count list found few a =
    let P : Found → Type 0 = IsFoundHeld (handed now) (sizes now) in
    let one : P a.0 = (a.4.hands.joins, a.4.hands.sized ∙ sym a.4.sized) in
    let L : List Found → Type 0 = λ fs. All P fs in
    subst L (sym a.2) (All-cons P a.0 [] one (All-nil P))

pub answer_held : {M : Type 0} (told : M → Option Bytes) (trail : M → Option (List Store)) (names : M → Option Names) (handed : M → ℕ → Bool) (sizes : M → ℕ → ℕ) (before now : M) (made : Option ℕ) (count : ℕ) (list : List (List ℕ)) (s : State) (header : Header) (m : Message) (found : List Found)
    → count ≤ length list → AreAnswered told trail names handed sizes before now made count list found → AreHeld (handed before) (sizes before) s → AreHeld (handed now) (sizes now) (answered s header m found).0
answer_held told trail names handed sizes before now made count list s header m found few a held =
    let keeps = answered_keeps told trail names handed sizes before now made count list found a in
    answered_held (handed now) (sizes now) s header m found (held_kept (handed before) (handed now) (sizes before) (sizes now) s keeps held) (answered_found told trail names handed sizes before now made count list found few a)

-- ---- a new session, and one whose queue was stopped

pub new_held : (h : ℕ → Bool) (z : ℕ → ℕ) (config : DeviceConfig) → AreHeld h z (new_state config)
unfolding new_terms
new_held h z config = record { table = All-nil (IsMappedHeld h z); region = tt }

pub stopped_held : (h : ℕ → Bool) (z : ℕ → ℕ) (s : State) (queue base : ℕ) → AreHeld h z s → AreHeld h z (stopped s queue base)
unfolding stopped
stopped_held h z s queue base held = record {
  table = held.table;
  region = let P : Option KeptRegion → Type 0 = λ r. RegionHeld h z r in subst P (sym (set_region s.terms queue (stopped_ring base (ring_at s.terms queue)))) held.region;
}
