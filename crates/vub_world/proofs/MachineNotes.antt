-- What is noted of a store, of an answer and of a batch, and what room it takes.
use Rattle.std.proofs.Common.{◌≡◌, ◌<◌, ◌≤◌, ℕ, ◌+◌, ◌++◌, List, [], ◌∷◌, length, take, get_or, Bool, true, false, sym, ap, ◌∙◌, subst, arith, refl}
use Rattle.std.specs.Prelude.{zero, suc, if◌then◌else◌, ◌==◌, nat_lt, map, slice_get, option_map, Option, Some, None}
use Rattle.std.proofs.lemmas.Bool.Decides.{nat_tests}
use Rattle.std.proofs.lemmas.List.{map-append, take_more}
use Rattle.std.proofs.lemmas.Option.{slice_get-get_or, slice_get_within, get_or_from_slice_get}
use Rattle.vub_device.specs.declared.entry.Answered.{Answered}
use Rattle.vub_world.specs.declared.outstanding.OutstandingRequests.{OutstandingRequests}
use Rattle.vub_world.specs.OutstandingRequests.{slot_in}
use Rattle.vub_room.specs.Rooms.{RoomState, SpendsAnswers, SpendsLists, SpendsUpTo}
use Rattle.vub_queue.specs.QueueState.{steps_in, QueueState}
use Rattle.vub_steps.specs.Steps.{next_of}
use Rattle.vub_steps.specs.declared.steps.Step.TheVariants.{Index}
use Rattle.vub_base.specs.declared.store.Tag.{Tag}
use Rattle.vub_base.specs.declared.store.Area.{Area}
use Rattle.vub_shared.specs.Bytes.{Bytes, cleared}
use Rattle.vub_shared.specs.Spaces.{HandsNew}
use Rattle.vub_shared.specs.Stores.{Store, one_store}
use Rattle.vub_shared.specs.Watched.{handed_in, sizes_in, count_in}
use Rattle.vub_shared.specs.declared.watched_shared.WatchedShared.{WatchedShared}
use Rattle.vub_report.specs.declared.items.Item.{Item}
use Rattle.vub_report.specs.declared.items.Item.TheVariants as items
use Rattle.vub_world.specs.MachineDevice.{stored_items, answer_for, answers_for, is_index, is_showing, number_at, queue_heads, queue_numbers}
use Rattle.vub_world.specs.MachineDriverSide.{area_of, IsSmall, OneSmall, store_item}

-- ---- memory

if_zero : (b : Bool) (x : ℕ) → x ≡ 0 → (if b then 0 else x) ≡ 0
if_zero true x e = refl
if_zero false x e = e

-- zero bytes stay zero when a space of them is cleared
pub cleared_zero : (space : ℕ) (m now : Bytes) → ((s p : ℕ) → m s p ≡ 0) → now ≡ cleared space m → (s p : ℕ) → now s p ≡ 0
cleared_zero space m now zeros is s p = ap (λ (f : Bytes). f s p) is ∙ if_zero (s == space) (m s p) (zeros s p)

-- a create hands out one space more
pub one_space_more : (before now : WatchedShared) (space size : ℕ) → HandsNew (handed_in before) (sizes_in before) (handed_in now) (sizes_in now) space size → space ≡ count_in before → count_in now ≡ count_in before + 1
one_space_more before now space size new is =
    let joins : handed_in now (count_in before) ≡ true = subst (λ (k : ℕ). handed_in now k ≡ true) is new.joins in
    let past : nat_lt (count_in before + 1) (count_in before) ≡ false = grind (arith, nat_tests) in
    let next : handed_in now (count_in before + 1) ≡ false = new.handed (count_in before + 1) (λ e. (let no : ⊥ = omega (arith, e, is) in no)) ∙ past in
    grind (arith, nat_tests)

-- ---- the one store that is kept

pub record IsOne (stores : List Store) : Type 0 where
  pub st : Store
  pub is : stores ≡ st ∷ []
  pub small : IsSmall (area_of st.space) st

pub one_of : (stores : List Store) → OneSmall stores → IsOne stores
one_of [] none = absurd none
one_of (st ∷ []) small = record { st = st; is = refl; small = small }
one_of (st ∷ s ∷ more) none = absurd none

-- its item
pub one_item : (stores : List Store) (tag : Tag) (o : IsOne stores) → stored_items tag stores ≡ store_item tag o.st ∷ []
one_item stores tag o = ap (stored_items tag) o.is

-- an item of it
pub one_noted : (tag : Tag) (area : Area) (place : ℕ) (bytes kept : List ℕ) (stores : List Store) (o : IsOne stores) (space : ℕ) (before after noted : List Item) → one_store space place bytes ≡ o.st → kept ≡ bytes → area ≡ area_of space
    → before ≡ noted → after ≡ before ++ items.Store tag area place kept ∷ [] → after ≡ noted ++ stored_items tag stores
one_noted tag area place bytes kept stores o space before after noted same copied in_area goes is =
    let area_is : area ≡ area_of o.st.space = in_area ∙ ap (λ (st : Store). area_of st.space) same in
    let place_is : place ≡ o.st.place = ap (λ (st : Store). st.place) same in
    let bytes_is : kept ≡ o.st.bytes = copied ∙ ap (λ (st : Store). st.bytes) same in
    let item : List Item → Area → ℕ → List ℕ → List Item = λ side a p bs. side ++ items.Store tag a p bs ∷ [] in
    is ∙ ap (λ (side : List Item). item side area place kept) goes ∙ ap (λ (a : Area). item noted a place kept) area_is ∙ ap (λ (p : ℕ). item noted (area_of o.st.space) p kept) place_is
    ∙ ap (item noted (area_of o.st.space) o.st.place) bytes_is
    ∙ ap (λ (is : List Item). noted ++ is) (sym (one_item stores tag o))

-- ---- the answers of a batch

pub record IsHead (batch : List (ℕ × ℕ)) (i head : ℕ) : Type 0 where
  pub pair : ℕ × ℕ
  pub at : slice_get batch i ≡ Some pair
  pub is : head ≡ pair.0

pub head_of : (batch : List (ℕ × ℕ)) (i head : ℕ) → option_map (λ (x : ℕ × ℕ). x.0) (slice_get batch i) ≡ Some head → IsHead batch i head
head_of batch i head found = pick (slice_get batch i) refl found
  where
    pick : (o : Option (ℕ × ℕ)) → slice_get batch i ≡ o → option_map (λ (x : ℕ × ℕ). x.0) o ≡ Some head → IsHead batch i head
    pick None at found = absurd (cc found)
    pick (Some x) at found = record { pair = x; at = at; is = let e : head ≡ x.0 = cc (found) in e }

-- a place within has a head
pub no_head : (batch : List (ℕ × ℕ)) (i : ℕ) → i < length batch → option_map (λ (x : ℕ × ℕ). x.0) (slice_get batch i) ≡ None → ⊥
no_head batch i within none =
    let some : slice_get batch i ≡ Some (get_or batch i (0, 0)) = slice_get-get_or batch i (0, 0) within in
    let found : Some (get_or batch i (0, 0)).0 ≡ None = ap (option_map (λ (x : ℕ × ℕ). x.0)) (sym some) ∙ none in
    cc found

pub answers_more : (q : ℕ) (outstanding : OutstandingRequests) (m : Bytes) (batch : List (ℕ × ℕ)) (i : ℕ) (x : ℕ × ℕ) → slice_get batch i ≡ Some x
    → answers_for q outstanding m (take (i + 1) batch) ≡ answers_for q outstanding m (take i batch) ++ answer_for q (slot_in outstanding x.0) m x.0 ∷ []
answers_more q outstanding m batch i x at =
    let f : ℕ × ℕ → Answered = λ (y : ℕ × ℕ). answer_for q (slot_in outstanding y.0) m y.0 in
    let within : i < length batch = slice_get_within batch i x at in
    let is : get_or batch i x ≡ x = get_or_from_slice_get batch i x x at in
    let more : take (i + 1) batch ≡ take i batch ++ x ∷ [] = take_more batch i x within ∙ ap (λ (y : ℕ × ℕ). take i batch ++ y ∷ []) is in
    ap (map f) more ∙ map-append f (take i batch) (x ∷ [])

-- ---- the numbers of a start

pub numbers_more : (f : ℕ → ℕ) (heads : List ℕ) (i head : ℕ) → slice_get heads i ≡ Some head → map f (take (i + 1) heads) ≡ map f (take i heads) ++ f head ∷ []
numbers_more f heads i head at =
    let within : i < length heads = slice_get_within heads i head at in
    let is : get_or heads i head ≡ head = get_or_from_slice_get heads i head head at in
    let more : take (i + 1) heads ≡ take i heads ++ head ∷ [] = take_more heads i head within ∙ ap (λ (d : ℕ). take i heads ++ d ∷ []) is in
    ap (map f) more ∙ map-append f (take i heads) (head ∷ [])

-- behind the last head they are all
pub take_past : (heads : List ℕ) (i : ℕ) → slice_get heads i ≡ None → take i heads ≡ heads
take_past [] zero none = refl
take_past [] (suc i) none = refl
take_past (d ∷ heads) zero none = absurd (cc none)
take_past (d ∷ heads) (suc i) none = ap (λ (l : List ℕ). d ∷ l) (take_past heads i none)

-- ---- what is spent

-- one answer more
pub spends_more : (count : ℕ) (r s t : RoomState) → SpendsAnswers count r s → SpendsLists 1 s t → SpendsAnswers (count + 1) r t
spends_more count r s t so one = record {
  items = one.items ∙ so.items;
  item_room = one.item_room ∙ so.item_room;
  lists_left = omega (arith, so.lists_left, one.lists_left);
  answer_lists = ap (λ (k : ℕ). k + 1) one.answer_lists ∙ so.answer_lists;
  answers = one.answers ∙ so.answers;
  numbers = one.numbers ∙ so.numbers;
}

-- what the next step shows
pub spends_up : (state : QueueState) (r now : RoomState) → next_of (steps_in state) state.phase ≡ Some Index → (is_showing state ≡ true → 1 ≤ length state.batch) → SpendsAnswers (length state.batch) r now
    → SpendsUpTo (if is_showing state then length state.batch else 0) r now
spends_up state r now next some spends =
    let shows : is_showing state ≡ true = ap is_index next in
    let here : length state.batch ≡ (if is_showing state then length state.batch else 0) = ap (λ (b : Bool). if b then length state.batch else 0) (sym shows) in
    subst (λ (k : ℕ). SpendsUpTo k r now) here (up (length state.batch) (some shows) spends)
  where
    up : (count : ℕ) → 1 ≤ count → SpendsAnswers count r now → SpendsUpTo count r now
    up zero one so = absurd (let e : ⊥ = omega (arith, one) in e)
    up (suc count) one so = so

-- the numbers of the requests that a queue works on are those of their heads
pub queue_numbers_are : (outstanding : OutstandingRequests) (o : Option QueueState) → queue_numbers outstanding o ≡ map (number_at outstanding) (queue_heads o)
queue_numbers_are outstanding None = refl
queue_numbers_are outstanding (Some s) = refl
