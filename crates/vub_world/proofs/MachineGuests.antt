-- The driver's stores in the machine, one after another.
use Rattle.std.proofs.Common.{◌≡◌, ◌≤◌, ◌<◌, ℕ, zero, suc, ◌+◌, Bool, true, false, List, [], ◌∷◌, ◌++◌, length, drop, refl, ap, sym, ◌∙◌, subst, arith}
use Rattle.std.specs.Prelude.{Option, Some, nat_lt}
use Rattle.std.proofs.lemmas.Bool.Decides.{nat_tests}
use Rattle.std.proofs.lemmas.List.{append-nil, append_assoc, drop_all}
use Rattle.vub_base.specs.declared.header.Header1.{Header1}
use Rattle.vub_base.specs.declared.request.Ask.{Ask}
use Rattle.vub_base.specs.declared.store.Tag.TheVariants.{G}
use Rattle.vub_base.specs.declared.store.Area.TheVariants.{M}
use Rattle.vub_shared.specs.Stores.{Store}
use Rattle.vub_driver.specs.Drivers.{Driver, Waiting, with_left, after_stores}
use Rattle.vub_world.specs.declared.outstanding.OutstandingRequests.{OutstandingRequests}
use Rattle.vub_world.specs.DriverSides.{Desk, DriverSideSound}
use Rattle.vub_report.specs.declared.items.Item.{Item}
use Rattle.vub_report.specs.declared.items.Item.TheVariants as items
use Rattle.vub_guest.proofs.GuestLemmas.{left_some}
use Rattle.vub_guest.specs.GuestState.{last_used_in}
use Rattle.vub_room.specs.Rooms.{RoomState, Spends}
use Rattle.vub_world.specs.OutstandingRequests.{Offers}
use Rattle.vub_run.specs.Memory.{Scene, after_items}
use Rattle.vub_run.specs.Moments.{Moment}
use Rattle.vub_run.specs.Run.{guest_items, guest_stores}
use Rattle.vub_world.specs.MachineAt.{AskAt, DriverSideAt}
use Rattle.vub_shared.specs.Watched.{sizes_in}
use Rattle.vub_world.specs.declared.driver_side.DriverSide.{DriverSide}
use Rattle.vub_world.specs.MachineDriverSide.{DriverSideFits, GuestGoes, GuestSteps}
use Rattle.vub_run_laws.proofs.RunItems.{after-append}
use Rattle.vub_world.proofs.MachineLanes.{stored_driver}

-- ---- the stores that are left

-- the next one, and those after it
record Cut (count : ℕ) (left : List Store) : Type 0 where
  pub first : Store
  pub rest : List Store
  pub here : drop count left ≡ first ∷ rest
  pub next : drop (suc count) left ≡ rest
  pub long : length left ≡ count + 1 + length rest

cut : (count : ℕ) (left : List Store) → count < length left → Cut count left
cut zero [] l = absurd (omega arith)
cut zero (x ∷ xs) l = record { first = x; rest = xs; here = refl; next = refl; long = omega arith }
cut (suc count) [] l = absurd (omega arith)
cut (suc count) (x ∷ xs) l =
    let c : Cut count xs = cut count xs (omega arith) in
    record { first = c.first; rest = c.rest; here = c.here; next = c.next; long = omega (arith, c.long) }

-- ---- their items

items_more : (q : ℕ) (count : ℕ) (a : Ask) (left : List Store) → count < length left → guest_items (suc count) q a left ≡ guest_items count q a left ++ guest_items 1 q a (drop count left)
items_more q zero a [] l = absurd (omega arith)
items_more q zero a (x ∷ []) l = refl
items_more q zero a (x ∷ y ∷ xs) l = refl
items_more q (suc count) a [] l = absurd (omega arith)
items_more q (suc count) a (x ∷ []) l = absurd (omega arith)
items_more q (suc count) a (x ∷ y ∷ xs) l = ap (λ (is : List Item). items.Store G M x.place x.bytes ∷ is) (items_more q count a (y ∷ xs) (omega arith))

items_all : (q : ℕ) (count most : ℕ) (a : Ask) (left : List Store) → length left ≤ count → count ≤ most → guest_items most q a left ≡ guest_items count q a left
items_all q zero zero a [] l le = refl
items_all q zero (suc most) a [] l le = refl
items_all q (suc count) (suc most) a [] l le = refl
items_all q (suc count) (suc most) a (x ∷ []) l le = refl
items_all q (suc count) (suc most) a (x ∷ y ∷ xs) l le = ap (λ (is : List Item). items.Store G M x.place x.bytes ∷ is) (items_all q count most a (y ∷ xs) (omega arith) (omega arith))
items_all q (suc count) zero a left l le = absurd (omega arith)
items_all q zero most a (x ∷ xs) l le = absurd (omega arith)

-- ---- the machine after them

-- only memory and driver matter
pub side_of : (q : ℕ) (w : Desk) (m n : Moment) → n.scene.memory ≡ m.scene.memory → (n.lanes q).driver ≡ (m.lanes q).driver → DriverSideAt q w m → DriverSideAt q w n
side_of q w m n memory driver f = record {
  memory = f.memory ∙ sym memory;
  driver = f.driver ∙ sym driver;
  asks = subst (λ (v : Driver). AskAt v.waiting w.side.asked) (sym driver) f.asks;
}

left_whole : (x : Waiting) (v : Driver) (left : List Store) → v.waiting ≡ Some x → x.left ≡ left → 0 < length left → with_left x left v ≡ v
left_whole x v [] waits is some = absurd (omega arith)
left_whole x v (st ∷ rest) waits is some =
    ap (λ (o : Option Waiting). record v { waiting = o }) (ap (λ (left : List Store). Some (record x { left = left })) (sym is) ∙ sym waits)

-- before the first store
pub none_gone : (q : ℕ) (w : Desk) (m : Moment) (x : Waiting) (before : List Item) → DriverSideAt q w m → (m.lanes q).driver.waiting ≡ Some x → GuestGoes q 0 x w w m before before
none_gone q w m x before f waits =
    let some : 0 < length x.left = left_some w.side.guest x (ap (λ (v : Driver). v.waiting) f.driver ∙ waits) in
    record {
      side = side_of q w m (guest_stores w.side.header q 0 (Some x) m).next refl (stored_driver q w.side.header 0 x m ∙ left_whole x (m.lanes q).driver x.left waits refl some) f;
      items = sym (append-nil before);
      outstanding = record { before = λ less. refl; offers = λ none. absurd (omega arith) };
    }

left_one : (x : Waiting) (v : Driver) (st : Store) (rest : List Store) → with_left (record x { left = st ∷ rest }) rest (with_left x (st ∷ rest) v) ≡ with_left x rest v
left_one x v st [] = refl
left_one x v st (y ∷ ys) = refl

-- one more store
pub one_gone : (q : ℕ) (count : ℕ) (x : Waiting) (w v now : Desk) (m : Moment) (before mid after : List Item) (more : Bool) → v.side.header ≡ w.side.header → count < length x.left → GuestGoes q count x w v m before mid
    → ((n : Moment) → DriverSideAt q v n → GuestSteps q (n.lanes q).driver.waiting v now n mid after more)
    → GuestGoes q (suc count) x w now m before after × (more ≡ nat_lt (suc count) (length x.left))
one_gone q count x w v now m before mid after more same less went step =
    let h : Header1 = w.side.header in
    let d : Driver = (m.lanes q).driver in
    let c : Cut count x.left = cut count x.left less in
    let y : Waiting = record x { left = c.first ∷ c.rest } in
    let n : Moment = (guest_stores h q count (Some x) m).next in
    let driver : (n.lanes q).driver ≡ with_left x (c.first ∷ c.rest) d = stored_driver q h count x m ∙ ap (λ (left : List Store). with_left x left d) c.here in
    let made = subst (λ (o : Option Waiting). GuestSteps q o v now n mid after more) (ap (λ (t : Driver). t.waiting) driver) (step n went.side) in
    let goes : GuestGoes q 1 y v now n mid after = made.1 in
    let is : List Item = guest_items 1 q x.ask (c.first ∷ c.rest) in
    let whole : guest_items (suc count) q x.ask x.left ≡ guest_items count q x.ask x.left ++ is = items_more q count x.ask x.left less ∙ ap (λ (left : List Store). guest_items count q x.ask x.left ++ guest_items 1 q x.ask left) c.here in
    let scene : after_items h (guest_items (suc count) q x.ask x.left) m.scene ≡ after_items h is n.scene = ap (λ (js : List Item). after_items h js m.scene) whole ∙ after-append h (guest_items count q x.ask x.left) is m.scene in
    let side : DriverSideAt q now (guest_stores h q 1 (Some y) n).next = subst (λ (k : Header1). DriverSideAt q now (guest_stores k q 1 (Some y) n).next) same goes.side in
    let after_one : after_stores 1 y (n.lanes q).driver ≡ after_stores (suc count) x d = ap (λ (t : Driver). with_left y c.rest t) driver ∙ left_one x d c.first c.rest ∙ ap (λ (left : List Store). with_left x left d) (sym c.next) in
    let outstanding : v.side.outstanding ≡ w.side.outstanding = went.outstanding.before less in
    let long : length x.left ≡ count + 1 + length c.rest = c.long in (
      record {
        side = side_of q now (guest_stores h q 1 (Some y) n).next (guest_stores h q (suc count) (Some x) m).next (ap (λ (s : Scene). s.memory) scene) (stored_driver q h (suc count) x m ∙ sym after_one ∙ sym (stored_driver q h 1 y n)) side;
        items = goes.items ∙ ap (λ (js : List Item). js ++ is) went.items ∙ append_assoc before (guest_items count q x.ask x.left) is ∙ ap (λ (js : List Item). before ++ js) (sym whole);
        outstanding = record {
          before = λ left. goes.outstanding.before (omega arith) ∙ outstanding;
          offers = λ last. subst (λ (l : OutstandingRequests). Offers l now.side.outstanding x.head x.ask) outstanding (goes.outstanding.offers (omega arith));
        };
      },
      made.0 ∙ (let t : nat_lt 1 (length (c.first ∷ c.rest)) ≡ nat_lt (suc count) (length x.left) = grind (arith, nat_tests) in t),
    )

-- no more than all of them
pub all_gone : (q : ℕ) (count most : ℕ) (x : Waiting) (w now : Desk) (m : Moment) (before after : List Item) → length x.left ≤ count → count ≤ most → GuestGoes q count x w now m before after → GuestGoes q most x w now m before after
all_gone q count most x w now m before after last le went =
    let h : Header1 = w.side.header in
    let same : guest_items most q x.ask x.left ≡ guest_items count q x.ask x.left = items_all q count most x.ask x.left last le in
    let none : drop most x.left ≡ drop count x.left = drop_all most x.left (omega arith) ∙ sym (drop_all count x.left last) in
    record {
      side = side_of q now (guest_stores h q count (Some x) m).next (guest_stores h q most (Some x) m).next (ap (λ (js : List Item). (after_items h js m.scene).memory) same) (stored_driver q h most x m ∙ ap (λ (left : List Store). with_left x left (m.lanes q).driver) none ∙ sym (stored_driver q h count x m)) went.side;
      items = went.items ∙ ap (λ (js : List Item). before ++ js) (sym same);
      outstanding = record { before = λ less. absurd (omega arith); offers = λ l. went.outstanding.offers last };
    }

-- ---- the loop

-- after so many stores, where none is the last yet
pub record GuestLoop (q done : ℕ) (w now : Desk) (r room : RoomState) : Type 0 where
  pub frame : now.side ≡ record w.side { guest = now.side.guest; asked = now.side.asked; outstanding = now.side.outstanding }
  pub sound : DriverSideSound now.memory now.side
  pub sizes : (s : ℕ) → sizes_in now.memory s ≡ sizes_in w.memory s
  pub fits : DriverSideFits now.side
  pub outstanding : now.side.outstanding ≡ w.side.outstanding
  pub position : last_used_in now.side.guest ≡ last_used_in w.side.guest
  pub items_left : room.item_room + done ≡ r.item_room
  pub lists_left : room.lists + done ≡ r.lists
  pub goes : (m : Moment) (x : Waiting) → DriverSideAt q w m → (m.lanes q).driver.waiting ≡ Some x → (done < length x.left) × GuestGoes q done x w now m r.items room.items

pub loop_begins : (q : ℕ) (w : Desk) (r : RoomState) → DriverSideSound w.memory w.side → DriverSideFits w.side → GuestLoop q 0 w w r r
loop_begins q w r sound fits = record {
  frame = refl;
  sound = sound;
  sizes = λ s. refl;
  fits = fits;
  outstanding = refl;
  position = refl;
  items_left = omega arith;
  lists_left = omega arith;
  goes = λ m x f waits. (left_some w.side.guest x (ap (λ (v : Driver). v.waiting) f.driver ∙ waits), none_gone q w m x r.items f waits);
}

-- a frame after a frame
pub frame_more : (w v now : DriverSide) → v ≡ record w { guest = v.guest; asked = v.asked; outstanding = v.outstanding } → now ≡ record v { guest = now.guest; asked = now.asked; outstanding = now.outstanding }
    → now ≡ record w { guest = now.guest; asked = now.asked; outstanding = now.outstanding }
frame_more w v now first last = last ∙ ap (λ (u : DriverSide). record u { guest = now.guest; asked = now.asked; outstanding = now.outstanding }) first

-- a step of the driver of this queue, whose side has the same number
pub steps_as : (q p : ℕ) (v now : Desk) (n : Moment) (before after : List Item) (more known : Bool) → q ≡ p → more ≡ known → (DriverSideAt p v n → GuestSteps p (n.lanes p).driver.waiting v now n before after more) → DriverSideAt q v n
    → GuestSteps q (n.lanes q).driver.waiting v now n before after known
steps_as q p v now n before after more known same is step = subst (λ (k : ℕ). DriverSideAt k v n → GuestSteps k (n.lanes k).driver.waiting v now n before after known) (sym same) (subst (λ (b : Bool). DriverSideAt p v n → GuestSteps p (n.lanes p).driver.waiting v now n before after b) is step)

-- one store that isn't the last
pub loop_more : (q : ℕ) (done : ℕ) (w v now : Desk) (r mid room : RoomState) → GuestLoop q done w v r mid → now.side ≡ record v.side { guest = now.side.guest; asked = now.side.asked; outstanding = now.side.outstanding } → DriverSideSound now.memory now.side → ((s : ℕ) → sizes_in now.memory s ≡ sizes_in v.memory s) → DriverSideFits now.side → now.side.outstanding ≡ v.side.outstanding → last_used_in now.side.guest ≡ last_used_in v.side.guest → Spends 1 1 mid room
    → ((n : Moment) → DriverSideAt q v n → GuestSteps q (n.lanes q).driver.waiting v now n mid.items room.items true) → GuestLoop q (suc done) w now r room
loop_more q done w v now r mid room loop frame sound sizes fits outstanding position spent step = record {
  frame = frame_more w.side v.side now.side loop.frame frame;
  sound = sound;
  sizes = λ s. sizes s ∙ loop.sizes s;
  fits = fits;
  outstanding = outstanding ∙ loop.outstanding;
  position = position ∙ loop.position;
  items_left = omega (arith, spent.item_room, loop.items_left);
  lists_left = omega (arith, spent.lists_left, loop.lists_left);
  goes = λ m x f waits.
      let was = loop.goes m x f waits in
      let gone = one_gone q done x w v now m r.items mid.items room.items true (ap (λ (f : DriverSide). f.header) loop.frame) was.0 was.1 step in
      let some : nat_lt (suc done) (length x.left) ≡ true = sym gone.1 in
      (grind (arith, nat_tests), gone.0);
}

-- the last one
pub loop_last : (q : ℕ) (done most : ℕ) (w v now : Desk) (r mid room : RoomState) → GuestLoop q done w v r mid → done < most → ((n : Moment) → DriverSideAt q v n → GuestSteps q (n.lanes q).driver.waiting v now n mid.items room.items false)
    → (m : Moment) (x : Waiting) → DriverSideAt q w m → (m.lanes q).driver.waiting ≡ Some x → GuestGoes q most x w now m r.items room.items
loop_last q done most w v now r mid room loop less step m x f waits =
    let was = loop.goes m x f waits in
    let gone = one_gone q done x w v now m r.items mid.items room.items false (ap (λ (f : DriverSide). f.header) loop.frame) was.0 was.1 step in
    let none : nat_lt (suc done) (length x.left) ≡ false = sym gone.1 in
    all_gone q (suc done) most x w now m r.items room.items (grind (arith, nat_tests)) (omega arith) gone.0
