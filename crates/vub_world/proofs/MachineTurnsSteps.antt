-- A step: what its turn leaves.
use Rattle.std.proofs.Common.{◌≡◌, ◌<◌, ◌≤◌, ℕ, zero, suc, ◌+◌, Bool, true, false, List, ◌++◌, refl, ap, sym, ◌∙◌, subst, inl, inr, arith, min}
use Rattle.std.proofs.lemmas.Bool.{cases_Bool}
use Rattle.std.proofs.lemmas.Bool.Decides.{nat_tests}
use Rattle.vub_base.specs.declared.header.Header1.{Header1}
use Rattle.vub_shared.specs.Watched.{bytes_in, stores_in}
use Rattle.vub_memdisk.specs.MemDisks.{values_of}
use Rattle.vub_steps.specs.declared.readiness.Turn.{Turn}
use Rattle.vub_device.specs.declared.entry.Answered.{Answered}
use Rattle.vub_world.specs.DriverSides.{Parts}
use Rattle.vub_queue.specs.declared.queue.Stepped.{Stepped}
use Rattle.vub_queue.specs.declared.queue.Stepped.TheVariants as says
use Rattle.vub_report.specs.declared.items.Item.{Item}
use Rattle.vub_world.specs.MachineAt.{PartsAt}
use Rattle.vub_world.specs.MachineDevice.{noted, answers_shown, numbers_in, accepts}
use Rattle.vub_world.specs.MachineSteps.{TurnGoes, MachineTurns, StepGoes}
use Rattle.vub_room.specs.Rooms.{HasTurnRoom, SpendsUpTo, SpendsTurn, SpendsStep, RoomState}
use Rattle.vub_run.specs.Moments.{Moment}
use Rattle.vub_queue.specs.QueueState.{is_idle}
use Rattle.vub_run.specs.Run.{is_due}

pub same_items : (shown : ℕ) (r now : RoomState) → SpendsUpTo shown r now → now.items ≡ r.items
same_items zero r now spent = ap (λ (x : RoomState). x.items) spent
same_items (suc shown) r now spent = spent.items

-- and as many items fit as before
pub same_room : (shown : ℕ) (r now : RoomState) → SpendsUpTo shown r now → now.item_room ≡ r.item_room
same_room zero r now spent = ap (λ (x : RoomState). x.item_room) spent
same_room (suc shown) r now spent = spent.item_room

-- the room that a step spends
pub spends_none : (shown : ℕ) (r now : RoomState) → SpendsUpTo shown r now → SpendsStep shown r now
spends_none zero r now spent = subst (λ (x : RoomState). SpendsStep 0 r x) (sym spent) (record { item_room = omega arith; lists_left = omega arith; answer_lists = omega arith; answers = refl })
spends_none (suc shown) r now spent = record {
  item_room = omega (arith, spent.item_room);
  lists_left = omega (arith, spent.lists_left);
  answer_lists = omega (arith, spent.answer_lists);
  answers = spent.answers;
}

-- and the list of numbers is as it was
pub same_numbers : (shown : ℕ) (r now : RoomState) → SpendsUpTo shown r now → now.numbers ≡ r.numbers
same_numbers zero r now spent = ap (λ (x : RoomState). x.numbers) spent
same_numbers (suc shown) r now spent = spent.numbers

-- behind the answers that a turn shows there is room for its items
pub items_left : (shown : ℕ) (r now : RoomState) → HasTurnRoom shown r → SpendsUpTo shown r now → 2 ≤ now.item_room
items_left shown r now has spent = let same : now.item_room ≡ r.item_room = same_room shown r now spent in omega (arith, same, has.items)

pub list_left : (shown : ℕ) (r now : RoomState) → HasTurnRoom shown r → SpendsUpTo shown r now → 1 ≤ now.lists
list_left zero r now has spent = let same : now.lists ≡ r.lists = ap (λ (x : RoomState). x.lists) spent in omega (arith, same, has.lists)
list_left (suc shown) r now has spent = omega (arith, has.lists, spent.lists_left)

pub spends_turn : (shown : ℕ) (r mid now : RoomState) → SpendsUpTo shown r mid → SpendsTurn mid now → SpendsStep shown r now
spends_turn zero r mid now spent turn = record {
  item_room = omega (arith, turn.item_room, ap (λ (x : RoomState). x.item_room) spent);
  lists_left = omega (arith, turn.lists_left, ap (λ (x : RoomState). x.lists) spent);
  answer_lists = omega (arith, turn.answer_lists, ap (λ (x : RoomState). x.answer_lists) spent);
  answers = turn.answers ∙ ap (λ (x : RoomState). x.answers) spent;
}
spends_turn (suc shown) r mid now spent turn = record {
  item_room = omega (arith, turn.item_room, spent.item_room);
  lists_left = omega (arith, turn.lists_left, spent.lists_left);
  answer_lists = omega (arith, turn.answer_lists, spent.answer_lists);
  answers = turn.answers ∙ spent.answers;
}

-- a turn that made nothing
pub step_ends : (q : ℕ) (t : Turn) (w now : Parts) (m : Moment) (x : Stepped) → is_idle x ≡ true → TurnGoes q t w now m x → (is_due w.side.header q t m ≡ false) × PartsAt q now m
step_ends q t w now m x idle goes = elim (cases_Bool (is_due w.side.header q t m)) [
  | inl due ↦ absurd (
      let made = goes.0 due in
      let fails : true ≡ false = sym idle ∙ made.goes in
      cc)
  | inr undue ↦ (undue, (goes.1 undue).1)
]

-- a turn that made something
pub step_goes : (q : ℕ) (t : Turn) (w now : Parts) (m : Moment) (x : Stepped) → is_idle x ≡ false → TurnGoes q t w now m x → (is_due w.side.header q t m ≡ true) × MachineTurns q t w now m x
step_goes q t w now m x other goes = elim (cases_Bool (is_due w.side.header q t m)) [
  | inl due ↦ (due, goes.0 due)
  | inr undue ↦ absurd (let fails : true ≡ false = sym (ap is_idle (goes.1 undue).0) ∙ other in cc)
]

-- the items that are noted of it
pub step_made : (q : ℕ) (t : Turn) (w now : Parts) (m : Moment) (x : Stepped) (before noted_items : List Item) (answers : List Answered) → is_idle x ≡ false → TurnGoes q t w now m x → answers ≡ answers_shown q w.side.outstanding (bytes_in w.memory) w.life
    → noted_items ≡ before ++ noted q now.side.outstanding (values_of now.disk) (stores_in now.memory) answers (numbers_in now.side.outstanding now.life) x → StepGoes q true t w now m before noted_items 0 (accepts x)
step_made q t w now m x before noted_items answers other goes shown notes =
    let made = step_goes q t w now m x other goes in (
      made.0,
      made.1.at,
      notes ∙ ap (λ (l : List Answered). before ++ noted q now.side.outstanding (values_of now.disk) (stores_in now.memory) l (numbers_in now.side.outstanding now.life) x) shown ∙ ap (λ (l : List Item). before ++ l) (sym made.1.items_are),
      omega (arith, made.1.taken),
    )

-- how many requests are accepted in all, where the count has room
pub count_more : (x : Stepped) (head taken : ℕ) → x ≡ says.Accepted head → taken < 65535 → min (taken + 1) 65535 ≡ taken + accepts x
count_more x head taken is small = let one : accepts x ≡ 1 = ap accepts is in omega (arith, one)

pub count_same : (x : Stepped) (taken : ℕ) → ((head : ℕ) → x ≡ says.Accepted head → ⊥) → taken ≡ taken + accepts x
count_same x taken other = go x other
  where
    go : (y : Stepped) → ((head : ℕ) → y ≡ says.Accepted head → ⊥) → taken ≡ taken + accepts y
    go (says.Accepted head) o = absurd (o head refl)
    go says.Idle o = omega arith
    go (says.Stored tag) o = omega arith
    go (says.Looked head sector) o = omega arith
    go (says.Acted head sector) o = omega arith
    go (says.Synced head) o = omega arith
    go (says.Faulted head) o = omega arith
    go (says.Completed head) o = omega arith
    go says.Published o = omega arith
    go says.Started o = omega arith
    go says.Belled o = omega arith
    go says.SharedFault o = omega arith
    go says.BellFault o = omega arith
    go (says.Damaged fault) o = omega arith
    go (says.Broken fault) o = omega arith

-- ---- the step that comes next

-- where two turns are the same on an attached queue, both are due or none
due_same : (q : ℕ) (h : Header1) (m : Moment) (t u : Turn) → ((m.lanes q).attached ≡ true → t ≡ u) → is_due h q t m ≡ is_due h q u m
due_same q h m t u same = elim (cases_Bool (m.lanes q).attached) [
  | inl there ↦ ap (λ (v : Turn). is_due h q v m) (same there)
  | inr none ↦ grind (arith, nat_tests)
]

-- a step of the turn that comes next
pub step_chosen : (q : ℕ) (made : Bool) (t u : Turn) (w now : Parts) (m : Moment) (before after : List Item) (taken taken_after more : ℕ) → ((m.lanes q).attached ≡ true → t ≡ u) → taken_after ≡ taken + more
    → StepGoes q made t w now m before after 0 more → StepGoes q made u w now m before after taken taken_after
step_chosen q false t u w now m before after taken taken_after more same counts goes = (sym (due_same q w.side.header m t u same) ∙ goes.0, goes.1, goes.2)
step_chosen q true t u w now m before after taken taken_after more same counts goes =
    let attached : (m.lanes q).attached ≡ true = grind (arith, nat_tests, goes.0) in
    let went : StepGoes q true u w now m before after 0 more = subst (λ (v : Turn). StepGoes q true v w now m before after 0 more) (same attached) goes in
    (went.0, went.1, went.2, omega (arith, counts, went.3))
