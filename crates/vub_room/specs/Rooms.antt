-- Room for the items of an event, and what is spent of it.
use Rattle.std.specs.Prelude.{◌≡◌, ◌≤◌, ◌+◌, ◌*◌, ℕ, zero, suc, min, List}
use Rattle.vub_report.specs.declared.items.Item.{Item}

-- the items so far, how many more fit, how many lists of bytes and of answers are left, for how many answers each of the
-- latter has room, and for how many numbers the list of a start has
pub record RoomState : Type 0 where
  pub items : List Item
  pub item_room : ℕ
  pub lists : ℕ
  pub answer_lists : ℕ
  pub answers : ℕ
  pub numbers : ℕ

-- there is room for the items of one turn, which shows at most so many answers
pub record HasTurnRoom (shown : ℕ) (r : RoomState) : Type 0 where
  pub items : 2 ≤ r.item_room
  pub lists : shown + 1 ≤ r.lists
  pub answer_lists : 1 ≤ r.answer_lists
  pub answers : shown ≤ r.answers

-- so many items and lists
pub record Spends (items lists : ℕ) (r now : RoomState) : Type 0 where
  pub item_room : now.item_room + items ≡ r.item_room
  pub lists_left : now.lists + lists ≡ r.lists
  pub answer_lists : now.answer_lists ≡ r.answer_lists
  pub answers : now.answers ≡ r.answers
  pub numbers : now.numbers ≡ r.numbers

-- at most so many lists, and nothing is noted
pub record SpendsLists (lists : ℕ) (r now : RoomState) : Type 0 where
  pub items : now.items ≡ r.items
  pub item_room : now.item_room ≡ r.item_room
  pub lists_left : r.lists ≤ now.lists + lists
  pub answer_lists : now.answer_lists ≡ r.answer_lists
  pub answers : now.answers ≡ r.answers
  pub numbers : now.numbers ≡ r.numbers

-- the lists of so many answers, and one list of answers
pub record SpendsAnswers (count : ℕ) (r now : RoomState) : Type 0 where
  pub items : now.items ≡ r.items
  pub item_room : now.item_room ≡ r.item_room
  pub lists_left : r.lists ≤ now.lists + count
  pub answer_lists : now.answer_lists + 1 ≡ r.answer_lists
  pub answers : now.answers ≡ r.answers
  pub numbers : now.numbers ≡ r.numbers

-- the same where some answers are shown, and else nothing
abbrev pub SpendsUpTo : ℕ → RoomState → RoomState → Type 0
SpendsUpTo zero r now = now ≡ r
SpendsUpTo (suc count) r now = SpendsAnswers (suc count) r now

-- a list and two items at most
pub record SpendsTurn (r now : RoomState) : Type 0 where
  pub item_room : r.item_room ≤ now.item_room + 2
  pub lists_left : r.lists ≤ now.lists + 1
  pub answer_lists : now.answer_lists ≡ r.answer_lists
  pub answers : now.answers ≡ r.answers

-- a step that shows so many answers
pub record SpendsStep (shown : ℕ) (r now : RoomState) : Type 0 where
  pub item_room : r.item_room ≤ now.item_room + 2
  pub lists_left : r.lists ≤ now.lists + (1 + shown)
  pub answer_lists : r.answer_lists ≤ now.answer_lists + min shown 1
  pub answers : now.answers ≡ r.answers

-- there is room for so many turns, which show at most so many answers in all: for two items and a list of each turn,
-- and for the answers
pub record HasRoom (turns undone : ℕ) (r : RoomState) : Type 0 where
  pub items : 2 * turns ≤ r.item_room
  pub lists : turns + undone ≤ r.lists
  pub answer_lists : min turns (undone + 1) ≤ r.answer_lists
  pub answers : undone ≤ r.answers
