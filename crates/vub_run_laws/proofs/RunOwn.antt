-- What an entry of a queue changes in what the history says of that queue.
use Rattle.std.proofs.Common.{◌≡◌, ℕ, ◌+◌, Bool, true, false, List, [], ◌∷◌, ◌++◌, ap, arith}
use Rattle.std.specs.Prelude.{◌==◌, ◌||◌, if◌then◌else◌}
use Rattle.std.proofs.lemmas.Bool.Decides.{nat_tests}
use Rattle.vub_device.specs.declared.entry.Answered.{Answered}
use Rattle.vub_device.specs.declared.entry.Asked.{Asked}
use Rattle.vub_device.specs.declared.entry.Entry.{Entry}
use Rattle.vub_device.specs.declared.entry.Entry.TheVariants as entries
use Rattle.vub_device.specs.Past.{offers, accepted, published, collected, numbers, started, looks, bytes_read, acts, synced, faulted}
use Rattle.vub_run.specs.Memory.{with_at}
use Rattle.vub_run.specs.Tracking.{answers}

pub same_queue : (q : ℕ) → (q == q) ≡ true
same_queue q = grind (arith, nat_tests)

-- what is set at a queue stands there
pub at_own : {A : Type 0} (f : ℕ → A) (q : ℕ) (x : A) → with_at f q x q ≡ x
at_own f q x = ap (λ (b : Bool). if b then x else f q) (same_queue q)

pub offers_own : (past : List Entry) (q : ℕ) (r : Asked) → offers (entries.Offer q r ∷ past) q ≡ offers past q + 1
offers_own past q r = ap (λ (b : Bool). if b then offers past q + 1 else offers past q) (same_queue q)

pub accepted_own : (past : List Entry) (q k : ℕ) → accepted (entries.Accept q k ∷ past) q ≡ accepted past q + 1
accepted_own past q k = ap (λ (b : Bool). if b then accepted past q + 1 else accepted past q) (same_queue q)

pub published_own : (past : List Entry) (q : ℕ) (list : List Answered) → published (entries.Publish q list ∷ past) q ≡ published past q ++ numbers list
published_own past q list = ap (λ (b : Bool). if b then published past q ++ numbers list else published past q) (same_queue q)

pub answers_own : (past : List Entry) (q : ℕ) (list : List Answered) → answers (entries.Publish q list ∷ past) q ≡ answers past q ++ list
answers_own past q list = ap (λ (b : Bool). if b then answers past q ++ list else answers past q) (same_queue q)

pub collected_own : (past : List Entry) (q k : ℕ) → collected (entries.Collect q k ∷ past) q ≡ collected past q + 1
collected_own past q k = ap (λ (b : Bool). if b then collected past q + 1 else collected past q) (same_queue q)

pub started_own : (past : List Entry) (q : ℕ) (list : List ℕ) → started (entries.Start q list ∷ past) q ≡ true
started_own past q list = ap (λ (b : Bool). b || started past q) (same_queue q)

pub looks_start : (past : List Entry) (q : ℕ) (list : List ℕ) (k : ℕ) → looks (entries.Start q list ∷ past) q k ≡ 0
looks_start past q list k = ap (λ (b : Bool). if b then 0 else looks past q k) (same_queue q)

pub acts_start : (past : List Entry) (q : ℕ) (list : List ℕ) (k : ℕ) → acts (entries.Start q list ∷ past) q k ≡ 0
acts_start past q list k = ap (λ (b : Bool). if b then 0 else acts past q k) (same_queue q)

pub bytes_start : (past : List Entry) (q : ℕ) (list : List ℕ) (k : ℕ) → bytes_read (entries.Start q list ∷ past) q k ≡ []
bytes_start past q list k = ap (λ (b : Bool). if b then [] else bytes_read past q k) (same_queue q)

pub synced_start : (past : List Entry) (q : ℕ) (list : List ℕ) (k : ℕ) → synced (entries.Start q list ∷ past) q k ≡ false
synced_start past q list k = ap (λ (b : Bool). if b then false else synced past q k) (same_queue q)

pub faulted_start : (past : List Entry) (q : ℕ) (list : List ℕ) (k : ℕ) → faulted (entries.Start q list ∷ past) q k ≡ false
faulted_start past q list k = ap (λ (b : Bool). if b then false else faulted past q k) (same_queue q)
