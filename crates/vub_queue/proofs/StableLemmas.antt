-- What the steps of a queue make stable: a flush alone does.
use Rattle.std.proofs.Common.{◌≡◌, ℕ, refl}
use Rattle.std.specs.Prelude.{true, Option}
use Rattle.vub_disk.specs.Values.{Values}
use Rattle.vub_task.specs.declared.task.TaskStep as made
use Rattle.vub_task.specs.declared.task.TaskStep.TheVariants as answers
use Rattle.vub_task.specs.TaskState as TaskState
use Rattle.vub_queue.specs.declared.queue.Stepped.{Stepped}
use Rattle.vub_queue.specs.declared.queue.Stepped.TheVariants as says
use Rattle.vub_queue.specs.QueueState.{StableAfter, said, is_starting, is_fetching, is_publishing}

pub stable_starting : (x : Stepped) (stable values : Option Values) → is_starting x ≡ true → StableAfter x stable values stable
stable_starting says.Idle stable values is = refl
stable_starting (says.Stored tag) stable values is = refl
stable_starting (says.Accepted head) stable values is = refl
stable_starting (says.Looked head sector) stable values is = refl
stable_starting (says.Acted head sector) stable values is = refl
stable_starting (says.Synced head) stable values is = absurd (cc is)
stable_starting (says.Faulted head) stable values is = refl
stable_starting (says.Completed head) stable values is = refl
stable_starting says.Published stable values is = refl
stable_starting says.Belled stable values is = refl
stable_starting says.Started stable values is = refl
stable_starting says.SharedFault stable values is = refl
stable_starting says.BellFault stable values is = refl
stable_starting (says.Broken fault) stable values is = refl
stable_starting (says.Damaged fault) stable values is = refl

pub stable_fetching : (x : Stepped) (stable values : Option Values) → is_fetching x ≡ true → StableAfter x stable values stable
stable_fetching says.Idle stable values is = refl
stable_fetching (says.Stored tag) stable values is = refl
stable_fetching (says.Accepted head) stable values is = refl
stable_fetching (says.Looked head sector) stable values is = refl
stable_fetching (says.Acted head sector) stable values is = refl
stable_fetching (says.Synced head) stable values is = absurd (cc is)
stable_fetching (says.Faulted head) stable values is = refl
stable_fetching (says.Completed head) stable values is = refl
stable_fetching says.Published stable values is = refl
stable_fetching says.Belled stable values is = refl
stable_fetching says.Started stable values is = refl
stable_fetching says.SharedFault stable values is = refl
stable_fetching says.BellFault stable values is = refl
stable_fetching (says.Broken fault) stable values is = refl
stable_fetching (says.Damaged fault) stable values is = refl

pub stable_publishing : (x : Stepped) (stable values : Option Values) → is_publishing x ≡ true → StableAfter x stable values stable
stable_publishing says.Idle stable values is = refl
stable_publishing (says.Stored tag) stable values is = refl
stable_publishing (says.Accepted head) stable values is = refl
stable_publishing (says.Looked head sector) stable values is = refl
stable_publishing (says.Acted head sector) stable values is = refl
stable_publishing (says.Synced head) stable values is = absurd (cc is)
stable_publishing (says.Faulted head) stable values is = refl
stable_publishing (says.Completed head) stable values is = refl
stable_publishing says.Published stable values is = refl
stable_publishing says.Belled stable values is = refl
stable_publishing says.Started stable values is = refl
stable_publishing says.SharedFault stable values is = refl
stable_publishing says.BellFault stable values is = refl
stable_publishing (says.Broken fault) stable values is = refl
stable_publishing (says.Damaged fault) stable values is = refl

pub stable_said : (head : ℕ) (step : made.TaskStep) (stable values after : Option Values) → TaskState.StableAfter step stable values after → StableAfter (said head step) stable values after
stable_said head (answers.Stored tag) stable values after h = h
stable_said head (answers.Looked sector) stable values after h = h
stable_said head (answers.Acted sector) stable values after h = h
stable_said head answers.Synced stable values after h = h
stable_said head answers.Faulted stable values after h = h
stable_said head (answers.Broken fault) stable values after h = h
stable_said head answers.Failed stable values after h = h
stable_said head (answers.Done status len) stable values after h = h
