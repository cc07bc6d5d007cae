-- What the backend of a world is, at a moment of a run.
use Rattle.std.specs.Prelude.{◌≡◌, ◌<◌, ℕ, true, false, List, [], map, slice_index, is_some, Some}
use Rattle.vub_steps.specs.Readiness.{is_publication}
use Rattle.vub_device.specs.Past.{started}
use Rattle.vub_backend.specs.declared.backend.Backend.{Backend}
use Rattle.vub_backend.specs.Backends.{queues_of, attached_in, is_attached}
use Rattle.vub_task.specs.TaskState.{head_in}
use Rattle.vub_queue.specs.QueueState.{QueueState}
use Rattle.vub_queue.specs.QueueFacts.{hidden_part}
use Rattle.vub_queue_in_run.specs.QueueAt.{left_of}
use Rattle.vub_run.specs.Moments.{Moment}
use Rattle.vub_world.specs.declared.machine.Machine.{Machine}

-- the heads of these requests of queue q, which are given by their numbers
abbrev pub heads_at : ℕ → Moment → List ℕ → List ℕ
heads_at q m numbers = map (slice_index (m.scene.heads q)) numbers

-- the numbers of the open requests that aren't completed in this life, rising; those of a batch under way are completed, and
-- open until used.idx shows them
abbrev pub uncompleted : ℕ → Moment → List ℕ
uncompleted q m = left_of q m.scene.past (m.lanes q).completed (hidden_part (m.lanes q).phase (m.lanes q).batch)

-- queue q names its requests by their heads: once it is started the open ones that aren't completed, and those of the batch
-- under way in the order of publication, where one is
pub record NamesRequests (q : ℕ) (m : Moment) (s : QueueState) : Type 0 where
  pub unfinished : started m.scene.past q ≡ true → map head_in s.unfinished ≡ heads_at q m (uncompleted q m)
  pub batch : map (λ x. x.0) s.batch ≡ heads_at q m (m.lanes q).batch
  pub no_batch : is_publication (m.lanes q).phase ≡ false → s.batch ≡ []

-- there is a backend just where there is a life; attached are its queues that the run says, and each names its requests
pub record BackendStands (w : Machine) (m : Moment) : Type 0 where
  pub lives : is_some w.life ≡ m.lives
  pub attached : (b : Backend) (q : ℕ) → w.life ≡ Some b → q < w.header.queues → is_attached (queues_of b) q ≡ (m.lanes q).attached
  pub names : (b : Backend) (q : ℕ) (s : QueueState) → w.life ≡ Some b → attached_in (queues_of b) q ≡ Some s → NamesRequests q m s
