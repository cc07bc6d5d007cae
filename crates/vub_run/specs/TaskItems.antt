-- The items of a step of a request at work (VIRTIO 1.2, 5.2.6).
use Rattle.std.specs.Prelude.{ℕ, ◌+◌, ◌*◌, List, [], ◌∷◌, slice_range, Option, Some, None}
use Rattle.vub_base.specs.declared.header.Header1.{Header1}
use Rattle.vub_base.specs.declared.store.Tag.TheVariants.{T2, T5}
use Rattle.vub_base.specs.declared.store.Area.TheVariants.{M}
use Rattle.vub_driver.specs.Layout.{status_place, sectors_place}
use Rattle.vub_device.specs.declared.entry.Asked.{Asked}
use Rattle.vub_device.specs.declared.entry.SectorValue.{SectorValue}
use Rattle.vub_device.specs.declared.entry.Entry.{Entry}
use Rattle.vub_device.specs.declared.entry.Entry.TheVariants as entries
use Rattle.vub_device.specs.Requests.{look_at, effect_at}
use Rattle.vub_device.specs.Crash.{value}
use Rattle.vub_device.specs.Past.{bytes_read}
use Rattle.vub_report.specs.declared.items.Item.{Item}
use Rattle.vub_report.specs.declared.items.Item.TheVariants as items
use Rattle.vub_steps.specs.Tasks.{RequestStep, Look, Put, Act, Sync, Status, status_of}

-- ---- what a step makes, for the k-th request of queue q, whose buffer begins at `buffer`

abbrev pub look_items : ℕ → ℕ → List Entry → Option ℕ → List Item
look_items q k past None = []
look_items q k past (Some s) = items.Made (entries.Look q k s (value past s)) ∷ []

abbrev pub act_items : ℕ → ℕ → Option SectorValue → List Item
act_items q k None = []
act_items q k (Some x) = items.Made (entries.Act q k x.sector x.value) ∷ []

abbrev pub task_items : Header1 → ℕ → ℕ → ℕ → List Entry → Asked → RequestStep → List Item
task_items h q k buffer past request (Look place) = look_items q k past (look_at request place)
task_items h q k buffer past request (Put place) = items.Store T2 M (sectors_place buffer + 512 * place) (slice_range (bytes_read past q k) (512 * place) (512 * place + 512)) ∷ []
task_items h q k buffer past request (Act place) = act_items q k (effect_at request place)
task_items h q k buffer past request Sync = items.Made (entries.Sync q k) ∷ []
task_items h q k buffer past request Status = items.Store T5 M (status_place buffer) (status_of h request ∷ []) ∷ []
