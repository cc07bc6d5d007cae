-- A request that the driver takes keeps what holds.
use Rattle.std.proofs.Common.{◌≡◌, ℕ, ◌*◌, true, length, arith}
use Rattle.vub_base.specs.declared.header.Header1.{Header1}
use Rattle.vub_base.specs.declared.request.Ask.{Ask}
use Rattle.vub_base.specs.declared.request.Ask.TheVariants as asks
use Rattle.vub_base.specs.declared.request.Shape.TheVariants.{Direct}
use Rattle.vub_driver.specs.Drivers.{can_take}
use Rattle.vub_driver.specs.Requests.{written_bytes}
use Rattle.vub_schedule.specs.Spelling.{IsAsk}
use Rattle.vub_run.specs.Memory.{Scene}
use Rattle.vub_run.specs.Moments.{Lane}
use Rattle.vub_run.specs.Run.{with_driver}
use Rattle.vub_run_laws.proofs.RunQueue.{queue_ask, takes}
use Rattle.vub_run_laws.proofs.RunGood.{IsGood, IsPlainAsk}
use Rattle.vub_run_laws.proofs.RunHolds.{Holds}
use Rattle.vub_driver.proofs.FillLemmas.{length-fills}

-- ---- the stores

pub plain_ask : (h : Header1) (a : Ask) → IsAsk h a → IsPlainAsk h.capacity a
plain_ask h (asks.Read s n) is = record { fits = is.0; some = is.1; few = is.2 }
plain_ask h (asks.Write s fills) is =
    let long : length (written_bytes (asks.Write s fills)) ≡ 512 * length fills.items = length-fills fills.items in
    record { fits = omega (arith, long, is.0); whole = omega (arith, long); some = omega (arith, long, is.1); few = omega (arith, long, is.2) }
plain_ask h asks.Flush is = tt
plain_ask h asks.Id is = absurd is
plain_ask h (asks.Discard parts) is = absurd is
plain_ask h (asks.Zero parts) is = absurd is

-- ---- the driver

pub ask_holds : (q : ℕ) (h : Header1) (s : Scene) (l : Lane) (a : Ask) → IsGood h → IsPlainAsk h.capacity a → can_take h.size Direct a l.driver ≡ true → Holds q h s l → Holds q h s (with_driver (takes q h a l.driver) l)
ask_holds q h s l a good plain ready x = record {
  known = x.known;
  worked = x.worked;
  stored = x.stored;
  carries = x.carries;
  queue = queue_ask q h s l.driver l.bell l.plan l.counter l.batch l.phase a good.size plain ready x.queue;
}
