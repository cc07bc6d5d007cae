-- A used element that the driver takes keeps what holds.
use Rattle.std.proofs.Common.{ℕ, ◌∷◌, refl, arith}
use Rattle.std.proofs.lemmas.Option.{slice_get-get_or}
use Rattle.vub_base.specs.declared.header.Header1.{Header1}
use Rattle.vub_driver.specs.Drivers.{without_owner}
use Rattle.vub_device.specs.declared.entry.Entry.TheVariants as entries
use Rattle.vub_device.specs.Legal.{MayCollect}
use Rattle.vub_device.specs.Past.{published, collected}
use Rattle.vub_run.specs.Memory.{Scene}
use Rattle.vub_run.specs.Moments.{Lane}
use Rattle.vub_run.specs.Run.{with_driver}
use Rattle.vub_run_laws.proofs.RunOwn.{collected_own}
use Rattle.vub_run_laws.proofs.RunGood.{Known, hidden, Worked}
use Rattle.vub_run_laws.proofs.RunHolds.{Holds}
use Rattle.vub_run_laws.proofs.RunCarries.{carries_on}
use Rattle.vub_run_laws.proofs.RunQueue.{queue_collect}
use Rattle.vub_run_laws.proofs.RunTaken.{next_number, IsTaken}

taken_worked : (q : ℕ) (h : Header1) (s : Scene) (l : Lane) (k : ℕ) → Worked q s.past l.phase (hidden l.batch l.phase) l.completed l.made → Worked q (entries.Collect q k ∷ s.past) l.phase (hidden l.batch l.phase) l.completed l.made
taken_worked q h s l k w = record {
  distinct = w.distinct;
  opens = λ j held. record { taken = (w.opens j held).taken; unpublished = (w.opens j held).unpublished };
  untouched = w.untouched;
  progress = w.progress;
  full = w.full;
  pending = λ j is_open out. w.pending j (record { taken = is_open.taken; unpublished = is_open.unpublished }) out;
  quiet = w.quiet;
  between = w.between;
}

pub taken_holds : (q : ℕ) (h : Header1) (s : Scene) (l : Lane) (x k : ℕ) → IsTaken q h s l x → Holds q h (record s { past = entries.Collect q k ∷ s.past }) (with_driver (record l.driver { owner = without_owner x l.driver.owner }) l)
taken_holds q h s l x k t =
    let a : Known q h.size h.capacity s.past (s.heads q) = t.holds.known in record {
      known = record {
        offers_are = a.offers_are;
        offered = a.offered;
        distinct = a.distinct;
        below = a.below;
        shown = omega (arith, t.more, collected_own s.past q k);
        fewer = a.fewer;
        room = omega (arith, a.room, collected_own s.past q k);
        good = a.good;
        wide = a.wide;
        unfaulted = a.unfaulted;
        values = a.values;
      };
      worked = taken_worked q h s l k t.holds.worked;
      stored = record { sectors = λ j i is_open kept read. t.holds.stored.sectors j i (record { taken = is_open.taken; unpublished = is_open.unpublished }) kept read; status = t.holds.stored.status };
      carries = carries_on q s.past (entries.Collect q k ∷ s.past) l.counter l.phase l.batch l.completed refl refl refl t.holds.carries;
      queue = queue_collect q h s l x k t;
    }

pub taken_legal : (q : ℕ) (h : Header1) (s : Scene) (l : Lane) (x : ℕ) → IsTaken q h s l x → MayCollect s.past q (next_number q s)
taken_legal q h s l x t = slice_get-get_or (published s.past q) (collected s.past q) 0 t.more
