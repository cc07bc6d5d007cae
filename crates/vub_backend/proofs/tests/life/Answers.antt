use Rattle.std.proofs.Common.{◌≡◌, ◌∙◌, ℕ, List, refl, sym, subst, arith}
use Rattle.std.specs.Prelude.{Option}
use Rattle.std.proofs.lemmas.Nat.Gcd.{dvd_of_mod-eq-zero}
use Rattle.vub_queue.specs.QueueState.{QueueState}
use Rattle.vub_backend.specs.Backends.{EachLies}
use Rattle.vub_backend.proofs.BackendLemmas.{none_lies}
use Rattle.vub_backend.proofs.tests.life.Goals as goal

pub returns : goal.returns
returns g c =
    let sizes : ℕ → ℕ = g.M.Shared.sizes c.args.memory.now in
    let region : sizes c.args.region.number ≡ 80 = sym c.size.ensures ∙ c.if-size-ne-REGION_BYTES.false in
    let ring : sizes c.args.ring.number ≡ 256 = sym c.size-else-size-ne-REGION_BYTES.ensures ∙ c.if-size-ne-RING_BYTES.false in
    record {
      lies = c.in-Ok-attach.ensures.lies sizes 0 _ refl (record {
        ring = record {
          some = omega arith;
          few = omega arith;
          laps = dvd_of_mod-eq-zero 4 refl;
          desc = omega (arith, ring);
          avail = omega (arith, ring);
          used = omega (arith, ring);
          desc_aligned = refl;
          avail_aligned = refl;
          used_aligned = refl;
        };
        region = record { room = omega (arith, region); aligned = refl };
        same_size = refl;
      }) (subst (λ (queues : List (Option QueueState)). EachLies sizes 0 queues) (sym c.in-Ok.ensures) (none_lies sizes 0 2));
    }
