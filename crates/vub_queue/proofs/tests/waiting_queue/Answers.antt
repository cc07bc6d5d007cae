use Rattle.std.proofs.Common.{◌≡◌, ◌∙◌, ℕ, refl, sym, arith}
use Rattle.std.proofs.lemmas.Nat.Gcd.{dvd_of_mod-eq-zero}
use Rattle.vub_queue.proofs.tests.waiting_queue.Goals as goal

pub returns : goal.returns
returns g c =
    let sizes = g.M.Shared.sizes in
    let same : (s : ℕ) → sizes c.store2-3.new.self s ≡ sizes c.args.memory.now s = λ s.
    c.store2-3.ensures.makes_store.spaces.same_sizes s
    ∙ c.store2-2.ensures.makes_store.spaces.same_sizes s
    ∙ c.store2.ensures.makes_store.spaces.same_sizes s
    ∙ c.store1.ensures.makes_store.spaces.same_sizes s
    ∙ c.store_run.ensures.makes_store.spaces.same_sizes s in
    let region : sizes c.store2-3.new.self c.args.region.number ≡ 80 = same c.args.region.number ∙ sym c.size.ensures ∙ c.if-size-ne-REGION_BYTES.false in
    let ring : sizes c.store2-3.new.self c.args.ring.number ≡ 256 = same c.args.ring.number ∙ sym c.size-else-size-ne-REGION_BYTES.ensures ∙ c.if-size-ne-RING_BYTES.false in
    record {
      lies = c.in-Ok.ensures.lies (sizes c.store2-3.new.self) 0 _ refl (record {
        ring = record {
          some = omega arith;
          few = omega arith;
          laps = dvd_of_mod-eq-zero 4 refl;
          desc = omega (arith, ring);
          avail = omega (arith, ring);
          used = omega (arith, ring);
          desc_aligned = refl;
          avail_aligned = refl;
          used_aligned = refl;
        };
        region = record { room = omega (arith, region); aligned = refl };
        same_size = refl;
      });
    }
