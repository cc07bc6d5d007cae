use Rattle.std.proofs.Common.{◌≡◌, ◌∙◌, ℕ, refl, sym, subst, arith}
use Rattle.std.proofs.lemmas.Nat.Gcd.{dvd_of_mod-eq-zero}
use Rattle.vub_rec_split.specs.Starts.{RecoveryState, StartLies}
use Rattle.vub_rec_split.proofs.tests.recovery.Goals as goal

pub returns-clause-lies : goal.returns-clause-lies
returns-clause-lies g c =
    let sizes = g.M.Shared.sizes in
    let same : (s : ℕ) → sizes c.store2.new.self s ≡ sizes c.args.memory.now s = λ s. c.store2.ensures.makes_store.spaces.same_sizes s ∙ c.store_run.ensures.makes_store.spaces.same_sizes s in
    let region : sizes c.store2.new.self c.args.region.number ≡ 80 = same c.args.region.number ∙ sym c.size.ensures ∙ c.if-size-ne-REGION_BYTES.false in
    let ring : sizes c.store2.new.self c.args.ring.number ≡ 256 = same c.args.ring.number ∙ sym c.size-else-size-ne-REGION_BYTES.ensures ∙ c.if-size-ne-RING_BYTES.false in
    subst (λ (s : RecoveryState). StartLies (sizes c.store2.new.self) s) (sym c.new.ensures) (record {
      ring = record {
        some = omega arith;
        few = omega arith;
        laps = dvd_of_mod-eq-zero 4 refl;
        desc = omega (arith, ring);
        avail = omega (arith, ring);
        used = omega (arith, ring);
        desc_aligned = refl;
        avail_aligned = refl;
        used_aligned = refl;
      };
      region = record { room = omega (arith, region); aligned = refl };
      same_size = refl;
    })
