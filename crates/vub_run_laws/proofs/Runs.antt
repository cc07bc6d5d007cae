-- Where every run begins.
use Rattle.std.proofs.Common.{◌≡◌, ◌<◌, ℕ, true, false, [], length, refl, arith}
use Rattle.std.proofs.lemmas.List.{length-replicate}
use Rattle.vub_base.specs.declared.header.Header1.{Header1}
use Rattle.vub_device.specs.Requests.{zeros}
use Rattle.vub_schedule.specs.Spelling.{IsHeader}
use Rattle.vub_run.specs.Memory.{opening_scene}
use Rattle.vub_run.specs.Moments.{opening, opening_lane}
use Rattle.vub_run_laws.proofs.Sizes.{size_laps}
use Rattle.vub_run_laws.proofs.RunGood.{Known}
use Rattle.vub_run_laws.proofs.RunHolds.{Holds}
use Rattle.vub_run_laws.proofs.RunTurns.{IsPlain, Good}
use Rattle.vub_run_laws.proofs.RunQueue.{queue_opens}

length_zeros : length zeros ≡ 512
unfolding zeros
length_zeros = length-replicate {A = ℕ} 512 0

none_known : (q n cap : ℕ) → 0 < n → Known q n cap [] []
none_known q n cap some = record {
  offers_are = refl;
  offered = omega arith;
  distinct = refl;
  below = λ k held. absurd (let fails : false ≡ true = held in cc);
  shown = omega arith;
  fewer = omega arith;
  room = omega arith;
  good = tt;
  wide = λ k low. absurd (omega arith);
  unfaulted = λ k. refl;
  values = λ s. length_zeros;
}

opening_holds : (q : ℕ) (h : Header1) → IsPlain h → q < h.queues → Holds q h (opening_scene h) (opening_lane h)
opening_holds q h plain low = record {
  known = none_known q h.size h.capacity plain.good.size.some;
  worked = record {
    distinct = refl;
    opens = λ k held. absurd (let fails : false ≡ true = held in cc);
    untouched = λ k high. refl;
    progress = λ on. absurd (let fails : false ≡ true = on in cc);
    full = λ k held. absurd (let fails : false ≡ true = held in cc);
    pending = λ k is_open out. tt;
    quiet = λ e. (refl, (refl, λ k. refl));
    between = tt;
  };
  stored = record { sectors = λ k i is_open kept read. absurd (omega (arith, kept.put)); status = λ k held. absurd (let fails : false ≡ true = held in cc) };
  carries = record {
    distinct = refl;
    shown = λ k held out. absurd (let fails : false ≡ true = held in cc);
    quiet = λ stopped. refl;
    low = omega arith;
  };
  queue = queue_opens q h plain.good.base low;
}

-- a run begins well
pub opening_good : (q : ℕ) (h : Header1) → IsPlain h → q < h.queues → Good q h (opening h)
opening_good q h plain low = record { holds = opening_holds q h plain low; asleep = λ dead. (refl, refl); counts = λ stopped k is_open. absurd (omega (arith, is_open.taken)) }

-- what the grammar says of a header
pub plain_header : (h : Header1) → IsHeader h → IsPlain h
plain_header h is =
    let size = size_laps h.size is.sized in record {
      good = record {
        size = record { some = size.0; small = size.1; laps = size.2 };
        queues = is.one;
        base = omega (arith, is.begins);
      };
      back = is.back;
    }
