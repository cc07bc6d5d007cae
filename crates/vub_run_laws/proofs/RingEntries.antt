-- Entries leave what is known of a split ring.
use Rattle.std.proofs.Common.{◌<◌, ℕ, ◌+◌, ◌%◌, List, length, ap, sym, ◌∙◌, subst, arith}
use Rattle.std.specs.Prelude.{Option, Some, None, slice_index}
use Rattle.vub_shared.specs.Bytes.{Bytes}
use Rattle.vub_driver.specs.Drivers.{Driver, Waiting}
use Rattle.vub_device.specs.Past.{published}
use Rattle.vub_device.specs.declared.entry.Asked.{Asked}
use Rattle.vub_device.specs.declared.entry.Entry.{Entry}
use Rattle.vub_run.specs.Tracking.{answered_len}
use Rattle.vub_run_laws.proofs.RingGood.{Driven, Ringed, WaitsWell}
use Rattle.vub_run_laws.proofs.RunGood.{IsOut, spot, LeavesQueue}

pub waits_same : (q n cap : ℕ) (past past' : List Entry) (heads : List ℕ) (v : Driver) (o : Option Waiting) → ((k : ℕ) → IsOut q past' heads k → IsOut q past heads k) → WaitsWell q n cap past heads v o → WaitsWell q n cap past' heads v o
waits_same q n cap past past' heads v None out w = tt
waits_same q n cap past past' heads v (Some x) out w = record {
  wide = w.wide;
  below = w.below;
  mine = w.mine;
  apart = λ k o. w.apart k (out k o);
  plan = w.plan;
}

pub driven_same : (q n cap base : ℕ) (past past' : List Entry) (heads : List ℕ) (v : Driver) → ((k : ℕ) → IsOut q past' heads k → IsOut q past heads k) → Driven q n cap base past heads v → Driven q n cap base past' heads v
driven_same q n cap base past past' heads v out d = record {
  index = d.index;
  below = λ k o. d.below k (out k o);
  owned = λ k o. d.owned k (out k o);
  apart = λ j k oj ok same. d.apart j k (out j oj) (out k ok) same;
  waits = waits_same q n cap past past' heads v v.waiting out d.waits;
}

pub ringed_entries : (q n base : ℕ) (past past' : List Entry) (heads : List ℕ) (m : Bytes) → LeavesQueue q past past' → Ringed q n base past heads m → Ringed q n base past' heads m
ringed_entries q n base past past' heads m leaves r = record {
  avail_idx_is = r.avail_idx_is;
  used_idx_is = r.used_idx_is ∙ ap (λ (ks : List ℕ). (base + length ks) % 65536) (sym leaves.shows);
  avail_at = λ i from upto. r.avail_at i (omega (arith, from, leaves.accepts)) upto;
  used_at = λ i from upto.
      let k : ℕ = slice_index (published past' q) i in
      r.used_at i (omega (arith, from, leaves.collects)) (subst (λ (ks : List ℕ). i < length ks) leaves.shows upto)
      ∙ ap (λ (ks : List ℕ). spot q heads past (slice_index ks i)) (sym leaves.shows) ∙ ap (λ (o : Option Asked). (slice_index heads k, answered_len 0 o)) (sym (leaves.asks k));
}
