use Rattle.std.proofs.Common.{ℕ, List, replicate, ap, ◌+◌, ◌∙◌}
use Rattle.vub_memdisk.proofs.SectorLemmas.{same_push, length-push}
use Rattle.vub_memdisk.proofs.mem_disk.zeroed.Goals as goal

pub loop-made-preserved : goal.loop-made-preserved
loop-made-preserved c =
    let zeros : List ℕ = replicate 512 0 in
    record {
      count = length-push zeros c.loop-made.sectors.items c.add_zeroed.new.sectors.items c.in_ok-add_zeroed.ensures ∙ ap (λ (n : ℕ). n + 1) c.loop-made.invariant.count;
      zero = same_push zeros c.loop-made.sectors.items c.add_zeroed.new.sectors.items c.in_ok-add_zeroed.ensures c.loop-made.invariant.zero;
    }
