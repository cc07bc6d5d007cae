use Rattle.std.proofs.Common.{◌≡◌, ◌≤◌, ℕ, List, length, ap, sym, subst, ◌∙◌, arith}
use Rattle.vub_shared.specs.Watched.{bytes_in}
use Rattle.vub_shared.proofs.BytesLemmas.{length-bytes_from}
use Rattle.vub_world.specs.declared.outstanding.OutstandingRequest.{OutstandingRequest}
use Rattle.vub_world.proofs.driver_side.DriverSide.answer.Goals as goal
use Rattle.vub_world.proofs.driver_side.DriverSide.answer.Goals.{then-status-eq-VIRTIO_BLK_S_OK, else-status-eq-VIRTIO_BLK_S_OK}

pub copy-requires-clause-few : goal.copy-requires-clause-few
copy-requires-clause-few c =
    let reads : c.at-request.result.reads ≤ 8 = subst (λ (o : OutstandingRequest). o.reads ≤ 8) (sym c.at-request.ensures) c.requires.few in
    let few : c.if-status-eq-VIRTIO_BLK_S_OK.read ≤ 4096 = elim c.if-status-eq-VIRTIO_BLK_S_OK.branch [ then-status-eq-VIRTIO_BLK_S_OK w ↦ omega (arith, w.read-is, w.from.ensures, reads) | else-status-eq-VIRTIO_BLK_S_OK w ↦ omega (arith, w.read-is) ] in
    let long : length c.bytes-bytes.result.now ≡ c.if-status-eq-VIRTIO_BLK_S_OK.read = ap (λ (xs : List ℕ). length xs) c.bytes-bytes.ensures ∙ length-bytes_from c.if-status-eq-VIRTIO_BLK_S_OK.read (bytes_in c.args.memory.now) _ _ in
    omega (arith, few, long)
