use Rattle.std.proofs.Common.{◌+◌, ◌-◌, ◌≤◌, length, vec_len, arith}
use Rattle.vublk.proofs.Streams.{Takes-then}
use Rattle.vublk.proofs.reading.read_all.Goals as goal

pub returns-in_err-count-clause-taken : goal.returns-in_err-count-clause-taken
returns-in_err-count-clause-taken g c =
    let fits : length c.loop-piece.bytes.items + (16777217 - vec_len c.loop-piece.bytes) ≤ 16777217 = omega (arith, c.loop-piece.invariant.short, c.loop-piece.bytes.ok) in
    Takes-then _ _ _ _ _ c.loop-piece.bytes.items c.loop-piece.invariant.took c.read_piece.ensures.taken fits
