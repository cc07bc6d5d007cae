use Rattle.std.proofs.Common.{◌-◌, ◌≤◌, length, length-take, vec_len, arith}
use Rattle.vublk.proofs.Streams.{Reads-takes, Takes-more}
use Rattle.vublk.proofs.reading.read_piece.Goals as goal

pub returns-in_err-map_err-clause-taken : goal.returns-in_err-map_err-clause-taken
returns-in_err-map_err-clause-taken g c =
    let fits : length c.read.new.into ≤ 16777217 - vec_len c.args.bytes.now = omega (arith, c.min-room.ensures, c.read.auto.into, length-take c.min-room.result c.args.piece.now, c.len.ensures) in
    Takes-more _ _ _ _ fits (Reads-takes _ _ c.read.result c.read.new.into c.read.ensures.within c.read.ensures.reads)

pub returns-clause-taken : goal.returns-clause-taken
returns-clause-taken g c =
    let fits : length c.read.new.into ≤ 16777217 - vec_len c.args.bytes.now = omega (arith, c.min-room.ensures, c.read.auto.into, length-take c.min-room.result c.args.piece.now, c.len.ensures) in
    Takes-more _ _ _ _ fits (Reads-takes _ _ c.read.result c.read.new.into c.read.ensures.within c.read.ensures.reads)
