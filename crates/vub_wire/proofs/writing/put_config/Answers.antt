use Rattle.std.proofs.Common.{ap, ◌++◌, ◌∙◌}
use Rattle.byteorder.specs.Endian.{little_bytes}
use Rattle.vub_wire.specs.Grammar.{config_bytes}
use Rattle.vub_wire.proofs.Appends.{four}
use Rattle.vub_wire.proofs.writing.put_config.Goals as goal

pub returns-clause-items : goal.returns-clause-items
unfolding config_bytes
returns-clause-items c =
    let x = c.args.config.now in
    four c.args.out.now.items (little_bytes 4 x.offset) (little_bytes 4 x.size) (little_bytes 4 x.flags) x.bytes.items
    c.put_u32.ensures.items c.put_u32-2.ensures.items c.put_u32-3.ensures.items (c.put.ensures.items ∙ ap (λ l. c.put_u32-3.new.out.items ++ l) c.as_slice.ensures.value)
