use Rattle.vub_base.proofs.FieldLemmas.{put_front}
use Rattle.vub_base.proofs.fields.put_u16.Goals as goal

pub returns : goal.returns
returns c = put_front 2 c.args.at c.args.value c.args.bytes.now c.write_u16.new.buf c.requires c.write_u16.ensures
