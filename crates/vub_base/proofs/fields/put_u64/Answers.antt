use Rattle.vub_base.proofs.FieldLemmas.{put_front}
use Rattle.vub_base.proofs.fields.put_u64.Goals as goal

pub returns : goal.returns
returns c = put_front 8 c.args.at c.args.value c.args.bytes.now c.write_u64.new.buf c.requires c.write_u64.ensures
