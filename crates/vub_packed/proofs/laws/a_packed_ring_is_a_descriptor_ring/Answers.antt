use Rattle.vub_packed.proofs.PackedLemmas.{slot_words}
use Rattle.vub_packed.proofs.laws.a_packed_ring_is_a_descriptor_ring.Goals as goal

pub returns : goal.returns
returns c r m index below = slot_words r m index below
