use Rattle.std.proofs.Common.{refl}
use Rattle.vub_split.proofs.SplitLemmas.{avail_idx_is, head_is, used_idx_is, used_id_store_is, used_len_store_is}
use Rattle.vub_split.proofs.laws.a_split_ring_is_a_ring.Goals as goal

pub returns-clause-avail_idx : goal.returns-clause-avail_idx
returns-clause-avail_idx c r m = avail_idx_is r m

pub returns-clause-head : goal.returns-clause-head
returns-clause-head c sizes r m index lies = head_is r m index lies.laps

pub returns-clause-used_idx : goal.returns-clause-used_idx
returns-clause-used_idx c r m = used_idx_is r m

pub returns-clause-used_idx_store : goal.returns-clause-used_idx_store
returns-clause-used_idx_store c r index = refl

pub returns-clause-used_id_store : goal.returns-clause-used_id_store
returns-clause-used_id_store c sizes r index id lies = used_id_store_is r index id lies.laps

pub returns-clause-used_len_store : goal.returns-clause-used_len_store
returns-clause-used_len_store c sizes r index len lies = used_len_store_is r index len lies.laps
