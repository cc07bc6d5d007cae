use Rattle.vub_session.proofs.DrainLemmas.{drained_stops, stops_drained}
use Rattle.vub_session.proofs.laws.stopping_an_attached_queue_drains.Goals as goal

pub returns : goal.returns
returns c = λ s m queue. (drained_stops s m queue, stops_drained s m queue)
