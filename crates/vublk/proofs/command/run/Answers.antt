use Rattle.vublk.proofs.Statuses.{plays, finds, completes}
use Rattle.vublk.proofs.command.run.Goals as goal

pub returns-in-Some-clause-plays : goal.returns-in-Some-clause-plays
returns-in-Some-clause-plays g c = λ accepted text told is fits. plays _ _ _ _ _ c.replay.result c.status.result c.status.ensures c.replay.ensures.ends text told is fits

pub returns-in-Some-clause-finds : goal.returns-in-Some-clause-finds
returns-in-Some-clause-finds g c = λ accepted text told n bad fits. finds _ _ _ _ _ c.replay.result c.status.result c.status.ensures c.replay.ensures.ends text told n bad fits

pub returns-in-Some-clause-completes : goal.returns-in-Some-clause-completes
returns-in-Some-clause-completes g c = λ accepted text told is fits no_read no_write.
    let unless = plays _ _ _ _ _ c.replay.result c.status.result c.status.ensures c.replay.ensures.ends text told is fits in
    completes c.replay.result c.status.result _ _ c.status.ensures unless c.replay.ensures.read c.replay.ensures.write no_read no_write
