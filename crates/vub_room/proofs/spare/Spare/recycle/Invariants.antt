use Rattle.vub_room.proofs.spare.Spare.recycle.Given as goal

abbrev pub decreases-loop-item : goal.decreases-loop-item
decreases-loop-item l = goal.left-loop-item l
