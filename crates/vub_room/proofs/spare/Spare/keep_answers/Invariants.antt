use Rattle.vub_room.proofs.spare.Spare.keep_answers.Given as goal

abbrev pub decreases-loop-answer : goal.decreases-loop-answer
decreases-loop-answer l = goal.left-loop-answer l
