use Rattle.vub_device.proofs.past.+lists_open.Given as goal

abbrev pub decreases-lists_open : goal.decreases-lists_open
decreases-lists_open l = l.below
