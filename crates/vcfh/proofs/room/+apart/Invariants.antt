use Rattle.vcfh.proofs.room.+apart.Given as goal

abbrev pub decreases-apart : goal.decreases-apart
decreases-apart g l = l.turns
