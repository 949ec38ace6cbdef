-- Each call is at a tenth of the number.
use Rattle.line.proofs.write.+natural.Given as goal

abbrev pub decreases-natural : goal.decreases-natural
decreases-natural l = l.n
