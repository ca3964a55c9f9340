use Rattle.std.proofs.Common.{length}
use Rattle.readings.proofs.notation.expand.Given as goal

abbrev pub decreases-loop-after : goal.decreases-loop-after
decreases-loop-after l = length l.rest
