use Rattle.std.proofs.Common.{◌≤◌, length}
use Rattle.readings.proofs.notation.add_repeat.Given as goal

abbrev pub invariant-loop : goal.invariant-loop
invariant-loop l = l.to ≤ length l.out.items
