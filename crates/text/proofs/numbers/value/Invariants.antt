use Rattle.std.proofs.Common.{◌≡◌, ◌≤◌, drop}
use Rattle.text.specs.Readers.{natural}
use Rattle.text.proofs.Values.{within_from}
use Rattle.text.proofs.numbers.value.Given as goal

-- what is left of the digits has still to give the answer, which the check cannot guess
abbrev pub invariant-loop-d : goal.invariant-loop-d
invariant-loop-d l = (l.n ≤ l.most) × (natural l.most l.digits ≡ within_from l.most l.n (drop l.d-index l.digits))
