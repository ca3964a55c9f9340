use Rattle.std.proofs.Common.{◌≡◌, length}
use Rattle.text.specs.Cursor.{scan_of}
use Rattle.syntax.specs.Reading.{reading, outcome, ComesTo}
use Rattle.syntax.proofs.Whole.{rest}
use Rattle.plans.specs.Meaning.{plan_of}
use Rattle.plans.proofs.plan.Plan.read_whole.Given as goal

-- the lines that are left have still to give the answer
abbrev pub invariant-loop-tokens : goal.invariant-loop-tokens
invariant-loop-tokens g l =
    (reading g.K.Kind.answers g.K.Spelling.formats l.text
    ≡ outcome (rest g.K.Kind.answers g.K.Spelling.formats (plan_of l.plan) (scan_of l.tokens)))
    × ComesTo g.K.Kind.answers g.K.Spelling.formats l.text (plan_of l.plan) (scan_of l.tokens)

abbrev pub decreases-loop-tokens : goal.decreases-loop-tokens
decreases-loop-tokens g l = length (scan_of l.tokens).below
