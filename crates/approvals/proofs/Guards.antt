-- A guard is read by its parts.
use Rattle.std.proofs.Common.{◌≡◌, arith}
use Rattle.text.specs.Readers.{natural}
use Rattle.text.specs.Scan.{Scan, took, then, one}
use Rattle.text.specs.Grammar.{take}
use Rattle.approvals.specs.Spelled.{facts, guards}

-- the store's pattern, the least number and the datum's pattern, one after another
pub guard_by_parts : (s : Scan)
    → take guards.grammar s
    ≡ then (take facts.grammar s) (λ p z. then (one (natural 32) z) (λ l y. then (take facts.grammar y) (λ d x. took (record { store = p; least = l; datum = d }) x)))
guard_by_parts s = grind arith
