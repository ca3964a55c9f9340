-- Proofs that each fact, guard and action has one spelling, and that reading is its inverse.
use Rattle.std.specs.Prelude.{ℕ, ◌≤◌, List, ◌∷◌, decimal, refl}
use Rattle.std.proofs.Common.{arith}
use Rattle.text.specs.Readers.{natural}
use Rattle.text.specs.Grammar.{Grammar, Readable}
use Rattle.text.proofs.Spelled.{Reads, Only, only_done, only_field, gives_done, gives_field, readable, naturals}
use Rattle.approvals.specs.declared.data.Pattern.{Pattern}
use Rattle.approvals.specs.Spelled.{largest, facts, guards, actions, PatternProper, pattern_then}

masks : Reads (natural largest) (λ n. n ≤ largest) decimal
masks = naturals largest (omega arith)

leasts : Reads (natural 32) (λ n. n ≤ 32) decimal
leasts = naturals 32 (omega arith)

only_pattern : {X : Type 0} {go : Pattern → Grammar X} {C : List (List ℕ) → X → Type 0} → ((p : Pattern) → PatternProper p → Only (go p) (λ ws. C (decimal p.ones ∷ decimal p.zeros ∷ ws))) → Only (pattern_then go) C
only_pattern h = only_field masks (λ a p. only_field masks (λ b q. h (record { ones = a; zeros = b }) (p, q)))

pub facts_read : Readable facts
facts_read = readable facts (only_pattern (λ r p. only_done (p, refl))) (λ r (p, q). gives_field masks p (gives_field masks q gives_done))

pub guards_read : Readable guards
guards_read =
    readable guards (only_pattern (λ s p. only_field leasts (λ l q. only_pattern (λ d r. only_done ((p, q, r), refl)))))
    (λ g ((a, b), l, (c, d)). gives_field masks a (gives_field masks b (gives_field leasts l (gives_field masks c (gives_field masks d gives_done)))))

pub actions_read : Readable actions
actions_read =
    readable actions (only_field masks (λ a p. only_field masks (λ b q. only_done ((p, q), refl))))
    (λ x (p, q). gives_field masks p (gives_field masks q gives_done))
