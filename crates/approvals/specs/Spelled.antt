-- How the facts, guards and actions of the approvals kind are spelled.
use Rattle.std.specs.Prelude.{ℕ, ◌≤◌, List, [], ◌∷◌, ◌++◌, decimal}
use Rattle.text.specs.Readers.{natural}
use Rattle.text.specs.Grammar.{Grammar, done, field, Format}
use Rattle.kinds.specs.Spelling.{Spelling}
use Rattle.approvals.specs.declared.data.Pattern.{Pattern}
use Rattle.approvals.specs.declared.data.Guard.{Guard}
use Rattle.approvals.specs.declared.data.Action.{Action}

-- a mask is a word
abbrev pub largest : ℕ
largest = 4294967295

-- both masks, and what follows
abbrev pub pattern_then : {X : Type 0} → (Pattern → Grammar X) → Grammar X
pattern_then go = field (natural largest) (λ a. field (natural largest) (λ b. go (record { ones = a; zeros = b })))

abbrev pub pattern_spelled : Pattern → List (List ℕ)
pattern_spelled p = decimal p.ones ∷ decimal p.zeros ∷ []

abbrev pub PatternProper : Pattern → Type 0
PatternProper p = (p.ones ≤ largest) × (p.zeros ≤ largest)

abbrev pub facts : Format Pattern
facts = record { grammar = pattern_then done; Proper = PatternProper; spelled = pattern_spelled }

abbrev pub guards : Format Guard
guards = record {
  grammar = pattern_then (λ s. field (natural 32) (λ l. pattern_then (λ d. done (record { store = s; least = l; datum = d }))));
  Proper = λ g. PatternProper g.store × (g.least ≤ 32) × PatternProper g.datum;
  spelled = λ g. pattern_spelled g.store ++ (decimal g.least ∷ pattern_spelled g.datum);
}

abbrev pub actions : Format Action
actions = record {
  grammar = field (natural largest) (λ a. field (natural largest) (λ b. done (record { up = a; down = b })));
  Proper = λ a. (a.up ≤ largest) × (a.down ≤ largest);
  spelled = λ a. decimal a.up ∷ decimal a.down ∷ [];
}

-- the kind's letter is r
abbrev pub spelling : Spelling Pattern Guard Action
spelling = record { letter = 114; facts = facts; guards = guards; actions = actions }
