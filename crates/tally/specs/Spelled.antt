-- How the facts, guards and actions of the tally kind are spelled.
use Rattle.std.specs.Prelude.{ℕ, cond, List, [], ◌∷◌, ◌++◌, Some, None, codes, Option, FitsSigned, ◌==◌}
use Rattle.std.specs.Int.{w32}
use Rattle.std.specs.Fmt.{signed_decimal}
use Rattle.text.specs.Readers.{signed_word, lettered}
use Rattle.text.specs.Grammar.{Grammar, done, field, unused, Format}
use Rattle.kinds.specs.Spelling.{Spelling}
use Rattle.tally.specs.declared.data.Range.{Range}
use Rattle.tally.specs.declared.data.Guard.{Guard}
use Rattle.tally.specs.declared.data.Action.{Action}
use Rattle.tally.specs.declared.data.Action.TheVariants.{Nothing, Add, AddDatum, Set}

-- both ends, and what follows
abbrev pub range_then : {X : Type 0} → (Range → Grammar X) → Grammar X
range_then go = field signed_word (λ a. field signed_word (λ b. go (record { lo = a; hi = b })))

abbrev pub range_spelled : Range → List (List ℕ)
range_spelled r = signed_decimal r.lo ∷ signed_decimal r.hi ∷ []

-- both ends are signed words
abbrev pub RangeProper : Range → Type 0
RangeProper r = FitsSigned w32 r.lo × FitsSigned w32 r.hi

abbrev pub facts : Format Range
facts = record { grammar = range_then done; Proper = RangeProper; spelled = range_spelled }

abbrev pub guards : Format Guard
guards = record {
  grammar = range_then (λ c. range_then (λ d. done (record { count = c; datum = d })));
  Proper = λ g. RangeProper g.count × RangeProper g.datum;
  spelled = λ g. range_spelled g.count ++ range_spelled g.datum;
}

-- an action's letter: n, +, d or =
pub data Letter : Type 0 where
  nothing add add_datum set : Letter

abbrev pub letter_of : ℕ → Option Letter
letter_of c =
    cond (c == 110) (Some nothing) (cond (c == 43) (Some add) (cond (c == 100) (Some add_datum) (cond (c == 61) (Some set) None)))

-- a letter's number
abbrev pub number_after : Letter → Grammar Action
number_after nothing = unused Nothing
number_after add = field signed_word (λ k. done (Add k))
number_after add_datum = unused AddDatum
number_after set = field signed_word (λ k. done (Set k))

abbrev pub action_spelled : Action → List (List ℕ)
action_spelled Nothing = codes "n" ∷ codes "0" ∷ []
action_spelled (Add k) = codes "+" ∷ signed_decimal k ∷ []
action_spelled AddDatum = codes "d" ∷ codes "0" ∷ []
action_spelled (Set k) = codes "=" ∷ signed_decimal k ∷ []

abbrev pub ActionProper : Action → Type 0
ActionProper Nothing = Unit {0}
ActionProper (Add k) = FitsSigned w32 k
ActionProper AddDatum = Unit {0}
ActionProper (Set k) = FitsSigned w32 k

abbrev pub actions : Format Action
actions = record { grammar = field (lettered letter_of) number_after; Proper = ActionProper; spelled = action_spelled }

-- the kind's letter is t
abbrev pub spelling : Spelling Range Guard Action
spelling = record { letter = 116; facts = facts; guards = guards; actions = actions }
