-- How the facts, guards and actions of the holder kind are spelled.
use Rattle.std.specs.Prelude.{ℕ, ◌≤◌, cond, List, [], ◌∷◌, Some, None, codes, decimal, Option, ◌==◌}
use Rattle.text.specs.Readers.{natural, lettered}
use Rattle.text.specs.Grammar.{Grammar, done, field, unused, Format}
use Rattle.kinds.specs.Spelling.{Spelling}
use Rattle.holder.specs.declared.data.Fact.{Fact}
use Rattle.holder.specs.declared.data.Fact.TheVariants.{Any, Only, Except}
use Rattle.holder.specs.declared.data.Guard.{Guard}
use Rattle.holder.specs.declared.data.Guard.TheVariants.{True, IsHolder, NotHolder, Nobody, Somebody, User}
use Rattle.holder.specs.declared.data.Action.{Action}
use Rattle.holder.specs.declared.data.Action.TheVariants.{Nothing, Take, Clear}
use Rattle.holder.specs.Holder.{largest}

-- the number of a user, or 0
abbrev pub of_user : {X : Type 0} → (ℕ → X) → Grammar X
of_user x = field (natural largest) (λ u. done (x u))

-- a fact's letter: *, = or !
pub data FactLetter : Type 0 where
  any only except : FactLetter

abbrev pub fact_letter_of : ℕ → Option FactLetter
fact_letter_of c = cond (c == 42) (Some any) (cond (c == 61) (Some only) (cond (c == 33) (Some except) None))

abbrev pub fact_after : FactLetter → Grammar Fact
fact_after any = unused Any
fact_after only = of_user Only
fact_after except = of_user Except

abbrev pub fact_spelled : Fact → List (List ℕ)
fact_spelled Any = codes "*" ∷ codes "0" ∷ []
fact_spelled (Only u) = codes "=" ∷ decimal u ∷ []
fact_spelled (Except u) = codes "!" ∷ decimal u ∷ []

abbrev pub FactProper : Fact → Type 0
FactProper Any = Unit {0}
FactProper (Only u) = u ≤ largest
FactProper (Except u) = u ≤ largest

abbrev pub facts : Format Fact
facts = record { grammar = field (lettered fact_letter_of) fact_after; Proper = FactProper; spelled = fact_spelled }

-- a guard's letter: *, =, !, f, g or u
pub data GuardLetter : Type 0 where
  truth is_holder not_holder nobody somebody user : GuardLetter

abbrev pub guard_letter_of : ℕ → Option GuardLetter
guard_letter_of c =
    cond (c == 42) (Some truth)
    (cond (c == 61) (Some is_holder)
    (cond (c == 33) (Some not_holder) (cond (c == 102) (Some nobody) (cond (c == 103) (Some somebody) (cond (c == 117) (Some user) None)))))

abbrev pub guard_after : GuardLetter → Grammar Guard
guard_after truth = unused True
guard_after is_holder = unused IsHolder
guard_after not_holder = unused NotHolder
guard_after nobody = unused Nobody
guard_after somebody = unused Somebody
guard_after user = of_user User

abbrev pub guard_spelled : Guard → List (List ℕ)
guard_spelled True = codes "*" ∷ codes "0" ∷ []
guard_spelled IsHolder = codes "=" ∷ codes "0" ∷ []
guard_spelled NotHolder = codes "!" ∷ codes "0" ∷ []
guard_spelled Nobody = codes "f" ∷ codes "0" ∷ []
guard_spelled Somebody = codes "g" ∷ codes "0" ∷ []
guard_spelled (User u) = codes "u" ∷ decimal u ∷ []

abbrev pub GuardProper : Guard → Type 0
GuardProper True = Unit {0}
GuardProper IsHolder = Unit {0}
GuardProper NotHolder = Unit {0}
GuardProper Nobody = Unit {0}
GuardProper Somebody = Unit {0}
GuardProper (User u) = u ≤ largest

abbrev pub guards : Format Guard
guards = record { grammar = field (lettered guard_letter_of) guard_after; Proper = GuardProper; spelled = guard_spelled }

-- an action's letter: n, t or c
pub data ActionLetter : Type 0 where
  nothing take clear : ActionLetter

abbrev pub action_letter_of : ℕ → Option ActionLetter
action_letter_of c = cond (c == 110) (Some nothing) (cond (c == 116) (Some take) (cond (c == 99) (Some clear) None))

abbrev pub action_after : ActionLetter → Grammar Action
action_after nothing = unused Nothing
action_after take = unused Take
action_after clear = unused Clear

abbrev pub action_spelled : Action → List (List ℕ)
action_spelled Nothing = codes "n" ∷ codes "0" ∷ []
action_spelled Take = codes "t" ∷ codes "0" ∷ []
action_spelled Clear = codes "c" ∷ codes "0" ∷ []

-- each action is proper
abbrev pub actions : Format Action
actions = record { grammar = field (lettered action_letter_of) action_after; Proper = λ _. Unit {0}; spelled = action_spelled }

-- the kind's letter is h
abbrev pub spelling : Spelling Fact Guard Action
spelling = record { letter = 104; facts = facts; guards = guards; actions = actions }
