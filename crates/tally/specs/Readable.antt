-- Proofs that each fact, guard and action has one spelling, and that reading is its inverse.
use Rattle.std.specs.Prelude.{◌≡◌, ℕ, List, [], ◌∷◌, Some, refl}
use Rattle.std.proofs.Common.{arith}
use Rattle.std.specs.Fmt.{signed_decimal}
use Rattle.std.proofs.lemmas.Bool.Decides.{nat_tests}
use Rattle.text.specs.Readers.{lettered}
use Rattle.text.specs.Grammar.{Grammar, Readable}
use Rattle.text.proofs.Spelled.{Reads, Only, Gives, only_done, only_field, gives_done, gives_field, readable, signeds, letters, only_unused, gives_unused}
use Rattle.tally.specs.declared.data.Range.{Range}
use Rattle.tally.specs.declared.data.Action.{Action}
use Rattle.tally.specs.declared.data.Action.TheVariants.{Nothing, Add, AddDatum, Set}
use Rattle.tally.specs.Spelled.{facts, guards, actions, RangeProper, range_then, Letter, nothing, add, add_datum, set, letter_of, number_after, action_spelled, ActionProper}

only_range : {X : Type 0} {go : Range → Grammar X} {C : List (List ℕ) → X → Type 0} → ((r : Range) → RangeProper r → Only (go r) (λ ws. C (signed_decimal r.lo ∷ signed_decimal r.hi ∷ ws))) → Only (range_then go) C
only_range h = only_field signeds (λ a p. only_field signeds (λ b q. h (record { lo = a; hi = b }) (p, q)))

pub facts_read : Readable facts
facts_read = readable facts (only_range (λ r p. only_done (p, refl))) (λ r (p, q). gives_field signeds p (gives_field signeds q gives_done))

pub guards_read : Readable guards
guards_read =
    readable guards (only_range (λ c p. only_range (λ d q. only_done ((p, q), refl))))
    (λ g ((p, q), (r, s)). gives_field signeds p (gives_field signeds q (gives_field signeds r (gives_field signeds s gives_done))))

abbrev code : Letter → ℕ
code nothing = 110
code add = 43
code add_datum = 100
code set = 61

letter_only : (c : ℕ) (l : Letter) → letter_of c ≡ Some l → c ≡ code l
letter_only c l e = grind (arith, nat_tests)

letter_word : Reads (lettered letter_of) (λ _. Unit {0}) (λ l. code l ∷ [])
letter_word =
    letters letter_of code (record {
      only = letter_only;
      each = elim [ nothing ↦ (refl, refl, refl) | add ↦ (refl, refl, refl) | add_datum ↦ (refl, refl, refl) | set ↦ (refl, refl, refl) ];
    })

number_only : (l : Letter) → Only (number_after l) (λ ws a. ActionProper a × ((code l ∷ []) ∷ ws ≡ action_spelled a))
number_only nothing = only_unused (tt, refl)
number_only add = only_field signeds (λ k p. only_done (p, refl))
number_only add_datum = only_unused (tt, refl)
number_only set = only_field signeds (λ k p. only_done (p, refl))

action_gives : (a : Action) → ActionProper a → Gives actions.grammar (action_spelled a) a
action_gives Nothing p = gives_field letter_word {y = nothing} tt gives_unused
action_gives (Add k) p = gives_field letter_word {y = add} tt (gives_field signeds p gives_done)
action_gives AddDatum p = gives_field letter_word {y = add_datum} tt gives_unused
action_gives (Set k) p = gives_field letter_word {y = set} tt (gives_field signeds p gives_done)

pub actions_read : Readable actions
actions_read = readable actions (only_field letter_word (λ l _. number_only l)) action_gives
