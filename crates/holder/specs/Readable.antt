-- Proofs that each fact, guard and action has one spelling, and that reading is its inverse.
use Rattle.std.specs.Prelude.{◌≡◌, ℕ, ◌≤◌, List, [], ◌∷◌, Some, decimal, refl}
use Rattle.std.proofs.Common.{arith}
use Rattle.std.proofs.lemmas.Bool.Decides.{nat_tests}
use Rattle.text.specs.Readers.{natural, lettered}
use Rattle.text.specs.Grammar.{Readable}
use Rattle.text.proofs.Spelled.{Reads, Only as OnlyReads, Gives, only_done, only_field, gives_done, gives_field, readable, naturals, letters, only_unused, gives_unused}
use Rattle.holder.specs.declared.data.Fact.{Fact}
use Rattle.holder.specs.declared.data.Fact.TheVariants.{Any, Only, Except}
use Rattle.holder.specs.declared.data.Guard.{Guard}
use Rattle.holder.specs.declared.data.Guard.TheVariants.{True, IsHolder, NotHolder, Nobody, Somebody, User}
use Rattle.holder.specs.declared.data.Action.{Action}
use Rattle.holder.specs.declared.data.Action.TheVariants.{Nothing, Take, Clear}
use Rattle.holder.specs.Holder.{largest}
use Rattle.holder.specs.Spelled.{of_user}
use Rattle.holder.specs.Spelled.{FactLetter, any, only, except, fact_letter_of, fact_after, fact_spelled, FactProper, facts}
use Rattle.holder.specs.Spelled.{GuardLetter, truth, is_holder, not_holder, nobody, somebody, user, guard_letter_of, guard_after, guard_spelled, GuardProper, guards}
use Rattle.holder.specs.Spelled.{ActionLetter, nothing, take, clear, action_letter_of, action_after, action_spelled, actions}

user_word : Reads (natural largest) (λ u. u ≤ largest) decimal
user_word = naturals largest (omega arith)

module _ {X : Type 0} where
  only_user : {x : ℕ → X} {C : List (List ℕ) → X → Type 0} → ((u : ℕ) → u ≤ largest → C (decimal u ∷ []) (x u)) → OnlyReads (of_user x) C
  only_user h = only_field user_word (λ u p. only_done (h u p))

  gives_user : {x : ℕ → X} {u : ℕ} → u ≤ largest → Gives (of_user x) (decimal u ∷ []) (x u)
  gives_user p = gives_field user_word p gives_done

abbrev fact_code : FactLetter → ℕ
fact_code any = 42
fact_code only = 61
fact_code except = 33

fact_code_only : (c : ℕ) (l : FactLetter) → fact_letter_of c ≡ Some l → c ≡ fact_code l
fact_code_only c l e = grind (arith, nat_tests)

fact_word : Reads (lettered fact_letter_of) (λ _. Unit {0}) (λ l. fact_code l ∷ [])
fact_word =
    letters fact_letter_of fact_code (record {
      only = fact_code_only;
      each = elim [ any ↦ (refl, refl, refl) | only ↦ (refl, refl, refl) | except ↦ (refl, refl, refl) ];
    })

fact_only : (l : FactLetter) → OnlyReads (fact_after l) (λ ws f. FactProper f × ((fact_code l ∷ []) ∷ ws ≡ fact_spelled f))
fact_only any = only_unused (tt, refl)
fact_only only = only_user (λ u p. (p, refl))
fact_only except = only_user (λ u p. (p, refl))

fact_gives : (f : Fact) → FactProper f → Gives facts.grammar (fact_spelled f) f
fact_gives Any p = gives_field fact_word {y = any} tt gives_unused
fact_gives (Only u) p = gives_field fact_word {y = only} tt (gives_user p)
fact_gives (Except u) p = gives_field fact_word {y = except} tt (gives_user p)

pub facts_read : Readable facts
facts_read = readable facts (only_field fact_word (λ l _. fact_only l)) fact_gives

abbrev guard_code : GuardLetter → ℕ
guard_code truth = 42
guard_code is_holder = 61
guard_code not_holder = 33
guard_code nobody = 102
guard_code somebody = 103
guard_code user = 117

guard_code_only : (c : ℕ) (l : GuardLetter) → guard_letter_of c ≡ Some l → c ≡ guard_code l
guard_code_only c l e = grind (arith, nat_tests)

guard_word : Reads (lettered guard_letter_of) (λ _. Unit {0}) (λ l. guard_code l ∷ [])
guard_word =
    letters guard_letter_of guard_code (record {
      only = guard_code_only;
      each = elim [
        | truth ↦ (refl, refl, refl)
        | is_holder ↦ (refl, refl, refl)
        | not_holder ↦ (refl, refl, refl)
        | nobody ↦ (refl, refl, refl)
        | somebody ↦ (refl, refl, refl)
        | user ↦ (refl, refl, refl)
      ];
    })

guard_only : (l : GuardLetter) → OnlyReads (guard_after l) (λ ws g. GuardProper g × ((guard_code l ∷ []) ∷ ws ≡ guard_spelled g))
guard_only truth = only_unused (tt, refl)
guard_only is_holder = only_unused (tt, refl)
guard_only not_holder = only_unused (tt, refl)
guard_only nobody = only_unused (tt, refl)
guard_only somebody = only_unused (tt, refl)
guard_only user = only_user (λ u p. (p, refl))

guard_gives : (g : Guard) → GuardProper g → Gives guards.grammar (guard_spelled g) g
guard_gives True p = gives_field guard_word {y = truth} tt gives_unused
guard_gives IsHolder p = gives_field guard_word {y = is_holder} tt gives_unused
guard_gives NotHolder p = gives_field guard_word {y = not_holder} tt gives_unused
guard_gives Nobody p = gives_field guard_word {y = nobody} tt gives_unused
guard_gives Somebody p = gives_field guard_word {y = somebody} tt gives_unused
guard_gives (User u) p = gives_field guard_word {y = user} tt (gives_user p)

pub guards_read : Readable guards
guards_read = readable guards (only_field guard_word (λ l _. guard_only l)) guard_gives

abbrev action_code : ActionLetter → ℕ
action_code nothing = 110
action_code take = 116
action_code clear = 99

action_code_only : (c : ℕ) (l : ActionLetter) → action_letter_of c ≡ Some l → c ≡ action_code l
action_code_only c l e = grind (arith, nat_tests)

action_word : Reads (lettered action_letter_of) (λ _. Unit {0}) (λ l. action_code l ∷ [])
action_word =
    letters action_letter_of action_code (record {
      only = action_code_only;
      each = elim [ nothing ↦ (refl, refl, refl) | take ↦ (refl, refl, refl) | clear ↦ (refl, refl, refl) ];
    })

action_only : (l : ActionLetter) → OnlyReads (action_after l) (λ ws a. Unit {0} × ((action_code l ∷ []) ∷ ws ≡ action_spelled a))
action_only nothing = only_unused (tt, refl)
action_only take = only_unused (tt, refl)
action_only clear = only_unused (tt, refl)

action_gives : (a : Action) → Unit {0} → Gives actions.grammar (action_spelled a) a
action_gives Nothing p = gives_field action_word {y = nothing} tt gives_unused
action_gives Take p = gives_field action_word {y = take} tt gives_unused
action_gives Clear p = gives_field action_word {y = clear} tt gives_unused

pub actions_read : Readable actions
actions_read = readable actions (only_field action_word (λ l _. action_only l)) action_gives
