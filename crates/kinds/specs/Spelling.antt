-- How a kind's facts, guards and actions stand in a plan text.
use Rattle.std.specs.Prelude.{◌≡◌, ℕ, [], ◌∷◌, Some}
use Rattle.text.specs.Cut.{NoSeparator}
use Rattle.text.specs.Readers.{the_letter}
use Rattle.text.specs.Grammar.{Format, Readable}

-- the kind's letter, and the formats of its parts
pub record Spelling (F G A : Type 0) : Type 1 where
  pub letter : ℕ
  pub facts : Format F
  pub guards : Format G
  pub actions : Format A

module _ {F G A : Type 0} (s : Spelling F G A) where
  -- the kind's letter is read as itself; each part has one spelling, and reading is its inverse
  pub record ReadableParts : Type 0 where
    pub letter_reads : the_letter s.letter (s.letter ∷ []) ≡ Some tt
    pub letter_unbroken : NoSeparator (s.letter ∷ [])
    pub facts_read : Readable s.facts
    pub guards_read : Readable s.guards
    pub actions_read : Readable s.actions
