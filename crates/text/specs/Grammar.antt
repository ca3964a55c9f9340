-- How a value is spelled in tokens, one after another.
use Rattle.std.specs.Prelude.{◌≡◌, ℕ, ◌↔◌, List, [], ◌∷◌, ◌++◌, map, Option}
use Rattle.text.specs.Cut.{Piece, NoSeparator}
use Rattle.text.specs.Readers.{the_number}
use Rattle.text.specs.Scan.{Scan, Taken, took, then, one, with_tokens}

-- a value, or one more token and what follows by what it says
pub data Grammar (X : Type 0) : Type 1 where
  done : X → Grammar X
  field : {Y : Type 0} → (List ℕ → Option Y) → (Y → Grammar X) → Grammar X

-- a number that nothing uses is 0
abbrev pub unused : {X : Type 0} → X → Grammar X
unused x = field (the_number 0) (λ _. done x)

-- a value read by its grammar, token by token
abbrev pub take : {X : Type 0} → Grammar X → Scan → Taken X
take (done x) s = took x s
take (field f go) s = then (one f s) (λ y z. take (go y) z)

-- a grammar, and the tokens that spell each value. Proper are the values whose numbers are in their ranges
pub record Format (X : Type 0) : Type 1 where
  pub grammar : Grammar X
  pub Proper : X → Type 0
  pub spelled : X → List (List ℕ)

-- the next tokens at s are those, and z is where the reading stands after them
pub record StandsAt (s : Scan) (tokens : List (List ℕ)) (z : Scan) : Type 0 where
  pub front : List Piece
  pub is : map (λ t. t.bytes) front ≡ tokens
  pub whole : s ≡ with_tokens z (front ++ z.tokens)

abbrev pub Unbroken : List (List ℕ) → Type 0
Unbroken [] = Unit {0}
Unbroken (w ∷ ws) = NoSeparator w × Unbroken ws

-- reading is the inverse of spelling: a value is read exactly where its one spelling stands
pub record Readable {X : Type 0} (f : Format X) : Type 0 where
  pub inverse : (s z : Scan) (x : X) → (take f.grammar s ≡ took x z) ↔ (f.Proper x × StandsAt s (f.spelled x) z)
  pub unbroken : (x : X) → f.Proper x → Unbroken (f.spelled x)
