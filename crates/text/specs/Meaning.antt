-- What the code's cursor gives, token by token.
use Rattle.std.specs.Prelude.{◌≡◌, [], ◌∷◌, Ok, Err, Result}
use Rattle.model.specs.declared.Refusal.{Refusal}
use Rattle.text.specs.declared.tokens.Placed.{Placed}
use Rattle.text.specs.Cut.{Piece}
use Rattle.text.specs.Scan.{Scan, broken}
use Rattle.text.specs.Shape.{bytes_of}

-- s with one more token in front
abbrev pub before : Scan → Piece → Scan
before s t = record { number = s.number; tokens = t ∷ s.tokens; end = s.end; below = s.below }

-- the next token, with its line and place; or the line has none, and the form is broken there
abbrev pub Next : Scan → Result Placed Refusal → Scan → Type 0
Next s (Ok t) z = (s ≡ before z (record { place = t.position.place; bytes = bytes_of t.token })) × (t.position.line ≡ s.number)
Next s (Err r) z = (s.tokens ≡ []) × (r ≡ broken s)
