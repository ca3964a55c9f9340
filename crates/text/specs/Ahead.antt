-- What stands next in a line.
use Rattle.std.specs.Prelude.{ℕ, Bool, true, false}
use Rattle.text.specs.declared.tokens.Ahead.{Ahead}
use Rattle.text.specs.declared.tokens.Ahead.TheVariants.{Token, LineEnd}

abbrev pub place_of : Ahead → ℕ
place_of (Token at) = at
place_of (LineEnd at) = at

-- whether a token does
abbrev pub is_token : Ahead → Bool
is_token (Token at) = true
is_token (LineEnd at) = false
