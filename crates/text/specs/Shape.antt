-- What the code's tokens stand for.
use Rattle.std.specs.Prelude.{ℕ, Bool, true, false, List, [], ◌∷◌}
use Rattle.text.specs.declared.tokens.Token.{Token}
use Rattle.text.specs.declared.tokens.Token.TheVariants.{Numeral, Negative, Text}
use Rattle.text.specs.Readers.{minus, is_digit, is_text}

-- the bytes of a token
abbrev pub bytes_of : Token → List ℕ
bytes_of (Numeral ds) = ds.now
bytes_of (Negative ds) = minus ∷ ds.now
bytes_of (Text bs) = bs.now

abbrev pub digit_first : List ℕ → Bool
digit_first [] = false
digit_first (c ∷ cs) = is_digit c

-- each case has the tokens of its shape
abbrev pub is_shaped : Token → Bool
is_shaped (Numeral ds) = digit_first ds.now
is_shaped (Negative ds) = true
is_shaped (Text bs) = is_text bs.now
