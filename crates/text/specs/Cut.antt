-- Bytes cut at a separator: a text into lines, a line into tokens.
use Rattle.std.specs.Prelude.{◌≡◌, ℕ, suc, Bool, false, cond, ◌||◌, List, [], ◌∷◌, ◌==◌}

-- some bytes, and the place of the first of them in the text
pub record Piece : Type 0 where
  pub place : ℕ
  pub bytes : List ℕ

-- one byte more in front of the first piece
abbrev pub longer : ℕ → ℕ → List Piece → List Piece
longer at b [] = []
longer at b (t ∷ ts) = record { place = at; bytes = b ∷ t.bytes } ∷ ts

-- the pieces of some bytes, the first of which stands at the place `at`: as many as there are separators, and one more
abbrev pub cut : ℕ → ℕ → List ℕ → List Piece
cut separator at [] = record { place = at; bytes = [] } ∷ []
cut separator at (b ∷ bs) =
    cond (b == separator)
    (record { place = at; bytes = [] } ∷ cut separator (suc at) bs)
    (longer at b (cut separator (suc at) bs))

abbrev pub space : ℕ
space = 32

abbrev pub line_feed : ℕ
line_feed = 10

abbrev pub separates : ℕ → Bool
separates b = b == space || b == line_feed

-- a word that no cut breaks
abbrev pub NoSeparator : List ℕ → Type 0
NoSeparator [] = Unit {0}
NoSeparator (b ∷ w) = (separates b ≡ false) × NoSeparator w
