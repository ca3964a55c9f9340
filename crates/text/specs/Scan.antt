-- Where the reading of a text stands, and its two steps: one token, and the end of a line.
use Rattle.std.specs.Prelude.{ℕ, suc, ◌+◌, Bool, false, List, [], ◌∷◌, length, Some, None, Ok, Err, Option, Result}
use Rattle.model.specs.declared.Cause.TheVariants.{Form}
use Rattle.model.specs.declared.Position.{Position}
use Rattle.model.specs.declared.Refusal.{Refusal}
use Rattle.model.specs.Refusals.{refused_at}
use Rattle.text.specs.Cut.{Piece, cut, space, line_feed}
use Rattle.text.specs.Readers.{is_nil}

-- the number of a line, the tokens that are left of it, its end, and the lines below it: none where no line feed ends it
pub record Scan : Type 0 where
  pub number : ℕ
  pub tokens : List Piece
  pub end : ℕ
  pub below : List Piece

-- the start of a line
abbrev pub enter : ℕ → Piece → List Piece → Scan
enter n l ls = record { number = n; tokens = cut space l.place l.bytes; end = l.place + length l.bytes; below = ls }

abbrev pub enter_first : ℕ → List Piece → Scan
enter_first n [] = record { number = n; tokens = []; end = 0; below = [] }
enter_first n (l ∷ ls) = enter n l ls

-- the start of a text
abbrev pub start : List ℕ → Scan
start bytes = enter_first 1 (cut line_feed 0 bytes)

-- the place of the next token, or of the line's end
abbrev pub first_place : ℕ → List Piece → ℕ
first_place end [] = end
first_place end (t ∷ ts) = t.place

abbrev pub place : Scan → ℕ
place s = first_place s.end s.tokens

-- the line and that place
abbrev pub position : Scan → Position
position s = record { line = s.number; place = place s }

-- what came of a step: a value and where the reading stands then, or a refusal
pub data Taken (X : Type 0) : Type 0 where
  took : X → Scan → Taken X
  refused : Refusal → Taken X

abbrev pub taken : {X : Type 0} → Result X Refusal → Scan → Taken X
taken (Ok x) s = took x s
taken (Err r) s = refused r

-- one step after another
abbrev pub then : {X Y : Type 0} → Taken X → (X → Scan → Taken Y) → Taken Y
then (took x s) go = go x s
then (refused r) go = refused r

-- the form is broken where the reading stands
abbrev pub broken : Scan → Refusal
broken s = refused_at Form (position s)

abbrev pub with_tokens : Scan → List Piece → Scan
with_tokens s ts = record { number = s.number; tokens = ts; end = s.end; below = s.below }

-- a token's value, if it has one
abbrev pub valued : {X : Type 0} → Refusal → Option X → Scan → Taken X
valued r None s = refused r
valued r (Some x) s = took x s

abbrev pub one_of : {X : Type 0} → (List ℕ → Option X) → Scan → List Piece → Taken X
one_of f s [] = refused (broken s)
one_of f s (t ∷ ts) = valued (broken s) (f t.bytes) (with_tokens s ts)

-- one token, read by f
abbrev pub one : {X : Type 0} → (List ℕ → Option X) → Scan → Taken X
one f s = one_of f s s.tokens

abbrev pub close_at : Scan → List Piece → List Piece → Taken (Unit {0})
close_at s (t ∷ ts) ls = refused (broken s)
close_at s [] [] = refused (broken s)
close_at s [] (l ∷ ls) = took tt (enter (suc s.number) l ls)

-- the end of the line: no token is left, and a line feed stands there
abbrev pub close : Scan → Taken (Unit {0})
close s = close_at s s.tokens s.below

abbrev pub over_at : List Piece → List Piece → Bool
over_at [] ls = false
over_at (t ∷ []) [] = is_nil t.bytes
over_at (t ∷ []) (l ∷ ls) = false
over_at (t ∷ u ∷ ts) ls = false

-- at the start of a line: nothing is left of the text
abbrev pub over : Scan → Bool
over s = over_at s.tokens s.below
