-- Where the code's cursor stands.
use Rattle.std.specs.Prelude.{ℕ, Bool, true, false, List, [], ◌∷◌, drop}
use Rattle.text.specs.declared.tokens.Tokens.{Tokens}
use Rattle.text.specs.Ahead.{place_of, is_token}
use Rattle.text.specs.Cut.{Piece, cut, line_feed}
use Rattle.text.specs.Scan.{Scan, enter}

-- past the last token, nothing is left of the line but its end
abbrev pub left : Bool → Scan → Scan
left true s = s
left false s = record { number = s.number; tokens = []; end = s.end; below = s.below }

abbrev pub scan_at : Bool → ℕ → List Piece → Scan
scan_at due n [] = record { number = n; tokens = []; end = 0; below = [] }
scan_at due n (l ∷ ls) = left due (enter n l ls)

abbrev pub scan_of : Tokens → Scan
scan_of t = scan_at (is_token t.ahead) t.line (cut line_feed (place_of t.ahead) (drop (place_of t.ahead) t.text.now))
