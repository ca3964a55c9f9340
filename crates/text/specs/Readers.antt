-- What a token's bytes spell.
use Rattle.std.specs.Prelude.{ℕ, ◌+◌, ◌-◌, ◌*◌, Bool, true, false, cond, not, ◌&&◌, ◌||◌, List, [], ◌∷◌, ℤ, pos, neg_ℤ, Some, None, Option, ◌==◌, nat_le}
use Rattle.std.specs.Str.{bytes_eq}

abbrev pub minus : ℕ
minus = 45

abbrev pub zero_digit : ℕ
zero_digit = 48

abbrev pub is_digit : ℕ → Bool
is_digit c = nat_le 48 c && nat_le c 57

abbrev pub all_digits : List ℕ → Bool
all_digits [] = true
all_digits (c ∷ cs) = is_digit c && all_digits cs

abbrev pub is_nil : {X : Type 0} → List X → Bool
is_nil [] = true
is_nil (x ∷ xs) = false

-- at least one digit, and no leading zero
abbrev pub plain : List ℕ → Bool
plain [] = false
plain (c ∷ cs) = all_digits (c ∷ cs) && (not (c == zero_digit) || is_nil cs)

-- the number that digits go on to spell in base ten
abbrev pub value_from : ℕ → List ℕ → ℕ
value_from n [] = n
value_from n (c ∷ cs) = value_from (n * 10 + (c - 48)) cs

abbrev pub value : List ℕ → ℕ
value = value_from 0

-- a number from 0 to most
abbrev pub natural : ℕ → List ℕ → Option ℕ
natural most w = cond (plain w && nat_le (value w) most) (Some (value w)) None

abbrev pub not_below_zero : Option ℕ → Option ℤ
not_below_zero None = None
not_below_zero (Some n) = Some (pos n)

abbrev pub below_zero : Option ℕ → Option ℤ
below_zero None = None
below_zero (Some n) = cond (n == 0) None (Some (neg_ℤ (pos n)))

-- a number from -2147483648 to 2147483647; only one below 0 has a minus sign
abbrev pub signed_word : List ℕ → Option ℤ
signed_word [] = None
signed_word (c ∷ cs) = cond (c == minus) (below_zero (natural 2147483648 cs)) (not_below_zero (natural 2147483647 (c ∷ cs)))

-- begins with neither a digit nor a minus sign
abbrev pub is_text : List ℕ → Bool
is_text [] = true
is_text (c ∷ cs) = not (is_digit c) && not (c == minus)

-- a word of one byte
abbrev pub letter : List ℕ → Option ℕ
letter [] = None
letter (c ∷ []) = cond (is_text (c ∷ [])) (Some c) None
letter (c ∷ d ∷ cs) = None

abbrev pub meant : {L : Type 0} → (ℕ → Option L) → Option ℕ → Option L
meant f None = None
meant f (Some c) = f c

-- what a letter stands for
abbrev pub lettered : {L : Type 0} → (ℕ → Option L) → List ℕ → Option L
lettered f w = meant f (letter w)

abbrev pub if_same : ℕ → Option ℕ → Option (Unit {0})
if_same v None = None
if_same v (Some n) = cond (n == v) (Some tt) None

-- a word whose value by f is v
abbrev pub only : ℕ → (List ℕ → Option ℕ) → List ℕ → Option (Unit {0})
only v f w = if_same v (f w)

-- that number
abbrev pub the_number : ℕ → List ℕ → Option (Unit {0})
the_number v = only v (natural v)

-- that letter
abbrev pub the_letter : ℕ → List ℕ → Option (Unit {0})
the_letter v = only v letter

-- the word itself
abbrev pub exactly : List ℕ → List ℕ → Option (Unit {0})
exactly v w = cond (is_text w && bytes_eq w v) (Some tt) None

abbrev pub present : Option ℕ → Option (Option ℕ)
present None = None
present (Some n) = Some (Some n)

-- a number from 0 to most, or a lone minus sign for none
abbrev pub optional : ℕ → List ℕ → Option (Option ℕ)
optional most [] = None
optional most (c ∷ cs) = cond (c == minus && is_nil cs) (Some None) (present (natural most (c ∷ cs)))
