-- The number that digits spell, as the loop over them finds it.
use Rattle.std.proofs.Common.{◌≡◌, ℕ, ◌+◌, ◌-◌, ◌*◌, ◌<◌, ◌≤◌, Bool, true, false, cond, not, ◌&&◌, ◌||◌, eqb, leb, List, [], ◌∷◌, length, get_or, Some, None, Option, refl, arith}
use Rattle.std.proofs.lemmas.Bool.{lt-leb, le-leb, ne_eqb, or_left, or_right, not_from_false}
use Rattle.text.specs.Readers.{is_digit, all_digits, value_from, value, natural, is_nil}

-- what digits go on to spell, if they are digits and it is at most `most`
abbrev pub within_from : ℕ → ℕ → List ℕ → Option ℕ
within_from most n cs = cond (all_digits cs && leb (value_from n cs) most) (Some (value_from n cs)) None

pub value_grows : (n : ℕ) (cs : List ℕ) → n ≤ value_from n cs
value_grows n [] = omega arith
value_grows n (c ∷ cs) = omega (arith, value_grows (n * 10 + (c - 48)) cs)

pub within_digit : (most n c : ℕ) (cs : List ℕ) → is_digit c ≡ true → within_from most n (c ∷ cs) ≡ within_from most (n * 10 + (c - 48)) cs
within_digit most n c cs d = rw d

pub within_other : (most n c : ℕ) (cs : List ℕ) → is_digit c ≡ false → within_from most n (c ∷ cs) ≡ None
within_other most n c cs d = rw d

pub within_none : (most n : ℕ) → n ≤ most → within_from most n [] ≡ Some n
within_none most n h = rw (le-leb n most h)

-- past `most` there is no way back
pub within_past : (most n : ℕ) (cs : List ℕ) → most < n → within_from most n cs ≡ None
within_past most n cs h = past (all_digits cs) (leb (value_from n cs) most) _ (lt-leb _ most (omega (arith, value_grows n cs)))
  where
    past : (a b : Bool) (v : ℕ) → b ≡ false → cond (a && b) (Some v) None ≡ None
    past true b v e = rw e
    past false b v e = refl

-- digits without a leading zero
pub natural_within : (most : ℕ) (ds : List ℕ) → 0 < length ds → (get_or ds 0 0 ≡ 48 → 1 < length ds → ⊥) → natural most ds ≡ within_from most 0 ds
natural_within most [] h lead = absurd (omega arith)
natural_within most (c ∷ cs) h lead = unled (all_digits (c ∷ cs)) (not (eqb c 48) || is_nil cs) (leb (value (c ∷ cs)) most) (value (c ∷ cs)) (led c cs lead)
  where
    unled : (a b l : Bool) (v : ℕ) → b ≡ true → cond ((a && b) && l) (Some v) None ≡ cond (a && l) (Some v) None
    unled true b l v e = rw e
    unled false b l v e = refl

    led : (c : ℕ) (cs : List ℕ) → (c ≡ 48 → 1 < length (c ∷ cs) → ⊥) → (not (eqb c 48) || is_nil cs) ≡ true
    led c [] lead = or_right (not (eqb c 48)) true refl
    led c (d ∷ cs) lead = or_left (not (eqb c 48)) false (not_from_false (eqb c 48) (ne_eqb c 48 (λ e. lead e (omega arith))))
