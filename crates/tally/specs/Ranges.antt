-- What the tests of a range tell of the numbers between two ends.
use Rattle.std.specs.Prelude.{◌≡◌, T, ℤ, ◌≤ℤ◌, FitsSigned}
use Rattle.std.proofs.Common.{arith}
use Rattle.std.specs.Int.{int_max, w32}
use Rattle.std.proofs.lemmas.Int.{ints}
use Rattle.tally.specs.declared.data.Range.{Range}
use Rattle.tally.specs.Tally.{least, greatest, contains, misses, covers, lowest, highest}

pub record Between (a b z : ℤ) : Type 0 where
  pub above : a ≤ℤ z
  pub below : z ≤ℤ b

pub at_low : {a b z : ℤ} → Between a b z → Between a b a
at_low h = record { above = omega (arith, ints); below = omega (arith, ints) }

pub at_high : {a b z : ℤ} → Between a b z → Between a b b
at_high h = record { above = omega (arith, ints); below = omega (arith, ints) }

pub missed : (r : Range) {a b z : ℤ} → T (misses r a b) → Between a b z → T (contains r z) → ⊥
missed r m h c = grind (arith, ints)

-- a number from a on that lies in the range, if any from a to b does
abbrev pub shared : Range → ℤ → ℤ
shared r a = int_max r.lo a

pub shared_between : (r : Range) (a b : ℤ) → (T (misses r a b) → ⊥) → Between a b (shared r a)
shared_between r a b m = record { above = grind (arith, ints); below = grind (arith, ints) }

pub shared_contained : (r : Range) (a b : ℤ) → (T (misses r a b) → ⊥) → T (contains r (shared r a))
shared_contained r a b m = grind (arith, ints)

pub covered : (r : Range) {a b z : ℤ} → T (covers r a b) → Between a b z → T (contains r z)
covered r m h = grind (arith, ints)

pub covers_ends : (r : Range) (a b : ℤ) → T (contains r a) → T (contains r b) → T (covers r a b)
covers_ends r a b p q = grind arith

-- among the signed words, a range contains the numbers from its lowest to its highest
pub contained_between : (r : Range) (z : ℤ) → Between least greatest z → T (contains r z) → Between (lowest r) (highest r) z
contained_between r z h c = record { above = grind (arith, ints); below = grind (arith, ints) }

pub between_contained : (r : Range) (z : ℤ) → Between (lowest r) (highest r) z → T (contains r z)
between_contained r z h = grind (arith, ints)

pub between_words : (r : Range) (z : ℤ) → Between (lowest r) (highest r) z → Between least greatest z
between_words r z h = record { above = grind (arith, ints); below = grind (arith, ints) }

-- an end that is a signed word stays
pub lowest_is : (r : Range) → FitsSigned w32 r.lo → lowest r ≡ r.lo
lowest_is r h = grind (arith, ints)

pub highest_is : (r : Range) → FitsSigned w32 r.hi → highest r ≡ r.hi
highest_is r h = grind (arith, ints)
