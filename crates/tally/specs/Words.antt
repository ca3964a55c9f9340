-- From the words to the signed numbers that they stand for, and back.
use Rattle.std.specs.Prelude.{◌≡◌, ℕ, ◌^◌, ◌<◌, T, ℤ}
use Rattle.std.proofs.Common.{subst, arith, lt→ltb}
use Rattle.std.specs.Float.Ieee.Fits.{and_i, and_r}
use Rattle.std.specs.Int.{cast_unsigned, w32}
use Rattle.std.proofs.lemmas.Int.{ints}
use Rattle.tally.specs.declared.data.Range.{Range}
use Rattle.tally.specs.Tally.{tally, least, greatest, value, contains, lowest, highest}
use Rattle.tally.specs.Ranges.{Between, contained_between, between_contained, between_words}

pub signed_between : (s : ℕ) → s < 2 ^ 32 → Between least greatest (value s)
signed_between s h = record { above = omega (arith, ints); below = omega (arith, ints) }

-- what holds of the number of every word holds of every number among the signed words
pub of_words : (P : ℤ → Type 0) → ((s : ℕ) → s < 2 ^ 32 → P (value s)) → (z : ℤ) → Between least greatest z → P z
of_words P h z b =
    let back : value (cast_unsigned w32 z) ≡ z = omega (arith, ints) in
    let small : cast_unsigned w32 z < 2 ^ 32 = omega (arith, ints) in
    subst P back (h (cast_unsigned w32 z) small)

pub meets_between : (f : Range) (d : ℕ) → d < 2 ^ 32 → T (tally.meets f d) → Between (lowest f) (highest f) (value d)
meets_between f d l m = contained_between f (value d) (signed_between d l) (and_r _ _ m)

pub meets_from : (f : Range) (d : ℕ) → d < 2 ^ 32 → T (contains f (value d)) → T (tally.meets f d)
meets_from f d l c = and_i _ _ (lt→ltb d (2 ^ 32) l) c

-- the same of the stores with the datums that meet a fact
pub of_stores : (f : Range) (P : ℤ → ℤ → Type 0) → ((s d : ℕ) → s < 2 ^ 32 → d < 2 ^ 32 → T (tally.meets f d) → P (value s) (value d)) → (y z : ℤ) → Between least greatest y → Between (lowest f) (highest f) z → P y z
of_stores f P h y z by bz =
    of_words (λ y. P y z)
    (λ s ls.
    of_words (λ z. T (contains f z) → P (value s) z) (λ d ld c. h s d ls ld (meets_from f d ld c)) z
    (between_words f z bz) (between_contained f z bz))
    y by
