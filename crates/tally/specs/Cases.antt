-- Worked cases of the tally kind, as statements about the definitions.
use Rattle.std.specs.Prelude.{◌≡◌, ℤ, pos}
use Rattle.model.specs.declared.Rating.TheVariants.{Never, Maybe, Always}
use Rattle.tally.specs.declared.data.Range.{Range}
use Rattle.tally.specs.declared.data.Guard.{Guard}
use Rattle.tally.specs.declared.data.Action.TheVariants.{Add}
use Rattle.tally.specs.Tally.{tally, least, greatest}

abbrev pub range : ℤ → ℤ → Range
range a b = record { lo = a; hi = b }

-- any count, and a datum from 1 to 9
abbrev pub one_to_nine : Guard
one_to_nine = record { count = range least greatest; datum = range (pos 1) (pos 9) }

pub record WorkedCases : Type 0 where
  pub inside : tally.rate one_to_nine (range (pos 1) (pos 9)) ≡ Always
  pub across : tally.rate one_to_nine (range (pos 0) (pos 9)) ≡ Maybe
  pub outside : tally.rate one_to_nine (range (pos 10) (pos 12)) ≡ Never
  pub stops : tally.makes (Add (pos 1)) 2147483647 0 ≡ 2147483647
