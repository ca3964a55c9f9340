-- Worked cases of the approvals kind, as statements about the definitions.
use Rattle.std.specs.Prelude.{◌≡◌, ℕ}
use Rattle.model.specs.declared.Rating.TheVariants.{Never, Maybe}
use Rattle.approvals.specs.declared.data.Pattern.{Pattern}
use Rattle.approvals.specs.declared.data.Guard.{Guard}
use Rattle.approvals.specs.Approvals.{approvals}

-- asks nothing
abbrev pub any : Pattern
any = record { ones = 0; zeros = 0 }

-- one bit at least, none of the mask's
abbrev pub one_outside : ℕ → Guard
one_outside m = record { store = record { ones = 0; zeros = m }; least = 1; datum = any }

pub record WorkedCases : Type 0 where
  pub no_bit_left : approvals.rate (one_outside 4294967295) any ≡ Never
  pub one_bit_left : approvals.rate (one_outside 4294967294) any ≡ Maybe
