-- Worked cases of the holder kind, as statements about the definitions.
use Rattle.std.specs.Prelude.{◌≡◌}
use Rattle.model.specs.declared.Rating.TheVariants.{Never, Maybe, Always}
use Rattle.holder.specs.declared.data.Fact.TheVariants.{Any, Only, Except}
use Rattle.holder.specs.declared.data.Guard.TheVariants.{User}
use Rattle.holder.specs.Holder.{holder}

pub record WorkedCases : Type 0 where
  pub only_seven : holder.rate (User 7) (Only 7) ≡ Always
  pub all_but_seven : holder.rate (User 7) (Except 7) ≡ Never
  pub any_user : holder.rate (User 7) Any ≡ Maybe
  pub no_user : holder.rate (User 0) Any ≡ Never
