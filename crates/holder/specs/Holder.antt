-- The holder kind: what it answers.
use Rattle.std.specs.Prelude.{ℕ, ◌≤◌, Bool, true, false, cond, not, ◌&&◌, T, ◌==◌, nat_le}
use Rattle.model.specs.declared.Rating.{Rating}
use Rattle.model.specs.declared.Rating.TheVariants.{Never, Maybe, Always}
use Rattle.model.specs.Kind.{Kind}
use Rattle.holder.specs.declared.data.Fact.{Fact}
use Rattle.holder.specs.declared.data.Fact.TheVariants.{Any, Only, Except}
use Rattle.holder.specs.declared.data.Guard.{Guard}
use Rattle.holder.specs.declared.data.Guard.TheVariants.{True, IsHolder, NotHolder, Nobody, Somebody, User}
use Rattle.holder.specs.declared.data.Action.{Action}
use Rattle.holder.specs.declared.data.Action.TheVariants.{Nothing, Take, Clear}

-- users are 1 to 65535
abbrev pub largest : ℕ
largest = 65535

abbrev pub is_user : ℕ → Bool
is_user d = nat_le 1 d && nat_le d largest

abbrev pub meets : Fact → ℕ → Bool
meets Any d = is_user d
meets (Only u) d = is_user d && d == u
meets (Except u) d = is_user d && not (d == u)

abbrev pub empty : Fact → Bool
empty Any = false
empty (Only u) = not (is_user u)
empty (Except u) = false

-- a store is the user who holds, or 0 for nobody
abbrev pub holds : Guard → ℕ → ℕ → Bool
holds True s d = true
holds IsHolder s d = s == d
holds NotHolder s d = not (s == d)
holds Nobody s d = s == 0
holds Somebody s d = not (s == 0)
holds (User u) s d = d == u

abbrev pub makes : Action → ℕ → ℕ → ℕ
makes Nothing s d = s
makes Take s d = d
makes Clear s d = 0

abbrev pub idle : Action → Bool
idle Nothing = true
idle Take = false
idle Clear = false

-- how a guard that asks for one user fares under a fact which that user meets
abbrev pub rate_user : Fact → Rating
rate_user Any = Maybe
rate_user (Only u) = Always
rate_user (Except u) = Maybe

-- how a guard fares under a fact that some user meets
abbrev pub rate_met : Guard → Fact → Rating
rate_met True f = Always
rate_met IsHolder f = Maybe
rate_met NotHolder f = Maybe
rate_met Nobody f = Maybe
rate_met Somebody f = Maybe
rate_met (User u) f = cond (meets f u) (rate_user f) Never

abbrev pub holder : Kind Fact Guard Action
holder = record {
  Store = λ s. s ≤ largest;
  start = 0;
  Datum = λ d. T (is_user d);
  meets = meets;
  empty = empty;
  holds = holds;
  makes = makes;
  idle = idle;
  rate = λ g f. cond (empty f) Never (rate_met g f);
}
