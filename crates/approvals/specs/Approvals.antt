-- The approvals kind: what it answers.
use Rattle.std.specs.Prelude.{ℕ, ◌-◌, ◌^◌, ◌<◌, Bool, cond, not, ◌&&◌, ◌||◌, ◌==◌, nat_le, nat_lt}
use Rattle.model.specs.declared.Rating.TheVariants.{Never, Maybe, Always}
use Rattle.model.specs.Kind.{Kind}
use Rattle.words.specs.Sets.{bits, union_of, difference_of, is_empty, is_subset, is_disjoint, size}
use Rattle.approvals.specs.declared.data.Pattern.{Pattern}
use Rattle.approvals.specs.declared.data.Guard.{Guard}
use Rattle.approvals.specs.declared.data.Action.{Action}

-- the word has all of the ones and none of the zeros
abbrev pub matches : Pattern → ℕ → Bool
matches p w = is_subset (bits p.ones) (bits w) && is_disjoint (bits p.zeros) (bits w)

-- a bit is asked both ways
abbrev pub contradictory : Pattern → Bool
contradictory p = not (is_disjoint (bits p.ones) (bits p.zeros))

-- what both patterns ask
abbrev pub both : Pattern → Pattern → Pattern
both p q = record { ones = union_of p.ones q.ones; zeros = union_of p.zeros q.zeros }

abbrev pub asks_nothing : Pattern → Bool
asks_nothing p = is_empty (bits p.ones) && is_empty (bits p.zeros)

-- the second pattern asks all that the first does
abbrev pub implied_by : Pattern → Pattern → Bool
implied_by p q = is_subset (bits p.ones) (bits q.ones) && is_subset (bits p.zeros) (bits q.zeros)

-- more bits are asked for than the zeros leave
abbrev pub too_many : Guard → Bool
too_many g = nat_lt (32 - size (bits g.store.zeros)) g.least

abbrev pub never : Guard → Pattern → Bool
never g f = (contradictory g.store || too_many g) || contradictory (both g.datum f)

abbrev pub always : Guard → Pattern → Bool
always g f = (asks_nothing g.store && g.least == 0) && implied_by g.datum f

abbrev pub approvals : Kind Pattern Guard Action
approvals = record {
  Store = λ s. s < 2 ^ 32;
  start = 0;
  Datum = λ d. d < 2 ^ 32;
  meets = λ f d. nat_lt d (2 ^ 32) && matches f d;
  empty = contradictory;
  holds = λ g s d. (matches g.store s && nat_le g.least (size (bits s))) && matches g.datum d;
  makes = λ a s d. difference_of (union_of s a.up) a.down;
  idle = λ a. is_empty (bits a.up) && is_empty (bits a.down);
  rate = λ g f. cond (never g f) Never (cond (always g f) Always Maybe);
}
