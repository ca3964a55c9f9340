-- The tally kind: what it answers.
use Rattle.std.specs.Prelude.{ℕ, ◌^◌, ◌<◌, Bool, true, false, cond, ◌&&◌, ◌||◌, ℤ, pos, negsuc, ◌+ℤ◌, ◌==◌, int_le, int_lt, nat_lt}
use Rattle.std.specs.Int.{cast_signed, cast_unsigned, int_max, int_min, saturate_to_bits, w32}
use Rattle.model.specs.declared.Rating.TheVariants.{Never, Maybe, Always}
use Rattle.model.specs.Kind.{Kind}
use Rattle.tally.specs.declared.data.Range.{Range}
use Rattle.tally.specs.declared.data.Guard.{Guard}
use Rattle.tally.specs.declared.data.Action.{Action}
use Rattle.tally.specs.declared.data.Action.TheVariants.{Nothing, Add, AddDatum, Set}

-- the ends of the signed words
abbrev pub least : ℤ
least = negsuc 2147483647

abbrev pub greatest : ℤ
greatest = pos 2147483647

-- the number that a word stands for, as signed
abbrev pub value : ℕ → ℤ
value = cast_signed w32

abbrev pub contains : Range → ℤ → Bool
contains r z = int_le r.lo z && int_le z r.hi

-- no number from a to b lies in the range
abbrev pub misses : Range → ℤ → ℤ → Bool
misses r a b = int_lt (int_min r.hi b) (int_max r.lo a)

-- the range reaches from a or below it to b or above it
abbrev pub covers : Range → ℤ → ℤ → Bool
covers r a b = int_le r.lo a && int_le b r.hi

-- the ends of a fact among the signed words
abbrev pub lowest : Range → ℤ
lowest f = int_max f.lo least

abbrev pub highest : Range → ℤ
highest f = int_min f.hi greatest

-- the word for a number, or for the end of the signed words that it passes
abbrev pub made : ℤ → ℕ
made z = cast_unsigned w32 (saturate_to_bits 31 z)

abbrev pub makes : Action → ℕ → ℕ → ℕ
makes Nothing s d = s
makes (Add k) s d = made (value s +ℤ k)
makes AddDatum s d = made (value s +ℤ value d)
makes (Set k) s d = made k

abbrev pub idle : Action → Bool
idle Nothing = true
idle (Add (pos n)) = n == 0
idle (Add (negsuc n)) = false
idle AddDatum = false
idle (Set k) = false

abbrev pub never : Guard → Range → Bool
never g f = misses g.count least greatest || misses g.datum (lowest f) (highest f)

abbrev pub always : Guard → Range → Bool
always g f = covers g.count least greatest && covers g.datum (lowest f) (highest f)

abbrev pub tally : Kind Range Guard Action
tally = record {
  Store = λ s. s < 2 ^ 32;
  start = 0;
  Datum = λ d. d < 2 ^ 32;
  meets = λ f d. nat_lt d (2 ^ 32) && contains f (value d);
  empty = λ f. misses f least greatest;
  holds = λ g s d. contains g.count (value s) && contains g.datum (value d);
  makes = makes;
  idle = idle;
  rate = λ g f. cond (never g f) Never (cond (always g f) Always Maybe);
}
