-- The ends of `other` are signed words, so they are its lowest and its highest. The check does not find this by itself, even with
-- both lemmas named on the function.
use Rattle.std.proofs.Common.{rules}
use Rattle.tally.specs.Ranges.{lowest_is, highest_is}
use Rattle.tally.proofs.data.Range.misses.Goals as goal

pub returns : goal.returns
returns c = search (rules, lowest_is, highest_is)
