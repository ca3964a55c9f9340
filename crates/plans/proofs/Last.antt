-- The last of some bad states, as the code reads it.
use Rattle.std.proofs.Common.{◌≡◌, ℕ, ◌-◌, List, [], ◌∷◌, length, refl, arith}
use Rattle.std.specs.List.{slice_get}
use Rattle.std.specs.Option.{unwrap_or}
use Rattle.syntax.specs.Items.{last}

last_from : (b q : ℕ) (qs : List ℕ) → unwrap_or (slice_get (q ∷ qs) (length qs)) 0 ≡ last b (q ∷ qs)
last_from b q [] = refl
last_from b q (r ∷ qs) = last_from q r qs

pub last_read : (qs : List ℕ) → unwrap_or (slice_get qs (length qs - 1)) 0 ≡ last 0 qs
last_read [] = refl
last_read (q ∷ qs) = let e : length (q ∷ qs) - 1 ≡ length qs = omega arith in rw e (last_from 0 q qs)
