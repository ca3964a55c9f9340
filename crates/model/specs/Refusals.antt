-- The numbers of refusals, and how a refused text is told.
use Rattle.std.specs.Prelude.{ℕ, List, ◌++◌, codes, decimal}
use Rattle.model.specs.declared.Cause.{Cause}
use Rattle.model.specs.declared.Cause.TheVariants.{Length, Form, Count, Name, Empty}
use Rattle.model.specs.declared.Position.{Position}
use Rattle.model.specs.declared.Refusal.{Refusal}

abbrev pub number_of : Cause → ℕ
number_of Length = 1
number_of Form = 2
number_of Count = 3
number_of Name = 4
number_of Empty = 5

-- what stands there is refused for that cause
abbrev pub refused_at : Cause → Position → Refusal
refused_at c p = record { cause = c; position = p }

-- refused R line L at P
abbrev pub refusal_text : Refusal → List ℕ
refusal_text r =
    codes "refused " ++ (decimal (number_of r.cause) ++ (codes " line " ++ (decimal r.position.line ++ (codes " at " ++ decimal r.position.place))))
