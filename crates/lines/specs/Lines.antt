-- The form of each line of a plan text, token by token.
use Rattle.std.specs.Prelude.{ℕ, Bool, false, cond, ◌&&◌, List, Some, None, Ok, Err, codes, Option, Result, ◌==◌, nat_le, nat_lt}
use Rattle.model.specs.declared.Cause.{Cause}
use Rattle.model.specs.declared.Cause.TheVariants.{Count, Name}
use Rattle.model.specs.declared.Refusal.{Refusal}
use Rattle.model.specs.Plan.{counts}
use Rattle.model.specs.Refusals.{refused_at}
use Rattle.text.specs.Scan.{Scan, start, Taken, took, refused, taken, then, one, close, position}
use Rattle.text.specs.Readers.{natural, letter, optional, the_number, the_letter, exactly}
use Rattle.text.specs.Grammar.{take}
use Rattle.kinds.specs.Spelling.{Spelling}
use Rattle.lines.specs.declared.Named.{Named}
use Rattle.lines.specs.declared.PointLine.{PointLine}
use Rattle.lines.specs.declared.ArcLine.{ArcLine}
use Rattle.lines.specs.declared.EdgeLine.{EdgeLine}

abbrev pub numbered : Scan → ℕ → Named
numbered s n = record { number = n; position = position s }

-- a number with its position
abbrev pub named : Scan → Taken Named
named s = then (one (natural 65535) s) (λ n z. took (numbered s n) z)

-- the refusal of such a number
abbrev pub at_name : Cause → Named → Refusal
at_name c n = refused_at c n.position

-- such a number from low to below high
abbrev pub in_range : ℕ → ℕ → Cause → Named → Result ℕ Refusal
in_range low high c n = cond (nat_le low n.number && nat_lt n.number high) (Ok n.number) (Err (at_name c n))

-- the number of one of `count` things
abbrev pub within : ℕ → Named → Result ℕ Refusal
within count n = cond (nat_lt n.number count) (Ok n.number) (Err (at_name Name n))

-- a count from 1 to most
abbrev pub counted : ℕ → Named → Result ℕ Refusal
counted most n = cond (counts most n.number) (Ok n.number) (Err (at_name Count n))

-- a line of a letter and such a count
abbrev pub count_line : ℕ → ℕ → Scan → Taken ℕ
count_line c most s = then (one (the_letter c) s) (λ _ z. then (named z) (λ n y. then (close y) (λ _ x. taken (counted most n) x)))

-- what was read, if nothing was refused
abbrev pub value_of : {X : Type 0} → Taken X → Option X
value_of (took x z) = Some x
value_of (refused r) = None

-- the letter of the kind that a text's first line names
abbrev pub kind_letter : List ℕ → Option ℕ
kind_letter text = value_of (then (one (exactly (codes "plan")) (start text)) (λ _ z. then (one (the_number 1) z) (λ _ y. one letter y)))

abbrev pub is_letter : ℕ → Option ℕ → Bool
is_letter c None = false
is_letter c (Some d) = d == c

module _ {F G A : Type 0} (f : Spelling F G A) where
  -- the text's first line names the kind
  abbrev pub names_kind : List ℕ → Bool
  names_kind text = is_letter f.letter (kind_letter text)

  -- plan 1 K
  abbrev pub opening : Scan → Taken (Unit {0})
  opening s =
      then (one (exactly (codes "plan")) s) (λ _ z. then (one (the_number 1) z) (λ _ y. then (one (the_letter f.letter) y) (λ _ x. close x)))

  -- the fact of an arc with an event, which stood at x
  abbrev pub point_line : Scan → Option ℕ → Scan → Taken (Option (PointLine F))
  point_line x None w = took None w
  point_line x (Some v) w = then (take f.facts.grammar w) (λ t u. took (Some (record { event = numbered x v; fact = t; position = position w })) u)

  -- event fact, or -
  abbrev pub event_line : Scan → Taken (Option (PointLine F))
  event_line x = then (one (optional 65535) x) (λ v w. point_line x v w)

  -- from to, and then event fact or -
  abbrev pub arc_line : Scan → Taken (ArcLine F)
  arc_line z = then (named z) (λ a y. then (named y) (λ b x. then (event_line x) (λ t w. took (record { from = a; to = b; point = t }) w)))

  -- from event to guard action
  abbrev pub edge_line : Scan → Taken (EdgeLine G A)
  edge_line z =
      then (named z) (λ a y. then (named y) (λ v x. then (named x) (λ b w. then (take f.guards.grammar w) (λ g u. then (take f.actions.grammar u) (λ c t.
      took (record { from = a; event = v; to = b; guard = g; action = c }) t)))))
