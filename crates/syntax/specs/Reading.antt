-- What the reading of a text comes to, for any bytes.
use Rattle.std.specs.Prelude.{◌≡◌, ℕ, ◌≤◌, cond, List, [], ◌∷◌, length, Ok, Err, Result, nat_le}
use Rattle.model.specs.declared.Cause.TheVariants.{Length}
use Rattle.model.specs.declared.Refusal.{Refusal}
use Rattle.model.specs.Kind.{Kind}
use Rattle.model.specs.Refusals.{refused_at}
use Rattle.model.specs.Plan.{Plan}
use Rattle.text.specs.Cut.{Piece}
use Rattle.text.specs.Scan.{Scan, Taken, took, refused, then, start, over}
use Rattle.kinds.specs.Spelling.{Spelling}
use Rattle.lines.specs.Lines.{opening, count_line}
use Rattle.syntax.specs.declared.Item.{Item}
use Rattle.syntax.specs.Items.{blank, item, added}

abbrev pub outcome : {X : Type 0} → Taken X → Result X Refusal
outcome (took x s) = Ok x
outcome (refused r) = Err r

-- no line is to blame for a text that is too long
abbrev pub too_long : Refusal
too_long = refused_at Length (record { line = 0; place = 0 })

-- the four opening lines: nodes, states and events
abbrev pub header : {F G A : Type 0} → Spelling F G A → Scan → Taken (Plan F G A)
header f s =
    then (opening f s) (λ _ z. then (count_line 110 128 z) (λ n y. then (count_line 115 32 y) (λ q x. then (count_line 118 32 x) (λ v w.
    took (blank n q v) w))))

module _ {F G A : Type 0} (k : Kind F G A) (f : Spelling F G A) where
  -- the lines after them, to the text's end. The list has the lines below the one at whose start s stands, one fewer with each
  -- line. A line with none below it lacks its line feed and is refused, so past the last line feed only the text's end is taken
  abbrev pub body : List Piece → Plan F G A → Scan → Taken (Plan F G A)
  body [] p s = cond (over s) (took p s) (then (item k f p s) (λ i z. took (added p i) z))
  body (l ∷ ls) p s = then (item k f p s) (λ i z. body ls (added p i) z)

  -- the plan that a text spells, or why it is refused
  abbrev pub reading : List ℕ → Result (Plan F G A) Refusal
  reading bytes =
      cond (nat_le (length bytes) 32768)
      (outcome (then (header f (start bytes)) (λ p s. body s.below p s)))
      (Err too_long)

  -- the plan and the place that the reading comes to, line after line
  pub data ComesTo (bytes : List ℕ) : Plan F G A → Scan → Type 0 where
    opened : {p : Plan F G A} {s : Scan} → length bytes ≤ 32768 → header f (start bytes) ≡ took p s → ComesTo bytes p s
    onward : {p : Plan F G A} {s z : Scan} {i : Item F G A} → ComesTo bytes p s → item k f p s ≡ took i z → ComesTo bytes (added p i) z

  -- the reading comes to a line that adds something, and so wants memory
  pub record WantsMemory (bytes : List ℕ) : Type 0 where
    pub plan : Plan F G A
    pub at : Scan
    pub gives : Item F G A
    pub after : Scan
    pub reached : ComesTo bytes plan at
    pub taken : item k f plan at ≡ took gives after
