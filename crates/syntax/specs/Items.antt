-- What the lines of a plan text may name, and what they add to a plan.
use Rattle.std.specs.Prelude.{◌≡◌, ℕ, true, cond, ◌&&◌, List, [], ◌∷◌, ◌++◌, length, Some, None, Ok, Err, Option, Result, ◌==◌, nat_lt}
use Rattle.model.specs.declared.Cause.TheVariants.{Count, Name, Empty}
use Rattle.model.specs.declared.Refusal.{Refusal}
use Rattle.model.specs.declared.Point.{Point}
use Rattle.model.specs.declared.Arc.{Arc as Arcs}
use Rattle.model.specs.declared.Edge.{Edge as Edges}
use Rattle.model.specs.Kind.{Kind}
use Rattle.model.specs.Refusals.{refused_at}
use Rattle.model.specs.Plan.{Plan, bad_in, arcs_in, edges_in}
use Rattle.text.specs.Scan.{Scan, Taken, refused, taken, then, one, close, position, broken}
use Rattle.text.specs.Readers.{letter, is_nil}
use Rattle.kinds.specs.Spelling.{Spelling}
use Rattle.lines.specs.declared.Named.{Named}
use Rattle.lines.specs.declared.PointLine.{PointLine}
use Rattle.lines.specs.declared.ArcLine.{ArcLine}
use Rattle.lines.specs.declared.EdgeLine.{EdgeLine}
use Rattle.lines.specs.Lines.{at_name, within, named, arc_line, edge_line}
use Rattle.syntax.specs.declared.Item.{Item}
use Rattle.syntax.specs.declared.Item.TheVariants.{Bad, Arc, Edge}

-- a plan of that size, and nothing else
abbrev pub blank : {F G A : Type 0} → ℕ → ℕ → ℕ → Plan F G A
blank nodes states events = record { nodes = nodes; states = states; events = events; bad = []; arcs = []; edges = [] }

abbrev pub and_then : {X Y E : Type 0} → Result X E → (X → Result Y E) → Result Y E
and_then (Ok x) go = go x
and_then (Err e) go = Err e

-- the last of some bad states, or b
abbrev pub last : ℕ → List ℕ → ℕ
last b [] = b
last b (q ∷ qs) = last q qs

-- the refusal of one thing too many, at the start of its line
abbrev pub too_many : Scan → Refusal
too_many s = refused_at Count (position s)

abbrev pub room : {X : Type 0} → Refusal → ℕ → ℕ → Result X Refusal → Result X Refusal
room full most n r = cond (nat_lt n most) r (Err full)

module _ {F G A : Type 0} (p : Plan F G A) where
  -- a bad state is above the one before it, and so never 0
  abbrev pub bad_of : Named → Result ℕ Refusal
  bad_of n = cond (nat_lt (last 0 p.bad) n.number) (within p.states n) (Err (at_name Name n))

  -- a bad state's line after its letter: its form, to its end, and then what it names
  abbrev pub bad_item : Scan → Taken (Item F G A)
  bad_item z = then (named z) (λ n y. then (close y) (λ _ x. taken (and_then (bad_of n) (λ q. Ok (Bad q))) x))

  abbrev pub edge_of : EdgeLine G A → Result (Edges G A) Refusal
  edge_of l =
      and_then (within p.states l.from) (λ a. and_then (within p.events l.event) (λ v. and_then (within p.states l.to) (λ b.
      Ok (record { from = a; event = v; to = b; guard = l.guard; action = l.action }))))

  -- the plan with what a line gives
  abbrev pub added : Item F G A → Plan F G A
  added (Bad q) = record { nodes = p.nodes; states = p.states; events = p.events; bad = p.bad ++ q ∷ []; arcs = p.arcs; edges = p.edges }
  added (Arc a) = record { nodes = p.nodes; states = p.states; events = p.events; bad = p.bad; arcs = p.arcs ++ a ∷ []; edges = p.edges }
  added (Edge e) = record { nodes = p.nodes; states = p.states; events = p.events; bad = p.bad; arcs = p.arcs; edges = p.edges ++ e ∷ [] }

  -- what a line gives keeps the plan in bounds
  abbrev pub Fits : Item F G A → Type 0
  Fits (Bad q) = bad_in p.states (p.bad ++ q ∷ []) ≡ true
  Fits (Arc a) = arcs_in p.nodes p.events (p.arcs ++ a ∷ []) ≡ true
  Fits (Edge e) = edges_in p.states p.events (p.edges ++ e ∷ []) ≡ true

module _ {F G A : Type 0} (k : Kind F G A) (p : Plan F G A) where
  -- an event of the plan, and a fact that some datum meets
  abbrev pub point_of : Option (PointLine F) → Result (Option (Point F)) Refusal
  point_of None = Ok None
  point_of (Some t) =
      and_then (within p.events t.event) (λ v.
      cond (k.empty t.fact) (Err (refused_at Empty t.position)) (Ok (Some (record { event = v; fact = t.fact }))))

  abbrev pub arc_of : ArcLine F → Result (Arcs F) Refusal
  arc_of l =
      and_then (within p.nodes l.from) (λ a. and_then (within p.nodes l.to) (λ b. and_then (point_of l.point) (λ t.
      Ok (record { from = a; to = b; point = t }))))

-- the lines of arcs and edges after their letters likewise. `full` is the refusal of one too many
module _ {F G A : Type 0} (k : Kind F G A) (f : Spelling F G A) (p : Plan F G A) where
  abbrev pub arc_item : Refusal → Scan → Taken (Item F G A)
  arc_item full z = then (arc_line f z) (λ l y. then (close y) (λ _ x. taken (room full 512 (length p.arcs) (and_then (arc_of k p l) (λ a. Ok (Arc a)))) x))

  abbrev pub edge_item : Refusal → Scan → Taken (Item F G A)
  edge_item full z = then (edge_line f z) (λ l y. then (close y) (λ _ x. taken (room full 256 (length p.edges) (and_then (edge_of p l) (λ e. Ok (Edge e)))) x))

  -- b before the first a or e, a before the first e, and e. The line began at s
  abbrev pub by_letter : ℕ → Scan → Scan → Taken (Item F G A)
  by_letter c s z =
      cond (c == 98 && (is_nil p.arcs && is_nil p.edges)) (bad_item p z)
      (cond (c == 97 && is_nil p.edges) (arc_item (too_many s) z)
      (cond (c == 101) (edge_item (too_many s) z) (refused (broken s))))

  -- one line
  abbrev pub item : Scan → Taken (Item F G A)
  item s = then (one letter s) (λ c z. by_letter c s z)
