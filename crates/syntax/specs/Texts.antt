-- The text of a plan: its lines, the tokens of each, and their bytes.
use Rattle.std.specs.Prelude.{◌≡◌, ℕ, ◌≤◌, ◌↔◌, List, [], ◌∷◌, ◌++◌, map, length, Some, None, Ok, codes, decimal, Option}
use Rattle.std.specs.List.{flat_map, AllByRecursion}
use Rattle.model.specs.declared.Point.{Point}
use Rattle.model.specs.Kind.{Kind}
use Rattle.model.specs.Plan.{Plan, WellFormed}
use Rattle.text.specs.Cut.{space, line_feed}
use Rattle.kinds.specs.Spelling.{Spelling}
use Rattle.syntax.specs.declared.Item.{Item}
use Rattle.syntax.specs.declared.Item.TheVariants.{Bad, Arc, Edge}
use Rattle.syntax.specs.Reading.{reading}

-- the byte after a token, by the tokens that follow it in its line
abbrev pub byte_after : List (List ℕ) → ℕ
byte_after [] = line_feed
byte_after (w ∷ ws) = space

-- the bytes of a line: its tokens, a space after each but the last, and a line feed after that
abbrev pub line : List (List ℕ) → List ℕ
line [] = []
line (w ∷ ws) = w ++ byte_after ws ∷ line ws

-- the largest number that a count or a name is read as
abbrev pub largest : ℕ
largest = 65535

-- a plan's lines after the opening ones, in their order
abbrev pub items : {F G A : Type 0} → Plan F G A → List (Item F G A)
items p = map Bad p.bad ++ (map Arc p.arcs ++ map Edge p.edges)

module _ {F G A : Type 0} (f : Spelling F G A) where
  -- event fact, or -
  abbrev pub point_tokens : Option (Point F) → List (List ℕ)
  point_tokens None = codes "-" ∷ []
  point_tokens (Some t) = decimal t.event ∷ f.facts.spelled t.fact

  abbrev pub item_tokens : Item F G A → List (List ℕ)
  item_tokens (Bad q) = codes "b" ∷ decimal q ∷ []
  item_tokens (Arc a) = codes "a" ∷ decimal a.from ∷ decimal a.to ∷ point_tokens a.point
  item_tokens (Edge e) =
      codes "e" ∷ decimal e.from ∷ decimal e.event ∷ decimal e.to ∷ (f.guards.spelled e.guard ++ f.actions.spelled e.action)

  abbrev pub opening_lines : Plan F G A → List (List (List ℕ))
  opening_lines p =
      (codes "plan" ∷ codes "1" ∷ (f.letter ∷ []) ∷ [])
      ∷ (codes "n" ∷ decimal p.nodes ∷ [])
      ∷ (codes "s" ∷ decimal p.states ∷ [])
      ∷ (codes "v" ∷ decimal p.events ∷ [])
      ∷ []

  abbrev pub lines_of : Plan F G A → List (List (List ℕ))
  lines_of p = opening_lines p ++ map item_tokens (items p)

  -- the bytes of a plan
  abbrev pub spelled : Plan F G A → List ℕ
  spelled p = flat_map line (lines_of p)

  abbrev pub PointFormed : Option (Point F) → Type 0
  PointFormed None = Unit {0}
  PointFormed (Some t) = (t.event ≤ largest) × f.facts.Proper t.fact

  abbrev pub ItemFormed : Item F G A → Type 0
  ItemFormed (Bad q) = q ≤ largest
  ItemFormed (Arc a) = (a.from ≤ largest) × (a.to ≤ largest) × PointFormed a.point
  ItemFormed (Edge e) =
      (e.from ≤ largest) × (e.event ≤ largest) × (e.to ≤ largest) × f.guards.Proper e.guard × f.actions.Proper e.action

  -- each number of the plan is one that its place in a text can have
  pub record Formed (p : Plan F G A) : Type 0 where
    pub nodes : p.nodes ≤ largest
    pub states : p.states ≤ largest
    pub events : p.events ≤ largest
    pub parts : AllByRecursion ItemFormed (items p)

module _ {F G A : Type 0} (k : Kind F G A) (f : Spelling F G A) where
  -- the bytes are a text of the plan
  pub record TextOf (p : Plan F G A) (bytes : List ℕ) : Type 0 where
    pub well : WellFormed k p
    pub formed : Formed f p
    pub is : bytes ≡ spelled f p
    pub short : length bytes ≤ 32768

  -- for all bytes and plans: the reading of the bytes accepts with the plan exactly when they are its text
  abbrev pub AcceptsTextsOnly : Type 0
  AcceptsTextsOnly = (bytes : List ℕ) (p : Plan F G A) → (reading k f bytes ≡ Ok p) ↔ TextOf p bytes
