-- A plan: one chart and one watch.
use Rattle.std.specs.Prelude.{◌≡◌, ℕ, Bool, true, not, ◌&&◌, List, [], ◌∷◌, length, Some, None, Option, nat_le, nat_lt}
use Rattle.std.specs.List.{list_all}
use Rattle.model.specs.declared.Point.{Point}
use Rattle.model.specs.declared.Arc.{Arc}
use Rattle.model.specs.declared.Edge.{Edge}
use Rattle.model.specs.Kind.{Kind}

-- how many nodes, states and events there are, the bad states, and the arcs and edges in the text's order.
-- Node 0 and state 0 are the starts
pub record Plan (F G A : Type 0) : Type 0 where
  pub nodes : ℕ
  pub states : ℕ
  pub events : ℕ
  pub bad : List ℕ
  pub arcs : List (Arc F)
  pub edges : List (Edge G A)

-- n is from 1 to most
abbrev pub counts : ℕ → ℕ → Bool
counts most n = nat_le 1 n && nat_le n most

abbrev pub sizes_in : ℕ → ℕ → ℕ → Bool
sizes_in nodes states events = counts 128 nodes && (counts 32 states && counts 32 events)

-- each is above the one before it, and the first is above b
abbrev pub rises : ℕ → List ℕ → Bool
rises b [] = true
rises b (q ∷ qs) = nat_lt b q && rises q qs

abbrev pub bad_in : ℕ → List ℕ → Bool
bad_in states bad = rises 0 bad && list_all (λ q. nat_lt q states) bad

module _ {F : Type 0} (nodes events : ℕ) where
  abbrev pub point_in : Option (Point F) → Bool
  point_in None = true
  point_in (Some t) = nat_lt t.event events

  abbrev pub arc_in : Arc F → Bool
  arc_in a = nat_lt a.from nodes && (nat_lt a.to nodes && point_in a.point)

  abbrev pub arcs_in : List (Arc F) → Bool
  arcs_in arcs = nat_le (length arcs) 512 && list_all arc_in arcs

module _ {G A : Type 0} (states events : ℕ) where
  abbrev pub edge_in : Edge G A → Bool
  edge_in e = nat_lt e.from states && (nat_lt e.event events && nat_lt e.to states)

  abbrev pub edges_in : List (Edge G A) → Bool
  edges_in edges = nat_le (length edges) 256 && list_all edge_in edges

module _ {F G A : Type 0} (k : Kind F G A) where
  abbrev pub fact_filled : Option (Point F) → Bool
  fact_filled None = true
  fact_filled (Some t) = not (k.empty t.fact)

  -- counts are in their ranges; nodes, states and events are the plan's own; bad states rise and are never 0; each fact is met by some datum
  pub record WellFormed (p : Plan F G A) : Type 0 where
    pub sizes : sizes_in p.nodes p.states p.events ≡ true
    pub bad_states : bad_in p.states p.bad ≡ true
    pub own_arcs : arcs_in p.nodes p.events p.arcs ≡ true
    pub own_edges : edges_in p.states p.events p.edges ≡ true
    pub filled : list_all (λ a. fact_filled a.point) p.arcs ≡ true
