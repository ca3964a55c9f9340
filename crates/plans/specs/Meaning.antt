-- What the code's plan stands for.
use Rattle.std.specs.Prelude.{ℕ, List, count_by, is_some, vec_items}
use Rattle.model.specs.declared.Arc.{Arc}
use Rattle.model.specs.Plan as model
use Rattle.kinds.specs.declared.kind.Kind.{Ghosts}
use Rattle.plans.specs.declared.plan.Plan.{Plan}

module _ {K F G A : Type 0} {b : Ghosts K F G A} where
  abbrev pub plan_of : Plan K F G A b → model.Plan F G A
  plan_of p = record {
    nodes = p.nodes;
    states = p.states;
    events = p.events;
    bad = vec_items p.bad;
    arcs = vec_items p.arcs;
    edges = vec_items p.edges;
  }

-- how many arcs have an event
abbrev pub points_in : {F : Type 0} → List (Arc F) → ℕ
points_in arcs = count_by (λ a. is_some a.point) arcs
