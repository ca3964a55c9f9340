-- A line that is taken keeps the plan well formed.
use Rattle.std.proofs.Common.{◌≡◌, ℕ, Bool, true, ◌&&◌, eqb, ltb, leb, List, [], ◌∷◌, ◌++◌, length, Some, None, Ok, Option, Result, refl, ◌∙◌, subst, ⊎_elim, arith}
use Rattle.std.specs.List.{list_all}
use Rattle.std.proofs.lemmas.List.{length_push}
use Rattle.std.proofs.lemmas.List.Folds.{list_all-append}
use Rattle.std.proofs.lemmas.Bool.{and_parts, and_from, not_from_false, le-leb, ltb-true}
use Rattle.model.specs.declared.Refusal.{Refusal}
use Rattle.model.specs.declared.Cause.TheVariants.{Name}
use Rattle.model.specs.declared.Point.{Point}
use Rattle.model.specs.declared.Arc.{Arc as Arcs}
use Rattle.model.specs.declared.Edge.{Edge as Edges}
use Rattle.model.specs.Kind.{Kind}
use Rattle.model.specs.Plan.{Plan, rises, bad_in, point_in, arc_in, arcs_in, edge_in, edges_in, fact_filled, WellFormed}
use Rattle.text.specs.Scan.{Scan, Taken, took, refused, taken, then, one, close}
use Rattle.text.specs.Readers.{letter, is_nil}
use Rattle.kinds.specs.Spelling.{Spelling}
use Rattle.lines.specs.declared.Named.{Named}
use Rattle.lines.specs.declared.PointLine.{PointLine}
use Rattle.lines.specs.declared.ArcLine.{ArcLine}
use Rattle.lines.specs.declared.EdgeLine.{EdgeLine}
use Rattle.syntax.specs.declared.Item.{Item}
use Rattle.syntax.specs.declared.Item.TheVariants.{Bad, Arc, Edge}
use Rattle.lines.specs.Lines.{at_name, within, named, arc_line, edge_line}
use Rattle.syntax.specs.Items.{and_then, last, room, too_many, bad_of, point_of, arc_of, edge_of, by_letter, item, added, Fits}
use Rattle.syntax.proofs.Steps.{then_took, taken_took, and_then_ok, test_ok, test_failed, cond_cases, ok_same}

pub all_push : {X : Type 0} (t : X → Bool) (xs : List X) (x : X) → list_all t xs ≡ true → t x ≡ true → list_all t (xs ++ x ∷ []) ≡ true
all_push t xs x h e = list_all-append t xs (x ∷ []) ∙ and_from (list_all t xs) _ h (and_from (t x) true e refl)

pub rises_push : (b : ℕ) (qs : List ℕ) (q : ℕ) → rises b qs ≡ true → ltb (last b qs) q ≡ true → rises b (qs ++ q ∷ []) ≡ true
rises_push b [] q h e = and_from (ltb b q) true e refl
rises_push b (r ∷ qs) q h e = let p = and_parts (ltb b r) (rises r qs) h in and_from (ltb b r) _ p.0 (rises_push r qs q p.1 e)

room_push : {X : Type 0} (xs : List X) (x : X) (most : ℕ) → ltb (length xs) most ≡ true → leb (length (xs ++ x ∷ [])) most ≡ true
room_push xs x most h = le-leb _ most (omega (arith, length_push xs x, ltb-true (length xs) most h))

within_ok : (count : ℕ) (n : Named) {q : ℕ} → within count n ≡ Ok q → (ltb q count ≡ true) × (n.number ≡ q)
within_ok count n h =
    let p = test_ok (ltb n.number count) (Ok n.number) (at_name Name n) h in
    let e = ok_same p.1 in
    (subst (λ (m : ℕ). ltb m count ≡ true) e p.0, e)

-- a judgement after the end of a line
pub judged : {X Y : Type 0} (t : Taken X) (r : X → Result Y Refusal) {y : Y} {z : Scan} → then t (λ x a. then (close a) (λ _ b. taken (r x) b)) ≡ took y z → (x : X) × (r x ≡ Ok y)
judged (took x a) r h = let p = then_took (close a) _ h in (x, (taken_took (r x) p.at p.second).0)
judged (refused f) r h = cc

-- no fact is empty
abbrev pub Filled : {F G A : Type 0} → Kind F G A → Plan F G A → Type 0
Filled k p = list_all (λ a. fact_filled k a.point) p.arcs ≡ true

module _ {F G A : Type 0} (k : Kind F G A) (f : Spelling F G A) (p : Plan F G A) where
  -- what a taken line has passed, by what it gives
  module _ (P : Item F G A → Type 0)
      (bad : (n : Named) (q : ℕ) → bad_of p n ≡ Ok q → P (Bad q))
      (arc : (l : ArcLine F) (a : Arcs F) → ltb (length p.arcs) 512 ≡ true → arc_of k p l ≡ Ok a → P (Arc a))
      (edge : (l : EdgeLine G A) (e : Edges G A) → ltb (length p.edges) 256 ≡ true → edge_of p l ≡ Ok e → P (Edge e)) where
    by_cases : (s : Scan) (c : ℕ) (a : Scan) {i : Item F G A} {z : Scan} → by_letter k f p c s a ≡ took i z → P i
    by_cases s c a h =
        ⊎_elim
        (λ e.
        let j = judged (named a) (λ n. and_then (bad_of p n) (λ q. Ok (Bad q))) e.1 in
        let r = and_then_ok (bad_of p j.0) _ j.1 in
        subst P (ok_same r.second) (bad j.0 r.value r.first))
        (λ e. ⊎_elim
        (λ d.
        let j = judged (arc_line f a) (λ l. room (too_many s) 512 (length p.arcs) (and_then (arc_of k p l) (λ x. Ok (Arc x)))) d.1 in
        let t = test_ok (ltb (length p.arcs) 512) _ (too_many s) j.1 in
        let r = and_then_ok (arc_of k p j.0) _ t.1 in
        subst P (ok_same r.second) (arc j.0 r.value t.0 r.first))
        (λ d. ⊎_elim
        (λ b.
        let j = judged (edge_line f a) (λ l. room (too_many s) 256 (length p.edges) (and_then (edge_of p l) (λ x. Ok (Edge x)))) b.1 in
        let t = test_ok (ltb (length p.edges) 256) _ (too_many s) j.1 in
        let r = and_then_ok (edge_of p j.0) _ t.1 in
        subst P (ok_same r.second) (edge j.0 r.value t.0 r.first))
        (λ b. cc b.1)
        (cond_cases (eqb c 101) _ _ d.1))
        (cond_cases (eqb c 97 && is_nil p.edges) _ _ e.1))
        (cond_cases (eqb c 98 && (is_nil p.arcs && is_nil p.edges)) _ _ h)

    item_cases : (s : Scan) {i : Item F G A} {z : Scan} → item k f p s ≡ took i z → P i
    item_cases s h = let q = then_took (one letter s) _ h in by_cases s q.value q.at q.second

  bad_fits : bad_in p.states p.bad ≡ true → (n : Named) (q : ℕ) → bad_of p n ≡ Ok q → bad_in p.states (p.bad ++ q ∷ []) ≡ true
  bad_fits own n q h =
      let b = test_ok (ltb (last 0 p.bad) n.number) _ _ h in
      let w = within_ok p.states n b.1 in
      let o = and_parts (rises 0 p.bad) _ own in
      and_from (rises 0 (p.bad ++ q ∷ [])) _
      (rises_push 0 p.bad q o.0 (subst (λ (m : ℕ). ltb (last 0 p.bad) m ≡ true) w.1 b.0))
      (all_push (λ m. ltb m p.states) p.bad q o.1 w.0)

  -- a point that is taken: its event is the plan's own, and its fact is not empty
  point_fits : (o : Option (PointLine F)) {t : Option (Point F)} → point_of k p o ≡ Ok t → (point_in p.nodes p.events t ≡ true) × (fact_filled k t ≡ true)
  point_fits None h = subst (λ (t : Option (Point F)). (point_in p.nodes p.events t ≡ true) × (fact_filled k t ≡ true)) (ok_same h) (refl, refl)
  point_fits (Some l) h =
      let a = and_then_ok (within p.events l.event) _ h in
      let b = test_failed (k.empty l.fact) _ _ a.second in
      subst (λ (t : Option (Point F)). (point_in p.nodes p.events t ≡ true) × (fact_filled k t ≡ true)) (ok_same b.1)
      ((within_ok p.events l.event a.first).0, not_from_false (k.empty l.fact) b.0)

  arc_fits : (l : ArcLine F) {a : Arcs F} → arc_of k p l ≡ Ok a → (arc_in p.nodes p.events a ≡ true) × (fact_filled k a.point ≡ true)
  arc_fits l h =
      let a = and_then_ok (within p.nodes l.from) _ h in
      let b = and_then_ok (within p.nodes l.to) _ a.second in
      let c = and_then_ok (point_of k p l.point) _ b.second in
      let t = point_fits l.point c.first in
      subst (λ (x : Arcs F). (arc_in p.nodes p.events x ≡ true) × (fact_filled k x.point ≡ true)) (ok_same c.second) (
        and_from (ltb a.value p.nodes) _ (within_ok p.nodes l.from a.first).0
            (and_from (ltb b.value p.nodes) _ (within_ok p.nodes l.to b.first).0 t.0),
        t.1,
      )

  edge_fits : (l : EdgeLine G A) {e : Edges G A} → edge_of p l ≡ Ok e → edge_in p.states p.events e ≡ true
  edge_fits l h =
      let a = and_then_ok (within p.states l.from) _ h in
      let b = and_then_ok (within p.events l.event) _ a.second in
      let c = and_then_ok (within p.states l.to) _ b.second in
      subst (λ (x : Edges G A). edge_in p.states p.events x ≡ true) (ok_same c.second)
      (and_from (ltb a.value p.states) _ (within_ok p.states l.from a.first).0
      (and_from (ltb b.value p.events) _ (within_ok p.events l.event b.first).0 (within_ok p.states l.to c.first).0))

  -- what a taken line gives keeps the plan in bounds
  pub item_fits : (s : Scan) {i : Item F G A} {z : Scan} → bad_in p.states p.bad ≡ true → arcs_in p.nodes p.events p.arcs ≡ true
      → edges_in p.states p.events p.edges ≡ true → item k f p s ≡ took i z → Fits p i
  item_fits s bads arcs edges =
      item_cases (Fits p) (bad_fits bads)
      (λ l a few h.
      and_from (leb (length (p.arcs ++ a ∷ [])) 512) _ (room_push p.arcs a 512 few)
      (all_push (arc_in p.nodes p.events) p.arcs a (and_parts (leb (length p.arcs) 512) _ arcs).1 (arc_fits l h).0))
      (λ l e few h.
      and_from (leb (length (p.edges ++ e ∷ [])) 256) _ (room_push p.edges e 256 few)
      (all_push (edge_in p.states p.events) p.edges e (and_parts (leb (length p.edges) 256) _ edges).1 (edge_fits l h)))
      s

  -- and leaves no fact empty
  pub item_fills : (s : Scan) {i : Item F G A} {z : Scan} → Filled k p → item k f p s ≡ took i z → Filled k (added p i)
  item_fills s own =
      item_cases (λ i. Filled k (added p i)) (λ n q h. own)
      (λ l a few h. all_push (λ x. fact_filled k x.point) p.arcs a own (arc_fits l h).1)
      (λ l e few h. own)
      s

  well_with : WellFormed k p → (i : Item F G A) → Fits p i → Filled k (added p i) → WellFormed k (added p i)
  well_with w (Bad q) fits filled = record { sizes = w.sizes; bad_states = fits; own_arcs = w.own_arcs; own_edges = w.own_edges; filled = filled }
  well_with w (Arc a) fits filled = record { sizes = w.sizes; bad_states = w.bad_states; own_arcs = fits; own_edges = w.own_edges; filled = filled }
  well_with w (Edge e) fits filled = record { sizes = w.sizes; bad_states = w.bad_states; own_arcs = w.own_arcs; own_edges = fits; filled = filled }

  -- so the plan with what a taken line gives is well formed again
  pub item_keeps : (s : Scan) {i : Item F G A} {z : Scan} → WellFormed k p → item k f p s ≡ took i z → WellFormed k (added p i)
  item_keeps s {i = i} w h = well_with w i (item_fits s w.bad_states w.own_arcs w.own_edges h) (item_fills s w.filled h)
