-- A plan grows line by line: what its lines are then, and what is asked of it.
use Rattle.std.proofs.Common.{◌≡◌, ℕ, ◌≤◌, Bool, true, ◌&&◌, ltb, ◌↔◌, List, [], ◌∷◌, ◌++◌, map, length, sym, refl, ap, ◌∙◌, subst, arith}
use Rattle.std.specs.List.{list_all, flat_map, AllByRecursion}
use Rattle.std.proofs.ByRecursion.{All-push as every-push}
use Rattle.std.proofs.lemmas.List.{append_assoc, append-nil, length_push, map_push, flat_map_more}
use Rattle.std.proofs.lemmas.Bool.{and_parts, and_from, lt-ltb, ltb-true}
use Rattle.model.specs.declared.Arc.{Arc as Arcs}
use Rattle.model.specs.declared.Edge.{Edge as Edges}
use Rattle.model.specs.declared.Cause.TheVariants.{Count, Name, Empty}
use Rattle.model.specs.Kind.{Kind}
use Rattle.model.specs.Plan.{Plan, rises, bad_in, arc_in, edge_in, fact_filled}
use Rattle.text.specs.Readers.{is_nil}
use Rattle.kinds.specs.Spelling.{Spelling}
use Rattle.syntax.specs.declared.Item.{Item}
use Rattle.syntax.specs.declared.Item.TheVariants.{Bad, Arc, Edge}
use Rattle.syntax.specs.Items.{blank, last, added}
use Rattle.syntax.specs.Texts.{line, items, item_tokens, opening_lines, lines_of, spelled, ItemFormed, Formed}
use Rattle.syntax.specs.Faults.{Asked}
use Rattle.syntax.proofs.Fitting.{all_push, rises_push}
use Rattle.syntax.proofs.ItemLines.{has_room, own_names, in_order, filled}

nil_from : {X : Type 0} (xs : List X) → is_nil xs ≡ true → xs ≡ []
nil_from [] h = refl
nil_from (x ∷ xs) h = cc

push_before_nil : {X : Type 0} (xs : List X) (x : X) (rest : List X) → rest ≡ [] → (xs ++ x ∷ []) ++ rest ≡ (xs ++ rest) ++ x ∷ []
push_before_nil xs x rest h = ap (λ l. (xs ++ x ∷ []) ++ l) h ∙ append-nil (xs ++ x ∷ []) ∙ ap (λ l. l ++ x ∷ []) (sym (append-nil xs) ∙ ap (λ l. xs ++ l) (sym h))

all_pop : {X : Type 0} (t : X → Bool) (xs : List X) (x : X) → list_all t (xs ++ x ∷ []) ≡ true → (list_all t xs ≡ true) × (t x ≡ true)
all_pop t [] x h = (refl, (and_parts (t x) true h).0)
all_pop t (y ∷ xs) x h =
    let (first, more) = and_parts (t y) _ h in
    let (others, here) = all_pop t xs x more in
    (and_from (t y) _ first others, here)

rises_pop : (b : ℕ) (qs : List ℕ) (q : ℕ) → rises b (qs ++ q ∷ []) ≡ true → (rises b qs ≡ true) × (ltb (last b qs) q ≡ true)
rises_pop b [] q h = (refl, (and_parts (ltb b q) true h).0)
rises_pop b (r ∷ qs) q h =
    let (first, more) = and_parts (ltb b r) _ h in
    let (others, here) = rises_pop r qs q more in
    (and_from (ltb b r) _ first others, here)

module _ {F G A : Type 0} (p : Plan F G A) where
  -- a line in its order comes last
  pub items_added : (i : Item F G A) → in_order p i ≡ true → items (added p i) ≡ items p ++ i ∷ []
  items_added (Bad q) h =
      let (arcs, edges) = and_parts (is_nil p.arcs) _ h in
      let none : map Arc p.arcs ++ map Edge p.edges ≡ [] = (λ i. map Arc (nil_from p.arcs arcs i) ++ map Edge (nil_from p.edges edges i)) in
      ap (λ l. l ++ (map Arc p.arcs ++ map Edge p.edges)) (map_push Bad p.bad q) ∙ push_before_nil (map Bad p.bad) (Bad q) (map Arc p.arcs ++ map Edge p.edges) none
  items_added (Arc a) h =
      let none : map Edge p.edges ≡ [] = ap (map Edge) (nil_from p.edges h) in
      ap (λ l. map Bad p.bad ++ (l ++ map Edge p.edges)) (map_push Arc p.arcs a)
      ∙ ap (λ l. map Bad p.bad ++ l) (push_before_nil (map Arc p.arcs) (Arc a) (map Edge p.edges) none)
      ∙ sym (append_assoc (map Bad p.bad) (map Arc p.arcs ++ map Edge p.edges) (Arc a ∷ []))
  items_added (Edge e) h =
      let edges = map_push Edge p.edges e in
      ap (λ l. map Bad p.bad ++ (map Arc p.arcs ++ l)) edges
      ∙ ap (λ l. map Bad p.bad ++ l) (sym (append_assoc (map Arc p.arcs) (map Edge p.edges) (Edge e ∷ [])))
      ∙ sym (append_assoc (map Bad p.bad) (map Arc p.arcs ++ map Edge p.edges) (Edge e ∷ []))

  module _ (f : Spelling F G A) where
    opening_added : (i : Item F G A) → opening_lines f (added p i) ≡ opening_lines f p
    opening_added (Bad q) = refl
    opening_added (Arc a) = refl
    opening_added (Edge e) = refl

    pub lines_added : (i : Item F G A) → in_order p i ≡ true → lines_of f (added p i) ≡ lines_of f p ++ item_tokens f i ∷ []
    lines_added i h =
        ap (λ l. opening_lines f (added p i) ++ map (item_tokens f) l) (items_added i h)
        ∙ ap (λ l. l ++ map (item_tokens f) (items p ++ i ∷ [])) (opening_added i)
        ∙ ap (λ l. opening_lines f p ++ l) (map_push (item_tokens f) (items p) i)

    pub spelled_added : (i : Item F G A) → in_order p i ≡ true → spelled f (added p i) ≡ spelled f p ++ line (item_tokens f i)
    spelled_added i h = ap (flat_map line) (lines_added i h) ∙ sym (flat_map_more line [] (lines_of f p) (item_tokens f i))

    pub formed_added : (i : Item F G A) → in_order p i ≡ true → Formed f p → ItemFormed f i → Formed f (added p i)
    formed_added i h own new = by i (subst (AllByRecursion (ItemFormed f)) (sym (items_added i h)) (every-push (ItemFormed f) (items p) i own.parts new))
      where
        by : (i : Item F G A) → AllByRecursion (ItemFormed f) (items (added p i)) → Formed f (added p i)
        by (Bad q) a = record { nodes = own.nodes; states = own.states; events = own.events; parts = a }
        by (Arc x) a = record { nodes = own.nodes; states = own.states; events = own.events; parts = a }
        by (Edge e) a = record { nodes = own.nodes; states = own.states; events = own.events; parts = a }

module _ {F G A : Type 0} (k : Kind F G A) (f : Spelling F G A) (p : Plan F G A) where
  push_size : {X : Type 0} (xs : List X) (x : X) (most : ℕ) → (length (xs ++ x ∷ []) ≤ most) ↔ ((length xs ≤ most) × (ltb (length xs) most ≡ true))
  push_size xs x most =
      (λ h. let size = length_push xs x in (omega arith, lt-ltb (length xs) most (omega arith)), λ (a, b). let size = length_push xs x in omega (arith, ltb-true (length xs) most b))

  pub count_added : (i : Item F G A) → Asked k f Count (added p i) ↔ (Asked k f Count p × (has_room p i ≡ true))
  count_added (Bad q) = (λ h. (h, refl), λ h. h.0)
  count_added (Arc a) =
      let s = push_size p.arcs a 512 in
      (λ (sizes, arcs, edges). ((sizes, (s.0 arcs).0, edges), (s.0 arcs).1), λ ((sizes, arcs, edges), room). (sizes, s.1 (arcs, room), edges))
  count_added (Edge e) =
      let s = push_size p.edges e 256 in
      (λ (sizes, arcs, edges). ((sizes, arcs, (s.0 edges).0), (s.0 edges).1), λ ((sizes, arcs, edges), room). (sizes, arcs, s.1 (edges, room)))

  bad_added : (states : ℕ) (bad : List ℕ) (q : ℕ) → (bad_in states (bad ++ q ∷ []) ≡ true) ↔ ((bad_in states bad ≡ true) × ((ltb (last 0 bad) q && ltb q states) ≡ true))
  bad_added states bad q = (there, back)
    where
      there : bad_in states (bad ++ q ∷ []) ≡ true → (bad_in states bad ≡ true) × ((ltb (last 0 bad) q && ltb q states) ≡ true)
      there h =
          let (up, in-states) = and_parts (rises 0 (bad ++ q ∷ [])) _ h in
          let (a, b) = rises_pop 0 bad q up in
          let (c, d) = all_pop (λ q. ltb q states) bad q in-states in
          (and_from (rises 0 bad) _ a c, and_from (ltb (last 0 bad) q) _ b d)

      back : (bad_in states bad ≡ true) × ((ltb (last 0 bad) q && ltb q states) ≡ true) → bad_in states (bad ++ q ∷ []) ≡ true
      back (h, g) =
          let (a, c) = and_parts (rises 0 bad) _ h in
          let (b, d) = and_parts (ltb (last 0 bad) q) _ g in
          and_from (rises 0 (bad ++ q ∷ [])) _ (rises_push 0 bad q a b) (all_push (λ q. ltb q states) bad q c d)

  pub name_added : (i : Item F G A) → Asked k f Name (added p i) ↔ (Asked k f Name p × (own_names p i ≡ true))
  name_added (Bad q) =
      let s = bad_added p.states p.bad q in
      (λ (bad, arcs, edges). (((s.0 bad).0, arcs, edges), (s.0 bad).1), λ ((bad, arcs, edges), own). (s.1 (bad, own), arcs, edges))
  name_added (Arc a) =
      let t = arc_in p.nodes p.events in
      (λ (bad, arcs, edges). let (others, here) = all_pop t p.arcs a arcs in ((bad, others, edges), here), λ ((bad, arcs, edges), own). (bad, all_push t p.arcs a arcs own, edges))
  name_added (Edge e) =
      let t = edge_in p.states p.events in
      (λ (bad, arcs, edges). let (others, here) = all_pop t p.edges e edges in ((bad, arcs, others), here), λ ((bad, arcs, edges), own). (bad, arcs, all_push t p.edges e edges own))

  pub fact_added : (i : Item F G A) → Asked k f Empty (added p i) ↔ (Asked k f Empty p × (filled k i ≡ true))
  fact_added (Bad q) = (λ h. (h, refl), λ h. h.0)
  fact_added (Arc a) = let t : Arcs F → Bool = λ a. fact_filled k a.point in (all_pop t p.arcs a, λ (h, own). all_push t p.arcs a h own)
  fact_added (Edge e) = (λ h. (h, refl), λ h. h.0)

-- a plan with some more lines
abbrev pub adding : {F G A : Type 0} → Plan F G A → List (Item F G A) → Plan F G A
adding p [] = p
adding p (i ∷ is) = adding (added p i) is

-- each may stand after the plan so far
abbrev pub Ordered : {F G A : Type 0} → Plan F G A → List (Item F G A) → Type 0
Ordered p [] = Unit {0}
Ordered p (i ∷ is) = (in_order p i ≡ true) × Ordered (added p i) is

module _ {F G A : Type 0} where
  pub adding_append : (p : Plan F G A) (is js : List (Item F G A)) → adding p (is ++ js) ≡ adding (adding p is) js
  adding_append p [] js = refl
  adding_append p (i ∷ is) js = adding_append (added p i) is js

  pub ordered_next : (p : Plan F G A) (is : List (Item F G A)) (j : Item F G A) (js : List (Item F G A)) → Ordered p (is ++ j ∷ js) → in_order (adding p is) j ≡ true
  ordered_next p [] j js h = h.0
  ordered_next p (i ∷ is) j js h = ordered_next (added p i) is j js h.1

  edges_ordered : (p : Plan F G A) (es : List (Edges G A)) → Ordered p (map Edge es)
  edges_ordered p [] = tt
  edges_ordered p (e ∷ es) = (refl, edges_ordered (added p (Edge e)) es)

  arcs_ordered : (p : Plan F G A) (xs : List (Arcs F)) (es : List (Edges G A)) → is_nil p.edges ≡ true → Ordered p (map Arc xs ++ map Edge es)
  arcs_ordered p [] es h = edges_ordered p es
  arcs_ordered p (a ∷ xs) es h = (h, arcs_ordered (added p (Arc a)) xs es h)

  bad_ordered : (p : Plan F G A) (qs : List ℕ) (xs : List (Arcs F)) (es : List (Edges G A)) → is_nil p.arcs ≡ true → is_nil p.edges ≡ true → Ordered p (map Bad qs ++ (map Arc xs ++ map Edge es))
  bad_ordered p [] xs es h k = arcs_ordered p xs es k
  bad_ordered p (q ∷ qs) xs es h k = (and_from (is_nil p.arcs) _ h k, bad_ordered (added p (Bad q)) qs xs es h k)

  pub items_ordered : (nodes states events : ℕ) (p : Plan F G A) → Ordered (blank nodes states events) (items p)
  items_ordered nodes states events p = bad_ordered (blank nodes states events) p.bad p.arcs p.edges refl refl

  abbrev with_parts : Plan F G A → List ℕ → List (Arcs F) → List (Edges G A) → Plan F G A
  with_parts p bad arcs edges = record { nodes = p.nodes; states = p.states; events = p.events; bad = bad; arcs = arcs; edges = edges }

  adding_edges : (p : Plan F G A) (es : List (Edges G A)) → adding p (map Edge es) ≡ with_parts p p.bad p.arcs (p.edges ++ es)
  adding_edges p [] = ap (with_parts p p.bad p.arcs) (sym (append-nil p.edges))
  adding_edges p (e ∷ es) = adding_edges (added p (Edge e)) es ∙ ap (with_parts p p.bad p.arcs) (append_assoc p.edges (e ∷ []) es)

  adding_arcs : (p : Plan F G A) (xs : List (Arcs F)) (more : List (Item F G A)) → adding p (map Arc xs ++ more) ≡ adding (with_parts p p.bad (p.arcs ++ xs) p.edges) more
  adding_arcs p [] more = ap (λ l. adding (with_parts p p.bad l p.edges) more) (sym (append-nil p.arcs))
  adding_arcs p (a ∷ xs) more = adding_arcs (added p (Arc a)) xs more ∙ ap (λ l. adding (with_parts p p.bad l p.edges) more) (append_assoc p.arcs (a ∷ []) xs)

  adding_bad : (p : Plan F G A) (qs : List ℕ) (more : List (Item F G A)) → adding p (map Bad qs ++ more) ≡ adding (with_parts p (p.bad ++ qs) p.arcs p.edges) more
  adding_bad p [] more = ap (λ l. adding (with_parts p l p.arcs p.edges) more) (sym (append-nil p.bad))
  adding_bad p (q ∷ qs) more = adding_bad (added p (Bad q)) qs more ∙ ap (λ l. adding (with_parts p l p.arcs p.edges) more) (append_assoc p.bad (q ∷ []) qs)

  -- a plan is its opening lines and its items
  pub adding_items : (p : Plan F G A) → adding (blank p.nodes p.states p.events) (items p) ≡ p
  adding_items p =
      adding_bad (blank p.nodes p.states p.events) p.bad (map Arc p.arcs ++ map Edge p.edges)
      ∙ adding_arcs (with_parts p p.bad [] []) p.arcs (map Edge p.edges)
      ∙ adding_edges (with_parts p p.bad p.arcs []) p.edges

-- what is asked of a plan was asked of it with fewer lines
module _ {F G A : Type 0} (k : Kind F G A) (f : Spelling F G A) where
  pub count_fewer : (p : Plan F G A) (is : List (Item F G A)) → Asked k f Count (adding p is) → Asked k f Count p
  count_fewer p [] h = h
  count_fewer p (i ∷ is) h = ((count_added k f p i).0 (count_fewer (added p i) is h)).0

  pub name_fewer : (p : Plan F G A) (is : List (Item F G A)) → Asked k f Name (adding p is) → Asked k f Name p
  name_fewer p [] h = h
  name_fewer p (i ∷ is) h = ((name_added k f p i).0 (name_fewer (added p i) is h)).0

  pub fact_fewer : (p : Plan F G A) (is : List (Item F G A)) → Asked k f Empty (adding p is) → Asked k f Empty p
  fact_fewer p [] h = h
  fact_fewer p (i ∷ is) h = ((fact_added k f p i).0 (fact_fewer (added p i) is h)).0
