-- The lines of bad states, arcs and edges.
use Rattle.std.proofs.Common.{◌≡◌, ℕ, ◌≤◌, Bool, true, false, cond, not, ◌&&◌, eqb, ltb, List, [], ◌∷◌, ◌++◌, length, Some, None, Ok, Err, decimal, Option, Result, sym, refl, ap, ◌∙◌, subst, inl, inr}
use Rattle.std.proofs.lemmas.Bool.{and_parts, eqb-true}
use Rattle.model.specs.declared.Cause.{Cause}
use Rattle.model.specs.declared.Cause.TheVariants.{Count, Name, Empty}
use Rattle.model.specs.declared.Refusal.{Refusal}
use Rattle.model.specs.declared.Point.{Point}
use Rattle.model.specs.declared.Arc.{Arc as Arcs}
use Rattle.model.specs.declared.Edge.{Edge as Edges}
use Rattle.model.specs.Kind.{Kind}
use Rattle.model.specs.Plan.{Plan, point_in, arc_in, edge_in, fact_filled}
use Rattle.text.specs.Grammar.{StandsAt, take}
use Rattle.text.specs.Readers.{letter, is_nil, optional}
use Rattle.model.specs.Refusals.{refused_at}
use Rattle.text.specs.Scan.{Scan, Taken, took, refused, then, one, broken, position}
use Rattle.text.proofs.Spelled.{letter_only}
use Rattle.kinds.specs.Spelling.{Spelling, ReadableParts}
use Rattle.lines.specs.declared.Named.{Named}
use Rattle.lines.specs.declared.PointLine.{PointLine}
use Rattle.lines.specs.declared.ArcLine.{ArcLine}
use Rattle.lines.specs.declared.EdgeLine.{EdgeLine}
use Rattle.lines.specs.Lines.{named, numbered, within, at_name, point_line, event_line, arc_line, edge_line}
use Rattle.syntax.specs.declared.Item.{Item}
use Rattle.syntax.specs.declared.Item.TheVariants.{Bad, Arc, Edge}
use Rattle.syntax.specs.Items.{and_then, last, room, too_many, bad_of, point_of, arc_of, edge_of, bad_item, arc_item, edge_item, by_letter, item}
use Rattle.syntax.specs.Texts.{largest, point_tokens, item_tokens, PointFormed, ItemFormed}
use Rattle.syntax.proofs.Steps.{then_took}
use Rattle.syntax.proofs.Lines.{LineAt}
use Rattle.syntax.proofs.Tokens.{stands_join, stands_end, same_line, same_lines, one_there, one_back, take_back, named_there, named_back, optional_token, OptionalSmall, optional_only, optional_back}
use Rattle.syntax.proofs.Judged.{first_of, unless, Settled, settled_then, settled_if, settled_within, ByForm, by_form_then, by_form_one, by_form_take, by_form_named, Outcome, Answers, FormedAt, ReadsAt, whole_reads}

-- a test that must fail, and then a value
settled_not : {X : Type 0} {line : ℕ} (x : X) (b : Bool) (c : Cause) (r : Refusal) → r.cause ≡ c → r.position.line ≡ line → Settled line x (unless (not b) c) (cond b (Err r) (Ok x))
settled_not x true c r is at = record { settles = (r, refl, is, at) }
settled_not x false c r is at = record { settles = refl }

settled_by : {X : Type 0} {line : ℕ} {x : X} {o p : Option Cause} {t : Result X Refusal} → o ≡ p → Settled line x o t → Settled line x p t
settled_by {line = line} {x} {t = t} e h = subst (λ o. Settled line x o t) e h

module _ {F G A : Type 0} (p : Plan F G A) where
  -- there is room for one more
  abbrev pub has_room : Item F G A → Bool
  has_room (Bad q) = true
  has_room (Arc a) = ltb (length p.arcs) 512
  has_room (Edge e) = ltb (length p.edges) 256

  -- it names the plan's own nodes, states and events; a bad state is above the one before it
  abbrev pub own_names : Item F G A → Bool
  own_names (Bad q) = ltb (last 0 p.bad) q && ltb q p.states
  own_names (Arc a) = arc_in p.nodes p.events a
  own_names (Edge e) = edge_in p.states p.events e

  -- b before the first a or e, and a before the first e
  abbrev pub in_order : Item F G A → Bool
  in_order (Bad q) = is_nil p.arcs && is_nil p.edges
  in_order (Arc a) = is_nil p.edges
  in_order (Edge e) = true

module _ {F G A : Type 0} (k : Kind F G A) where
  abbrev pub filled : Item F G A → Bool
  filled (Bad q) = true
  filled (Arc a) = fact_filled k a.point
  filled (Edge e) = true

  -- what is to be refused of a line of good form
  abbrev pub item_wrong : Plan F G A → Item F G A → Option Cause
  item_wrong p i = first_of (unless (has_room p i) Count) (first_of (unless (own_names p i) Name) (unless (filled i) Empty))

-- what a line says, without places
abbrev pub point_said : {F : Type 0} → Option (PointLine F) → Option (Point F)
point_said None = None
point_said (Some t) = Some (record { event = t.event.number; fact = t.fact })

abbrev pub arc_said : {F : Type 0} → ArcLine F → Arcs F
arc_said l = record { from = l.from.number; to = l.to.number; point = point_said l.point }

abbrev pub edge_said : {G A : Type 0} → EdgeLine G A → Edges G A
edge_said l = record { from = l.from.number; event = l.event.number; to = l.to.number; guard = l.guard; action = l.action }

-- all of it stands on one line
abbrev pub PointOn : {F : Type 0} → ℕ → Option (PointLine F) → Type 0
PointOn line None = Unit {0}
PointOn line (Some t) = (t.event.position.line ≡ line) × (t.position.line ≡ line)

abbrev pub ArcOn : {F : Type 0} → ℕ → ArcLine F → Type 0
ArcOn line l = (l.from.position.line ≡ line) × (l.to.position.line ≡ line) × PointOn line l.point

abbrev pub EdgeOn : {G A : Type 0} → ℕ → EdgeLine G A → Type 0
EdgeOn line l = (l.from.position.line ≡ line) × (l.event.position.line ≡ line) × (l.to.position.line ≡ line)

two_names : (a b : Bool) → first_of (first_of (unless a Name) (unless b Name)) None ≡ first_of (unless (a && b) Name) None
two_names true true = refl
two_names true false = refl
two_names false b = refl

three_names : (a b c : Bool) → first_of (first_of (unless a Name) (first_of (unless b Name) (first_of (unless c Name) None))) None ≡ first_of (unless (a && (b && c)) Name) None
three_names true true true = refl
three_names true true false = refl
three_names true false c = refl
three_names false b c = refl

names_and_fact : (a b c d : Bool)
    → first_of (first_of (unless a Name) (first_of (unless b Name) (first_of (first_of (unless c Name) (unless d Empty)) None))) None ≡ first_of (unless (a && (b && c)) Name) (unless d Empty)
names_and_fact true true true true = refl
names_and_fact true true true false = refl
names_and_fact true true false d = refl
names_and_fact true false c d = refl
names_and_fact false b c d = refl

-- the judgements of the three lines
module _ {F G A : Type 0} (k : Kind F G A) (p : Plan F G A) (line : ℕ) where
  bad_settled : (n : Named) → n.position.line ≡ line → Settled {X = Item F G A} line (Bad n.number) (item_wrong k p (Bad n.number)) (and_then (bad_of p n) (λ q. Ok (Bad q)))
  bad_settled n at =
      settled_by (two_names (ltb (last 0 p.bad) n.number) (ltb n.number p.states))
      (settled_then (bad_of p n) (λ q. Ok (Bad q))
      (settled_if (ltb (last 0 p.bad) n.number) Name (at_name Name n) refl at (settled_within p.states n at))
      (record { settles = refl }))

  point_settled : (o : Option (PointLine F)) → PointOn line o
      → Settled line (point_said o) (first_of (unless (point_in p.nodes p.events (point_said o)) Name) (unless (fact_filled k (point_said o)) Empty)) (point_of k p o)
  point_settled None on = record { settles = refl }
  point_settled (Some t) (on, fact) =
      settled_then (within p.events t.event) _ (settled_within p.events t.event on)
      (settled_not (Some (record { event = t.event.number; fact = t.fact })) (k.empty t.fact) Empty (refused_at Empty t.position) refl fact)

  arc_settled : (full : Refusal) → full.cause ≡ Count → full.position.line ≡ line → (l : ArcLine F) → ArcOn line l
      → Settled {X = Item F G A} line (Arc (arc_said l)) (item_wrong k p (Arc (arc_said l))) (room full 512 (length p.arcs) (and_then (arc_of k p l) (λ a. Ok (Arc a))))
  arc_settled full is at l (a, b, c) =
      settled_if (ltb (length p.arcs) 512) Count full is at
      (settled_by (names_and_fact (ltb l.from.number p.nodes) (ltb l.to.number p.nodes) (point_in p.nodes p.events (point_said l.point)) (fact_filled k (point_said l.point)))
      (settled_then (arc_of k p l) (λ a. Ok (Arc a))
      (settled_then (within p.nodes l.from) _ (settled_within p.nodes l.from a)
      (settled_then (within p.nodes l.to) _ (settled_within p.nodes l.to b)
      (settled_then (point_of k p l.point) _ (point_settled l.point c) (record { settles = refl }))))
      (record { settles = refl })))

  edge_settled : (full : Refusal) → full.cause ≡ Count → full.position.line ≡ line → (l : EdgeLine G A) → EdgeOn line l
      → Settled {X = Item F G A} line (Edge (edge_said l)) (item_wrong k p (Edge (edge_said l))) (room full 256 (length p.edges) (and_then (edge_of p l) (λ e. Ok (Edge e))))
  edge_settled full is at l (a, b, c) =
      settled_if (ltb (length p.edges) 256) Count full is at
      (settled_by (three_names (ltb l.from.number p.states) (ltb l.event.number p.events) (ltb l.to.number p.states))
      (settled_then (edge_of p l) (λ e. Ok (Edge e))
      (settled_then (within p.states l.from) _ (settled_within p.states l.from a)
      (settled_then (within p.events l.event) _ (settled_within p.events l.event b)
      (settled_then (within p.states l.to) _ (settled_within p.states l.to c) (record { settles = refl }))))
      (record { settles = refl })))

-- their forms
module _ {F G A : Type 0} (f : Spelling F G A) (readable : ReadableParts f) where
  abbrev pub arc_tokens : Arcs F → List (List ℕ)
  arc_tokens a = decimal a.from ∷ decimal a.to ∷ point_tokens f a.point

  abbrev pub edge_tokens : Edges G A → List (List ℕ)
  edge_tokens e = decimal e.from ∷ decimal e.event ∷ decimal e.to ∷ (f.guards.spelled e.guard ++ f.actions.spelled e.action)

  event_there : (s : Scan) (o : Option (PointLine F)) (z : Scan) → event_line f s ≡ took o z
      → PointFormed f (point_said o) × PointOn s.number o × StandsAt s (point_tokens f (point_said o)) z
  event_there s o z h =
      let p = then_took (one (optional largest) s) _ h in
      let a = one_there (optional largest) s p.first in
      let (small, is) = optional_only a.token p.value a.reads in
      by p.value p.at small (subst (λ w. StandsAt s (w ∷ []) p.at) is a.stands) p.second
    where
      by : (v : Option ℕ) (y : Scan) → OptionalSmall v → StandsAt s (optional_token v ∷ []) y → point_line f s v y ≡ took o z
          → PointFormed f (point_said o) × PointOn s.number o × StandsAt s (point_tokens f (point_said o)) z
      by None y small st e =
          let none : None ≡ o = cc in
          let there : y ≡ z = cc in
          subst (λ o. PointFormed f (point_said o) × PointOn s.number o × StandsAt s (point_tokens f (point_said o)) z) none (tt, tt, subst (λ y. StandsAt s (optional_token None ∷ []) y) there st)
      by (Some v) y small st e =
          let q = then_took (take f.facts.grammar y) _ e in
          let (proper, fact) = (readable.facts_read.inverse y q.at q.value).0 q.first in
          let point : Some (record { event = numbered s v; fact = q.value; position = position y }) ≡ o = cc q.second in
          let there : q.at ≡ z = cc q.second in
          subst (λ o. PointFormed f (point_said o) × PointOn s.number o × StandsAt s (point_tokens f (point_said o)) z) point
          ((small, proper), (refl, same_line st), subst (λ y. StandsAt s (decimal v ∷ f.facts.spelled q.value) y) there (stands_join st fact))

  arc_there : (s : Scan) (l : ArcLine F) (z : Scan) → arc_line f s ≡ took l z → ItemFormed f (Arc (arc_said l)) × ArcOn s.number l × StandsAt s (arc_tokens (arc_said l)) z
  arc_there s l z h =
      let a = then_took (named s) _ h in
      let b = then_took (named a.at) _ a.second in
      let c = then_took (event_line f b.at) _ b.second in
      let m = named_there s a.first in
      let n = named_there a.at b.first in
      let (formed, on, st) = event_there b.at c.value c.at c.first in
      let same : record { from = a.value; to = b.value; point = c.value } ≡ l = cc c.second in
      let there : c.at ≡ z = cc c.second in
      let one_line = same_line m.stands in
      let two_lines = same_line n.stands ∙ one_line in
      subst (λ l. ItemFormed f (Arc (arc_said l)) × ArcOn s.number l × StandsAt s (arc_tokens (arc_said l)) z) same (
        (m.small, n.small, formed),
        (m.line, n.line ∙ one_line, point_moved c.value two_lines on),
        subst (λ y. StandsAt s (arc_tokens (arc_said (record { from = a.value; to = b.value; point = c.value }))) y) there (stands_join m.stands (stands_join n.stands st)),
      )
    where
      point_moved : (o : Option (PointLine F)) {a b : ℕ} → a ≡ b → PointOn a o → PointOn b o
      point_moved o e h = subst (λ n. PointOn n o) e h

  edge_there : (s : Scan) (l : EdgeLine G A) (z : Scan) → edge_line f s ≡ took l z → ItemFormed f (Edge (edge_said l)) × EdgeOn s.number l × StandsAt s (edge_tokens (edge_said l)) z
  edge_there s l z h =
      let a = then_took (named s) _ h in
      let b = then_took (named a.at) _ a.second in
      let c = then_took (named b.at) _ b.second in
      let d = then_took (take f.guards.grammar c.at) _ c.second in
      let e = then_took (take f.actions.grammar d.at) _ d.second in
      let m = named_there s a.first in
      let n = named_there a.at b.first in
      let o = named_there b.at c.first in
      let (proper, guard) = (readable.guards_read.inverse c.at d.at d.value).0 d.first in
      let (fit, action) = (readable.actions_read.inverse d.at e.at e.value).0 e.first in
      let same : record { from = a.value; event = b.value; to = c.value; guard = d.value; action = e.value } ≡ l = cc e.second in
      let there : e.at ≡ z = cc e.second in
      let one_line = same_line m.stands in
      let two_lines = same_line n.stands ∙ one_line in
      let st = stands_join m.stands (stands_join n.stands (stands_join o.stands (stands_join guard action))) in
      subst (λ l. ItemFormed f (Edge (edge_said l)) × EdgeOn s.number l × StandsAt s (edge_tokens (edge_said l)) z) same (
        (m.small, n.small, o.small, proper, fit),
        (m.line, n.line ∙ one_line, o.line ∙ two_lines),
        subst (λ y. StandsAt s (edge_tokens (record { from = a.value.number; event = b.value.number; to = c.value.number; guard = d.value; action = e.value })) y) there st,
      )

  event_back : (s : Scan) (o : Option (Point F)) (z : Scan) → PointFormed f o → StandsAt s (point_tokens f o) z
      → (l : Option (PointLine F)) × (event_line f s ≡ took l z) × (point_said l ≡ o) × PointOn s.number l
  event_back s None z formed st =
      let a = one_back (optional largest) (optional_back None tt) st in
      let is : event_line f s ≡ took None z = rw a.takes (ap (took None) (stands_end a.left)) in
      (None, is, refl, tt)
  event_back s (Some t) z (small, proper) st =
      let a = one_back (optional largest) (optional_back (Some t.event) small) st in
      let fact = (readable.facts_read.inverse a.at z t.fact).1 (proper, a.left) in
      let l : PointLine F = record { event = numbered s t.event; fact = t.fact; position = position a.at } in
      let is : event_line f s ≡ took (Some l) z = rw (a.takes, fact) in
      (Some l, is, refl, (refl, same_lines st a.left))

  pub arc_back : (s : Scan) (a : Arcs F) (z : Scan) → ItemFormed f (Arc a) → StandsAt s (arc_tokens a) z
      → (l : ArcLine F) × (arc_line f s ≡ took l z) × (arc_said l ≡ a) × ArcOn s.number l
  arc_back s a z (u, v, formed) st =
      let m = named_back u st in
      let n = named_back v m.left in
      let (o, is, said, on) = event_back n.at a.point z formed n.left in
      let l : ArcLine F = record { from = numbered s a.from; to = numbered m.at a.to; point = o } in
      let whole_is : arc_line f s ≡ took l z = rw (m.takes, n.takes, is) in
      (l, whole_is, (λ i. record { from = a.from; to = a.to; point = said i }), (refl, same_lines st m.left, subst (λ n. PointOn n o) (same_lines st n.left) on))

  pub edge_back : (s : Scan) (e : Edges G A) (z : Scan) → ItemFormed f (Edge e) → StandsAt s (edge_tokens e) z
      → (l : EdgeLine G A) × (edge_line f s ≡ took l z) × (edge_said l ≡ e) × EdgeOn s.number l
  edge_back s e z (u, v, w, proper, fit) st =
      let m = named_back u st in
      let n = named_back v m.left in
      let o = named_back w n.left in
      let g = take_back f.guards readable.guards_read proper o.left in
      let action = (readable.actions_read.inverse g.at z e.action).1 (fit, g.left) in
      let l : EdgeLine G A = record { from = numbered s e.from; event = numbered m.at e.event; to = numbered n.at e.to; guard = e.guard; action = e.action } in
      let whole_is : edge_line f s ≡ took l z = rw (m.takes, n.takes, o.takes, g.takes, action) in
      (l, whole_is, refl, (refl, same_lines st m.left, same_lines st n.left))

  event_form : (s : Scan) → ByForm s.number (event_line f s)
  event_form s = by_form_then s.number (one (optional largest) s) _ (by_form_one (optional largest) s) (λ v z. by v z)
    where
      by : (v : Option ℕ) (z : Scan) → ByForm z.number (point_line f s v z)
      by None z = refl
      by (Some v) z = by_form_then z.number (take f.facts.grammar z) _ (by_form_take f.facts.grammar z) (λ t u. refl)

  arc_form : (s : Scan) → ByForm s.number (arc_line f s)
  arc_form s =
      by_form_then s.number (named s) _ (by_form_named s) (λ a y. by_form_then y.number (named y) _ (by_form_named y) (λ b x.
      by_form_then x.number (event_line f x) _ (event_form x) (λ t w. refl)))

  edge_form : (s : Scan) → ByForm s.number (edge_line f s)
  edge_form s =
      by_form_then s.number (named s) _ (by_form_named s) (λ a y. by_form_then y.number (named y) _ (by_form_named y) (λ v x.
      by_form_then x.number (named x) _ (by_form_named x) (λ b w. by_form_then w.number (take f.guards.grammar w) _ (by_form_take f.guards.grammar w) (λ g u.
      by_form_then u.number (take f.actions.grammar u) _ (by_form_take f.actions.grammar u) (λ c t. refl)))))

bad_there : (s : Scan) (n : Named) (z : Scan) → named s ≡ took n z → (n.number ≤ largest) × (n.position.line ≡ s.number) × StandsAt s (decimal n.number ∷ []) z
bad_there s n z h = let m = named_there s h in (m.small, m.line, m.stands)

bad_back : (s : Scan) (q : ℕ) (z : Scan) → q ≤ largest → StandsAt s (decimal q ∷ []) z → (n : Named) × (named s ≡ took n z) × (n.number ≡ q) × (n.position.line ≡ s.number)
bad_back s q z small st = let m = named_back small st in (numbered s q, m.takes ∙ ap (took (numbered s q)) (stands_end m.left), refl, refl)

module _ {F G A : Type 0} (k : Kind F G A) (f : Spelling F G A) (readable : ReadableParts f) (p : Plan F G A) where
  -- the line has the form, and may stand there
  pub record ItemFine (i : Item F G A) : Type 0 where
    pub formed : ItemFormed f i
    pub order : in_order p i ≡ true

  -- a line after its letter, where a letter stands in front
  module _ {V : Type 0} (make : V → Item F G A) (Formed : V → Type 0) (tokens : V → List (List ℕ)) (wrong : V → Option Cause)
      (first : List ℕ) (same_tokens : (v : V) → item_tokens f (make v) ≡ first ∷ tokens v) (same_wrong : (v : V) → item_wrong k p (make v) ≡ wrong v)
      (fine : (v : V) → Formed v → ItemFine (make v)) (s z : Scan) (st : StandsAt s (first ∷ []) z) where
    lifted_at : (v : V) (y : Scan) → FormedAt make Formed tokens wrong z v y → FormedAt (λ i. i) ItemFine (item_tokens f) (item_wrong k p) s (make v) y
    lifted_at v y h =
        let l : LineAt s (first ∷ tokens v) y = record { end = h.line.end; stands = stands_join st h.line.stands; closes = h.line.closes } in
        record { formed = fine v h.formed; line = subst (λ ws. LineAt s ws y) (sym (same_tokens v)) l }

    lifted : (t : Taken (Item F G A)) → Outcome make Formed tokens wrong z t → Outcome (λ i. i) ItemFine (item_tokens f) (item_wrong k p) s t
    lifted (took i y) h =
        record { value = make h.value; is = h.is; there = lifted_at h.value y h.there; by = same_wrong h.value ∙ h.by }
    lifted (refused r) (at, inl form) = (at ∙ same_line st, inl form)
    lifted (refused r) (at, inr h) =
        (at ∙ same_line st, inr (record { value = make h.value; next = h.next; there = lifted_at h.value h.next h.there; by = same_wrong h.value ∙ h.by }))

  module _ (s : Scan) where
    bad_reads : ReadsAt Bad (λ q. q ≤ largest) (λ q. decimal q ∷ []) (λ q. item_wrong k p (Bad q)) s (bad_item p s)
    bad_reads =
        whole_reads Bad (λ q. q ≤ largest) (λ q. decimal q ∷ []) (λ q. item_wrong k p (Bad q)) named (λ n. n.number) (λ line n. n.position.line ≡ line)
        (λ n. and_then (bad_of p n) (λ q. Ok (Bad q))) by_form_named bad_there bad_back s (bad_settled k p s.number)

    module _ (full : Refusal) (is : full.cause ≡ Count) (at : full.position.line ≡ s.number) where
      arc_reads : ReadsAt Arc (λ a. ItemFormed f (Arc a)) (arc_tokens f readable) (λ a. item_wrong k p (Arc a)) s (arc_item k f p full s)
      arc_reads =
          whole_reads Arc (λ a. ItemFormed f (Arc a)) (arc_tokens f readable) (λ a. item_wrong k p (Arc a)) (arc_line f) arc_said ArcOn
          (λ l. room full 512 (length p.arcs) (and_then (arc_of k p l) (λ a. Ok (Arc a)))) (arc_form f readable) (arc_there f readable) (arc_back f readable) s (arc_settled k p s.number full is at)

      edge_reads : ReadsAt Edge (λ e. ItemFormed f (Edge e)) (edge_tokens f readable) (λ e. item_wrong k p (Edge e)) s (edge_item k f p full s)
      edge_reads =
          whole_reads Edge (λ e. ItemFormed f (Edge e)) (edge_tokens f readable) (λ e. item_wrong k p (Edge e)) (edge_line f) edge_said EdgeOn
          (λ l. room full 256 (length p.edges) (and_then (edge_of p l) (λ e. Ok (Edge e)))) (edge_form f readable) (edge_there f readable) (edge_back f readable) s (edge_settled k p s.number full is at)

  module _ (s : Scan) where
    abbrev ItemOutcome : Taken (Item F G A) → Type 0
    ItemOutcome = Outcome (λ i. i) ItemFine (item_tokens f) (item_wrong k p) s

    item_there : ItemOutcome (item k f p s)
    item_there = go (one letter s) refl (by_form_one letter s)
      where
        by : (c : ℕ) (z : Scan) → StandsAt s ((c ∷ []) ∷ []) z → (x : Bool) → (eqb c 98 && (is_nil p.arcs && is_nil p.edges)) ≡ x
            → (y : Bool) → (eqb c 97 && is_nil p.edges) ≡ y → (w : Bool) → eqb c 101 ≡ w
            → ItemOutcome (cond x (bad_item p z) (cond y (arc_item k f p (too_many s) z) (cond w (edge_item k f p (too_many s) z) (refused (broken s)))))
        by c z st true x y _ w _ =
            let (is, order) = and_parts (eqb c 98) _ x in
            let first = subst (λ b. StandsAt s ((b ∷ []) ∷ []) z) (eqb-true c 98 is) st in
            lifted Bad (λ q. q ≤ largest) (λ q. decimal q ∷ []) (λ q. item_wrong k p (Bad q)) (98 ∷ []) (λ q. refl) (λ q. refl)
            (λ q h. record { formed = h; order = order }) s z first (bad_item p z) (bad_reads z).there
        by c z st false x true y w _ =
            let (is, order) = and_parts (eqb c 97) _ y in
            let first = subst (λ b. StandsAt s ((b ∷ []) ∷ []) z) (eqb-true c 97 is) st in
            lifted Arc (λ a. ItemFormed f (Arc a)) (arc_tokens f readable) (λ a. item_wrong k p (Arc a)) (97 ∷ []) (λ a. refl) (λ a. refl)
            (λ a h. record { formed = h; order = order }) s z first (arc_item k f p (too_many s) z) (arc_reads z (too_many s) refl (sym (same_line first))).there
        by c z st false x false y true w =
            let first = subst (λ b. StandsAt s ((b ∷ []) ∷ []) z) (eqb-true c 101 w) st in
            lifted Edge (λ e. ItemFormed f (Edge e)) (edge_tokens f readable) (λ e. item_wrong k p (Edge e)) (101 ∷ []) (λ e. refl) (λ e. refl)
            (λ e h. record { formed = h; order = refl }) s z first (edge_item k f p (too_many s) z) (edge_reads z (too_many s) refl (sym (same_line first))).there
        by c z st false x false y false w = (refl, inl refl)

        go : (t : Taken ℕ) → one letter s ≡ t → ByForm s.number t → ItemOutcome (then t (λ c z. by_letter k f p c s z))
        go (refused r) e h = (h.1, inl h.0)
        go (took c z) e h =
            let o = one_there letter s e in
            let st = subst (λ w. StandsAt s (w ∷ []) z) (letter_only o.token c o.reads).1 o.stands in
            by c z st (eqb c 98 && (is_nil p.arcs && is_nil p.edges)) refl (eqb c 97 && is_nil p.edges) refl (eqb c 101) refl

    abbrev ItemAnswers : Item F G A → Scan → Taken (Item F G A) → Type 0
    ItemAnswers i z = Answers (λ i. i) ItemFine (item_tokens f) (item_wrong k p) i z (item_wrong k p i)

    item_back : (i : Item F G A) (z : Scan) → FormedAt (λ i. i) ItemFine (item_tokens f) (item_wrong k p) s i z → ItemAnswers i z (item k f p s)
    item_back (Bad q) z h =
        let o = one_back letter {x = 98} refl h.line.stands in
        let is : item k f p s ≡ bad_item p o.at = rw (o.takes, h.formed.order) in
        subst (ItemAnswers (Bad q) z) (sym is)
        ((bad_reads o.at).back q z (record { formed = h.formed.formed; line = record { end = h.line.end; stands = o.left; closes = h.line.closes } }))
    item_back (Arc a) z h =
        let o = one_back letter {x = 97} refl h.line.stands in
        let is : item k f p s ≡ arc_item k f p (too_many s) o.at = rw (o.takes, h.formed.order) in
        subst (ItemAnswers (Arc a) z) (sym is)
        ((arc_reads o.at (too_many s) refl (sym (same_lines h.line.stands o.left))).back a z
        (record { formed = h.formed.formed; line = record { end = h.line.end; stands = o.left; closes = h.line.closes } }))
    item_back (Edge e) z h =
        let o = one_back letter {x = 101} refl h.line.stands in
        let is : item k f p s ≡ edge_item k f p (too_many s) o.at = rw o.takes in
        subst (ItemAnswers (Edge e) z) (sym is)
        ((edge_reads o.at (too_many s) refl (sym (same_lines h.line.stands o.left))).back e z
        (record { formed = h.formed.formed; line = record { end = h.line.end; stands = o.left; closes = h.line.closes } }))

    pub item_reads : ReadsAt (λ i. i) ItemFine (item_tokens f) (item_wrong k p) s (item k f p s)
    item_reads = record { there = item_there; back = item_back }
