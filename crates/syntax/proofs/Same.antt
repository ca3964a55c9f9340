-- A plan's lines tell the plan: lines with the same tokens say the same.
use Rattle.std.proofs.Common.{◌≡◌, ℕ, ◌≤◌, true, List, [], ◌∷◌, ◌++◌, map, decimal, sym, refl, ap, ◌∙◌, subst, arith}
use Rattle.std.specs.List.{AllByRecursion}
use Rattle.std.proofs.lemmas.Fmt.{decimal_injective}
use Rattle.model.specs.declared.Arc.{Arc as Arcs}
use Rattle.model.specs.declared.Edge.{Edge as Edges}
use Rattle.model.specs.Plan.{Plan}
use Rattle.text.specs.Cut.{Piece}
use Rattle.text.specs.Grammar.{StandsAt}
use Rattle.text.specs.Scan.{Scan, took}
use Rattle.text.specs.Meaning.{before}
use Rattle.kinds.specs.Spelling.{Spelling, ReadableParts}
use Rattle.syntax.specs.declared.Item.{Item}
use Rattle.syntax.specs.declared.Item.TheVariants.{Bad, Arc, Edge}
use Rattle.syntax.specs.Items.{blank, added}
use Rattle.syntax.specs.Texts.{largest, items, item_tokens, lines_of, ItemFormed, Formed}
use Rattle.syntax.proofs.Tokens.{stands_none, stands_join}
use Rattle.syntax.proofs.ItemLines.{arc_said, edge_said, arc_tokens, edge_tokens, arc_back, edge_back, in_order}
use Rattle.syntax.proofs.Growing.{adding, Ordered, adding_append, adding_items, items_ordered, ordered_next}

-- somewhere any tokens stand
record Somewhere (ws : List (List ℕ)) : Type 0 where
  at : Scan
  end : Scan
  stands : StandsAt at ws end

somewhere : (ws : List (List ℕ)) → Somewhere ws
somewhere [] = let e : Scan = record { number = 0; tokens = []; end = 0; below = [] } in record { at = e; end = e; stands = stands_none e }
somewhere (w ∷ ws) =
    let s = somewhere ws in
    let t : Piece = record { place = 0; bytes = w } in
    let first : StandsAt (before s.at t) (w ∷ []) s.at = record { front = t ∷ []; is = refl; whole = refl } in
    record { at = before s.at t; end = s.end; stands = stands_join first s.stands }

number_same : (m n : ℕ) → m ≤ largest → n ≤ largest → decimal m ≡ decimal n → m ≡ n
number_same m n h k e = decimal_injective m n (omega arith) (omega arith) e

took_same : {X : Type 0} {x y : X} {z : Scan} → took x z ≡ took y z → x ≡ y
took_same e = cc

abbrev first_byte : List (List ℕ) → ℕ
first_byte [] = 0
first_byte ([] ∷ ws) = 0
first_byte ((b ∷ w) ∷ ws) = b

module _ {F G A : Type 0} (f : Spelling F G A) (readable : ReadableParts f) where
  arc_same : (a b : Arcs F) → ItemFormed f (Arc a) → ItemFormed f (Arc b) → arc_tokens f readable a ≡ arc_tokens f readable b → a ≡ b
  arc_same a b u v e =
      let s = somewhere (arc_tokens f readable a) in
      let (l, is, said, _) = arc_back f readable s.at a s.end u s.stands in
      let (m, is', said', _) = arc_back f readable s.at b s.end v (subst (λ ws. StandsAt s.at ws s.end) e s.stands) in
      let same : l ≡ m = took_same (sym is ∙ is') in
      sym said ∙ ap arc_said same ∙ said'

  edge_same : (a b : Edges G A) → ItemFormed f (Edge a) → ItemFormed f (Edge b) → edge_tokens f readable a ≡ edge_tokens f readable b → a ≡ b
  edge_same a b u v e =
      let s = somewhere (edge_tokens f readable a) in
      let (l, is, said, _) = edge_back f readable s.at a s.end u s.stands in
      let (m, is', said', _) = edge_back f readable s.at b s.end v (subst (λ ws. StandsAt s.at ws s.end) e s.stands) in
      let same : l ≡ m = took_same (sym is ∙ is') in
      sym said ∙ ap edge_said same ∙ said'

  item_same : (i j : Item F G A) → ItemFormed f i → ItemFormed f j → item_tokens f i ≡ item_tokens f j → i ≡ j
  item_same (Bad q) (Bad r) u v e = let d : decimal q ≡ decimal r = cc in ap Bad (number_same q r u v d)
  item_same (Arc a) (Arc b) u v e = let t : arc_tokens f readable a ≡ arc_tokens f readable b = cc in ap Arc (arc_same a b u v t)
  item_same (Edge a) (Edge b) u v e = let t : edge_tokens f readable a ≡ edge_tokens f readable b = cc in ap Edge (edge_same a b u v t)
  item_same (Bad q) (Arc b) u v e = let h = ap first_byte e in absurd (omega arith)
  item_same (Bad q) (Edge b) u v e = let h = ap first_byte e in absurd (omega arith)
  item_same (Arc a) (Bad r) u v e = let h = ap first_byte e in absurd (omega arith)
  item_same (Arc a) (Edge b) u v e = let h = ap first_byte e in absurd (omega arith)
  item_same (Edge a) (Bad r) u v e = let h = ap first_byte e in absurd (omega arith)
  item_same (Edge a) (Arc b) u v e = let h = ap first_byte e in absurd (omega arith)

  record MoreItems (is js : List (Item F G A)) (v : List (List ℕ)) : Type 0 where
    next : Item F G A
    others : List (Item F G A)
    are : js ≡ is ++ next ∷ others
    formed : ItemFormed f next
    tokens : v ≡ item_tokens f next

  more_items : (is js : List (Item F G A)) (v : List (List ℕ)) (more : List (List (List ℕ))) → AllByRecursion (ItemFormed f) is → AllByRecursion (ItemFormed f) js
      → map (item_tokens f) js ≡ map (item_tokens f) is ++ v ∷ more → MoreItems is js v
  more_items [] [] v more u t e = cc
  more_items [] (j ∷ js) v more u t e = record { next = j; others = js; are = refl; formed = t.0; tokens = cc }
  more_items (i ∷ is) [] v more u t e = cc
  more_items (i ∷ is) (j ∷ js) v more u t e =
      let first : item_tokens f j ≡ item_tokens f i = cc in
      let later : map (item_tokens f) js ≡ map (item_tokens f) is ++ v ∷ more = cc in
      let m = more_items is js v more u.1 t.1 later in
      record {
        next = m.next;
        others = m.others;
        are = λ k. item_same j i t.0 u.0 first k ∷ m.are k;
        formed = m.formed;
        tokens = m.tokens;
      }

  -- q is p with one more line, and maybe others
  pub record Longer (p q : Plan F G A) (v : List (List ℕ)) : Type 0 where
    pub next : Item F G A
    pub others : List (Item F G A)
    pub is : q ≡ adding (added p next) others
    pub order : in_order p next ≡ true
    pub formed : ItemFormed f next
    pub tokens : v ≡ item_tokens f next

  pub longer_plan : (p q : Plan F G A) (v : List (List ℕ)) (more : List (List (List ℕ))) → Formed f p → Formed f q → lines_of f q ≡ lines_of f p ++ v ∷ more → Longer p q v
  longer_plan p q v more u t e =
      let nodes : q.nodes ≡ p.nodes = number_same q.nodes p.nodes t.nodes u.nodes (cc) in
      let states : q.states ≡ p.states = number_same q.states p.states t.states u.states (cc) in
      let events : q.events ≡ p.events = number_same q.events p.events t.events u.events (cc) in
      let later : map (item_tokens f) (items q) ≡ map (item_tokens f) (items p) ++ v ∷ more = cc in
      let m = more_items (items p) (items q) v more u.parts t.parts later in
      let start : blank q.nodes q.states q.events ≡ blank p.nodes p.states p.events = λ i. blank (nodes i) (states i) (events i) in
      record {
        next = m.next;
        others = m.others;
        is =
            sym (adding_items q)
            ∙ (λ i. adding (start i) (m.are i))
            ∙ adding_append (blank p.nodes p.states p.events) (items p) (m.next ∷ m.others)
            ∙ ap (λ r. adding (added r m.next) m.others) (adding_items p);
        order =
            ap (λ r. in_order r m.next) (sym (adding_items p))
            ∙ ordered_next (blank p.nodes p.states p.events) (items p) m.next m.others
            (subst (Ordered (blank p.nodes p.states p.events)) m.are (items_ordered p.nodes p.states p.events q));
        formed = m.formed;
        tokens = m.tokens;
      }
