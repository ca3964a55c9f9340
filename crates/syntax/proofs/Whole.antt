-- The lines after the opening ones, as a loop over them reads them.
use Rattle.std.proofs.Common.{◌≡◌, ℕ, ◌<◌, ◌≤◌, true, false, leb, List, [], ◌∷◌, length, Ok, refl, ap, ◌∙◌, subst, ⊎_elim, arith}
use Rattle.std.proofs.lemmas.Bool.{and_from, le-leb}
use Rattle.model.specs.declared.Cause.TheVariants.{Count}
use Rattle.model.specs.declared.Refusal.{Refusal}
use Rattle.model.specs.Kind.{Kind}
use Rattle.model.specs.Plan.{Plan, counts, sizes_in, WellFormed}
use Rattle.text.specs.Cut.{Piece}
use Rattle.text.specs.Scan.{Scan, Taken, took, refused, then, one, over, start}
use Rattle.text.specs.Readers.{the_letter}
use Rattle.kinds.specs.Spelling.{Spelling}
use Rattle.syntax.specs.declared.Item.{Item}
use Rattle.lines.specs.Lines.{at_name, named, counted, opening, count_line}
use Rattle.syntax.specs.Items.{item, added}
use Rattle.syntax.specs.Reading.{header, body, reading, outcome}
use Rattle.syntax.proofs.Steps.{then_took, test_ok, cond_cases, ok_same}
use Rattle.syntax.proofs.Fitting.{judged, item_keeps}
use Rattle.syntax.proofs.Moves.{item_next, over_last}

module _ {F G A : Type 0} (k : Kind F G A) (f : Spelling F G A) (p : Plan F G A) (s : Scan) where
  -- the lines from s on
  abbrev pub rest : Taken (Plan F G A)
  rest = body k f s.below p s

  pub rest_over : over s ≡ true → rest ≡ took p s
  rest_over h = ap (λ (ls : List Piece). body k f ls p s) (over_last s h) ∙ rw h

  pub rest_refused : {r : Refusal} → over s ≡ false → item k f p s ≡ refused r → rest ≡ refused r
  rest_refused {r} o h = go s.below
    where
      go : (ls : List Piece) → body k f ls p s ≡ refused r
      go [] = rw (o, h)
      go (l ∷ ls) = rw h

  pub rest_taken : {i : Item F G A} {z : Scan} → item k f p s ≡ took i z → rest ≡ body k f z.below (added p i) z
  rest_taken {i} {z} h =
      let n = item_next k f p s h in
      ap (λ (ls : List Piece). body k f ls p s) n.were ∙ rw h

  pub fewer_below : {i : Item F G A} {z : Scan} → item k f p s ≡ took i z → length z.below < length s.below
  fewer_below h = let n = item_next k f p s h in omega (arith, ap length n.were)

module _ {F G A : Type 0} (k : Kind F G A) (f : Spelling F G A) (bytes : List ℕ) where
  -- after the opening lines
  pub reading_on : (p : Plan F G A) (s : Scan) → length bytes ≤ 32768 → header f (start bytes) ≡ took p s → reading k f bytes ≡ outcome (rest k f p s)
  reading_on p s h e = rw (le-leb (length bytes) 32768 h, e)

took_same : {X : Type 0} {x y : X} {a b : Scan} → took x a ≡ took y b → x ≡ y
took_same e = cc

outcome_ok : {X : Type 0} (t : Taken X) {x : X} → outcome t ≡ Ok x → (z : Scan) × (t ≡ took x z)
outcome_ok (took y z) e = (z, ap (λ (v : _). took v z) (ok_same e))
outcome_ok (refused r) e = cc

count_in : (c most : ℕ) (s : Scan) {n : ℕ} {z : Scan} → count_line c most s ≡ took n z → counts most n ≡ true
count_in c most s h =
    let a = then_took (one (the_letter c) s) _ h in
    let j = judged (named a.at) (counted most) a.second in
    let t = test_ok (counts most j.0.number) (Ok j.0.number) (at_name Count j.0) j.1 in
    subst (λ (m : ℕ). counts most m ≡ true) (ok_same t.1) t.0

-- a plan that is read is well formed
module _ {F G A : Type 0} (k : Kind F G A) (f : Spelling F G A) where
  body_keeps : (ls : List Piece) (p : Plan F G A) (s : Scan) {q : Plan F G A} {z : Scan} → WellFormed k p → body k f ls p s ≡ took q z → WellFormed k q
  body_keeps [] p s well h =
      ⊎_elim (λ e. subst (WellFormed k) (took_same e.1) well)
      (λ e. let t = then_took (item k f p s) _ e.1 in subst (WellFormed k) (took_same t.second) (item_keeps k f p s well t.first))
      (cond_cases (over s) _ _ h)
  body_keeps (l ∷ ls) p s well h =
      let t = then_took (item k f p s) _ h in body_keeps ls (added p t.value) t.at (item_keeps k f p s well t.first) t.second

  header_well_formed : (s : Scan) {p : Plan F G A} {z : Scan} → header f s ≡ took p z → WellFormed k p
  header_well_formed s h =
      let a = then_took (opening f s) _ h in
      let b = then_took (count_line 110 128 a.at) _ a.second in
      let c = then_took (count_line 115 32 b.at) _ b.second in
      let d = then_took (count_line 118 32 c.at) _ c.second in
      let sizes : sizes_in b.value c.value d.value ≡ true =
      and_from (counts 128 b.value) _ (count_in 110 128 a.at b.first)
      (and_from (counts 32 c.value) _ (count_in 115 32 b.at c.first) (count_in 118 32 c.at d.first)) in
      subst (WellFormed k) (took_same d.second) (record { sizes = sizes; bad_states = refl; own_arcs = refl; own_edges = refl; filled = refl })

  pub reading_well_formed : (bytes : List ℕ) {p : Plan F G A} → reading k f bytes ≡ Ok p → WellFormed k p
  reading_well_formed bytes h =
      let t = test_ok (leb (length bytes) 32768) _ _ h in
      let o = outcome_ok (then (header f (start bytes)) (λ q s. body k f s.below q s)) t.1 in
      let r = then_took (header f (start bytes)) _ o.1 in
      body_keeps r.at.below r.value r.at (header_well_formed (start bytes) r.first) r.second
