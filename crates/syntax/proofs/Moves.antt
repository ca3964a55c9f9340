-- Where a step leaves the reading: in its line, or at the start of the next one.
use Rattle.std.proofs.Common.{◌≡◌, ℕ, true, ◌&&◌, eqb, List, [], ◌∷◌, Some, None, Option, Result, sym, refl, ap, ◌∙◌, ⊎_elim}
use Rattle.model.specs.declared.Refusal.{Refusal}
use Rattle.model.specs.Kind.{Kind}
use Rattle.model.specs.Plan.{Plan}
use Rattle.text.specs.Cut.{Piece}
use Rattle.text.specs.Scan.{Scan, Taken, took, refused, taken, then, one, one_of, close, close_at, broken, over, over_at, valued, with_tokens}
use Rattle.text.specs.Readers.{natural, optional, letter, is_nil}
use Rattle.text.specs.Grammar.{Grammar, done, field, take}
use Rattle.kinds.specs.Spelling.{Spelling}
use Rattle.syntax.specs.declared.Item.{Item}
use Rattle.lines.specs.Lines.{named, point_line, event_line, arc_line, edge_line}
use Rattle.syntax.specs.Items.{by_letter, item}
use Rattle.syntax.proofs.Steps.{then_took, taken_took, cond_cases}

-- the lines below stay
abbrev pub Keeps : {X : Type 0} → Scan → Taken X → Type 0
Keeps s (took x z) = z.below ≡ s.below
Keeps s (refused r) = Unit {0}

pub keeps_then : {X : Type 0} {Y : Type 0} (s : Scan) (t : Taken X) (go : X → Scan → Taken Y) → Keeps s t → ((x : X) (z : Scan) → Keeps z (go x z)) → Keeps s (then t go)
keeps_then {Y = Y} s (took x z) go h k = onward (go x z) (k x z)
  where
    onward : (t : Taken Y) → Keeps z t → Keeps s t
    onward (took y c) e = e ∙ h
    onward (refused r) e = tt
keeps_then s (refused r) go h k = tt

keeps_valued : {X : Type 0} (s : Scan) (r : Refusal) (o : Option X) (ts : List Piece) → Keeps s (valued r o (with_tokens s ts))
keeps_valued s r None ts = tt
keeps_valued s r (Some x) ts = refl

pub keeps_one : {X : Type 0} (f : List ℕ → Option X) (s : Scan) → Keeps s (one f s)
keeps_one f s = go s.tokens
  where
    go : (ts : List Piece) → Keeps s (one_of f s ts)
    go [] = tt
    go (t ∷ ts) = keeps_valued s (broken s) (f t.bytes) ts

pub keeps_take : {X : Type 0} (g : Grammar X) (s : Scan) → Keeps s (take g s)
keeps_take (done x) s = refl
keeps_take (field f go) s = keeps_then s (one f s) (λ y z. take (go y) z) (keeps_one f s) (λ y z. keeps_take (go y) z)

keeps_named : (s : Scan) → Keeps s (named s)
keeps_named s = keeps_then s (one (natural 65535) s) _ (keeps_one _ s) (λ n z. refl)

-- one line fewer below
pub record NextLine (s z : Scan) : Type 0 where
  pub line : Piece
  pub were : s.below ≡ line ∷ z.below

pub close_next : (s : Scan) {u : Unit {0}} {z : Scan} → close s ≡ took u z → NextLine s z
close_next s h = go s.tokens s.below refl h
  where
    go : (ts ls : List Piece) {u : Unit {0}} {z : Scan} → s.below ≡ ls → close_at s ts ls ≡ took u z → NextLine s z
    go (t ∷ ts) ls e h = cc
    go [] [] e h = cc
    go [] (l ∷ ls) e h = record { line = l; were = e ∙ ap (λ (m : List Piece). l ∷ m) (cc) }

-- the form of a line, its end, and a judgement
pub line_next : {X Y : Type 0} (s : Scan) (t : Taken X) (r : X → Result Y Refusal) {y : Y} {z : Scan} → Keeps s t
    → then t (λ x a. then (close a) (λ _ b. taken (r x) b)) ≡ took y z → NextLine s z
line_next s (took x a) r k h =
    let p = then_took (close a) _ h in
    let e = (taken_took (r x) p.at p.second).1 in
    let n = close_next a p.first in
    record { line = n.line; were = sym k ∙ n.were ∙ ap (λ (y : Scan). n.line ∷ y.below) e }
line_next s (refused f) r k h = cc

module _ {F G A : Type 0} (k : Kind F G A) (f : Spelling F G A) where
  keeps_point : (x : Scan) (o : Option ℕ) (w : Scan) → Keeps w (point_line f x o w)
  keeps_point x None w = refl
  keeps_point x (Some v) w = keeps_then w (take f.facts.grammar w) _ (keeps_take f.facts.grammar w) (λ t u. refl)

  keeps_arc : (z : Scan) → Keeps z (arc_line f z)
  keeps_arc z =
      keeps_then z (named z) _ (keeps_named z) (λ a y. keeps_then y (named y) _ (keeps_named y) (λ b x.
      keeps_then x (event_line f x) _ (keeps_then x (one (optional 65535) x) _ (keeps_one _ x) (keeps_point x)) (λ t w. refl)))

  keeps_edge : (z : Scan) → Keeps z (edge_line f z)
  keeps_edge z =
      keeps_then z (named z) _ (keeps_named z) (λ a y. keeps_then y (named y) _ (keeps_named y) (λ v x. keeps_then x (named x) _ (keeps_named x) (λ b w.
      keeps_then w (take f.guards.grammar w) _ (keeps_take f.guards.grammar w) (λ g u.
      keeps_then u (take f.actions.grammar u) _ (keeps_take f.actions.grammar u) (λ c t. refl)))))

  module _ (p : Plan F G A) where
    letter_next : (c : ℕ) (s a : Scan) {i : Item F G A} {z : Scan} → by_letter k f p c s a ≡ took i z → NextLine a z
    letter_next c s a h =
        ⊎_elim
        (λ e. line_next a (named a) _ (keeps_named a) e.1)
        (λ e. ⊎_elim
        (λ d. line_next a (arc_line f a) _ (keeps_arc a) d.1)
        (λ d. ⊎_elim
        (λ b. line_next a (edge_line f a) _ (keeps_edge a) b.1)
        (λ b. cc b.1)
        (cond_cases (eqb c 101) _ _ d.1))
        (cond_cases (eqb c 97 && is_nil p.edges) _ _ e.1))
        (cond_cases (eqb c 98 && (is_nil p.arcs && is_nil p.edges)) _ _ h)

    -- a line that is taken has a line below it, at which the reading then stands
    pub item_next : (s : Scan) {i : Item F G A} {z : Scan} → item k f p s ≡ took i z → NextLine s z
    item_next s h =
        let q = then_took (one letter s) _ h in
        let e = kept (one letter s) q.first (keeps_one letter s) in
        let n = letter_next q.value s q.at q.second in
        record { line = n.line; were = sym e ∙ n.were }
      where
        kept : {X : Type 0} (t : Taken X) {x : X} {a : Scan} → t ≡ took x a → Keeps s t → a.below ≡ s.below
        kept (took y b) e h = ap (λ (c : Scan). c.below) (sym (taken_same e)) ∙ h
          where
            taken_same : {X : Type 0} {y x : X} {b a : Scan} → took y b ≡ took x a → b ≡ a
            taken_same e = cc
        kept (refused r) e h = cc

-- past the last line there is none below
pub over_last : (s : Scan) → over s ≡ true → s.below ≡ []
over_last s h = go s.tokens s.below h
  where
    go : (ts ls : List Piece) → over_at ts ls ≡ true → ls ≡ []
    go [] ls e = cc
    go (t ∷ []) [] e = refl
    go (t ∷ []) (l ∷ ls) e = cc
    go (t ∷ u ∷ ts) ls e = cc
