-- The reading passes the lines of a text one after another.
use Rattle.std.proofs.Common.{◌≡◌, ℕ, suc, ◌+◌, ◌≤◌, List, [], ◌∷◌, ◌++◌, length, Some, None, decimal, Option, sym, refl, ap, ◌∙◌, subst, arith}
use Rattle.std.specs.List.{flat_map, AllByRecursion}
use Rattle.std.proofs.ByRecursion.{All-map, All-weaker}
use Rattle.std.proofs.lemmas.List.{append_assoc, length-append, length_push, flat_map_more}
use Rattle.model.specs.declared.Cause.{Cause}
use Rattle.model.specs.declared.Point.{Point}
use Rattle.model.specs.Plan.{Plan}
use Rattle.text.specs.Cut.{line_feed}
use Rattle.text.specs.Grammar.{Unbroken}
use Rattle.text.specs.Scan.{Scan, Taken, took, start}
use Rattle.text.proofs.Cuts.{first}
use Rattle.text.proofs.Spelled.{naturals}
use Rattle.kinds.specs.Spelling.{Spelling, ReadableParts}
use Rattle.syntax.specs.declared.Item.{Item}
use Rattle.syntax.specs.declared.Item.TheVariants.{Bad, Arc, Edge}
use Rattle.syntax.specs.Texts.{line, largest, items, item_tokens, point_tokens, lines_of, PointFormed, ItemFormed, Formed}
use Rattle.syntax.proofs.Lines.{At, LineIn, LineUnbroken}
use Rattle.syntax.proofs.Judged.{ReadsAt, taken_line}
use Rattle.syntax.proofs.Opening.{first_tokens}

number_clear : (n : ℕ) → n ≤ largest → Unbroken (decimal n ∷ [])
number_clear n h = ((naturals largest (omega arith)).clear n h, tt)

unbroken_append : (ws vs : List (List ℕ)) → Unbroken ws → Unbroken vs → Unbroken (ws ++ vs)
unbroken_append [] vs u t = t
unbroken_append (w ∷ ws) vs u t = (u.0, unbroken_append ws vs u.1 t)

-- no cut breaks the tokens of a plan's lines
module _ {F G A : Type 0} (f : Spelling F G A) (readable : ReadableParts f) where
  point_unbroken : (o : Option (Point F)) → PointFormed f o → Unbroken (point_tokens f o)
  point_unbroken None h = ((refl, tt), tt)
  point_unbroken (Some t) (small, proper) = ((number_clear t.event small).0, readable.facts_read.unbroken t.fact proper)

  pub item_unbroken : (i : Item F G A) → ItemFormed f i → LineUnbroken (item_tokens f i)
  item_unbroken (Bad q) h = ((refl, tt), number_clear q h)
  item_unbroken (Arc a) (from, to, point) = ((refl, tt), ((number_clear a.from from).0, ((number_clear a.to to).0, point_unbroken a.point point)))
  item_unbroken (Edge e) (from, event, to, guard, action) = (
    (refl, tt),
    (
      (number_clear e.from from).0,
      (
        (number_clear e.event event).0,
        (
          (number_clear e.to to).0,
          unbroken_append (f.guards.spelled e.guard) _ (readable.guards_read.unbroken e.guard guard) (readable.actions_read.unbroken e.action action),
        ),
      ),
    ),
  )

  pub count_unbroken : (c n : ℕ) → Unbroken ((c ∷ []) ∷ []) → n ≤ largest → LineUnbroken ((c ∷ []) ∷ decimal n ∷ [])
  count_unbroken c n u h = (u.0, number_clear n h)

  pub first_unbroken : LineUnbroken (first_tokens f readable tt)
  first_unbroken = ((refl, (refl, (refl, (refl, tt)))), ((refl, tt), (readable.letter_unbroken, tt)))

  pub lines_unbroken : (p : Plan F G A) → Formed f p → AllByRecursion LineUnbroken (lines_of f p)
  lines_unbroken p h = (
    first_unbroken,
    (
      count_unbroken 110 p.nodes ((refl, tt), tt) h.nodes,
      (
        count_unbroken 115 p.states ((refl, tt), tt) h.states,
        (
          count_unbroken 118 p.events ((refl, tt), tt) h.events,
          All-map LineUnbroken (item_tokens f) (items p) (All-weaker (ItemFormed f) (λ i. LineUnbroken (item_tokens f i)) item_unbroken (items p) h.parts),
        ),
      ),
    ),
  )

-- the reading of the bytes has passed the lines ls, and stands at s
pub record Reached (bytes : List ℕ) (ls : List (List (List ℕ))) (s : Scan) : Type 0 where
  pub rest : List ℕ
  pub is : bytes ≡ flat_map line ls ++ rest
  pub at : s ≡ At (suc (length ls)) (length (flat_map line ls)) rest

pub reached_start : (bytes : List ℕ) → Reached bytes [] (start bytes)
reached_start bytes = record { rest = bytes; is = refl; at = rw (first line_feed 0 bytes).is }

pub reached_more : {bytes : List ℕ} (ls : List (List (List ℕ))) {s : Scan} (r : Reached bytes ls s) {ws : List (List ℕ)} {z : Scan}
    → LineIn (suc (length ls)) (length (flat_map line ls)) r.rest ws z → Reached bytes (ls ++ ws ∷ []) z
reached_more ls r {ws} l =
    let lines = flat_map_more line [] ls ws in
    let number : suc (suc (length ls)) ≡ suc (length (ls ++ ws ∷ [])) = omega (arith, length_push ls ws) in
    let place : length (flat_map line ls) + length (line ws) ≡ length (flat_map line (ls ++ ws ∷ [])) = sym (length-append (flat_map line ls) (line ws)) ∙ ap length lines in
    record {
      rest = l.rest;
      is = r.is ∙ ap (λ bs. flat_map line ls ++ bs) l.is ∙ sym (append_assoc (flat_map line ls) (line ws) l.rest) ∙ ap (λ bs. bs ++ l.rest) lines;
      at = l.next ∙ (λ i. At (number i) (place i) l.rest);
    }

module _ {V X : Type 0} (make : V → X) (Formed : V → Type 0) (tokens : V → List (List ℕ)) (wrong : V → Option Cause) where
  -- one line more was taken
  pub record Onward (bytes : List ℕ) (ls : List (List (List ℕ))) (x : X) (z : Scan) : Type 0 where
    pub value : V
    pub is : x ≡ make value
    pub formed : Formed value
    pub by : wrong value ≡ None
    pub reached : Reached bytes (ls ++ tokens value ∷ []) z

  pub reached_line : {bytes : List ℕ} (ls : List (List (List ℕ))) {s : Scan} → Reached bytes ls s → {t : Taken X} {x : X} {z : Scan}
      → ReadsAt make Formed tokens wrong s t → t ≡ took x z → Onward bytes ls x z
  reached_line ls r {t} reads e =
      let l = taken_line make Formed tokens wrong (suc (length ls)) (length (flat_map line ls)) r.rest (subst (λ s. ReadsAt make Formed tokens wrong s t) r.at reads) e in
      record { value = l.value; is = l.is; formed = l.formed; by = l.by; reached = reached_more ls r l.line }
