-- A grammar read at a scan reads the tokens that stand there.
use Rattle.std.proofs.Common.{◌≡◌, ℕ, List, [], ◌∷◌, ◌++◌, map, Some, None, Option, refl, ap, ◌∙◌}
use Rattle.text.specs.Cut.{Piece}
use Rattle.text.specs.Scan.{Scan, took, then, one, one_of, valued, broken, with_tokens}
use Rattle.text.specs.Grammar.{Grammar, done, field, take, StandsAt}

abbrev pub bound : {X Y : Type 0} → Option Y → (Y → Option X) → Option X
bound None go = None
bound (Some y) go = go y

-- the value that the tokens spell, all of them
abbrev pub spells : {X : Type 0} → Grammar X → List (List ℕ) → Option X
spells (done x) [] = Some x
spells (done x) (w ∷ ws) = None
spells (field f go) [] = None
spells (field f go) (w ∷ ws) = bound (f w) (λ y. spells (go y) ws)

-- the tokens that spell what was read
pub record SpelledThere {X : Type 0} (g : Grammar X) (s z : Scan) (x : X) : Type 0 where
  pub tokens : List (List ℕ)
  pub spell : spells g tokens ≡ Some x
  pub stand : StandsAt s tokens z

same_scan : {X : Type 0} {x y : X} {a b : Scan} → took x a ≡ took y b → a ≡ b
same_scan e = cc

same_value : {X : Type 0} {x y : X} {a b : Scan} → took x a ≡ took y b → x ≡ y
same_value e = cc

-- one field, where the rest of the grammar keeps the law
module _ {X Y : Type 0} (f : List ℕ → Option Y) (go : Y → Grammar X) (x : X) (z : Scan) where
  module _ (rest : (y : Y) (a : Scan) → take (go y) a ≡ took x z → SpelledThere (go y) a z x) (s : Scan) where
    by_value : (t : Piece) (ts : List Piece) → s.tokens ≡ t ∷ ts → (o : Option Y) → f t.bytes ≡ o
        → then (valued (broken s) o (with_tokens s ts)) (λ y a. take (go y) a) ≡ took x z → SpelledThere (field f go) s z x
    by_value t ts q None p e = cc
    by_value t ts q (Some y) p e =
        let h = rest y (with_tokens s ts) e in
        let w = h.stand.whole in
        let front = q ∙ ap (λ (a : Scan). t ∷ a.tokens) w in
        record {
          tokens = t.bytes ∷ h.tokens;
          spell = rw p h.spell;
          stand = record {
            front = t ∷ h.stand.front;
            is = ap (λ (l : List (List ℕ)). t.bytes ∷ l) h.stand.is;
            whole = λ i. record { number = (w i).number; tokens = front i; end = (w i).end; below = (w i).below };
          };
        }

    by_tokens : (ts : List Piece) → s.tokens ≡ ts → then (one_of f s ts) (λ y a. take (go y) a) ≡ took x z → SpelledThere (field f go) s z x
    by_tokens [] q e = cc
    by_tokens (t ∷ ts) q e = by_value t ts q (f t.bytes) refl e

  module _ (ws : List (List ℕ)) (rest : (y : Y) (a : Scan) → spells (go y) ws ≡ Some x → StandsAt a ws z → take (go y) a ≡ took x z) where
    onward : (t : Piece) (front : List Piece) → map (λ t. t.bytes) front ≡ ws → (o : Option Y) → bound o (λ y. spells (go y) ws) ≡ Some x
        → then (valued (broken (with_tokens z (t ∷ front ++ z.tokens))) o (with_tokens z (front ++ z.tokens))) (λ y a. take (go y) a) ≡ took x z
    onward t front i None e = cc
    onward t front i (Some y) e = rest y (with_tokens z (front ++ z.tokens)) e (record { front = front; is = i; whole = refl })

    at_token : (s : Scan) (w : List ℕ) (front : List Piece) → bound (f w) (λ y. spells (go y) ws) ≡ Some x → map (λ t. t.bytes) front ≡ w ∷ ws
        → s ≡ with_tokens z (front ++ z.tokens) → then (one f s) (λ y a. take (go y) a) ≡ took x z
    at_token s w [] e i q = cc
    at_token s w (t ∷ front) e i q =
        let first : t.bytes ≡ w = cc in
        let others : map (λ t. t.bytes) front ≡ ws = cc in
        ap (λ (a : Scan). then (one f a) (λ y b. take (go y) b)) q
        ∙ onward t front others (f t.bytes) (ap (λ (b : List ℕ). bound (f b) (λ y. spells (go y) ws)) first ∙ e)

pub taken_spelled : {X : Type 0} (g : Grammar X) (s z : Scan) (x : X) → take g s ≡ took x z → SpelledThere g s z x
taken_spelled (done y) s z x e =
    record { tokens = []; spell = ap Some (same_value e); stand = record { front = []; is = refl; whole = same_scan e } }
taken_spelled (field f go) s z x e = by_tokens f go x z (λ y a h. taken_spelled (go y) a z x h) s s.tokens refl e

pub spelled_taken : {X : Type 0} (g : Grammar X) (s z : Scan) (x : X) (ws : List (List ℕ)) → spells g ws ≡ Some x → StandsAt s ws z → take g s ≡ took x z
spelled_taken (done y) s z x [] e h = at_end h.front h.is h.whole
  where
    at_end : (front : List Piece) → map (λ t. t.bytes) front ≡ [] → s ≡ with_tokens z (front ++ z.tokens) → took y s ≡ took x z
    at_end [] i w = let v : y ≡ x = cc in λ j. took (v j) (w j)
    at_end (t ∷ front) i w = cc
spelled_taken (done y) s z x (w ∷ ws) e h = cc
spelled_taken (field f go) s z x [] e h = cc
spelled_taken (field f go) s z x (w ∷ ws) e h =
    at_token f go x z ws (λ y a p q. spelled_taken (go y) a z x ws p q) s w h.front e h.is h.whole
