-- The tokens that stand at a scan, read one after another.
use Rattle.std.proofs.Common.{◌≡◌, ℕ, ◌≤◌, Bool, true, false, cond, ◌&&◌, eqb, List, [], ◌∷◌, ◌++◌, map, Some, None, codes, decimal, Option, sym, refl, ap, ◌∙◌, subst, arith}
use Rattle.std.proofs.lemmas.List.{append_assoc, map-append}
use Rattle.std.proofs.lemmas.Bool.{and_parts, and_left, eqb-true}
use Rattle.text.specs.Cut.{Piece}
use Rattle.text.specs.Grammar.{Format, StandsAt, Readable, take}
use Rattle.text.specs.Meaning.{before}
use Rattle.text.specs.Readers.{minus, is_nil, natural, present, optional}
use Rattle.text.specs.Scan.{Scan, Taken, took, refused, then, one, one_of, valued, broken, with_tokens}
use Rattle.text.proofs.Spelled.{Reads, naturals}
use Rattle.lines.specs.declared.Named.{Named}
use Rattle.lines.specs.Lines.{named, numbered}
use Rattle.syntax.specs.Texts.{largest}

-- s begins with a token, and y is after it
pub record TokenFirst (s : Scan) (w : List ℕ) (ws : List (List ℕ)) (z : Scan) : Type 0 where
  pub token : Piece
  pub after : Scan
  pub here : s ≡ before after token
  pub is : token.bytes ≡ w
  pub others : StandsAt after ws z

pub token_first : {s : Scan} {w : List ℕ} {ws : List (List ℕ)} {z : Scan} → StandsAt s (w ∷ ws) z → TokenFirst s w ws z
token_first {s} {w} {ws} {z} h = go h.front h.is h.whole
  where
    go : (front : List Piece) → map (λ t. t.bytes) front ≡ w ∷ ws → s ≡ with_tokens z (front ++ z.tokens) → TokenFirst s w ws z
    go [] i e = cc
    go (t ∷ front) i e =
        record { token = t; after = with_tokens z (front ++ z.tokens); here = e; is = cc; others = record { front = front; is = cc; whole = refl } }

pub stands_none : (s : Scan) → StandsAt s [] s
stands_none s = record { front = []; is = refl; whole = refl }

-- no token is left
pub stands_end : {s z : Scan} → StandsAt s [] z → s ≡ z
stands_end {s} {z} h = go h.front h.is h.whole
  where
    go : (front : List Piece) → map (λ t. t.bytes) front ≡ [] → s ≡ with_tokens z (front ++ z.tokens) → s ≡ z
    go [] i e = e
    go (t ∷ front) i e = cc

pub stands_join : {s y z : Scan} {ws vs : List (List ℕ)} → StandsAt s ws y → StandsAt y vs z → StandsAt s (ws ++ vs) z
stands_join {z = z} a b =
    record {
      front = a.front ++ b.front;
      is = map-append (λ t. t.bytes) a.front b.front ∙ (λ i. a.is i ++ b.is i);
      whole = a.whole ∙ ap (λ y. with_tokens y (a.front ++ y.tokens)) b.whole ∙ ap (with_tokens z) (sym (append_assoc a.front b.front z.tokens));
    }

-- some tokens, and others after them
pub stands_split : (ws : List (List ℕ)) {s z : Scan} {vs : List (List ℕ)} → StandsAt s (ws ++ vs) z → (y : Scan) × StandsAt s ws y × StandsAt y vs z
stands_split [] {s} h = (s, stands_none s, h)
stands_split (w ∷ ws) {s} h =
    let t = token_first h in
    let (y, p, q) = stands_split ws t.others in
    let first : StandsAt s (w ∷ []) t.after = record { front = t.token ∷ []; is = ap (λ b. b ∷ []) t.is; whole = t.here } in
    (y, stands_join first p, q)

pub same_line : {s z : Scan} {ws : List (List ℕ)} → StandsAt s ws z → z.number ≡ s.number
same_line h = sym (ap (λ (a : Scan). a.number) h.whole)

pub same_lines : {s y z : Scan} {ws vs : List (List ℕ)} → StandsAt s ws z → StandsAt y vs z → y.number ≡ s.number
same_lines a b = sym (same_line b) ∙ same_line a

-- the token that was read
pub record OneAt {X : Type 0} (f : List ℕ → Option X) (s : Scan) (x : X) (z : Scan) : Type 0 where
  pub token : List ℕ
  pub reads : f token ≡ Some x
  pub stands : StandsAt s (token ∷ []) z

pub one_there : {X : Type 0} (f : List ℕ → Option X) (s : Scan) {x : X} {z : Scan} → one f s ≡ took x z → OneAt f s x z
one_there {X} f s {x} {z} h = go s.tokens refl h
  where
    valued_as : (t : Piece) (ts : List Piece) → s.tokens ≡ t ∷ ts → (o : Option X) → f t.bytes ≡ o → valued (broken s) o (with_tokens s ts) ≡ took x z → OneAt f s x z
    valued_as t ts q None p e = cc
    valued_as t ts q (Some y) p e =
        let same : y ≡ x = cc in
        let there : with_tokens s ts ≡ z = cc in
        let whole : s ≡ with_tokens s (t ∷ ts) = ap (with_tokens s) q in
        record {
          token = t.bytes;
          reads = p ∙ ap Some same;
          stands = record { front = t ∷ []; is = refl; whole = whole ∙ ap (λ (a : Scan). with_tokens a (t ∷ a.tokens)) there };
        }

    go : (ts : List Piece) → s.tokens ≡ ts → one_of f s ts ≡ took x z → OneAt f s x z
    go [] q e = cc
    go (t ∷ ts) q e = valued_as t ts q (f t.bytes) refl e

-- the tokens ws are left after what t took, as it stands there
pub record Goes_on {X : Type 0} (t : Taken X) (x : X) (ws : List (List ℕ)) (z : Scan) : Type 0 where
  pub at : Scan
  pub takes : t ≡ took x at
  pub left : StandsAt at ws z

pub one_back : {X : Type 0} (f : List ℕ → Option X) {s : Scan} {x : X} {w : List ℕ} {ws : List (List ℕ)} {z : Scan} → f w ≡ Some x → StandsAt s (w ∷ ws) z → Goes_on (one f s) x ws z
one_back f {s} {x} {w} h st =
    let t = token_first st in
    let e : f t.token.bytes ≡ Some x = ap f t.is ∙ h in
    record { at = t.after; takes = ap (one f) t.here ∙ ap (λ o. valued (broken (before t.after t.token)) o t.after) e; left = t.others }

pub take_back : {X : Type 0} (f : Format X) → Readable f → {s z : Scan} {x : X} {ws : List (List ℕ)} → f.Proper x → StandsAt s (f.spelled x ++ ws) z → Goes_on (take f.grammar s) x ws z
take_back f r {s} {x = x} p st =
    let (y, here, more) = stands_split (f.spelled x) st in
    record { at = y; takes = (r.inverse s y x).1 (p, here); left = more }

numbers : Reads (natural largest) (λ n. n ≤ largest) decimal
numbers = naturals largest (omega arith)

-- a number that was read, with its line
pub record NamedAt (s : Scan) (n : Named) (z : Scan) : Type 0 where
  pub small : n.number ≤ largest
  pub line : n.position.line ≡ s.number
  pub stands : StandsAt s (decimal n.number ∷ []) z

pub named_there : (s : Scan) {n : Named} {z : Scan} → named s ≡ took n z → NamedAt s n z
named_there s {n} {z} h = go (one (natural largest) s) refl h
  where
    go : (t : Taken ℕ) → one (natural largest) s ≡ t → then t (λ m a. took (numbered s m) a) ≡ took n z → NamedAt s n z
    go (refused r) p e = cc
    go (took m a) p e =
        let o = one_there (natural largest) s p in
        let (small, is) = numbers.only o.token m o.reads in
        let same : numbered s m ≡ n = cc in
        let there : a ≡ z = cc in
        let stands : StandsAt s (decimal m ∷ []) a = subst (λ w. StandsAt s (w ∷ []) a) is o.stands in
        subst (λ b. NamedAt s n b) there (subst (λ v. NamedAt s v a) same (record { small = small; line = refl; stands = stands }))

pub named_back : {s z : Scan} {n : ℕ} {ws : List (List ℕ)} → n ≤ largest → StandsAt s (decimal n ∷ ws) z → Goes_on (named s) (numbered s n) ws z
named_back {s} {n = n} small st =
    let o = one_back (natural largest) (numbers.back n small) st in
    record { at = o.at; takes = ap (λ t. then t (λ m a. took (numbered s m) a)) o.takes; left = o.left }

-- a lone minus sign, or a number
abbrev pub optional_token : Option ℕ → List ℕ
optional_token None = codes "-"
optional_token (Some n) = decimal n

abbrev pub OptionalSmall : Option ℕ → Type 0
OptionalSmall None = Unit {0}
OptionalSmall (Some n) = n ≤ largest

pub optional_only : (w : List ℕ) (o : Option ℕ) → optional largest w ≡ Some o → OptionalSmall o × (w ≡ optional_token o)
optional_only [] o e = cc
optional_only (c ∷ cs) o e = go (eqb c minus && is_nil cs) refl e
  where
    numbered_as : (m : Option ℕ) → natural largest (c ∷ cs) ≡ m → present m ≡ Some o → OptionalSmall o × (c ∷ cs ≡ optional_token o)
    numbered_as None p e = cc
    numbered_as (Some n) p e = let same : Some n ≡ o = cc in subst (λ v. OptionalSmall v × (c ∷ cs ≡ optional_token v)) same (numbers.only (c ∷ cs) n p)

    alone : (cs : List ℕ) → c ≡ minus → is_nil cs ≡ true → c ∷ cs ≡ codes "-"
    alone [] p q = ap (λ b. b ∷ []) p
    alone (d ∷ cs) p q = cc

    go : (t : Bool) → (eqb c minus && is_nil cs) ≡ t → cond t (Some None) (present (natural largest (c ∷ cs))) ≡ Some o → OptionalSmall o × (c ∷ cs ≡ optional_token o)
    go true p e =
        let (m, n) = and_parts (eqb c minus) (is_nil cs) p in
        let same : None ≡ o = cc in
        subst (λ v. OptionalSmall v × (c ∷ cs ≡ optional_token v)) same (tt, alone cs (eqb-true c minus m) n)
    go false p e = numbered_as (natural largest (c ∷ cs)) refl e

-- a number has no minus sign in front
optional_number : (w : List ℕ) (n : ℕ) → natural largest w ≡ Some n → optional largest w ≡ Some (Some n)
optional_number [] n e = cc
optional_number (c ∷ cs) n e = rw (and_left (eqb c minus) (is_nil cs) (other (eqb c minus) refl), e)
  where
    other : (t : Bool) → eqb c minus ≡ t → eqb c minus ≡ false
    other false p = p
    other true p =
        let none : None ≡ Some n = ap (λ b. natural largest (b ∷ cs)) (sym (eqb-true c minus p)) ∙ e in cc

pub optional_back : (o : Option ℕ) → OptionalSmall o → optional largest (optional_token o) ≡ Some o
optional_back None p = refl
optional_back (Some n) p = optional_number (decimal n) n (numbers.back n p)
