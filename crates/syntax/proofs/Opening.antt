-- The four opening lines of a text.
use Rattle.std.proofs.Common.{◌≡◌, ℕ, ◌≤◌, Bool, true, false, cond, ◌&&◌, eqb, List, [], ◌∷◌, Some, None, Ok, codes, decimal, Option, refl, ap, ◌∙◌, subst, arith}
use Rattle.std.specs.Str.{bytes_eq}
use Rattle.std.proofs.lemmas.Slice.Eq.{bytes_eq-Decides}
use Rattle.std.proofs.lemmas.Bool.{and_parts, eqb-true}
use Rattle.model.specs.declared.Cause.{Cause}
use Rattle.model.specs.declared.Cause.TheVariants.{Count}
use Rattle.model.specs.Plan.{counts}
use Rattle.text.specs.Grammar.{StandsAt}
use Rattle.text.specs.Readers.{letter, is_text, if_same, the_letter, the_number, exactly}
use Rattle.text.specs.Scan.{Scan, Taken, took, refused, then, one, close, taken}
use Rattle.text.proofs.Spelled.{letter_only, the_digits}
use Rattle.kinds.specs.Spelling.{Spelling, ReadableParts}
use Rattle.lines.specs.declared.Named.{Named}
use Rattle.lines.specs.Lines.{opening, count_line, named, numbered, counted, at_name}
use Rattle.syntax.specs.Texts.{largest}
use Rattle.syntax.proofs.Steps.{then_took}
use Rattle.syntax.proofs.Tokens.{stands_join, stands_end, same_line, same_lines, one_there, one_back, named_there, named_back}
use Rattle.syntax.proofs.Judged.{unless, Settled, settled_test, ByForm, by_form_then, by_form_one, by_form_named, ReadsAt, whole_reads}

then_assoc : {X Y Z : Type 0} (t : Taken X) (go : X → Scan → Taken Y) (on : Y → Scan → Taken Z) → then (then t go) on ≡ then t (λ x z. then (go x z) on)
then_assoc (took x z) go on = refl
then_assoc (refused r) go on = refl

then_took_unit : (t : Taken (Unit {0})) → then t (λ _ z. took tt z) ≡ t
then_took_unit (took tt z) = refl
then_took_unit (refused r) = refl

the_letter_only : (c : ℕ) (w : List ℕ) {u : Unit {0}} → the_letter c w ≡ Some u → w ≡ c ∷ []
the_letter_only c w {u} h = go (letter w) refl h
  where
    same : (d : ℕ) (b : Bool) → eqb d c ≡ b → cond b (Some tt) None ≡ Some u → d ≡ c
    same d true e p = eqb-true d c e
    same d false e p = cc

    go : (o : Option ℕ) → letter w ≡ o → if_same c o ≡ Some u → w ≡ c ∷ []
    go None e p = cc
    go (Some d) e p = (letter_only w d e).1 ∙ ap (λ b. b ∷ []) (same d (eqb d c) refl p)

exactly_only : (v w : List ℕ) {u : Unit {0}} → exactly v w ≡ Some u → w ≡ v
exactly_only v w {u} h = go (is_text w && bytes_eq w v) refl h
  where
    go : (b : Bool) → (is_text w && bytes_eq w v) ≡ b → cond b (Some tt) None ≡ Some u → w ≡ v
    go true e p = (bytes_eq-Decides w v).0 (and_parts (is_text w) (bytes_eq w v) e).1
    go false e p = cc

-- a line of a letter and a count
module _ (c most : ℕ) (reads : the_letter c (c ∷ []) ≡ Some tt) where
  abbrev pub count_tokens : ℕ → List (List ℕ)
  count_tokens n = (c ∷ []) ∷ decimal n ∷ []

  abbrev pub count_wrong : ℕ → Option Cause
  count_wrong n = unless (counts most n) Count

  abbrev lettered_number : Scan → Taken Named
  lettered_number s = then (one (the_letter c) s) (λ _ z. named z)

  number_there : (s : Scan) (n : Named) (z : Scan) → lettered_number s ≡ took n z
      → (n.number ≤ largest) × (n.position.line ≡ s.number) × StandsAt s (count_tokens n.number) z
  number_there s n z h =
      let p = then_took (one (the_letter c) s) _ h in
      let o = one_there (the_letter c) s p.first in
      let m = named_there p.at p.second in
      let first : StandsAt s ((c ∷ []) ∷ []) p.at = subst (λ w. StandsAt s (w ∷ []) p.at) (the_letter_only c o.token o.reads) o.stands in
      (m.small, m.line ∙ same_line first, stands_join first m.stands)

  number_back : (s : Scan) (n : ℕ) (z : Scan) → n ≤ largest → StandsAt s (count_tokens n) z
      → (m : Named) × (lettered_number s ≡ took m z) × (m.number ≡ n) × (m.position.line ≡ s.number)
  number_back s n z small st =
      let o = one_back (the_letter c) reads st in
      let m = named_back small o.left in
      (numbered o.at n, ap (λ t. then t (λ _ a. named a)) o.takes ∙ m.takes ∙ ap (took (numbered o.at n)) (stands_end m.left), refl, same_lines st o.left)

  abbrev count_whole : Scan → Taken ℕ
  count_whole s = then (lettered_number s) (λ n y. then (close y) (λ _ x. taken (counted most n) x))

  count_is : (s : Scan) → count_whole s ≡ count_line c most s
  count_is s = then_assoc (one (the_letter c) s) (λ _ z. named z) (λ n y. then (close y) (λ _ x. taken (counted most n) x))

  number_form : (s : Scan) → ByForm s.number (lettered_number s)
  number_form s = by_form_then s.number (one (the_letter c) s) (λ _ z. named z) (by_form_one (the_letter c) s) (λ _ z. by_form_named z)

  count_settled : (s : Scan) (n : Named) → n.position.line ≡ s.number → Settled s.number n.number (count_wrong n.number) (counted most n)
  count_settled s n at = settled_test n.number (counts most n.number) Count (at_name Count n) refl at

  pub counts_read : (s : Scan) → ReadsAt (λ n. n) (λ n. n ≤ largest) count_tokens count_wrong s (count_line c most s)
  counts_read s =
      subst (ReadsAt (λ n. n) (λ n. n ≤ largest) count_tokens count_wrong s) (count_is s)
      (whole_reads (λ n. n) (λ n. n ≤ largest) count_tokens count_wrong lettered_number (λ n. n.number) (λ line n. n.position.line ≡ line) (counted most) number_form number_there number_back s (count_settled s))

-- the first line
module _ {F G A : Type 0} (f : Spelling F G A) (readable : ReadableParts f) where
  abbrev pub first_tokens : Unit {0} → List (List ℕ)
  first_tokens _ = codes "plan" ∷ codes "1" ∷ (f.letter ∷ []) ∷ []

  abbrev first_words : Scan → Taken (Unit {0})
  first_words s = then (one (exactly (codes "plan")) s) (λ _ z. then (one (the_number 1) z) (λ _ y. one (the_letter f.letter) y))

  words_there : (s : Scan) (u : Unit {0}) (z : Scan) → first_words s ≡ took u z → Unit {0} × Unit {0} × StandsAt s (first_tokens u) z
  words_there s u z h =
      let p = then_took (one (exactly (codes "plan")) s) _ h in
      let q = then_took (one (the_number 1) p.at) _ p.second in
      let a = one_there (exactly (codes "plan")) s p.first in
      let b = one_there (the_number 1) p.at q.first in
      let c = one_there (the_letter f.letter) q.at q.second in
      let first : StandsAt s (codes "plan" ∷ []) p.at = subst (λ w. StandsAt s (w ∷ []) p.at) (exactly_only (codes "plan") a.token a.reads) a.stands in
      let second : StandsAt p.at (codes "1" ∷ []) q.at = subst (λ w. StandsAt p.at (w ∷ []) q.at) ((the_digits 1 (omega arith)).only b.token _ b.reads).1 b.stands in
      let third : StandsAt q.at ((f.letter ∷ []) ∷ []) z = subst (λ w. StandsAt q.at (w ∷ []) z) (the_letter_only f.letter c.token c.reads) c.stands in
      (tt, tt, stands_join first (stands_join second third))

  words_back : (s : Scan) (u : Unit {0}) (z : Scan) → Unit {0} → StandsAt s (first_tokens u) z → (l : Unit {0}) × (first_words s ≡ took l z) × (l ≡ u) × Unit {0}
  words_back s u z _ st =
      let a = one_back (exactly (codes "plan")) {x = tt} refl st in
      let b = one_back (the_number 1) {x = tt} ((the_digits 1 (omega arith)).back tt tt) a.left in
      let c = one_back (the_letter f.letter) readable.letter_reads b.left in
      let whole_is : first_words s ≡ took tt z = rw (a.takes, b.takes) (c.takes ∙ ap (took tt) (stands_end c.left)) in
      (tt, whole_is, refl, tt)

  words_form : (s : Scan) → ByForm s.number (first_words s)
  words_form s =
      by_form_then s.number (one (exactly (codes "plan")) s) _ (by_form_one (exactly (codes "plan")) s) (λ _ z.
      by_form_then z.number (one (the_number 1) z) _ (by_form_one (the_number 1) z) (λ _ y. by_form_one (the_letter f.letter) y))

  abbrev opening_whole : Scan → Taken (Unit {0})
  opening_whole s = then (first_words s) (λ l y. then (close y) (λ _ x. taken (Ok l) x))

  opening_is : (s : Scan) → opening_whole s ≡ opening f s
  opening_is s = go (one (exactly (codes "plan")) s)
    where
      third : (t : Taken (Unit {0})) → then t (λ l y. then (close y) (λ _ x. taken (Ok l) x)) ≡ then t (λ _ x. close x)
      third (took tt y) = then_took_unit (close y)
      third (refused r) = refl

      second : (t : Taken (Unit {0})) → then (then t (λ _ y. one (the_letter f.letter) y)) (λ l y. then (close y) (λ _ x. taken (Ok l) x))
          ≡ then t (λ _ y. then (one (the_letter f.letter) y) (λ _ x. close x))
      second (took tt y) = third (one (the_letter f.letter) y)
      second (refused r) = refl

      go : (t : Taken (Unit {0})) → then (then t (λ _ z. then (one (the_number 1) z) (λ _ y. one (the_letter f.letter) y))) (λ l y. then (close y) (λ _ x. taken (Ok l) x))
          ≡ then t (λ _ z. then (one (the_number 1) z) (λ _ y. then (one (the_letter f.letter) y) (λ _ x. close x)))
      go (took tt z) = second (one (the_number 1) z)
      go (refused r) = refl

  abbrev pub none_wrong : Unit {0} → Option Cause
  none_wrong _ = None

  abbrev pub any_formed : Unit {0} → Type 0
  any_formed _ = Unit {0}

  pub opening_reads : (s : Scan) → ReadsAt (λ u. u) any_formed first_tokens none_wrong s (opening f s)
  opening_reads s =
      subst (ReadsAt (λ u. u) any_formed first_tokens none_wrong s) (opening_is s)
      (whole_reads (λ u. u) any_formed first_tokens none_wrong first_words (λ u. u) (λ _ _. Unit {0}) (λ l. Ok l) words_form words_there words_back s (λ l _. record { settles = refl }))
