-- Reading is the inverse of spelling: of one word, and field by field of a format.
use Rattle.std.proofs.Common.{◌≡◌, ℕ, zero, suc, ◌+◌, ◌^◌, ◌<◌, ◌≤◌, Bool, true, false, cond, not, ◌&&◌, ◌||◌, eqb, leb, List, [], ◌∷◌, length, get_or, ℤ, pos, negsuc, Some, None, codes, decimal, Option, sym, refl, ap, ◌∙◌, subst, arith, w32, SFits, rules}
use Rattle.std.specs.Fmt.{signed_decimal}
use Rattle.std.proofs.lemmas.Fmt.{decimal_digit, decimal_nonempty, first_decimal, digits_decimal, digits_value-decimal, decimal-digits_value}
use Rattle.std.proofs.lemmas.Str.Parse.{IsNumeralModel, numerals_by_fold}
use Rattle.std.proofs.lemmas.Bool.{and_parts, le-leb, leb-true, eqb-true, ne_eqb, eq-eqb, false≢true}
use Rattle.std.proofs.lemmas.Bool.Decides.{nat_tests}
use Rattle.text.specs.Cut.{separates, NoSeparator}
use Rattle.text.specs.Scan.{Scan, took}
use Rattle.text.specs.Grammar.{Grammar, done, field, unused, take, Format, StandsAt, Unbroken, Readable}
use Rattle.text.specs.Readers.{minus, is_digit, all_digits, plain, value_from, value, natural, not_below_zero, below_zero, signed_word, is_text, letter, meant, lettered, if_same, the_number}
use Rattle.text.proofs.Values.{natural_within}
use Rattle.text.proofs.Grammars.{bound, spells, taken_spelled, spelled_taken}

-- f reads just the tokens of the proper values, and no cut breaks them
pub record Reads {Y : Type 0} (f : List ℕ → Option Y) (Proper : Y → Type 0) (word : Y → List ℕ) : Type 0 where
  pub only : (w : List ℕ) (y : Y) → f w ≡ Some y → Proper y × (w ≡ word y)
  pub back : (y : Y) → Proper y → f (word y) ≡ Some y
  pub clear : (y : Y) → Proper y → NoSeparator (word y)

some_same : {Y : Type 0} {x y : Y} → Some x ≡ Some y → x ≡ y
some_same e = cc

cond_some : {Y : Type 0} (t : Bool) {x y : Y} → cond t (Some x) None ≡ Some y → (t ≡ true) × (x ≡ y)
cond_some true e = (refl, some_same e)
cond_some false e = cc

-- C holds of all tokens that g reads, with their value
pub record Only {X : Type 0} (g : Grammar X) (C : List (List ℕ) → X → Type 0) : Type 0 where
  pub holds : (ws : List (List ℕ)) (x : X) → spells g ws ≡ Some x → C ws x

-- g reads x from the tokens, and no cut breaks them
pub record Gives {X : Type 0} (g : Grammar X) (ws : List (List ℕ)) (x : X) : Type 0 where
  pub read : spells g ws ≡ Some x
  pub unbroken : Unbroken ws

module _ {X : Type 0} where
  pub only_done : {x : X} {C : List (List ℕ) → X → Type 0} → C [] x → Only (done x) C
  only_done {x} {C} c = record { holds = go }
    where
      go : (ws : List (List ℕ)) (y : X) → spells (done x) ws ≡ Some y → C ws y
      go [] y e = subst (C []) (some_same e) c
      go (w ∷ ws) y e = cc

  pub gives_done : {x : X} → Gives (done x) [] x
  gives_done = record { read = refl; unbroken = tt }

  module _ {Y : Type 0} {f : List ℕ → Option Y} {Proper : Y → Type 0} {word : Y → List ℕ} (r : Reads f Proper word) {go : Y → Grammar X} where
    pub only_field : {C : List (List ℕ) → X → Type 0} → ((y : Y) → Proper y → Only (go y) (λ ws. C (word y ∷ ws))) → Only (field f go) C
    only_field {C} h = record { holds = split }
      where
        first : (w : List ℕ) (ws : List (List ℕ)) (x : X) (o : Option Y) → f w ≡ o → bound o (λ y. spells (go y) ws) ≡ Some x → C (w ∷ ws) x
        first w ws x None q e = cc
        first w ws x (Some y) q e =
            let (p, same) = r.only w y q in
            subst (λ v. C (v ∷ ws) x) (sym same) ((h y p).holds ws x e)

        split : (ws : List (List ℕ)) (x : X) → spells (field f go) ws ≡ Some x → C ws x
        split [] x e = cc
        split (w ∷ ws) x e = first w ws x (f w) refl e

    pub gives_field : {y : Y} {ws : List (List ℕ)} {x : X} → Proper y → Gives (go y) ws x → Gives (field f go) (word y ∷ ws) x
    gives_field {y} {ws} p g = record { read = ap (λ o. bound o (λ y. spells (go y) ws)) (r.back y p) ∙ g.read; unbroken = (r.clear y p, g.unbroken) }

  pub readable : (f : Format X) → Only f.grammar (λ ws x. f.Proper x × (ws ≡ f.spelled x)) → ((x : X) → f.Proper x → Gives f.grammar (f.spelled x) x) → Readable f
  readable f only gives = record { inverse = λ s z x. (there s z x, back s z x); unbroken = λ x p. (gives x p).unbroken }
    where
      there : (s z : Scan) (x : X) → take f.grammar s ≡ took x z → f.Proper x × StandsAt s (f.spelled x) z
      there s z x e =
          let t = taken_spelled f.grammar s z x e in
          let o = only.holds t.tokens x t.spell in
          (o.0, subst (λ ws. StandsAt s ws z) o.1 t.stand)

      back : (s z : Scan) (x : X) → f.Proper x × StandsAt s (f.spelled x) z → take f.grammar s ≡ took x z
      back s z x h = spelled_taken f.grammar s z x (f.spelled x) (gives x h.0).read h.1

-- the digits of a token, as the library speaks of them
own : IsNumeralModel (λ ds. all_digits ds ≡ true) value
own = numerals_by_fold _ (search rules) value_from (search rules)

digits_clear : (ds : List ℕ) → all_digits ds ≡ true → NoSeparator ds
digits_clear [] a = tt
digits_clear (c ∷ cs) a =
    let (d, more) = and_parts (is_digit c) (all_digits cs) a in
    (grind (arith, nat_tests), digits_clear cs more)

-- no leading zero
decimal_lead : (n : ℕ) → n < 2 ^ 64 → get_or (decimal n) 0 0 ≡ 48 → 1 < length (decimal n) → ⊥
decimal_lead zero h e long = omega (arith, ap length (decimal_digit 0 (omega arith)))
decimal_lead (suc n) h e long = omega (arith, first_decimal (suc n) (omega arith) h)

plain_parts : (w : List ℕ) → plain w ≡ true → (all_digits w ≡ true) × (0 < length w) × (get_or w 0 0 ≡ 48 → length w ≡ 1)
plain_parts [] p = absurd (false≢true p)
plain_parts (c ∷ []) p = ((and_parts (all_digits (c ∷ [])) _ p).0, omega arith, λ _. refl)
plain_parts (c ∷ d ∷ cs) p =
    let (a, l) = and_parts (all_digits (c ∷ d ∷ cs)) (not (eqb c 48) || false) p in
    (a, omega arith, λ e. absurd (grind (arith, nat_tests)))

module _ (most : ℕ) (small : most < 2 ^ 64) where
  natural_only : (w : List ℕ) (n : ℕ) → natural most w ≡ Some n → (n ≤ most) × (w ≡ decimal n)
  natural_only w n e =
      let (t, v) = cond_some (plain w && leb (value w) most) e in
      let (p, l) = and_parts (plain w) (leb (value w) most) t in
      let (a, some, lead) = plain_parts w p in
      let h = leb-true (value w) most l in
      (omega arith, sym (decimal-digits_value own w a some lead (omega arith)) ∙ ap decimal v)

  natural_back : (n : ℕ) → n ≤ most → natural most (decimal n) ≡ Some n
  natural_back n h =
      let fits : n < 2 ^ 64 = omega arith in
      natural_within most (decimal n) (decimal_nonempty n fits) (decimal_lead n fits)
      ∙ rw (digits_decimal own n fits, digits_value-decimal own n fits, le-leb n most h)

  pub naturals : Reads (natural most) (λ n. n ≤ most) decimal
  naturals = record { only = natural_only; back = natural_back; clear = λ n h. digits_clear (decimal n) (digits_decimal own n (omega arith)) }

-- digits have no minus sign in front
signed_digits : (ds : List ℕ) → all_digits ds ≡ true → 0 < length ds → signed_word ds ≡ not_below_zero (natural 2147483647 ds)
signed_digits [] a h = absurd (omega arith)
signed_digits (c ∷ cs) a h =
    let d = (and_parts (is_digit c) (all_digits cs) a).0 in
    let other : eqb c minus ≡ false = grind (arith, nat_tests) in
    rw other

below_suc : (n : ℕ) → below_zero (Some (suc n)) ≡ Some (negsuc n)
below_suc n = rw (ne_eqb (suc n) 0 (omega arith))

signed_only : (w : List ℕ) (z : ℤ) → signed_word w ≡ Some z → SFits w32 z × (w ≡ signed_decimal z)
signed_only [] z e = cc
signed_only (c ∷ cs) z e = go (eqb c minus) refl e
  where
    above : (o : Option ℕ) → natural 2147483647 (c ∷ cs) ≡ o → not_below_zero o ≡ Some z → SFits w32 z × (c ∷ cs ≡ signed_decimal z)
    above None q e = cc
    above (Some n) q e =
        let (h, same) = natural_only 2147483647 (omega arith) (c ∷ cs) n q in
        subst (λ z. SFits w32 z × (c ∷ cs ≡ signed_decimal z)) (some_same e) (record { sfits = omega arith }, same)

    below : (o : Option ℕ) → c ≡ minus → natural 2147483648 cs ≡ o → below_zero o ≡ Some z → SFits w32 z × (c ∷ cs ≡ signed_decimal z)
    below None m q e = cc
    below (Some zero) m q e = cc
    below (Some (suc n)) m q e =
        let (h, same) = natural_only 2147483648 (omega arith) cs (suc n) q in
        subst (λ z. SFits w32 z × (c ∷ cs ≡ signed_decimal z)) (some_same (sym (below_suc n) ∙ e)) (record { sfits = omega arith }, cc)

    go : (t : Bool) → eqb c minus ≡ t → cond t (below_zero (natural 2147483648 cs)) (not_below_zero (natural 2147483647 (c ∷ cs))) ≡ Some z → SFits w32 z × (c ∷ cs ≡ signed_decimal z)
    go true m e = below (natural 2147483648 cs) (eqb-true c minus m) refl e
    go false m e = above (natural 2147483647 (c ∷ cs)) refl e

signed_back : (z : ℤ) → SFits w32 z → signed_word (signed_decimal z) ≡ Some z
signed_back (pos n) h =
    let fits : n < 2 ^ 64 = omega arith in
    signed_digits (decimal n) (digits_decimal own n fits) (decimal_nonempty n fits) ∙ ap not_below_zero (natural_back 2147483647 (omega arith) n (omega arith))
signed_back (negsuc n) h = ap below_zero (natural_back 2147483648 (omega arith) (suc n) (omega arith)) ∙ below_suc n

signed_clear : (z : ℤ) → SFits w32 z → NoSeparator (signed_decimal z)
signed_clear (pos n) h = digits_clear (decimal n) (digits_decimal own n (omega arith))
signed_clear (negsuc n) h = (refl, digits_clear (decimal (suc n)) (digits_decimal own (suc n) (omega arith)))

pub signeds : Reads signed_word (SFits w32) signed_decimal
signeds = record { only = signed_only; back = signed_back; clear = signed_clear }

-- v alone
pub the_numbers : (v : ℕ) → v < 2 ^ 64 → Reads (the_number v) (λ _. Unit {0}) (λ _. decimal v)
the_numbers v small =
    record {
      only = λ w _ e. (tt, only w (natural v w) refl e);
      back = λ _ _. ap (if_same v) (n.back v (omega arith)) ∙ rw (eq-eqb v v refl);
      clear = λ _ _. n.clear v (omega arith);
    }
  where
    n : Reads (natural v) (λ n. n ≤ v) decimal
    n = naturals v small

    only : (w : List ℕ) (o : Option ℕ) {u : Unit {0}} → natural v w ≡ o → if_same v o ≡ Some u → w ≡ decimal v
    only w None q e = cc
    only w (Some m) q e = (n.only w m q).1 ∙ ap decimal (eqb-true m v (cond_some (eqb m v) e).0)

-- a v of one digit
pub the_digits : (v : ℕ) → v < 10 → Reads (the_number v) (λ _. Unit {0}) (λ _. (48 + v) ∷ [])
the_digits v small = subst (λ w. Reads (the_number v) (λ _. Unit {0}) (λ _. w)) (decimal_digit v small) (the_numbers v (omega arith))

pub letter_only : (w : List ℕ) (c : ℕ) → letter w ≡ Some c → (is_text (c ∷ []) ≡ true) × (w ≡ c ∷ [])
letter_only [] c e = cc
letter_only (b ∷ []) c e =
    let (t, v) = cond_some (is_text (b ∷ [])) e in
    (ap (λ c. is_text (c ∷ [])) (sym v) ∙ t, ap (λ c. c ∷ []) v)
letter_only (b ∷ d ∷ cs) c e = cc

pub letter_back : (c : ℕ) → is_text (c ∷ []) ≡ true → letter (c ∷ []) ≡ Some c
letter_back c h = rw h

-- letters that stand for values, each for its own
pub record Letters {Y : Type 0} (f : ℕ → Option Y) (code : Y → ℕ) : Type 0 where
  pub only : (c : ℕ) (y : Y) → f c ≡ Some y → c ≡ code y
  pub each : (y : Y) → (f (code y) ≡ Some y) × (is_text (code y ∷ []) ≡ true) × (separates (code y) ≡ false)

pub letters : {Y : Type 0} (f : ℕ → Option Y) (code : Y → ℕ) → Letters f code → Reads (lettered f) (λ _. Unit {0}) (λ y. code y ∷ [])
letters {Y} f code l =
    record {
      only = λ w y e. (tt, only w y (letter w) refl e);
      back = λ y _. let (p, h, _) = l.each y in ap (meant f) (letter_back (code y) h) ∙ p;
      clear = λ y _. ((l.each y).2, tt);
    }
  where
    only : (w : List ℕ) (y : Y) (o : Option ℕ) → letter w ≡ o → meant f o ≡ Some y → w ≡ code y ∷ []
    only w y None q e = cc
    only w y (Some c) q e = (letter_only w c q).1 ∙ ap (λ c. c ∷ []) (l.only c y e)

zero_word : Reads (the_number 0) (λ _. Unit {0}) (λ _. codes "0")
zero_word = the_digits 0 (omega arith)

module _ {X : Type 0} {x : X} where
  pub only_unused : {C : List (List ℕ) → X → Type 0} → C (codes "0" ∷ []) x → Only (unused x) C
  only_unused h = only_field zero_word (λ _ _. only_done h)

  pub gives_unused : Gives (unused x) (codes "0" ∷ []) x
  gives_unused = gives_field zero_word tt gives_done
