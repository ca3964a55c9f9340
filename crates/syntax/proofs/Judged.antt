-- A line is read by its form, to its end, and then judged.
use Rattle.std.proofs.Common.{◌≡◌, ℕ, suc, ◌+◌, Bool, true, false, cond, ltb, ◌⊎◌, List, [], ◌∷◌, ◌++◌, length, Some, None, Ok, Err, Option, Result, sym, refl, ap, ◌∙◌, subst, inl, inr}
use Rattle.model.specs.declared.Cause.{Cause}
use Rattle.model.specs.declared.Cause.TheVariants.{Form, Name}
use Rattle.model.specs.declared.Refusal.{Refusal}
use Rattle.text.specs.Cut.{Piece}
use Rattle.text.specs.Grammar.{Grammar, done, field, take, StandsAt}
use Rattle.text.specs.Scan.{Scan, Taken, took, refused, taken, then, one, one_of, valued, close, close_at, broken, with_tokens}
use Rattle.text.specs.Readers.{natural}
use Rattle.lines.specs.declared.Named.{Named}
use Rattle.lines.specs.Lines.{named, numbered, within, at_name}
use Rattle.syntax.specs.Items.{and_then}
use Rattle.syntax.specs.Texts.{line}
use Rattle.syntax.proofs.Lines.{At, LineAt, LineIn, LineUnbroken, line_back, line_there}

-- what is wrong with a value, if anything: the first of two judgements
abbrev pub first_of : Option Cause → Option Cause → Option Cause
first_of None o = o
first_of (Some c) o = Some c

-- the cause, where the test fails
abbrev pub unless : Bool → Cause → Option Cause
unless true c = None
unless false c = Some c

-- a judgement of x, which stands on that line: accepted, or refused for that cause there
abbrev pub Settles : {X : Type 0} → ℕ → X → Option Cause → Result X Refusal → Type 0
Settles line x None t = t ≡ Ok x
Settles line x (Some c) t = (r : Refusal) × (t ≡ Err r) × (r.cause ≡ c) × (r.position.line ≡ line)

pub record Settled {X : Type 0} (line : ℕ) (x : X) (o : Option Cause) (t : Result X Refusal) : Type 0 where
  pub settles : Settles line x o t

-- one judgement after another
pub settled_then : {X Y : Type 0} {line : ℕ} {x : X} {y : Y} {o p : Option Cause} (t : Result X Refusal) (go : X → Result Y Refusal)
    → Settled line x o t → Settled line y p (go x) → Settled line y (first_of o p) (and_then t go)
settled_then {Y = Y} {line} {x} {y} {o} {p} t go h k = record { settles = by o h.settles }
  where
    by : (o : Option Cause) → Settles line x o t → Settles line y (first_of o p) (and_then t go)
    by None e = subst (λ u. Settles line y p (and_then u go)) (sym e) k.settles
    by (Some c) (r, e, is, at) = (r, ap (λ u. and_then u go) e, is, at)

-- a test, and then a judgement
pub settled_if : {X : Type 0} {line : ℕ} {x : X} {p : Option Cause} {t : Result X Refusal} (b : Bool) (c : Cause) (r : Refusal) → r.cause ≡ c → r.position.line ≡ line
    → Settled line x p t → Settled line x (first_of (unless b c) p) (cond b t (Err r))
settled_if true c r is at h = h
settled_if false c r is at h = record { settles = (r, refl, is, at) }

-- a test alone
pub settled_test : {X : Type 0} {line : ℕ} (x : X) (b : Bool) (c : Cause) (r : Refusal) → r.cause ≡ c → r.position.line ≡ line → Settled line x (unless b c) (cond b (Ok x) (Err r))
settled_test x true c r is at = record { settles = refl }
settled_test x false c r is at = record { settles = (r, refl, is, at) }

pub settled_within : {line : ℕ} (count : ℕ) (n : Named) → n.position.line ≡ line → Settled line n.number (unless (ltb n.number count) Name) (within count n)
settled_within count n at = settled_test n.number (ltb n.number count) Name (at_name Name n) refl at

-- refused by its form alone, on that line
abbrev pub ByForm : {X : Type 0} → ℕ → Taken X → Type 0
ByForm line (took x z) = z.number ≡ line
ByForm line (refused r) = (r.cause ≡ Form) × (r.position.line ≡ line)

pub by_form_then : {X Y : Type 0} (line : ℕ) (t : Taken X) (go : X → Scan → Taken Y) → ByForm line t → ((x : X) (z : Scan) → ByForm z.number (go x z)) → ByForm line (then t go)
by_form_then {Y = Y} line (took x z) go h k = subst (λ n. ByForm n (go x z)) h (k x z)
by_form_then line (refused r) go h k = h

by_form_valued : {X : Type 0} (s : Scan) (o : Option X) (ts : List Piece) → ByForm s.number (valued (broken s) o (with_tokens s ts))
by_form_valued s None ts = (refl, refl)
by_form_valued s (Some x) ts = refl

pub by_form_one : {X : Type 0} (f : List ℕ → Option X) (s : Scan) → ByForm s.number (one f s)
by_form_one f s = go s.tokens
  where
    go : (ts : List Piece) → ByForm s.number (one_of f s ts)
    go [] = (refl, refl)
    go (t ∷ ts) = by_form_valued s (f t.bytes) ts

pub by_form_take : {X : Type 0} (g : Grammar X) (s : Scan) → ByForm s.number (take g s)
by_form_take (done x) s = refl
by_form_take (field f go) s = by_form_then s.number (one f s) (λ y z. take (go y) z) (by_form_one f s) (λ y z. by_form_take (go y) z)

pub by_form_named : (s : Scan) → ByForm s.number (named s)
by_form_named s = by_form_then s.number (one (natural 65535) s) (λ n z. took (numbered s n) z) (by_form_one (natural 65535) s) (λ n z. refl)

-- the end of a line
abbrev pub Ends : Scan → Taken (Unit {0}) → Type 0
Ends s (took u z) = Unit {0}
Ends s (refused r) = (r.cause ≡ Form) × (r.position.line ≡ s.number)

pub close_ends : (s : Scan) → Ends s (close s)
close_ends s = go s.tokens s.below
  where
    go : (ts ls : List Piece) → Ends s (close_at s ts ls)
    go (t ∷ ts) ls = (refl, refl)
    go [] [] = (refl, refl)
    go [] (l ∷ ls) = tt

-- lines that spell values v by their tokens; `wrong` is what is to be refused of v
module _ {V X : Type 0} (make : V → X) (Formed : V → Type 0) (tokens : V → List (List ℕ)) (wrong : V → Option Cause) where
  -- a line of that form at s
  pub record FormedAt (s : Scan) (v : V) (z : Scan) : Type 0 where
    pub formed : Formed v
    pub line : LineAt s (tokens v) z

  -- a line of that form, refused for that cause
  pub record WrongAt (s : Scan) (c : Cause) : Type 0 where
    pub value : V
    pub next : Scan
    pub there : FormedAt s value next
    pub by : wrong value ≡ Some c

  pub record RightAt (s : Scan) (x : X) (z : Scan) : Type 0 where
    pub value : V
    pub is : x ≡ make value
    pub there : FormedAt s value z
    pub by : wrong value ≡ None

  -- what a taken or a refused line says of its tokens
  abbrev pub Outcome : Scan → Taken X → Type 0
  Outcome s (took x z) = RightAt s x z
  Outcome s (refused r) = (r.position.line ≡ s.number) × ((r.cause ≡ Form) ⊎ WrongAt s r.cause)

  -- what the tokens say of whether the line is taken
  abbrev pub Answers : V → Scan → Option Cause → Taken X → Type 0
  Answers v z None t = t ≡ took (make v) z
  Answers v z (Some c) t = (r : Refusal) × (t ≡ refused r) × (r.cause ≡ c)

  -- t is what comes of the line at s: both of these
  pub record ReadsAt (s : Scan) (t : Taken X) : Type 0 where
    pub there : Outcome s t
    pub back : (v : V) (z : Scan) → FormedAt s v z → Answers v z (wrong v) t

  -- a line of t, to its end, judged
  module _ {L : Type 0} (t : Scan → Taken L) (said : L → V) (On : ℕ → L → Type 0) (judge : L → Result X Refusal)
      (form : (s : Scan) → ByForm s.number (t s))
      (there : (s : Scan) (l : L) (z : Scan) → t s ≡ took l z → Formed (said l) × On s.number l × StandsAt s (tokens (said l)) z)
      (back : (s : Scan) (v : V) (z : Scan) → Formed v → StandsAt s (tokens v) z → (l : L) × (t s ≡ took l z) × (said l ≡ v) × On s.number l) where
    abbrev pub whole : Scan → Taken X
    whole s = then (t s) (λ l y. then (close y) (λ _ x. taken (judge l) x))

    module _ (s : Scan) (settles : (l : L) → On s.number l → Settled s.number (make (said l)) (wrong (said l)) (judge l)) where
      judged_there : (l : L) (z : Scan) → FormedAt s (said l) z → (o : Option Cause) → wrong (said l) ≡ o
          → Settles s.number (make (said l)) o (judge l) → Outcome s (taken (judge l) z)
      judged_there l z f None w h = subst (λ j. Outcome s (taken j z)) (sym h) (record { value = said l; is = refl; there = f; by = w })
      judged_there l z f (Some c) w (r, e, is, at) =
          subst (λ j. Outcome s (taken j z)) (sym e) (at, inr (record { value = said l; next = z; there = f; by = w ∙ ap Some (sym is) }))

      whole_there : Outcome s (whole s)
      whole_there = go (t s) refl (form s)
        where
          ended : (l : L) (y : Scan) → t s ≡ took l y → y.number ≡ s.number → (u : Taken (Unit {0})) → close y ≡ u → Ends y u → Outcome s (then u (λ _ x. taken (judge l) x))
          ended l y e n (took tt z) c h =
              let (f, on, st) = there s l y e in
              judged_there l z (record { formed = f; line = record { end = y; stands = st; closes = c } }) (wrong (said l)) refl (settles l on).settles
          ended l y e n (refused r) c h = (h.1 ∙ n, inl h.0)

          go : (u : Taken L) → t s ≡ u → ByForm s.number u → Outcome s (then u (λ l y. then (close y) (λ _ x. taken (judge l) x)))
          go (took l y) e n = ended l y e n (close y) refl (close_ends y)
          go (refused r) e h = (h.1, inl h.0)

      whole_back : (v : V) (z : Scan) → FormedAt s v z → Answers v z (wrong v) (whole s)
      whole_back v z h =
          let (l, e, is, on) = back s v h.line.end h.formed h.line.stands in
          let there_is : whole s ≡ taken (judge l) z = rw (e, h.line.closes) in
          subst (λ w. Answers v z (wrong v) w) (sym there_is)
          (subst (λ u. Answers u z (wrong u) (taken (judge l) z)) is (answered l (wrong (said l)) (settles l on).settles))
        where
          answered : (l : L) (o : Option Cause) → Settles s.number (make (said l)) o (judge l) → Answers (said l) z o (taken (judge l) z)
          answered l None e = ap (λ j. taken j z) e
          answered l (Some c) (r, e, is, at) = (r, ap (λ j. taken j z) e, is)

      pub whole_reads : ReadsAt s (whole s)
      whole_reads = record { there = whole_there; back = whole_back }

  -- the bytes of a line that was taken, and what follows them
  pub record TakenLine (n at : ℕ) (bytes : List ℕ) (x : X) (z : Scan) : Type 0 where
    pub value : V
    pub is : x ≡ make value
    pub formed : Formed value
    pub by : wrong value ≡ None
    pub line : LineIn n at bytes (tokens value) z

  pub taken_line : (n at : ℕ) (bytes : List ℕ) {t : Taken X} {x : X} {z : Scan} → ReadsAt (At n at bytes) t → t ≡ took x z → TakenLine n at bytes x z
  taken_line n at bytes {t} {x} {z} r e =
      let h : RightAt (At n at bytes) x z = subst (Outcome (At n at bytes)) e r.there in
      record { value = h.value; is = h.is; formed = h.there.formed; by = h.by; line = line_there n at bytes h.there.line }

  pub given_line : (n at : ℕ) (v : V) (rest : List ℕ) → LineUnbroken (tokens v) → Formed v
      → FormedAt (At n at (line (tokens v) ++ rest)) v (At (suc n) (at + length (line (tokens v))) rest)
  given_line n at v rest u h = record { formed = h; line = by (tokens v) u }
    where
      by : (ws : List (List ℕ)) → LineUnbroken ws → LineAt (At n at (line ws ++ rest)) ws (At (suc n) (at + length (line ws)) rest)
      by [] u = absurd u
      by (w ∷ ws) u = line_back n at w ws rest u

  -- a line with nothing wrong is taken
  pub right_line : (n at : ℕ) (v : V) (rest : List ℕ) {t : Taken X} → ReadsAt (At n at (line (tokens v) ++ rest)) t → LineUnbroken (tokens v) → Formed v → wrong v ≡ None
      → t ≡ took (make v) (At (suc n) (at + length (line (tokens v))) rest)
  right_line n at v rest {t} r u h right =
      subst (λ o. Answers v (At (suc n) (at + length (line (tokens v))) rest) o t) right (r.back v (At (suc n) (at + length (line (tokens v))) rest) (given_line n at v rest u h))
