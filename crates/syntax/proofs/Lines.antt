-- A line of a text, as its bytes and as the tokens that a scan finds there.
use Rattle.std.proofs.Common.{◌≡◌, ℕ, suc, ◌+◌, ◌≤◌, Bool, true, false, eqb, ◌⊎◌, List, [], ◌∷◌, ◌++◌, map, length, take, sym, refl, ap, ◌∙◌, subst, inl, inr, ⊎_elim, add-zero, arith}
use Rattle.std.specs.List.{flat_map, AllByRecursion}
use Rattle.std.proofs.lemmas.List.{append_assoc, append-nil, append_cancel_left, length-append}
use Rattle.std.proofs.lemmas.Bool.{eqb-true}
use Rattle.text.specs.Cut.{Piece, cut, space, line_feed}
use Rattle.text.specs.Grammar.{StandsAt, Unbroken}
use Rattle.text.specs.Cursor.{scan_at}
use Rattle.text.specs.Meaning.{before}
use Rattle.text.specs.Scan.{Scan, took, enter, close, close_at}
use Rattle.text.proofs.Cuts.{piece, First, first, word_space, word_stops, close_feed}
use Rattle.syntax.specs.Texts.{byte_after, line}

-- the start of line n, where bs are the bytes from the place `at` on
abbrev pub At : ℕ → ℕ → List ℕ → Scan
At n at bs = scan_at true n (cut line_feed at bs)

-- the line at s has just those tokens, and the next line starts at z
pub record LineAt (s : Scan) (ws : List (List ℕ)) (z : Scan) : Type 0 where
  pub end : Scan
  pub stands : StandsAt s ws end
  pub closes : close end ≡ took tt z

-- one token more in front
stands_before : (y : Scan) (t : Piece) {ws : List (List ℕ)} {z : Scan} → StandsAt y ws z → StandsAt (before y t) (t.bytes ∷ ws) z
stands_before y t h =
    record {
      front = t ∷ h.front;
      is = ap (λ l. t.bytes ∷ l) h.is;
      whole = λ i. before (h.whole i) t;
    }

line_before : {s y : Scan} (t : Piece) {ws : List (List ℕ)} {z : Scan} → s ≡ before y t → LineAt y ws z → LineAt s (t.bytes ∷ ws) z
line_before {y = y} t {ws} {z} e h = subst (λ a. LineAt a (t.bytes ∷ ws) z) (sym e) (record { end = h.end; stands = stands_before y t h.stands; closes = h.closes })

line_size : (w : List ℕ) (ws : List (List ℕ)) → length (line (w ∷ ws)) ≡ length w + suc (length (line ws))
line_size w ws = length-append w (byte_after ws ∷ line ws)

-- the bytes of a line are read as its tokens
pub line_back : (n at : ℕ) (w : List ℕ) (ws : List (List ℕ)) (rest : List ℕ) → Unbroken (w ∷ ws)
    → LineAt (At n at (line (w ∷ ws) ++ rest)) (w ∷ ws) (At (suc n) (at + length (line (w ∷ ws))) rest)
line_back n at w [] rest u =
    let size : suc (at + length w) ≡ at + length (line (w ∷ [])) = omega (arith, line_size w []) in
    let e = ap (At n at) (append_assoc w (line_feed ∷ []) rest) ∙ word_stops n at w (line_feed ∷ rest) u.0 refl in
    line_before (piece at w) e (record {
      end = scan_at false n (cut line_feed (at + length w) (line_feed ∷ rest));
      stands = record { front = []; is = refl; whole = refl };
      closes = close_feed n (at + length w) rest ∙ ap (λ i. took tt (At (suc n) i rest)) size;
    })
line_back n at w (v ∷ ws) rest u =
    let size : suc (at + length w) + length (line (v ∷ ws)) ≡ at + length (line (w ∷ v ∷ ws)) = omega (arith, line_size w (v ∷ ws)) in
    let e = ap (At n at) (append_assoc w (space ∷ line (v ∷ ws)) rest) ∙ word_space n at w (line (v ∷ ws) ++ rest) u.0 in
    line_before (piece at w) e
    (subst (λ i. LineAt (At n (suc (at + length w)) (line (v ∷ ws) ++ rest)) (v ∷ ws) (At (suc n) i rest)) size (line_back n (suc (at + length w)) v ws rest u.1))

-- a cut at the first separator
record CutAt (separator at : ℕ) (bytes : List ℕ) : Type 0 where
  head : List ℕ
  rest : List ℕ
  is : bytes ≡ head ++ separator ∷ rest
  pieces : cut separator at bytes ≡ piece at head ∷ cut separator (suc (at + length head)) rest

cut_cases : (separator at : ℕ) (bytes : List ℕ) → (cut separator at bytes ≡ piece at bytes ∷ []) ⊎ CutAt separator at bytes
cut_cases separator at [] = inl refl
cut_cases separator at (b ∷ bs) = go (eqb b separator) refl (cut_cases separator (suc at) bs)
  where
    moved : (n : ℕ) → suc (suc at + n) ≡ suc (at + suc n)
    moved n = omega arith

    go : (t : Bool) → eqb b separator ≡ t → (cut separator (suc at) bs ≡ piece (suc at) bs ∷ []) ⊎ CutAt separator (suc at) bs
        → (cut separator at (b ∷ bs) ≡ piece at (b ∷ bs) ∷ []) ⊎ CutAt separator at (b ∷ bs)
    go true e h = inr (record { head = []; rest = bs; is = ap (λ c. c ∷ bs) (eqb-true b separator e); pieces = rw (e, add-zero at) })
    go false e (inl h) = inl (rw (e, h))
    go false e (inr c) =
        inr (record {
          head = b ∷ c.head;
          rest = c.rest;
          is = ap (λ l. b ∷ l) c.is;
          pieces = rw (e, c.pieces) (ap (λ i. piece at (b ∷ c.head) ∷ cut separator i c.rest) (moved (length c.head)));
        })

-- the tokens of a line's bytes, put together again
cut_line : (at : ℕ) (bytes : List ℕ) → line (map (λ t. t.bytes) (cut space at bytes)) ≡ bytes ++ line_feed ∷ []
cut_line at [] = refl
cut_line at (b ∷ bs) = go (eqb b space) refl (first space (suc at) bs) (cut_line (suc at) bs)
  where
    go : (t : Bool) → eqb b space ≡ t → First space (suc at) bs → line (map (λ t. t.bytes) (cut space (suc at) bs)) ≡ bs ++ line_feed ∷ []
        → line (map (λ t. t.bytes) (cut space at (b ∷ bs))) ≡ b ∷ (bs ++ line_feed ∷ [])
    go true e f h = let same = eqb-true b space e in let p = rw f.is at h in rw (e, f.is) (λ i. sym same i ∷ p i)
    go false e f h = let p = rw f.is at h in rw (e, f.is) (ap (λ l. b ∷ l) p)

record Closed (s z : Scan) : Type 0 where
  none : s.tokens ≡ []
  line : Piece
  lines : List Piece
  below : s.below ≡ line ∷ lines
  next : z ≡ enter (suc s.number) line lines

close_parts : (s : Scan) {z : Scan} → close s ≡ took tt z → Closed s z
close_parts s {z} h = go s.tokens s.below refl refl h
  where
    go : (ts ls : List Piece) → s.tokens ≡ ts → s.below ≡ ls → close_at s ts ls ≡ took tt z → Closed s z
    go (t ∷ ts) ls p q e = cc
    go [] [] p q e = cc
    go [] (l ∷ ls) p q e = record { none = p; line = l; lines = ls; below = q; next = cc }

-- what follows a line of those tokens
pub record LineIn (n at : ℕ) (bytes : List ℕ) (ws : List (List ℕ)) (z : Scan) : Type 0 where
  pub rest : List ℕ
  pub is : bytes ≡ line ws ++ rest
  pub next : z ≡ At (suc n) (at + length (line ws)) rest

-- tokens that are read have the bytes of their line
pub line_there : (n at : ℕ) (bytes : List ℕ) {ws : List (List ℕ)} {z : Scan} → LineAt (At n at bytes) ws z → LineIn n at bytes ws z
line_there n at bytes {ws} {z} h = ⊎_elim alone split (cut_cases line_feed at bytes)
  where
    c : Closed h.end z
    c = close_parts h.end h.closes

    below : (At n at bytes).below ≡ c.line ∷ c.lines
    below = ap (λ (s : Scan). s.below) h.stands.whole ∙ c.below

    alone : cut line_feed at bytes ≡ piece at bytes ∷ [] → LineIn n at bytes ws z
    alone e = let f : ◌≡◌ {A = List Piece} [] (c.line ∷ c.lines) = rw e at below in cc

    split : CutAt line_feed at bytes → LineIn n at bytes ws z
    split d =
        let s = rw d.pieces at h.stands.whole in
        let front : cut space at d.head ≡ h.stands.front =
        ap (λ (a : Scan). a.tokens) s ∙ ap (λ l. h.stands.front ++ l) c.none ∙ append-nil h.stands.front in
        let bytes_of : line ws ≡ d.head ++ line_feed ∷ [] =
        ap line (sym h.stands.is) ∙ ap (λ l. line (map (λ t. t.bytes) l)) (sym front) ∙ cut_line at d.head in
        let number : n ≡ h.end.number = ap (λ (a : Scan). a.number) s in
        let more = rw d.pieces at below in
        let size : suc (at + length d.head) ≡ at + length (line ws) =
        omega (arith, ap length bytes_of, length-append d.head (line_feed ∷ [])) in
        record {
          rest = d.rest;
          is = d.is ∙ sym (append_assoc d.head (line_feed ∷ []) d.rest) ∙ ap (λ l. l ++ d.rest) (sym bytes_of);
          next = c.next ∙ ap (λ m. enter (suc m) c.line c.lines) (sym number) ∙ ap (scan_at true (suc n)) (sym more) ∙ ap (λ i. At (suc n) i d.rest) size;
        }

-- the tokens of a line are those of its scan
line_tokens : {s : Scan} {ws : List (List ℕ)} {z : Scan} → LineAt s ws z → map (λ t. t.bytes) s.tokens ≡ ws
line_tokens h =
    ap (λ (a : Scan). map (λ t. t.bytes) a.tokens) h.stands.whole
    ∙ ap (λ l. map (λ t. t.bytes) (h.stands.front ++ l)) (close_parts h.end h.closes).none
    ∙ ap (map (λ t. t.bytes)) (append-nil h.stands.front)
    ∙ h.stands.is

-- a line has a token, and no cut breaks any
abbrev pub LineUnbroken : List (List ℕ) → Type 0
LineUnbroken [] = ⊥
LineUnbroken (w ∷ ws) = Unbroken (w ∷ ws)

-- bytes begin with one line at most
line_same : (ws vs : List (List ℕ)) {x y : List ℕ} → LineUnbroken ws → LineUnbroken vs → line ws ++ x ≡ line vs ++ y → (ws ≡ vs) × (x ≡ y)
line_same [] vs u t e = absurd u
line_same (w ∷ ws) [] u t e = absurd t
line_same (w ∷ ws) (v ∷ vs) {x} {y} u t e =
    let same : w ∷ ws ≡ v ∷ vs =
    sym (line_tokens (line_back 0 0 w ws x u)) ∙ ap (λ bs. map (λ t. t.bytes) (At 0 0 bs).tokens) e ∙ line_tokens (line_back 0 0 v vs y t) in
    (same, append_cancel_left (line (v ∷ vs)) x y (ap (λ l. line l ++ x) (sym same) ∙ e))

pub record NextOf (ls lines : List (List (List ℕ))) (x y : List ℕ) : Type 0 where
  pub line_next : List (List ℕ)
  pub more : List (List (List ℕ))
  pub lines_are : lines ≡ ls ++ line_next ∷ more
  pub bytes_are : y ≡ line line_next ++ x

-- where bytes begin with the lines ls, and with one more of `lines`, those are the first of them
pub next_line : (ls lines : List (List (List ℕ))) {x y : List ℕ} → AllByRecursion LineUnbroken ls → AllByRecursion LineUnbroken lines → suc (length ls) ≤ length lines
    → flat_map line (take (suc (length ls)) lines) ++ x ≡ flat_map line ls ++ y → NextOf ls lines x y
next_line ls [] u t h e = absurd (omega arith)
next_line [] (v ∷ lines) {x} u t h e =
    record { line_next = v; more = lines; lines_are = refl; bytes_are = sym e ∙ ap (λ l. l ++ x) (append-nil (line v)) }
next_line (l ∷ ls) (v ∷ lines) {x} {y} u t h e =
    let same = line_same v l t.0 u.0 (sym (append_assoc (line v) _ x) ∙ e ∙ append_assoc (line l) (flat_map line ls) y) in
    let more = next_line ls lines u.1 t.1 (omega arith) same.1 in
    record {
      line_next = more.line_next;
      more = more.more;
      lines_are = λ i. same.0 i ∷ more.lines_are i;
      bytes_are = more.bytes_are;
    }
