-- A scan of one word, byte by byte, is one token of the cut line.
use Rattle.std.proofs.Common.{◌≡◌, ℕ, suc, ◌+◌, ◌-◌, ◌<◌, ◌≤◌, Bool, true, false, not, eqb, leb, List, [], ◌∷◌, ◌++◌, length, get_or, take, drop, sym, refl, ap, ◌∙◌, subst, ⊎_elim, add-zero, add-one, arith}
use Rattle.std.specs.List.{position_or_len}
use Rattle.std.proofs.lemmas.List.{length-drop, get_or-take, get_or-drop, take-append-drop, drop-drop, drop_more, drop_all}
use Rattle.std.proofs.lemmas.List.Folds.{length-prefix_len}
use Rattle.std.proofs.lemmas.List.Sums.{fails_before_first, passes_at_first}
use Rattle.std.proofs.lemmas.Bool.{or_parts, or_cases, eq-eqb, eqb-true, le-leb, lt-leb}
use Rattle.text.specs.declared.tokens.Ahead.{Ahead}
use Rattle.text.specs.declared.tokens.Ahead.TheVariants.{Token, LineEnd}
use Rattle.text.specs.declared.tokens.Tokens.{Tokens}
use Rattle.text.specs.Ahead.{place_of, is_token}
use Rattle.text.specs.Cut.{Piece, longer, cut, space, line_feed, separates, NoSeparator}
use Rattle.text.specs.Scan.{Scan, enter, place, position, took, refused, broken, close, over, over_at}
use Rattle.text.specs.Readers.{is_nil}
use Rattle.text.specs.Cursor.{scan_of, scan_at}
use Rattle.text.specs.Meaning.{before}

-- a cursor stands where what comes next in it does
pub cursor_at : (t : Tokens) (a : Ahead) → t.ahead ≡ a → scan_of t ≡ scan_at (is_token a) t.line (cut line_feed (place_of a) (drop (place_of a) t.text.now))
cursor_at t a e = ap (λ (b : Ahead). scan_at (is_token b) t.line (cut line_feed (place_of b) (drop (place_of b) t.text.now))) e

abbrev pub piece : ℕ → List ℕ → Piece
piece at bs = record { place = at; bytes = bs }

-- a cut has a first piece, where it begins
pub record First (separator at : ℕ) (bytes : List ℕ) : Type 0 where
  pub head : List ℕ
  pub rest : List Piece
  pub is : cut separator at bytes ≡ piece at head ∷ rest

pub first : (separator at : ℕ) (bytes : List ℕ) → First separator at bytes
first separator at [] = record { head = []; rest = []; is = refl }
first separator at (b ∷ bs) = go (eqb b separator) refl (first separator (suc at) bs)
  where
    go : (t : Bool) → eqb b separator ≡ t → First separator (suc at) bs → First separator at (b ∷ bs)
    go true e f = record { head = []; rest = cut separator (suc at) bs; is = rw e }
    go false e f = record { head = b ∷ f.head; rest = f.rest; is = rw (e, f.is) }

-- a byte that does not separate makes the first token longer
longer_token : (n at b : ℕ) (bs w : List ℕ) (z : Scan) → separates b ≡ false
    → scan_at true n (cut line_feed (suc at) bs) ≡ before z (piece (suc at) w) → scan_at true n (cut line_feed at (b ∷ bs)) ≡ before z (piece at (b ∷ w))
longer_token n at b bs w z s h =
    let f = first line_feed (suc at) bs in
    let p = or_parts (eqb b space) (eqb b line_feed) s in
    let e = rw f.is at h in
    let tokens : cut space at (b ∷ f.head) ≡ piece at (b ∷ w) ∷ z.tokens = rw p.0 (ap (λ (y : Scan). longer at b y.tokens) e) in
    let end : at + length (b ∷ f.head) ≡ z.end = omega (arith, ap (λ (y : Scan). y.end) e) in
    rw (p.1, f.is) (λ i. record { number = (e i).number; tokens = tokens i; end = end i; below = (e i).below })

moved : (a n : ℕ) → a + suc n ≡ suc a + n
moved a n = omega arith

-- a token up to a space: the next token is due after it
pub word_space : (n at : ℕ) (w bs : List ℕ) → NoSeparator w
    → scan_at true n (cut line_feed at (w ++ space ∷ bs)) ≡ before (scan_at true n (cut line_feed (suc (at + length w)) bs)) (piece at w)
word_space n at [] bs s =
    let f = first line_feed (suc at) bs in
    rw (add-zero at, f.is) (λ i. record { number = n; tokens = piece at [] ∷ cut space (suc at) f.head; end = end f i; below = f.rest })
  where
    end : (f : First line_feed (suc at) bs) → at + length (space ∷ f.head) ≡ suc at + length f.head
    end f = omega arith
word_space n at (b ∷ w) bs s =
    longer_token n at b (w ++ space ∷ bs) w _ s.0
    (rw (moved at (length w)) (word_space n (suc at) w bs s.1))

-- where no space comes next, the line ends after the token
abbrev pub LineStops : List ℕ → Type 0
LineStops [] = Unit {0}
LineStops (b ∷ bs) = b ≡ line_feed

pub word_stops : (n at : ℕ) (w bs : List ℕ) → NoSeparator w → LineStops bs
    → scan_at true n (cut line_feed at (w ++ bs)) ≡ before (scan_at false n (cut line_feed (at + length w) bs)) (piece at w)
word_stops n at [] [] s t = simp add-zero
word_stops n at [] (b ∷ bs) s t = rw (eq-eqb b line_feed t) (simp add-zero)
word_stops n at (b ∷ w) bs s t =
    longer_token n at b (w ++ bs) w _ s.0
    (rw (moved at (length w)) (word_stops n (suc at) w bs s.1 t))

no_separator_in : (bs : List ℕ) → ((k : ℕ) → k < length bs → separates (get_or bs k 0) ≡ false) → NoSeparator bs
no_separator_in [] h = tt
no_separator_in (b ∷ bs) h = (h 0 (omega arith), no_separator_in bs (λ k l. h (suc k) (omega arith)))

stopped : (bs : List ℕ) → (0 < length bs → get_or bs 0 0 ≡ line_feed) → LineStops bs
stopped [] h = tt
stopped (b ∷ bs) h = h (omega arith)

-- where a text's line ends at `at`, no space comes next
stops_at : (at : ℕ) (text : List ℕ) → (at < length text → get_or text at 0 ≡ line_feed) → LineStops (drop at text)
stops_at at text h = stopped (drop at text) (λ l. get_or-drop at text 0 0 ∙ ap (λ (i : ℕ). get_or text i 0) (add-zero at) ∙ h (omega (arith, length-drop at text)))

-- what separates and is no space is a line feed
pub feeds : (b : ℕ) → separates b ≡ true → (b ≡ space → ⊥) → b ≡ line_feed
feeds b s other = ⊎_elim (λ e. absurd (other (eqb-true b space e))) (eqb-true b line_feed) (or_cases (eqb b space) (eqb b line_feed) s)

-- the word before the first byte that separates, from `at` on
module _ (at : ℕ) (text : List ℕ) where
  abbrev pub count : ℕ
  count = position_or_len separates (drop at text)

  abbrev pub found : List ℕ
  found = take count (drop at text)

  found_length : length found ≡ count
  found_length = length-prefix_len (λ b. not (separates b)) (drop at text)

  found_plain : NoSeparator found
  found_plain =
      no_separator_in found (λ k h.
      let l : k < count = omega (arith, found_length) in
      ap separates (get_or-take count (drop at text) k 0 l) ∙ fails_before_first separates (drop at text) k 0 l)

  found_rest : drop at text ≡ found ++ drop (at + count) text
  found_rest = sym (take-append-drop count (drop at text)) ∙ ap (λ (l : List ℕ). found ++ l) (drop-drop count at text)

  pub found_space : (n : ℕ) → at + count < length text → get_or text (at + count) 0 ≡ space
      → scan_at true n (cut line_feed at (drop at text)) ≡ before (scan_at true n (cut line_feed (at + count + 1) (drop (at + count + 1) text))) (piece at found)
  found_space n l h =
      let s : suc (at + length found) ≡ at + count + 1 = omega (arith, found_length) in
      ap (λ (bs : List ℕ). scan_at true n (cut line_feed at bs))
      (found_rest ∙ ap (λ (bs : List ℕ). found ++ bs) (drop_more text (at + count) 0 l ∙ ap (λ (b : ℕ). b ∷ drop (at + count + 1) text) h))
      ∙ word_space n at found (drop (at + count + 1) text) found_plain
      ∙ ap (λ (i : ℕ). before (scan_at true n (cut line_feed i (drop (at + count + 1) text))) (piece at found)) s

  line_ends : at + count < length text → (get_or text (at + count) 0 ≡ space → ⊥) → get_or text (at + count) 0 ≡ line_feed
  line_ends l other =
      let inside : count < length (drop at text) = omega (arith, length-drop at text, l) in
      let ends : separates (get_or text (at + count) 0) ≡ true =
      ap separates (sym (get_or-drop at text count 0)) ∙ passes_at_first separates (drop at text) 0 inside in
      feeds _ ends other

  pub found_end : (n : ℕ) → (at + count < length text → get_or text (at + count) 0 ≡ space → ⊥)
      → scan_at true n (cut line_feed at (drop at text)) ≡ before (scan_at false n (cut line_feed (at + count) (drop (at + count) text))) (piece at found)
  found_end n h =
      ap (λ (bs : List ℕ). scan_at true n (cut line_feed at bs)) found_rest
      ∙ word_stops n at found (drop (at + count) text) found_plain (stops_at (at + count) text (λ l. line_ends l (h l)))
      ∙ ap (λ (i : ℕ). before (scan_at false n (cut line_feed (at + i) (drop (at + count) text))) (piece at found)) found_length

  -- such a word, and the bytes after it
  module _ (w after : List ℕ) (is : w ≡ found) (rest : after ≡ drop (at + count) text) where
    pub word_length : length w ≡ count
    word_length = ap length is ∙ found_length

    pub after_length : length after ≡ length text - (at + count)
    after_length = ap length rest ∙ length-drop (at + count) text

    first_after : get_or after 0 0 ≡ get_or text (at + count) 0
    first_after = rw rest (get_or-drop (at + count) text 0 0 ∙ ap (λ (i : ℕ). get_or text i 0) (add-zero (at + count)))

    pub next_space : (n : ℕ) → 0 < length after → get_or after 0 0 ≡ space
        → scan_at true n (cut line_feed at (drop at text)) ≡ before (scan_at true n (cut line_feed (at + length w + 1) (drop (at + length w + 1) text))) (piece at w)
    next_space n l h = rw (word_length, is) (found_space n (omega (arith, after_length)) (sym first_after ∙ h))

    no_space : (0 < length after → get_or after 0 0 ≡ space → ⊥) → at + count < length text → get_or text (at + count) 0 ≡ space → ⊥
    no_space other l h = other (omega (arith, after_length)) (first_after ∙ h)

    pub next_end : (n : ℕ) → (0 < length after → get_or after 0 0 ≡ space → ⊥)
        → scan_at true n (cut line_feed at (drop at text)) ≡ before (scan_at false n (cut line_feed (at + length w) (drop (at + length w) text))) (piece at w)
    next_end n other = rw (word_length, is) (found_end n (no_space other))

    pub feed_after : (0 < length after → get_or after 0 0 ≡ space → ⊥) → at + length w < length text → get_or text (at + length w) 0 ≡ line_feed
    feed_after other l = rw word_length (line_ends (omega (arith, word_length)) (no_space other (omega (arith, word_length))))

-- where the cursor stands is where the scan does
pub place_is : (due : Bool) (n at : ℕ) (bs : List ℕ) → (due ≡ false → LineStops bs) → place (scan_at due n (cut line_feed at bs)) ≡ at
place_is true n at bs h =
    let f = first line_feed at bs in
    rw (f.is, (first space at f.head).is)
place_is false n at [] h = add-zero at
place_is false n at (b ∷ bs) h = rw (eq-eqb b line_feed (h refl)) (add-zero at)

pub place_here : (due : Bool) (n at : ℕ) (text : List ℕ) → (due ≡ false → at < length text → get_or text at 0 ≡ line_feed) → place (scan_at due n (cut line_feed at (drop at text))) ≡ at
place_here due n at text h = place_is due n at (drop at text) (λ e. stops_at at text (h e))

pub number_is : (due : Bool) (n at : ℕ) (bs : List ℕ) → (scan_at due n (cut line_feed at bs)).number ≡ n
number_is true n at bs = rw (first line_feed at bs).is
number_is false n at bs = rw (first line_feed at bs).is

-- a cursor's position
pub cursor_position : (t : Tokens) → record { line = t.line; place = place_of t.ahead } ≡ position (scan_of t)
cursor_position t =
    let due = is_token t.ahead in
    let at = place_of t.ahead in
    λ i. record { line = sym (number_is due t.line at (drop at t.text.now)) i; place = sym (place_here due t.line at t.text.now t.over) i }

-- before its last token a line does not end
pub close_due : (n at : ℕ) (bs : List ℕ) → close (scan_at true n (cut line_feed at bs)) ≡ refused (broken (scan_at true n (cut line_feed at bs)))
close_due n at bs =
    let f = first line_feed at bs in
    rw (f.is, (first space at f.head).is)

-- nor where no line feed stands
pub close_past : (n at : ℕ) → close (scan_at false n (cut line_feed at [])) ≡ refused (broken (scan_at false n (cut line_feed at [])))
close_past n at = refl

pub close_feed : (n at : ℕ) (bs : List ℕ) → close (scan_at false n (cut line_feed at (line_feed ∷ bs))) ≡ took tt (scan_at true (suc n) (cut line_feed (suc at) bs))
close_feed n at bs = rw (first line_feed (suc at) bs).is

-- an empty rest is told by its one empty token
pub over_is : (n at : ℕ) (bs : List ℕ) → over (scan_at true n (cut line_feed at bs)) ≡ is_nil bs
over_is n at [] = refl
over_is n at (b ∷ bs) = ends (eqb b line_feed) refl
  where
    f : First line_feed (suc at) bs
    f = first line_feed (suc at) bs

    g : First space (suc at) f.head
    g = first space (suc at) f.head

    spaced : (t : Bool) → eqb b space ≡ t → over (enter n (piece at (b ∷ f.head)) f.rest) ≡ false
    spaced true e = rw (e, g.is)
    spaced false e = rw (e, g.is) (longest g.rest f.rest)
      where
        longest : (ts ls : List Piece) → over_at (piece at (b ∷ g.head) ∷ ts) ls ≡ false
        longest [] [] = refl
        longest [] (l ∷ ls) = refl
        longest (t ∷ ts) ls = refl

    ends : (t : Bool) → eqb b line_feed ≡ t → over (scan_at true n (cut line_feed at (b ∷ bs))) ≡ false
    ends true e = rw (e, f.is)
    ends false e = rw (e, f.is) (spaced (eqb b space) refl)

past_end : (text : List ℕ) (at : ℕ) → leb (length text) at ≡ is_nil (drop at text)
past_end text at = go (drop at text) (length-drop at text)
  where
    go : (bs : List ℕ) → length bs ≡ length text - at → leb (length text) at ≡ is_nil bs
    go [] h = le-leb (length text) at (omega arith)
    go (b ∷ bs) h = lt-leb (length text) at (omega arith)

-- at a token, a cursor's text is over where nothing is left of it
pub cursor_over : (t : Tokens) (at : ℕ) → t.ahead ≡ Token at → leb (length t.text.now) at ≡ over (scan_of t)
cursor_over t at e = past_end t.text.now at ∙ sym (ap over (cursor_at t (Token at) e) ∙ over_is t.line at (drop at t.text.now))

-- past its last token, a cursor's line ends where a line feed stands
pub cursor_closes : (t : Tokens) → (e : ℕ) → t.ahead ≡ LineEnd e → e < length t.text.now
    → took tt (scan_at true (t.line + 1) (cut line_feed (e + 1) (drop (e + 1) t.text.now))) ≡ close (scan_of t)
cursor_closes t e is l =
    let over = rw is at t.over in
    let bytes : drop e t.text.now ≡ line_feed ∷ drop (e + 1) t.text.now =
    drop_more t.text.now e 0 l ∙ ap (λ (b : ℕ). b ∷ drop (e + 1) t.text.now) (over refl l) in
    sym (ap close (cursor_at t (LineEnd e) is)
    ∙ ap (λ (bs : List ℕ). close (scan_at false t.line (cut line_feed e bs))) bytes
    ∙ close_feed t.line e (drop (e + 1) t.text.now)
    ∙ rw (← add-one t.line, ← add-one e))

-- and is refused where nothing is left, or a token is
pub cursor_past : (t : Tokens) (e : ℕ) → t.ahead ≡ LineEnd e → length t.text.now ≤ e → refused (broken (scan_of t)) ≡ close (scan_of t)
cursor_past t e is l =
    let here = cursor_at t (LineEnd e) is ∙ ap (λ (bs : List ℕ). scan_at false t.line (cut line_feed e bs)) (drop_all e t.text.now l) in
    subst (λ (s : Scan). refused (broken s) ≡ close s) (sym here) (sym (close_past t.line e))

pub cursor_due : (t : Tokens) (at : ℕ) → t.ahead ≡ Token at → refused (broken (scan_of t)) ≡ close (scan_of t)
cursor_due t at is =
    subst (λ (s : Scan). refused (broken s) ≡ close s) (sym (cursor_at t (Token at) is)) (sym (close_due t.line at (drop at t.text.now)))
