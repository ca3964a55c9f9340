-- With the lemmas that only this function needs: the check does not find how a word that is cut off goes on.
use Rattle.std.proofs.Common.{◌≡◌, ℕ, ◌+◌, ◌-◌, ◌<◌, true, List, length, get_or, take, drop, sym, ap, ◌∙◌, arith}
use Rattle.std.specs.List.{position_or_len}
use Rattle.std.proofs.lemmas.List.{length-drop, drop-drop, take_all}
use Rattle.model.specs.declared.Position.{Position}
use Rattle.text.specs.declared.tokens.Ahead.{Ahead}
use Rattle.text.specs.declared.tokens.Ahead.TheVariants.{Token, LineEnd}
use Rattle.text.specs.Ahead.{place_of, is_token}
use Rattle.text.specs.Cut.{cut, space, line_feed, separates}
use Rattle.text.specs.Scan.{Scan, position}
use Rattle.text.specs.Cursor.{scan_of, scan_at}
use Rattle.text.specs.Meaning.{before}
use Rattle.text.proofs.Cuts.{cursor_at, piece, count, found, word_length, after_length, next_space, next_end, feed_after, place_here}
use Rattle.text.proofs.tokens.Tokens.next.Goals as goal
use Rattle.text.proofs.tokens.Tokens.next.Goals.{in-32, in_default-after, in_default-after-2}

-- where a cursor stands with what comes next there
abbrev standing : ℕ → List ℕ → Ahead → Scan
standing n text a = scan_at (is_token a) n (cut line_feed (place_of a) (drop (place_of a) text))

-- the rest of the text, the word that is cut off there, and the bytes after it
module _ (at k : ℕ) (text w after : List ℕ) (value : k ≡ position_or_len separates (take (length text - at) (drop at text)))
    (front : w ≡ take k (take (length text - at) (drop at text))) (back : after ≡ drop k (take (length text - at) (drop at text))) where
  whole : take (length text - at) (drop at text) ≡ drop at text
  whole = take_all (length text - at) (drop at text) (omega (arith, length-drop at text))

  counted : k ≡ count at text
  counted = value ∙ ap (position_or_len separates) whole

  word : w ≡ found at text
  word = front ∙ (λ i. take (counted i) (whole i))

  rest : after ≡ drop (at + count at text) text
  rest = back ∙ (λ i. drop (counted i) (whole i)) ∙ drop-drop (count at text) at text

  -- the cursor past that word
  module _ (n : ℕ) (a : Ahead) where
    due_next : a ≡ Token (at + length w + 1) → 0 < length after → get_or after 0 0 ≡ space
        → scan_at true n (cut line_feed at (drop at text)) ≡ before (standing n text a) (piece at w)
    due_next e l h = next_space at text w after word rest n l h ∙ ap (λ (b : Ahead). before (standing n text b) (piece at w)) (sym e)

    end_next : a ≡ LineEnd (at + length w) → (0 < length after → get_or after 0 0 ≡ space → ⊥)
        → scan_at true n (cut line_feed at (drop at text)) ≡ before (standing n text a) (piece at w)
    end_next e other = next_end at text w after word rest n other ∙ ap (λ (b : Ahead). before (standing n text b) (piece at w)) (sym e)

pub invariant_of-self : goal.invariant_of-self
invariant_of-self c =
    let t = c.args.self.now in
    let text = t.text.now in
    let at = c.in-Token.from in
    let v = c.token_length.ensures.value in
    let s = c.split_at.ensures in
    let is = word at _ text _ _ v s.front s.back in
    let after = rest at _ text _ _ v s.front s.back in
    let here : place_of t.ahead ≡ at = ap place_of c.in-Token.is in
    let long = word_length at text _ _ is after in
    let left = after_length at text _ _ is after in
    let fits = ap length is in
    elim c.if-after-lt1.branch [
      | in-32 w ↦ rw w.self-is (record { within = omega arith; counted = omega arith; over = λ e l. cc })
      | in_default-after w ↦ rw w.self-is (record { within = omega arith; counted = omega arith; over = λ e l. absurd (omega arith) })
      | in_default-after-2 w ↦
          rw w.self-is (record {
            within = omega arith;
            counted = omega arith;
            over = λ e l. feed_after at text _ _ is after (λ m h. omega arith) l;
          })
    ]

pub returns : goal.returns
returns c =
    let t = c.args.self.now in
    let text = t.text.now in
    let at = c.in-Token.from in
    let v = c.token_length.ensures.value in
    let s = c.split_at.ensures in
    let a = c.if-after-lt1.self in
    let here : scan_of t ≡ scan_at true t.line (cut line_feed at (drop at text)) = cursor_at t (Token at) c.in-Token.is in
    let stands : c.position-position.result ≡ position (scan_at true t.line (cut line_feed at (drop at text))) = c.position-position.ensures.value ∙ ap position here in
    let placed : c.position-position.result.place ≡ at = ap (λ (p : Position). p.place) stands ∙ place_here true t.line at text (λ e. cc) in
    let shown : before (standing t.line text a) (piece at c.split_at.result.0.now)
    ≡ before (standing t.line text a) (record { place = c.position-position.result.place; bytes = _ }) =
    λ i. before (standing t.line text a) (record { place = sym placed i; bytes = sym c.shape-token.ensures.bytes i }) in (
      elim c.if-after-lt1.branch [
        | in-32 w ↦ here ∙ due_next at _ text _ _ v s.front s.back t.line a w.self-is (omega arith) (omega arith) ∙ shown
        | in_default-after w ↦ here ∙ end_next at _ text _ _ v s.front s.back t.line a w.self-is (λ m h. omega arith) ∙ shown
        | in_default-after-2 w ↦ here ∙ end_next at _ text _ _ v s.front s.back t.line a w.self-is (λ m h. omega arith) ∙ shown
      ],
      ap (λ (p : Position). p.line) c.position-position.ensures.value,
    )
