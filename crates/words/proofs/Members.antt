-- What tests, counts and masks of a set tell of its members, and back.
use Rattle.std.proofs.Common.{◌≡◌, ℕ, zero, suc, ◌+◌, ◌*◌, ◌/◌, ◌%◌, ◌^◌, ◌<◌, ◌≤◌, Bool, true, false, cond, not, ◌&&◌, ◌||◌, T, eqb, sym, refl, ap, ◌∙◌, subst, ap₂, inl, inr, pow-suc, arith, T_not}
use lib.Dec.{not_T}
use lib.Count.{ones, ones_cat}
use lib.Ieee.Fits.{and_i, and_l, and_r}
use Rattle.std.proofs.lemmas.Bool.{cases_eq}
use Rattle.std.proofs.lemmas.Bool.Decides.{nat_tests}
use Rattle.std.proofs.lemmas.Nat.{mod-pow-add}
use Rattle.std.proofs.lemmas.Nat.Bits.{bit_at_cat_low, bit_at_cat_high}
use Rattle.words.specs.Sets.{Set, bits, every, count, mask, is_empty, is_subset, is_disjoint, size, word}

digit_ones : (b : Bool) → ones (cond b 1 0) ≡ cond b 1 0
unfolding ones
digit_ones true = refl
digit_ones false = refl

module _ (p : Set) where
  pub every_each : (k : ℕ) → T (every k p) → (n : ℕ) → n < k → T (p n)
  unfolding every
  every_each zero h n l = absurd (omega arith)
  every_each (suc k) h n l =
      elim (cases_eq n k) [
        | inl e ↦ subst (λ m. T (p m)) (sym e) (and_l _ _ h)
        | inr d ↦ every_each k (and_r _ _ h) n (omega arith)
      ]

  pub each_every : (k : ℕ) → ((n : ℕ) → n < k → T (p n)) → T (every k p)
  unfolding every
  each_every zero h = tt
  each_every (suc k) h = and_i _ _ (h k (omega arith)) (each_every k (λ n l. h n (omega arith)))

  pub mask_below : (k : ℕ) → mask k p < 2 ^ k
  unfolding mask
  mask_below zero = omega arith
  mask_below (suc k) = grind (arith, pow-suc 2 k, mask_below k)

  pub count_ones : (k : ℕ) → ones (mask k p) ≡ count k p
  unfolding mask count ones
  count_ones zero = refl
  count_ones (suc k) = ones_cat k (cond (p k) 1 0) (mask k p) (mask_below k) ∙ ap₂ (λ x y. x + y) (digit_ones (p k)) (count_ones k)

  -- the others and the members are all
  pub count_not : (k : ℕ) → count k (λ n. not (p n)) + count k p ≡ k
  unfolding count
  count_not zero = refl
  count_not (suc k) = grind (arith, count_not k)

  pub mask_not : (k : ℕ) → mask k (λ n. not (p n)) + mask k p + 1 ≡ 2 ^ k
  unfolding mask
  mask_not zero = refl
  mask_not (suc k) = grind (arith, pow-suc 2 k, mask_not k)

  bits_mask : (k n : ℕ) → n < k → bits (mask k p) n ≡ p n
  unfolding mask bits
  bits_mask zero n l = absurd (omega arith)
  bits_mask (suc k) n l =
      elim (cases_eq n k) [
        | inl e ↦ grind (arith, nat_tests, bit_at_cat_high (cond (p k) 1 0) k (mask k p) k (mask_below k))
        | inr d ↦ ap (λ x. eqb x 1) (bit_at_cat_low (cond (p k) 1 0) k (mask k p) n (omega arith)) ∙ bits_mask k n (omega arith)
      ]

module _ (p q : Set) where
  pub every_same : (k : ℕ) → ((n : ℕ) → n < k → p n ≡ q n) → every k p ≡ every k q
  unfolding every
  every_same zero h = refl
  every_same (suc k) h = ap₂ (λ a b. a && b) (h k (omega arith)) (every_same k (λ n l. h n (omega arith)))

  pub mask_same : (k : ℕ) → ((n : ℕ) → n < k → p n ≡ q n) → mask k p ≡ mask k q
  unfolding mask
  mask_same zero h = refl
  mask_same (suc k) h = ap₂ (λ b m. cond b 1 0 * 2 ^ k + m) (h k (omega arith)) (mask_same k (λ n l. h n (omega arith)))

  pub count_same : (k : ℕ) → ((n : ℕ) → n < k → p n ≡ q n) → count k p ≡ count k q
  unfolding count
  count_same zero h = refl
  count_same (suc k) h = ap₂ (λ b m. cond b 1 0 + m) (h k (omega arith)) (count_same k (λ n l. h n (omega arith)))

  -- sets that share no member have together no more than all
  pub count_disjoint : (k : ℕ) → ((n : ℕ) → n < k → T (not (p n && q n))) → count k p + count k q ≤ k
  unfolding count
  count_disjoint zero h = omega arith
  count_disjoint (suc k) h = grind (arith, h k (omega arith), count_disjoint k (λ n l. h n (omega arith)))

digit_is : (x : ℕ) → x < 2 → cond (eqb x 1) 1 0 ≡ x
digit_is zero h = refl
digit_is (suc zero) h = refl
digit_is (suc (suc x)) h = absurd (omega arith)

-- the mask of a word's own set is the word, cut off
pub mask_bits : (k w : ℕ) → mask k (bits w) ≡ w % 2 ^ k
unfolding mask bits
mask_bits zero w = omega arith
mask_bits (suc k) w =
    ap₂ (λ b m. b * 2 ^ k + m) (digit_is (w / 2 ^ k % 2) (omega arith)) (mask_bits k w) ∙ sym (mod-pow-add w 1 k) ∙ ap (λ e. w % 2 ^ e) (omega arith)

-- the tests of words, member by member
module _ (p q : Set) where
  pub subset_each : T (is_subset p q) → (n : ℕ) → n < 32 → T (p n) → T (q n)
  subset_each t n l m = grind (arith, every_each (λ n. not (p n) || q n) 32 t n l)

  pub each_subset : ((n : ℕ) → n < 32 → T (p n) → T (q n)) → T (is_subset p q)
  each_subset h = each_every (λ n. not (p n) || q n) 32 (λ n l. grind (arith, h n l))

  pub disjoint_each : T (is_disjoint p q) → (n : ℕ) → n < 32 → T (p n) → T (q n) → ⊥
  disjoint_each t n l m k = T_not (p n && q n) (every_each (λ n. not (p n && q n)) 32 t n l) (and_i _ _ m k)

  pub each_disjoint : ((n : ℕ) → n < 32 → T (p n) → T (q n) → ⊥) → T (is_disjoint p q)
  each_disjoint h = each_every (λ n. not (p n && q n)) 32 (λ n l. not_T (p n && q n) (λ t. h n l (and_l _ _ t) (and_r _ _ t)))

module _ (p : Set) where
  pub empty_each : T (is_empty p) → (n : ℕ) → n < 32 → T (p n) → ⊥
  empty_each t n l = T_not (p n) (every_each (λ n. not (p n)) 32 t n l)

  pub each_empty : ((n : ℕ) → n < 32 → T (p n) → ⊥) → T (is_empty p)
  each_empty h = each_every (λ n. not (p n)) 32 (λ n l. not_T (p n) (h n l))

  pub bits_word : (n : ℕ) → n < 32 → bits (word p) n ≡ p n
  bits_word = bits_mask p 32

  pub word_member : (n : ℕ) → n < 32 → T (bits (word p) n) → T (p n)
  word_member n l = subst T (bits_word n l)

  pub member_word : (n : ℕ) → n < 32 → T (p n) → T (bits (word p) n)
  member_word n l = subst T (sym (bits_word n l))

  pub size_word : size (bits (word p)) ≡ size p
  size_word = count_same (bits (word p)) p 32 bits_word
