-- The members that the operations on words give.
use Rattle.std.proofs.Common.{◌≡◌, ℕ, ◌-◌, ◌*◌, ◌/◌, ◌%◌, ◌^◌, ◌<◌, ◌≤◌, Bool, false, not, ◌&&◌, ◌||◌, T, eqb, ltb, sym, refl, ap, ◌∙◌, subst, arith, eqb→eq}
use lib.Bits.{bit_and, bit_or}
use lib.Count.{ones}
use lib.Dec.{eqb_refl}
use Rattle.std.proofs.lemmas.Nat.{pow_below, one_shl, or_lt, and_le_l}
use Rattle.std.proofs.lemmas.Nat.Bits.{bit_at_and, bit_at_or, bit_at_not, bit_at_above, bit_at-pow_same, bit_at-pow_other, shr_and_one, same_from_bits_below}
use Rattle.std.proofs.lemmas.Bool.Decides.{nat_tests}
use Rattle.std.specs.Int.{w32}
use Rattle.words.specs.Sets.{Set, bits, word, every, insert, union, difference, union_of, difference_of, is_empty, is_subset, is_disjoint, size}
use Rattle.words.proofs.Members.{every_each, each_every, count_ones, mask_below, bits_word}

pub bits_and : (a b n : ℕ) → bits (bit_and a b) n ≡ (bits a n && bits b n)
unfolding bits
bits_and a b n = grind (arith, nat_tests, bit_at_and a b n)

pub bits_or : (a b n : ℕ) → bits (bit_or a b) n ≡ (bits a n || bits b n)
unfolding bits
bits_or a b n = grind (arith, nat_tests, bit_at_or a b n)

pub bits_not : (w n : ℕ) → w < 2 ^ 32 → n < 32 → bits (2 ^ 32 - 1 - w) n ≡ not (bits w n)
unfolding bits
bits_not w n h l = grind (arith, nat_tests, bit_at_not w32 w n h l)

pub bits_one : (m n : ℕ) → bits (2 ^ m) n ≡ eqb n m
unfolding bits
bits_one m n = grind (arith, nat_tests, bit_at-pow_same, bit_at-pow_other)

bits_past : (w k n : ℕ) → w < 2 ^ k → k ≤ n → bits w n ≡ false
unfolding bits
bits_past w k n h l = rw (bit_at_above w k n h l)

-- words with the same members are equal
same_word : (v w : ℕ) → v < 2 ^ 32 → w < 2 ^ 32 → ((n : ℕ) → n < 32 → bits v n ≡ bits w n) → v ≡ w
unfolding bits
same_word v w lv lw same = same_from_bits_below 32 v w lv lw (λ n l. grind (arith, nat_tests, same n l))

-- a word with the members of a set is the word of that set
pub word_is : (w : ℕ) (p : Set) → w < 2 ^ 32 → ((n : ℕ) → n < 32 → bits w n ≡ p n) → w ≡ word p
word_is w p h same = same_word w (word p) h (mask_below p 32) (λ n l. same n l ∙ sym (bits_word p n l))

-- a word is the word of its own set
pub word_bits : (w : ℕ) → w < 2 ^ 32 → word (bits w) ≡ w
word_bits w h = sym (word_is w (bits w) h (λ n l. refl))

-- tests that imply each other are equal
pub same_test : (a b : Bool) → (T a → T b) → (T b → T a) → a ≡ b
same_test a b f g = grind arith

-- the test of two words for equality, member by member
test_is : (v w : ℕ) (p : Set) → v < 2 ^ 32 → w < 2 ^ 32 → ((n : ℕ) → (T (p n) → bits v n ≡ bits w n) × (bits v n ≡ bits w n → T (p n)))
    → eqb v w ≡ every 32 p
test_is v w p lv lw h =
    same_test (eqb v w) (every 32 p) (λ t. each_every p 32 (λ n l. (h n).1 (ap (λ x. bits x n) (eqb→eq v w t))))
    (λ t. subst (λ x. T (eqb v x)) (same_word v w lv lw (λ n l. (h n).0 (every_each p 32 t n l))) (eqb_refl v))

module _ (a : ℕ) (la : a < 2 ^ 32) where
  pub count_word : ones a ≡ size (bits a)
  count_word = ap ones (word_is a (bits a) la (λ n l. refl)) ∙ count_ones (bits a) 32

  pub empty_word : eqb a 0 ≡ is_empty (bits a)
  empty_word = test_is a 0 (λ n. not (bits a n)) la (omega arith) (λ n. let none = bits_past 0 0 n (omega arith) (omega arith) in (grind arith, grind arith))

  module _ (n : ℕ) where
    pub contains_word : eqb (bit_and (a / 2 ^ n) 1) 1 ≡ bits a n
    unfolding bits
    contains_word = rw (shr_and_one a n)

    pub contains_past : 32 ≤ n → ltb n 32 ≡ bits a n
    contains_past h = grind (arith, nat_tests, bits_past a 32 n la h)

    pub insert_word : n < 32 → bit_or a (1 * 2 ^ n % 2 ^ 32) ≡ word (insert (bits a) n)
    insert_word l =
        ap (bit_or a) (one_shl n 32 l)
        ∙ word_is (bit_or a (2 ^ n)) (insert (bits a) n) (or_lt 32 a (2 ^ n) la (pow_below n 32 l))
        (λ m _. grind (arith, bits_or a (2 ^ n) m, bits_one n m))

    pub insert_past : 32 ≤ n → a ≡ word (insert (bits a) n)
    insert_past h = word_is a (insert (bits a) n) la (λ m l. grind (arith, nat_tests))

module _ (a b : ℕ) (la : a < 2 ^ 32) (lb : b < 2 ^ 32) where
  pub union_word : bit_or a b ≡ union_of a b
  union_word = word_is (bit_or a b) (union (bits a) (bits b)) (or_lt 32 a b la lb) (λ n _. bits_or a b n)

  shared_below : (c : ℕ) → bit_and a c < 2 ^ 32
  shared_below c = omega (arith, and_le_l a c)

  pub difference_word : bit_and a (2 ^ 32 - 1 - b) ≡ difference_of a b
  difference_word =
      word_is (bit_and a (2 ^ 32 - 1 - b)) (difference (bits a) (bits b)) (shared_below (2 ^ 32 - 1 - b))
      (λ n l. grind (arith, bits_and a (2 ^ 32 - 1 - b) n, bits_not b n lb l))

  pub disjoint_word : eqb (bit_and a b) 0 ≡ is_disjoint (bits a) (bits b)
  disjoint_word =
      test_is (bit_and a b) 0 (λ n. not (bits a n && bits b n)) (shared_below b) (omega arith)
      (λ n. let shared = bits_and a b n in let none = bits_past 0 0 n (omega arith) (omega arith) in (grind arith, grind arith))

  pub subset_word : eqb (bit_and a b) a ≡ is_subset (bits a) (bits b)
  subset_word =
      test_is (bit_and a b) a (λ n. not (bits a n) || bits b n) (shared_below b) la
      (λ n. let shared = bits_and a b n in (grind arith, grind arith))
