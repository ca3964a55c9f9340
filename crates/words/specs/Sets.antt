-- Sets of numbers, by their members, and the words that stand for them.
use Rattle.std.specs.Prelude.{ℕ, zero, suc, ◌+◌, ◌*◌, ◌/◌, ◌%◌, ◌^◌, Bool, true, cond, not, ◌&&◌, ◌||◌, ◌==◌}

-- which numbers are members
abbrev pub Set : Type 0
Set = ℕ → Bool

-- the set that a word stands for: n is a member where bit n of the word is set
unfoldable pub bits : ℕ → Set
bits w n = w / 2 ^ n % 2 == 1

-- all numbers below k are members
unfoldable pub every : ℕ → Set → Bool
every zero p = true
every (suc k) p = p k && every k p

-- how many numbers below k are members
unfoldable pub count : ℕ → Set → ℕ
count zero p = 0
count (suc k) p = cond (p k) 1 0 + count k p

-- the number whose bits below k are the members, and no others
unfoldable pub mask : ℕ → Set → ℕ
mask zero p = 0
mask (suc k) p = cond (p k) 1 0 * 2 ^ k + mask k p

-- one member more
abbrev pub insert : Set → ℕ → Set
insert p m n = p n || n == m

abbrev pub union : Set → Set → Set
union p q n = p n || q n

abbrev pub difference : Set → Set → Set
difference p q n = p n && not (q n)

-- tests and counts look at the numbers that a word has bits for, 0 to 31
abbrev pub is_empty : Set → Bool
is_empty p = every 32 (λ n. not (p n))

abbrev pub is_subset : Set → Set → Bool
is_subset p q = every 32 (λ n. not (p n) || q n)

abbrev pub is_disjoint : Set → Set → Bool
is_disjoint p q = every 32 (λ n. not (p n && q n))

abbrev pub size : Set → ℕ
size = count 32

-- the word that stands for a set
abbrev pub word : Set → ℕ
word = mask 32

-- the members of either word's set
abbrev pub union_of : ℕ → ℕ → ℕ
union_of a b = word (union (bits a) (bits b))

-- the members of the first word's set that the second has not
abbrev pub difference_of : ℕ → ℕ → ℕ
difference_of a b = word (difference (bits a) (bits b))
