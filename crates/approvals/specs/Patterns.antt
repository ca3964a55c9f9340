-- What the tests of a pattern tell of each bit, and words that match it.
use Rattle.std.specs.Prelude.{◌≡◌, ℕ, ◌+◌, ◌<◌, ◌≤◌, Bool, true, false, not, ◌||◌, T}
use Rattle.std.proofs.Common.{ap, ◌∙◌, inl, inr, T_not}
use Rattle.std.proofs.Math.Dec.{not_T}
use Rattle.std.specs.Float.Ieee.Fits.{and_i, and_l, and_r}
use Rattle.model.proofs.Rated.{either, stable}
use Rattle.words.specs.Sets.{bits, word, union, is_disjoint, size}
use Rattle.words.proofs.Members.{subset_each, each_subset, disjoint_each, each_disjoint, empty_each, each_empty, count_disjoint, count_not, word_member, member_word, size_word}
use Rattle.approvals.specs.declared.data.Pattern.{Pattern}
use Rattle.approvals.specs.Approvals.{matches, contradictory, both, asks_nothing, implied_by}

pub record Matching (p : Pattern) (w : ℕ) : Type 0 where
  pub has : (n : ℕ) → n < 32 → T (bits p.ones n) → T (bits w n)
  pub lacks : (n : ℕ) → n < 32 → T (bits p.zeros n) → T (bits w n) → ⊥

-- no bit is asked both ways
pub record Consistent (p : Pattern) : Type 0 where
  pub apart : (n : ℕ) → n < 32 → T (bits p.ones n) → T (bits p.zeros n) → ⊥

module _ (p : Pattern) where
  pub matching : (w : ℕ) → T (matches p w) → Matching p w
  matching w t = record {
    has = subset_each (bits p.ones) (bits w) (and_l _ _ t);
    lacks = disjoint_each (bits p.zeros) (bits w) (and_r _ _ t);
  }

  pub matched : (w : ℕ) → Matching p w → T (matches p w)
  matched w m = and_i _ _ (each_subset (bits p.ones) (bits w) m.has) (each_disjoint (bits p.zeros) (bits w) m.lacks)

  pub matching_consistent : (w : ℕ) → Matching p w → Consistent p
  matching_consistent w m = record { apart = λ n l o z. m.lacks n l z (m.has n l o) }

  pub consistent : (T (contradictory p) → ⊥) → Consistent p
  consistent h = record { apart = disjoint_each (bits p.ones) (bits p.zeros) (stable (is_disjoint (bits p.ones) (bits p.zeros)) (λ d. h (not_T _ d))) }

  pub contradiction : T (contradictory p) → Consistent p → ⊥
  contradiction t c = T_not _ t (each_disjoint (bits p.ones) (bits p.zeros) c.apart)

  -- the words with the fewest and the most bits
  abbrev pub low : ℕ
  low = word (bits p.ones)

  abbrev pub high : ℕ
  high = word (λ n. not (bits p.zeros n))

  module _ (c : Consistent p) where
    pub low_matches : Matching p low
    low_matches = record {
      has = λ n l o. member_word (bits p.ones) n l o;
      lacks = λ n l z m. c.apart n l (word_member (bits p.ones) n l m) z;
    }

    pub high_matches : Matching p high
    high_matches = record {
      has = λ n l o. member_word (λ n. not (bits p.zeros n)) n l (not_T _ (λ z. c.apart n l o z));
      lacks = λ n l z m. T_not _ (word_member (λ n. not (bits p.zeros n)) n l m) z;
    }

or_l : (a b : Bool) → T a → T (a || b)
or_l true b t = tt
or_l false b t = absurd t

or_r : (a b : Bool) → T b → T (a || b)
or_r true b t = tt
or_r false b t = t

module _ (p q : Pattern) (w : ℕ) where
  pub both_matching : Matching p w → Matching q w → Matching (both p q) w
  both_matching m k = record {
    has = λ n l o.
        elim (either _ _ (word_member (union (bits p.ones) (bits q.ones)) n l o)) [ inl a ↦ m.has n l a | inr b ↦ k.has n l b ];
    lacks = λ n l z.
        elim (either _ _ (word_member (union (bits p.zeros) (bits q.zeros)) n l z)) [ inl a ↦ m.lacks n l a | inr b ↦ k.lacks n l b ];
  }

  pub both_left : Matching (both p q) w → Matching p w
  both_left m = record {
    has = λ n l o. m.has n l (member_word (union (bits p.ones) (bits q.ones)) n l (or_l _ _ o));
    lacks = λ n l z. m.lacks n l (member_word (union (bits p.zeros) (bits q.zeros)) n l (or_l _ _ z));
  }

  pub both_right : Matching (both p q) w → Matching q w
  both_right m = record {
    has = λ n l o. m.has n l (member_word (union (bits p.ones) (bits q.ones)) n l (or_r _ _ o));
    lacks = λ n l z. m.lacks n l (member_word (union (bits p.zeros) (bits q.zeros)) n l (or_r _ _ z));
  }

  pub implied_matching : T (implied_by p q) → Matching q w → Matching p w
  implied_matching i m = record {
    has = λ n l o. m.has n l (subset_each (bits p.ones) (bits q.ones) (and_l _ _ i) n l o);
    lacks = λ n l z. m.lacks n l (subset_each (bits p.zeros) (bits q.zeros) (and_r _ _ i) n l z);
  }

-- a pattern that the words with the fewest and the most bits of another match is implied by it
pub matching_implied : (p q : Pattern) → Matching p (low q) → Matching p (high q) → T (implied_by p q)
matching_implied p q m k =
    and_i _ _ (each_subset (bits p.ones) (bits q.ones) (λ n l o. word_member (bits q.ones) n l (m.has n l o)))
    (each_subset (bits p.zeros) (bits q.zeros)
    (λ n l z. stable (bits q.zeros n) (λ u. k.lacks n l z (member_word (λ n. not (bits q.zeros n)) n l (not_T _ u)))))

pub nothing_matching : (p : Pattern) (w : ℕ) → T (asks_nothing p) → Matching p w
nothing_matching p w a = record {
  has = λ n l o. absurd (empty_each (bits p.ones) (and_l _ _ a) n l o);
  lacks = λ n l z _. empty_each (bits p.zeros) (and_r _ _ a) n l z;
}

-- the words with no bit and with every bit
abbrev pub none : ℕ
none = word (λ _. false)

abbrev pub all : ℕ
all = word (λ _. true)

pub matching_nothing : (p : Pattern) → Matching p none → Matching p all → T (asks_nothing p)
matching_nothing p m k =
    and_i _ _ (each_empty (bits p.ones) (λ n l o. word_member (λ _. false) n l (m.has n l o)))
    (each_empty (bits p.zeros) (λ n l z. k.lacks n l z (member_word (λ _. true) n l tt)))

-- a word that matches has no more bits than the zeros leave, and one has as many
pub size_matching : (p : Pattern) (w : ℕ) → Matching p w → size (bits p.zeros) + size (bits w) ≤ 32
size_matching p w m = count_disjoint (bits p.zeros) (bits w) 32 (λ n l. not_T _ (λ t. m.lacks n l (and_l _ _ t) (and_r _ _ t)))

pub size_high : (p : Pattern) → size (bits (high p)) + size (bits p.zeros) ≡ 32
size_high p = ap (λ x. x + size (bits p.zeros)) (size_word (λ n. not (bits p.zeros n))) ∙ count_not (bits p.zeros) 32
