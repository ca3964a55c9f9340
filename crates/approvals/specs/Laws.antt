-- Proofs of the laws of the approvals kind, each under its law's name.
use Rattle.std.specs.Prelude.{◌≡◌, ℕ, ◌-◌, ◌^◌, ◌<◌, ◌≤◌, Bool, true, false, not, ◌&&◌, ◌||◌, T, ◌↔◌, ◌==◌, nat_le, nat_lt, refl}
use Rattle.std.proofs.Common.{true≢false, inl, inr, sym, ap, ◌∙◌, arith, lit<, ltb→lt, lt→ltb, nltb→le, leb→le, le→leb, eqb→eq}
use Rattle.std.proofs.lemmas.Bool.{false≢true}
use Rattle.std.proofs.Math.Dec.{not_T}
use Rattle.std.specs.Float.Ieee.Fits.{and_i, and_l, and_r, eq→eqb}
use Rattle.model.specs.Kind.{Rated, Nowhere, Everywhere}
use Rattle.model.proofs.Rated.{either, neither, stable, rated}
use Rattle.words.specs.Sets.{Set, bits, word, union, difference, union_of, size, count}
use Rattle.words.proofs.Members.{empty_each, each_empty, mask_below, bits_word, size_word}
use Rattle.words.proofs.Bits.{word_is}
use Rattle.approvals.specs.declared.data.Pattern.{Pattern}
use Rattle.approvals.specs.declared.data.Guard.{Guard}
use Rattle.approvals.specs.declared.data.Action.{Action}
use Rattle.approvals.specs.Approvals.{approvals, matches, contradictory, both, asks_nothing, implied_by, too_many, never, always}
use Rattle.approvals.specs.Patterns.{Matching, Consistent, matching, matched, matching_consistent, consistent, contradiction, low, high, low_matches, high_matches, both_matching, both_left, both_right, implied_matching, matching_implied, nothing_matching, matching_nothing, none, all, size_matching, size_high}

pub begins : approvals.Store approvals.start
begins = lit< tt

pub stays : (a : Action) (s d : ℕ) → approvals.Store s → approvals.Datum d → approvals.Store (approvals.makes a s d)
stays a s d p q = mask_below (difference (bits (union_of s a.up)) (bits a.down)) 32

pub datums : (f : Pattern) (d : ℕ) → T (approvals.meets f d) → approvals.Datum d
datums f d m = ltb→lt d (2 ^ 32) (and_l _ _ m)

-- a word that matches meets
meets_from : (f : Pattern) (p : Set) → Matching f (word p) → T (approvals.meets f (word p))
meets_from f p m = and_i _ _ (lt→ltb (word p) (2 ^ 32) (mask_below p 32)) (matched f (word p) m)

empty_unmet : (f : Pattern) → T (approvals.empty f) → (d : ℕ) → T (approvals.meets f d) → ⊥
empty_unmet f e d m = contradiction f e (matching_consistent f d (matching f d (and_r _ _ m)))

unmet_empty : (f : Pattern) → ((d : ℕ) → T (approvals.meets f d) → ⊥) → T (approvals.empty f)
unmet_empty f h = stable (contradictory f) (λ n. h (low f) (meets_from f (bits f.ones) (low_matches f (consistent f n))))

pub empties : (f : Pattern) → T (approvals.empty f) ↔ ((d : ℕ) → T (approvals.meets f d) → ⊥)
empties f = (empty_unmet f, unmet_empty f)

-- a bit of what an action makes
made_bit : (a : Action) (s d n : ℕ) → n < 32 → bits (approvals.makes a s d) n ≡ ((bits s n || bits a.up n) && not (bits a.down n))
made_bit a s d n l =
    bits_word (difference (bits (union_of s a.up)) (bits a.down)) n l
    ∙ ap (λ t. t && not (bits a.down n)) (bits_word (union (bits s) (bits a.up)) n l)

unchanged : (s u d : Bool) → (T u → ⊥) → (T d → ⊥) → s ≡ ((s || u) && not d)
unchanged s true d a b = absurd (a tt)
unchanged s false true a b = absurd (b tt)
unchanged true false false a b = refl
unchanged false false false a b = refl

idle_keeps : (a : Action) → T (approvals.idle a) → (s d : ℕ) → approvals.Store s → approvals.Datum d → approvals.makes a s d ≡ s
idle_keeps a i s d p q =
    let up = empty_each (bits a.up) (and_l _ _ i) in
    let down = empty_each (bits a.down) (and_r _ _ i) in
    sym
    (word_is s (difference (bits (union_of s a.up)) (bits a.down)) p
    (λ n l.
    unchanged (bits s n) (bits a.up n) (bits a.down n) (up n l) (down n l) ∙ sym (made_bit a s d n l)
    ∙ bits_word (difference (bits (union_of s a.up)) (bits a.down)) n l))

-- an action that keeps a set bit clears none, and one that keeps a clear bit sets none
kept_set : (u d : Bool) → true ≡ ((true || u) && not d) → T d → ⊥
kept_set u true e t = true≢false e
kept_set u false e t = t

kept_clear : (u d : Bool) → (T d → ⊥) → false ≡ ((false || u) && not d) → T u → ⊥
kept_clear true true h e t = h tt
kept_clear true false h e t = false≢true e
kept_clear false d h e t = t

keeps_idle : (a : Action) → ((s d : ℕ) → approvals.Store s → approvals.Datum d → approvals.makes a s d ≡ s) → T (approvals.idle a)
keeps_idle a h = and_i _ _ (each_empty (bits a.up) up) (each_empty (bits a.down) down)
  where
    -- a bit of the store, and what becomes of it
    kept : (p : Set) (n : ℕ) → n < 32 → p n ≡ ((p n || bits a.up n) && not (bits a.down n))
    kept p n l =
        sym (bits_word p n l) ∙ ap (λ w. bits w n) (sym (h (word p) 0 (mask_below p 32) (lit< tt))) ∙ made_bit a (word p) 0 n l
        ∙ ap (λ t. (t || bits a.up n) && not (bits a.down n)) (bits_word p n l)

    down : (n : ℕ) → n < 32 → T (bits a.down n) → ⊥
    down n l = kept_set (bits a.up n) (bits a.down n) (kept (λ _. true) n l)

    up : (n : ℕ) → n < 32 → T (bits a.up n) → ⊥
    up n l = kept_clear (bits a.up n) (bits a.down n) (down n l) (kept (λ _. false) n l)

pub idles : (a : Action) → T (approvals.idle a) ↔ ((s d : ℕ) → approvals.Store s → approvals.Datum d → approvals.makes a s d ≡ s)
idles a = (idle_keeps a, keeps_idle a)

size_none : size (bits none) ≡ 0
unfolding count
size_none = size_word (λ _. false)

-- the parts of a guard that holds
record Holding (g : Guard) (s d : ℕ) : Type 0 where
  store : Matching g.store s
  enough : g.least ≤ size (bits s)
  datum : Matching g.datum d

module _ (g : Guard) (s d : ℕ) where
  abbrev enough_bits : Bool
  enough_bits = nat_le g.least (size (bits s))

  holding : T (approvals.holds g s d) → Holding g s d
  holding h =
      let on_store = and_l (matches g.store s && enough_bits) (matches g.datum d) h in
      record {
        store = matching g.store s (and_l (matches g.store s) enough_bits on_store);
        enough = leb→le g.least (size (bits s)) (and_r (matches g.store s) enough_bits on_store);
        datum = matching g.datum d (and_r (matches g.store s && enough_bits) (matches g.datum d) h);
      }

  held : Holding g s d → T (approvals.holds g s d)
  held h =
      and_i _ _ (and_i _ _ (matched g.store s h.store) (le→leb g.least (size (bits s)) h.enough))
      (matched g.datum d h.datum)

module _ (f : Pattern) (g : Guard) where
  nowhere : T (never g f) → Nowhere approvals f g
  nowhere n s d ls ld m h =
      let now = holding g s d h in
      let datum = both_matching g.datum f d now.datum (matching f d (and_r (nat_lt d (2 ^ 32)) (matches f d) m)) in
      elim (either (contradictory g.store || too_many g) (contradictory (both g.datum f)) n) [
        | inl k ↦ elim (either (contradictory g.store) (too_many g) k) [
          | inl c ↦ contradiction g.store c (matching_consistent g.store s now.store)
          | inr c ↦ absurd (omega (arith, ltb→lt _ _ c, now.enough, size_matching g.store s now.store))
        ]
        | inr c ↦ contradiction (both g.datum f) c (matching_consistent (both g.datum f) d datum)
      ]

  -- what the guard and the fact ask can be met
  record Possible : Type 0 where
    store : Consistent g.store
    enough : g.least ≤ 32 - size (bits g.store.zeros)
    datum : Consistent (both g.datum f)

  possible : (T (never g f) → ⊥) → Possible
  possible n =
      let (k, d) = neither (contradictory g.store || too_many g) (contradictory (both g.datum f)) n in
      let (s, r) = neither (contradictory g.store) (too_many g) k in
      record {
        store = consistent g.store s;
        enough = nltb→le _ _ (not_T (too_many g) r);
        datum = consistent (both g.datum f) d;
      }

  somewhere : (T (never g f) → ⊥) → Nowhere approvals f g → ⊥
  somewhere n h =
      let c = possible n in
      let s = high g.store in
      let d = low (both g.datum f) in
      let datum = low_matches (both g.datum f) c.datum in
      h s d (mask_below _ 32) (mask_below _ 32) (meets_from f _ (both_right g.datum f d datum))
      (held g s d (record {
        store = high_matches g.store c.store;
        enough = omega (arith, c.enough, size_high g.store);
        datum = both_left g.datum f d datum;
      }))

  everywhere : T (always g f) → Everywhere approvals f g
  everywhere a s d ls ld m =
      let on_store = and_l (asks_nothing g.store && g.least == 0) (implied_by g.datum f) a in
      held g s d (record {
        store = nothing_matching g.store s (and_l (asks_nothing g.store) (g.least == 0) on_store);
        enough = omega (arith, eqb→eq g.least 0 (and_r (asks_nothing g.store) (g.least == 0) on_store));
        datum = implied_matching g.datum f d (and_r _ _ a) (matching f d (and_r _ _ m));
      })

  covers : (T (never g f) → ⊥) → Everywhere approvals f g → T (always g f)
  covers n h =
      let lowest = low (both g.datum f) in
      let c = matching_consistent f lowest (both_right g.datum f lowest (low_matches (both g.datum f) (possible n).datum)) in
      let at_low = meets_from f (bits f.ones) (low_matches f c) in
      let at_high = meets_from f (λ n. not (bits f.zeros n)) (high_matches f c) in
      let none_low = holding g none (low f) (h none (low f) (mask_below _ 32) (mask_below _ 32) at_low) in
      let all_low = holding g all (low f) (h all (low f) (mask_below _ 32) (mask_below _ 32) at_low) in
      let none_high = holding g none (high f) (h none (high f) (mask_below _ 32) (mask_below _ 32) at_high) in
      let least : g.least ≡ 0 = omega (arith, none_low.enough, size_none) in
      and_i _ _ (and_i _ _ (matching_nothing g.store none_low.store all_low.store) (eq→eqb least))
      (matching_implied g.datum f none_low.datum none_high.datum)

pub rates : (f : Pattern) (g : Guard) → Rated approvals f g (approvals.rate g f)
rates f g = rated approvals f g (never g f) (always g f) (nowhere f g) (somewhere f g) (everywhere f g) (covers f g)
