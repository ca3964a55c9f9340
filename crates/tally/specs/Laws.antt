-- Proofs of the laws of the tally kind, each under its law's name.
use Rattle.std.specs.Prelude.{◌≡◌, ℕ, ◌^◌, ◌<◌, ◌&&◌, T, ◌↔◌, ℤ, pos, negsuc, ◌+ℤ◌, refl}
use Rattle.std.proofs.Common.{inl, inr, arith, lit<, ltb→lt}
use Rattle.std.specs.Float.Ieee.Fits.{and_i, and_l, and_r}
use Rattle.std.proofs.lemmas.Int.{ints}
use Rattle.std.proofs.lemmas.Bool.Decides.{nat_tests}
use Rattle.model.specs.Kind.{Rated, Nowhere, Everywhere}
use Rattle.tally.specs.declared.data.Range.{Range}
use Rattle.tally.specs.declared.data.Guard.{Guard}
use Rattle.tally.specs.declared.data.Action.{Action}
use Rattle.tally.specs.declared.data.Action.TheVariants.{Nothing, Add, AddDatum, Set}
use Rattle.tally.specs.Tally.{tally, least, greatest, value, contains, misses, lowest, highest, made, never, always}
use Rattle.tally.specs.Ranges.{at_low, at_high, missed, shared, shared_between, shared_contained, covered, covers_ends}
use Rattle.tally.specs.Words.{signed_between, of_words, meets_between, meets_from, of_stores}
use Rattle.model.proofs.Rated.{either, neither, stable, rated}

pub begins : tally.Store tally.start
begins = lit< tt

made_below : (z : ℤ) → made z < 2 ^ 32
made_below z = grind arith

pub stays : (a : Action) (s d : ℕ) → tally.Store s → tally.Datum d → tally.Store (tally.makes a s d)
stays Nothing s d p q = p
stays (Add k) s d p q = made_below (value s +ℤ k)
stays AddDatum s d p q = made_below (value s +ℤ value d)
stays (Set k) s d p q = made_below k

pub datums : (f : Range) (d : ℕ) → T (tally.meets f d) → tally.Datum d
datums f d m = ltb→lt d (2 ^ 32) (and_l _ _ m)

empty_unmet : (f : Range) → T (tally.empty f) → (d : ℕ) → T (tally.meets f d) → ⊥
empty_unmet f e d m = missed f e (signed_between d (datums f d m)) (and_r _ _ m)

unmet_empty : (f : Range) → ((d : ℕ) → T (tally.meets f d) → ⊥) → T (tally.empty f)
unmet_empty f h =
    stable (tally.empty f)
    (λ n.
    of_words (λ z. T (contains f z) → ⊥) (λ d l c. h d (meets_from f d l c)) (shared f least)
    (shared_between f least greatest n) (shared_contained f least greatest n))

pub empties : (f : Range) → T (tally.empty f) ↔ ((d : ℕ) → T (tally.meets f d) → ⊥)
empties f = (empty_unmet f, unmet_empty f)

idle_keeps : (a : Action) → T (tally.idle a) → (s d : ℕ) → tally.Store s → tally.Datum d → tally.makes a s d ≡ s
idle_keeps Nothing i s d p q = refl
idle_keeps (Add (pos n)) i s d p q = grind (arith, ints, nat_tests)
idle_keeps (Add (negsuc n)) i s d p q = absurd i
idle_keeps AddDatum i s d p q = absurd i
idle_keeps (Set k) i s d p q = absurd i

keeps_idle : (a : Action) → ((s d : ℕ) → tally.Store s → tally.Datum d → tally.makes a s d ≡ s) → T (tally.idle a)
keeps_idle Nothing h = tt
keeps_idle (Add (pos n)) h = let at_0 = h 0 0 (lit< tt) (lit< tt) in grind (arith, nat_tests)
keeps_idle (Add (negsuc n)) h = let at_0 = h 0 0 (lit< tt) (lit< tt) in grind arith
keeps_idle AddDatum h = let at_0 = h 0 1 (lit< tt) (lit< tt) in grind arith
keeps_idle (Set k) h =
    let at_0 = h 0 0 (lit< tt) (lit< tt) in
    let at_1 = h 1 0 (lit< tt) (lit< tt) in
    grind arith

pub idles : (a : Action) → T (tally.idle a) ↔ ((s d : ℕ) → tally.Store s → tally.Datum d → tally.makes a s d ≡ s)
idles a = (idle_keeps a, keeps_idle a)

module _ (f : Range) (g : Guard) where
  nowhere : T (never g f) → Nowhere tally f g
  nowhere n s d ls ld m h =
      elim (either (misses g.count least greatest) (misses g.datum (lowest f) (highest f)) n) [
        | inl c ↦ missed g.count c (signed_between s ls) (and_l _ _ h)
        | inr c ↦ missed g.datum c (meets_between f d ld m) (and_r _ _ h)
      ]

  somewhere : (T (never g f) → ⊥) → Nowhere tally f g → ⊥
  somewhere n h =
      let (c, d) = neither (misses g.count least greatest) (misses g.datum (lowest f) (highest f)) n in
      of_stores f (λ y z. T (contains g.count y && contains g.datum z) → ⊥) h (shared g.count least)
      (shared g.datum (lowest f)) (shared_between g.count least greatest c)
      (shared_between g.datum (lowest f) (highest f) d)
      (and_i _ _ (shared_contained g.count least greatest c) (shared_contained g.datum (lowest f) (highest f) d))

  everywhere : T (always g f) → Everywhere tally f g
  everywhere a s d ls ld m =
      and_i _ _ (covered g.count (and_l _ _ a) (signed_between s ls))
      (covered g.datum (and_r _ _ a) (meets_between f d ld m))

  covers : (T (never g f) → ⊥) → Everywhere tally f g → T (always g f)
  covers n h =
      let (c, d) = neither (misses g.count least greatest) (misses g.datum (lowest f) (highest f)) n in
      let y = shared_between g.count least greatest c in
      let z = shared_between g.datum (lowest f) (highest f) d in
      let holds = of_stores f (λ y z. T (contains g.count y && contains g.datum z)) h in
      let low = holds least (lowest f) (at_low y) (at_low z) in
      let high = holds greatest (highest f) (at_high y) (at_high z) in
      and_i _ _ (covers_ends g.count least greatest (and_l _ _ low) (and_l _ _ high))
      (covers_ends g.datum (lowest f) (highest f) (and_r _ _ low) (and_r _ _ high))

pub rates : (f : Range) (g : Guard) → Rated tally f g (tally.rate g f)
rates f g = rated tally f g (never g f) (always g f) (nowhere f g) (somewhere f g) (everywhere f g) (covers f g)
