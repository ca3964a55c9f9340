-- Proofs of the laws of the holder kind, each under its law's name.
use Rattle.std.specs.Prelude.{◌≡◌, ℕ, ◌^◌, ◌<◌, ◌≤◌, Bool, true, false, cond, T, ◌↔◌, ◌==◌, refl}
use Rattle.std.proofs.Common.{subst, arith, lit≤, eqb→eq, T_not}
use Rattle.std.proofs.Math.Dec.{eqb_refl, not_T}
use Rattle.std.specs.Float.Ieee.Fits.{and_l}
use Rattle.std.proofs.lemmas.Bool.Decides.{nat_tests}
use Rattle.model.specs.declared.Rating.{Rating}
use Rattle.model.specs.declared.Rating.TheVariants.{Maybe}
use Rattle.model.specs.Kind.{Rated, Nowhere, Everywhere}
use Rattle.holder.specs.declared.data.Fact.{Fact}
use Rattle.holder.specs.declared.data.Fact.TheVariants.{Any, Only, Except}
use Rattle.holder.specs.declared.data.Guard.{Guard}
use Rattle.holder.specs.declared.data.Guard.TheVariants.{True, IsHolder, NotHolder, Nobody, Somebody, User}
use Rattle.holder.specs.declared.data.Action.{Action}
use Rattle.holder.specs.declared.data.Action.TheVariants.{Nothing, Take, Clear}
use Rattle.holder.specs.Holder.{holder, largest, is_user, rate_user, rate_met}

pub stores_fit : (s : ℕ) → holder.Store s → s < 2 ^ 32
stores_fit s h = omega arith

user_below : (d : ℕ) → T (is_user d) → d ≤ largest
user_below d h = grind (arith, nat_tests)

pub datums_fit : (d : ℕ) → holder.Datum d → d < 2 ^ 32
datums_fit d h = let l = user_below d h in omega arith

pub begins : holder.Store holder.start
begins = lit≤ tt

pub stays : (a : Action) (s d : ℕ) → holder.Store s → holder.Datum d → holder.Store (holder.makes a s d)
stays Nothing s d p q = p
stays Take s d p q = user_below d q
stays Clear s d p q = lit≤ tt

pub datums : (f : Fact) (d : ℕ) → T (holder.meets f d) → holder.Datum d
datums Any d m = m
datums (Only u) d m = and_l _ _ m
datums (Except u) d m = and_l _ _ m

empty_unmet : (f : Fact) → T (holder.empty f) → (d : ℕ) → T (holder.meets f d) → ⊥
empty_unmet Any e d m = e
empty_unmet (Only u) e d m = grind (arith, nat_tests)
empty_unmet (Except u) e d m = e

unmet_empty : (f : Fact) → ((d : ℕ) → T (holder.meets f d) → ⊥) → T (holder.empty f)
unmet_empty Any h = h 1 tt
unmet_empty (Only u) h = let at_u = h u in grind (arith, nat_tests)
unmet_empty (Except u) h = let at_1 = h 1 in let at_2 = h 2 in grind (arith, nat_tests)

pub empties : (f : Fact) → T (holder.empty f) ↔ ((d : ℕ) → T (holder.meets f d) → ⊥)
empties f = (empty_unmet f, unmet_empty f)

idle_keeps : (a : Action) → T (holder.idle a) → (s d : ℕ) → holder.Store s → holder.Datum d → holder.makes a s d ≡ s
idle_keeps Nothing i s d p q = refl
idle_keeps Take i s d p q = absurd i
idle_keeps Clear i s d p q = absurd i

keeps_idle : (a : Action) → ((s d : ℕ) → holder.Store s → holder.Datum d → holder.makes a s d ≡ s) → T (holder.idle a)
keeps_idle Nothing h = tt
keeps_idle Take h = let at_0 = h 0 1 (lit≤ tt) tt in omega arith
keeps_idle Clear h = let at_1 = h 1 1 (lit≤ tt) tt in omega arith

pub idles : (a : Action) → T (holder.idle a) ↔ ((s d : ℕ) → holder.Store s → holder.Datum d → holder.makes a s d ≡ s)
idles a = (idle_keeps a, keeps_idle a)

-- by a test: what each answer shows
by_test : (b : Bool) (P : Rating → Type 0) {x y : Rating} → (T b → P x) → ((T b → ⊥) → P y) → P (cond b x y)
by_test true P p q = p tt
by_test false P p q = q (λ t. t)

not_nobody : (d : ℕ) → holder.Datum d → T (0 == d) → ⊥
not_nobody d q t = grind (arith, nat_tests)

user_somewhere : (f : Fact) (u : ℕ) → T (holder.meets f u) → Nowhere holder f (User u) → ⊥
user_somewhere f u m nowhere = nowhere 0 u (lit≤ tt) (datums f u m) m (eqb_refl u)

-- a user is not alone under `Any`, nor under `Except`
any_elsewhere : (u : ℕ) → Everywhere holder Any (User u) → ⊥
any_elsewhere u everywhere =
    let at_1 = everywhere 0 1 (lit≤ tt) tt tt in
    let at_2 = everywhere 0 2 (lit≤ tt) tt tt in
    grind (arith, nat_tests)

except_elsewhere : (v u : ℕ) → Everywhere holder (Except v) (User u) → ⊥
except_elsewhere v u everywhere =
    let at_1 = everywhere 0 1 (lit≤ tt) tt in
    let at_2 = everywhere 0 2 (lit≤ tt) tt in
    let at_3 = everywhere 0 3 (lit≤ tt) tt in
    grind (arith, nat_tests)

user_met : (f : Fact) (u : ℕ) → T (holder.meets f u) → Rated holder f (User u) (rate_user f)
user_met Any u m = (user_somewhere Any u m, any_elsewhere u)
user_met (Only v) u m = (user_somewhere (Only v) u m, λ s d p q n. grind (arith, nat_tests))
user_met (Except v) u m = (user_somewhere (Except v) u m, except_elsewhere v u)

-- under a fact that some user meets
module _ (f : Fact) (some : ((d : ℕ) → T (holder.meets f d) → ⊥) → ⊥) where
  -- whatever the datum, the guard holds of one store and not of another
  by_store : (g : Guard) (one other : ℕ → ℕ) → ((d : ℕ) → holder.Datum d → holder.Store (one d) × T (holder.holds g (one d) d)) → ((d : ℕ) → holder.Datum d → holder.Store (other d) × (T (holder.holds g (other d) d) → ⊥)) → Rated holder f g Maybe
  by_store g one other h n = (
    λ nowhere. some (λ d m. let (p, t) = h d (datums f d m) in nowhere (one d) d p (datums f d m) m t),
    λ everywhere. some (λ d m. let (p, t) = n d (datums f d m) in t (everywhere (other d) d p (datums f d m) m)),
  )

  met : (g : Guard) → Rated holder f g (rate_met g f)
  met True = (λ nowhere. some (λ d m. nowhere 0 d (lit≤ tt) (datums f d m) m tt), λ s d p q m. tt)
  met IsHolder = by_store IsHolder (λ d. d) (λ d. 0) (λ d q. (user_below d q, eqb_refl d)) (λ d q. (lit≤ tt, not_nobody d q))
  met NotHolder = by_store NotHolder (λ d. 0) (λ d. d) (λ d q. (lit≤ tt, not_T _ (not_nobody d q))) (λ d q. (user_below d q, λ t. T_not _ t (eqb_refl d)))
  met Nobody = by_store Nobody (λ d. 0) (λ d. 1) (λ d q. (lit≤ tt, tt)) (λ d q. (lit≤ tt, λ t. t))
  met Somebody = by_store Somebody (λ d. 1) (λ d. 0) (λ d q. (lit≤ tt, tt)) (λ d q. (lit≤ tt, λ t. t))
  met (User u) =
      by_test (holder.meets f u) (Rated holder f (User u)) (user_met f u)
      (λ n s d p q m h. n (subst (λ x. T (holder.meets f x)) (eqb→eq d u h) m))

pub rates : (f : Fact) (g : Guard) → Rated holder f g (holder.rate g f)
rates f g =
    by_test (holder.empty f) (Rated holder f g) (λ e s d p q m h. empty_unmet f e d m)
    (λ n. met f (λ h. n (unmet_empty f h)) g)
