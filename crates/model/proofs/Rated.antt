-- Two tests that rate a guard under a fact, for any kind.
use Rattle.std.proofs.Common.{Bool, true, false, cond, ◌||◌, T, ◌⊎◌, inl, inr}
use Rattle.model.specs.declared.Rating.TheVariants.{Never, Maybe, Always}
use Rattle.model.specs.Kind.{Kind, Rated, Nowhere, Everywhere}

pub either : (a b : Bool) → T (a || b) → T a ⊎ T b
either true b t = inl tt
either false b t = inr t

pub neither : (a b : Bool) → (T (a || b) → ⊥) → (T a → ⊥) × (T b → ⊥)
neither true b n = (n, λ _. n tt)
neither false b n = (λ x. x, n)

pub stable : (b : Bool) → ((T b → ⊥) → ⊥) → T b
stable true h = tt
stable false h = h (λ x. x)

module _ {F G A : Type 0} (k : Kind F G A) (f : F) (g : G) where
  -- the first test tells Never, and the second Always where the first fails
  pub rated : (n a : Bool) → (T n → Nowhere k f g) → ((T n → ⊥) → Nowhere k f g → ⊥) → (T a → Everywhere k f g) → ((T n → ⊥) → Everywhere k f g → T a) → Rated k f g (cond n Never (cond a Always Maybe))
  rated true a nowhere somewhere everywhere covers = nowhere tt
  rated false true nowhere somewhere everywhere covers = (somewhere (λ x. x), everywhere tt)
  rated false false nowhere somewhere everywhere covers = (somewhere (λ x. x), covers (λ x. x))
