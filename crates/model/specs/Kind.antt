-- What a kind of guard answers, and the laws that tie its answers to its meaning.
use Rattle.std.specs.Prelude.{◌≡◌, ℕ, ◌^◌, ◌<◌, Bool, T, ◌↔◌}
use Rattle.model.specs.declared.Rating.{Rating}
use Rattle.model.specs.declared.Rating.TheVariants.{Never, Maybe, Always}

-- the six answers, with the stores, the starting one and the datums
pub record Kind (F G A : Type 0) : Type 1 where
  pub Store : ℕ → Type 0
  pub start : ℕ
  pub Datum : ℕ → Type 0
  pub meets : F → ℕ → Bool
  pub empty : F → Bool
  pub holds : G → ℕ → ℕ → Bool
  pub makes : A → ℕ → ℕ → ℕ
  pub idle : A → Bool
  pub rate : G → F → Rating

module _ {F G A : Type 0} (k : Kind F G A) where
  -- the guard holds of no store and no datum that meets the fact
  abbrev pub Nowhere : F → G → Type 0
  Nowhere f g = (s d : ℕ) → k.Store s → k.Datum d → T (k.meets f d) → T (k.holds g s d) → ⊥

  -- the guard holds of every store and every datum that meets the fact
  abbrev pub Everywhere : F → G → Type 0
  Everywhere f g = (s d : ℕ) → k.Store s → k.Datum d → T (k.meets f d) → T (k.holds g s d)

  abbrev pub Rated : F → G → Rating → Type 0
  Rated f g Never = Nowhere f g
  Rated f g Maybe = (Nowhere f g → ⊥) × (Everywhere f g → ⊥)
  Rated f g Always = (Nowhere f g → ⊥) × Everywhere f g

  -- the answers hang together with the stores and datums, which are words
  pub record Laws : Type 0 where
    pub stores_fit : (s : ℕ) → k.Store s → s < 2 ^ 32
    pub datums_fit : (d : ℕ) → k.Datum d → d < 2 ^ 32
    pub begins : k.Store k.start
    pub stays : (a : A) (s d : ℕ) → k.Store s → k.Datum d → k.Store (k.makes a s d)
    pub datums : (f : F) (d : ℕ) → T (k.meets f d) → k.Datum d
    pub empties : (f : F) → T (k.empty f) ↔ ((d : ℕ) → T (k.meets f d) → ⊥)
    pub idles : (a : A) → T (k.idle a) ↔ ((s d : ℕ) → k.Store s → k.Datum d → k.makes a s d ≡ s)
    pub rates : (f : F) (g : G) → Rated f g (k.rate g f)
