-- What a step that took a value says of its parts.
use Rattle.std.proofs.Common.{◌≡◌, Bool, true, false, cond, ◌⊎◌, Ok, Err, Result, refl, inl, inr}
use Rattle.model.specs.declared.Refusal.{Refusal}
use Rattle.text.specs.Scan.{Scan, Taken, took, refused, taken, then}
use Rattle.syntax.specs.Items.{and_then}

-- the first of two steps took something, and the second went on from there
pub record Parts {X Y : Type 0} (t : Taken X) (go : X → Scan → Taken Y) (y : Y) (z : Scan) : Type 0 where
  pub value : X
  pub at : Scan
  pub first : t ≡ took value at
  pub second : go value at ≡ took y z

pub then_took : {X Y : Type 0} (t : Taken X) (go : X → Scan → Taken Y) {y : Y} {z : Scan} → then t go ≡ took y z → Parts t go y z
then_took (took x s) go e = record { value = x; at = s; first = refl; second = e }
then_took (refused r) go e = cc

pub taken_took : {X : Type 0} (r : Result X Refusal) (s : Scan) {x : X} {z : Scan} → taken r s ≡ took x z → (r ≡ Ok x) × (s ≡ z)
taken_took (Ok y) s e = (cc, cc)
taken_took (Err f) s e = cc

pub record Results {X Y E : Type 0} (r : Result X E) (go : X → Result Y E) (y : Y) : Type 0 where
  pub value : X
  pub first : r ≡ Ok value
  pub second : go value ≡ Ok y

pub and_then_ok : {X Y E : Type 0} (r : Result X E) (go : X → Result Y E) {y : Y} → and_then r go ≡ Ok y → Results r go y
and_then_ok (Ok x) go e = record { value = x; first = refl; second = e }
and_then_ok (Err f) go e = cc

-- a test that passed
pub test_ok : {X E : Type 0} (b : Bool) (r : Result X E) (e : E) {x : X} → cond b r (Err e) ≡ Ok x → (b ≡ true) × (r ≡ Ok x)
test_ok true r e h = (refl, h)
test_ok false r e h = cc

-- a test that failed
pub test_failed : {X E : Type 0} (b : Bool) (e : E) (r : Result X E) {x : X} → cond b (Err e) r ≡ Ok x → (b ≡ false) × (r ≡ Ok x)
test_failed false e r h = (refl, h)
test_failed true e r h = cc

pub cond_cases : {X : Type 0} (b : Bool) (x y : X) {z : X} → cond b x y ≡ z → ((b ≡ true) × (x ≡ z)) ⊎ ((b ≡ false) × (y ≡ z))
cond_cases true x y e = inl (refl, e)
cond_cases false x y e = inr (refl, e)

pub ok_same : {X E : Type 0} {x y : X} → ◌≡◌ {A = Result X E} (Ok x) (Ok y) → x ≡ y
ok_same e = cc
