-- What the code's reading gives, by what the reading of the text comes to.
use Rattle.std.specs.Prelude.{◌≡◌, Ok, Err, Result}
use Rattle.model.specs.declared.Refusal.{Refusal}
use Rattle.model.specs.Plan.{Plan}
use Rattle.kinds.specs.declared.kind.Kind.{Ghosts}
use Rattle.plans.specs.declared.error.ReadError.{ReadError}
use Rattle.plans.specs.declared.error.ReadError.TheVariants.{Refused, Memory}
use Rattle.plans.specs.declared.plan.Plan.{Plan as Plans}
use Rattle.plans.specs.Meaning.{plan_of}

module _ {K F G A : Type 0} {b : Ghosts K F G A} where
  -- a result, with what its plan stands for
  abbrev pub meant : {E : Type 0} → Result (Plans K F G A b) E → Result (Plan F G A) E
  meant (Ok p) = Ok (plan_of p)
  meant (Err e) = Err e

  -- what came back, where t is what the reading comes to: its plan or its refusal, or want of memory, where M holds
  abbrev pub Reads : Result (Plan F G A) Refusal → Type 0 → Result (Plans K F G A b) ReadError → Type 0
  Reads t M (Ok p) = t ≡ Ok (plan_of p)
  Reads t M (Err (Refused r)) = t ≡ Err r
  Reads t M (Err Memory) = M

  -- the plan p replaced whole by that plan; else it is as it was
  abbrev pub Replaced : Result (Plan F G A) Refusal → Type 0 → Plans K F G A b → Result (Unit {0}) ReadError → Plans K F G A b → Type 0
  Replaced t M p (Ok u) q = t ≡ Ok (plan_of q)
  Replaced t M p (Err (Refused r)) q = (t ≡ Err r) × (q ≡ p)
  Replaced t M p (Err Memory) q = M × (q ≡ p)

  -- a plan with one thing more, or want of memory
  abbrev pub Grown : Plan F G A → Result (Unit {0}) ReadError → Plans K F G A b → Type 0
  Grown more (Ok u) q = plan_of q ≡ more
  Grown more (Err e) q = e ≡ Memory
