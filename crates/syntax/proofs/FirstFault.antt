-- A line that is refused is the first that fails.
use Rattle.std.proofs.Common.{◌≡◌, ℕ, suc, ◌+◌, ◌-◌, ◌<◌, ◌≤◌, true, ◌⊎◌, List, [], ◌∷◌, ◌++◌, length, take, Some, None, Option, sym, refl, ap, ◌∙◌, subst, inl, inr, arith}
use Rattle.std.specs.List.{flat_map, AllByRecursion}
use Rattle.std.proofs.ByRecursion.{All-take}
use Rattle.std.proofs.lemmas.List.{length-append, length_push, take_at}
use Rattle.model.specs.declared.Cause.{Cause}
use Rattle.model.specs.declared.Cause.TheVariants.{Length, Form, Count, Name, Empty}
use Rattle.model.specs.declared.Refusal.{Refusal}
use Rattle.model.specs.Kind.{Kind}
use Rattle.model.specs.Plan.{Plan}
use Rattle.model.specs.Refusals.{number_of}
use Rattle.text.specs.Scan.{Scan, Taken, refused}
use Rattle.text.proofs.Cuts.{number_is}
use Rattle.kinds.specs.Spelling.{Spelling, ReadableParts}
use Rattle.syntax.specs.Texts.{line, lines_of, Formed}
use Rattle.syntax.specs.Faults.{Asked, Begins, FirstFault, RefusedFor}
use Rattle.syntax.proofs.Lines.{At, LineUnbroken, line_there, next_line}
use Rattle.syntax.proofs.Judged.{Answers, FormedAt, ReadsAt, WrongAt, given_line}
use Rattle.syntax.proofs.Reached.{lines_unbroken, Reached, reached_more}

all_middle : {X : Type 0} (P : X → Type 0) (xs : List X) (x : X) (ys : List X) → AllByRecursion P (xs ++ x ∷ ys) → P x
all_middle P [] x ys h = h.0
all_middle P (y ∷ xs) x ys h = all_middle P xs x ys h.1

refused_same : {X : Type 0} {r u : Refusal} → ◌≡◌ {A = Taken X} (refused r) (refused u) → r ≡ u
refused_same e = cc

module _ {F G A : Type 0} (k : Kind F G A) (f : Spelling F G A) (readable : ReadableParts f) where
  -- nothing is to be refused of the plan
  abbrev pub Passes : Plan F G A → Type 0
  Passes p = (d : Cause) → Asked k f d p

  -- the line after ls of a plan that begins with ls is a value's, of which nothing is wrong that the plan passes
  pub record NextValue {V : Type 0} (Good : V → Type 0) (tokens : V → List (List ℕ)) (wrong : V → Option Cause) (q : Plan F G A) (v : List (List ℕ)) : Type 0 where
    pub value : V
    pub good : Good value
    pub is : v ≡ tokens value
    pub right : (d : Cause) → Asked k f d q → wrong value ≡ Some d → ⊥

  -- a plan that begins with those lines, of which only c is to be refused, and what is after it
  pub record Nearly (ls : List (List (List ℕ))) (c : Cause) : Type 0 where
    pub plan : Plan F G A
    pub passes : (d : Cause) → number_of d < number_of c → Asked k f d plan
    pub more : List (List (List ℕ))
    pub lines : lines_of f plan ≡ ls ++ more

  -- how the lines ls of plans go on
  pub record Continues {V : Type 0} (Good : V → Type 0) (tokens : V → List (List ℕ)) (wrong : V → Option Cause) (ls : List (List (List ℕ))) : Type 0 where
    pub so_far : Plan F G A
    pub passes : Passes so_far
    pub more : List (List (List ℕ))
    pub lines : lines_of f so_far ≡ ls ++ more
    pub next : (q : Plan F G A) (v : List (List ℕ)) (others : List (List (List ℕ))) → Formed f q → lines_of f q ≡ ls ++ v ∷ others → NextValue Good tokens wrong q v
    pub nearly : (x : V) (c : Cause) → Good x → wrong x ≡ Some c → Nearly (ls ++ tokens x ∷ []) c
    pub within : (x : V) → wrong x ≡ Some Length → ⊥

  front_lines : (ls : List (List (List ℕ))) (p : Plan F G A) (more : List (List (List ℕ))) → lines_of f p ≡ ls ++ more → (length ls ≤ length (lines_of f p)) × (take (length ls) (lines_of f p) ≡ ls)
  front_lines ls p more e =
      let size = ap length e ∙ length-append ls more in
      (omega arith, ap (take (length ls)) e ∙ take_at ls more (length ls) refl)

  -- the first lines of the bytes are ls, as a plan's are
  begins : {bytes : List ℕ} (c n : ℕ) (ls : List (List (List ℕ))) (p : Plan F G A) (more : List (List (List ℕ))) {s : Scan} → ((d : Cause) → number_of d ≤ c → Asked k f d p)
      → lines_of f p ≡ ls ++ more → Reached bytes ls s → length ls ≡ n → Begins k f c n bytes
  begins {bytes} c n ls p more passes e r size =
      let (enough, front) = front_lines ls p more e in
      subst (λ m. Begins k f c m bytes) size
      (record { plan = p; passes = passes; enough = enough; rest = r.rest; is = r.is ∙ ap (λ l. flat_map line l ++ r.rest) (sym front) })

  module _ {V X : Type 0} (make : V → X) (Good : V → Type 0) (tokens : V → List (List ℕ)) (wrong : V → Option Cause) (ls : List (List (List ℕ))) (continues : Continues Good tokens wrong ls)
      (bytes : List ℕ) (s : Scan) (reached : Reached bytes ls s) (r : Refusal) (reads : ReadsAt make Good tokens wrong s (refused r)) where
    number : s.number ≡ suc (length ls)
    number = ap (λ (a : Scan). a.number) reached.at ∙ number_is true (suc (length ls)) (length (flat_map line ls)) reached.rest

    line_is : r.position.line ≡ suc (length ls)
    line_is = reads.there.0 ∙ number

    fine : Begins k f 5 (length ls) bytes
    fine = begins 5 (length ls) ls continues.so_far continues.more (λ d _. continues.passes d) continues.lines reached refl

    -- what is wrong with the line there, if it has the form, is why it was refused
    refused_by : (x : V) (z : Scan) → FormedAt make Good tokens wrong s x z → wrong x ≡ Some r.cause
    refused_by x z h = by (wrong x) (reads.back x z h)
      where
        by : (o : Option Cause) → Answers make Good tokens wrong x z o (refused r) → o ≡ Some r.cause
        by None e = cc
        by (Some d) (u, e, is) = ap Some (sym is ∙ ap (λ (a : Refusal). a.cause) (sym (refused_same e)))

    fails : (c : ℕ) → number_of r.cause ≡ c → 2 ≤ c → Begins k f c (suc (length ls)) bytes → ⊥
    fails c is two b =
        let front = (front_lines ls continues.so_far continues.more continues.lines).1 in
        let plain = subst (AllByRecursion LineUnbroken) front (All-take LineUnbroken (length ls) (lines_of f continues.so_far) (lines_unbroken f readable continues.so_far (continues.passes Form))) in
        let formed = b.passes Form two in
        let n = next_line ls (lines_of f b.plan) plain (lines_unbroken f readable b.plan formed) b.enough (sym b.is ∙ reached.is) in
        let v = continues.next b.plan n.line_next n.more formed n.lines_are in
        let bytes_are : reached.rest ≡ line (tokens v.value) ++ b.rest = n.bytes_are ∙ ap (λ ws. line ws ++ b.rest) v.is in
        let here : At (suc (length ls)) (length (flat_map line ls)) (line (tokens v.value) ++ b.rest) ≡ s = ap (At (suc (length ls)) (length (flat_map line ls))) (sym bytes_are) ∙ sym reached.at in
        let unbroken = subst LineUnbroken v.is (all_middle LineUnbroken ls _ _ (subst (AllByRecursion LineUnbroken) n.lines_are (lines_unbroken f readable b.plan formed))) in
        let there = given_line make Good tokens wrong (suc (length ls)) (length (flat_map line ls)) v.value b.rest unbroken v.good in
        let after = At (suc (suc (length ls))) (length (flat_map line ls) + length (line (tokens v.value))) b.rest in
        v.right r.cause (b.passes r.cause (omega (arith, is)))
        (refused_by v.value after (subst (λ a. FormedAt make Good tokens wrong a v.value after) here there))

    passes : (c : ℕ) → number_of r.cause ≡ c → 2 < c → Begins k f (c - 1) (suc (length ls)) bytes
    passes c is above = by reads.there.1
      where
        by : (r.cause ≡ Form) ⊎ WrongAt make Good tokens wrong s r.cause → Begins k f (c - 1) (suc (length ls)) bytes
        by (inl form) = absurd (omega (arith, ap number_of form))
        by (inr w) =
            let nearly = continues.nearly w.value r.cause w.there.formed w.by in
            let l = line_there (suc (length ls)) (length (flat_map line ls)) reached.rest (subst (λ a. FormedAt make Good tokens wrong a w.value w.next) reached.at w.there).line in
            let size : length (ls ++ tokens w.value ∷ []) ≡ suc (length ls) = omega (arith, length_push ls (tokens w.value)) in
            begins (c - 1) (suc (length ls)) (ls ++ tokens w.value ∷ []) nearly.plan nearly.more (λ d h. nearly.passes d (omega arith)) nearly.lines (reached_more ls reached l) size

    fault : (c : ℕ) → number_of r.cause ≡ c → 2 ≤ c → FirstFault k f c r.position.line bytes
    fault c is two =
        subst (λ n. FirstFault k f c n bytes) (sym line_is)
        (record { before = length ls; line_is = refl; fine = fine; passes = passes c is; fails = fails c is two })

    pub fault_at : RefusedFor k f bytes r r.cause
    fault_at = by r.cause refl
      where
        never : r.cause ≡ Length → (r.cause ≡ Form) ⊎ WrongAt make Good tokens wrong s r.cause → ⊥
        never e (inl form) = omega (arith, ap number_of e, ap number_of form)
        never e (inr w) = continues.within w.value (w.by ∙ ap Some e)

        by : (c : Cause) → r.cause ≡ c → RefusedFor k f bytes r c
        by Length e = absurd (never e reads.there.1)
        by Form e = fault 2 (ap number_of e) (omega arith)
        by Count e = fault 3 (ap number_of e) (omega arith)
        by Name e = fault 4 (ap number_of e) (omega arith)
        by Empty e = fault 5 (ap number_of e) (omega arith)
