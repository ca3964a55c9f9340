-- Where a text is refused: the first line that fails, and what it fails by.
use Rattle.std.specs.Prelude.{◌≡◌, ℕ, suc, ◌-◌, ◌<◌, ◌≤◌, true, List, ◌++◌, length, take, Err}
use Rattle.std.specs.List.{list_all, flat_map}
use Rattle.model.specs.declared.Cause.{Cause}
use Rattle.model.specs.declared.Cause.TheVariants.{Length, Form, Count, Name, Empty}
use Rattle.model.specs.declared.Refusal.{Refusal}
use Rattle.model.specs.Kind.{Kind}
use Rattle.model.specs.Plan.{Plan, sizes_in, bad_in, arc_in, edge_in, fact_filled}
use Rattle.model.specs.Refusals.{number_of}
use Rattle.kinds.specs.Spelling.{Spelling}
use Rattle.syntax.specs.Reading.{reading, too_long}
use Rattle.syntax.specs.Texts.{line, lines_of, Formed}

module _ {F G A : Type 0} (k : Kind F G A) (f : Spelling F G A) where
  -- what is asked of a plan under each number of a refusal. The first is about the text alone
  abbrev pub Asked : Cause → Plan F G A → Type 0
  Asked Length p = Unit {0}
  Asked Form p = Formed f p
  Asked Count p = (sizes_in p.nodes p.states p.events ≡ true) × (length p.arcs ≤ 512) × (length p.edges ≤ 256)
  Asked Name p =
      (bad_in p.states p.bad ≡ true)
      × (list_all (arc_in p.nodes p.events) p.arcs ≡ true)
      × (list_all (edge_in p.states p.events) p.edges ≡ true)
  Asked Empty p = list_all (λ a. fact_filled k a.point) p.arcs ≡ true

  -- the first n lines of the bytes are the first n lines of the text of a plan that passes all numbers up to c
  pub record Begins (c n : ℕ) (bytes : List ℕ) : Type 0 where
    pub plan : Plan F G A
    pub passes : (d : Cause) → number_of d ≤ c → Asked d plan
    pub enough : n ≤ length (lines_of f plan)
    pub rest : List ℕ
    pub is : bytes ≡ flat_map line (take n (lines_of f plan)) ++ rest

  -- a line fails by the number c: the lines before it are the first lines of a plan's text; with it they are those of a plan
  -- that passes the numbers below c (of any plan at all, from 3 on), and of none that passes c too
  pub record FirstFault (c n : ℕ) (bytes : List ℕ) : Type 0 where
    pub before : ℕ
    pub line_is : n ≡ suc before
    pub fine : Begins 5 before bytes
    pub passes : 2 < c → Begins (c - 1) n bytes
    pub fails : Begins c n bytes → ⊥

  abbrev pub RefusedFor : List ℕ → Refusal → Cause → Type 0
  RefusedFor bytes r Length = (32768 < length bytes) × (r ≡ too_long)
  RefusedFor bytes r Form = FirstFault 2 r.position.line bytes
  RefusedFor bytes r Count = FirstFault 3 r.position.line bytes
  RefusedFor bytes r Name = FirstFault 4 r.position.line bytes
  RefusedFor bytes r Empty = FirstFault 5 r.position.line bytes

  -- for all bytes: a refusal names the first line that fails, and the smallest number by which it does
  abbrev pub RefusesAtFirstFault : Type 0
  RefusesAtFirstFault = (bytes : List ℕ) (r : Refusal) → reading k f bytes ≡ Err r → RefusedFor bytes r r.cause
