-- A call's checks, in the order in which they are made, and what the call then answers and leaves.
use Rattle.std.specs.Prelude.{Bool, cond, List, [], ◌∷◌, Some, None, Ok, Err, Option, Result}
use Rattle.refusal.specs.declared.Refusal.{Refusal}

-- a test that refuses where it is true, and the refusal
abbrev pub Check : Type 0
Check = Bool × Refusal

-- the first refusal that fits, if one does
abbrev pub first : List Check → Option Refusal
first [] = None
first (c ∷ cs) = cond c.0 (Some c.1) (first cs)

-- what a call answers that has nothing to tell but its refusal
abbrev pub answer : Option Refusal → Result (Unit {0}) Refusal
answer None = Ok tt
answer (Some e) = Err e

-- what a call leaves: the old where it is refused, else the new
abbrev pub leaves : {A : Type 0} → Option Refusal → A → A → A
leaves None old new = new
leaves (Some e) old new = old
