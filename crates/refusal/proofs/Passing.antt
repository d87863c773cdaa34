-- Where no check refuses, each of them is false.
use Rattle.std.proofs.Common.{◌≡◌, ℕ, Bool, true, false, cond, List, [], ◌∷◌, Option, Some, None, Ok, Err, refl, arith}
use Rattle.refusal.specs.declared.Refusal.{Refusal}
use Rattle.refusal.specs.Checks.{Check, first, answer}

-- every check is false
abbrev pub Passed : List Check → Type 0
Passed [] = Unit {0}
Passed (c ∷ cs) = (c.0 ≡ false) × Passed cs

pub passed : (cs : List Check) → None ≡ first cs → Passed cs
passed [] e = tt
passed (c ∷ cs) e = go c.0 refl e (passed cs)
  where
    go : (b : Bool) → c.0 ≡ b → None ≡ cond b (Some c.1) (first cs) → (None ≡ first cs → Passed cs) → (c.0 ≡ false) × Passed cs
    go true is h more = absurd (let z : ◌≡◌ {A = ℕ} 0 1 = cc in omega arith)
    go false is h more = (is, more h)

-- a call that answers no refusal is not refused
pub accepts : (o : Option Refusal) → Ok tt ≡ answer o → None ≡ o
accepts None e = refl
accepts (Some r) e = cc

-- a call that answers a refusal is refused with it
pub refuses : (o : Option Refusal) (r : Refusal) → Err r ≡ answer o → o ≡ Some r
refuses None r e = cc
refuses (Some s) r e = cc
