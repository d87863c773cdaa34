-- What each row of a plan means.
use Rattle.std.specs.Prelude.{◌≡◌, ℕ, zero, suc, ◌+◌, ◌-◌, ◌<◌, ◌≤◌, length, slice_index_or}
use Rattle.reading.specs.Ends.{Ends}
use Rattle.verdict.specs.Algebra.{Ops}
use Rattle.verdict.specs.Least.{Least}
use Rattle.network.specs.Measures.{Extend}
use Rattle.network.specs.Routes.{Reaching}
use Rattle.space.specs.Along.{along}
use Rattle.plan.specs.declared.statement.Statement.{Statement}
use Rattle.plan.specs.declared.statement.Statement.TheVariants.{AtLeast, Not, And, Or, Until, Since, Reach, Yes}
use Rattle.plan.specs.Plans.{Plan, index}

-- a verdict for each row, step and place
abbrev pub Sheet : Type 0 → Type 0
Sheet V = ℕ → ℕ → ℕ → V

-- the row of a number; there is a yes beyond the last
abbrev pub row_at : Plan → ℕ → Statement
row_at plan i = slice_index_or plan.rows i Yes

-- a recorded step from a to b steps after t
pub record Later (steps t a b : ℕ) : Type 0 where
  pub wait : ℕ
  pub soon : a ≤ wait
  pub late : wait ≤ b
  pub recorded : t + wait < steps

-- a recorded step from a to b steps before t
pub record Earlier (t a b : ℕ) : Type 0 where
  pub ago : ℕ
  pub soon : a ≤ ago
  pub late : ago ≤ b
  pub recorded : ago ≤ t

-- the meet of r at 0, 1 and so on up to n
abbrev pub throughout : {V : Type 0} → Ops V → (ℕ → V) → ℕ → V
throughout o r zero = r zero
throughout o r (suc n) = o.meet (throughout o r n) (r (suc n))

-- for a verdict kind, a measure, a plan, and a range for each cell
module _ {V : Type 0} (o : Ops V) (x : Extend) (plan : Plan) (readings : ℕ → Ends) where
  -- over the verdicts f of the rows before it, a statement's verdict at step t and place p is v
  abbrev pub Means : Sheet V → Statement → ℕ → ℕ → V → Type 0
  Means f (AtLeast c k) t p v =
      v ≡ o.judge (readings (index plan c t p)).low (readings (index plan c t p)).high k
  Means f (Not r) t p v = v ≡ o.neg (f r t p)
  Means f (And r s) t p v = v ≡ o.meet (f r t p) (f s t p)
  Means f (Or r s) t p v = v ≡ o.join (f r t p) (f s t p)
  -- the least verdict at or above, for each later step, the meet of the goal then with `hold` at all steps from now to then
  Means f (Until w) t p v =
      Least o (Later plan.steps t w.from w.upto) (λ u. o.meet (f w.goal (t + u.wait) p) (throughout o (λ k. f w.hold (t + k) p) u.wait)) v
  -- the same over earlier steps
  Means f (Since w) t p v =
      Least o (Earlier t w.from w.upto) (λ u. o.meet (f w.goal (t - u.ago) p) (throughout o (λ k. f w.hold (t - k) p) u.ago)) v
  -- the least verdict at or above, for each route from p in the interval, the meet of s at its last place with r at every earlier one
  Means f (Reach r s d) t p v =
      Least o (Reaching x t plan.pipes d.from d.upto p) (λ u. along o (f r t) (f s t) p u.over) v
  Means f Yes t p v = v ≡ o.top

  -- f has at every row, step and place of the plan the verdict that the row means there
  pub record IsSheet (f : Sheet V) : Type 0 where
    pub means : (i t p : ℕ) → i < length plan.rows → t < plan.steps → p < plan.places → Means f (row_at plan i) t p (f i t p)
