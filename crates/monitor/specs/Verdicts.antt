-- The verdict at every row, step and place, and that it is the one and only sheet.
use Rattle.std.specs.Prelude.{◌≡◌, ℕ, zero, suc, ◌+◌, ◌-◌, ◌<◌, min, cond, List, map, length, nat_le}
use Rattle.std.specs.List.{range_with_len}
use Rattle.reading.specs.Ends.{Ends}
use Rattle.verdict.specs.Algebra.{Ops}
use Rattle.network.specs.Measures.{Extend}
use Rattle.space.specs.Levels.{reached}
use Rattle.plan.specs.declared.statement.Statement.{Statement}
use Rattle.plan.specs.declared.statement.Statement.TheVariants.{AtLeast, Not, And, Or, Until, Since, Reach, Yes}
use Rattle.plan.specs.Plans.{Plan, index}
use Rattle.monitor.specs.Meaning.{Sheet, row_at, throughout, IsSheet}

-- the join, over the numbers k from low to below n, of the meet of s at k with r at 0 to k
abbrev pub windowed : {V : Type 0} → Ops V → (r s : ℕ → V) (low n : ℕ) → V
windowed o r s low zero = o.bottom
windowed o r s low (suc n) =
    cond (nat_le low n) (o.join (windowed o r s low n) (o.meet (s n) (throughout o r n))) (windowed o r s low n)

-- the verdicts at the places below n
abbrev pub column : {V : Type 0} → ℕ → (ℕ → V) → List V
column n f = map f (range_with_len 0 n)

module _ {V : Type 0} (o : Ops V) (x : Extend) (plan : Plan) (readings : ℕ → Ends) where
  -- the verdict of a statement over the verdicts f of the rows before it
  abbrev pub value : Sheet V → Statement → ℕ → ℕ → V
  value f (AtLeast c k) t p = o.judge (readings (index plan c t p)).low (readings (index plan c t p)).high k
  value f (Not r) t p = o.neg (f r t p)
  value f (And r s) t p = o.meet (f r t p) (f s t p)
  value f (Or r s) t p = o.join (f r t p) (f s t p)
  value f (Until w) t p =
      windowed o (λ k. f w.hold (t + k) p) (λ k. f w.goal (t + k) p) w.from (min (w.upto + 1) (plan.steps - t))
  value f (Since w) t p =
      windowed o (λ k. f w.hold (t - k) p) (λ k. f w.goal (t - k) p) w.from (min (w.upto + 1) (t + 1))
  value f (Reach r s d) t p =
      reached o x t plan.pipes (column plan.places (f r t)) (column plan.places (f s t)) d.from d.upto p
  value f Yes t p = o.top

  -- the verdicts of the rows below n; a row refers to rows before it, so n turns settle them
  abbrev pub below : ℕ → Sheet V
  below zero i t p = o.bottom
  below (suc n) i t p = value (below n) (row_at plan i) t p

  -- the verdict at a row, a step and a place
  abbrev pub verdict : Sheet V
  verdict i t p = below (suc i) i t p

  -- the verdicts have the meaning, and nothing else has
  pub record OneSheet : Type 0 where
    pub meant : IsSheet o x plan readings verdict
    pub only : (f : Sheet V) → IsSheet o x plan readings f → (i t p : ℕ) → i < length plan.rows → t < plan.steps → p < plan.places → f i t p ≡ verdict i t p
