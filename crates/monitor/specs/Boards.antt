-- Boards: where each verdict of a sheet stands, and when a sheet is refused.
use Rattle.std.specs.Prelude.{◌≡◌, ℕ, ◌*◌, ◌<◌, ◌≤◌, Bool, true, false, not, List, [], ◌∷◌, length, Some, None, Option, ◌==◌, nat_lt, slice_index_or}
use Rattle.std.specs.List.{find, range_with_len}
use Rattle.refusal.specs.declared.Refusal.{Refusal}
use Rattle.refusal.specs.declared.Refusal.TheVariants.{NoRow, ShortBoard, ShortWork, NotExact}
use Rattle.refusal.specs.Checks.{Check, first}
use Rattle.reading.specs.Ends.{Ends, is_exact}
use Rattle.plan.specs.Plans.{Plan, cells, index}
use Rattle.verdict.specs.Algebra.{Ops}
use Rattle.network.specs.Measures.{Extend}
use Rattle.space.specs.Levels.{gathered, reached}
use Rattle.plan.specs.declared.statement.Statement.{Statement}
use Rattle.plan.specs.declared.statement.Statement.TheVariants.{AtLeast, Not, And, Or, Until, Since, Reach, Yes}
use Rattle.monitor.specs.Meaning.{Sheet}
use Rattle.monitor.specs.Verdicts.{column}

-- how many verdicts a sheet has
abbrev pub area : Plan → ℕ
area plan = length plan.rows * plan.steps * plan.places

-- the smallest of n cells that is not exact
abbrev pub inexact : (ℕ → Ends) → ℕ → Option ℕ
inexact readings n = find (λ k. not (is_exact (readings k))) (range_with_len 0 n)

-- a kind that takes ranges asks nothing of them; another kind asks that all are exact
abbrev pub exactness_checks : Bool → Option ℕ → List Check
exactness_checks true o = []
exactness_checks false None = []
exactness_checks false (Some k) = (true, NotExact k) ∷ []

-- the checks of a sheet, for the lengths of board and work
abbrev pub sheet_checks : Plan → (ℕ → Ends) → Bool → ℕ → ℕ → List Check
sheet_checks plan readings ranged board work =
    ((length plan.rows == 0), NoRow)
    ∷ (nat_lt board (area plan), ShortBoard)
    ∷ (nat_lt work (256 * plan.places), ShortWork)
    ∷ exactness_checks ranged (inexact readings (cells plan))

abbrev pub sheet_refusal : Plan → (ℕ → Ends) → Bool → ℕ → ℕ → Option Refusal
sheet_refusal plan readings ranged board work = first (sheet_checks plan readings ranged board work)

-- the sheet that a board shows, with a default beyond its end
abbrev pub shown : {V : Type 0} → Plan → List V → V → Sheet V
shown plan board d i t p = slice_index_or board (index plan i t p) d

-- the verdicts of f stand on the first n positions of a board
pub record Filled {V : Type 0} (plan : Plan) (f : Sheet V) (n : ℕ) (board : List V) : Type 0 where
  pub stand : (i t p : ℕ) (d : V) → t < plan.steps → p < plan.places → index plan i t p < n → shown plan board d i t p ≡ f i t p

-- from position n on, the new board holds what the old one held
pub record Beyond {V : Type 0} (n : ℕ) (old new : List V) : Type 0 where
  pub keeps : (k : ℕ) (d : V) → n ≤ k → slice_index_or new k d ≡ slice_index_or old k d

-- the board holds the verdicts of f at every row, step and place, and beyond the last row what it held
pub record Drawn {V : Type 0} (plan : Plan) (f : Sheet V) (old new : List V) : Type 0 where
  pub verdicts : (i t p : ℕ) (d : V) → i < length plan.rows → t < plan.steps → p < plan.places → shown plan new d i t p ≡ f i t p
  pub beyond : (k : ℕ) (d : V) → area plan ≤ k → slice_index_or new k d ≡ slice_index_or old k d

-- what a sheet request leaves: a refused one leaves board and work as they were, an accepted one a board with the sheet
abbrev pub Leaves : {V : Type 0} → Option Refusal → Plan → Sheet V → (old new : List V) → (old-work new-work : List V) → Type 0
Leaves None plan f old new old-work new-work = Drawn plan f old new
Leaves (Some e) plan f old new old-work new-work = (new ≡ old) × (new-work ≡ old-work)

-- the work holds what a statement's verdicts at step t are taken from: for reach the levels of distance, for the others nothing
module _ {V : Type 0} (o : Ops V) (x : Extend) (plan : Plan) (f : Sheet V) (t : ℕ) (work : List V) where
  abbrev pub Prepared : Statement → Type 0
  Prepared (AtLeast c k) = Unit {0}
  Prepared (Not r) = Unit {0}
  Prepared (And r s) = Unit {0}
  Prepared (Or r s) = Unit {0}
  Prepared (Until w) = Unit {0}
  Prepared (Since w) = Unit {0}
  Prepared (Reach r s d) =
      (p : ℕ) → p < plan.places → gathered o plan.places work d.from d.upto p ≡ reached o x t plan.pipes (column plan.places (f r t)) (column plan.places (f s t)) d.from d.upto p
  Prepared Yes = Unit {0}
