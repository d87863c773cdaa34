-- What the levels come to: the least verdict at or above every route in the interval.
use Rattle.std.specs.Prelude.{◌≡◌, ℕ, ◌<◌, ◌≤◌, List, length, Option}
use Rattle.network.specs.declared.pipe.Pipe.{Pipe}
use Rattle.verdict.specs.Algebra.{Ops}
use Rattle.verdict.specs.Least.{Least}
use Rattle.network.specs.Routes.{Joined}
use Rattle.space.specs.Along.{along}
use Rattle.network.specs.Measures.{Extend}
use Rattle.network.specs.Routes.{Reaching}
use Rattle.space.specs.Levels.{val, cap, reached}

module _ {V : Type 0} (o : Ops V) (x : Extend) where
  -- v is the least verdict at or above, for each route from p in the interval, the meet of the goal at its last place with `through` at every earlier one
  abbrev pub Reached : (t : ℕ) (pipes : List Pipe) (through goal : List V) (low : ℕ) (high : Option ℕ) (p : ℕ) → V → Type 0
  Reached t pipes through goal low high p v = Least o (Reaching x t pipes low high p) (λ u. along o (val o through) (val o goal) p u.over) v

  -- the levels give that verdict
  abbrev pub Reaches : Type 0
  Reaches = (t : ℕ) (pipes : List Pipe) (through goal : List V) (low : ℕ) (high : Option ℕ) → length goal ≡ length through → Joined (length through) pipes → cap low high ≤ 65535 → (p : ℕ) → p < length through → Reached t pipes through goal low high p (reached o x t pipes through goal low high p)
