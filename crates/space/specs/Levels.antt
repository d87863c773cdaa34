-- Reach by levels. A level holds a verdict for each place; the levels lie in one list, one after the other.
use Rattle.std.specs.Prelude.{ℕ, zero, suc, ◌+◌, ◌-◌, ◌*◌, min, cond, List, ◌++◌, length, replicate, Some, None, fold, Option, slice_index_or, slice_set}
use Rattle.network.specs.declared.pipe.Pipe.{Pipe}
use Rattle.verdict.specs.Algebra.{Ops}
use Rattle.network.specs.Measures.{Extend}
use Rattle.network.specs.Routes.{stands}

-- the highest level, which takes every distance at or above it: one past the interval, or its low end where it has no high end
abbrev pub cap : ℕ → Option ℕ → ℕ
cap low None = low
cap low (Some high) = suc high

-- how many levels are worked through: those up to the interval's high end
abbrev pub tall : ℕ → Option ℕ → ℕ
tall low None = suc low
tall low (Some high) = suc high

module _ {V : Type 0} (o : Ops V) where
  -- the verdict at a place
  abbrev pub val : List V → ℕ → V
  val xs p = slice_index_or xs p o.bottom

  -- the verdict on level d at place p, of so many places
  abbrev pub at : ℕ → List V → ℕ → ℕ → V
  at places xs d p = slice_index_or xs (d * places + p) o.bottom

  -- level 0 is the goal, the others are bottom
  abbrev pub begun : (goal : List V) (top : ℕ) → List V
  begun goal top = goal ++ replicate (top * length goal) o.bottom

  module _ (through : List V) where
    -- the pipe's near end, on a level `high`, joins what its far end has on a level `low`
    abbrev pub lifted : (low high : ℕ) → List V → Pipe → List V
    lifted low high xs e = slice_set xs (high * length through + e.from) (o.join (at (length through) xs high e.from) (o.meet (val through e.from) (at (length through) xs low e.to)))

    module _ (x : Extend) (t top : ℕ) where
      -- a pipe that stands lifts from level d to the level that it extends d to
      abbrev pub pushed : ℕ → List V → Pipe → List V
      pushed d xs e = cond (stands t e) (lifted d (min (x d e) top) xs e) xs

      module _ (pipes : List Pipe) where
        -- every pipe in turn
        abbrev pub passed : ℕ → List V → List V
        passed d xs = fold (pushed d) xs pipes

        -- n times
        abbrev pub passes : ℕ → ℕ → List V → List V
        passes d zero xs = xs
        passes d (suc n) xs = passed d (passes d n xs)

        -- the levels below n, from level 0 up: on each as many passes as there are places, which settle it, and one more, which hands on what has settled
        abbrev pub climbed : ℕ → List V → List V
        climbed zero xs = xs
        climbed (suc d) xs = passes d (suc (length through)) (climbed d xs)

  -- the join of n levels, from level low on
  abbrev pub joined : (places : ℕ) → List V → ℕ → ℕ → ℕ → V
  joined places xs low zero p = o.bottom
  joined places xs low (suc n) p = o.join (joined places xs low n p) (at places xs (low + n) p)

  -- the join of the levels in the interval, at place p
  abbrev pub gathered : (places : ℕ) → List V → (low : ℕ) (high : Option ℕ) → ℕ → V
  gathered places xs low high p = joined places xs low (tall low high - low) p

  -- the verdict of reach at place p
  abbrev pub reached : (x : Extend) (t : ℕ) (pipes : List Pipe) (through goal : List V) (low : ℕ) (high : Option ℕ) → ℕ → V
  reached x t pipes through goal low high p =
      gathered (length through) (climbed through x t (cap low high) pipes (tall low high) (begun goal (cap low high))) low high p
