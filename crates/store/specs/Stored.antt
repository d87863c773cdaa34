-- A store by its meaning: a capacity, and a range for each cell.
use Rattle.std.specs.Prelude.{◌≡◌, ℕ, ◌+◌, Bool, cond, not, ◌&&◌, List, [], ◌∷◌, length, replicate, Option, Result, nat_le, nat_lt, slice_index_or, slice_set}
use Rattle.reading.specs.Ends.{Ends, widest, inside, is_widest}
use Rattle.refusal.specs.declared.Refusal.{Refusal}
use Rattle.refusal.specs.declared.Refusal.TheVariants.{NoSuchCell, NotInside, StoreFull}
use Rattle.refusal.specs.Checks.{Check, first, answer, leaves}

pub record Stored : Type 0 where
  -- how many cells may be other than widest
  pub capacity : ℕ
  pub ranges : List Ends

abbrev pub stored : ℕ → List Ends → Stored
stored c rs = record { capacity = c; ranges = rs }

-- a cell's range, which is the widest beyond the cells
abbrev pub at : List Ends → ℕ → Ends
at rs k = slice_index_or rs k widest

-- how many cells are not widest
abbrev pub used : List Ends → ℕ
used [] = 0
used (r ∷ rs) = cond (is_widest r) 0 1 + used rs

-- the cell is widest, the range given is not, and no more cells may be other than widest
abbrev pub is_full : Stored → ℕ → Ends → Bool
is_full s k g = is_widest (at s.ranges k) && not (is_widest g) && nat_le s.capacity (used s.ranges)

-- the checks of an entry of the range g at the cell k
abbrev pub checks : Stored → ℕ → Ends → List Check
checks s k g =
    (not (nat_lt k (length s.ranges)), NoSuchCell)
    ∷ (not (inside g (at s.ranges k)), NotInside)
    ∷ (is_full s k g, StoreFull)
    ∷ []

abbrev pub refusal : Stored → ℕ → Ends → Option Refusal
refusal s k g = first (checks s k g)

-- an accepted entry leaves g in its cell, and all else as it was
abbrev pub accepted : Stored → ℕ → Ends → Stored
accepted s k g = stored s.capacity (slice_set s.ranges k g)

-- an entry answers r and turns s into s'
pub record Entered (s : Stored) (k : ℕ) (g : Ends) (r : Result (Unit {0}) Refusal) (s' : Stored) : Type 0 where
  pub answers : r ≡ answer (refusal s k g)
  pub after : s' ≡ leaves (refusal s k g) s (accepted s k g)

-- a store just made: every cell is widest
abbrev pub fresh : ℕ → ℕ → Stored
fresh cells capacity = stored capacity (replicate cells widest)
