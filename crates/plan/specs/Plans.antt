-- Plans, and the checks of pipes and rows, in checking order.
use Rattle.std.specs.Prelude.{ℕ, ◌+◌, ◌*◌, min, max, Bool, true, not, ◌&&◌, ◌||◌, List, [], ◌∷◌, ◌++◌, length, Some, None, Option, nat_le, nat_lt}
use Rattle.refusal.specs.declared.Refusal.{Refusal}
use Rattle.refusal.specs.declared.Refusal.TheVariants.{OutsideLimits, NoSuchPlace, NoSuchStep, TooLarge, PipesFull, NoSuchCode, NoSuchRow, NoSuchChannel, NoInterval, RowsFull}
use Rattle.refusal.specs.Checks.{Check, first}
use Rattle.network.specs.declared.pipe.Pipe.{Pipe}
use Rattle.plan.specs.declared.statement.Statement.{Statement}
use Rattle.plan.specs.declared.size.Size.{Size}
use Rattle.plan.specs.Rows.{refers, names_channel, has_interval}

-- what has been written of a plan
pub record Plan : Type 0 where
  pub places : ℕ
  pub steps : ℕ
  pub channels : ℕ
  pub pipes : List Pipe
  -- in the order of their numbers, from 0
  pub rows : List Statement

-- how many cells there are
abbrev pub cells : Plan → ℕ
cells plan = plan.channels * plan.steps * plan.places

-- the index of what belongs to a channel or a row n, a step and a place
abbrev pub index : Plan → ℕ → ℕ → ℕ → ℕ
index plan n t p = (n * plan.steps + t) * plan.places + p

-- from 1 to the most that there may be
abbrev pub within_most : ℕ → ℕ → Bool
within_most n most = nat_le 1 n && nat_le n most

-- there are 1 to 32 places, 1 to 64 steps and 1 to 4 channels
abbrev pub size_checks : Size → List Check
size_checks size =
    (not (within_most size.places 32 && within_most size.steps 64 && within_most size.channels 4), OutsideLimits) ∷ []

abbrev pub size_refusal : Size → Option Refusal
size_refusal size = first (size_checks size)

-- the number from 1 to the most that is nearest
abbrev pub nearest_most : ℕ → ℕ → ℕ
nearest_most most n = min (max n 1) most

-- a plan just opened
abbrev pub opened : Size → Plan
opened size =
    record { places = nearest_most 32 size.places; steps = nearest_most 64 size.steps; channels = nearest_most 4 size.channels; pipes = []; rows = [] }

abbrev pub pipe_checks : Plan → Pipe → List Check
pipe_checks plan e =
    (nat_le plan.places e.from || nat_le plan.places e.to, NoSuchPlace)
    ∷ (nat_lt e.last e.first || nat_le plan.steps e.last, NoSuchStep)
    ∷ (nat_lt 1000 e.length || nat_lt 1000 e.drop, TooLarge)
    ∷ (nat_le 255 (length plan.pipes), PipesFull)
    ∷ []

abbrev pub pipe_refusal : Plan → Pipe → Option Refusal
pipe_refusal plan e = first (pipe_checks plan e)

abbrev pub with_pipe : Plan → Pipe → Plan
with_pipe plan e =
    record { places = plan.places; steps = plan.steps; channels = plan.channels; pipes = plan.pipes ++ e ∷ []; rows = plan.rows }

abbrev pub row_checks : Plan → Option Statement → List Check
row_checks plan None = (true, NoSuchCode) ∷ []
row_checks plan (Some s) =
    (not (refers (length plan.rows) s), NoSuchRow)
    ∷ (not (names_channel plan.channels s), NoSuchChannel)
    ∷ (not (has_interval s), NoInterval)
    ∷ (nat_le 32 (length plan.rows), RowsFull)
    ∷ []

abbrev pub row_refusal : Plan → Option Statement → Option Refusal
row_refusal plan row = first (row_checks plan row)

-- the statements that a row asked for adds
abbrev pub statements : Option Statement → List Statement
statements None = []
statements (Some s) = s ∷ []

abbrev pub with_row : Plan → Option Statement → Plan
with_row plan row =
    record { places = plan.places; steps = plan.steps; channels = plan.channels; pipes = plan.pipes; rows = plan.rows ++ statements row }
