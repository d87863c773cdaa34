-- A survey by what it holds, and the checks of its calls, in checking order.
use Rattle.std.specs.Prelude.{ℕ, Bool, cond, not, ◌&&◌, List, [], ◌∷◌, length, Some, None, Option, ◌==◌, nat_lt}
use Rattle.refusal.specs.declared.Refusal.{Refusal}
use Rattle.refusal.specs.declared.Refusal.TheVariants.{OtherCells, NoSuchCell, NoRange}
use Rattle.refusal.specs.Checks.{Check, first}
use Rattle.reading.specs.Ends.{Ends, is_range}
use Rattle.store.specs.Stored.{Stored, stored, checks, accepted}
use Rattle.plan.specs.Plans.{Plan, cells, index}
use Rattle.plan.specs.Drafts.{plan_of}
use Rattle.reading.specs.declared.entry.Entry.{Entry}
use Rattle.survey.specs.declared.survey.Survey.{Survey}

-- what a survey holds
pub record Surveyed : Type 0 where
  pub plan : Plan
  pub number : ℕ
  pub store : Stored

abbrev pub surveyed : Plan → ℕ → Stored → Surveyed
surveyed plan number store = record { plan = plan; number = number; store = store }

-- by the meaning of its store: the capacity and the ranges
abbrev pub survey_of : {S : Type 0} → (S → ℕ) → (S → List Ends) → Survey S → Surveyed
survey_of most ranges s = surveyed (plan_of s.draft) s.number (stored (most s.store) (ranges s.store))

-- the store's cells are those of the plan
abbrev pub sealing_checks : Plan → ℕ → List Check
sealing_checks plan n = (not (n == cells plan), OtherCells) ∷ []

abbrev pub sealing_refusal : Plan → ℕ → Option Refusal
sealing_refusal plan n = first (sealing_checks plan n)

-- there are such a channel, place and step, and the store has the cell
abbrev pub has_cell : Surveyed → Entry → Bool
has_cell s e =
    nat_lt e.channel s.plan.channels && nat_lt e.place s.plan.places && nat_lt e.step s.plan.steps && nat_lt (index s.plan e.channel e.step e.place) (length s.store.ranges)

-- the cell of an entry, if there is one
abbrev pub found : Surveyed → Entry → Option ℕ
found s e = cond (has_cell s e) (Some (index s.plan e.channel e.step e.place)) None

-- the range that an entry asks for
abbrev pub between : Entry → Ends
between e = record { low = e.low; high = e.high }

-- the checks of an entry: its own, and then those of the store
abbrev pub entry_checks : Surveyed → Entry → List Check
entry_checks s e =
    (not (has_cell s e), NoSuchCell)
    ∷ (not (is_range e.low e.high), NoRange)
    ∷ checks s.store (index s.plan e.channel e.step e.place) (between e)

abbrev pub entry_refusal : Surveyed → Entry → Option Refusal
entry_refusal s e = first (entry_checks s e)

-- an accepted entry goes to the store, and changes nothing else
abbrev pub with_entry : Surveyed → Entry → Surveyed
with_entry s e =
    surveyed s.plan s.number (accepted s.store (index s.plan e.channel e.step e.place) (between e))
