-- Cases of the meanings that readers ask about: what every sheet of a plan has at a place.
use Rattle.std.specs.Prelude.{◌≡◌, ℕ, ◌+◌, ◌<◌, List, [], ◌∷◌, length, ℤ, pos, Some, None, Option, slice_index_or}
use Rattle.reading.specs.Ends.{Ends, widest, exactly}
use Rattle.verdict.specs.declared.yesno.YesNo.TheVariants.{No, Yes}
use Rattle.verdict.specs.Algebra.{Ops}
use Rattle.verdict.specs.YesNo.{yesno}
use Rattle.verdict.specs.Margins.{margin, margins}
use Rattle.verdict.specs.Spans.{span, span_ops}
use Rattle.network.specs.declared.pipe.Pipe.{Pipe}
use Rattle.network.specs.Measures.{Extend, by_lengths}
use Rattle.plan.specs.declared.statement.Statement.{Statement}
use Rattle.plan.specs.declared.statement.Statement.TheVariants.{AtLeast, Not, Until, Reach}
use Rattle.plan.specs.declared.statement.Statement.TheVariants.{Yes as YesRow}
use Rattle.plan.specs.Plans.{Plan}
use Rattle.monitor.specs.Meaning.{Sheet, row_at, IsSheet}

-- a pipe that stands at the steps first to last
abbrev pub pipe : (from to length drop first last : ℕ) → Pipe
pipe a b l d f t = record { from = a; to = b; length = l; drop = d; first = f; last = t }

-- a pipe from 0 to 1 of length 5, and one from 1 to 2 of length 4 that stands at step 0 only
abbrev pub two_pipes : List Pipe
two_pipes = pipe 0 1 5 2 0 1 ∷ pipe 1 2 4 1 0 0 ∷ []

-- the same with a short cut from 0 to 2 of length 3
abbrev pub with_short_cut : List Pipe
with_short_cut = pipe 0 1 5 2 0 1 ∷ pipe 1 2 4 1 0 0 ∷ pipe 0 2 3 1 0 0 ∷ []

-- two pipes that lead round: from 0 to 1 of length 2, and back of length 3
abbrev pub round : List Pipe
round = pipe 0 1 2 1 0 0 ∷ pipe 1 0 3 1 0 0 ∷ []

-- three places, two steps and one channel
abbrev pub small : List Pipe → List Statement → Plan
small pipes rows = record { places = 3; steps = 2; channels = 1; pipes = pipes; rows = rows }

-- 10 to 20 is entered at place 0 and 60 to 70 at place 2, both at step 0, and nothing else
abbrev pub entered : ℕ → Ends
entered cell = slice_index_or (record { low = pos 10; high = pos 20 } ∷ widest ∷ record { low = pos 60; high = pos 70 } ∷ []) cell widest

-- row 0: a level of k or more; row 1: yes; row 2: reach of row 0 through row 1
abbrev pub reach_rows : ℤ → ℕ → Option ℕ → List Statement
reach_rows k a b = AtLeast 0 k ∷ YesRow ∷ Reach 1 0 (record { from = a; upto = b }) ∷ []

-- every sheet of the plan over the readings has this; that there is one is `OneSheet`
abbrev pub Says : {V : Type 0} → Ops V → Extend → Plan → (ℕ → Ends) → (Sheet V → Type 0) → Type 0
Says {V} o x plan readings P = (f : Sheet V) → IsSheet o x plan readings f → P f

-- the same of a small plan, measured by lengths
abbrev pub Long : {V : Type 0} → Ops V → List Pipe → List Statement → (ℕ → Ends) → (Sheet V → Type 0) → Type 0
Long o pipes rows readings P = Says o by_lengths (small pipes rows) readings P

-- a reading of exactly 50 at the limit 50, and its negation
abbrev pub AtTheLimit : {V : Type 0} → Ops V → V → V → Type 0
AtTheLimit o v w = Long o [] (AtLeast 0 (pos 50) ∷ Not 0 ∷ []) (λ cell. exactly (pos 50)) (λ f. (f 0 0 0 ≡ v) × (f 1 0 0 ≡ w))

-- the cases, for any verdict kind o with any limit and readings, and for yes or no, its spans and margins
pub record Cases {V : Type 0} (o : Ops V) : Type 0 where
  -- reach within 8 falls short of place 2 from place 0: n..y
  pub falls_short : Long (span_ops yesno) two_pipes (reach_rows (pos 50) 0 (Some 8)) entered (λ f. f 2 0 0 ≡ span No Yes)
  -- reach from 1 on leaves out place 2 itself, from where no pipe leads on: n..n
  pub leaves_out : Long (span_ops yesno) two_pipes (reach_rows (pos 50) 1 (Some 9)) entered (λ f. f 2 0 2 ≡ span No No)
  -- reach 5 to 5 comes round to where it started
  pub comes_round : (k : ℤ) (readings : ℕ → Ends) → Long o round (reach_rows k 5 (Some 5)) readings (λ f. f 2 0 0 ≡ f 0 0 0)
  -- no route has distance 4
  pub none_of_4 : (k : ℤ) (readings : ℕ → Ends) → Long o round (reach_rows k 4 (Some 4)) readings (λ f. f 2 0 0 ≡ o.bottom)
  -- with the short cut, reach from 6 without an upper distance still finds place 2, by the long way
  pub still_found : (k : ℤ) (readings : ℕ → Ends) → Long o with_short_cut (reach_rows k 6 None) readings (λ f. f 2 0 0 ≡ f 0 0 2)
  -- until from 1 to 2 at the last step is bottom, whatever the plan, the measure and its rows
  pub nothing_later : (x : Extend) (plan : Plan) (readings : ℕ → Ends) → Says o x plan readings (λ f. (i r s t p : ℕ) → i < length plan.rows → row_at plan i ≡ Until (record { hold = r; goal = s; from = 1; upto = 2 }) → t + 1 ≡ plan.steps → p < plan.places → f i t p ≡ o.bottom)
  -- a reading of 50 at the limit 50 has margin 0, and 0 under not
  pub margin_zero : AtTheLimit margins (margin (pos 0)) (margin (pos 0))
  -- and it is a yes, and a no under not
  pub sure_yes : AtTheLimit yesno Yes No
