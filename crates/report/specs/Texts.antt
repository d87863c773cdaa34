-- Refusals and sheets as text.
use Rattle.std.specs.Prelude.{ℕ, zero, suc, ◌-◌, List, [], ◌++◌, length, Some, None, codes, decimal, Option}
use Rattle.refusal.specs.declared.Refusal.{Refusal}
use Rattle.refusal.specs.Numbers.{number}
use Rattle.verdict.specs.Algebra.{Ops}
use Rattle.network.specs.Measures.{Extend}
use Rattle.store.specs.Stored.{at}
use Rattle.plan.specs.Plans.{Plan}
use Rattle.monitor.specs.Meaning.{Sheet}
use Rattle.monitor.specs.Verdicts.{verdict}
use Rattle.monitor.specs.Boards.{sheet_refusal}
use Rattle.survey.specs.Surveys.{Surveyed}

-- a refused line: its number, and the refusal's
abbrev pub refusal_text : ℕ → Refusal → List ℕ
refusal_text line e = codes "refused " ++ (decimal line ++ (codes " " ++ (decimal (number e) ++ codes "\n")))

module _ {V : Type 0} (text : V → List ℕ) where
  -- the verdicts of row i at place p, each after a space, for n steps from t on
  abbrev pub steps_text : Sheet V → (i p t n : ℕ) → List ℕ
  steps_text f i p t zero = []
  steps_text f i p t (suc n) = codes " " ++ (text (f i t p) ++ steps_text f i p (suc t) n)

  module _ (plan : Plan) (f : Sheet V) where
    -- a line of row i: the place, and its verdicts by step
    abbrev pub place_text : (i p : ℕ) → List ℕ
    place_text i p = decimal p ++ (steps_text f i p 0 plan.steps ++ codes "\n")

    -- n such lines, from place p on
    abbrev pub places_text : (i p n : ℕ) → List ℕ
    places_text i p zero = []
    places_text i p (suc n) = place_text i p ++ places_text i (suc p) n

    -- a sheet asked for on a line: the line's number, and the last row's verdicts
    abbrev pub sheet_text : ℕ → List ℕ
    sheet_text line = codes "sheet " ++ (decimal line ++ (codes "\n" ++ places_text (length plan.rows - 1) 0 plan.places))

-- the text where nothing is refused, and else the refusal's
abbrev pub unless_refused : ℕ → Option Refusal → List ℕ → List ℕ
unless_refused line None text = text
unless_refused line (Some e) text = refusal_text line e

-- a job draws a sheet on a board of 2,048 verdicts, with 4,096 for work
abbrev pub sheet_report : {V : Type 0} → Ops V → Extend → (V → List ℕ) → Surveyed → ℕ → List ℕ
sheet_report o x text s line =
    unless_refused line (sheet_refusal s.plan (at s.store.ranges) o.ranged 2048 4096)
    (sheet_text text s.plan (verdict o x s.plan (at s.store.ranges)) line)
