-- What a job prints, from its bytes: a plain machine that is fed with its lines.
use Rattle.std.specs.Prelude.{ℕ, ◌+◌, min, cond, List, [], ◌∷◌, ◌++◌, length, Ok, Err, Option, Result, nat_lt}
use Rattle.refusal.specs.declared.Refusal.{Refusal}
use Rattle.refusal.specs.declared.Refusal.TheVariants.{Misspelt}
use Rattle.refusal.specs.Checks.{leaves}
use Rattle.store.specs.Stored.{fresh}
use Rattle.verdict.specs.YesNo.{yesno}
use Rattle.verdict.specs.Margins.{margins}
use Rattle.verdict.specs.Spans.{span_ops}
use Rattle.verdict.specs.Text.{yesno_text, margin_text, span_text}
use Rattle.network.specs.Measures.{Extend, by_hops, by_lengths, by_drops}
use Rattle.plan.specs.Plans.{Plan, cells, size_refusal, opened, pipe_refusal, with_pipe, row_refusal, with_row}
use Rattle.survey.specs.Surveys.{Surveyed, surveyed, sealing_refusal, entry_refusal, with_entry}
use Rattle.report.specs.Texts.{refusal_text, unless_refused, sheet_report}
use Rattle.line.specs.Line.{lines}
use Rattle.command.specs.declared.part.Part.{Part}
use Rattle.command.specs.declared.part.Part.TheVariants.{Blank, Drafting, Sealed}
use Rattle.command.specs.declared.sheet.SheetKind.{SheetKind}
use Rattle.command.specs.declared.sheet.SheetKind.TheVariants.{YesNo, Margin, YesNoSpan, MarginSpan}
use Rattle.command.specs.declared.sheet.MeasureName.{MeasureName}
use Rattle.command.specs.declared.sheet.MeasureName.TheVariants.{Hops, Lengths, Drops}
use Rattle.command.specs.declared.command.Command.{Command}
use Rattle.command.specs.declared.command.Command.TheVariants.{Open, LayPipe, WriteRow, Seal, Enter, DrawSheet}
use Rattle.command.specs.Commands.{command}

-- how far a job has come, and what it then holds
pub data Stage : Type 0 where
  blank : Stage
  draft : Plan → Stage
  survey : Surveyed → Stage

abbrev pub part : Stage → Part
part blank = Blank
part (draft plan) = Drafting
part (survey s) = Sealed

-- what a line leads to: how far the job has come then, and what is printed
pub record Turn : Type 0 where
  pub stage : Stage
  pub text : List ℕ

abbrev pub turn : Stage → List ℕ → Turn
turn stage text = record { stage = stage; text = text }

-- a call that may be refused: a refusal is printed and changes nothing, an accepted call prints nothing
abbrev pub upon : ℕ → Option Refusal → Stage → Stage → Turn
upon line refusal old new = turn (leaves refusal old new) (unless_refused line refusal [])

-- a job's table has the plan's cells, but at most 1,024
abbrev pub table_cells : Plan → ℕ
table_cells plan = min (cells plan) 1024

-- sealing makes a survey, number 1, of the draft and a new table
abbrev pub sealed : Plan → Surveyed
sealed plan = surveyed plan 1 (fresh (table_cells plan) (table_cells plan))

abbrev pub measure : MeasureName → Extend
measure Hops = by_hops
measure Lengths = by_lengths
measure Drops = by_drops

abbrev pub kind_report : SheetKind → Extend → Surveyed → ℕ → List ℕ
kind_report YesNo x = sheet_report yesno x yesno_text
kind_report Margin x = sheet_report margins x margin_text
kind_report YesNoSpan x = sheet_report (span_ops yesno) x (span_text yesno_text)
kind_report MarginSpan x = sheet_report (span_ops margins) x (span_text margin_text)

-- what a command does at each stage; one that does not belong there does not come, and would do nothing
abbrev pub obeyed : ℕ → Stage → Command → Turn
obeyed line blank (Open size) = upon line (size_refusal size) blank (draft (opened size))
obeyed line blank (LayPipe e) = turn blank []
obeyed line blank (WriteRow r) = turn blank []
obeyed line blank Seal = turn blank []
obeyed line blank (Enter e) = turn blank []
obeyed line blank (DrawSheet kind m) = turn blank []
obeyed line (draft plan) (Open size) = turn (draft plan) []
obeyed line (draft plan) (LayPipe e) = upon line (pipe_refusal plan e) (draft plan) (draft (with_pipe plan e))
obeyed line (draft plan) (WriteRow r) = upon line (row_refusal plan r) (draft plan) (draft (with_row plan r))
obeyed line (draft plan) Seal =
    upon line (sealing_refusal plan (table_cells plan)) (draft plan) (survey (sealed plan))
obeyed line (draft plan) (Enter e) = turn (draft plan) []
obeyed line (draft plan) (DrawSheet kind m) = turn (draft plan) []
obeyed line (survey s) (Open size) = turn (survey s) []
obeyed line (survey s) (LayPipe e) = turn (survey s) []
obeyed line (survey s) (WriteRow r) = turn (survey s) []
obeyed line (survey s) Seal = turn (survey s) []
obeyed line (survey s) (Enter e) = upon line (entry_refusal s e) (survey s) (survey (with_entry s e))
obeyed line (survey s) (DrawSheet kind m) = turn (survey s) (kind_report kind (measure m) s line)

-- a line that asks for nothing is refused
abbrev pub answered : ℕ → Stage → Result Command Refusal → Turn
answered line s (Ok c) = obeyed line s c
answered line s (Err e) = turn s (refusal_text line e)

-- what is printed of the lines that are left, n lines having gone before; lines are numbered from 1
abbrev pub run : ℕ → Stage → List (List ℕ) → List ℕ
run n s [] = []
run n s (l ∷ ls) =
    let t = answered (n + 1) s (command (part s) l) in
    t.text ++ run (n + 1) t.stage ls

-- what is printed in all, where `out` is printed already and `rest` is to be read
abbrev pub printed : List ℕ → ℕ → Stage → List ℕ → List ℕ
printed out n s rest = out ++ run n s (lines rest)

-- what a job prints; one of over 8,192 bytes is not run
abbrev pub job_text : List ℕ → List ℕ
job_text job = cond (nat_lt 8192 (length job)) (refusal_text 0 Misspelt) (printed [] 0 blank job)
