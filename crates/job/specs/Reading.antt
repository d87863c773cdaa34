-- What a reader of lines tells, and what a turn of a loop does.
use Rattle.std.specs.Prelude.{◌≡◌, ℕ, ◌+◌, ◌<◌, List, [], ◌∷◌, ◌++◌, length, Some, None, Option, Result}
use Rattle.refusal.specs.declared.Refusal.{Refusal}
use Rattle.store.specs.declared.table.Table.{Table}
use Rattle.store.specs.Tables.{table_of}
use Rattle.plan.specs.declared.draft.Draft.{Draft}
use Rattle.plan.specs.Drafts.{plan_of}
use Rattle.survey.specs.Surveys.{surveyed}
use Rattle.line.specs.Line.{lines}
use Rattle.command.specs.declared.part.Part.{Part}
use Rattle.command.specs.declared.command.Command.{Command}
use Rattle.command.specs.Commands.{command}
use Rattle.job.specs.Jobs.{Stage, blank, draft, survey, Turn}

-- one line was taken off the text: what it asks for
pub record Taken (part : Part) (rest rest' : List ℕ) (n n' : ℕ) (answer : Result Command Refusal) : Type 0 where
  pub line : List ℕ
  pub cut : lines rest ≡ line ∷ lines rest'
  pub asks : answer ≡ command part line
  pub counted : n' ≡ n + 1
  pub shorter : length rest' < length rest

-- a line was taken, or there is none left
abbrev pub Told : Part → (rest rest' : List ℕ) (n n' : ℕ) → Option (Result Command Refusal) → Type 0
Told part rest rest' n n' None = lines rest ≡ []
Told part rest rest' n n' (Some answer) = Taken part rest rest' n n' answer

-- the text printed so far has grown by what a turn prints, and the job has come as far as the turn says
pub record Done (out out' : List ℕ) (stage : Stage) (t : Turn) : Type 0 where
  pub grown : out' ≡ out ++ t.text
  pub come : stage ≡ t.stage

-- how far a job has come that may have opened a draft
abbrev pub opened_stage : Option Draft → Stage
opened_stage None = blank
opened_stage (Some d) = draft (plan_of d)

-- how far a job has come that may have a table to seal its draft with
abbrev pub sealed_stage : Draft → Option Table → Stage
sealed_stage d None = draft (plan_of d)
sealed_stage d (Some t) = survey (surveyed (plan_of d) 1 (table_of t))
