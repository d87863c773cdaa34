-- A row at a step, by what stands on its board.
use Rattle.plan.specs.Drafts.{plan_of}
use Rattle.monitor.specs.Meaning.{Sheet}
use Rattle.monitor.specs.Boards.{shown}
use Rattle.monitor.specs.declared.row.RowAtStep.{RowAtStep}

-- the verdicts on the board, with a default beyond its end
abbrev pub on_board : {V : Type 0} → RowAtStep V → V → Sheet V
on_board r d = shown (plan_of r.draft.now) r.board.now d
