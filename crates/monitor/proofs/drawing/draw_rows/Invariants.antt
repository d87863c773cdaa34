use Rattle.store.specs.Stored.{at}
use Rattle.plan.specs.Plans.{index}
use Rattle.plan.specs.Drafts.{plan_of}
use Rattle.monitor.specs.Verdicts.{verdict}
use Rattle.monitor.specs.Boards.{Prepared, shown}
use Rattle.monitor.proofs.Filling.{SoFar}
use Rattle.monitor.proofs.drawing.draw_rows.Given as goal

abbrev pub invariant-loop-row : goal.invariant-loop-row
invariant-loop-row g l =
    let plan = plan_of l.draft in
    SoFar plan (verdict g.K.Kind.ops g.M.Measure.extend plan (at (g.S.Readings.ranges l.readings))) (index plan l.row 0 0) l.fn.board l.board

abbrev pub invariant-loop-step : goal.invariant-loop-step
invariant-loop-step g l =
    let plan = plan_of l.draft in
    SoFar plan (verdict g.K.Kind.ops g.M.Measure.extend plan (at (g.S.Readings.ranges l.readings))) (index plan l.row l.step 0) l.fn.board l.board

abbrev pub invariant-loop-place : goal.invariant-loop-place
invariant-loop-place g l =
    let plan = plan_of l.draft in
    SoFar plan (verdict g.K.Kind.ops g.M.Measure.extend plan (at (g.S.Readings.ranges l.readings))) (index plan l.row l.step l.place) l.fn.board l.board
    × Prepared g.K.Kind.ops g.M.Measure.extend plan (shown plan l.board g.K.Kind.ops.bottom) l.step l.work l.statement
