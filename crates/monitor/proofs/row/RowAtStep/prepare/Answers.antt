use Rattle.std.proofs.Common.{◌≡◌, length, sym, ap, ◌∙◌, subst, arith}
use Rattle.network.specs.Routes.{Joined}
use Rattle.network.proofs.Joining.{all_joined}
use Rattle.plan.specs.Drafts.{plan_of}
use Rattle.space.specs.Levels.{gathered, reached}
use Rattle.monitor.specs.Boards.{shown, Prepared}
use Rattle.monitor.proofs.Columns.{column_length}
use Rattle.monitor.proofs.row.RowAtStep.prepare.Goals as goal

pub fill_levels-requires-clause-joined : goal.fill_levels-requires-clause-joined
fill_levels-requires-clause-joined g c =
    let row = c.args.self.now in
    let plan = plan_of row.draft.now in
    let places : length c.column.result.now ≡ plan.places = ap length c.column.ensures ∙ column_length plan.places _ in
    subst (Joined (length c.column.result.now)) (sym c.pipes-pipes.ensures)
    (subst (λ m. Joined m plan.pipes) (sym places) (all_joined plan.places plan.pipes row.draft.now.joined))

pub fill_levels-requires-clause-work : goal.fill_levels-requires-clause-work
fill_levels-requires-clause-work g c =
    let places : length c.column.result.now ≡ c.args.self.now.draft.now.places = ap length c.column.ensures ∙ column_length c.args.self.now.draft.now.places _ in
    omega (arith, places, c.requires.work)

pub returns-in-Reach : goal.returns-in-Reach
returns-in-Reach g c =
    let row = c.args.self.now in
    let plan = plan_of row.draft.now in
    let d = c.in-Reach.distances in
    let places : length c.column.result.now ≡ plan.places = ap length c.column.ensures ∙ column_length plan.places _ in
    subst (Prepared g.K.Kind.ops g.M.Measure.extend plan (shown plan row.board.now g.K.Kind.ops.bottom) row.step c.fill_levels.new.work) (sym c.in-Reach.is)
    (λ p hp.
    ap (λ m. gathered g.K.Kind.ops m c.fill_levels.new.work d.from d.upto p) (sym places)
    ∙ c.fill_levels.ensures.value p (omega (arith, places))
    ∙ (λ j. reached g.K.Kind.ops g.M.Measure.extend row.step (c.pipes-pipes.ensures j) (c.column.ensures j) (c.column-in-Reach.ensures j) d.from d.upto p))
