use Rattle.std.proofs.Common.{◌+◌, ◌≤◌, length, get_or, drop, ap, ◌∙◌, arith, length-take-le}
use Rattle.std.proofs.lemmas.List.{get_or-take, get_or-drop, length-drop}
use Rattle.std.proofs.lemmas.List.FromFn.{fill_by_all}
use Rattle.plan.specs.Drafts.{plan_of}
use Rattle.monitor.specs.Boards.{shown}
use Rattle.monitor.proofs.Positions.{within_all, within_row}
use Rattle.monitor.proofs.row.RowAtStep.column.Goals as goal

pub returns : goal.returns
returns g c =
    let row = c.args.self.now in
    let plan = plan_of row.draft.now in
    let start = c.index-start.result in
    let ends : start + plan.places ≤ length row.board.now =
    omega (arith, c.index-start.ensures, row.before, within_row plan.steps plan.places c.args.row (row.step + 1) (omega (arith, row.recorded)), within_all plan.steps plan.places (c.args.row + 1) row.row (omega (arith, c.requires.before))) in
    fill_by_all (shown plan row.board.now g.K.Kind.ops.bottom c.args.row row.step) _ plan.places g.K.Kind.ops.bottom
    (length-take-le _ (drop start row.board.now) (omega (arith, length-drop start row.board.now, ends, c.places.ensures)) ∙ omega (arith, c.places.ensures))
    (λ k lt.
    get_or-take _ (drop start row.board.now) k g.K.Kind.ops.bottom (omega (arith, c.places.ensures))
    ∙ get_or-drop start row.board.now k g.K.Kind.ops.bottom
    ∙ ap (λ i. get_or row.board.now i g.K.Kind.ops.bottom) (ap (λ i. i + k) c.index-start.ensures ∙ omega arith))
