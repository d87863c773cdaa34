use Rattle.std.proofs.Common.{◌≡◌, ◌<◌, true, length, slice_index_or, set, ap, ◌∙◌, subst, arith, rules}
use Rattle.std.proofs.lemmas.List.{get_or_read}
use Rattle.store.specs.Stored.{at}
use Rattle.plan.specs.Rows.{refers}
use Rattle.plan.specs.Plans.{index}
use Rattle.plan.specs.Drafts.{plan_of}
use Rattle.monitor.specs.Meaning.{row_at}
use Rattle.monitor.specs.Verdicts.{verdict}
use Rattle.monitor.specs.Boards.{shown}
use Rattle.monitor.proofs.Positions.{earlier}
use Rattle.monitor.proofs.Filling.{SoFar, drawn, place_drawn, prepared_like, row_kept}
use Rattle.monitor.proofs.drawing.draw_rows.Goals as goal

pub offset_bounds-board-index : goal.offset_bounds-board-index
offset_bounds-board-index g c =
    let plan = plan_of c.args.draft.now in
    let rows : length c.rows-statement-items.result.now ≡ length plan.rows = ap length c.rows-statement-items.ensures in
    let inside : c.index.result < length c.loop-place.board =
    omega (arith, rows, c.index.ensures, c.requires.room, c.loop-row.auto.board, c.loop-step.auto.board, c.loop-place.auto.board, earlier plan.steps plan.places c.loop-row.row (length plan.rows) c.loop-step.step c.loop-place.place 0 0 (omega (arith, rows)) (omega arith) (omega arith)) in
    search rules

pub loop-place-preserved : goal.loop-place-preserved
loop-place-preserved g c =
    let draft = c.args.draft.now in
    let plan = plan_of draft in
    let i = c.loop-row.row in
    let t = c.loop-step.step in
    let p = c.loop-place.place in
    let board = c.loop-place.board in
    let bottom = g.K.Kind.ops.bottom in
    let rows : length c.rows-statement-items.result.now ≡ length plan.rows = ap length c.rows-statement-items.ensures in
    let hi : i < length plan.rows = omega (arith, rows) in
    let ht : t < plan.steps = omega arith in
    let hp : p < plan.places = omega arith in
    let inside : index plan i t p < length board =
    omega (arith, c.requires.room, c.loop-row.auto.board, c.loop-step.auto.board, c.loop-place.auto.board, earlier plan.steps plan.places i (length plan.rows) t p 0 0 hi ht hp) in
    let statement = slice_index_or c.rows-statement-items.result.now i _ in
    let says : statement ≡ row_at plan i = search (rules, get_or_read) in
    let ref : refers i statement ≡ true = ap (refers i) says ∙ draft.ordered i hi in (
      place_drawn g.K.Kind.ops g.M.Measure.extend plan (at (g.S.Readings.ranges c.args.readings.now)) draft.ordered
          i t p c.index.result bottom c.verdict.result statement c.args.board.now board says hi ht hp c.index.ensures inside c.verdict.ensures c.loop-place.invariant.0,
      prepared_like g.K.Kind.ops g.M.Measure.extend plan (shown plan board bottom) (shown plan (set board c.index.result c.verdict.result) bottom) t c.prepare.new.work statement i ref
          (λ r q hr hq. row_kept plan board bottom c.verdict.result i t p c.index.result c.index.ensures r t q hr ht hq)
          c.loop-place.invariant.1,
    )

pub returns : goal.returns
returns g c =
    let plan = plan_of c.args.draft.now in
    let f = verdict g.K.Kind.ops g.M.Measure.extend plan (at (g.S.Readings.ranges c.args.readings.now)) in
    let all : c.loop-row.row ≡ length plan.rows = omega (arith, ap length c.rows-statement-items.ensures) in
    let done : SoFar plan f (index plan (length plan.rows) 0 0) c.args.board.now c.loop-row.board =
    subst (λ i. SoFar plan f (index plan i 0 0) c.args.board.now c.loop-row.board) all c.loop-row.invariant in
    drawn plan f c.args.board.now c.loop-row.board done.0 done.1
