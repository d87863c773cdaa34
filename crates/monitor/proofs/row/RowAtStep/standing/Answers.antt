use Rattle.std.proofs.Common.{◌<◌, length, arith, rules}
use Rattle.monitor.proofs.Positions.{earlier}
use Rattle.monitor.proofs.row.RowAtStep.standing.Goals as goal

pub offset_bounds-self-index : goal.offset_bounds-self-index
offset_bounds-self-index g c =
    let row = c.args.self.now in
    let inside : c.index.result < length row.board.now =
    omega (arith, c.index.ensures, row.before, earlier row.draft.now.steps row.draft.now.places c.args.row row.row c.args.step c.args.place 0 0 c.requires.before c.requires.step c.requires.place) in
    search rules
