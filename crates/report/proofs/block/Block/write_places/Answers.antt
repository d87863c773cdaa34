use Rattle.std.proofs.Common.{string_bytes, ◌∙◌, arith}
use Rattle.plan.specs.Drafts.{plan_of}
use Rattle.monitor.specs.Boards.{shown}
use Rattle.report.proofs.Written.{place_turn}
use Rattle.report.proofs.block.Block.write_places.Goals as goal

pub loop-place-preserved : goal.loop-place-preserved
loop-place-preserved g c =
    let block = c.args.self.now in
    let plan = plan_of block.plan.now in
    place_turn g.K.Printed.text plan (shown plan block.board.now g.K.Kind.ops.bottom) block.row c.loop-place.place plan.places (string_bytes c.loop-place.out) (string_bytes c.write_place.new.out)
    (omega arith) c.in_ok-write_place.ensures
    ∙ c.loop-place.invariant
