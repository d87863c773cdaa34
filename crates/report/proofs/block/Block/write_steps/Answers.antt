use Rattle.std.proofs.Common.{◌≡◌, ◌+◌, ◌<◌, length, get_or, string_bytes, sym, ap, ◌∙◌, arith}
use Rattle.std.proofs.lemmas.List.{get_or_read}
use Rattle.plan.specs.Plans.{index}
use Rattle.plan.specs.Drafts.{plan_of}
use Rattle.monitor.specs.Boards.{shown}
use Rattle.monitor.proofs.Positions.{earlier}
use Rattle.report.proofs.Written.{step_turn}
use Rattle.report.proofs.block.Block.write_steps.Goals as goal

pub loop-step-preserved : goal.loop-step-preserved
loop-step-preserved g c =
    let block = c.args.self.now in
    let plan = plan_of block.plan.now in
    let f = shown plan block.board.now g.K.Kind.ops.bottom in
    let at = index plan block.row c.loop-step.step c.args.place in
    let inside : at < length block.board.now =
    omega (arith, block.room, earlier plan.steps plan.places block.row (block.row + 1) c.loop-step.step c.args.place 0 0 (omega arith) (omega arith) c.requires) in
    let stands : get_or block.board.now c.index.result c.index-self-index.result ≡ f block.row c.loop-step.step c.args.place =
    sym c.index-self-index.is
    ∙ get_or_read block.board.now c.index.result c.index-self-index.result (omega (arith, inside, c.index.ensures)) c.index-self-index.is g.K.Kind.ops.bottom
    ∙ ap (λ k. get_or block.board.now k g.K.Kind.ops.bottom) c.index.ensures in
    step_turn g.K.Printed.text f block.row c.args.place c.loop-step.step plan.steps _ (string_bytes c.loop-step.out) (string_bytes c.push_str.new.self) (string_bytes c.write.new.out)
    (omega arith) c.in_ok-push_str.ensures.bytes c.in_ok-write.ensures stands
    ∙ c.loop-step.invariant
