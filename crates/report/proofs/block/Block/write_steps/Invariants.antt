use Rattle.std.proofs.Common.{◌≡◌, ◌-◌, ◌++◌, string_bytes}
use Rattle.plan.specs.Drafts.{plan_of}
use Rattle.monitor.specs.Boards.{shown}
use Rattle.report.specs.Texts.{steps_text}
use Rattle.report.proofs.block.Block.write_steps.Given as goal

abbrev pub invariant-loop-step : goal.invariant-loop-step
invariant-loop-step g l =
    string_bytes l.out ++ steps_text g.K.Printed.text (shown (plan_of l.self.plan.now) l.self.board.now g.K.Kind.ops.bottom) l.self.row l.place l.step (l.self.plan.now.steps - l.step)
    ≡ string_bytes l.initial.out ++ steps_text g.K.Printed.text (shown (plan_of l.self.plan.now) l.self.board.now g.K.Kind.ops.bottom) l.self.row l.place 0 l.self.plan.now.steps
