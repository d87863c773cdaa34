use Rattle.std.proofs.Common.{◌≡◌, ◌-◌, ◌++◌, string_bytes}
use Rattle.plan.specs.Drafts.{plan_of}
use Rattle.monitor.specs.Boards.{shown}
use Rattle.report.specs.Texts.{places_text}
use Rattle.report.proofs.block.Block.write_places.Given as goal

abbrev pub invariant-loop-place : goal.invariant-loop-place
invariant-loop-place g l =
    string_bytes l.out ++ places_text g.K.Printed.text (plan_of l.self.plan.now) (shown (plan_of l.self.plan.now) l.self.board.now g.K.Kind.ops.bottom) l.self.row l.place (l.self.plan.now.places - l.place)
    ≡ string_bytes l.initial.out ++ places_text g.K.Printed.text (plan_of l.self.plan.now) (shown (plan_of l.self.plan.now) l.self.board.now g.K.Kind.ops.bottom) l.self.row 0 l.self.plan.now.places
