use Rattle.std.proofs.Common.{◌≡◌, ◌+◌, ◌-◌, min, sym, ap, ◌∙◌, arith, rules}
use Rattle.store.specs.Stored.{at}
use Rattle.plan.specs.Drafts.{plan_of}
use Rattle.monitor.specs.Verdicts.{windowed, value}
use Rattle.monitor.specs.Boards.{shown}
use Rattle.monitor.proofs.row.RowAtStep.verdict.Goals as goal

pub returns-in-Until : goal.returns-in-Until
returns-in-Until g c =
    let row = c.args.self.now in
    let f = shown (plan_of row.draft.now) row.board.now g.K.Kind.ops.bottom in
    let w = c.in-Until.window in
    let count : c.min-count.result ≡ min (w.upto + 1) (row.draft.now.steps - row.step) = omega arith in
    c.windowed.ensures (λ k. row.step + k) (λ k u lt p. search rules)
    ∙ ap (windowed g.K.Kind.ops (λ k. f w.hold (row.step + k) c.args.place) (λ k. f w.goal (row.step + k) c.args.place) w.from) count
    ∙ ap (λ s. value g.K.Kind.ops g.M.Measure.extend (plan_of row.draft.now) (at (g.S.Readings.ranges c.args.readings.now)) f s row.step c.args.place) (sym c.in-Until.is)

pub returns-in-Since : goal.returns-in-Since
returns-in-Since g c =
    let row = c.args.self.now in
    let f = shown (plan_of row.draft.now) row.board.now g.K.Kind.ops.bottom in
    let w = c.in-Since.window in
    let count : c.min-count-in-Since.result ≡ min (w.upto + 1) (row.step + 1) = omega arith in
    c.windowed-in-Since.ensures (λ k. row.step - k) (λ k u lt p. search rules)
    ∙ ap (windowed g.K.Kind.ops (λ k. f w.hold (row.step - k) c.args.place) (λ k. f w.goal (row.step - k) c.args.place) w.from) count
    ∙ ap (λ s. value g.K.Kind.ops g.M.Measure.extend (plan_of row.draft.now) (at (g.S.Readings.ranges c.args.readings.now)) f s row.step c.args.place) (sym c.in-Since.is)
