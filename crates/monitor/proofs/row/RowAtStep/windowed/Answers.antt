use Rattle.std.proofs.Common.{◌≡◌, ap, ◌∙◌, arith}
use Rattle.plan.specs.Drafts.{plan_of}
use Rattle.monitor.specs.Verdicts.{windowed}
use Rattle.monitor.specs.Boards.{shown}
use Rattle.monitor.proofs.Windows.{run_more}
use Rattle.monitor.proofs.row.RowAtStep.windowed.Goals as goal
use Rattle.monitor.proofs.row.RowAtStep.windowed.Goals.{then-window-k, else-window-k}

pub loop-k-preserved : goal.loop-k-preserved
loop-k-preserved g c t is =
    let row = c.args.self.now in
    let k = c.loop-k.k in
    let f = shown (plan_of row.draft.now) row.board.now g.K.Kind.ops.bottom in
    let here : c.step_of-step.result ≡ t k = is k c.step_of-step.result (omega arith) c.step_of-step.ensures in
    let more = run_more g.K.Kind.laws (λ k. f c.args.window.hold (t k) c.args.place) (λ k. f c.args.window.goal (t k) c.args.place)
    c.args.window.from k c.loop-k.held c.meet-held.result c.loop-k.verdict c.standing.result (c.loop-k.invariant t is).0 (c.loop-k.invariant t is).1
    (c.standing.ensures ∙ ap (λ u. f c.args.window.hold u c.args.place) here) c.meet-held.ensures in (
      more.0,
      elim c.if-window-k.branch [
        | then-window-k w ↦ more.2 c.standing-reached.result c.if-window-k.verdict w.if-window-k.true (c.standing-reached.ensures ∙ ap (λ u. f c.args.window.goal u c.args.place) here) (w.verdict-is ∙ w.join-verdict.ensures ∙ ap (g.K.Kind.ops.join c.loop-k.verdict) w.meet.ensures)
        | else-window-k w ↦ w.verdict-is ∙ more.1 w.if-window-k.false
      ],
    )

pub returns : goal.returns
returns g c t is =
    let row = c.args.self.now in
    let f = shown (plan_of row.draft.now) row.board.now g.K.Kind.ops.bottom in
    let all : c.loop-k.k ≡ c.args.count = omega arith in
    (c.loop-k.invariant t is).1 ∙ ap (windowed g.K.Kind.ops (λ k. f c.args.window.hold (t k) c.args.place) (λ k. f c.args.window.goal (t k) c.args.place) c.args.window.from) all
