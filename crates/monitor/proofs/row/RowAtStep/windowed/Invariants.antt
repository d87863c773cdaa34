use Rattle.std.proofs.Common.{◌≡◌, ℕ, ◌<◌}
use Rattle.plan.specs.Drafts.{plan_of}
use Rattle.monitor.specs.Verdicts.{windowed}
use Rattle.monitor.specs.Boards.{shown}
use Rattle.monitor.proofs.Windows.{so_far}
use Rattle.monitor.proofs.row.RowAtStep.windowed.Given as goal

-- what the run has so far, where the k-th step is t(k)
abbrev pub invariant-loop-k : goal.invariant-loop-k
invariant-loop-k g l =
    (t : ℕ → ℕ) → ((k u : ℕ) → k < l.count → goal.F-post g l.step_of k u → u ≡ t k) →
    (l.held ≡ so_far g.K.Kind.ops (λ k. shown (plan_of l.self.draft.now) l.self.board.now g.K.Kind.ops.bottom l.window.hold (t k) l.place) l.k)
    × (l.verdict ≡ windowed g.K.Kind.ops (λ k. shown (plan_of l.self.draft.now) l.self.board.now g.K.Kind.ops.bottom l.window.hold (t k) l.place) (λ k. shown (plan_of l.self.draft.now) l.self.board.now g.K.Kind.ops.bottom l.window.goal (t k) l.place) l.window.from l.k)
