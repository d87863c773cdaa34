use Rattle.std.proofs.Common.{◌≡◌, ◌-◌, ◌≤◌}
use Rattle.space.specs.Levels.{joined}
use Rattle.space.proofs.levels.gather.Given as goal

abbrev pub invariant-loop-level : goal.invariant-loop-level
invariant-loop-level g l = (l.verdict ≡ joined g.K.Kind.ops l.places l.levels l.low (l.level - l.low) l.place) × (l.level - l.low ≤ l.height - l.low)
