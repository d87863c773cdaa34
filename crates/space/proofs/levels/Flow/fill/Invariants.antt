use Rattle.std.proofs.Common.{◌≡◌, take}
use Rattle.space.specs.Levels.{passed, passes, climbed}
use Rattle.space.proofs.levels.Flow.fill.Given as goal

abbrev pub invariant-loop-pipe : goal.invariant-loop-pipe
invariant-loop-pipe g l = l.levels ≡ passed g.K.Kind.ops l.self.through.now g.M.Measure.extend l.self.step l.self.top (take l.pipe-index l.self.pipes.now) l.level l.initial.levels

abbrev pub invariant-loop : goal.invariant-loop
invariant-loop g l = l.levels ≡ passes g.K.Kind.ops l.self.through.now g.M.Measure.extend l.self.step l.self.top l.self.pipes.now l.level l.counter l.initial.levels

abbrev pub invariant-loop-level : goal.invariant-loop-level
invariant-loop-level g l = l.levels ≡ climbed g.K.Kind.ops l.self.through.now g.M.Measure.extend l.self.step l.self.top l.self.pipes.now l.level l.initial.levels
