use Rattle.std.proofs.Common.{◌≡◌, suc, ◌+◌, ◌-◌, arith}
use Rattle.space.proofs.levels.gather.Goals as goal

pub loop-level-preserved : goal.loop-level-preserved
loop-level-preserved g c =
    let more : c.loop-level.level + 1 - c.args.low ≡ suc (c.loop-level.level - c.args.low) = omega arith in
    let same : c.args.low + (c.loop-level.level - c.args.low) ≡ c.loop-level.level = omega arith in
    (rw (more, same) cc, omega arith)
