use Rattle.chain.proofs.Keeping.{falls}
use Rattle.chain.proofs.chain.Chain.seek.Goals as goal

pub loop-after-smaller : goal.loop-after-smaller
loop-after-smaller c =
    let w = c.loop-after in
    falls c.args.self.now w.before w.after w.invariant.0 w.invariant.1 c.in-Some.index c.in-Some.is c.index-seen.result.now c.index-seen.ensures
