use Rattle.std.proofs.Common.{arith}
use Rattle.chain.proofs.Keeping.{kept_none}
use Rattle.chain.proofs.chain.Chain.new.Goals as goal

pub invariant_of-result : goal.invariant_of-result
invariant_of-result c =
    let made = c.in_ok-unused.ensures in
    let k = kept_none c.args.cells _ made.items in
    record { memory = omega arith; room = omega arith; kept = k }
