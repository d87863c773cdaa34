use Rattle.std.proofs.Common.{arith}
use Rattle.verdict.proofs.Order.{below_antisym}
use Rattle.monitor.proofs.cases.until_is_bottom_at_the_end.Goals as goal

-- no step of the window is recorded
pub returns : goal.returns
returns g c plan readings f r s t p v last m =
    let ls = g.K.Kind.laws in
    below_antisym ls (m.least g.K.Kind.ops.bottom (λ u. absurd (omega (arith, u.soon, u.recorded)))) (ls.least v)
