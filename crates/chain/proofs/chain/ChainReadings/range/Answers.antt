use Rattle.std.proofs.Common.{sym, ◌∙◌}
use Rattle.chain.proofs.Keeping.{held}
use Rattle.chain.proofs.Steps.{widest_in_gap}
use Rattle.chain.proofs.chain.ChainReadings.range.Goals as goal

pub returns-in-Ok : goal.returns-in-Ok
returns-in-Ok c =
    sym (held c.args.self.now c.args.cell c.in-Ok.index c.in-Ok.ensures c.index.result.now c.index.ensures)

pub returns-in-Err : goal.returns-in-Err
returns-in-Err c =
    c.widest.ensures ∙ sym (widest_in_gap c.args.self.now c.args.cell _ _ c.in-Err.ensures)
