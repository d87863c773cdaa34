use Rattle.std.proofs.Common.{vec_items, sym}
use Rattle.chain.proofs.Telling.{length-ranges}
use Rattle.chain.proofs.chain.ChainReadings.cells.Goals as goal

pub returns : goal.returns
returns c = sym (length-ranges c.args.self.now.cells (vec_items c.args.self.now.records))
