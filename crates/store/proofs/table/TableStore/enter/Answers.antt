use Rattle.std.proofs.Common.{vec_items, sym, refl, arith}
use Rattle.reading.specs.Ends.{ends}
use Rattle.store.proofs.Tables.{narrowed}
use Rattle.store.proofs.table.TableStore.enter.Goals as goal

pub returns : goal.returns
returns c =
    narrowed (vec_items c.args.self.now.ranges) c.args.cell (ends c.args.range) c.index.result.now (omega (arith, c.args.self.now.ranges.ok.0)) c.index.ensures c.args.range refl (sym c.if-not-lies_inside.ensures)
