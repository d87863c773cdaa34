-- A chain by its meaning.
use Rattle.std.specs.Prelude.{vec_items}
use Rattle.store.specs.Stored.{Stored, stored}
use Rattle.chain.specs.declared.chain.Chain.{Chain}
use Rattle.chain.specs.Records.{ranges_of}

-- the ranges that the records tell, and room for as many records as were supplied
abbrev pub chain_of : Chain → Stored
chain_of c = stored c.capacity (ranges_of c.cells (vec_items c.records))
