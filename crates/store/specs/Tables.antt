-- A full table by its meaning.
use Rattle.std.specs.Prelude.{List, map, length, vec_items}
use Rattle.reading.specs.declared.range.Range.{Range}
use Rattle.reading.specs.Ends.{ends}
use Rattle.store.specs.declared.table.Table.{Table}
use Rattle.store.specs.Stored.{Stored, stored}

-- one range for each cell, and room for all of them
abbrev pub tabled : List Range → Stored
tabled rs = stored (length rs) (map ends rs)

abbrev pub table_of : Table → Stored
table_of t = tabled (vec_items t.ranges)
