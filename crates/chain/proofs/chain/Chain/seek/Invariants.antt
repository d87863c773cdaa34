use Rattle.std.proofs.Common.{◌≡◌, ◌-◌, ◌≤◌, length, vec_items}
use Rattle.chain.specs.Links.{link, needed, floor, ahead}
use Rattle.chain.specs.Records.{cells_of, links_of}
use Rattle.chain.proofs.chain.Chain.seek.Given as goal

abbrev pub invariant-loop-after : goal.invariant-loop-after
invariant-loop-after l =
    (needed l.before ≤ length (vec_items l.self.records))
    × (l.after ≡ link (links_of (vec_items l.self.records)) l.self.head l.before)
    × (floor (cells_of (vec_items l.self.records)) l.before ≤ l.cell)

abbrev pub decreases-loop-after : goal.decreases-loop-after
decreases-loop-after l = l.self.cells - ahead l.self.cells (cells_of (vec_items l.self.records)) l.after
