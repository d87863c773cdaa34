use Rattle.std.proofs.Common.{sym, ap, arith}
use Rattle.chain.proofs.Widest.{inside_narrow}
use Rattle.store.specs.Stored.{stored}
use Rattle.chain.proofs.Keeping.{narrow, ranges_changed, kept_changed}
use Rattle.chain.proofs.Steps.{missing, outside, narrowed, idle, filled, added}
use Rattle.chain.proofs.chain.ChainStore.enter.Goals as goal

pub returns-then-cell-self : goal.returns-then-cell-self
returns-then-cell-self c = missing c.args.self.now c.args.cell c.args.range c.if-cell-self.true

pub returns-then-not-lies_inside : goal.returns-then-not-lies_inside
returns-then-not-lies_inside c =
    outside c.args.self.now c.args.cell c.args.range c.if-cell-self.false c.in-Ok.index c.in-Ok.ensures c.index.result.now c.index.ensures (sym c.if-not-lies_inside.ensures)

pub invariant_of-self : goal.invariant_of-self
invariant_of-self c =
    let s = c.args.self.now in
    let of = c.in-Ok.ensures in
    let was = narrow s c.args.cell c.in-Ok.index of c.index.result.now c.index.ensures in
    let is = inside_narrow c.args.range c.index.result.now.range (sym c.if-not-lies_inside.ensures) was in
    let k = kept_changed s c.args.cell c.in-Ok.index of c.index_mut.result.now c.index_mut.ensures.value c.args.range is in
    record { memory = omega arith; room = omega arith; kept = k }

pub returns-else-not-lies_inside : goal.returns-else-not-lies_inside
returns-else-not-lies_inside c =
    let s = c.args.self.now in
    let of = c.in-Ok.ensures in
    narrowed s c.args.cell c.args.range c.if-cell-self.false c.in-Ok.index of c.index.result.now c.index.ensures (sym c.if-not-lies_inside.ensures) _
    (ap (stored s.capacity) (ranges_changed s c.args.cell c.in-Ok.index of c.index_mut.result.now c.index_mut.ensures.value c.args.range))

pub returns-then-is_widest : goal.returns-then-is_widest
returns-then-is_widest c =
    idle c.args.self.now c.args.cell c.args.range c.if-cell-self.false _ _ c.in-Err.ensures (sym c.if-is_widest.ensures)

pub returns-then-len-self : goal.returns-then-len-self
returns-then-len-self c =
    filled c.args.self.now c.args.cell c.args.range c.if-cell-self.false _ _ c.in-Err.ensures (sym c.if-is_widest.ensures) (omega (arith, c.args.self.now.records.ok.0))

pub returns-else-len-self : goal.returns-else-len-self
returns-else-len-self c =
    added c.args.self.now c.args.cell c.args.range c.if-cell-self.false _ _ c.in-Err.ensures (omega (arith, c.args.self.now.records.ok.0)) _ c.link_in.ensures
