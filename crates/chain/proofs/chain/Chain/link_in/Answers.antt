use Rattle.std.proofs.Common.{vec_items, ap, arith}
use Rattle.store.specs.Stored.{stored}
use Rattle.chain.proofs.Keeping.{ranges_more, kept_first, ranges_after, kept_after}
use Rattle.chain.proofs.chain.Chain.link_in.Goals as goal

pub invariant_of-self : goal.invariant_of-self
invariant_of-self c =
    let s = c.args.self.now in
    let more = c.push_reserved.new.self in
    let k = kept_first s c.args.added c.requires.within c.requires.narrow c.args.before c.requires.gap c.len-index.result (omega (arith, s.records.ok.0)) (vec_items more) c.push_reserved.ensures.items c.in-None.is in
    record { memory = omega arith; room = omega arith; kept = k }

pub returns-in-None : goal.returns-in-None
returns-in-None c =
    let s = c.args.self.now in
    let more = c.push_reserved.new.self in
    ap (stored s.capacity) (ranges_more s c.args.added c.requires.within c.requires.narrow c.args.before c.requires.gap c.len-index.result (omega (arith, s.records.ok.0)) (vec_items more) c.push_reserved.ensures.items)

pub invariant_of-self-in-Some : goal.invariant_of-self-in-Some
invariant_of-self-in-Some c =
    let s = c.args.self.now in
    let more = c.push_reserved.new.self in
    let k = kept_after s c.args.added c.requires.within c.requires.narrow c.args.before c.requires.gap c.len-index.result (omega (arith, s.records.ok.0)) (vec_items more) c.push_reserved.ensures.items c.in-Some.last c.in-Some.is c.index_mut.result.now c.index_mut.ensures.value in
    record { memory = omega arith; room = omega arith; kept = k }

pub returns-in-Some : goal.returns-in-Some
returns-in-Some c =
    let s = c.args.self.now in
    let more = c.push_reserved.new.self in
    ap (stored s.capacity) (ranges_after s c.args.added c.requires.within c.requires.narrow c.args.before c.requires.gap c.len-index.result (omega (arith, s.records.ok.0)) (vec_items more) c.push_reserved.ensures.items c.in-Some.last c.in-Some.is c.index_mut.result.now c.index_mut.ensures.value)
