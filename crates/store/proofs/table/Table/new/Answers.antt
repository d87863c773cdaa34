use Rattle.std.proofs.Common.{◌≡◌, map, length, replicate, ap, ◌∙◌, arith}
use Rattle.reading.specs.Ends.{ends, widest}
use Rattle.store.specs.Stored.{stored}
use Rattle.store.proofs.Tables.{map-replicate}
use Rattle.store.proofs.table.Table.new.Goals as goal

pub returns : goal.returns
returns c =
    let rs = c.in_ok-vec.field-0.items in
    let all : rs ≡ replicate c.args.cells c.widest.result = c.in_ok-vec.ensures.items_if_clones_equal (λ y same. same) in
    let len : length rs ≡ c.args.cells = omega (arith, c.in_ok-vec.ensures.len) in
    let ranges : map ends rs ≡ replicate c.args.cells widest =
    ap (map ends) all ∙ map-replicate ends c.args.cells c.widest.result ∙ ap (replicate c.args.cells) c.widest.ensures in
    λ i. stored (len i) (ranges i)
