use Rattle.std.proofs.Common.{rules, ◌≡◌, ◌*◌, length, arith}
use Rattle.std.proofs.lemmas.Grind.{common_steps}
use Rattle.space.proofs.Begun.{all_same}
use Rattle.space.proofs.levels.begin.Goals as goal

pub returns : goal.returns
returns g c =
    let bottom = g.K.Kind.ops.bottom in
    let filled = all_same _ bottom (λ f. f.0.now ≡ bottom) (λ f v f' i k. search rules) c.fill_with.new.self _ _ c.bottom-bottom.ensures c.fill_with.ensures.ran.1 in
    let long : length c.fill_with.new.self ≡ c.args.top * length c.args.goal.now = grind (arith, common_steps) in
    cc
