-- The difference fits its type, so the margin is that of the difference.
use Rattle.std.proofs.Common.{◌≡◌, ap, arith, rules}
use Rattle.std.proofs.lemmas.Int.{ints, clamps}
use Rattle.verdict.specs.declared.margin.Margin.{Margin}
use Rattle.verdict.specs.Algebra.{nearest}
use Rattle.verdict.specs.Margins.{same_margin}
use Rattle.verdict.proofs.margin.MarginKind.judge.Goals as goal

pub returns : goal.returns
returns c =
    let read : c.within.result ≡ nearest c.args.limit = search rules in
    same_margin _ _ (omega (arith, ints, clamps, ap (λ (m : Margin). m.value) c.new.ensures))
