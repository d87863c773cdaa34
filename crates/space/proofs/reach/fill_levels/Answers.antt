use Rattle.std.proofs.Common.{rules, arith}
use Rattle.std.proofs.lemmas.Grind.{common_steps}
use Rattle.space.proofs.Fronts.{gathered_front}
use Rattle.space.proofs.Reaches.{reaches}
use Rattle.space.proofs.reach.fill_levels.Goals as goal

pub returns-clause-value : goal.returns-clause-value
returns-clause-value g c p hp = grind (arith, common_steps, gathered_front)

pub returns-clause-least : goal.returns-clause-least
returns-clause-least g c p hp =
    rw (returns-clause-value g c p hp) (search (rules, reaches g.K.Kind.laws g.M.Measure.laws))
