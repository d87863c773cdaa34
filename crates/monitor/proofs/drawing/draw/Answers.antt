use Rattle.store.specs.Stored.{at}
use Rattle.network.proofs.Joining.{all_joined}
use Rattle.plan.specs.Drafts.{plan_of}
use Rattle.monitor.proofs.OneSheet.{one_sheet}
use Rattle.monitor.proofs.drawing.draw.Goals as goal

pub returns-in_err-check_sheet-clause-meaning : goal.returns-in_err-check_sheet-clause-meaning
returns-in_err-check_sheet-clause-meaning g c =
    let draft = c.args.draft.now in
    one_sheet g.K.Kind.ops g.M.Measure.extend (plan_of draft) (at (g.S.Readings.ranges c.args.readings.now)) draft.ordered g.K.Kind.laws g.M.Measure.laws (all_joined _ _ draft.joined) draft.intervals

pub returns-clause-meaning : goal.returns-clause-meaning
returns-clause-meaning g c =
    let draft = c.args.draft.now in
    one_sheet g.K.Kind.ops g.M.Measure.extend (plan_of draft) (at (g.S.Readings.ranges c.args.readings.now)) draft.ordered g.K.Kind.laws g.M.Measure.laws (all_joined _ _ draft.joined) draft.intervals
