use Rattle.std.proofs.Common.{◌++◌, length, string_bytes, ap, ◌∙◌}
use Rattle.std.proofs.lemmas.Result.{on_ok_weaker}
use Rattle.plan.specs.Drafts.{plan_of}
use Rattle.survey.specs.Surveys.{survey_of}
use Rattle.report.proofs.Written.{drawn_report}
use Rattle.report.proofs.printout.Printout.draw_sheet.Goals as goal

pub returns-in-Ok : goal.returns-in-Ok
returns-in-Ok g c = record {
  grown = on_ok_weaker c.write_sheet.result
      (λ told.
      told
      ∙ ap (λ l. string_bytes c.args.self.now.text ++ l)
      (drawn_report g.K.Kind.ops g.M.Measure.extend g.K.Printed.text (survey_of g.S.Store.most g.S.Readings.ranges c.args.survey.now) c.args.self.now.line (length c.args.board.now) (length c.args.work.now) c.requires.board c.requires.work (plan_of c.plan.result.now) g.K.Kind.ops.bottom c.args.board.now c.sheet.new.board c.args.work.now c.sheet.new.work c.plan.ensures c.in-Ok.ensures.answers c.sheet.ensures.leaves))
      c.write_sheet.ensures.grown;
  stays = c.write_sheet.ensures.stays;
}
