use Rattle.std.proofs.Common.{◌≡◌, string_bytes, Ok, sym, subst, rules}
use Rattle.std.specs.Result.{OnOk}
use Rattle.std.proofs.lemmas.Result.{on_ok_weaker}
use Rattle.command.specs.declared.command.Command.TheVariants.{Enter}
use Rattle.survey.specs.Surveys.{survey_of, entry_refusal, with_entry}
use Rattle.job.specs.Jobs.{survey, answered}
use Rattle.job.specs.Reading.{Done}
use Rattle.job.proofs.Lines.{call_done}
use Rattle.job.proofs.turns.survey_turn.Goals as goal

pub returns-in-Ok-Enter : goal.returns-in-Ok-Enter
returns-in-Ok-Enter g c =
    let s = survey_of g.S.Store.most g.S.Readings.ranges c.args.survey.now in
    let after = survey_of g.S.Store.most g.S.Readings.ranges c.enter.new.self in
    let e = c.in-Ok-Enter.entry in
    let asked : c.args.answer ≡ Ok (Enter e) = search rules in
    subst (λ a. OnOk c.tell.result (Done (string_bytes c.args.out.now.text) (string_bytes c.tell.new.self.text) (survey after) (answered c.args.out.now.line (survey s) a))) (sym asked)
    (on_ok_weaker c.tell.result
    (λ told. call_done survey c.args.out.now.line (entry_refusal s e) c.enter.result after s (with_entry s e) (string_bytes c.args.out.now.text) (string_bytes c.tell.new.self.text) c.enter.ensures.answers c.enter.ensures.after told)
    c.tell.ensures.grown)
