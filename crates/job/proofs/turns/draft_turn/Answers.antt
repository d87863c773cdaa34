use Rattle.std.proofs.Common.{◌≡◌, string_bytes, Ok, sym, subst, rules}
use Rattle.command.specs.declared.command.Command.TheVariants.{WriteRow}
use Rattle.plan.specs.Drafts.{plan_of}
use Rattle.plan.specs.Plans.{row_refusal, with_row}
use Rattle.job.specs.Jobs.{draft, answered}
use Rattle.job.specs.Reading.{Done}
use Rattle.job.proofs.Lines.{call_done}
use Rattle.job.proofs.turns.draft_turn.Goals as goal

pub returns-in_ok-tell-in-Ok-WriteRow : goal.returns-in_ok-tell-in-Ok-WriteRow
returns-in_ok-tell-in-Ok-WriteRow c =
    let plan = plan_of c.args.draft.now in
    let row = c.in-Ok-WriteRow.row in
    let line = c.args.out.now.line in
    let before = string_bytes c.args.out.now.text in
    let after = string_bytes c.tell-in-Ok-WriteRow.new.self.text in
    let asked : c.args.answer ≡ Ok (WriteRow row) = search rules in
    subst (λ a. Done before after (draft (plan_of c.add_row.new.self)) (answered line (draft plan) a)) (sym asked)
    (call_done draft line (row_refusal plan row) c.add_row.result (plan_of c.add_row.new.self) plan (with_row plan row) before after c.add_row.ensures.answers c.add_row.ensures.after c.in_ok-tell-in-Ok-WriteRow.ensures.grown)
