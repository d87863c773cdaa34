use Rattle.std.proofs.Common.{◌≡◌, ◌<◌, true, length, Some, None, vec_items, rules}
use Rattle.refusal.proofs.Passing.{accepts, refuses}
use Rattle.plan.specs.declared.statement.Statement.TheVariants.{Yes}
use Rattle.plan.specs.Rows.{refers, has_interval, Ordered, Intervals}
use Rattle.plan.specs.Drafts.{plan_of}
use Rattle.plan.specs.Plans.{row_refusal}
use Rattle.plan.proofs.Written.{taken_refers, taken_interval, taken_fits, each_push}
use Rattle.plan.proofs.draft.Draft.add_row.Goals as goal

pub returns-in_err-check_statement-clause-after : goal.returns-in_err-check_statement-clause-after
returns-in_err-check_statement-clause-after c =
    let e = refuses _ _ c.in_err-check_statement.ensures in
    search rules

pub invariant_of-self : goal.invariant_of-self
invariant_of-self c =
    let plan = plan_of c.args.self.now in
    let s = c.in_ok-statement.statement in
    let e : None ≡ row_refusal plan (Some s) = accepts _ c.in_ok-check_statement.ensures in
    let o : Ordered (vec_items c.push_reserved.new.self) = each_push (λ i s. refers i s ≡ true) Yes _ _ s c.push_reserved.ensures.items c.args.self.now.ordered (taken_refers plan s e) in
    let n : Intervals (vec_items c.push_reserved.new.self) = each_push (λ i s. has_interval s ≡ true) Yes _ _ s c.push_reserved.ensures.items c.args.self.now.intervals (taken_interval plan s e) in
    let few : length (vec_items c.args.self.now.rows) < 32 = taken_fits plan s e in
    let len = c.args.self.now.rows.ok.0 in
    search rules
