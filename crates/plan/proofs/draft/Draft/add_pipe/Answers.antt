use Rattle.std.proofs.Common.{◌≡◌, true, vec_items, rules}
use Rattle.refusal.proofs.Passing.{accepts}
use Rattle.network.specs.Routes.{all_join}
use Rattle.plan.specs.Drafts.{plan_of}
use Rattle.plan.proofs.Written.{joined_push}
use Rattle.plan.proofs.draft.Draft.add_pipe.Goals as goal

pub invariant_of-self : goal.invariant_of-self
invariant_of-self c =
    let j : all_join c.args.self.now.places (vec_items c.push_reserved.new.self) ≡ true = joined_push (plan_of c.args.self.now) c.args.pipe _ c.push_reserved.ensures.items c.args.self.now.joined (accepts _ c.in_ok-check_pipe.ensures) in
    search rules
