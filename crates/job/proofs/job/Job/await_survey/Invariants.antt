use Rattle.std.proofs.Common.{◌≡◌, length}
use Rattle.command.specs.declared.part.Part.TheVariants.{Drafting}
use Rattle.plan.specs.Drafts.{plan_of}
use Rattle.job.specs.Jobs.{draft}
use Rattle.job.specs.Way.{in_all}
use Rattle.job.proofs.job.Job.await_survey.Given as goal

abbrev pub invariant-loop-draft : goal.invariant-loop-draft
invariant-loop-draft l =
    (l.self.part ≡ Drafting)
    × (in_all l.self (draft (plan_of l.draft))
    ≡ in_all l.initial.self (draft (plan_of l.initial.draft)))

abbrev pub decreases-loop-draft : goal.decreases-loop-draft
decreases-loop-draft l = length l.self.lines.rest.now
