use Rattle.std.proofs.Common.{◌≡◌, length}
use Rattle.command.specs.declared.part.Part.TheVariants.{Blank}
use Rattle.job.specs.Jobs.{blank}
use Rattle.job.specs.Way.{in_all}
use Rattle.job.proofs.job.Job.await_draft.Given as goal

abbrev pub invariant-loop-answer : goal.invariant-loop-answer
invariant-loop-answer l =
    (l.self.part ≡ Blank)
    × (in_all l.self blank
    ≡ in_all l.initial.self blank)

abbrev pub decreases-loop-answer : goal.decreases-loop-answer
decreases-loop-answer l = length l.self.lines.rest.now
