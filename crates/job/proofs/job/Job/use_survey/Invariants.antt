use Rattle.std.proofs.Common.{◌≡◌, length}
use Rattle.command.specs.declared.part.Part.TheVariants.{Sealed}
use Rattle.survey.specs.Surveys.{survey_of}
use Rattle.job.specs.Jobs.{survey}
use Rattle.job.specs.Way.{in_all}
use Rattle.job.proofs.job.Job.use_survey.Given as goal

abbrev pub invariant-loop-survey : goal.invariant-loop-survey
invariant-loop-survey g l =
    (l.self.part ≡ Sealed)
    × (in_all l.self (survey (survey_of g.S.Store.most g.S.Readings.ranges l.survey))
    ≡ in_all l.initial.self (survey (survey_of g.S.Store.most g.S.Readings.ranges l.initial.survey)))

abbrev pub decreases-loop-survey : goal.decreases-loop-survey
decreases-loop-survey g l = length l.self.lines.rest.now
