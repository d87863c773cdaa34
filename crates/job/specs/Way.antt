-- A job under way.
use Rattle.std.specs.Prelude.{ℕ, List, string_bytes}
use Rattle.job.specs.Jobs.{Stage, printed}
use Rattle.job.specs.declared.job.Job.{Job}

-- what a job prints in all: what it has printed, and what comes of the lines that are left
abbrev pub in_all : Job → Stage → List ℕ
in_all j s = printed (string_bytes j.out.text) j.lines.number s j.lines.rest.now
