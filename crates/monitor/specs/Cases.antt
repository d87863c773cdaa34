-- Cases of the meanings that readers ask about.
use Rattle.std.specs.Prelude.{◌≡◌, ℕ, ◌+◌}
use Rattle.reading.specs.Ends.{Ends}
use Rattle.verdict.specs.Algebra.{Ops}
use Rattle.network.specs.Measures.{Extend}
use Rattle.plan.specs.declared.statement.Statement.TheVariants.{Until}
use Rattle.plan.specs.Plans.{Plan}
use Rattle.monitor.specs.Meaning.{Sheet, Means}

-- until from 1 to 2 at the last step is bottom, whatever its rows say
abbrev pub BottomAtTheEnd : {V : Type 0} → Ops V → Extend → Type 0
BottomAtTheEnd {V} o x =
    (plan : Plan) (readings : ℕ → Ends) (f : Sheet V) (r s t p : ℕ) (v : V) → t + 1 ≡ plan.steps → Means o x plan readings f (Until (record { hold = r; goal = s; from = 1; upto = 2 })) t p v → v ≡ o.bottom
