-- What a line leads to, from what its call answered and left.
use Rattle.std.proofs.Common.{◌≡◌, ℕ, List, [], ◌++◌, Some, None, Option, Result, ap}
use Rattle.refusal.specs.declared.Refusal.{Refusal}
use Rattle.std.specs.Result.{result_err}
use Rattle.refusal.specs.Checks.{answer, leaves}
use Rattle.report.specs.Texts.{unless_refused}
use Rattle.job.specs.Jobs.{Stage, upon}
use Rattle.job.specs.Reading.{Done}

-- a call that may be refused, and whose refusal is printed
pub call_done : {X : Type 0} (f : X → Stage) (line : ℕ) (r : Option Refusal) (a : Result (Unit {0}) Refusal) (x old new : X) (out out' : List ℕ) → a ≡ answer r → x ≡ leaves r old new → out' ≡ out ++ unless_refused line (result_err a) [] → Done out out' (f x) (upon line r (f old) (f new))
call_done f line None a x old new out out' is left told = record { grown = rw (told, is); come = ap f left }
call_done f line (Some e) a x old new out out' is left told = record { grown = rw (told, is); come = ap f left }
