-- The sum so far and the value of the digits to come make up the value.
use Rattle.std.proofs.Common.{◌≡◌, ◌+◌, drop}
use Rattle.line.specs.Line.{decimal}
use Rattle.line.proofs.number.value.Given as goal

abbrev pub invariant-loop-i : goal.invariant-loop-i
invariant-loop-i l = l.sum + decimal (drop l.i l.digits) ≡ decimal l.digits
