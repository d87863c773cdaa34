-- What a call adds to a printout.
use Rattle.std.specs.Prelude.{◌≡◌, ℕ, List, ◌++◌, Result, string_bytes, OnOk}
use Rattle.report.specs.declared.printout.Printout.{Printout}

-- a call that answers r adds a text, unless memory runs out, and the line that is answered stays
pub record Adds {E : Type 0} (r : Result (Unit {0}) E) (old new : Printout) (text : List ℕ) : Type 0 where
  pub grown : OnOk r (string_bytes new.text ≡ string_bytes old.text ++ text)
  pub stays : new.line ≡ old.line
