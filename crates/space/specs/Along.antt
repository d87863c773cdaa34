-- The worth of a route.
use Rattle.std.specs.Prelude.{ℕ, List, [], ◌∷◌}
use Rattle.verdict.specs.Algebra.{Ops}
use Rattle.network.specs.declared.pipe.Pipe.{Pipe}

-- the meet of s at the route's last place with r at every earlier place, from p on
abbrev pub along : {V : Type 0} → Ops V → (r s : ℕ → V) → ℕ → List Pipe → V
along o r s p [] = s p
along o r s p (e ∷ π) = o.meet (r p) (along o r s e.to π)
