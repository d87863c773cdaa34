-- The least verdict at or above a family of verdicts.
use Rattle.verdict.specs.Algebra.{Ops, Below}

module _ {V : Type 0} (o : Ops V) where
  -- v is at or above each verdict of the family, and at or below every verdict that is
  pub record Least (I : Type 0) (f : I → V) (v : V) : Type 0 where
    pub above : (i : I) → Below o (f i) v
    pub least : (u : V) → ((i : I) → Below o (f i) u) → Below o v u
