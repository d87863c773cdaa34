-- The laws of a kind whose verdicts stand in a line.
use Rattle.std.specs.Prelude.{◌≡◌, ℤ, ◌+ℤ◌, ◌-ℤ◌, ◌≤ℤ◌}
use Rattle.std.proofs.Common.{◌∙◌, sym, ap, arith}
use Rattle.std.specs.Int.{int_min, int_max}
use Rattle.std.proofs.lemmas.Int.{ints, clamps}
use Rattle.verdict.specs.Algebra.{Ops, Laws, nearest}

-- each verdict has a number of its own, its rank: join takes the greater rank, meet the smaller,
-- not counts from the other end of the line, and only the low end is judged
pub record Linear {V : Type 0} (o : Ops V) : Type 0 where
  pub rank : V → ℤ
  pub same : (x y : V) → rank x ≡ rank y → x ≡ y
  pub joins : (x y : V) → rank (o.join x y) ≡ int_max (rank x) (rank y)
  pub meets : (x y : V) → rank (o.meet x y) ≡ int_min (rank x) (rank y)
  pub turns : (x : V) → rank (o.neg x) ≡ (rank o.bottom +ℤ rank o.top) -ℤ rank x
  pub above : (x : V) → rank o.bottom ≤ℤ rank x
  pub below : (x : V) → rank x ≤ℤ rank o.top
  -- the verdict of a reading at a limit within the bounds
  pub at : ℤ → ℤ → V
  pub judged : (l h k : ℤ) → o.judge l h k ≡ at l (nearest k)
  pub climbs : (x y k : ℤ) → x ≤ℤ y → rank (at x k) ≤ℤ rank (at y k)

nearest_twice : (k : ℤ) → nearest k ≡ nearest (nearest k)
nearest_twice k = omega (arith, ints, clamps)

module _ {V : Type 0} {o : Ops V} (n : Linear o) where
  pub linear_laws : Laws o
  linear_laws = record {
    join_comm = λ x y. n.same _ _ (omega (arith, ints, clamps, n.joins x y, n.joins y x));
    meet_comm = λ x y. n.same _ _ (omega (arith, ints, clamps, n.meets x y, n.meets y x));
    join_assoc = λ x y z. n.same _ _ (omega (arith, ints, clamps, n.joins (o.join x y) z, n.joins x y, n.joins x (o.join y z), n.joins y z));
    meet_assoc = λ x y z. n.same _ _ (omega (arith, ints, clamps, n.meets (o.meet x y) z, n.meets x y, n.meets x (o.meet y z), n.meets y z));
    join_absorb = λ x y. n.same _ _ (omega (arith, ints, clamps, n.joins x (o.meet x y), n.meets x y));
    meet_absorb = λ x y. n.same _ _ (omega (arith, ints, clamps, n.meets x (o.join x y), n.joins x y));
    meet-join = λ x y z. n.same _ _ (omega (arith, ints, clamps, n.meets x (o.join y z), n.joins y z, n.joins (o.meet x y) (o.meet x z), n.meets x y, n.meets x z));
    join-meet = λ x y z. n.same _ _ (omega (arith, ints, clamps, n.joins x (o.meet y z), n.meets y z, n.meets (o.join x y) (o.join x z), n.joins x y, n.joins x z));
    least = λ x. n.same _ _ (omega (arith, ints, clamps, n.joins o.bottom x, n.above x));
    greatest = λ x. n.same _ _ (omega (arith, ints, clamps, n.joins x o.top, n.below x));
    neg-neg = λ x. n.same _ _ (omega (arith, ints, n.turns (o.neg x), n.turns x));
    neg-join = λ x y. n.same _ _ (omega (arith, ints, clamps, n.turns (o.join x y), n.joins x y, n.meets (o.neg x) (o.neg y), n.turns x, n.turns y));
    neg-bottom = n.same _ _ (omega (arith, ints, n.turns o.bottom));
    rises = λ x y k low up high. n.same _ _ (omega (arith, ints, clamps, n.joins (o.judge x x k) (o.judge y y k), ap n.rank (n.judged x x k), ap n.rank (n.judged y y k), n.climbs x y (nearest k) up));
    limits = λ l h k. n.judged l h k ∙ ap (n.at l) (nearest_twice k) ∙ sym (n.judged l h (nearest k));
  }
