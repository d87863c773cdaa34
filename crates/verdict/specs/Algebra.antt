-- A verdict kind: its operations, its order and its laws.
use Rattle.std.specs.Prelude.{◌≡◌, Bool, ℤ, ◌≤ℤ◌}
use Rattle.std.specs.Int.{int_min, int_max}
use Rattle.reading.specs.Ends.{lowest, highest}

pub record Ops (V : Type 0) : Type 0 where
  pub bottom : V
  pub top : V
  pub join : V → V → V
  pub meet : V → V → V
  pub neg : V → V
  -- low end, high end, limit
  pub judge : ℤ → ℤ → ℤ → V
  -- whether the kind takes ranges, or exact readings only
  pub ranged : Bool

-- a limit as it is read: beyond the bounds of readings, the nearer bound
abbrev pub nearest : ℤ → ℤ
nearest k = int_max lowest (int_min k highest)

module _ {V : Type 0} (o : Ops V) where
  -- v is at or below w
  abbrev pub Below : V → V → Type 0
  Below v w = o.join v w ≡ w

pub record Laws {V : Type 0} (o : Ops V) : Type 0 where
  pub join_comm : (x y : V) → o.join x y ≡ o.join y x
  pub meet_comm : (x y : V) → o.meet x y ≡ o.meet y x
  pub join_assoc : (x y z : V) → o.join (o.join x y) z ≡ o.join x (o.join y z)
  pub meet_assoc : (x y z : V) → o.meet (o.meet x y) z ≡ o.meet x (o.meet y z)
  pub join_absorb : (x y : V) → o.join x (o.meet x y) ≡ x
  pub meet_absorb : (x y : V) → o.meet x (o.join x y) ≡ x
  pub meet-join : (x y z : V) → o.meet x (o.join y z) ≡ o.join (o.meet x y) (o.meet x z)
  pub join-meet : (x y z : V) → o.join x (o.meet y z) ≡ o.meet (o.join x y) (o.join x z)
  pub least : (x : V) → Below o o.bottom x
  pub greatest : (x : V) → Below o x o.top
  pub neg-neg : (x : V) → o.neg (o.neg x) ≡ x
  pub neg-join : (x y : V) → o.neg (o.join x y) ≡ o.meet (o.neg x) (o.neg y)
  pub neg-bottom : o.neg o.bottom ≡ o.top
  -- exact readings at one limit: a lesser reading is judged at or below a greater one
  pub rises : (x y k : ℤ) → lowest ≤ℤ x → x ≤ℤ y → y ≤ℤ highest → Below o (o.judge x x k) (o.judge y y k)
  -- a limit beyond the bounds counts as the nearer bound
  pub limits : (l h k : ℤ) → o.judge l h k ≡ o.judge l h (nearest k)
