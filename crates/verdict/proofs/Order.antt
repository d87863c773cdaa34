-- The order of a verdict kind, from its laws.
use Rattle.std.proofs.Common.{◌≡◌, sym, ap, ◌∙◌}
use Rattle.verdict.specs.Algebra.{Ops, Laws, Below}
use Rattle.verdict.specs.Least.{Least}

module _ {V : Type 0} {o : Ops V} (ls : Laws o) where
  pub below_refl : (x : V) → Below o x x
  below_refl x = ap (o.join x) (sym (ls.meet_absorb x x)) ∙ ls.join_absorb x (o.join x x)

  pub below_trans : {x y z : V} → Below o x y → Below o y z → Below o x z
  below_trans {x} {y} {z} h k =
      ap (o.join x) (sym k) ∙ sym (ls.join_assoc x y z) ∙ ap (λ w. o.join w z) h ∙ k

  pub below_antisym : {x y : V} → Below o x y → Below o y x → x ≡ y
  below_antisym {x} {y} h k = sym k ∙ ls.join_comm y x ∙ h

  pub join_left : (x y : V) → Below o x (o.join x y)
  join_left x y = sym (ls.join_assoc x x y) ∙ ap (λ w. o.join w y) (below_refl x)

  pub join_right : (x y : V) → Below o y (o.join x y)
  join_right x y = ap (o.join y) (ls.join_comm x y) ∙ join_left y x ∙ ls.join_comm y x

  pub join_least : {x y z : V} → Below o x z → Below o y z → Below o (o.join x y) z
  join_least {x} {y} {z} h k = ls.join_assoc x y z ∙ ap (o.join x) k ∙ h

  pub below_meet : {x y : V} → Below o x y → o.meet x y ≡ x
  below_meet {x} {y} h = ap (o.meet x) (sym h) ∙ ls.meet_absorb x y

  pub meet_below : {x y : V} → o.meet x y ≡ x → Below o x y
  meet_below {x} {y} h =
      ap (λ w. o.join w y) (sym h) ∙ ls.join_comm (o.meet x y) y ∙ ap (o.join y) (ls.meet_comm x y) ∙ ls.join_absorb y x

  meet_swap : (a b c d : V) → o.meet (o.meet a c) (o.meet b d) ≡ o.meet (o.meet a b) (o.meet c d)
  meet_swap a b c d =
      ls.meet_assoc a c (o.meet b d)
      ∙ ap (o.meet a) (sym (ls.meet_assoc c b d) ∙ ap (λ w. o.meet w d) (ls.meet_comm c b) ∙ ls.meet_assoc b c d)
      ∙ sym (ls.meet_assoc a b (o.meet c d))

  pub meet_mono : {a b c d : V} → Below o a b → Below o c d → Below o (o.meet a c) (o.meet b d)
  meet_mono {a} {b} {c} {d} h k =
      meet_below (meet_swap a b c d ∙ ap (λ w. o.meet w (o.meet c d)) (below_meet h) ∙ ap (o.meet a) (below_meet k))

  pub meet_below_right : (a b : V) → Below o (o.meet a b) b
  meet_below_right a b = ls.join_comm (o.meet a b) b ∙ ap (o.join b) (ls.meet_comm a b) ∙ ls.join_absorb b a

  pub meet-bottom : (a : V) → o.meet a o.bottom ≡ o.bottom
  meet-bottom a = ls.meet_comm a o.bottom ∙ below_meet (ls.least a)

  pub top_meet : (x : V) → o.meet o.top x ≡ x
  top_meet x = ls.meet_comm o.top x ∙ ap (o.meet x) (sym (ls.greatest x)) ∙ ls.meet_absorb x o.top

  -- there is at most one least verdict at or above a family
  pub least_unique : {I : Type 0} {f : I → V} {v w : V} → Least o I f v → Least o I f w → v ≡ w
  least_unique lv lw = below_antisym (lv.least _ lw.above) (lw.least _ lv.above)
