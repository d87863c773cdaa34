-- Yes or no, and the laws of this kind.
use Rattle.std.specs.Prelude.{◌≡◌, Bool, true, false, T, ℤ, pos, ◌+ℤ◌, ◌-ℤ◌, ◌≤ℤ◌, int_le, refl}
use Rattle.std.specs.Int.Signed.{le_z_yes}
use Rattle.std.proofs.Common.{arith}
use Rattle.std.specs.Int.{int_min, int_max}
use Rattle.std.proofs.lemmas.Int.{ints}
use Rattle.verdict.specs.declared.yesno.YesNo.{YesNo}
use Rattle.verdict.specs.declared.yesno.YesNo.TheVariants.{No, Yes}
use Rattle.verdict.specs.Algebra.{Ops, Laws, nearest}
use Rattle.verdict.specs.Linear.{linear_laws}

abbrev pub either : YesNo → YesNo → YesNo
either Yes w = Yes
either No w = w

abbrev pub both : YesNo → YesNo → YesNo
both Yes w = w
both No w = No

abbrev pub opposite : YesNo → YesNo
opposite Yes = No
opposite No = Yes

abbrev pub answer : Bool → YesNo
answer true = Yes
answer false = No

-- yes when the reading is at least the limit
abbrev pub at_least : ℤ → ℤ → YesNo
at_least x k = answer (int_le k x)

-- yes is top; the low end is judged
abbrev pub yesno : Ops YesNo
yesno = record {
  bottom = No;
  top = Yes;
  join = either;
  meet = both;
  neg = opposite;
  judge = λ low high limit. at_least low (nearest limit);
  ranged = false;
}

-- the laws

abbrev rank : YesNo → ℤ
rank No = pos 0
rank Yes = pos 1

same : (x y : YesNo) → rank x ≡ rank y → x ≡ y
same No No e = refl
same No Yes e = cc
same Yes No e = cc
same Yes Yes e = refl

joins : (x y : YesNo) → rank (either x y) ≡ int_max (rank x) (rank y)
joins No No = refl
joins No Yes = refl
joins Yes No = refl
joins Yes Yes = refl

meets : (x y : YesNo) → rank (both x y) ≡ int_min (rank x) (rank y)
meets No No = refl
meets No Yes = refl
meets Yes No = refl
meets Yes Yes = refl

turns : (x : YesNo) → rank (opposite x) ≡ (rank No +ℤ rank Yes) -ℤ rank x
turns No = refl
turns Yes = refl

above : (x : YesNo) → rank No ≤ℤ rank x
above No = le_z_yes tt
above Yes = le_z_yes tt

below : (x : YesNo) → rank x ≤ℤ rank Yes
below No = le_z_yes tt
below Yes = le_z_yes tt

-- where one test implies another, its answer is no greater
implied : (a b : Bool) → (T a → T b) → rank (answer a) ≤ℤ rank (answer b)
implied true true f = le_z_yes tt
implied true false f = absurd (f tt)
implied false b f = above (answer b)

passes : (k x y : ℤ) → x ≤ℤ y → k ≤ℤ x → k ≤ℤ y
passes k x y up h = omega (arith, ints)

pub yesno_laws : Laws yesno
yesno_laws = linear_laws record {
  rank = rank;
  same = same;
  joins = joins;
  meets = meets;
  turns = turns;
  above = above;
  below = below;
  at = at_least;
  judged = λ l h k. refl;
  climbs = λ x y k up. implied (int_le k x) (int_le k y) (λ t. (passes k x y up (le_z_yes t)).le);
}
