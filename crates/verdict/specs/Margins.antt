-- Margins, how far a reading lies above a limit, and the laws of this kind.
use Rattle.std.specs.Prelude.{◌≡◌, false, ℤ, pos, negsuc, ◌-ℤ◌, neg_ℤ, ◌≤ℤ◌, int_le, refl}
use mathlib.Core.HLevel.{is_prop→PathP}
use Rattle.std.proofs.Math.Dec.{T_prop}
use Rattle.std.proofs.Common.{arith}
use Rattle.std.specs.Int.{int_min, int_max}
use Rattle.std.proofs.lemmas.Int.{ints, clamps}
use Rattle.verdict.specs.declared.margin.Margin.{Margin}
use Rattle.verdict.specs.Algebra.{Ops, Laws, nearest}
use Rattle.verdict.specs.Linear.{linear_laws}

-- the ends of margins: -2,000,001 and 2,000,001
abbrev pub worst : ℤ
worst = negsuc 2000000

abbrev pub best : ℤ
best = pos 2000001

-- a number as a margin has it: beyond the ends, the nearer end
abbrev pub held : ℤ → ℤ
held x = int_max worst (int_min x best)

pub held_floor : (x : ℤ) → worst ≤ℤ held x
held_floor x = omega (arith, ints, clamps)

pub held_ceiling : (x : ℤ) → held x ≤ℤ best
held_ceiling x = omega (arith, ints, clamps)

abbrev pub margin : ℤ → Margin
margin x = record { value = held x; floor = held_floor x; ceiling = held_ceiling x }

-- the reading less the limit
abbrev pub excess : ℤ → ℤ → Margin
excess x k = margin (x -ℤ k)

-- the low end is judged
abbrev pub margins : Ops Margin
margins = record {
  bottom = margin worst;
  top = margin best;
  join = λ m n. margin (int_max m.value n.value);
  meet = λ m n. margin (int_min m.value n.value);
  neg = λ m. margin (neg_ℤ m.value);
  judge = λ low high limit. excess low (nearest limit);
  ranged = false;
}

-- the laws

one_proof : (a b : ℤ) → IsProp (a ≤ℤ b)
one_proof a b h k = λ i. record { le = T_prop (int_le a b) h.le k.le i }

-- margins of one value are one margin
pub same_margin : (m n : Margin) → m.value ≡ n.value → m ≡ n
same_margin m n p = λ i. record {
  value = p i;
  floor = is_prop→PathP (λ j. worst ≤ℤ p j) (λ j. one_proof worst (p j)) m.floor n.floor i;
  ceiling = is_prop→PathP (λ j. p j ≤ℤ best) (λ j. one_proof (p j) best) m.ceiling n.ceiling i;
}

pub margin_laws : Laws margins
margin_laws = linear_laws record {
  rank = λ m. m.value;
  same = same_margin;
  joins = λ m n. omega (arith, ints, clamps);
  meets = λ m n. omega (arith, ints, clamps);
  turns = λ m. omega (arith, ints, clamps);
  above = λ m. m.floor;
  below = λ m. m.ceiling;
  at = excess;
  judged = λ l h k. refl;
  climbs = λ x y k up. omega (arith, ints, clamps);
}
