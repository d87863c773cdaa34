-- The widest range against the others.
use Rattle.std.proofs.Common.{◌≡◌, true, false, arith}
use Rattle.std.proofs.lemmas.Int.{ints}
use Rattle.reading.specs.declared.range.Range.{Range}
use Rattle.reading.specs.Ends.{ends, widest, inside, is_widest}

pub inside_widest : (r : Range) → inside (ends r) widest ≡ true
inside_widest r = grind (arith, ints)

pub widest_is : (r : Range) → is_widest (ends r) ≡ true → ends r ≡ widest
widest_is r e = grind (arith, ints)

-- what lies inside a range that is not widest is not widest
pub inside_narrow : (g h : Range) → inside (ends g) (ends h) ≡ true → is_widest (ends h) ≡ false → is_widest (ends g) ≡ false
inside_narrow g h i e = grind (arith, ints)
