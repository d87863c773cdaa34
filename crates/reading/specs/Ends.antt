-- Ranges by their ends.
use Rattle.std.specs.Prelude.{Bool, cond, ◌&&◌, ℤ, pos, negsuc, Some, None, Option, int_le}
use Rattle.reading.specs.declared.range.Range.{Range}

-- the two ends of a range
pub record Ends : Type 0 where
  pub low : ℤ
  pub high : ℤ

abbrev pub ends : Range → Ends
ends r = record { low = r.low; high = r.high }

-- the limits of every reading: -1,000,000 and 1,000,000
abbrev pub lowest : ℤ
lowest = negsuc 999999

abbrev pub highest : ℤ
highest = pos 1000000

-- nothing is known of the level
abbrev pub widest : Ends
widest = record { low = lowest; high = highest }

-- the level is known to be x
abbrev pub exactly : ℤ → Ends
exactly x = record { low = x; high = x }

-- the ends make a range: low is not above high, and both lie within the limits
abbrev pub is_range : ℤ → ℤ → Bool
is_range low high = int_le low high && int_le lowest low && int_le high highest

-- the range with these ends, if they make one
abbrev pub made_of : ℤ → ℤ → Option Ends
made_of low high = cond (is_range low high) (Some (record { low = low; high = high })) None

-- the first range lies inside the second, equality allowed
abbrev pub inside : Ends → Ends → Bool
inside g r = int_le r.low g.low && int_le g.high r.high

abbrev pub same : ℤ → ℤ → Bool
same x y = int_le x y && int_le y x

abbrev pub is_widest : Ends → Bool
is_widest r = same r.low lowest && same r.high highest

-- an exact range has equal ends
abbrev pub is_exact : Ends → Bool
is_exact r = same r.low r.high
