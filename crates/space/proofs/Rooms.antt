-- Room for the levels.
use Rattle.std.proofs.Common.{◌≡◌, ℕ, ◌+◌, ◌*◌, ◌<◌, ◌≤◌, Some, None, Option, suc-mul, add-one, arith}
use lib.Arith.{digits_lt}
use Rattle.space.specs.Levels.{cap, tall}

-- level k at place p, where there is room for n levels
pub inside : (k p n places size : ℕ) → k < n → p < places → n * places ≤ size → k * places + p < size
inside k p n places size hk hp room = let less : k * places + p < n * places = digits_lt {q = k} hk hp in omega arith

pub one_more : (n places : ℕ) → (n + 1) * places ≡ n * places + places
one_more n places = rw add-one (suc-mul n places)

-- no level past the highest is worked through
pub tall_cap : (low : ℕ) (high : Option ℕ) → tall low high ≤ cap low high + 1
tall_cap low None = omega arith
tall_cap low (Some high) = omega arith
