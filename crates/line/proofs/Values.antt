-- The value of digits, and that seven of them stay small.
use Rattle.std.proofs.Common.{◌≡◌, ℕ, zero, suc, ◌+◌, ◌-◌, ◌*◌, ◌^◌, ◌<◌, ◌≤◌, true, List, [], ◌∷◌, length, get_or, drop, ap, ◌∙◌, mul-le-mul_right, pow-suc, arith, length-drop}
use native.Mathlib.Nat.{pow-le-pow_right}
use Rattle.std.proofs.lemmas.List.{at_drop_more, at_drop_all}
use Rattle.std.proofs.lemmas.Bool.Decides.{nat_tests}
use Rattle.line.specs.Line.{decimal, digits}

pub digit_small : (d : ℕ) (ds : List ℕ) → digits (d ∷ ds) ≡ true → (48 ≤ d) × (d ≤ 57) × (digits ds ≡ true)
digit_small d ds all = (grind (arith, nat_tests), grind (arith, nat_tests), grind (arith, nat_tests))

pub digit_at : (ds : List ℕ) (i : ℕ) → digits ds ≡ true → i < length ds → 48 ≤ get_or ds i 0
digit_at [] i all lt = absurd (omega arith)
digit_at (d ∷ ds) zero all lt = (digit_small d ds all).0
digit_at (d ∷ ds) (suc i) all lt = digit_at ds i (digit_small d ds all).2 (omega arith)

pub decimal_small : (ds : List ℕ) → digits ds ≡ true → decimal ds < 10 ^ length ds
decimal_small [] all = omega arith
decimal_small (d ∷ ds) all =
    let one = digit_small d ds all in
    let rest = decimal_small ds one.2 in
    let top : d - 48 ≤ 9 = omega (arith, one.1) in
    omega (arith, rest, mul-le-mul_right (10 ^ length ds) top, pow-suc 10 (length ds))

-- seven digits stay below ten million
pub seven : (ds : List ℕ) → digits ds ≡ true → length ds ≤ 7 → decimal ds < 10 ^ 7
seven ds all few = omega (arith, decimal_small ds all, pow-le-pow_right {n = 10} (omega arith) few)

-- the value of the digits from an index on, by the first of them
pub decimal_more : (ds : List ℕ) (i : ℕ) → i < length ds → decimal (drop i ds) ≡ (get_or ds i 0 - 48) * 10 ^ (length ds - 1 - i) + decimal (drop (i + 1) ds)
decimal_more ds i lt =
    let place : length (drop (i + 1) ds) ≡ length ds - 1 - i = length-drop (i + 1) ds ∙ omega arith in
    at_drop_more decimal ds i 0 lt ∙ ap (λ n. (get_or ds i 0 - 48) * 10 ^ n + decimal (drop (i + 1) ds)) place

pub decimal_end : (ds : List ℕ) (i : ℕ) → length ds ≤ i → decimal (drop i ds) ≡ 0
decimal_end ds i le = at_drop_all decimal ds i le

-- what the loop of `value` needs
pub ruleset digit_sums = (digit_at, seven, decimal_more, decimal_end)
