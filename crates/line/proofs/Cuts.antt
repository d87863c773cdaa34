-- Cutting a text at its first line feed, and a line's fields after a space.
use Rattle.std.proofs.Common.{◌≡◌, ℕ, zero, suc, ◌+◌, ◌<◌, ◌≤◌, Bool, true, false, eqb, List, [], ◌∷◌, length, get_or, take, drop, Some, None, map, position, refl, ap, add-one, arith}
use Rattle.std.specs.List.{onto_first, position_or_len}
use Rattle.std.proofs.lemmas.List.Quantifiers.{position-Some}
use Rattle.std.proofs.lemmas.Bool.Decides.{nat_tests}
use Rattle.line.specs.Line.{lines, words, field, fields}

abbrev feed : ℕ → Bool
feed b = eqb b 10

-- a line that ends at a line feed, and the lines after that
cut_at : (s : List ℕ) (n : ℕ) → n < length s → feed (get_or s n 0) ≡ true → ((k : ℕ) → k < n → feed (get_or s k 0) ≡ false) → lines s ≡ take n s ∷ lines (drop (suc n) s)
cut_at [] n within here before = absurd (omega arith)
cut_at (b ∷ bs) zero within here before = rw here refl
cut_at (b ∷ bs) (suc n) within here before =
    rw (before 0 (omega arith)) (ap (onto_first b) (cut_at bs n (omega arith) here (λ k lt. before (suc k) (omega arith))))

pub lines_cut : (s : List ℕ) (n : ℕ) → position feed s ≡ Some n → lines s ≡ take n s ∷ lines (drop (n + 1) s)
lines_cut s n found =
    let first = position-Some feed s n 0 found in
    rw add-one (cut_at s n first.0 first.1 first.2)

-- a line that nothing ends
whole : (s : List ℕ) → 0 < length s → length s ≤ position_or_len feed s → lines s ≡ s ∷ []
whole [] some none = absurd (omega arith)
whole (b ∷ []) some none = grind (arith, nat_tests)
whole (b ∷ c ∷ cs) some none = let rest = whole (c ∷ cs) (omega arith) in grind (arith, nat_tests)

pub lines_whole : (s : List ℕ) → 0 < length s → position feed s ≡ None → lines s ≡ s ∷ []
lines_whole s some none = whole s some (grind (arith, nat_tests))

-- the fields after a space
pub fields_spaced : (s rest : List ℕ) → 0 < length s → get_or s 0 0 ≡ 32 → rest ≡ drop 1 s → fields s ≡ Some (map field (words rest))
fields_spaced [] rest some space e = absurd (omega arith)
fields_spaced (b ∷ bs) rest some space e = let at : b ≡ 32 = space in rw (at, e) refl
