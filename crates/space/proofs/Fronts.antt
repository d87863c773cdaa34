-- What is read of the levels that lie at the front of the work.
use Rattle.std.proofs.Common.{◌≡◌, ℕ, zero, suc, ◌+◌, ◌-◌, ◌*◌, ◌<◌, List, ◌++◌, length, Option, refl, ap, ap₂, ◌∙◌, arith}
use lib.ListN.{get_or-append}
use Rattle.network.specs.declared.pipe.Pipe.{Pipe}
use Rattle.verdict.specs.Algebra.{Ops}
use Rattle.network.specs.Measures.{Extend}
use Rattle.space.specs.Levels.{cap, tall, begun, climbed, joined, gathered, reached}
use Rattle.space.proofs.Rooms.{inside, tall_cap}

module _ {V : Type 0} (o : Ops V) where
  -- what stands past the levels does not count
  joined_front : (places : ℕ) (xs ys : List V) (low n p : ℕ) → ((k : ℕ) → k < n → (low + k) * places + p < length xs) → joined o places (xs ++ ys) low n p ≡ joined o places xs low n p
  joined_front places xs ys low zero p h = refl
  joined_front places xs ys low (suc n) p h =
      ap₂ o.join (joined_front places xs ys low n p (λ k lt. h k (omega arith))) (get_or-append xs ys o.bottom ((low + n) * places + p) (h n (omega arith)))

  pub gathered_front : (x : Extend) (t : ℕ) (pipes : List Pipe) (through goal : List V) (low : ℕ) (high : Option ℕ) (top height : ℕ) (levels rest : List V) → top ≡ cap low high → height ≡ tall low high → length goal ≡ length through → length levels ≡ (top + 1) * length goal → levels ≡ climbed o through x t top pipes height (begun o goal top) → (p : ℕ) → p < length through → gathered o (length through) (levels ++ rest) low high p ≡ reached o x t pipes through goal low high p
  gathered_front x t pipes through goal low high top height levels rest a b pair long e p hp =
      joined_front (length through) levels rest low (tall low high - low) p
      (λ k lt. inside (low + k) p (top + 1) (length through) (length levels) (let t = tall_cap low high in omega arith) hp (let size = ap (λ n. (top + 1) * n) pair in omega arith))
      ∙ rw (e, a, b) refl
