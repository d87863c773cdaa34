-- The order of the positions on a board: by row, then by step, then by place.
use Rattle.std.proofs.Common.{◌≡◌, ℕ, ◌+◌, ◌*◌, ◌/◌, ◌%◌, ◌<◌, ◌≤◌, true, ltb, sym, ap, ◌∙◌, mul-le-mul_right, arith, ltb-true}
use Rattle.plan.specs.Plans.{Plan, index}
use lib.Arith.{digits_div, digits_mod}

module _ (S P : ℕ) where
  abbrev at : ℕ → ℕ → ℕ → ℕ
  at i t p = (i * S + t) * P + p

  -- a row begins before all of its positions
  pub start : (i t p : ℕ) → at i 0 0 ≤ at i t p
  start i t p = let line : (i * S + 0) * P ≤ (i * S + t) * P = mul-le-mul_right P (omega arith) in omega (arith, line)

  -- and a step of it ends before the next row begins
  pub within_row : (i t : ℕ) → t ≤ S → at i t 0 ≤ at (i + 1) 0 0
  within_row i t le =
      let line : (i * S + t) * P ≤ (i * S + S) * P = mul-le-mul_right P (omega arith) in omega (arith, line)

  pub within_all : (i n : ℕ) → i ≤ n → at i 0 0 ≤ at n 0 0
  within_all i n le =
      let rows : i * S ≤ n * S = mul-le-mul_right S le in
      let lines : (i * S + 0) * P ≤ (n * S + 0) * P = mul-le-mul_right P (omega arith) in
      omega (arith, lines)

  -- what belongs to an earlier row stands before all of a later row
  pub earlier : (r i t p t' p' : ℕ) → r < i → t < S → p < P → at r t p < at i t' p'
  earlier r i t p t' p' hr ht hp =
      let rows : (r + 1) * S ≤ i * S = mul-le-mul_right S (omega arith) in
      let line : (r * S + t) + 1 ≤ i * S + t' = omega (arith, rows) in
      let lines : ((r * S + t) + 1) * P ≤ (i * S + t') * P = mul-le-mul_right P line in
      omega (arith, lines)

  -- a position is that of one row, step and place
  pub injective : (i t p j u q : ℕ) → t < S → p < P → u < S → q < P → at i t p ≡ at j u q → (i ≡ j) × (t ≡ u) × (p ≡ q)
  injective i t p j u q ht hp hu hq e =
      let line : i * S + t ≡ j * S + u = sym (digits_div (i * S + t) hp) ∙ ap (λ n. n / P) e ∙ digits_div (j * S + u) hq in (
        sym (digits_div i ht) ∙ ap (λ n. n / S) line ∙ digits_div j hu,
        sym (digits_mod i ht) ∙ ap (λ n. n % S) line ∙ digits_mod j hu,
        sym (digits_mod (i * S + t) hp) ∙ ap (λ n. n % P) e ∙ digits_mod (j * S + u) hq,
      )

-- an earlier row stands within the board
pub within : (plan : Plan) (r i t p room : ℕ) → ltb r i ≡ true → t < plan.steps → p < plan.places → index plan i 0 0 ≤ room → index plan r t p < room
within plan r i t p room e ht hp le =
    omega (arith, earlier plan.steps plan.places r i t p 0 0 (ltb-true r i e) ht hp)
