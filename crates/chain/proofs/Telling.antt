-- The ranges that records tell, where as many cells are not widest as there are records.
use Rattle.std.specs.Prelude.{◌≡◌, ℕ, zero, suc, ◌+◌, ◌<◌, ◌≤◌, Bool, true, false, cond, ◌≢◌, List, [], ◌∷◌, ◌++◌, length, set, replicate, slice_index, slice_index_or, slice_set, refl}
use Rattle.std.proofs.Common.{sym, ap, ◌∙◌, inl, inr, arith}
use Rattle.std.proofs.lemmas.List.{length_push, length-set, length-map, length-replicate, get_or-set_same, get_or-set_other, set-set, set_comm, set_past}
use Rattle.std.proofs.lemmas.Bool.{both_ways, cases_lt}
use Rattle.reading.specs.Ends.{Ends, ends, widest, is_widest}
use Rattle.store.specs.Stored.{at, used}
use Rattle.chain.specs.declared.record.Record.{Record}
use Rattle.chain.specs.Links.{Apart}
use Rattle.chain.specs.Records.{ranges_of, cells_of, Narrow, Tally}

abbrev bit : Bool → ℕ
bit b = cond b 0 1

bit_le : (b : Bool) → bit b ≤ 1
bit_le true = omega arith
bit_le false = omega arith

bit_none : (b : Bool) → bit b ≡ 0 → b ≡ true
bit_none true h = refl
bit_none false h = absurd (omega arith)

bit_one : (b : Bool) → 1 ≤ bit b → b ≡ false
bit_one true h = absurd (omega arith)
bit_one false h = refl

-- one range written, and the cells that are not widest
used_set : (es : List Ends) (k : ℕ) (g : Ends) → k < length es → used (slice_set es k g) + bit (is_widest (at es k)) ≡ used es + bit (is_widest g)
used_set [] k g lt = absurd (omega arith)
used_set (e ∷ es) zero g lt = omega arith
used_set (e ∷ es) (suc k) g lt = omega (arith, used_set es k g (omega arith))

used_set_le : (es : List Ends) (k : ℕ) (g : Ends) → used (slice_set es k g) ≤ used es + 1
used_set_le [] k g = omega arith
used_set_le (e ∷ es) zero g = omega (arith, bit_le (is_widest g))
used_set_le (e ∷ es) (suc k) g = omega (arith, used_set_le es k g)

used_blank : (n : ℕ) → used (replicate n widest) ≡ 0
used_blank zero = refl
used_blank (suc n) = omega (arith, used_blank n)

at_blank : (n k : ℕ) → at (replicate n widest) k ≡ widest
at_blank zero k = refl
at_blank (suc n) zero = refl
at_blank (suc n) (suc k) = at_blank n k

-- no record is of the cell k
abbrev pub Free : List Record → ℕ → Type 0
Free rs k = (i : ℕ) → i < length (cells_of rs) → slice_index (cells_of rs) i ≢ k

pub as_many : (rs : List Record) → length (cells_of rs) ≡ length rs
as_many rs = length-map rs (λ (r : Record). r.cell)

module _ (n : ℕ) where
  pub length-ranges : (rs : List Record) → length (ranges_of n rs) ≡ n
  length-ranges [] = length-replicate n widest
  length-ranges (r ∷ rs) = length-set (ranges_of n rs) r.cell (ends r.range) ∙ length-ranges rs

  -- a cell without a record is widest
  pub free_widest : (rs : List Record) (k : ℕ) → Free rs k → at (ranges_of n rs) k ≡ widest
  free_widest [] k f = at_blank n k
  free_widest (r ∷ rs) k f =
      get_or-set_other (ranges_of n rs) r.cell k (ends r.range) widest (λ e. f 0 (omega arith) (sym e)) ∙ free_widest rs k (λ i lt. f (suc i) (omega arith))

  pub ranges_push : (rs : List Record) (x : Record) → Free rs x.cell → ranges_of n (rs ++ x ∷ []) ≡ slice_set (ranges_of n rs) x.cell (ends x.range)
  ranges_push [] x f = refl
  ranges_push (r ∷ rs) x f =
      ap (λ l. set l r.cell (ends r.range)) (ranges_push rs x (λ i lt. f (suc i) (omega arith)))
      ∙ set_comm (ranges_of n rs) x.cell r.cell (ends x.range) (ends r.range) (λ e. f 0 (omega arith) (sym e))

  used_le : (rs : List Record) → used (ranges_of n rs) ≤ length rs
  used_le [] = omega (arith, used_blank n)
  used_le (r ∷ rs) = omega (arith, used_set_le (ranges_of n rs) r.cell (ends r.range), used_le rs)

  pub tally_none : Tally n []
  tally_none = used_blank n

  pub tally_push : (rs : List Record) (x : Record) → Tally n rs → Free rs x.cell → x.cell < n → is_widest (ends x.range) ≡ false → Tally n (rs ++ x ∷ [])
  tally_push rs x t f lt e =
      let one = used_set (ranges_of n rs) x.cell (ends x.range) (omega (arith, length-ranges rs)) in
      let was : bit (is_widest (at (ranges_of n rs) x.cell)) ≡ 0 = ap (λ r. bit (is_widest r)) (free_widest rs x.cell f) in
      let is : bit (is_widest (ends x.range)) ≡ 1 = ap bit e in
      omega (arith, ap used (ranges_push rs x f), length_push rs x)

  -- what the tally says of the first record
  record First (r : Record) (rs : List Record) : Type 0 where
    rest : Tally n rs
    below : r.cell < n
    free : is_widest (at (ranges_of n rs) r.cell) ≡ true
    narrow : is_widest (ends r.range) ≡ false

  first : (r : Record) (rs : List Record) → Tally n (r ∷ rs) → First r rs
  first r rs t =
      let es = ranges_of n rs in
      let below : r.cell < n =
      elim (cases_lt r.cell n) [
        | inl h ↦ h
        | inr h ↦ absurd (omega (arith, ap used (set_past es r.cell (ends r.range) (omega (arith, length-ranges rs))), used_le rs))
      ] in
      let one = used_set es r.cell (ends r.range) (omega (arith, length-ranges rs)) in
      record {
        rest = omega (arith, used_set_le es r.cell (ends r.range), used_le rs);
        below = below;
        free = bit_none _ (omega (arith, bit_le (is_widest (ends r.range)), used_le rs));
        narrow = bit_one _ (omega (arith, used_le rs));
      }

  -- a record tells the range of its cell, which is not widest
  pub record Told (rs : List Record) (i : ℕ) (d : Record) : Type 0 where
    pub is : at (ranges_of n rs) (slice_index (cells_of rs) i) ≡ ends (slice_index_or rs i d).range
    pub narrow : is_widest (ends (slice_index_or rs i d).range) ≡ false

  other : (r : Record) (rs : List Record) (i : ℕ) (d : Record) → First r rs → Told rs i d → slice_index (cells_of rs) i ≢ r.cell
  other r rs i d f t e =
      both_ways (is_widest (at (ranges_of n rs) r.cell)) (ap (λ k. is_widest (at (ranges_of n rs) k)) (sym e) ∙ ap is_widest t.is ∙ t.narrow) f.free

  pub told : (rs : List Record) (i : ℕ) (d : Record) → Tally n rs → i < length rs → Told rs i d
  told [] i d t lt = absurd (omega arith)
  told (r ∷ rs) zero d t lt =
      let f = first r rs t in
      record { is = get_or-set_same (ranges_of n rs) r.cell (ends r.range) widest (omega (arith, length-ranges rs, f.below)); narrow = f.narrow }
  told (r ∷ rs) (suc i) d t lt =
      let f = first r rs t in
      let low = told rs i d f.rest (omega arith) in
      record {
        is = get_or-set_other (ranges_of n rs) r.cell (slice_index (cells_of rs) i) (ends r.range) widest (other r rs i d f low) ∙ low.is;
        narrow = low.narrow;
      }

  pub below_all : (rs : List Record) (i : ℕ) → Tally n rs → i < length rs → slice_index (cells_of rs) i < n
  below_all [] i t lt = absurd (omega arith)
  below_all (r ∷ rs) zero t lt = (first r rs t).below
  below_all (r ∷ rs) (suc i) t lt = below_all rs i (first r rs t).rest (omega arith)

  pub narrow_all : (rs : List Record) → Tally n rs → Narrow rs
  narrow_all rs t i d lt = (told rs i d t lt).narrow

  pub apart_all : (rs : List Record) → Tally n rs → Apart (cells_of rs)
  apart_all [] t i j (lt, ok) e = omega arith
  apart_all (r ∷ rs) t i zero (lt, ok) e = omega arith
  apart_all (r ∷ rs) t zero (suc j) (lt, ok) e =
      let f = first r rs t in
      other r rs j r f (told rs j r f.rest (omega (arith, as_many rs))) (sym e)
  apart_all (r ∷ rs) t (suc i) (suc j) (lt, ok) e = apart_all rs (first r rs t).rest i j (omega arith, omega arith) e

  -- a record written over, of the same cell
  pub ranges_set : (rs : List Record) (i : ℕ) (x : Record) → Tally n rs → i < length rs → slice_index (cells_of rs) i ≡ x.cell → ranges_of n (slice_set rs i x) ≡ slice_set (ranges_of n rs) x.cell (ends x.range)
  ranges_set [] i x t lt e = absurd (omega arith)
  ranges_set (r ∷ rs) zero x t lt e =
      sym (ap (λ k. set (slice_set (ranges_of n rs) k (ends r.range)) x.cell (ends x.range)) e ∙ set-set (ranges_of n rs) x.cell (ends r.range) (ends x.range))
  ranges_set (r ∷ rs) (suc i) x t lt e =
      let f = first r rs t in
      let ne : x.cell ≢ r.cell = λ q. other r rs i x f (told rs i x f.rest (omega arith)) (e ∙ q) in
      ap (λ l. set l r.cell (ends r.range)) (ranges_set rs i x f.rest (omega arith) e)
      ∙ set_comm (ranges_of n rs) x.cell r.cell (ends x.range) (ends r.range) ne

  pub tally_set : (rs : List Record) (i : ℕ) (x : Record) → Tally n rs → i < length rs → slice_index (cells_of rs) i ≡ x.cell → is_widest (ends x.range) ≡ false → Tally n (slice_set rs i x)
  tally_set rs i x t lt c e =
      let low = told rs i x t lt in
      let one = used_set (ranges_of n rs) x.cell (ends x.range) (omega (arith, length-ranges rs, below_all rs i t lt)) in
      let was : bit (is_widest (at (ranges_of n rs) x.cell)) ≡ 1 = ap (λ k. bit (is_widest (at (ranges_of n rs) k))) (sym c) ∙ ap (λ r. bit (is_widest r)) low.is ∙ ap bit low.narrow in
      let is : bit (is_widest (ends x.range)) ≡ 1 = ap bit e in
      omega (arith, ap used (ranges_set rs i x t lt c), length-set rs i x)
