-- The full table never runs full.
use Rattle.std.proofs.Common.{◌≡◌, ℕ, zero, suc, ◌<◌, ◌≤◌, true, false, List, [], ◌∷◌, map, length, replicate, get_or, set, Ok, Err, sym, refl, ap, ◌∙◌, arith, length-set}
use Rattle.std.proofs.lemmas.Bool.Decides.{nat_tests}
use Rattle.std.proofs.lemmas.List.{get_or-map, length-map, map-set}
use Rattle.reading.specs.declared.range.Range.{Range}
use Rattle.reading.specs.Ends.{Ends, ends, widest, inside, is_widest}
use Rattle.refusal.specs.declared.Refusal.TheVariants.{NoSuchCell, NotInside}
use Rattle.store.specs.Stored.{stored, at, used, is_full, Entered}
use Rattle.store.specs.Tables.{tabled}
use Rattle.store.proofs.Entering.{no_cell, not_inside, entered}

pub map-replicate : {A B : Type 0} (f : A → B) (n : ℕ) (x : A) → map f (replicate n x) ≡ replicate n (f x)
map-replicate f zero x = refl
map-replicate f (suc n) x = ap (λ l. f x ∷ l) (map-replicate f n x)

used_le : (es : List Ends) → used es ≤ length es
used_le [] = omega arith
used_le (e ∷ es) = grind (arith, used_le es)

-- a table with a widest cell has room
room : (es : List Ends) (k : ℕ) → k < length es → is_widest (at es k) ≡ true → used es < length es
room [] k lt w = absurd (omega arith)
room (e ∷ es) zero lt w = rw w (omega (arith, used_le es))
room (e ∷ es) (suc k) lt w = grind (arith, room es k (omega arith) w)

module _ (rs : List Range) (k : ℕ) (g : Ends) where
  pub missing : length rs ≤ k → Entered (tabled rs) k g (Err NoSuchCell) (tabled rs)
  missing le = no_cell (tabled rs) k g (omega (arith, length-map rs ends))

  module _ (r : Range) (lt : k < length rs) (is : r ≡ get_or rs k r) where
    there : k < length (map ends rs)
    there = omega (arith, length-map rs ends)

    pub held : at (map ends rs) k ≡ ends r
    held = get_or-map ends rs k r widest lt ∙ ap ends (sym is)

    pub outside : inside g (ends r) ≡ false → Entered (tabled rs) k g (Err NotInside) (tabled rs)
    outside e = not_inside (tabled rs) k g (ends r) there held e

    not_full : is_full (tabled rs) k g ≡ false
    not_full = grind (arith, nat_tests, room (map ends rs) k there, length-map rs ends)

    pub narrowed : (x : Range) → ends x ≡ g → inside g (ends r) ≡ true → Entered (tabled rs) k g (Ok tt) (tabled (set rs k x))
    narrowed x same e =
        entered (tabled rs) k g (ends r) there held (tabled (set rs k x)) e not_full
        (λ i. stored (length-set rs k x i) ((map-set ends rs k x ∙ ap (set (map ends rs) k) same) i))
