-- Which refusal an entry gets, from the range held.
use Rattle.std.proofs.Common.{◌≡◌, ℕ, ◌<◌, ◌≤◌, true, false, length, Some, None, Ok, Err, sym, ap, le-ltb, lt-ltb}
use Rattle.reading.specs.Ends.{Ends, inside}
use Rattle.refusal.specs.declared.Refusal.{Refusal}
use Rattle.refusal.specs.declared.Refusal.TheVariants.{NoSuchCell, NotInside, StoreFull}
use Rattle.refusal.specs.Checks.{answer, leaves}
use Rattle.store.specs.Stored.{Stored, at, is_full, refusal, accepted, Entered}

refused : (s : Stored) (k : ℕ) (g : Ends) (e : Refusal) → refusal s k g ≡ Some e → Entered s k g (Err e) s
refused s k g e is = record { answers = ap answer (sym is); after = ap (λ o. leaves o s (accepted s k g)) (sym is) }

taken : (s : Stored) (k : ℕ) (g : Ends) → refusal s k g ≡ None → Entered s k g (Ok tt) (accepted s k g)
taken s k g is = record { answers = ap answer (sym is); after = ap (λ o. leaves o s (accepted s k g)) (sym is) }

module _ (s : Stored) (k : ℕ) (g : Ends) where
  pub no_cell : length s.ranges ≤ k → Entered s k g (Err NoSuchCell) s
  no_cell le = refused s k g NoSuchCell (rw (le-ltb k (length s.ranges) le))

  module _ (held : Ends) (lt : k < length s.ranges) (is : at s.ranges k ≡ held) where
    pub not_inside : inside g held ≡ false → Entered s k g (Err NotInside) s
    not_inside e = refused s k g NotInside (rw (lt-ltb k (length s.ranges) lt, is, e))

    pub full : inside g held ≡ true → is_full s k g ≡ true → Entered s k g (Err StoreFull) s
    full e z = refused s k g StoreFull (rw (lt-ltb k (length s.ranges) lt, z, is, e))

    pub entered : (t : Stored) → inside g held ≡ true → is_full s k g ≡ false → t ≡ accepted s k g → Entered s k g (Ok tt) t
    entered t e z q = rw q (taken s k g (rw (lt-ltb k (length s.ranges) lt, z, is, e)))
