-- What an entry comes to, at a record and at a gap.
use Rattle.std.proofs.Common.{◌≡◌, ℕ, ◌<◌, ◌≤◌, true, false, not, List, length, get_or, set, Ok, Err, vec_items, Option, Result, sym, ap, ◌∙◌, arith}
use Rattle.std.proofs.lemmas.List.{set-get_or}
use Rattle.std.proofs.lemmas.Bool.{and_left, and_right, and_from, le-leb, lt-leb}
use Rattle.reading.specs.declared.range.Range.{Range}
use Rattle.reading.specs.Ends.{Ends, ends, widest, inside, is_widest}
use Rattle.chain.proofs.Widest.{inside_widest, widest_is}
use Rattle.refusal.specs.declared.Refusal.{Refusal}
use Rattle.refusal.specs.declared.Refusal.TheVariants.{NoSuchCell, NotInside, StoreFull}
use Rattle.store.specs.Stored.{Stored, stored, at, used, accepted, Entered}
use Rattle.store.proofs.Entering.{no_cell, not_inside, full, entered}
use Rattle.chain.specs.declared.record.Record.{Record}
use Rattle.chain.specs.declared.chain.Chain.{Chain}
use Rattle.chain.specs.Records.{ranges_of, Of, Gap}
use Rattle.chain.specs.Chains.{chain_of}
use Rattle.chain.proofs.Telling.{length-ranges, free_widest}
use Rattle.chain.proofs.Keeping.{held, narrow, absent}

module _ (s : Chain) (k : ℕ) where
  abbrev told : List Ends
  told = ranges_of s.cells (vec_items s.records)

  pub widest_in_gap : (b a : Option ℕ) → Gap (vec_items s.records) s.head k b a → at told k ≡ widest
  widest_in_gap b a gap = free_widest s.cells (vec_items s.records) k (absent s k b a gap)

  module _ (g : Range) where
    -- the entry answers so, and leaves this
    abbrev Comes : Result (Unit {0}) Refusal → Stored → Type 0
    Comes answer after = Entered (chain_of s) k (ends g) answer after

    pub missing : s.cells ≤ k → Comes (Err NoSuchCell) (chain_of s)
    missing le = no_cell (chain_of s) k (ends g) (omega (arith, length-ranges s.cells (vec_items s.records)))

    module _ (lt : k < s.cells) where
      there : k < length told
      there = omega (arith, length-ranges s.cells (vec_items s.records))

      -- at record i, which was read as r
      module _ (i : ℕ) (of : Of (vec_items s.records) k i) (r : Record) (is : r ≡ get_or (vec_items s.records) i r) where
        pub outside : inside (ends g) (ends r.range) ≡ false → Comes (Err NotInside) (chain_of s)
        outside e = not_inside (chain_of s) k (ends g) (ends r.range) there (held s k i of r is) e

        pub narrowed : inside (ends g) (ends r.range) ≡ true → (t : Stored) → t ≡ accepted (chain_of s) k (ends g) → Comes (Ok tt) t
        narrowed e t q =
            entered (chain_of s) k (ends g) (ends r.range) there (held s k i of r is) t e
            (and_left _ _ (and_left _ _ (ap is_widest (held s k i of r is) ∙ narrow s k i of r is)))
            q

      -- at a gap
      module _ (b a : Option ℕ) (gap : Gap (vec_items s.records) s.head k b a) where
        none : at told k ≡ widest
        none = widest_in_gap b a gap

        pub idle : is_widest (ends g) ≡ true → Comes (Ok tt) (chain_of s)
        idle e =
            let same : set told k (ends g) ≡ told = ap (set told k) (widest_is g e ∙ sym none) ∙ set-get_or told k widest in
            entered (chain_of s) k (ends g) widest there none (chain_of s) (inside_widest g) (and_left _ _ (and_right _ _ (ap not e))) (ap (stored s.capacity) (sym same))

        pub filled : is_widest (ends g) ≡ false → length (vec_items s.records) ≡ s.capacity → Comes (Err StoreFull) (chain_of s)
        filled e all =
            full (chain_of s) k (ends g) widest there none (inside_widest g)
            (and_from _ _ (and_from _ _ (ap is_widest none) (ap not e)) (le-leb s.capacity (used told) (omega (arith, s.kept.tally))))

        pub added : length (vec_items s.records) < s.capacity → (t : Stored) → t ≡ accepted (chain_of s) k (ends g) → Comes (Ok tt) t
        added room t q =
            entered (chain_of s) k (ends g) widest there none t (inside_widest g) (and_right _ _ (lt-leb s.capacity (used told) (omega (arith, s.kept.tally)))) q
