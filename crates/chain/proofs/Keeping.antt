-- What a chain keeps, through each change of its records.
use Rattle.std.proofs.Common.{◌≡◌, ℕ, ◌-◌, ◌<◌, ◌≤◌, false, List, [], ◌∷◌, ◌++◌, map, length, get_or, set, Some, None, vec_items, Option, sym, refl, ap, ◌∙◌, subst, arith}
use Rattle.std.proofs.lemmas.List.{length-map, length_push, map_push, map-set, get_or-map, get_or_push, get_or_append_left, get_or-set_same, get_or-set_other, set-get_or}
use Rattle.reading.specs.declared.range.Range.{Range}
use Rattle.reading.specs.Ends.{ends, widest, is_widest}
use Rattle.store.specs.Stored.{at}
use Rattle.chain.specs.declared.record.Record.{Record}
use Rattle.chain.specs.declared.chain.Chain.{Chain}
use Rattle.chain.specs.Links.{link, needed, ahead, Within, Onward}
use Rattle.chain.specs.Records.{ranges_of, cells_of, links_of, Tally, Kept, Of, Past, Gap}
use Rattle.chain.proofs.Telling.{Free, as_many, tally_none, tally_push, tally_set, told, below_all, narrow_all, apart_all, ranges_push, ranges_set}
use Rattle.chain.proofs.Linking.{Linked, linked_more}

-- a field of a record as it was read
field_is : {B : Type 0} (f : Record → B) (rs : List Record) (i : ℕ) (r : Record) (d : B) → i < length rs → r ≡ get_or rs i r → get_or (map f rs) i d ≡ f r
field_is f rs i r d lt is = get_or-map f rs i r d lt ∙ ap f (sym is)

-- a write that leaves a field as it was
field_kept : {B : Type 0} (f : Record → B) (rs : List Record) (i : ℕ) (x : Record) (d : B) → get_or (map f rs) i d ≡ f x → map f (set rs i x) ≡ map f rs
field_kept f rs i x d e = map-set f rs i x ∙ ap (set (map f rs) i) (sym e) ∙ set-get_or (map f rs) i d

kept : (n : ℕ) (rs : List Record) (head : Option ℕ) (cs : List ℕ) (ns : List (Option ℕ)) → cells_of rs ≡ cs → links_of rs ≡ ns → Linked n cs ns head → Tally n rs → Kept n rs head
kept n rs head cs ns p q l t =
    let m : Linked n (cells_of rs) (links_of rs) head = subst (λ c. Linked n c (links_of rs) head) (sym p) (subst (λ m. Linked n cs m head) (sym q) l) in
    record { within = m.within; onward = m.onward; nearest = m.nearest; apart = apart_all n rs t; narrow = narrow_all n rs t; tally = t }

pub kept_none : (n : ℕ) (rs : List Record) → rs ≡ [] → Kept n rs None
kept_none n rs e =
    kept n rs None [] [] (ap cells_of e) (ap links_of e) (record { within = within; onward = onward; nearest = λ from j h. absurd (omega (arith, h.1)) })
    (subst (Tally n) (sym e) (tally_none n))
  where
    within : Within [] [] None
    within None h = omega arith
    within (Some i) h = absurd (omega arith)

    onward : Onward n [] [] None
    onward None h = omega arith
    onward (Some i) h = absurd (omega arith)

module _ (s : Chain) where
  abbrev n : ℕ
  n = s.cells

  abbrev rs : List Record
  rs = vec_items s.records

  abbrev cs : List ℕ
  cs = cells_of rs

  abbrev ns : List (Option ℕ)
  ns = links_of rs

  linked : Linked n cs ns s.head
  linked = record { within = s.kept.within; onward = s.kept.onward; nearest = s.kept.nearest }

  -- record i, which was read as r, is of the cell k
  module _ (k i : ℕ) (of : Of rs k i) (r : Record) (is : r ≡ get_or rs i r) where
    pub held : at (ranges_of n rs) k ≡ ends r.range
    held = ap (at (ranges_of n rs)) (sym of.1) ∙ (told n rs i r s.kept.tally of.0).is ∙ ap (λ (x : Record). ends x.range) (sym is)

    pub narrow : is_widest (ends r.range) ≡ false
    narrow = ap (λ (x : Record). is_widest (ends x.range)) is ∙ s.kept.narrow i r of.0

    -- it is given another range
    module _ (g : Range) where
      abbrev changed : List Record
      changed = set rs i (record { cell = r.cell; range = g; next = r.next })

      cell : get_or cs i 0 ≡ r.cell
      cell = field_is (λ r. r.cell) rs i r 0 of.0 is

      pub ranges_changed : ranges_of n changed ≡ set (ranges_of n rs) k (ends g)
      ranges_changed = ranges_set n rs i _ s.kept.tally of.0 cell ∙ ap (λ j. set (ranges_of n rs) j (ends g)) (sym cell ∙ of.1)

      pub kept_changed : is_widest (ends g) ≡ false → Kept n changed s.head
      kept_changed w =
          kept n changed s.head cs ns (field_kept (λ r. r.cell) rs i _ 0 cell) (field_kept (λ r. r.next) rs i _ None (field_is (λ r. r.next) rs i r None of.0 is)) linked
          (tally_set n rs i _ s.kept.tally of.0 cell w)

  -- a walk has come to the owner b, whose link is a, and leads to record i
  module _ (b a : Option ℕ) (stands : needed b ≤ length rs) (leads : a ≡ link ns s.head b) (i : ℕ) (to : a ≡ Some i) where
    pub met : i < length rs
    met = omega (arith, s.kept.within b (omega (arith, as_many rs)), ap needed (sym leads ∙ to), as_many rs)

    module _ (r : Record) (is : r ≡ get_or rs i r) where
      pub met_cell : get_or cs i 0 ≡ r.cell
      met_cell = field_is (λ r. r.cell) rs i r 0 met is

      pub met_next : get_or ns i None ≡ r.next
      met_next = field_is (λ r. r.next) rs i r None met is

      pub falls : n - ahead n cs r.next < n - ahead n cs a
      falls =
          omega (arith, s.kept.onward (Some i) (omega (arith, met, as_many rs)), ap (ahead n cs) met_next, ap (ahead n cs) to, below_all n rs i s.kept.tally met)

  beyond : (k : ℕ) (to : Option ℕ) → Past rs k to → k < n → k < ahead n cs to
  beyond k None h lt = lt
  beyond k (Some i) h lt = h

  -- a cell in a gap has no record
  pub absent : (k : ℕ) (b a : Option ℕ) → Gap rs s.head k b a → Free rs k
  absent k b a g j lt e =
      let below : k < n = omega (arith, below_all n rs j s.kept.tally (omega (arith, as_many rs))) in
      omega (arith, s.kept.nearest b j (omega (arith, g.stands, as_many rs), lt, omega (arith, g.low)), beyond k a g.high below, ap (ahead n cs) g.leads)

  -- a record x more, for the gap behind b
  module _
      (x : Record) (lt : x.cell < n) (w : is_widest (ends x.range) ≡ false) (b : Option ℕ) (g : Gap rs s.head x.cell b x.next)
      (m : ℕ) (end : m ≡ length rs) (more : List Record) (items : more ≡ rs ++ x ∷ [])
    where
      abbrev longer : List (Option ℕ)
      longer = ns ++ x.next ∷ []

      cells_more : cells_of more ≡ cs ++ x.cell ∷ []
      cells_more = ap cells_of items ∙ map_push (λ (r : Record). r.cell) rs x

      links_more : links_of more ≡ longer
      links_more = ap links_of items ∙ map_push (λ (r : Record). r.next) rs x

      tally_more : Tally n more
      tally_more = subst (Tally n) (sym items) (tally_push n rs x s.kept.tally (absent x.cell b x.next g) lt w)

      pub ranges_more : ranges_of n more ≡ set (ranges_of n rs) x.cell (ends x.range)
      ranges_more = ap (ranges_of n) items ∙ ranges_push n rs x (absent x.cell b x.next g)

      level : length ns ≡ length cs
      level = length-map rs (λ (r : Record). r.next) ∙ sym (as_many rs)

      last : m ≡ length cs
      last = end ∙ sym (as_many rs)

      next_new : get_or longer (length cs) None ≡ x.next
      next_new = get_or_push ns x.next None (length cs) level

      next_old : (i : ℕ) → i < length cs → get_or longer i None ≡ get_or ns i None
      next_old i h = get_or_append_left ns (x.next ∷ []) None i (omega (arith, level))

      joined : (ms : List (Option ℕ)) (top : Option ℕ) → link ms top b ≡ Some (length cs) → link ms top (Some (length cs)) ≡ x.next → ((from : Option ℕ) → needed from ≤ length cs → (from ≡ b → ⊥) → link ms top from ≡ link ns s.head from) → Linked n (cs ++ x.cell ∷ []) ms top
      joined ms top =
          linked_more n cs ns s.head linked s.kept.apart x.cell b x.next (omega (arith, g.stands, as_many rs)) g.leads g.low (beyond x.cell x.next g.high lt) ms top

      -- the head leads to it
      pub kept_first : b ≡ None → Kept n more (Some m)
      kept_first first =
          kept n more (Some m) (cs ++ x.cell ∷ []) longer cells_more links_more
          (joined longer (Some m) (ap (link longer (Some m)) first ∙ ap Some last) next_new old)
          tally_more
        where
          old : (from : Option ℕ) → needed from ≤ length cs → (from ≡ b → ⊥) → link longer (Some m) from ≡ link ns s.head from
          old None h ne = absurd (ne (sym first))
          old (Some i) h ne = next_old i (omega arith)

      -- record p, which was read as r, leads to it
      module _ (p : ℕ) (behind : b ≡ Some p) (r : Record) (is : r ≡ get_or more p r) where
        abbrev relinked : List Record
        relinked = set more p (record { cell = r.cell; range = r.range; next = Some m })

        inner : p < length rs
        inner = omega (arith, g.stands, ap needed behind)

        within : p < length more
        within = omega (arith, ap (length {A = Record}) items, length_push rs x, inner)

        same_cell : get_or (cells_of more) p 0 ≡ r.cell
        same_cell = field_is (λ r. r.cell) more p r 0 within is

        told_range : at (ranges_of n more) r.cell ≡ ends r.range
        told_range =
            ap (at (ranges_of n more)) (sym same_cell) ∙ (told n more p r tally_more within).is ∙ ap (λ (r : Record). ends r.range) (sym is)

        pub ranges_after : ranges_of n relinked ≡ set (ranges_of n rs) x.cell (ends x.range)
        ranges_after =
            ranges_set n more p _ tally_more within same_cell ∙ ap (set (ranges_of n more) r.cell) (sym told_range) ∙ set-get_or (ranges_of n more) r.cell widest ∙ ranges_more

        pub kept_after : Kept n relinked s.head
        kept_after =
            kept n relinked s.head (cs ++ x.cell ∷ []) (set longer p (Some m)) (field_kept (λ r. r.cell) more p _ 0 same_cell ∙ cells_more)
            (map-set (λ (r : Record). r.next) more p _ ∙ ap (λ l. set l p (Some m)) links_more)
            (joined (set longer p (Some m)) s.head
            (ap (link (set longer p (Some m)) s.head) behind
            ∙ get_or-set_same longer p (Some m) None (omega (arith, length_push ns x.next, level, as_many rs, inner))
            ∙ ap Some last)
            (get_or-set_other longer p (length cs) (Some m) None (omega (arith, as_many rs, inner)) ∙ next_new)
            old)
            (tally_set n more p _ tally_more within same_cell (ap (λ (r : Record). is_widest (ends r.range)) is ∙ (told n more p r tally_more within).narrow))
          where
            old : (from : Option ℕ) → needed from ≤ length cs → (from ≡ b → ⊥) → link (set longer p (Some m)) s.head from ≡ link ns s.head from
            old None h ne = refl
            old (Some i) h ne = get_or-set_other longer p i (Some m) None (λ e. ne (ap Some e ∙ sym behind)) ∙ next_old i (omega arith)
