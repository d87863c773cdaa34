-- One record more, linked in at a gap.
use Rattle.std.proofs.Common.{◌≡◌, ℕ, suc, ◌<◌, ◌≤◌, ◌⊎◌, List, [], ◌∷◌, ◌++◌, length, get_or, Some, None, Option, refl, ap, ◌∙◌, inl, inr, arith}
use Rattle.std.proofs.lemmas.List.{length_push, get_or_push, get_or_append_left}
use Rattle.std.proofs.lemmas.Bool.{cases_lt, cases_eq, cases_order}
use Rattle.chain.specs.Links.{link, needed, floor, ahead, Within, Onward, Nearest, Apart}

pub record Linked (n : ℕ) (cs : List ℕ) (ns : List (Option ℕ)) (head : Option ℕ) : Type 0 where
  pub within : Within cs ns head
  pub onward : Onward n cs ns head
  pub nearest : Nearest n cs ns head

needed_same : (p q : Option ℕ) → needed p ≡ needed q → p ≡ q
needed_same None None e = refl
needed_same None (Some j) e = absurd (omega arith)
needed_same (Some i) None e = absurd (omega arith)
needed_same (Some i) (Some j) e = let z : i ≡ j = omega arith in ap Some z

cases_owner : (p q : Option ℕ) → (p ≡ q) ⊎ (p ≡ q → ⊥)
cases_owner p q =
    elim (cases_eq (needed p) (needed q)) [ inl h ↦ inl (needed_same p q h) | inr h ↦ inr (λ e. h (ap needed e)) ]

module _ (n : ℕ) (cs : List ℕ) (ns : List (Option ℕ)) (head : Option ℕ) (near : Nearest n cs ns head) (apart : Apart cs) where
  -- an owner before the gap, but for the gap's own, has its link lead no further than the gap
  short : (k : ℕ) (b from : Option ℕ) → needed b ≤ length cs → needed from ≤ length cs → (from ≡ b → ⊥) → floor cs b ≤ k → k < ahead n cs (link ns head b) → floor cs from ≤ k → ahead n cs (link ns head from) ≤ k
  short k None None hb hf ne low high f = absurd (ne refl)
  short k None (Some q) hb hf ne low high f = absurd (omega (arith, near None q (hb, omega arith, omega arith)))
  short k (Some p) None hb hf ne low high f = omega (arith, near None p (hf, omega arith, omega arith))
  short k (Some p) (Some q) hb hf ne low high f =
      elim (cases_order (get_or cs p 0) (get_or cs q 0)) [
        | inl e ↦ absurd (elim (cases_order p q) [
          | inl i ↦ ne (ap Some (omega arith))
          | inr h ↦ elim h [
            | inl l ↦ apart p q (l, omega arith) e
            | inr l ↦ apart q p (l, omega arith) (omega arith)
          ]
        ])
        | inr h ↦ elim h [
          | inl l ↦ absurd (omega (arith, near (Some p) q (hb, omega arith, omega arith)))
          | inr l ↦ omega (arith, near (Some q) p (hf, omega arith, omega arith))
        ]
      ]

-- cell k is linked in behind b, and what b led to behind k
module _
    (n : ℕ) (cs : List ℕ) (ns : List (Option ℕ)) (head : Option ℕ) (was : Linked n cs ns head) (apart : Apart cs)
    (k : ℕ) (b a : Option ℕ) (stands : needed b ≤ length cs) (leads : a ≡ link ns head b) (low : floor cs b ≤ k) (high : k < ahead n cs a)
    (ms : List (Option ℕ)) (top : Option ℕ)
    (at_gap : link ms top b ≡ Some (length cs)) (at_new : link ms top (Some (length cs)) ≡ a)
    (at_old : (from : Option ℕ) → needed from ≤ length cs → (from ≡ b → ⊥) → link ms top from ≡ link ns head from)
  where
    abbrev more : List ℕ
    more = cs ++ k ∷ []

    cell_new : get_or more (length cs) 0 ≡ k
    cell_new = get_or_push cs k 0 (length cs) refl

    cell_old : (i : ℕ) → i < length cs → get_or more i 0 ≡ get_or cs i 0
    cell_old i lt = get_or_append_left cs (k ∷ []) 0 i lt

    cell_last : (j : ℕ) → j < length more → length cs ≤ j → get_or more j 0 ≡ k
    cell_last j lt h = let z : j ≡ length cs = omega (arith, length_push cs k) in ap (λ i. get_or more i 0) z ∙ cell_new

    floor_old : (from : Option ℕ) → needed from ≤ length cs → floor more from ≡ floor cs from
    floor_old None h = refl
    floor_old (Some i) h = ap suc (cell_old i (omega arith))

    ahead_old : (to : Option ℕ) → needed to ≤ length cs → ahead n more to ≡ ahead n cs to
    ahead_old None h = refl
    ahead_old (Some i) h = cell_old i (omega arith)

    a_stands : needed a ≤ length cs
    a_stands = omega (arith, ap needed leads, was.within b stands)

    a_ahead : ahead n cs a ≡ ahead n cs (link ns head b)
    a_ahead = ap (ahead n cs) leads

    -- what an owner is: the one before the gap, the new record, or another
    data Owner (from : Option ℕ) : Type 0 where
      gap : from ≡ b → Owner from
      new : from ≡ Some (length cs) → Owner from
      old : needed from ≤ length cs → (from ≡ b → ⊥) → Owner from

    owner : (from : Option ℕ) → needed from ≤ length more → Owner from
    owner from h =
        elim (cases_owner from b) [
          | inl e ↦ gap e
          | inr e ↦ elim (cases_owner from (Some (length cs))) [
            | inl f ↦ new f
            | inr f ↦ old
                (elim (cases_eq (needed from) (suc (length cs))) [ inl q ↦ absurd (f (needed_same from (Some (length cs)) q)) | inr q ↦ omega (arith, length_push cs k) ])
                e
          ]
        ]

    within_more : Within more ms top
    within_more from h =
        elim (owner from h) [
          | gap e ↦ omega (arith, ap needed (ap (link ms top) e ∙ at_gap), length_push cs k)
          | new e ↦ omega (arith, ap needed (ap (link ms top) e ∙ at_new), length_push cs k, a_stands)
          | old s ne ↦ omega (arith, ap needed (at_old from s ne), length_push cs k, was.within from s)
        ]

    onward_more : Onward n more ms top
    onward_more from h =
        elim (owner from h) [
          | gap e ↦ omega (arith, ap (ahead n more) (ap (link ms top) e ∙ at_gap), cell_new, ap (floor more) e, floor_old b stands)
          | new e ↦ omega (arith, ap (ahead n more) (ap (link ms top) e ∙ at_new), ahead_old a a_stands, ap (floor more) e, cell_new)
          | old s ne ↦ omega (arith, ap (ahead n more) (at_old from s ne), ahead_old (link ns head from) (was.within from s), floor_old from s, was.onward from s)
        ]

    nearest_more : Nearest n more ms top
    nearest_more from j (h, lt, f) =
        elim (owner from h) [
          | gap e ↦
              let is = ap (ahead n more) (ap (link ms top) e ∙ at_gap) in
              let under = ap (floor more) e ∙ floor_old b stands in
              elim (cases_lt j (length cs)) [
                | inl h ↦ omega (arith, is, cell_new, cell_old j h, was.nearest b j (stands, h, omega (arith, under, cell_old j h)), a_ahead)
                | inr h ↦ omega (arith, is, cell_new, cell_last j lt h)
              ]
          | new e ↦
              let is = ap (ahead n more) (ap (link ms top) e ∙ at_new) ∙ ahead_old a a_stands ∙ a_ahead in
              let under = ap (floor more) e in
              elim (cases_lt j (length cs)) [
                | inl h ↦ omega (arith, is, cell_old j h, was.nearest b j (stands, h, omega (arith, under, cell_new, cell_old j h)))
                | inr h ↦ absurd (omega (arith, cell_last j lt h, cell_new, under))
              ]
          | old s ne ↦
              let is = ap (ahead n more) (at_old from s ne) ∙ ahead_old (link ns head from) (was.within from s) in
              let under = floor_old from s in
              elim (cases_lt j (length cs)) [
                | inl h ↦ omega (arith, is, cell_old j h, was.nearest from j (s, h, omega (arith, under, cell_old j h)))
                | inr h ↦ omega (arith, is, cell_last j lt h, short n cs ns head was.nearest apart k b from stands s ne low (omega (arith, a_ahead)) (omega (arith, under, cell_last j lt h)))
              ]
        ]

    pub linked_more : Linked n more ms top
    linked_more = record { within = within_more; onward = onward_more; nearest = nearest_more }
