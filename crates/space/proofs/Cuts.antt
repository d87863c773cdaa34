-- Why as many passes as there are places suffice: a route may be cut at its last visit to its first place.
-- This holds of any order of values in which a route is at or below what is left when its front is cut off.
use Rattle.std.proofs.Common.{◌≡◌, ℕ, suc, ◌<◌, ◌≤◌, ◌⊎◌, List, [], ◌∷◌, length, sym, ◌∙◌, subst, inl, inr, ⊎_elim, zero-add, arith}
use Rattle.std.specs.List.{Contains, remove, range_with_len}
use Rattle.std.proofs.lemmas.Grind.{in_remove, get_or_default_zero}
use Rattle.std.proofs.lemmas.List.Edits.{length-remove}
use Rattle.std.proofs.lemmas.List.FromFn.{length-range_with_len, get_or-range_with_len}
use mathlib.Core.List.Memᴰ
use mathlib.Core.List.{Memᴰ}
use native.Mathlib.Decide.{ℕ_discrete}
use Rattle.network.specs.declared.pipe.Pipe.{Pipe}
use Rattle.network.specs.Routes.{Ends, Joined, Leads}

-- with one place out of the list, each other place is still in it
others : (xs : List ℕ) (p q : ℕ) (m : Contains xs p) → ¬ (q ≡ p) → Contains xs q → Contains (remove xs m.0) q
others xs p q m ne h =
    (in_remove xs m.0 h.0 q m.1 h.1 (sym h.2) (λ e. let a = get_or_default_zero xs h.0 q h.1 in let b = get_or_default_zero xs m.0 p m.1 in ne cc)).1

-- the places below n
below : (n q : ℕ) → q < n → Contains (range_with_len 0 n) q
below n q h = (q, omega (arith, length-range_with_len 0 n), get_or-range_with_len 0 n q q h ∙ zero-add q)

-- each pipe of the list joins two places
pub joined_mem : {places : ℕ} (pipes : List Pipe) → Joined places pipes → (e : Pipe) → Memᴰ e pipes → Ends places e
joined_mem [] j e m = absurd (Memᴰ.not-nil m)
joined_mem {places} (x ∷ xs) j e (Memᴰ.head h) = subst (Ends places) (sym h) (j 0 e (omega arith))
joined_mem (x ∷ xs) j e (Memᴰ.tail m) = joined_mem xs (λ i d h. j (suc i) d (omega arith)) e m

-- the places of the route but the last are among xs
abbrev pub Within : List ℕ → ℕ → List Pipe → Type 0
Within xs q [] = Unit {0}
Within xs q (e ∷ π) = Contains xs q × Within xs e.to π

-- the value of a route, in an order in which cutting off its front only raises it
pub record Cuttable {V : Type 0} (Less : V → V → Type 0) (value : ℕ → List Pipe → V) : Type 0 where
  pub same : (v : V) → Less v v
  pub chain : {u v w : V} → Less u v → Less v w → Less u w
  pub front : (p : ℕ) (e : Pipe) (π : List Pipe) → Less (value p (e ∷ π)) (value e.to π)

module _ {V : Type 0} (may : Pipe → Type 0) (pipes : List Pipe) (Less : V → V → Type 0) (value : ℕ → List Pipe → V) where
  -- the values are at or above those of the routes whose places but the last are n at most
  abbrev pub Reaches : ℕ → (ℕ → V) → Type 0
  Reaches n new = (xs : List ℕ) → length xs ≤ n → (p : ℕ) (π : List Pipe) → Leads may pipes p π → Within xs p π → Less (value p π) (new p)

  -- a pipe that leaves p for the last time, on a route that is worth v at least
  record Exit (ys : List ℕ) (p : ℕ) (v : V) : Type 0 where
    pipe : Pipe
    rest : List Pipe
    leads : Leads may pipes p (pipe ∷ rest)
    inside : Within ys pipe.to rest
    better : Less v (value p (pipe ∷ rest))

  module _ (k : Cuttable Less value) where
    from_front : {ys : List ℕ} {p : ℕ} {v w : V} → Less w v → Exit ys p v → Exit ys p w
    from_front h x = record { pipe = x.pipe; rest = x.rest; leads = x.leads; inside = x.inside; better = k.chain h x.better }

    -- ys has the places of xs but p
    module _ (xs ys : List ℕ) (p : ℕ) (keeps : (q : ℕ) → ¬ (q ≡ p) → Contains xs q → Contains ys q) where
      abbrev Cut : ℕ → List Pipe → Type 0
      Cut q π = Within ys q π ⊎ Exit ys p (value q π)

      cut_more : (q : ℕ) (e : Pipe) (π : List Pipe) → Leads may pipes q (e ∷ π) → Contains xs q → Cut e.to π → Dec (q ≡ p) → Cut q (e ∷ π)
      cut_more q e π l m (inr x) d = inr (from_front (k.front q e π) x)
      cut_more q e π l m (inl i) (yes eq) = inr (record { pipe = e; rest = π; leads = (l.0, l.1, l.2 ∙ eq, l.3); inside = i; better = rw eq (k.same _) })
      cut_more q e π l m (inl i) (no ne) = inl (keeps q ne m, i)

      cut : (q : ℕ) (π : List Pipe) → Leads may pipes q π → Within xs q π → Cut q π
      cut q [] l w = inl tt
      cut q (e ∷ π) l w = cut_more q e π l w.0 (cut e.to π l.3 w.1) (ℕ_discrete q p)

      last_exit : (e : Pipe) (π : List Pipe) → Leads may pipes p (e ∷ π) → Within xs p (e ∷ π) → Exit ys p (value p (e ∷ π))
      last_exit e π l w = ⊎_elim (λ i. record { pipe = e; rest = π; leads = l; inside = i; better = k.same _ }) (λ x. from_front (k.front p e π) x) (cut e.to π l.3 w.1)

    -- before the first pass
    pub reaches_none : (new : ℕ → V) → ((p : ℕ) → Less (value p []) (new p)) → Reaches 0 new
    reaches_none new start xs h p [] l w = start p
    reaches_none new start xs h p (e ∷ π) l w = absurd (omega arith)

    -- a pass that brings back over each pipe what its far end has
    pub reaches_more : (n : ℕ) (mid new : ℕ → V) → ((p : ℕ) → Less (value p []) (new p)) → ((p : ℕ) (e : Pipe) (π : List Pipe) → Leads may pipes p (e ∷ π) → Less (value e.to π) (mid e.to) → Less (value p (e ∷ π)) (new p)) → Reaches n mid → Reaches (suc n) new
    reaches_more n mid new start brings r xs h p [] l w = start p
    reaches_more n mid new start brings r xs h p (e ∷ π) l w =
        let ys : List ℕ = remove xs w.0.0 in
        let x = last_exit xs ys p (λ q. others xs p q w.0) e π l w in
        let less : length ys ≤ n = omega (arith, length-remove xs w.0.0 w.0.1) in
        k.chain x.better (brings p x.pipe x.rest x.leads (r ys less x.pipe.to x.rest x.leads.3 x.inside))

    within_all : (places : ℕ) → Joined places pipes → (p : ℕ) (π : List Pipe) → Leads may pipes p π → Within (range_with_len 0 places) p π
    within_all places joined p [] l = tt
    within_all places joined p (e ∷ π) l = (below places p (subst (λ q. q < places) l.2 (joined_mem pipes joined e l.0).near), within_all places joined e.to π l.3)

    -- as many passes as there are places
    pub reaches_all : (places n : ℕ) → places ≤ n → Joined places pipes → (new : ℕ → V) → Reaches n new → (p : ℕ) (π : List Pipe) → Leads may pipes p π → Less (value p π) (new p)
    reaches_all places n enough joined new r p π l = r (range_with_len 0 places) (omega (arith, length-range_with_len 0 places)) p π l (within_all places joined p π l)
