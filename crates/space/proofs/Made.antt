-- What is made of a family.
use Rattle.std.proofs.Common.{◌≡◌, refl, ap, ◌∙◌}
use Rattle.verdict.specs.Algebra.{Ops, Laws, Below}
use Rattle.verdict.specs.Least.{Least}
use Rattle.verdict.proofs.Order.{join_least, meet-bottom}

module _ {V : Type 0} (o : Ops V) where
  -- v is made of the family: one of it, bottom, or the join of two that are made
  pub data Made (I : Type 0) (f : I → V) : V → Type 0 where
    one : {v : V} (i : I) → v ≡ f i → Made I f v
    none : {v : V} → v ≡ o.bottom → Made I f v
    both : {v : V} (x y : V) → Made I f x → Made I f y → v ≡ o.join x y → Made I f v

  -- v is made of the family, and at or above all of it
  pub record Gathers (I : Type 0) (f : I → V) (v : V) : Type 0 where
    pub made : Made I f v
    pub above : (i : I) → Below o (f i) v

module _ {V : Type 0} {o : Ops V} where
  -- under a function that keeps joins
  pub made_map : {I J : Type 0} {f : I → V} {g : J → V} (φ : V → V) → φ o.bottom ≡ o.bottom → ((x y : V) → φ (o.join x y) ≡ o.join (φ x) (φ y)) → ((i : I) → Made o J g (φ (f i))) → {v : V} → Made o I f v → Made o J g (φ v)
  made_map φ b j h (one i eq) = rw eq (h i)
  made_map φ b j h (none eq) = none (ap φ eq ∙ b)
  made_map φ b j h (both x y mx my eq) = both _ _ (made_map φ b j h mx) (made_map φ b j h my) (ap φ eq ∙ j x y)

  -- one family made of another
  pub made_of : {I J : Type 0} {f : I → V} {g : J → V} → ((i : I) → Made o J g (f i)) → {v : V} → Made o I f v → Made o J g v
  made_of = made_map (λ v. v) refl (λ x y. refl)

module _ {V : Type 0} {o : Ops V} (ls : Laws o) where
  pub made_meet : {I J : Type 0} {f : I → V} {g : J → V} (a : V) → ((i : I) → Made o J g (o.meet a (f i))) → {v : V} → Made o I f v → Made o J g (o.meet a v)
  made_meet a = made_map (o.meet a) (meet-bottom ls a) (ls.meet-join a)

  -- what is made lies at or below each bound
  pub made_least : {I : Type 0} {f : I → V} {v : V} → Made o I f v → (u : V) → ((i : I) → Below o (f i) u) → Below o v u
  made_least (one i eq) u h = rw eq (h i)
  made_least (none eq) u h = rw eq (ls.least u)
  made_least (both x y mx my eq) u h = rw eq (join_least ls (made_least mx u h) (made_least my u h))

  pub gathers_least : {I : Type 0} {f : I → V} {v : V} → Gathers o I f v → Least o I f v
  gathers_least g = record { above = g.above; least = made_least g.made }
