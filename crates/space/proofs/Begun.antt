-- The levels as they begin.
use Rattle.std.proofs.Common.{◌≡◌, ℕ, zero, suc, ◌+◌, ◌*◌, List, [], ◌∷◌, ◌++◌, length, get_or, replicate, refl, ap₂, length-append}
use lib.ListN.{length-replicate}
use Rattle.std.specs.List.{FoldsTo}
use Rattle.verdict.specs.Algebra.{Ops}
use Rattle.space.specs.Levels.{begun}

blank : {A : Type 0} (n i : ℕ) (b : A) → get_or (replicate n b) i b ≡ b
blank zero i b = refl
blank (suc n) zero b = refl
blank (suc n) (suc i) b = blank n i b

padded : {A : Type 0} (xs : List A) (n i : ℕ) (b : A) → get_or (xs ++ replicate n b) i b ≡ get_or xs i b
padded [] n i b = blank n i b
padded (x ∷ xs) n zero b = refl
padded (x ∷ xs) n (suc i) b = padded xs n i b

-- what calls give that all give b
pub all_same : {F V : Type 0} (R : F → V → F → Type 0) (b : V) (I : F → Type 0) → ((f : F) (v : V) (f' : F) → I f → R f v f' → (v ≡ b) × I f') → (vs : List V) (f f' : F) → I f → FoldsTo R f vs f' → vs ≡ replicate (length vs) b
all_same R b I step [] f f' i h = refl
all_same R b I step (v ∷ vs) f f' i h =
    let s = step f v h.0 i h.1 in ap₂ ◌∷◌ s.0 (all_same R b I step vs h.0 f' s.1 h.2)

module _ {V : Type 0} (o : Ops V) (goal : List V) (top : ℕ) where
  -- beyond the goal all is bottom
  pub begun_at : (i : ℕ) → get_or (begun o goal top) i o.bottom ≡ get_or goal i o.bottom
  begun_at i = padded goal (top * length goal) i o.bottom

  pub begun_length : length (begun o goal top) ≡ length goal + top * length goal
  begun_length = simp (length-append, length-replicate)
