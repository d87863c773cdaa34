-- A window over time gives the least verdict over its steps.
use Rattle.std.proofs.Common.{◌≡◌, ℕ, zero, suc, ◌+◌, ◌-◌, ◌<◌, ◌≤◌, min, cond, leb, ◌⊎◌, sym, refl, ap, ◌∙◌, inl, inr, add-one, arith}
use Rattle.std.proofs.lemmas.Bool.{cases_lt, cond_both, le-leb, lt-leb}
use Rattle.verdict.specs.Algebra.{Ops, Laws, Below}
use Rattle.verdict.specs.Least.{Least}
use Rattle.verdict.proofs.Order.{below_refl, below_trans, join_left, join_right, join_least, top_meet}
use Rattle.monitor.specs.Meaning.{Later, Earlier, throughout}
use Rattle.monitor.specs.Verdicts.{windowed}

-- the meet of r at the numbers below n, which a run along a window has so far
abbrev pub so_far : {V : Type 0} → Ops V → (ℕ → V) → ℕ → V
so_far o r zero = o.top
so_far o r (suc n) = o.meet (so_far o r n) (r n)

throughout_like : {V : Type 0} (o : Ops V) (r q : ℕ → V) (n : ℕ) → ((k : ℕ) → k ≤ n → r k ≡ q k) → throughout o r n ≡ throughout o q n
throughout_like o r q zero e = e 0 (omega arith)
throughout_like o r q (suc n) e =
    λ j. o.meet (throughout_like o r q n (λ k le. e k (omega arith)) j) (e (suc n) (omega arith) j)

-- a window asks only for what is in it
pub windowed_like : {V : Type 0} (o : Ops V) (r q s u : ℕ → V) (low n : ℕ) → ((k : ℕ) → k < n → r k ≡ q k) → ((k : ℕ) → k < n → s k ≡ u k) → windowed o r s low n ≡ windowed o q u low n
windowed_like o r q s u low zero e f = refl
windowed_like o r q s u low (suc n) e f =
    let before = windowed_like o r q s u low n (λ k lt. e k (omega arith)) (λ k lt. f k (omega arith)) in
    λ j. cond (leb low n) (o.join (before j) (o.meet (f n (omega arith) j) (throughout_like o r q n (λ k le. e k (omega arith)) j))) (before j)

module _ {V : Type 0} {o : Ops V} (ls : Laws o) where
  -- what a run along the window has so far is what it needs
  pub held : (r : ℕ → V) (n : ℕ) → so_far o r (suc n) ≡ throughout o r n
  held r zero = top_meet ls (r zero)
  held r (suc n) = ap (λ v. o.meet v (r (suc n))) (held r n)

  module _ (r s : ℕ → V) (low : ℕ) where
    grows : (n : ℕ) → Below o (windowed o r s low n) (windowed o r s low (suc n))
    grows n =
        cond_both (leb low n) _ _ (Below o (windowed o r s low n)) (λ e. join_left ls _ _) (λ e. below_refl ls _)

    window_above : (n k : ℕ) → low ≤ k → k < n → Below o (o.meet (s k) (throughout o r k)) (windowed o r s low n)
    window_above zero k le lt = absurd (omega arith)
    window_above (suc n) k le lt = go (cases_lt k n) (window_above n k le)
      where
        go : (k < n) ⊎ (n ≤ k) → (k < n → Below o (o.meet (s k) (throughout o r k)) (windowed o r s low n)) → Below o (o.meet (s k) (throughout o r k)) (windowed o r s low (suc n))
        go (inl h) before = below_trans ls (before h) (grows n)
        go (inr h) before =
            let same : k ≡ n = omega arith in
            rw (same, le-leb low n (omega arith)) (join_right ls _ _)

    window_least : (n : ℕ) (u : V) → ((k : ℕ) → low ≤ k → k < n → Below o (o.meet (s k) (throughout o r k)) u) → Below o (windowed o r s low n) u
    window_least zero u h = ls.least u
    window_least (suc n) u h = go (cases_lt n low) (window_least n u (λ k le lt. h k le (omega arith)))
      where
        go : (n < low) ⊎ (low ≤ n) → Below o (windowed o r s low n) u → Below o (windowed o r s low (suc n)) u
        go (inl lt) rest = rw (lt-leb low n lt) rest
        go (inr le) rest = rw (le-leb low n le) (join_least ls rest (h n le (omega arith)))

    pub later_least : (steps t b : ℕ) → t < steps → Least o (Later steps t low b) (λ u. o.meet (s u.wait) (throughout o r u.wait)) (windowed o r s low (min (b + 1) (steps - t)))
    later_least steps t b ht = record {
      above = λ u. window_above (min (b + 1) (steps - t)) u.wait u.soon (omega (arith, u.late, u.recorded));
      least = λ v h. window_least (min (b + 1) (steps - t)) v (λ k le lt. h (record { wait = k; soon = le; late = omega arith; recorded = omega arith }));
    }

    pub earlier_least : (t b : ℕ) → Least o (Earlier t low b) (λ u. o.meet (s u.ago) (throughout o r u.ago)) (windowed o r s low (min (b + 1) (t + 1)))
    earlier_least t b = record {
      above = λ u. window_above (min (b + 1) (t + 1)) u.ago u.soon (omega (arith, u.late, u.recorded));
      least = λ v h. window_least (min (b + 1) (t + 1)) v (λ k le lt. h (record { ago = k; soon = le; late = omega arith; recorded = omega arith }));
    }

  -- equal families have the same least verdicts
  pub least_like : {I : Type 0} {f g : I → V} {v : V} → ((i : I) → f i ≡ g i) → Least o I f v → Least o I g v
  least_like {I} {f} {g} {v} e l = record {
    above = λ i. rw (← e i) (l.above i);
    least = λ u h. l.least u (λ i. rw (e i) (h i));
  }

  -- one step more of a run along the window, at which a verdict is joined or not
  pub run_more : (r s : ℕ → V) (low k : ℕ) (so now' acc rk : V) → so ≡ so_far o r k → acc ≡ windowed o r s low k → rk ≡ r k → now' ≡ o.meet so rk → (now' ≡ so_far o r (k + 1)) × (k < low → acc ≡ windowed o r s low (k + 1)) × ((sk acc' : V) → low ≤ k → sk ≡ s k → acc' ≡ o.join acc (o.meet sk now') → acc' ≡ windowed o r s low (k + 1))
  run_more r s low k so now' acc rk h w er en =
      let now-is : now' ≡ so_far o r (suc k) = en ∙ (λ j. o.meet (h j) (er j)) in
      let next = sym (add-one k) in (
        now-is ∙ ap (so_far o r) next,
        (λ lt. rw (lt-leb low k lt) w ∙ ap (windowed o r s low) next),
        (λ sk acc' le es ea.
            ea ∙ (λ j. o.join (w j) (o.meet (es j) ((now-is ∙ held r k) j))) ∙ rw (le-leb low k le) refl ∙ ap (windowed o r s low) next),
      )
