-- The verdicts are the one and only sheet.
use Rattle.std.proofs.Common.{◌≡◌, ℕ, zero, suc, ◌+◌, ◌-◌, ◌<◌, min, true, length, sym, refl, ap, ◌∙◌, arith}
use Rattle.std.proofs.lemmas.Bool.{and_parts, ltb-true}
use Rattle.reading.specs.Ends.{Ends}
use Rattle.verdict.specs.Algebra.{Ops, Laws}
use Rattle.verdict.proofs.Order.{least_unique}
use Rattle.network.specs.Measures.{Extend, Measures}
use Rattle.network.specs.Routes.{Joined}
use Rattle.space.specs.Levels.{reached}
use Rattle.plan.specs.declared.statement.Statement.{Statement}
use Rattle.plan.specs.declared.statement.Statement.TheVariants.{AtLeast, Not, And, Or, Until, Since, Reach, Yes}
use Rattle.plan.specs.Rows.{refers, has_interval, Ordered, Intervals}
use Rattle.plan.specs.Plans.{Plan}
use Rattle.monitor.specs.Meaning.{Sheet, row_at, Means, IsSheet}
use Rattle.monitor.specs.Verdicts.{value, below, verdict, OneSheet}
use Rattle.monitor.proofs.Windows.{windowed_like, later_least, earlier_least}
use Rattle.monitor.proofs.Columns.{column_like, reach_least}

module _ {V : Type 0} (o : Ops V) (x : Extend) (plan : Plan) (readings : ℕ → Ends) where
  abbrev says : Sheet V → Statement → ℕ → ℕ → V
  says = value o x plan readings

  abbrev rows_below : ℕ → Sheet V
  rows_below = below o x plan readings

  abbrev settled : Sheet V
  settled = verdict o x plan readings

  -- two sheets agree on the rows before i
  abbrev pub Agree : ℕ → Sheet V → Sheet V → Type 0
  Agree i f g = (r t p : ℕ) → r < i → t < plan.steps → p < plan.places → f r t p ≡ g r t p

  -- a statement asks only for the rows that it refers to
  pub says_like : (f g : Sheet V) (s : Statement) (i t p : ℕ) → refers i s ≡ true → t < plan.steps → p < plan.places → Agree i f g → says f s t p ≡ says g s t p
  says_like f g (AtLeast c k) i t p ref ht hp e = refl
  says_like f g (Not r) i t p ref ht hp e = ap o.neg (e r t p (ltb-true r i ref) ht hp)
  says_like f g (And r s) i t p ref ht hp e =
      λ j. o.meet (e r t p (ltb-true r i (and_parts _ _ ref).0) ht hp j) (e s t p (ltb-true s i (and_parts _ _ ref).1) ht hp j)
  says_like f g (Or r s) i t p ref ht hp e =
      λ j. o.join (e r t p (ltb-true r i (and_parts _ _ ref).0) ht hp j) (e s t p (ltb-true s i (and_parts _ _ ref).1) ht hp j)
  says_like f g (Until w) i t p ref ht hp e =
      windowed_like o _ _ _ _ w.from (min (w.upto + 1) (plan.steps - t))
      (λ k lt. e w.hold (t + k) p (ltb-true w.hold i (and_parts _ _ ref).0) (omega arith) hp)
      (λ k lt. e w.goal (t + k) p (ltb-true w.goal i (and_parts _ _ ref).1) (omega arith) hp)
  says_like f g (Since w) i t p ref ht hp e =
      windowed_like o _ _ _ _ w.from (min (w.upto + 1) (t + 1))
      (λ k lt. e w.hold (t - k) p (ltb-true w.hold i (and_parts _ _ ref).0) (omega arith) hp)
      (λ k lt. e w.goal (t - k) p (ltb-true w.goal i (and_parts _ _ ref).1) (omega arith) hp)
  says_like f g (Reach r s d) i t p ref ht hp e =
      λ j. reached o x t plan.pipes (column_like plan.places (f r t) (g r t) (λ k lt. e r t k (ltb-true r i (and_parts _ _ ref).0) ht lt) j) (column_like plan.places (f s t) (g s t) (λ k lt. e s t k (ltb-true s i (and_parts _ _ ref).1) ht lt) j) d.from d.upto p
  says_like f g Yes i t p ref ht hp e = refl

  module _ (ordered : Ordered plan.rows) where
    -- more turns change nothing
    same : (n m i t p : ℕ) → i < length plan.rows → i < n → i < m → t < plan.steps → p < plan.places → rows_below n i t p ≡ rows_below m i t p
    same zero m i t p hi hn hm ht hp = absurd (omega arith)
    same (suc n) zero i t p hi hn hm ht hp = absurd (omega arith)
    same (suc n) (suc m) i t p hi hn hm ht hp =
        says_like (rows_below n) (rows_below m) (row_at plan i) i t p (ordered i hi) ht hp
        (λ r u q hr hu hq. same n m r u q (omega arith) (omega arith) (omega arith) hu hq)

    pub settles : (i t p : ℕ) → i < length plan.rows → t < plan.steps → p < plan.places → settled i t p ≡ says settled (row_at plan i) t p
    settles i t p hi ht hp =
        says_like (rows_below i) settled (row_at plan i) i t p (ordered i hi) ht hp
        (λ r u q hr hu hq. same i (suc r) r u q (omega arith) (omega arith) (omega arith) hu hq)

    module _ (ls : Laws o) (ms : Measures x) (joined : Joined plan.places plan.pipes) (intervals : Intervals plan.rows) where
      -- the value has the meaning
      value_means : (f : Sheet V) (s : Statement) (t p : ℕ) → has_interval s ≡ true → t < plan.steps → p < plan.places → Means o x plan readings f s t p (says f s t p)
      value_means f (AtLeast c k) t p ok ht hp = refl
      value_means f (Not r) t p ok ht hp = refl
      value_means f (And r s) t p ok ht hp = refl
      value_means f (Or r s) t p ok ht hp = refl
      value_means f (Until w) t p ok ht hp =
          later_least ls (λ k. f w.hold (t + k) p) (λ k. f w.goal (t + k) p) w.from plan.steps t w.upto ht
      value_means f (Since w) t p ok ht hp =
          earlier_least ls (λ k. f w.hold (t - k) p) (λ k. f w.goal (t - k) p) w.from t w.upto
      value_means f (Reach r s d) t p ok ht hp =
          reach_least ls ms t plan.places plan.pipes joined (f r t) (f s t) d.from d.upto ok p hp
      value_means f Yes t p ok ht hp = refl

      -- and nothing else has
      means_unique : (f : Sheet V) (s : Statement) (t p : ℕ) (v w : V) → Means o x plan readings f s t p v → Means o x plan readings f s t p w → v ≡ w
      means_unique f (AtLeast c k) t p v w mv mw = mv ∙ sym mw
      means_unique f (Not r) t p v w mv mw = mv ∙ sym mw
      means_unique f (And r s) t p v w mv mw = mv ∙ sym mw
      means_unique f (Or r s) t p v w mv mw = mv ∙ sym mw
      means_unique f (Until u) t p v w mv mw = least_unique ls mv mw
      means_unique f (Since u) t p v w mv mw = least_unique ls mv mw
      means_unique f (Reach r s d) t p v w mv mw = least_unique ls mv mw
      means_unique f Yes t p v w mv mw = mv ∙ sym mw

      -- the meaning asks only for the rows that the statement refers to
      means_like : (f g : Sheet V) (s : Statement) (i t p : ℕ) (v : V) → refers i s ≡ true → has_interval s ≡ true → t < plan.steps → p < plan.places → Agree i f g → Means o x plan readings f s t p v → Means o x plan readings g s t p v
      means_like f g s i t p v ref ok ht hp e m =
          let is : v ≡ says f s t p = means_unique f s t p v (says f s t p) m (value_means f s t p ok ht hp) in
          rw (is, says_like f g s i t p ref ht hp e) (value_means g s t p ok ht hp)

      agrees : (f : Sheet V) → IsSheet o x plan readings f → (n i t p : ℕ) → i < n → i < length plan.rows → t < plan.steps → p < plan.places → f i t p ≡ settled i t p
      agrees f sheet zero i t p hn hi ht hp = absurd (omega arith)
      agrees f sheet (suc n) i t p hn hi ht hp =
          means_unique settled (row_at plan i) t p (f i t p) (says settled (row_at plan i) t p)
          (means_like f settled (row_at plan i) i t p (f i t p) (ordered i hi) (intervals i hi) ht hp (λ r u q hr hu hq. agrees f sheet n r u q (omega arith) (omega arith) hu hq) (sheet.means i t p hi ht hp))
          (value_means settled (row_at plan i) t p (intervals i hi) ht hp)
          ∙ sym (settles i t p hi ht hp)

      pub one_sheet : OneSheet o x plan readings
      one_sheet = record {
        meant = record { means = λ i t p hi ht hp. rw (settles i t p hi ht hp) (value_means settled (row_at plan i) t p (intervals i hi) ht hp) };
        only = λ f sheet i t p hi ht hp. agrees f sheet (suc i) i t p (omega arith) hi ht hp;
      }
