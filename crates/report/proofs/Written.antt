-- A text that grows verdict by verdict and line by line.
use Rattle.std.proofs.Common.{◌≡◌, ℕ, zero, suc, ◌+◌, ◌-◌, ◌<◌, ◌≤◌, List, ◌++◌, length, Ok, codes, decimal, sym, refl, ap, ◌∙◌, subst, append_assoc, add-one, arith}
use Rattle.std.proofs.lemmas.Bool.{eqb-false}
use Rattle.refusal.specs.Checks.{answer}
use Rattle.refusal.proofs.Passing.{accepts, passed}
use Rattle.monitor.specs.Boards.{sheet_checks, sheet_refusal, shown, Drawn, Leaves}
use Rattle.plan.specs.Plans.{Plan}
use Rattle.monitor.specs.Meaning.{Sheet}
use Rattle.verdict.specs.Algebra.{Ops}
use Rattle.network.specs.Measures.{Extend}
use Rattle.store.specs.Stored.{at}
use Rattle.survey.specs.Surveys.{Surveyed}
use Rattle.monitor.specs.Verdicts.{verdict}
use Rattle.report.specs.Texts.{steps_text, place_text, places_text, sheet_text, unless_refused, sheet_report}

module _ {V : Type 0} (text : V → List ℕ) where
  -- one verdict more
  pub step_turn : (f : Sheet V) (i p t n : ℕ) (v : V) (out spaced told : List ℕ) → t < n → spaced ≡ out ++ codes " " → told ≡ spaced ++ text v → v ≡ f i t p → told ++ steps_text text f i p (t + 1) (n - (t + 1)) ≡ out ++ steps_text text f i p t (n - t)
  step_turn f i p t n v out spaced told lt e g is =
      let left : n - t ≡ suc (n - (t + 1)) = omega arith in
      rw (left, add-one t, g, e, is) (simp append_assoc)

  -- one line more
  pub place_turn : (plan : Plan) (f : Sheet V) (i p n : ℕ) (out told : List ℕ) → p < n → told ≡ out ++ place_text text plan f i p → told ++ places_text text plan f i (p + 1) (n - (p + 1)) ≡ out ++ places_text text plan f i p (n - p)
  place_turn plan f i p n out told lt e =
      let left : n - p ≡ suc (n - (p + 1)) = omega arith in
      rw (left, add-one p, e) (simp append_assoc)

  -- the same verdicts give the same text
  steps_like : (f g : Sheet V) (i p t n : ℕ) → ((u : ℕ) → t ≤ u → u < t + n → f i u p ≡ g i u p) → steps_text text f i p t n ≡ steps_text text g i p t n
  steps_like f g i p t zero same = refl
  steps_like f g i p t (suc n) same =
      rw (same t (omega arith) (omega arith), steps_like f g i p (suc t) n (λ u le lt. same u (omega arith) (omega arith)))

  pub places_like : (plan : Plan) (f g : Sheet V) (i p n : ℕ) → ((u q : ℕ) → u < plan.steps → q < p + n → f i u q ≡ g i u q) → places_text text plan f i p n ≡ places_text text plan g i p n
  places_like plan f g i p zero same = refl
  places_like plan f g i p (suc n) same =
      rw (steps_like f g i p 0 plan.steps (λ u le lt. same u p (omega arith) (omega arith)), places_like plan f g i (suc p) n (λ u q hu hq. same u q hu (omega arith)))

-- a sheet request's report, from what the request answered and left
module _ {V : Type 0} (o : Ops V) (x : Extend) (text : V → List ℕ) (s : Surveyed) (line board work : ℕ) (long : board ≡ 2048) (wide : work ≡ 4096) where
  pub drawn_report : (plan : Plan) (d : V) (old new old-work new-work : List V) → plan ≡ s.plan → Ok tt ≡ answer (sheet_refusal s.plan (at s.store.ranges) o.ranged board work) → Leaves (sheet_refusal s.plan (at s.store.ranges) o.ranged board work) s.plan (verdict o x s.plan (at s.store.ranges)) old new old-work new-work → sheet_text text plan (shown plan new d) line ≡ sheet_report o x text s line
  drawn_report plan d old new old-work new-work same is left =
      let none = sym (accepts _ is) in
      let drawn : Drawn s.plan (verdict o x s.plan (at s.store.ranges)) old new = subst (λ r. Leaves r s.plan (verdict o x s.plan (at s.store.ranges)) old new old-work new-work) none left in
      let some = eqb-false _ _ (passed (sheet_checks s.plan (at s.store.ranges) o.ranged board work) (accepts _ is)).0 in
      ap (λ p. sheet_text text p (shown p new d) line) same
      ∙ ap (λ l. codes "sheet " ++ (decimal line ++ (codes "\n" ++ l)))
      (places_like text s.plan (shown s.plan new d) (verdict o x s.plan (at s.store.ranges)) (length s.plan.rows - 1) 0 s.plan.places
      (λ u q hu hq. drawn.verdicts (length s.plan.rows - 1) u q d (omega (arith, some)) hu (omega arith)))
      ∙ ap (λ r. unless_refused line r (sheet_text text s.plan (verdict o x s.plan (at s.store.ranges)) line))
      (sym none ∙ (λ i. sheet_refusal s.plan (at s.store.ranges) o.ranged (long i) (wide i)))
