-- The one sheet of a small plan is reckoned, and what is left of joins and meets is settled by the laws of a kind.
use Rattle.std.proofs.Common.{◌≡◌, ℕ, zero, suc, ◌+◌, ◌<◌, true, List, [], ◌∷◌, length, ℤ, pos, Some, None, Option, sym, refl, ◌∙◌, subst, arith}
use Rattle.reading.specs.Ends.{Ends, exactly}
use Rattle.verdict.specs.Algebra.{Ops, Laws}
use Rattle.verdict.specs.YesNo.{yesno_laws}
use Rattle.verdict.specs.Margins.{margin_laws}
use Rattle.verdict.specs.Spans.{span_laws}
use Rattle.verdict.proofs.Order.{below_refl, below_antisym, top_meet}
use Rattle.network.specs.declared.pipe.Pipe.{Pipe}
use Rattle.network.specs.Measures.{Extend, by_lengths, lengths_laws}
use Rattle.network.specs.Routes.{all_join}
use Rattle.network.proofs.Joining.{all_joined}
use Rattle.plan.specs.declared.statement.Statement.{Statement}
use Rattle.plan.specs.declared.statement.Statement.TheVariants.{AtLeast, Not, Until}
use Rattle.plan.specs.Plans.{Plan}
use Rattle.plan.specs.Rows.{are_distances, Ordered, Intervals}
use Rattle.monitor.specs.Meaning.{Sheet, row_at, Means, IsSheet}
use Rattle.monitor.specs.Verdicts.{verdict}
use Rattle.monitor.proofs.OneSheet.{one_sheet}
use Rattle.cases.proofs.LongWay.{found}
use Rattle.cases.specs.Cases.{two_pipes, with_short_cut, round, small, entered, reach_rows, Cases}

-- what holds of two or three numbers
two : (P : ℕ → Type 0) → P 0 → P 1 → (i : ℕ) → i < 2 → P i
two P a b zero lt = a
two P a b (suc zero) lt = b
two P a b (suc (suc n)) lt = absurd (omega arith)

three : (P : ℕ → Type 0) → P 0 → P 1 → P 2 → (i : ℕ) → i < 3 → P i
three P a b c zero lt = a
three P a b c (suc i) lt = two (λ j. P (suc j)) b c i (omega arith)

module _ {V : Type 0} {o : Ops V} (ls : Laws o) where
  -- every sheet has the verdicts that are reckoned
  reckoned : (pipes : List Pipe) (rows : List Statement) (readings : ℕ → Ends) → all_join 3 pipes ≡ true → Ordered rows → Intervals rows → (f : Sheet V) → IsSheet o by_lengths (small pipes rows) readings f → (i p : ℕ) → i < length rows → p < 3 → f i 0 p ≡ verdict o by_lengths (small pipes rows) readings i 0 p
  reckoned pipes rows readings joined ordered intervals f sheet i p hi hp =
      (one_sheet o by_lengths (small pipes rows) readings ordered ls lengths_laws (all_joined 3 pipes joined) intervals).only f sheet i 0 p hi (omega arith) hp

  -- the sheets of a reach row
  module _ (k : ℤ) (readings : ℕ → Ends) where
    reach_is : (pipes : List Pipe) (a : ℕ) (b : Option ℕ) → all_join 3 pipes ≡ true → are_distances a b ≡ true → (f : Sheet V) → IsSheet o by_lengths (small pipes (reach_rows k a b)) readings f → (i p : ℕ) → i < 3 → p < 3 → f i 0 p ≡ verdict o by_lengths (small pipes (reach_rows k a b)) readings i 0 p
    reach_is pipes a b joined near = reckoned pipes (reach_rows k a b) readings joined (three _ refl refl refl) (three _ refl refl near)

  -- an exact reading of 50 at the limit 50
  limit_is : (f : Sheet V) → IsSheet o by_lengths (small [] (AtLeast 0 (pos 50) ∷ Not 0 ∷ [])) (λ cell. exactly (pos 50)) f → (i p : ℕ) → i < 2 → p < 3 → f i 0 p ≡ verdict o by_lengths (small [] (AtLeast 0 (pos 50) ∷ Not 0 ∷ [])) (λ cell. exactly (pos 50)) i 0 p
  limit_is = reckoned [] (AtLeast 0 (pos 50) ∷ Not 0 ∷ []) (λ cell. exactly (pos 50)) refl (two _ refl refl) (two _ refl refl)

module _ {V : Type 0} {o : Ops V} (ls : Laws o) where
  module _ (k : ℤ) (readings : ℕ → Ends) where
    comes_round : (f : Sheet V) → IsSheet o by_lengths (small round (reach_rows k 5 (Some 5))) readings f → f 2 0 0 ≡ f 0 0 0
    comes_round f sheet =
        let is = reach_is ls k readings round 5 (Some 5) refl refl f sheet in
        is 2 0 (omega arith) (omega arith) ∙ (simp (top_meet ls, ls.least, below_refl ls)) ∙ sym (is 0 0 (omega arith) (omega arith))

    none_of_4 : (f : Sheet V) → IsSheet o by_lengths (small round (reach_rows k 4 (Some 4))) readings f → f 2 0 0 ≡ o.bottom
    none_of_4 f sheet = reach_is ls k readings round 4 (Some 4) refl refl f sheet 2 0 (omega arith) (omega arith) ∙ (simp (top_meet ls, ls.least))

    still_found : (f : Sheet V) → IsSheet o by_lengths (small with_short_cut (reach_rows k 6 None)) readings f → f 2 0 0 ≡ f 0 0 2
    still_found f sheet =
        found ls (f 1 0) (f 0 0) (f 2 0 0) (sheet.means 1 0 0 (omega arith) (omega arith) (omega arith)) (sheet.means 1 0 1 (omega arith) (omega arith) (omega arith)) (sheet.means 2 0 0 (omega arith) (omega arith) (omega arith))

  -- no step of the window is recorded
  nothing_later : (x : Extend) (plan : Plan) (readings : ℕ → Ends) (f : Sheet V) → IsSheet o x plan readings f → (i r s t p : ℕ) → i < length plan.rows → row_at plan i ≡ Until (record { hold = r; goal = s; from = 1; upto = 2 }) → t + 1 ≡ plan.steps → p < plan.places → f i t p ≡ o.bottom
  nothing_later x plan readings f sheet i r s t p hi row last hp =
      let m : Means o x plan readings f (Until (record { hold = r; goal = s; from = 1; upto = 2 })) t p (f i t p) = subst (λ q. Means o x plan readings f q t p (f i t p)) row (sheet.means i t p hi (omega arith) hp) in
      below_antisym ls (m.least o.bottom (λ u. absurd (omega (arith, u.soon, u.recorded)))) (ls.least (f i t p))

  pub cases : Cases o
  cases = record {
    falls_short = λ f sheet. reach_is (span_laws yesno_laws) (pos 50) entered two_pipes 0 (Some 8) refl refl f sheet 2 0 (omega arith) (omega arith);
    leaves_out = λ f sheet. reach_is (span_laws yesno_laws) (pos 50) entered two_pipes 1 (Some 9) refl refl f sheet 2 2 (omega arith) (omega arith);
    comes_round = comes_round;
    none_of_4 = none_of_4;
    still_found = still_found;
    nothing_later = nothing_later;
    margin_zero = λ f sheet. (limit_is margin_laws f sheet 0 0 (omega arith) (omega arith), limit_is margin_laws f sheet 1 0 (omega arith) (omega arith));
    sure_yes = λ f sheet. (limit_is yesno_laws f sheet 0 0 (omega arith) (omega arith), limit_is yesno_laws f sheet 1 0 (omega arith) (omega arith));
  }
