-- A board is filled position by position.
use Rattle.std.proofs.Common.{◌≡◌, ℕ, ◌+◌, ◌<◌, ◌≤◌, true, ◌≢◌, ◌⊎◌, List, length, set, sym, ap, ◌∙◌, inl, inr, arith, get_or-set_other, get_or-set_same}
use Rattle.std.proofs.lemmas.Bool.{and_parts, cases_lt, ltb-true}
use Rattle.reading.specs.Ends.{Ends}
use Rattle.verdict.specs.Algebra.{Ops}
use Rattle.network.specs.Measures.{Extend}
use Rattle.space.specs.Levels.{reached}
use Rattle.plan.specs.declared.statement.Statement.{Statement}
use Rattle.plan.specs.declared.statement.Statement.TheVariants.{AtLeast, Not, And, Or, Until, Since, Reach, Yes}
use Rattle.plan.specs.Rows.{refers, Ordered}
use Rattle.plan.specs.Plans.{Plan, index}
use Rattle.monitor.specs.Meaning.{Sheet, row_at}
use Rattle.monitor.specs.Verdicts.{value, verdict}
use Rattle.monitor.specs.Boards.{shown, Filled, Beyond, Drawn, Prepared}
use Rattle.monitor.proofs.Columns.{column_like}
use Rattle.monitor.proofs.OneSheet.{says_like, settles}
use Rattle.monitor.proofs.Positions.{earlier, injective, start}

module _ {V : Type 0} (plan : Plan) where
  -- the verdicts of f stand on the first n positions, and the old ones on the rest
  abbrev pub SoFar : (f : Sheet V) (n : ℕ) (old board : List V) → Type 0
  SoFar f n old board = Filled plan f n board × Beyond n old board

  -- one position more
  pub filled_one : (f : Sheet V) (i t p : ℕ) (v : V) (board : List V) → t < plan.steps → p < plan.places → index plan i t p < length board → v ≡ f i t p → Filled plan f (index plan i t p) board → Filled plan f (index plan i t p + 1) (set board (index plan i t p) v)
  filled_one f i t p v board ht hp inside is before = record { stand = λ j u q d hu hq lt. go j u q d hu hq (cases_lt (index plan j u q) (index plan i t p)) lt }
    where
      go : (j u q : ℕ) (d : V) → u < plan.steps → q < plan.places → (index plan j u q < index plan i t p) ⊎ (index plan i t p ≤ index plan j u q) → index plan j u q < index plan i t p + 1 → shown plan (set board (index plan i t p) v) d j u q ≡ f j u q
      go j u q d hu hq (inl h) lt =
          let ne : index plan j u q ≢ index plan i t p = omega arith in
          rw get_or-set_other (before.stand j u q d hu hq h)
      go j u q d hu hq (inr h) lt =
          let same : index plan j u q ≡ index plan i t p = omega arith in
          let who = injective plan.steps plan.places j u q i t p hu hq ht hp same in
          rw (who.0, who.1, who.2, get_or-set_same board (index plan i t p) v d inside) is

  pub beyond_one : (n : ℕ) (v : V) (old board : List V) → Beyond n old board → Beyond (n + 1) old (set board n v)
  beyond_one n v old board h = record { keeps = λ k d le. let ne : k ≢ n = omega arith in rw get_or-set_other (h.keeps k d (omega arith)) }

  pub drawn : (f : Sheet V) (old new : List V) → Filled plan f (index plan (length plan.rows) 0 0) new → Beyond (index plan (length plan.rows) 0 0) old new → Drawn plan f old new
  drawn f old new here there = record {
    verdicts = λ i t p d hi ht hp. here.stand i t p d ht hp (earlier plan.steps plan.places i (length plan.rows) t p 0 0 hi ht hp);
    beyond = λ k d le. there.keeps k d (omega arith);
  }

module _ {V : Type 0} (o : Ops V) (x : Extend) (plan : Plan) (readings : ℕ → Ends) (ordered : Ordered plan.rows) where
  -- a row's verdict over a board that holds the rows before it is its verdict
  pub on_board : (i t p n : ℕ) (d : V) (board : List V) → i < length plan.rows → t < plan.steps → p < plan.places → index plan i 0 0 ≤ n → Filled plan (verdict o x plan readings) n board → value o x plan readings (shown plan board d) (row_at plan i) t p ≡ verdict o x plan readings i t p
  on_board i t p n d board hi ht hp le filled =
      says_like o x plan readings (shown plan board d) (verdict o x plan readings) (row_at plan i) i t p (ordered i hi) ht hp
      (λ r u q hr hu hq. filled.stand r u q d hu hq (omega (arith, earlier plan.steps plan.places r i u q 0 0 hr hu hq)))
      ∙ sym (settles o x plan readings ordered i t p hi ht hp)

  -- one place more
  pub place_drawn : (i t p k : ℕ) (d v : V) (s : Statement) (old board : List V) → s ≡ row_at plan i → i < length plan.rows → t < plan.steps → p < plan.places → k ≡ index plan i t p → index plan i t p < length board → v ≡ value o x plan readings (shown plan board d) s t p → Filled plan (verdict o x plan readings) (index plan i t p) board × Beyond (index plan i t p) old board → Filled plan (verdict o x plan readings) (index plan i t (p + 1)) (set board k v) × Beyond (index plan i t (p + 1)) old (set board k v)
  place_drawn i t p k d v s old board row hi ht hp at-k inside is inv =
      let meant : v ≡ verdict o x plan readings i t p = is ∙ ap (λ r. value o x plan readings (shown plan board d) r t p) row ∙ on_board i t p (index plan i t p) d board hi ht hp (start plan.steps plan.places i t p) inv.0 in
      let next : index plan i t p + 1 ≡ index plan i t (p + 1) = omega arith in
      rw (at-k, ← next)
      (filled_one plan (verdict o x plan readings) i t p v board ht hp inside meant inv.0, beyond_one plan (index plan i t p) v old board inv.1)

-- what is prepared for a statement does not depend on its own row
pub prepared_like : {V : Type 0} (o : Ops V) (x : Extend) (plan : Plan) (f g : Sheet V) (t : ℕ) (work : List V) (s : Statement) (i : ℕ) → refers i s ≡ true → ((r p : ℕ) → r < i → p < plan.places → f r t p ≡ g r t p) → Prepared o x plan f t work s → Prepared o x plan g t work s
prepared_like o x plan f g t work (AtLeast c k) i ref e h = h
prepared_like o x plan f g t work (Not r) i ref e h = h
prepared_like o x plan f g t work (And r s) i ref e h = h
prepared_like o x plan f g t work (Or r s) i ref e h = h
prepared_like o x plan f g t work (Until w) i ref e h = h
prepared_like o x plan f g t work (Since w) i ref e h = h
prepared_like o x plan f g t work (Reach r s d) i ref e h = λ p hp.
    h p hp ∙ (λ j. reached o x t plan.pipes (column_like plan.places (f r t) (g r t) (λ k lt. e r k (ltb-true r i (and_parts _ _ ref).0) lt) j) (column_like plan.places (f s t) (g s t) (λ k lt. e s k (ltb-true s i (and_parts _ _ ref).1) lt) j) d.from d.upto p)
prepared_like o x plan f g t work Yes i ref e h = h

-- writing a verdict leaves the rows before it
pub row_kept : {V : Type 0} (plan : Plan) (board : List V) (d v : V) (i t p k : ℕ) → k ≡ index plan i t p → (r u q : ℕ) → r < i → u < plan.steps → q < plan.places → shown plan board d r u q ≡ shown plan (set board k v) d r u q
row_kept plan board d v i t p k at-k r u q hr hu hq =
    let ne : index plan r u q ≢ k = omega (arith, earlier plan.steps plan.places r i u q t p hr hu hq) in
    sym (get_or-set_other board k (index plan r u q) v d ne)
