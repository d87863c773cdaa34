-- What a pipe or a row that is taken keeps true of a draft.
use Rattle.std.proofs.Common.{◌≡◌, ℕ, ◌<◌, ◌≤◌, true, leb, ◌⊎◌, List, [], ◌∷◌, ◌++◌, length, get_or, Some, None, sym, ap, inl, inr, arith, length-append, leb-false}
use Rattle.std.proofs.lemmas.Bool.{cases_lt, not-false, or_parts}
use Rattle.std.proofs.lemmas.List.{get_or_append_left, get_or_push}
use Rattle.refusal.proofs.Passing.{passed}
use Rattle.plan.specs.declared.statement.Statement.{Statement}
use Rattle.network.specs.declared.pipe.Pipe.{Pipe}
use Rattle.network.specs.Routes.{all_join}
use Rattle.network.proofs.Joining.{all_join_push}
use Rattle.plan.specs.Rows.{refers, has_interval}
use Rattle.plan.specs.Plans.{Plan, pipe_checks, pipe_refusal, row_checks, row_refusal}

pub taken_refers : (plan : Plan) (s : Statement) → None ≡ row_refusal plan (Some s) → refers (length plan.rows) s ≡ true
taken_refers plan s e = not-false (refers (length plan.rows) s) (passed (row_checks plan (Some s)) e).0

pub taken_fits : (plan : Plan) (s : Statement) → None ≡ row_refusal plan (Some s) → length plan.rows < 32
taken_fits plan s e = leb-false 32 (length plan.rows) (passed (row_checks plan (Some s)) e).1.1.1.0

pub taken_interval : (plan : Plan) (s : Statement) → None ≡ row_refusal plan (Some s) → has_interval s ≡ true
taken_interval plan s e = not-false (has_interval s) (passed (row_checks plan (Some s)) e).1.1.0

-- what holds of each place of a list, and of one more, holds of each place of the longer list
pub each_push : {A : Type 0} (P : ℕ → A → Type 0) (d : A) (xs ys : List A) (s : A) → ys ≡ xs ++ s ∷ [] → ((i : ℕ) → i < length xs → P i (get_or xs i d)) → P (length xs) s → (i : ℕ) → i < length ys → P i (get_or ys i d)
each_push P d xs ys s e below here i lt = rw e (go (cases_lt i (length xs)))
  where
    go : (i < length xs) ⊎ (length xs ≤ i) → P i (get_or (xs ++ s ∷ []) i d)
    go (inl h) = rw (get_or_append_left xs (s ∷ []) d i h) (below i h)
    go (inr h) =
        let last : i ≡ length xs = omega (arith, ap length e, length-append xs (s ∷ [])) in
        rw (get_or_push xs s d i (sym last), last) here

pub joined_push : (plan : Plan) (e : Pipe) (pipes : List Pipe) → pipes ≡ plan.pipes ++ e ∷ [] → all_join plan.places plan.pipes ≡ true → None ≡ pipe_refusal plan e → all_join plan.places pipes ≡ true
joined_push plan e pipes is before taken =
    let inside = or_parts (leb plan.places e.from) (leb plan.places e.to) (passed (pipe_checks plan e) taken).0 in
    rw is (all_join_push plan.places plan.pipes e before (record { near = leb-false _ _ inside.0; far = leb-false _ _ inside.1 }))
