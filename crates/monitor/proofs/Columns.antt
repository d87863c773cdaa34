-- Columns of verdicts, and routes that stay among the places.
use Rattle.std.proofs.Common.{◌≡◌, ℕ, zero, suc, ◌+◌, ◌<◌, ◌≤◌, true, List, [], ◌∷◌, map, length, get_or, Some, None, Option, sym, refl, ◌∙◌, arith}
use Rattle.std.proofs.lemmas.Bool.Decides.{nat_tests}
use Rattle.std.specs.List.{range_with_len}
use Rattle.std.proofs.lemmas.List.FromFn.{length-map-range_with_len, get_or-map-range_with_len}
use Rattle.verdict.specs.Algebra.{Ops, Laws}
use Rattle.verdict.specs.Least.{Least}
use Rattle.network.specs.declared.pipe.Pipe.{Pipe}
use Rattle.network.specs.Measures.{Extend, Measures}
use Rattle.network.specs.Routes.{Joined, Stands, Leads, Reaching}
use Rattle.space.specs.Along.{along}
use Rattle.space.specs.Levels.{cap, reached, val}
use Rattle.space.proofs.Cuts.{joined_mem}
use Rattle.space.proofs.Reaches.{reaches}
use Rattle.plan.specs.Rows.{are_distances}
use Rattle.monitor.specs.Verdicts.{column}
use Rattle.monitor.proofs.Windows.{least_like}

counted_like : {V : Type 0} (f g : ℕ → V) (a n : ℕ) → ((k : ℕ) → k < a + n → f k ≡ g k) → map f (range_with_len a n) ≡ map g (range_with_len a n)
counted_like f g a zero e = refl
counted_like f g a (suc n) e =
    rw (e a (omega arith), counted_like f g (a + 1) n (λ k lt. e k (omega arith)))

pub column_like : {V : Type 0} (n : ℕ) (f g : ℕ → V) → ((k : ℕ) → k < n → f k ≡ g k) → column n f ≡ column n g
column_like n f g e = counted_like f g 0 n (λ k lt. e k (omega arith))

pub column_length : {V : Type 0} (n : ℕ) (f : ℕ → V) → length (column n f) ≡ n
column_length n f = length-map-range_with_len f 0 n

column_at : {V : Type 0} (n : ℕ) (f : ℕ → V) (p : ℕ) (d : V) → p < n → get_or (column n f) p d ≡ f p
column_at n f p d lt = get_or-map-range_with_len f 0 n p p d lt (omega arith)

-- distances in an interval are small
pub small : (a : ℕ) (b : Option ℕ) → are_distances a b ≡ true → cap a b ≤ 128
small a None e = grind (arith, nat_tests)
small a (Some b) e = grind (arith, nat_tests)

-- a route asks only for verdicts at places
along_like : {V : Type 0} (o : Ops V) (r q s u : ℕ → V) (may : Pipe → Type 0) (places : ℕ) (pipes : List Pipe) → Joined places pipes → ((k : ℕ) → k < places → r k ≡ q k) → ((k : ℕ) → k < places → s k ≡ u k) → (p : ℕ) (π : List Pipe) → p < places → Leads may pipes p π → along o r s p π ≡ along o q u p π
along_like o r q s u may places pipes joined er es p [] hp l = es p hp
along_like o r q s u may places pipes joined er es p (e ∷ π) hp l =
    λ j. o.meet (er p hp j) (along_like o r q s u may places pipes joined er es e.to π (joined_mem pipes joined e l.0).far l.3 j)

-- what the levels of two columns come to
pub reach_least : {V : Type 0} {o : Ops V} (ls : Laws o) {x : Extend} (ms : Measures x) (t places : ℕ) (pipes : List Pipe) → Joined places pipes → (r s : ℕ → V) (a : ℕ) (b : Option ℕ) → are_distances a b ≡ true → (p : ℕ) → p < places → Least o (Reaching x t pipes a b p) (λ u. along o r s p u.over) (reached o x t pipes (column places r) (column places s) a b p)
reach_least {V} {o} ls {x} ms t places pipes joined r s a b ok p hp =
    least_like ls
    (λ u. along_like o (val o (column places r)) r (val o (column places s)) s (Stands t) places pipes joined (λ k lt. column_at places r k o.bottom lt) (λ k lt. column_at places s k o.bottom lt) p u.over hp u.leads)
    (reaches ls ms t pipes (column places r) (column places s) a b (column_length places s ∙ sym (column_length places r)) (rw (column_length places r) joined) (omega (arith, small a b ok)) p (rw (column_length places r) hp))
