-- With a short cut from 0 to 2, one route from 0 is 6 or longer: the one over 1 to 2.
use Rattle.std.proofs.Common.{◌≡◌, ℕ, ◌≤◌, List, [], ◌∷◌, None, sym, refl, ◌∙◌, subst, arith}
use mathlib.Core.List.Memᴰ
use mathlib.Core.List.{Memᴰ}
use Rattle.verdict.specs.Algebra.{Ops, Laws, Below}
use Rattle.verdict.specs.Least.{Least}
use Rattle.verdict.proofs.Order.{below_refl, below_trans, below_antisym, meet_below_right, top_meet}
use Rattle.network.specs.declared.pipe.Pipe.{Pipe}
use Rattle.network.specs.Measures.{by_lengths}
use Rattle.network.specs.Routes.{Stands, Leads, distance, Reaching}
use Rattle.space.specs.Along.{along}
use Rattle.cases.specs.Cases.{pipe, with_short_cut}

-- one of the three pipes
of_three : (P : Pipe → Type 0) → P (pipe 0 1 5 2 0 1) → P (pipe 1 2 4 1 0 0) → P (pipe 0 2 3 1 0 0) → (e : Pipe) → Memᴰ e with_short_cut → P e
of_three P a b c e (Memᴰ.head is) = subst P (sym is) a
of_three P a b c e (Memᴰ.tail (Memᴰ.head is)) = subst P (sym is) b
of_three P a b c e (Memᴰ.tail (Memᴰ.tail (Memᴰ.head is))) = subst P (sym is) c
of_three P a b c e (Memᴰ.tail (Memᴰ.tail (Memᴰ.tail m))) = absurd (Memᴰ.not-nil m)

abbrev Route : ℕ → List Pipe → Type 0
Route p π = Leads (Stands 0) with_short_cut p π

module _ {V : Type 0} {o : Ops V} (ls : Laws o) (r s : ℕ → V) where
  abbrev worth : ℕ → List Pipe → V
  worth = along o r s

  -- no pipe leads on from place 2
  from_2 : (π : List Pipe) → Route 2 π → (Below o (worth 2 π) (s 2)) × (distance by_lengths π ≤ 0)
  from_2 [] l = (below_refl ls (s 2), omega arith)
  from_2 (e ∷ π) l =
      absurd (of_three (λ e. e.from ≡ 2 → ⊥) (λ h. omega arith) (λ h. omega arith) (λ h. omega arith) e l.0 l.2)

  -- what leads on from place 1 leads to place 2
  from_1 : (π : List Pipe) → Route 1 π → 1 ≤ distance by_lengths π → Below o (worth 1 π) (s 2)
  from_1 [] l far = absurd (omega arith)
  from_1 (e ∷ π) l far =
      of_three (λ e. e.from ≡ 1 → Route e.to π → Below o (o.meet (r 1) (worth e.to π)) (s 2))
      (λ h m. absurd (omega arith)) (λ h m. below_trans ls (meet_below_right ls _ _) (from_2 π m).0) (λ h m. absurd (omega arith)) e l.0 l.2 l.3

  from_0 : (π : List Pipe) → Route 0 π → 6 ≤ distance by_lengths π → Below o (worth 0 π) (s 2)
  from_0 [] l far = absurd (omega arith)
  from_0 (e ∷ π) l far =
      of_three (λ e. e.from ≡ 0 → 6 ≤ by_lengths (distance by_lengths π) e → Route e.to π → Below o (o.meet (r 0) (worth e.to π)) (s 2))
      (λ h d m. below_trans ls (meet_below_right ls _ _) (from_1 π m (omega arith)))
      (λ h d m. absurd (omega arith))
      (λ h d m. absurd (omega (arith, (from_2 π m).1)))
      e l.0 l.2 far l.3

  -- the long way
  long_way : Reaching by_lengths 0 with_short_cut 6 None 0
  long_way = record {
    over = pipe 0 1 5 2 0 1 ∷ pipe 1 2 4 1 0 0 ∷ [];
    leads = (Memᴰ.head refl, record { opened = omega arith; closes = omega arith }, refl, (Memᴰ.tail (Memᴰ.head refl), record { opened = omega arith; closes = omega arith }, refl, tt));
    beyond = omega arith;
    within = tt;
  }

  pub found : (v : V) → r 0 ≡ o.top → r 1 ≡ o.top → Least o (Reaching by_lengths 0 with_short_cut 6 None 0) (λ u. worth 0 u.over) v → v ≡ s 2
  unfolding long_way
  found v first second least =
      below_antisym ls (least.least (s 2) (λ u. from_0 u.over u.leads u.beyond))
      (subst (λ w. Below o w v) ((λ i. o.meet (first i) (o.meet (second i) (s 2))) ∙ top_meet ls _ ∙ top_meet ls _) (least.above long_way))
