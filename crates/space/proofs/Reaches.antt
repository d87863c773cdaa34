-- Reach by levels is the least verdict at or above all routes in the interval.
use Rattle.std.proofs.Common.{◌≡◌, ℕ, zero, suc, ◌+◌, ◌-◌, ◌*◌, ◌<◌, ◌≤◌, min, List, length, Some, None, Option, sym, refl, ◌∙◌, suc-mul, zero-add, zero-mul, arith}
use native.Mathlib.Decide.{dec_lt}
use lib.ListN.{get_or-eq_default}
use Rattle.network.specs.declared.pipe.Pipe.{Pipe}
use Rattle.verdict.specs.Algebra.{Ops, Laws, Below}
use Rattle.space.proofs.Made.{Made, Made.one, Made.none, Made.both, Gathers}
use Rattle.network.specs.Routes.{Joined}
use Rattle.space.specs.Along.{along}
use Rattle.network.specs.Measures.{Extend, Measures}
use Rattle.network.specs.Routes.{Reaching, distance, UpTo}
use Rattle.space.specs.Levels.{val, at, cap, tall, begun, climbed, joined, reached}
use Rattle.space.specs.Reach.{Reaches}
use Rattle.verdict.proofs.Order.{below_trans, join_left, join_right}
use Rattle.space.proofs.Made.{made_of, gathers_least}
use Rattle.space.proofs.Begun.{begun_at, begun_length}
use Rattle.space.proofs.Rooms.{one_more}
use Rattle.space.proofs.Climbs.{OnLevel, Starts, gathers}

-- a distance in the interval has a level from low on that is worked through, and such a level has only distances in the interval
low_level : (low d : ℕ) (high : Option ℕ) → low ≤ d → UpTo high d → low ≤ min d (cap low high)
low_level low d None h k = omega arith
low_level low d (Some u) h k = omega arith

high_level : (low d : ℕ) (high : Option ℕ) → UpTo high d → min d (cap low high) < tall low high
high_level low d None k = omega arith
high_level low d (Some u) k = omega arith

near_level : (low d : ℕ) (high : Option ℕ) → min d (cap low high) < tall low high → UpTo high d
near_level low d None k = tt
near_level low d (Some u) k = omega arith

module _ {V : Type 0} {o : Ops V} (ls : Laws o) where
  -- a family gathered level by level
  joined_made : {J : Type 0} {f : J → V} (places : ℕ) (xs : List V) (low n p : ℕ) → ((i : ℕ) → i < n → Made o J f (at o places xs (low + i) p)) → Made o J f (joined o places xs low n p)
  joined_made places xs low zero p h = none refl
  joined_made places xs low (suc n) p h = both _ _ (joined_made places xs low n p (λ i hi. h i (omega arith))) (h n (omega arith)) refl

  joined_above : (places : ℕ) (xs : List V) (low n p i : ℕ) → i < n → Below o (at o places xs (low + i) p) (joined o places xs low n p)
  joined_above places xs low zero p i h = absurd (omega arith)
  joined_above places xs low (suc n) p i h = go (dec_lt i n) (joined_above places xs low n p i)
    where
      go : Dec (i < n) → (i < n → Below o (at o places xs (low + i) p) (joined o places xs low n p)) → Below o (at o places xs (low + i) p) (joined o places xs low (suc n) p)
      go (yes k) rest = below_trans ls (rest k) (join_left ls _ _)
      go (no k) rest = let same : i ≡ n = omega arith in rw same (join_right ls _ _)

  module _ {x : Extend} (ms : Measures x) (t : ℕ) (pipes : List Pipe) (through goal : List V) (pair : length goal ≡ length through) (between : Joined (length through) pipes) where
    pub starts : (top : ℕ) (small : top ≤ 65535) → Starts ls ms t top small pipes through (val o goal) between (begun o goal top)
    starts top small = record {
      room = let long = begun_length o goal top in let more = one_more top (length goal) in rw (sym pair) (omega arith);
      first = λ p hp. let e : 0 * length through + p ≡ p = rw (zero-mul, zero-add) in rw e (begun_at o goal top p);
      others = λ k p hp.
          let all : suc k * length through ≡ k * length through + length through = suc-mul k (length through) in
          begun_at o goal top _ ∙ get_or-eq_default goal o.bottom (omega arith);
    }

    reaches_by : (low : ℕ) (high : Option ℕ) → cap low high ≤ 65535 → (p : ℕ) → p < length through → Gathers o (Reaching x t pipes low high p) (λ u. along o (val o through) (val o goal) p u.over) (reached o x t pipes through goal low high p)
    reaches_by low high small p hp = record {
      made = joined_made _ _ low _ p (λ i hi. made_of (λ r. one (record { over = r.over; leads = r.leads; beyond = let e = r.on in omega arith; within = near_level low _ high (let e = r.on in omega arith) }) refl) (all (low + i) (omega arith)).made);
      above = λ u.
          let k : ℕ = min (distance x u.over) (cap low high) in
          let above = low_level low (distance x u.over) high u.beyond u.within in
          let below = high_level low (distance x u.over) high u.within in
          let on : min (distance x u.over) (cap low high) ≡ low + (k - low) = omega arith in
          below_trans ls ((all (low + (k - low)) (omega arith)).above (record { over = u.over; leads = u.leads; on = on })) (joined_above _ _ low _ p (k - low) (omega arith));
    }
      where
        all : (k : ℕ) → k < tall low high → Gathers o (OnLevel ls ms t (cap low high) small pipes through (val o goal) p k) (λ r. along o (val o through) (val o goal) p r.over) (at o (length through) (climbed o through x t (cap low high) pipes (tall low high) (begun o goal (cap low high))) k p)
        all k hk = gathers ls ms t (cap low high) small pipes through (val o goal) between (tall low high) (begun o goal (cap low high)) (starts (cap low high) small) k p hk hp

pub reaches : {V : Type 0} {o : Ops V} (ls : Laws o) {x : Extend} (ms : Measures x) → Reaches o x
reaches ls ms t pipes through goal low high pair between small p hp = gathers_least ls (reaches_by ls ms t pipes through goal pair between low high small p hp)
