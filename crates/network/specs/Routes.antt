-- Routes at a step, and their distances.
use Rattle.std.specs.Prelude.{◌≡◌, ℕ, ◌<◌, ◌≤◌, Bool, true, ◌&&◌, List, [], ◌∷◌, length, Some, None, Option, nat_le, nat_lt, slice_index_or}
use mathlib.Core.List.{Memᴰ}
use Rattle.network.specs.declared.pipe.Pipe.{Pipe}
use Rattle.network.specs.Measures.{Extend}

-- both ends of the pipe are places
pub record Ends (places : ℕ) (e : Pipe) : Type 0 where
  pub near : e.from < places
  pub far : e.to < places

-- the same of every pipe, as a test
abbrev pub all_join : ℕ → List Pipe → Bool
all_join places [] = true
all_join places (e ∷ es) = nat_lt e.from places && nat_lt e.to places && all_join places es

-- every pipe joins two places
abbrev pub Joined : ℕ → List Pipe → Type 0
Joined places pipes = (i : ℕ) (d : Pipe) → i < length pipes → Ends places (slice_index_or pipes i d)

-- the pipe stands at step t: from its first step to its last, both counted
pub record Stands (t : ℕ) (e : Pipe) : Type 0 where
  pub opened : e.first ≤ t
  pub closes : t ≤ e.last

-- the same as a test
abbrev pub stands : ℕ → Pipe → Bool
stands t e = nat_le e.first t && nat_le t e.last

-- a list of pipes that may be used, each of which leaves where the one before arrived, from p on
module _ (may : Pipe → Type 0) (pipes : List Pipe) where
  abbrev pub Leads : ℕ → List Pipe → Type 0
  Leads p [] = Unit {0}
  Leads p (e ∷ π) = Memᴰ e pipes × may e × (e.from ≡ p) × Leads e.to π

-- the distance of a route: 0 for no pipe, and else the first pipe's extension of the distance of the rest
abbrev pub distance : Extend → List Pipe → ℕ
distance x [] = 0
distance x (e ∷ π) = x (distance x π) e

-- at most the upper distance; an absent one bounds nothing
abbrev pub UpTo : Option ℕ → ℕ → Type 0
UpTo None d = Unit {0}
UpTo (Some k) d = d ≤ k

-- a route from p at step t whose distance lies from low to high
pub record Reaching (x : Extend) (t : ℕ) (pipes : List Pipe) (low : ℕ) (high : Option ℕ) (p : ℕ) : Type 0 where
  pub over : List Pipe
  pub leads : Leads (Stands t) pipes p over
  pub beyond : low ≤ distance x over
  pub within : UpTo high (distance x over)
