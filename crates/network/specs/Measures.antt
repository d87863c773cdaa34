-- Measures of distance.
use Rattle.std.specs.Prelude.{ℕ, ◌+◌, ◌≤◌, min, max}
use Rattle.std.proofs.Common.{arith}
use Rattle.network.specs.declared.pipe.Pipe.{Pipe}

-- how a measure extends a distance by a pipe
abbrev pub Extend : Type 0
Extend = ℕ → Pipe → ℕ

-- the laws of a measure, on distances up to 65,535: the answer is at least the distance given, a greater distance never gives a smaller answer, and the answer is again at most 65,535
pub record Measures (x : Extend) : Type 0 where
  pub grows : (d : ℕ) (e : Pipe) → d ≤ 65535 → d ≤ x d e
  pub rises : (c d : ℕ) (e : Pipe) → c ≤ d → d ≤ 65535 → x c e ≤ x d e
  pub fits : (d : ℕ) (e : Pipe) → d ≤ 65535 → x d e ≤ 65535

-- an answer above 65,535 becomes 65,535
abbrev pub capped : ℕ → ℕ
capped d = min d 65535

-- one more for each pipe
abbrev pub by_hops : Extend
by_hops d e = capped (d + 1)

-- the pipe's length more
abbrev pub by_lengths : Extend
by_lengths d e = capped (d + e.length)

-- the greater of the distance and the pipe's drop
abbrev pub by_drops : Extend
by_drops d e = capped (max d e.drop)

pub hops_laws : Measures by_hops
hops_laws = record { grows = λ d e h. omega arith; rises = λ c d e h k. omega arith; fits = λ d e h. omega arith }

pub lengths_laws : Measures by_lengths
lengths_laws =
    record { grows = λ d e h. omega arith; rises = λ c d e h k. omega arith; fits = λ d e h. omega arith }

pub drops_laws : Measures by_drops
drops_laws =
    record { grows = λ d e h. omega arith; rises = λ c d e h k. omega arith; fits = λ d e h. omega arith }
