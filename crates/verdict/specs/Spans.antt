-- The span of a kind: its operations end by end, and its laws from those of the kind.
use Rattle.std.specs.Prelude.{true}
use Rattle.std.proofs.Common.{ap₂}
use Rattle.verdict.specs.declared.span.Span.{Span}
use Rattle.verdict.specs.Algebra.{Ops, Laws}

module _ {V : Type 0} where
  abbrev pub span : V → V → Span V
  span l h = record { low = l; high = h }

  -- not swaps the ends; a range is judged by judging each end as an exact reading
  abbrev pub span_ops : Ops V → Ops (Span V)
  span_ops o = record {
    bottom = span o.bottom o.bottom;
    top = span o.top o.top;
    join = λ v w. span (o.join v.low w.low) (o.join v.high w.high);
    meet = λ v w. span (o.meet v.low w.low) (o.meet v.high w.high);
    neg = λ v. span (o.neg v.high) (o.neg v.low);
    judge = λ low high limit. span (o.judge low low limit) (o.judge high high limit);
    ranged = true;
  }

  pub span_laws : {o : Ops V} → Laws o → Laws (span_ops o)
  span_laws ls = record {
    join_comm = λ x y. ap₂ span (ls.join_comm _ _) (ls.join_comm _ _);
    meet_comm = λ x y. ap₂ span (ls.meet_comm _ _) (ls.meet_comm _ _);
    join_assoc = λ x y z. ap₂ span (ls.join_assoc _ _ _) (ls.join_assoc _ _ _);
    meet_assoc = λ x y z. ap₂ span (ls.meet_assoc _ _ _) (ls.meet_assoc _ _ _);
    join_absorb = λ x y. ap₂ span (ls.join_absorb _ _) (ls.join_absorb _ _);
    meet_absorb = λ x y. ap₂ span (ls.meet_absorb _ _) (ls.meet_absorb _ _);
    meet-join = λ x y z. ap₂ span (ls.meet-join _ _ _) (ls.meet-join _ _ _);
    join-meet = λ x y z. ap₂ span (ls.join-meet _ _ _) (ls.join-meet _ _ _);
    least = λ x. ap₂ span (ls.least _) (ls.least _);
    greatest = λ x. ap₂ span (ls.greatest _) (ls.greatest _);
    neg-neg = λ x. ap₂ span (ls.neg-neg _) (ls.neg-neg _);
    neg-join = λ x y. ap₂ span (ls.neg-join _ _) (ls.neg-join _ _);
    neg-bottom = ap₂ span ls.neg-bottom ls.neg-bottom;
    rises = λ x y k low up high. ap₂ span (ls.rises x y k low up high) (ls.rises x y k low up high);
    limits = λ l h k. ap₂ span (ls.limits l l k) (ls.limits h h k);
  }
