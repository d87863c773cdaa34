-- Past the survey's own checks, the store's answer is the survey's.
use Rattle.std.proofs.Common.{◌≡◌, ℕ, true, false, Some, None, Option, Result, sym, refl, ap, ◌∙◌}
use Rattle.std.proofs.lemmas.Option.{cond_some}
use Rattle.refusal.specs.declared.Refusal.{Refusal}
use Rattle.refusal.specs.declared.Refusal.TheVariants.{NoRange}
use Rattle.refusal.specs.Checks.{answer, leaves}
use Rattle.reading.specs.declared.entry.Entry.{Entry}
use Rattle.reading.specs.Ends.{Ends, is_range, made_of}
use Rattle.store.specs.Stored.{Stored, refusal, accepted, Entered}
use Rattle.plan.specs.Plans.{index}
use Rattle.survey.specs.Surveys.{Surveyed, surveyed, has_cell, found, between, entry_refusal, with_entry}

module _ (s : Surveyed) (e : Entry) (k : ℕ) (g : Ends) (r : Result (Unit {0}) Refusal) (after : Stored) (is : found s e ≡ Some k) (ranged : made_of e.low e.high ≡ Some g) (did : Entered s.store k g r after) where
  at : (has_cell s e ≡ true) × (index s.plan e.channel e.step e.place ≡ k)
  at = cond_some (has_cell s e) (index s.plan e.channel e.step e.place) k is

  good : (is_range e.low e.high ≡ true) × (between e ≡ g)
  good = cond_some (is_range e.low e.high) (between e) g ranged

  past : entry_refusal s e ≡ refusal s.store k g
  past = rw (at.0, good.0, at.1, ← good.1)

  pub answers : r ≡ answer (entry_refusal s e)
  answers = did.answers ∙ ap answer (sym past)

  moved : (o : Option Refusal) → surveyed s.plan s.number (leaves o s.store (accepted s.store k g)) ≡ leaves o s (with_entry s e)
  moved None = rw (at.1, good.1)
  moved (Some why) = refl

  pub holds : surveyed s.plan s.number after ≡ leaves (entry_refusal s e) s (with_entry s e)
  holds = rw (did.after, past) (moved (refusal s.store k g))

-- an entry whose ends make no range
pub no_range : (s : Surveyed) (e : Entry) (k : ℕ) → found s e ≡ Some k → is_range e.low e.high ≡ false → entry_refusal s e ≡ Some NoRange
no_range s e k is bad =
    let one = (cond_some (has_cell s e) (index s.plan e.channel e.step e.place) k is).0 in
    rw (one, bad)
