-- A draft by the plan that it holds.
use Rattle.std.specs.Prelude.{vec_items}
use Rattle.plan.specs.declared.draft.Draft.{Draft}
use Rattle.plan.specs.Plans.{Plan}

abbrev pub plan_of : Draft → Plan
plan_of d =
    record { places = d.places; steps = d.steps; channels = d.channels; pipes = vec_items d.pipes; rows = vec_items d.rows }
