-- What a statement refers to.
use Rattle.std.specs.Prelude.{◌≡◌, ℕ, ◌<◌, Bool, true, ◌&&◌, List, length, Some, None, Option, int_le, nat_le, nat_lt, slice_index_or}
use Rattle.reading.specs.Ends.{lowest, highest}
use Rattle.plan.specs.declared.statement.Statement.{Statement}
use Rattle.plan.specs.declared.statement.Window.{Window}
use Rattle.plan.specs.declared.statement.Statement.TheVariants.{AtLeast, Not, And, Or, Until, Since, Reach, Yes}

-- every row that the statement refers to is among the first n
abbrev pub refers : ℕ → Statement → Bool
refers n (AtLeast channel limit) = true
refers n (Not r) = nat_lt r n
refers n (And r s) = nat_lt r n && nat_lt s n
refers n (Or r s) = nat_lt r n && nat_lt s n
refers n (Until w) = nat_lt w.hold n && nat_lt w.goal n
refers n (Since w) = nat_lt w.hold n && nat_lt w.goal n
refers n (Reach r s d) = nat_lt r n && nat_lt s n
refers n Yes = true

-- the channel that the statement reads is one of so many, and its limit lies within the limits of readings
abbrev pub names_channel : ℕ → Statement → Bool
names_channel channels (AtLeast channel limit) = nat_lt channel channels && int_le lowest limit && int_le limit highest
names_channel channels (Not r) = true
names_channel channels (And r s) = true
names_channel channels (Or r s) = true
names_channel channels (Until w) = true
names_channel channels (Since w) = true
names_channel channels (Reach r s d) = true
names_channel channels Yes = true

-- a lower distance that is not above the upper one, which may be absent, and neither above 127
abbrev pub are_distances : ℕ → Option ℕ → Bool
are_distances a None = nat_le a 127
are_distances a (Some b) = nat_le a b && nat_le b 127

-- a lower step that is not above the upper one, and neither above 63
abbrev pub are_steps : Window → Bool
are_steps w = nat_le w.from w.upto && nat_le w.upto 63

-- a statement's lower end is not above its upper end, and no step is above 63, no distance above 127
abbrev pub has_interval : Statement → Bool
has_interval (AtLeast channel limit) = true
has_interval (Not r) = true
has_interval (And r s) = true
has_interval (Or r s) = true
has_interval (Until w) = are_steps w
has_interval (Since w) = are_steps w
has_interval (Reach r s d) = are_distances d.from d.upto
has_interval Yes = true

-- every row refers only to rows before it
abbrev pub Ordered : List Statement → Type 0
Ordered rows = (i : ℕ) → i < length rows → refers i (slice_index_or rows i Yes) ≡ true

-- every row's interval is one
abbrev pub Intervals : List Statement → Type 0
Intervals rows = (i : ℕ) → i < length rows → has_interval (slice_index_or rows i Yes) ≡ true
