-- The links of a chain, by two lists: record i is of the cell `slice_index cs i`, and its link is `slice_index_or ns i None`.
-- A link is owned by the head, None, or by record i, Some i.
use Rattle.std.specs.Prelude.{ℕ, suc, ◌<◌, ◌≤◌, List, length, Some, None, Option, ◌≢◌, slice_index, slice_index_or}

-- the link of an owner
abbrev pub link : List (Option ℕ) → Option ℕ → Option ℕ → Option ℕ
link ns head None = head
link ns head (Some i) = slice_index_or ns i None

-- how many records there are at least where a link leads to a record, or a record owns a link
abbrev pub needed : Option ℕ → ℕ
needed None = 0
needed (Some i) = suc i

-- the smallest cell that an owner may lead to
abbrev pub floor : List ℕ → Option ℕ → ℕ
floor cs None = 0
floor cs (Some i) = suc (slice_index cs i)

-- the cell that a link leads to, or n, beyond all cells, at the end of the chain
abbrev pub ahead : ℕ → List ℕ → Option ℕ → ℕ
ahead n cs None = n
ahead n cs (Some i) = slice_index cs i

-- links stay within the records in use
abbrev pub Within : List ℕ → List (Option ℕ) → Option ℕ → Type 0
Within cs ns head = (from : Option ℕ) → needed from ≤ length cs → needed (link ns head from) ≤ length cs

-- every link leads on to a larger cell, and so the chain ends
abbrev pub Onward : ℕ → List ℕ → List (Option ℕ) → Option ℕ → Type 0
Onward n cs ns head = (from : Option ℕ) → needed from ≤ length cs → floor cs from ≤ ahead n cs (link ns head from)

-- no link skips a record
abbrev pub Nearest : ℕ → List ℕ → List (Option ℕ) → Option ℕ → Type 0
Nearest n cs ns head = (from : Option ℕ) (j : ℕ) → (needed from ≤ length cs) × (j < length cs) × (floor cs from ≤ slice_index cs j) → ahead n cs (link ns head from) ≤ slice_index cs j

-- no cell stands twice
abbrev pub Apart : List ℕ → Type 0
Apart cs = (i j : ℕ) → (i < j) × (j < length cs) → slice_index cs i ≢ slice_index cs j
