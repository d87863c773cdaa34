-- The records of a chain: the ranges that they tell, and what they keep.
use Rattle.std.specs.Prelude.{◌≡◌, ℕ, ◌<◌, ◌≤◌, false, List, [], ◌∷◌, map, length, replicate, Some, None, Ok, Err, Option, Result, slice_index, slice_index_or, slice_set}
use Rattle.reading.specs.Ends.{Ends, ends, widest, is_widest}
use Rattle.store.specs.Stored.{used}
use Rattle.chain.specs.declared.record.Record.{Record}
use Rattle.chain.specs.declared.record.Between.{Between}
use Rattle.chain.specs.Links.{link, needed, floor, Within, Onward, Nearest, Apart}

-- the ranges of n cells: the widest but for those with a record
abbrev pub ranges_of : ℕ → List Record → List Ends
ranges_of n [] = replicate n widest
ranges_of n (r ∷ rs) = slice_set (ranges_of n rs) r.cell (ends r.range)

abbrev pub cells_of : List Record → List ℕ
cells_of rs = map (λ r. r.cell) rs

abbrev pub links_of : List Record → List (Option ℕ)
links_of rs = map (λ r. r.next) rs

-- no record holds the widest range
abbrev pub Narrow : List Record → Type 0
Narrow rs = (i : ℕ) (d : Record) → i < length rs → is_widest (ends (slice_index_or rs i d).range) ≡ false

-- as many records are in use as cells are not widest
abbrev pub Tally : ℕ → List Record → Type 0
Tally n rs = used (ranges_of n rs) ≡ length rs

-- what a chain of n cells keeps: links stay within the records in use, lead to larger cells until the chain ends, and skip no
-- record; no cell stands twice, none with a record is widest, and every cell that is not widest has one
pub record Kept (n : ℕ) (rs : List Record) (head : Option ℕ) : Type 0 where
  pub within : Within (cells_of rs) (links_of rs) head
  pub onward : Onward n (cells_of rs) (links_of rs) head
  pub nearest : Nearest n (cells_of rs) (links_of rs) head
  pub apart : Apart (cells_of rs)
  pub narrow : Narrow rs
  pub tally : Tally n rs

-- record i is of the cell k
abbrev pub Of : List Record → ℕ → ℕ → Type 0
Of rs k i = (i < length rs) × (slice_index (cells_of rs) i ≡ k)

-- a link leads beyond the cell k, or nowhere
abbrev pub Past : List Record → ℕ → Option ℕ → Type 0
Past rs k None = Unit {0}
Past rs k (Some i) = k < slice_index (cells_of rs) i

-- the cell k has no record, and belongs between an owner and what its link leads to
pub record Gap (rs : List Record) (head : Option ℕ) (k : ℕ) (before after : Option ℕ) : Type 0 where
  pub stands : needed before ≤ length rs
  pub leads : after ≡ link (links_of rs) head before
  pub low : floor (cells_of rs) before ≤ k
  pub high : Past rs k after

-- what a walk along the links finds of the cell k
abbrev pub Sought : List Record → Option ℕ → ℕ → Result ℕ Between → Type 0
Sought rs head k (Ok i) = Of rs k i
Sought rs head k (Err b) = Gap rs head k b.before b.after
