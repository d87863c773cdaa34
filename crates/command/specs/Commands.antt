-- What each line of a job asks for. A byte is a number.
use Rattle.std.specs.Prelude.{ℕ, Bool, cond, if◌then◌else◌, ◌||◌, List, [], ◌∷◌, length, is_some, Some, None, Ok, Err, Option, Result, option_and_then, ◌==◌, nat_le, slice_index_or}
use Rattle.std.specs.List.{list_all}
use Rattle.std.specs.Option.{option_map}
use Rattle.refusal.specs.declared.Refusal.{Refusal}
use Rattle.refusal.specs.declared.Refusal.TheVariants.{NoLetter, Misspelt, OutOfPlace}
use Rattle.plan.specs.declared.statement.Statement.{Statement}
use Rattle.plan.specs.declared.statement.Statement.TheVariants.{AtLeast, Not, And, Or, Until, Since, Reach, Yes}
use Rattle.plan.specs.declared.statement.Window.{Window}
use Rattle.line.specs.Line.{Field, misspelt, natural, integer, fields, number, minus}
use Rattle.command.specs.declared.part.Part.{Part}
use Rattle.command.specs.declared.part.Part.TheVariants.{Blank, Drafting, Sealed}
use Rattle.command.specs.declared.sheet.SheetKind.{SheetKind}
use Rattle.command.specs.declared.sheet.SheetKind.TheVariants.{YesNo, Margin, YesNoSpan, MarginSpan}
use Rattle.command.specs.declared.sheet.MeasureName.{MeasureName}
use Rattle.command.specs.declared.sheet.MeasureName.TheVariants.{Hops, Lengths, Drops}
use Rattle.command.specs.declared.command.Command.{Command}
use Rattle.command.specs.declared.command.Command.TheVariants.{Open, LayPipe, WriteRow, Seal, Enter, DrawSheet}

infixl 10 ◌>>=◌
-- what a value leads to, where there is one
abbrev pub ◌>>=◌ : {A B : Type 0} → Option A → (A → Option B) → Option B
o >>= f = option_and_then f o

-- the field at an index from 0; past the last there is none that is well spelt
abbrev pub at : List Field → ℕ → Field
at fs i = slice_index_or fs i misspelt

-- The rows. A field is a natural number, but for those that may be negative.

-- channel k, where k may be negative
abbrev pub at_least_row : List Field → Option Statement
at_least_row fs =
    if length fs == 2 then (do
      channel ← natural (at fs 0)
      limit ← integer (at fs 1)
      Some (AtLeast channel limit))
    else None

-- r
abbrev pub not_row : List Field → Option Statement
not_row fs =
    if length fs == 1 then (do
      r ← natural (at fs 0)
      Some (Not r))
    else None

-- r s
abbrev pub row_pair : List Field → Option (ℕ × ℕ)
row_pair fs =
    if length fs == 2 then (do
      r ← natural (at fs 0)
      s ← natural (at fs 1)
      Some (r, s))
    else None

-- r s a b
abbrev pub row_window : List Field → Option Window
row_window fs =
    if length fs == 4 then (do
      r ← natural (at fs 0)
      s ← natural (at fs 1)
      a ← natural (at fs 2)
      b ← natural (at fs 3)
      Some (record { hold = r; goal = s; from = a; upto = b }))
    else None

-- an upper distance, which a lone minus leaves out
abbrev pub upper : Field → Option (Option ℕ)
upper (number z) = option_map Some (natural (number z))
upper minus = Some None
upper misspelt = None

-- r s d1 d2
abbrev pub reach_row : List Field → Option Statement
reach_row fs =
    if length fs == 4 then (do
      r ← natural (at fs 0)
      s ← natural (at fs 1)
      a ← natural (at fs 2)
      b ← upper (at fs 3)
      Some (Reach r s (record { from = a; upto = b })))
    else None

-- no fields
abbrev pub yes_row : List Field → Option Statement
yes_row fs = if length fs == 0 then Some Yes else None

-- whether each is a number, negative or not
abbrev pub numbers : List Field → Bool
numbers = list_all (λ f. is_some (integer f))

-- the row of a code and of the fields after it: none where the code names no statement, and any numbers follow it
abbrev pub coded : ℕ → List Field → Option (Option Statement)
coded code fs =
    cond (code == 1) (option_map Some (at_least_row fs))
    (cond (code == 2) (option_map Some (not_row fs))
    (cond (code == 3) (option_map (λ p. Some (And p.0 p.1)) (row_pair fs))
    (cond (code == 4) (option_map (λ p. Some (Or p.0 p.1)) (row_pair fs))
    (cond (code == 5) (option_map (λ w. Some (Until w)) (row_window fs))
    (cond (code == 6) (option_map (λ w. Some (Since w)) (row_window fs))
    (cond (code == 7) (option_map Some (reach_row fs))
    (cond (code == 9) (option_map Some (yes_row fs))
    (cond (numbers fs) (Some None) None))))))))

-- the row of a code, which is not negative, and its fields
abbrev pub written : List Field → Option (Option Statement)
written [] = None
written (f ∷ fs) = natural f >>= (λ code. coded code fs)

-- The commands.

-- O places steps channels
abbrev pub opening : List Field → Option Command
opening fs =
    if length fs == 3 then (do
      places ← natural (at fs 0)
      steps ← natural (at fs 1)
      channels ← natural (at fs 2)
      Some (Open (record { places = places; steps = steps; channels = channels })))
    else None

-- P from to length drop first last
abbrev pub laying : List Field → Option Command
laying fs =
    if length fs == 6 then (do
      from ← natural (at fs 0)
      to ← natural (at fs 1)
      long ← natural (at fs 2)
      drop ← natural (at fs 3)
      first ← natural (at fs 4)
      last ← natural (at fs 5)
      Some (LayPipe (record { from = from; to = to; length = long; drop = drop; first = first; last = last })))
    else None

-- R code fields
abbrev pub writing : List Field → Option Command
writing fs = option_map (λ row. WriteRow row) (written fs)

-- S
abbrev pub sealing : List Field → Option Command
sealing fs = if length fs == 0 then Some Seal else None

-- E channel place step low high, where low and high may be negative
abbrev pub entering : List Field → Option Command
entering fs =
    if length fs == 5 then (do
      channel ← natural (at fs 0)
      place ← natural (at fs 1)
      step ← natural (at fs 2)
      low ← integer (at fs 3)
      high ← integer (at fs 4)
      Some (Enter (record { channel = channel; place = place; step = step; low = low; high = high })))
    else None

-- the measure of a number
abbrev pub measured : ℕ → Option MeasureName
measured n =
    cond (n == 1) (Some Hops)
    (cond (n == 2) (Some Lengths)
    (cond (n == 3) (Some Drops)
    None))

-- what is there, or that it is misspelt
abbrev pub or_misspelt : {A : Type 0} → Option A → Result A Refusal
or_misspelt None = Err Misspelt
or_misspelt (Some a) = Ok a

-- a measure after the letter of a kind of sheet
abbrev pub drawing : SheetKind → List Field → Option Command
drawing kind fs =
    if length fs == 1 then (do
      n ← natural (at fs 0)
      measure ← measured n
      Some (DrawSheet kind measure))
    else None

-- the command of a letter, here by its code, and of the fields after it
abbrev pub said : ℕ → List Field → Option Command
said letter fs =
    cond (letter == 79) (opening fs)  -- O
    (cond (letter == 80) (laying fs)  -- P
    (cond (letter == 82) (writing fs)  -- R
    (cond (letter == 83) (sealing fs)  -- S
    (cond (letter == 69) (entering fs)  -- E
    (cond (letter == 121) (drawing YesNo fs)  -- y
    (cond (letter == 109) (drawing Margin fs)  -- m
    (cond (letter == 89) (drawing YesNoSpan fs)  -- Y
    (cond (letter == 77) (drawing MarginSpan fs)  -- M
    None))))))))

-- the letters are O P R S E y m Y M
abbrev pub known : ℕ → Bool
known b =
    (b == 79) || b == 80 || b == 82 || b == 83 || b == 69 || b == 121 || b == 109 || b == 89 || b == 77

-- O belongs in a blank job, P, R and S in drafting, and E, y, m, Y and M in a sealed one
abbrev pub belongs : Part → ℕ → Bool
belongs Blank b = b == 79
belongs Drafting b = b == 80 || b == 82 || b == 83
belongs Sealed b = b == 69 || b == 121 || b == 109 || b == 89 || b == 77

-- at most 80 bytes: a letter and its fields
abbrev pub spelt : ℕ → List ℕ → Option Command
spelt b bs = if nat_le (length (b ∷ bs)) 80 then fields bs >>= said b else None

-- a command that is well spelt, where its letter belongs
abbrev pub placed : Part → ℕ → Option Command → Result Command Refusal
placed part b None = Err Misspelt
placed part b (Some c) = cond (belongs part b) (Ok c) (Err OutOfPlace)

-- what a line asks for: its letter is looked at first, then its spelling, then its place
abbrev pub command : Part → List ℕ → Result Command Refusal
command part [] = Err NoLetter
command part (b ∷ bs) = cond (known b) (placed part b (spelt b bs)) (Err NoLetter)
