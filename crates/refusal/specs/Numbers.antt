-- The number of each refusal.
use Rattle.std.specs.Prelude.{ℕ}
use Rattle.refusal.specs.declared.Refusal.{Refusal}
use Rattle.refusal.specs.declared.Refusal.TheVariants.{OutsideLimits, NoSuchPlace, NoSuchStep, TooLarge, PipesFull, NoSuchCode, NoSuchRow, NoSuchChannel, NoInterval, RowsFull, OtherCells, NoSuchCell, NoRange, NotInside, StoreFull, NoRow, ShortBoard, ShortWork, NotExact, NoLetter, Misspelt, OutOfPlace}

abbrev pub number : Refusal → ℕ
number OutsideLimits = 1
number NoSuchPlace = 2
number NoSuchStep = 3
number TooLarge = 4
number PipesFull = 5
number NoSuchCode = 6
number NoSuchRow = 7
number NoSuchChannel = 8
number NoInterval = 9
number RowsFull = 10
number OtherCells = 11
number NoSuchCell = 12
number NoRange = 13
number NotInside = 15
number StoreFull = 16
number NoRow = 19
number ShortBoard = 20
number ShortWork = 21
number (NotExact cell) = 22
number NoLetter = 23
number Misspelt = 24
number OutOfPlace = 25
