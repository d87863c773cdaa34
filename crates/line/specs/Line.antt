-- What a text says: its lines, the words of a line, and the numbers that words write. A byte is a number.
use Rattle.std.specs.Prelude.{ℕ, ◌+◌, ◌-◌, ◌*◌, ◌^◌, Bool, true, false, cond, not, ◌&&◌, List, [], ◌∷◌, map, length, ℤ, pos, negsuc, neg_ℤ, Some, None, Option, ◌==◌, nat_le}
use Rattle.std.specs.List.{list_all, slice_split, onto_first}
use Rattle.line.specs.declared.token.Token.{Token}
use Rattle.line.specs.declared.token.Token.TheVariants.{Number, Minus}

-- a line feed (10) ends a line, and the last line may lack it
abbrev pub lines : List ℕ → List (List ℕ)
lines [] = []
lines (b ∷ bs) = cond (b == 10) ([] ∷ lines bs) (onto_first b (lines bs))

-- a space (32) stands between two words, which may be empty
abbrev pub words : List ℕ → List (List ℕ)
words = slice_split (λ b. b == 32)

-- what a word says
pub data Field : Type 0 where
  number : ℤ → Field
  minus : Field
  misspelt : Field

-- 48 is '0' and 57 is '9'
abbrev pub digit : ℕ → Bool
digit b = nat_le 48 b && nat_le b 57

abbrev pub digits : List ℕ → Bool
digits = list_all digit

-- the number that digits write, each with the weight of its place
abbrev pub decimal : List ℕ → ℕ
decimal [] = 0
decimal (d ∷ ds) = (d - 48) * 10 ^ length ds + decimal ds

-- no 0 before other digits, and no -0
abbrev pub unpadded : Bool → List ℕ → Bool
unpadded negative [] = true
unpadded negative (d ∷ []) = not (d == 48 && negative)
unpadded negative (d ∷ e ∷ ds) = not (d == 48)

-- one to seven digits, well spelt after a minus or without one
abbrev pub well : Bool → List ℕ → Bool
well negative ds = nat_le 1 (length ds) && nat_le (length ds) 7 && digits ds && unpadded negative ds

abbrev pub signed : Bool → ℕ → ℤ
signed true n = neg_ℤ (pos n)
signed false n = pos n

abbrev pub numeral : Bool → List ℕ → Field
numeral negative ds = cond (well negative ds) (number (signed negative (decimal ds))) misspelt

-- what follows a minus (45): nothing, or digits
abbrev pub after_minus : List ℕ → Field
after_minus [] = minus
after_minus (d ∷ ds) = numeral true (d ∷ ds)

abbrev pub field : List ℕ → Field
field [] = misspelt
field (b ∷ bs) = cond (b == 45) (after_minus bs) (numeral false (b ∷ bs))

-- the fields after a line's letter, each after a single space
abbrev pub fields : List ℕ → Option (List Field)
fields [] = Some []
fields (b ∷ bs) = cond (b == 32) (Some (map field (words bs))) None

abbrev pub integer : Field → Option ℤ
integer (number z) = Some z
integer minus = None
integer misspelt = None

abbrev pub natural : Field → Option ℕ
natural (number (pos n)) = Some n
natural (number (negsuc n)) = None
natural minus = None
natural misspelt = None

-- a token says what its bytes say
abbrev pub token_field : Token → Field
token_field (Number negative ds) = numeral negative ds.now
token_field Minus = minus
