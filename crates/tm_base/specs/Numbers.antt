-- The numbers of all texts, as they are read and printed.
use Rattle.std.specs.Prelude.{ℕ, zero, suc, ◌+◌, ◌*◌, ◌/◌, ◌%◌, ◌^◌, ◌==◌, not, nat_eq, nat_lt, if◌then◌else◌, List}
use Rattle.std.specs.Prelude.{[], ◌∷◌, ◌++◌, length, drop, position, Option, Some, None, Result, Ok, Err, codes}
use Rattle.std.specs.List.{starts_with}
use Rattle.std.specs.Char.{is_digit, digit_value, digit_char}
use Rattle.std.specs.Fmt.{decimal}
use Rattle.tm_base.specs.declared.Pos.{Pos}
use Rattle.tm_base.specs.declared.numbers.NumberFault.{NumberFault}
use Rattle.tm_base.specs.declared.numbers.NumberFault.TheVariants.{Empty, BadDigit, TooLarge}

-- what digits stand for in a base: each counts by the number of digits after it
unfoldable pub place_value : ℕ → List ℕ → ℕ
place_value base [] = 0
place_value base (b ∷ bs) = digit_value b * base ^ length bs + place_value base bs

-- the number that digits write, where it is a u64
unfoldable pub value_of : ℕ → List ℕ → Result ℕ NumberFault
value_of base digits =
    if nat_lt (place_value base digits) (2 ^ 64) then Ok (place_value base digits) else Err TooLarge

-- the reading of digits that begin at a place: the first byte that is none is at fault
unfoldable pub reading_at : ℕ → ℕ → List ℕ → Option ℕ → Result ℕ NumberFault
reading_at from base digits (Some p) = Err (BadDigit (from + p))
reading_at from base digits None = value_of base digits

-- the reading of digits of a base that begin at a place: none at all is a fault of its own
unfoldable pub digits_reading : ℕ → ℕ → List ℕ → Result ℕ NumberFault
digits_reading from base digits =
    if length digits == 0 then Err Empty
    else reading_at from base digits (position (λ b. not (is_digit b base)) digits)

-- the number that a text writes: decimal digits, or `0x` and hexadecimal digits of either case
unfoldable pub number_of : List ℕ → Result ℕ NumberFault
number_of text =
    if starts_with nat_eq text (codes "0x") then digits_reading 2 16 (drop 2 text) else digits_reading 0 10 text

-- the last n hexadecimal digits of a number
unfoldable pub hex_text : ℕ → ℕ → List ℕ
hex_text zero value = []
hex_text (suc n) value = digit_char (value / 16 ^ n % 16) ∷ hex_text n value

-- a place: line, colon, column
unfoldable pub pos_text : Pos → List ℕ
pos_text p = decimal p.line ++ codes ":" ++ decimal p.col
