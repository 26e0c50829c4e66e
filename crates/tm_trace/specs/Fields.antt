-- The fields of a line, read one behind the other (this project's own).
use Rattle.std.specs.Prelude.{ℕ, ◌≡◌, ◌+◌, ◌*◌, ◌==◌, Bool, true, false, not, ◌&&◌, ◌||◌, nat_le, nat_lt, nat_eq}
use Rattle.std.specs.Prelude.{if◌then◌else◌}
use Rattle.std.specs.Prelude.{List, [], ◌∷◌, length, take, drop, codes, Option, Some, None, Result, Ok, Err}
use Rattle.std.specs.Borrow.{Bor}
use Rattle.std.specs.Char.{digit_value}
use Rattle.std.specs.List.{list_all, prefix_len, starts_with}
use Rattle.tm_base.specs.Numbers.{number_of}
use Rattle.tm_base.specs.declared.numbers.NumberFault.{NumberFault}
use Rattle.tm_trace.specs.declared.fields.TheConstants.{DECIMAL_END}
use Rattle.tm_trace.specs.declared.line.Place.{Place}
use Rattle.tm_trace.specs.declared.line.Touch.{Touch}
use Rattle.tm_trace.specs.declared.line.Touch.TheVariants.{Nothing, Reads, Writes}
use Rattle.tm_trace.specs.declared.line.Line.{Line}

-- what was read of bytes, with those behind it, if it stands there
abbrev pub Field : Type 0 → Type 0
Field A = Option (A × List ℕ)

infixl 10 ◌>>=◌
-- what is read of the bytes behind, if there was what is read first
abbrev pub ◌>>=◌ : {A B : Type 0} → Field A → (A → List ℕ → Field B) → Field B
(Some p) >>= f = f p.0 p.1
None >>= f = None

-- these bytes
unfoldable pub word_field : List ℕ → List ℕ → Field (Unit {0})
word_field w bs = if starts_with nat_eq bs w then Some (tt, drop (length w) bs) else None

-- 0 to 9
abbrev pub is_decimal : ℕ → Bool
is_decimal b = nat_le 48 b && nat_le b 57

-- digits of a number: some, and no zero before others
abbrev pub are_plain : List ℕ → Bool
are_plain [] = false
are_plain (d ∷ []) = true
are_plain (d ∷ e ∷ ds) = not (d == 48)

-- a number of at most nine digits, with the bytes behind it
abbrev pub numbered : Result ℕ NumberFault → List ℕ → Field ℕ
numbered (Ok n) rest = if nat_lt n DECIMAL_END then Some (n, rest) else None
numbered (Err e) rest = None

-- a decimal number: all digits that stand next
unfoldable pub decimal_field : List ℕ → Field ℕ
decimal_field bs =
    if are_plain (take (prefix_len is_decimal bs) bs)
    then numbered (number_of (take (prefix_len is_decimal bs) bs)) (drop (prefix_len is_decimal bs) bs) else None

-- 0 to 9 and a to f
abbrev pub is_hex : ℕ → Bool
is_hex b = is_decimal b || (nat_le 97 b && nat_le b 102)

-- what hexadecimal digits stand for, behind those that were read before
abbrev pub hex_from : ℕ → List ℕ → ℕ
hex_from value [] = value
hex_from value (b ∷ bs) = hex_from (value * 16 + digit_value b) bs

-- so many hexadecimal digits
unfoldable pub hex_field : (digits : ℕ) → List ℕ → Field ℕ
hex_field n bs =
    if nat_le n (length bs) && list_all is_hex (take n bs) then Some (hex_from 0 (take n bs), drop n bs) else None

-- ---- lines

-- a number behind these bytes
abbrev pub hex_behind : List ℕ → (digits : ℕ) → List ℕ → Field ℕ
hex_behind w n bs = word_field w bs >>= (λ _ rest. hex_field n rest)

-- a decimal number behind these bytes
abbrev pub decimal_behind : List ℕ → List ℕ → Field ℕ
decimal_behind w bs = word_field w bs >>= (λ _ rest. decimal_field rest)

-- where an access reads or writes, and what
unfoldable pub place_field : List ℕ → Field Place
place_field bs = hex_field 16 bs >>= (λ addr rest. decimal_behind (codes " ") rest >>= (λ width rest.
    hex_behind (codes " ") 16 rest >>= (λ value rest.
    Some (record { addr = addr; width = width; value = value }, rest))))

-- what was read of an access that has a place
abbrev pub touching : (Place → Touch) → Field Place → Field Touch
touching which (Some p) = Some (which p.0, p.1)
touching which None = None

-- an access, by its first byte
unfoldable pub touch_field : List ℕ → Field Touch
touch_field bs =
    if starts_with nat_eq bs (codes "-") then Some (Nothing, drop 1 bs)
    else if starts_with nat_eq bs (codes "r ") then touching Reads (place_field (drop 2 bs))
    else if starts_with nat_eq bs (codes "w ") then touching Writes (place_field (drop 2 bs)) else None

-- the rest of an event's line, behind the blank after its word
abbrev pub line_end : (hart pc word : ℕ) → List ℕ → Field Line
line_end hart pc word bs = touch_field bs >>= (λ touch rest. word_field (codes "\n") rest >>= (λ _ rest.
    Some (record { hart = hart; pc = pc; word = word; touch = touch }, rest)))

-- the rest of an event's line, behind its hart
abbrev pub behind_hart : (hart : ℕ) → List ℕ → Field Line
behind_hart hart bs = hex_behind (codes " ") 16 bs >>= (λ pc rest. hex_behind (codes " ") 8 rest >>= (λ word rest.
    word_field (codes " ") rest >>= (λ _ rest. line_end hart pc word rest)))

-- the line of an event
unfoldable pub line_field : List ℕ → Field Line
line_field bs = decimal_field bs >>= behind_hart

-- the first line, with the numbers of harts and events
unfoldable pub head_field : List ℕ → Field (ℕ × ℕ)
head_field bs = decimal_behind (codes "trace 1 harts ") bs >>= (λ harts rest. decimal_behind (codes " events ") rest >>=
    (λ events rest. word_field (codes "\n") rest >>= (λ _ rest. Some ((harts, events), rest))))

-- ---- what the steps of the code are

-- this was read of bytes, with those behind it; or it doesn't stand there
abbrev pub IsField : {A : Type 0} → Field A → Option (A × Bor (List ℕ)) → Type 0
IsField read (Some r) = read ≡ Some (r.0, r.1.now)
IsField read None = read ≡ None

-- the same of what has no value of its own
abbrev pub IsPassed : Field (Unit {0}) → Option (Bor (List ℕ)) → Type 0
IsPassed read (Some r) = read ≡ Some (tt, r.now)
IsPassed read None = read ≡ None
