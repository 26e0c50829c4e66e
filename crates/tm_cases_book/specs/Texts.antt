-- Texts of files of cases: by name, as words and as they are shown. Source: this project.
use Rattle.std.specs.Prelude.{ℕ, ◌^◌, ◌&&◌, ◌==◌, nat_lt, nat_le, if◌then◌else◌}
use Rattle.std.specs.Prelude.{List, [], ◌∷◌, ◌++◌, codes}
use Rattle.std.specs.List.{flat_map}
use Rattle.std.specs.Result.{result_unwrap_or}
use Rattle.std.specs.Str.{bytes_eq}
use Rattle.tm_base.specs.Numbers.{number_of, hex_text}
use Rattle.tm_cases_book.specs.declared.book.Entry.{Entry}

-- the text of the first entry of this name, empty where there is none
abbrev pub text_of : List Entry → List ℕ → List ℕ
text_of [] name = []
text_of (e ∷ es) name = if bytes_eq e.name name then e.text else text_of es name

-- the number of a word, 0 where it isn't one
abbrev pub number_in : List ℕ → ℕ
number_in word = result_unwrap_or (number_of word) 0

-- the number of a word below 2^32, 0 where it isn't one
abbrev pub small_in : List ℕ → ℕ
small_in word = if nat_lt (number_in word) (2 ^ 32) then number_in word else 0

-- a byte as a file of cases writes it: itself where it is visible or a blank, but for the backslash
abbrev pub shown_byte : ℕ → List ℕ
shown_byte b =
    if b == 10 then codes "\\n"
    else if b == 9 then codes "\\t"
    else if b == 13 then codes "\\r"
    else if b == 92 then codes "\\\\"
    else if nat_le 32 b && nat_le b 126 then b ∷ []
    else codes "\\x" ++ hex_text 2 b

-- bytes as a file of cases writes them
unfoldable pub shown : List ℕ → List ℕ
shown bytes = flat_map shown_byte bytes
