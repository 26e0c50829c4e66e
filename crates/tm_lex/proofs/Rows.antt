-- Worked rows of the definition, computed.
use Rattle.std.proofs.Common.{◌≡◌, ◌++◌, [], ◌∷◌, ℕ, Ok, Err, codes, refl}
use Rattle.tm_lex.specs.declared.token.TokenKind.{TokenKind}
use Rattle.tm_lex.specs.declared.token.TokenKind.TheVariants.{Word, Raw, LineEnd}
use Rattle.tm_lex.specs.declared.token.Token.{Token}
use Rattle.tm_lex.specs.declared.token.LexFault.TheVariants.{BadByte, LongWord}
use Rattle.tm_lex.specs.Lexing.{tokens_of, is_word, is_separator, words, spans, line_fault, line_tokens, lines_reading}

abbrev token : TokenKind → ℕ → ℕ → ℕ → ℕ → Token
token kind line col from to = record { kind = kind; at = record { line = line; col = col }; from = from; to = to }

two_lines : tokens_of (codes " passes\t2 # \u{1}\r\n\nemit addi x6, x5, 1 \r\n")
    ≡ Ok (token Word 1 2 1 7 ∷ token Word 1 9 8 9 ∷ token LineEnd 1 15 14 14 ∷ token Word 3 1 16 20
    ∷ token Raw 3 6 21 35 ∷ token LineEnd 3 22 37 37 ∷ [])
unfolding tokens_of lines_reading line_fault line_tokens spans words is_word is_separator
two_lines = refl

bad_byte : tokens_of (codes "template " ++ 7 ∷ []) ≡ Err (BadByte (record { line = 1; col = 10 }) 7)
unfolding tokens_of lines_reading line_fault line_tokens spans words is_word is_separator
bad_byte = refl

long_word : tokens_of (codes "\n abcdefghijklmnopabcdefghijklmnopabcdefghijklmnopabcdefghijklmnopq")
    ≡ Err (LongWord (record { line = 2; col = 2 }))
unfolding tokens_of lines_reading line_fault line_tokens spans words is_word is_separator
long_word = refl

emit_alone : tokens_of (codes "emit#") ≡ Ok (token Word 1 1 0 4 ∷ token LineEnd 1 6 5 5 ∷ [])
unfolding tokens_of lines_reading line_fault line_tokens spans words is_word is_separator
emit_alone = refl
