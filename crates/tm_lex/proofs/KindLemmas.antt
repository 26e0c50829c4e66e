-- What a test of a token's kind tells, and a choice that gave something.
use Rattle.std.proofs.Common.{◌≡◌, Bool, cond, true, false, Option, Some, None, refl, sym, true≢false}
use Rattle.tm_lex.specs.Lines.{is_word, is_raw, is_line_end}
use Rattle.tm_lex.specs.declared.token.TokenKind.{TokenKind}
use Rattle.tm_lex.specs.declared.token.TokenKind.TheVariants.{Word, Raw, LineEnd}

pub if_some : {A : Type 0} (b : Bool) (o : Option A) (a : A) → cond b o None ≡ Some a → (b ≡ true) × (o ≡ Some a)
if_some true o a h = (refl, h)
if_some false o a h = absurd (cc)

pub word_is : (k : TokenKind) → is_word k ≡ true → k ≡ Word
word_is Word h = refl
word_is Raw h = absurd (true≢false (sym h))
word_is LineEnd h = absurd (true≢false (sym h))

pub raw_is : (k : TokenKind) → is_raw k ≡ true → k ≡ Raw
raw_is Word h = absurd (true≢false (sym h))
raw_is Raw h = refl
raw_is LineEnd h = absurd (true≢false (sym h))

pub end_is : (k : TokenKind) → is_line_end k ≡ true → k ≡ LineEnd
end_is Word h = absurd (true≢false (sym h))
end_is Raw h = absurd (true≢false (sym h))
end_is LineEnd h = refl
