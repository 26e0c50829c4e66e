-- Each reader of a token reads exactly what stands for a piece of its kind.
use Rattle.std.proofs.Common.{◌≡◌, ◌<◌, ℕ, ◌^◌, Bool, true, false, cond, not, nat_lt, List, [], codes, Option, None}
use Rattle.std.proofs.Common.{Some, Result, Ok, Err, refl, sym, ap, subst, arith, inl, inr, ◌&&◌, ◌⊎◌}
use Rattle.std.specs.Str.{bytes_eq}
use Rattle.std.specs.Fmt.{decimal}
use Rattle.std.proofs.lemmas.Bool.{and_parts, cases_Bool, true≢false}
use Rattle.std.proofs.lemmas.Bool.Decides.{nat_tests}
use Rattle.std.proofs.lemmas.Option.{same_Some}
use Rattle.std.proofs.lemmas.Slice.Eq.{bytes_eq-Decides}
use Rattle.tm_base.specs.Numbers.{number_of}
use Rattle.tm_base.specs.declared.numbers.NumberFault.{NumberFault}
use Rattle.tm_base.proofs.PrintLemmas.{decimal_reads_back}
use Rattle.tm_lex.specs.declared.token.TokenKind.{TokenKind}
use Rattle.tm_lex.specs.declared.token.TokenKind.TheVariants.{Word, Raw, LineEnd}
use Rattle.tm_lex.specs.Lines.{Lexeme, is_word, is_raw, is_line_end, keyword, is_name, name, small_number, number}
use Rattle.tm_lex.specs.Lines.{line_end}
use Rattle.tm_tmpl_types.specs.declared.template.Want.{Want}
use Rattle.tm_tmpl_types.specs.declared.template.Want.TheVariants as want
use Rattle.tm_tmpl_types.specs.declared.template.Kind.{Kind}
use Rattle.tm_tmpl_types.specs.declared.template.Kind.TheVariants.{True, False, Own}
use Rattle.tm_tmpl_line.specs.declared.words.Whom.{Whom}
use Rattle.tm_tmpl_line.specs.declared.words.Whom.TheVariants as whose
use Rattle.tm_tmpl_line.specs.Readings.{kind, whom, asm}
use Rattle.tm_tmpl_line.specs.Pieces.{Piece, fixed, a_name, a_number, asm_line, the_end, want_of, kind_word, Fits}
use Rattle.tm_lex.proofs.KindLemmas.{word_is, raw_is, end_is, if_some}

-- a reader of one token, the pieces that it reads, and one that some token stands for
pub record Reads (A : Type 0) (w : Want) (read : Lexeme → Option A) (piece : A → Piece) : Type 0 where
  pub fits : (x : Lexeme) (a : A) → read x ≡ Some a → Fits (piece a) x
  pub reads : (x : Lexeme) (a : A) → Fits (piece a) x → read x ≡ Some a
  pub wants : (a : A) → want_of (piece a) ≡ w
  pub value : A
  pub sample : Lexeme
  pub sample_fits : Fits (piece value) sample

-- a token of a kind, with its bytes
abbrev pub token_of : TokenKind → List ℕ → Lexeme
token_of k bytes = (record { kind = k; at = record { line = 1; col = 1 }; from = 0; to = 0 }, bytes)

-- ---- tests

if_not : {A : Type 0} (b : Bool) (o : Option A) (a : A) → cond (not b) None o ≡ Some a → (b ≡ true) × (o ≡ Some a)
if_not true o a h = (refl, h)
if_not false o a h = absurd (cc)

-- one of several words, each with its value
one_word : {A : Type 0} (w v : List ℕ) (a b : A) (o : Option A) → cond (bytes_eq w v) (Some a) o ≡ Some b
    → ((w ≡ v) × (a ≡ b)) ⊎ (o ≡ Some b)
one_word w v a b o h = elim (cases_Bool (bytes_eq w v)) [
  | inl here ↦ inl ((bytes_eq-Decides w v).0 here, same_Some _ _ (rw here at h))
  | inr other ↦ inr (rw other at h)
]

-- ---- the readers

pub name-reads : Reads (List ℕ) want.Name name a_name
name-reads = record {
  fits = λ x n h.
      let found = if_some (is_word x.0.kind && is_name x.1) (Some x.1) n h in
      let tests = and_parts (is_word x.0.kind) (is_name x.1) found.0 in
      let same : x.1 ≡ n = same_Some _ _ found.1 in
      (word_is x.0.kind tests.0, same, subst (λ v. is_name v ≡ true) same tests.1);
  reads = λ x n h. rw (h.0, h.1, h.2);
  wants = λ n. refl;
  value = codes "a";
  sample = token_of Word (codes "a");
  sample_fits = (refl, refl, refl);
}

small : (r : Result ℕ NumberFault) (n : ℕ) → small_number r ≡ Some n → (r ≡ Ok n) × (n < 2 ^ 32)
small (Err e) n h = absurd (cc)
small (Ok m) n h =
    let found = if_some (nat_lt m (2 ^ 32)) (Some m) n h in
    let same : m ≡ n = same_Some _ _ found.1 in
    let below : m < 2 ^ 32 = (let test = found.0 in grind (arith, nat_tests)) in
    (ap Ok same, rw (← same) below)

below_test : (n : ℕ) → n < 2 ^ 32 → nat_lt n (2 ^ 32) ≡ true
below_test n h = grind (arith, nat_tests)

pub number-reads : Reads ℕ want.Number number a_number
number-reads = record {
  fits = λ x n h.
      let found = if_some (is_word x.0.kind) (small_number (number_of x.1)) n h in
      let value = small (number_of x.1) n found.1 in
      (word_is x.0.kind found.0, value.0, value.1);
  reads = λ x n h. rw (h.0, h.1, below_test n h.2);
  wants = λ n. refl;
  value = 0;
  sample = token_of Word (decimal 0);
  sample_fits = (refl, decimal_reads_back 0 (omega arith), omega arith);
}

kind_fits : (x : Lexeme) (k : Kind) → kind x ≡ Some k → Fits (fixed want.Kind (kind_word k)) x
kind_fits x k h =
    let found = if_not (is_word x.0.kind) _ k h in (
      word_is x.0.kind found.0,
      elim (one_word x.1 (codes "true") True k _ found.1) [
        | inl here ↦ rw (here.0, ← here.1)
        | inr more ↦ elim (one_word x.1 (codes "false") False k _ more) [
          | inl here ↦ rw (here.0, ← here.1)
          | inr last ↦ elim (one_word x.1 (codes "own") Own k None last) [
            | inl here ↦ rw (here.0, ← here.1)
            | inr none ↦ absurd (cc)
          ]
        ]
      ],
    )

kind_reads : (x : Lexeme) (k : Kind) → Fits (fixed want.Kind (kind_word k)) x → kind x ≡ Some k
kind_reads x True h = rw (h.0, h.1)
kind_reads x False h = rw (h.0, h.1)
kind_reads x Own h = rw (h.0, h.1)

pub kind-reads : Reads Kind want.Kind kind (λ k. fixed want.Kind (kind_word k))
kind-reads = record {
  fits = kind_fits;
  reads = kind_reads;
  wants = λ k. refl;
  value = True;
  sample = token_of Word (codes "true");
  sample_fits = (refl, refl);
}

-- the word that says whom a body is for
abbrev pub whom_word : Whom → List ℕ
whom_word whose.All = codes "all"
whom_word whose.Hart = codes "hart"
whom_word whose.Core = codes "core"
whom_word whose.Thread = codes "thread"

whom_fits : (x : Lexeme) (k : Whom) → whom x ≡ Some k → Fits (fixed want.Selector (whom_word k)) x
whom_fits x k h =
    let found = if_not (is_word x.0.kind) _ k h in (
      word_is x.0.kind found.0,
      elim (one_word x.1 (codes "all") whose.All k _ found.1) [
        | inl here ↦ rw (here.0, ← here.1)
        | inr more ↦ elim (one_word x.1 (codes "hart") whose.Hart k _ more) [
          | inl here ↦ rw (here.0, ← here.1)
          | inr further ↦ elim (one_word x.1 (codes "core") whose.Core k _ further) [
            | inl here ↦ rw (here.0, ← here.1)
            | inr last ↦ elim (one_word x.1 (codes "thread") whose.Thread k None last) [
              | inl here ↦ rw (here.0, ← here.1)
              | inr none ↦ absurd (cc)
            ]
          ]
        ]
      ],
    )

whom_reads : (x : Lexeme) (k : Whom) → Fits (fixed want.Selector (whom_word k)) x → whom x ≡ Some k
whom_reads x whose.All h = rw (h.0, h.1)
whom_reads x whose.Hart h = rw (h.0, h.1)
whom_reads x whose.Core h = rw (h.0, h.1)
whom_reads x whose.Thread h = rw (h.0, h.1)

pub whom-reads : Reads Whom want.Selector whom (λ k. fixed want.Selector (whom_word k))
whom-reads = record {
  fits = whom_fits;
  reads = whom_reads;
  wants = λ k. refl;
  value = whose.All;
  sample = token_of Word (codes "all");
  sample_fits = (refl, refl);
}

pub keyword-reads : (w : List ℕ) → Reads (Unit {0}) want.Class (keyword w) (λ _. fixed want.Class w)
keyword-reads w = record {
  fits = λ x u h.
      let found = if_some (is_word x.0.kind && bytes_eq x.1 w) (Some tt) u h in
      let tests = and_parts (is_word x.0.kind) (bytes_eq x.1 w) found.0 in
      (word_is x.0.kind tests.0, (bytes_eq-Decides x.1 w).0 tests.1);
  reads = λ x u h. rw (h.0, h.1, (bytes_eq-Decides w w).1 refl);
  wants = λ u. refl;
  value = tt;
  sample = token_of Word w;
  sample_fits = (refl, refl);
}

pub asm-reads : Reads (List ℕ) want.Asm asm asm_line
asm-reads = record {
  fits = λ x a h. let found = if_some (is_raw x.0.kind) (Some x.1) a h in
      (raw_is x.0.kind found.0, same_Some _ _ found.1);
  reads = λ x a h. rw (h.0, h.1);
  wants = λ a. refl;
  value = codes "a";
  sample = token_of Raw (codes "a");
  sample_fits = (refl, refl);
}

pub end-reads : Reads (Unit {0}) want.LineEnd line_end (λ _. the_end)
end-reads = record {
  fits = λ x u h. end_is x.0.kind (if_some (is_line_end x.0.kind) (Some tt) u h).0;
  reads = λ x u h. rw h;
  wants = λ u. refl;
  value = tt;
  sample = token_of LineEnd [];
  sample_fits = refl;
}
