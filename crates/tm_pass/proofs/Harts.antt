-- The harts of a text, one after another.
use Rattle.std.proofs.Common.{◌≡◌, ℕ, zero, suc, ◌+◌, ◌*◌, List, [], ◌∷◌, ◌++◌, flat_map, sym, ap, ap₂, ◌∙◌, arith}
use Rattle.std.proofs.Common.{append_assoc, append-nil}
use Rattle.std.proofs.lemmas.Grind.{flat_map-append}
use Rattle.tm_base.specs.Lists.{count_from}
use Rattle.tm_plan_cases.specs.declared.cases.Cases.{Cases}
use Rattle.tm_plan_cases.specs.declared.program.Marks.{Marks}
use Rattle.tm_plan_cases.specs.Shaped.{AreShaped}
use Rattle.tm_plan_map.specs.Map.{text_base}
use Rattle.tm_base.proofs.ListLemmas.{count_from-suc}
use Rattle.tm_pass_text.specs.Words.{Blocks, base_of, hart_size, streams_of, text_words}
use Rattle.tm_pass_text.specs.Hart.{blocks_of, words_of_hart}

-- a row of numbers more
pub rows-on : (row : ℕ → List ℕ) (n m : ℕ) → m ≡ suc n → flat_map row (count_from 0 m) ≡ flat_map row (count_from 0 n)
    ++ row n
rows-on row n m e =
    let z : 0 + n ≡ n = omega arith in
    ap (λ (k : ℕ). flat_map row (count_from 0 k)) e
    ∙ ap (flat_map row) (count_from-suc 0 n ∙ ap (λ (k : ℕ). count_from 0 n ++ k ∷ []) z)
    ∙ flat_map-append row (count_from 0 n) (n ∷ [])
    ∙ ap (λ (l : List ℕ). flat_map row (count_from 0 n) ++ l) (append-nil (row n))

-- marks are their four lists
pub same-marks : (m : Marks) (s e x h : List ℕ) → m.starts ≡ s → m.ends ≡ e → m.exits ≡ x → m.halts ≡ h
    → m ≡ record { starts = s; ends = e; exits = x; halts = h }
same-marks m s e x h p q r t =
    let one : m ≡ record { starts = s; ends = e; exits = m.exits; halts = m.halts } =
    ap₂ (λ (a b : List ℕ). record { starts = a; ends = b; exits = m.exits; halts = m.halts }) p q in
    one ∙ ap₂ (λ (a b : List ℕ). record { starts = s; ends = e; exits = a; halts = b }) r t

module _ (cases : Cases) (shaped : AreShaped cases) where
  abbrev B : ℕ → Blocks
  B = blocks_of cases

  abbrev size : ℕ → ℕ
  size h = hart_size (B h) (streams_of cases h)

  abbrev base : ℕ → ℕ
  base h = base_of B cases h

  text-more : (a n : ℕ) → text_words B cases a (suc n) (base a) ≡ text_words B cases a n (base a)
      ++ words_of_hart cases (a + n) (base (a + n))
  unfolding words_of_hart
  text-more a zero =
      let z : a ≡ a + 0 = omega arith in
      append-nil (words_of_hart cases a (base a)) ∙ ap (λ (h : ℕ). words_of_hart cases h (base h)) z
  text-more a (suc n) =
      let z : suc a + n ≡ a + suc n = omega arith in
      let on : base a + 4 * size a ≡ base (suc a) = omega arith in
      let one = words_of_hart cases a (base a) in
      let last = words_of_hart cases (a + suc n) (base (a + suc n)) in
      ap (λ (b : ℕ). one ++ text_words B cases (suc a) (suc n) b) on
      ∙ ap (λ (l : List ℕ). one ++ l) (text-more (suc a) n ∙ ap (λ (h : ℕ). text_words B cases (suc a) n (base (suc a))
      ++ words_of_hart cases h (base h)) z)
      ∙ sym (append_assoc one (text_words B cases (suc a) n (base (suc a))) last)
      ∙ ap (λ (b : ℕ). (one ++ text_words B cases (suc a) n b) ++ last) (sym on)

  -- the words of one more hart
  pub text-on : (n m : ℕ) → m ≡ suc n → text_words B cases 0 m text_base ≡ text_words B cases 0 n text_base
      ++ words_of_hart cases n (base n)
  text-on n m e =
      let z : 0 + n ≡ n = omega arith in
      let first : text_base ≡ base 0 = omega arith in
      ap₂ (λ (k b : ℕ). text_words B cases 0 k b) e first
      ∙ text-more 0 n
      ∙ ap (λ (b : ℕ). text_words B cases 0 n b ++ words_of_hart cases (0 + n) (base (0 + n))) (sym first)
      ∙ ap (λ (h : ℕ). text_words B cases 0 n text_base ++ words_of_hart cases h (base h)) z
