-- Where the words of each part stand in the text.
use Rattle.std.proofs.Common.{◌≡◌, ℕ, zero, suc, ◌+◌, ◌-◌, ◌*◌, ◌<◌, List, [], ◌∷◌, ◌++◌, length, refl, sym, ap, ◌∙◌}
use Rattle.std.proofs.Common.{subst, arith, length-append}
use Rattle.std.specs.Prelude.{slice_get, slice_index_or}
use Rattle.tm_plan_cases.specs.declared.cases.Cases.{Cases}
use Rattle.tm_plan_map.specs.Map.{private_at}
use Rattle.tm_table.specs.Words.{words_of}
use Rattle.tm_blocks_base.specs.Blocks.{constant}
use Rattle.tm_blocks_base.proofs.Lengths.{length-words_of, length-constant}
use Rattle.tm_pass_text.specs.Words.{Blocks, call, gate, aim, turn, before_size, behind_size, case_size, case_before}
use Rattle.tm_pass_text.specs.Words.{case_behind, back_words, case_words, cases_words, skip, opening_size, hart_size}
use Rattle.tm_pass_text.specs.Words.{hart_words, streams_of, text_words, place_of, base_of}

-- these stand in xs from place k on
abbrev pub Stands : {A : Type 0} → List A → ℕ → List A → Type 0
Stands xs k ys = (j : ℕ) → j < length ys → slice_get xs (k + j) ≡ slice_get ys j

get-before : {A : Type 0} (xs ys : List A) (j : ℕ) → j < length xs → slice_get (xs ++ ys) j ≡ slice_get xs j
get-before [] ys j l = absurd (omega arith)
get-before (x ∷ xs) ys zero l = refl
get-before (x ∷ xs) ys (suc j) l = get-before xs ys j (omega arith)

get-behind : {A : Type 0} (xs ys : List A) (j k : ℕ) → k ≡ length xs + j → slice_get (xs ++ ys) k ≡ slice_get ys j
get-behind [] ys j k e = ap (slice_get ys) (omega arith)
get-behind (x ∷ xs) ys j zero e = absurd (omega arith)
get-behind (x ∷ xs) ys j (suc k) e = get-behind xs ys j k (omega arith)

pub stands-at : {A : Type 0} (xs ys : List A) (k m : ℕ) → k ≡ m → Stands xs k ys → Stands xs m ys
stands-at xs ys k m e s j l = ap (λ (i : ℕ). slice_get xs (i + j)) (sym e) ∙ s j l

pub stands-left : {A : Type 0} (xs us vs : List A) (k : ℕ) → Stands xs k (us ++ vs) → Stands xs k us
stands-left xs us vs k s j l = s j (omega (arith, length-append us vs)) ∙ get-before us vs j l

pub stands-right : {A : Type 0} (xs us vs : List A) (k n : ℕ) → n ≡ k + length us → Stands xs k (us ++ vs)
    → Stands xs n vs
stands-right xs us vs k n e s j l =
    let f : n + j ≡ k + (length us + j) = omega arith in
    ap (slice_get xs) f ∙ (s (length us + j) (omega (arith, length-append us vs)) ∙ get-behind us vs j (length us + j)
    refl)

-- ---- lengths

pub length-before : (b : Blocks) (c d : ℕ) → length (case_before b c d) ≡ before_size b c
unfolding case_before
length-before b c d = omega (arith, length-append (b.first c) (call d ∷ b.load c))

pub length-behind : (b : Blocks) (passes c back d : ℕ) → length (case_behind b passes c back d) ≡ behind_size b c
unfolding case_behind
length-behind b passes c back d =
    omega (
      arith,
      length-append b.save (call d ∷ (aim ++ (b.collect ++ (turn passes back ++ b.compare c)))),
      length-append b.collect (turn passes back ++ b.compare c),
    )

pub length-case : (b : Blocks) (passes c : ℕ) (stream : List ℕ) (at barrier : ℕ)
    → length (case_words b passes c stream at barrier) ≡ case_size b c (length stream)
unfolding case_words
length-case b passes c stream at barrier =
    let d = barrier - (at + 4 * (1 + length (b.first c))) in
    let e = barrier - (at + 4 * (before_size b c + length stream + length b.save)) in
    let back = 4 * back_words b c (length stream) in
    let x = words_of (case_before b c d) in
    let y = words_of (case_behind b passes c back e) in
    omega (
      arith,
      length-append x (stream ++ y),
      length-append stream y,
      length-words_of (case_before b c d),
      length-words_of (case_behind b passes c back e),
      length-before b c d,
      length-behind b passes c back e,
    )

pub length-cases : (b : Blocks) (passes c : ℕ) (ss : List (List ℕ)) (at barrier : ℕ)
    → length (cases_words b passes c ss at barrier) ≡ skip b c ss (length ss)
length-cases b passes c [] at barrier = refl
length-cases b passes c (s ∷ ss) at barrier =
    omega (
      arith,
      length-append (case_words b passes c s at barrier)
          (cases_words b passes (suc c) ss (at + 4 * case_size b c (length s)) barrier),
      length-case b passes c s at barrier,
      length-cases b passes (suc c) ss (at + 4 * case_size b c (length s))
          barrier,
    )

pub length-hart : (b : Blocks) (passes : ℕ) (ss : List (List ℕ)) (h base : ℕ) → length (hart_words b passes ss h base)
    ≡ hart_size b ss
unfolding hart_words
length-hart b passes ss h base =
    let n = 4 * (hart_size b ss - 2) in
    let x = words_of (gate h n ++ constant 31 (private_at h)) in
    let y = cases_words b passes 0 ss (base + 4 * opening_size)
    (base + 4 * (opening_size + skip b 0 ss (length ss) + 1)) in
    let z = words_of b.barrier in
    omega (
      arith,
      length-append x (y ++ (0x0000006F ∷ z)),
      length-append y (0x0000006F ∷ z),
      length-words_of (gate h n ++ constant 31 (private_at h)),
      length-append (gate h n) (constant 31 (private_at h)),
      length-constant 31 (private_at h),
      length-cases b passes 0 ss (base + 4 * opening_size)
          (base + 4 * (opening_size + skip b 0 ss (length ss) + 1)),
      length-words_of b.barrier,
    )

-- ---- what stands where

pub case-stands : (xs : List ℕ) (b : Blocks) (passes c : ℕ) (ss : List (List ℕ)) (at barrier k i : ℕ) → i < length ss
    → Stands xs k (cases_words b passes c ss at barrier)
    → Stands xs (k + skip b c ss i) (case_words b passes (c + i) (slice_index_or ss i []) (at + 4 * skip b c ss i)
    barrier)
case-stands xs b passes c [] at barrier k i l s = absurd (omega arith)
case-stands xs b passes c (w ∷ ss) at barrier k zero l s =
    let e : k ≡ k + 0 = omega arith in
    let f : c ≡ c + 0 = omega arith in
    let g : at ≡ at + 4 * 0 = omega arith in
    stands-at xs (case_words b passes (c + 0) w (at + 4 * 0) barrier) k (k + 0) e
    (subst (λ (d : ℕ). Stands xs k (case_words b passes d w (at + 4 * 0) barrier)) f
    (subst (λ (a : ℕ). Stands xs k (case_words b passes c w a barrier)) g
    (stands-left xs (case_words b passes c w at barrier)
    (cases_words b passes (suc c) ss (at + 4 * case_size b c (length w)) barrier) k s)))
case-stands xs b passes c (w ∷ ss) at barrier k (suc i) l s =
    let size = case_size b c (length w) in
    let rest = stands-right xs (case_words b passes c w at barrier)
    (cases_words b passes (suc c) ss (at + 4 * size) barrier) k (k + size)
    (ap (λ (n : ℕ). k + n) (sym (length-case b passes c w at barrier))) s in
    let e : k + size + skip b (suc c) ss i ≡ k + (size + skip b (suc c) ss i) = omega arith in
    let f : suc c + i ≡ c + suc i = omega arith in
    let g : at + 4 * size + 4 * skip b (suc c) ss i ≡ at + 4 * (size + skip b (suc c) ss i) = omega arith in
    let v = slice_index_or ss i [] in
    stands-at xs (case_words b passes (c + suc i) v (at + 4 * (size + skip b (suc c) ss i)) barrier)
    (k + size + skip b (suc c) ss i) (k + (size + skip b (suc c) ss i)) e
    (subst (λ (d : ℕ). Stands xs (k + size + skip b (suc c) ss i)
    (case_words b passes d v (at + 4 * (size + skip b (suc c) ss i)) barrier)) f
    (subst (λ (a : ℕ). Stands xs (k + size + skip b (suc c) ss i) (case_words b passes (suc c + i) v a barrier)) g
    (case-stands xs b passes (suc c) ss (at + 4 * size) barrier (k + size) i (omega arith) rest)))

pub hart-stands : (xs : List ℕ) (blocks : ℕ → Blocks) (cases : Cases) (n h : ℕ)
    → Stands xs (place_of blocks cases h) (text_words blocks cases h n (base_of blocks cases h)) → (i : ℕ) → i < n
    → Stands xs (place_of blocks cases (h + i)) (hart_words (blocks (h + i)) cases.passes (streams_of cases (h + i))
    (h + i) (base_of blocks cases (h + i)))
hart-stands xs blocks cases zero h s i l = absurd (omega arith)
hart-stands xs blocks cases (suc n) h s zero l =
    let e : h ≡ h + 0 = omega arith in
    subst (λ (g : ℕ). Stands xs (place_of blocks cases g)
    (hart_words (blocks g) cases.passes (streams_of cases g) g (base_of blocks cases g))) e
    (stands-left xs (hart_words (blocks h) cases.passes (streams_of cases h) h (base_of blocks cases h))
    (text_words blocks cases (suc h) n (base_of blocks cases h + 4 * hart_size (blocks h) (streams_of cases h)))
    (place_of blocks cases h) s)
hart-stands xs blocks cases (suc n) h s (suc i) l =
    let size = hart_size (blocks h) (streams_of cases h) in
    let rest = stands-right xs (hart_words (blocks h) cases.passes (streams_of cases h) h (base_of blocks cases h))
    (text_words blocks cases (suc h) n (base_of blocks cases h + 4 * size)) (place_of blocks cases h)
    (place_of blocks cases (suc h)) (ap (λ (m : ℕ). place_of blocks cases h + m)
    (sym (length-hart (blocks h) cases.passes (streams_of cases h) h (base_of blocks cases h)))) s in
    let g : base_of blocks cases h + 4 * size ≡ base_of blocks cases (suc h) = omega arith in
    let e : suc h + i ≡ h + suc i = omega arith in
    subst (λ (g : ℕ). Stands xs (place_of blocks cases g)
    (hart_words (blocks g) cases.passes (streams_of cases g) g (base_of blocks cases g))) e
    (hart-stands xs blocks cases n (suc h)
    (subst (λ (a : ℕ). Stands xs (place_of blocks cases (suc h)) (text_words blocks cases (suc h) n a)) g rest) i
    (omega arith))
