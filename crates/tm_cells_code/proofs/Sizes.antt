-- How long the words of a test of cells are, and that its instructions fit.
use Rattle.std.proofs.Common.{◌≡◌, ℕ, zero, suc, ◌+◌, ◌-◌, ◌*◌, ◌^◌, ◌<◌, ◌≤◌, List, [], ◌∷◌, ◌++◌, length, map}
use Rattle.std.proofs.Common.{Bool, true, false, ◌==◌, refl, sym, ap, ◌∙◌, subst, arith, length-append}
use Rattle.std.specs.Prelude.{if◌then◌else◌, slice_index}
use Rattle.tm_table.specs.declared.instr.Instr.{Instr}
use Rattle.tm_table.specs.Words.{words_of}
use Rattle.tm_table.proofs.Decoding.{word-lt}
use Rattle.tm_table.specs.Adds.{add_word}
use Rattle.tm_base.specs.Lists.{count_from}
use Rattle.tm_plan_map.specs.Map.{text_base, private_at, verdict_at}
use Rattle.tm_blocks_base.specs.Instrs.{addi, ld, sd}
use Rattle.tm_blocks_base.specs.Blocks.{constant}
use Rattle.tm_blocks_base.proofs.Fitting.{addi_fits, ld_fits, sd_fits, beq_fits}
use Rattle.tm_blocks_base.proofs.Lengths.{length-words_of, length-constant}
use Rattle.tm_barrier.specs.Words.{barrier}
use Rattle.tm_pass_text.specs.Words.{gate}
use Rattle.tm_pass_text.proofs.Pairs.{Each, each-append}
use Rattle.tm_pass_place.proofs.Fits.{Fitting, Nil, Fit, fit-append, fit-constant, fit-barrier, fit-gate}
use Rattle.tm_barrier.proofs.Meet.{length-barrier}
use Rattle.tm_cells_plan.specs.declared.plan.CellPlan.{CellPlan}
use Rattle.tm_cells_plan.specs.Sums.{IsPlan, addend, cell_of, cell_sum}
use Rattle.tm_cells_plan.proofs.Draws.{addend-lt, cell-lt}
use Rattle.tm_cells_world.specs.Kinds.{cell_at}
use Rattle.tm_cells_code.specs.Words.{the_add, add_registers, add_words, adds_words, loads, compare_cell, compare_cells}
use Rattle.tm_cells_code.specs.Words.{checks, checks_of, barrier_size, hart_size, link_of, tail_code}
use Rattle.tm_cells_code.specs.Words.{hart_words, text_words, place_of, base_of}
use Rattle.tm_cells_code.proofs.Addresses.{cell-place, verdict-place, private-place}
use Rattle.tm_cells_code.proofs.Checking.{length-compares, length-loads, cell-sum-lt}

-- ---- lengths

pub length-registers : (seed h j : ℕ) → length (add_registers seed h j) ≡ 22
unfolding add_registers
length-registers seed h j =
    length-append (constant 6 (addend seed h j)) (constant 28 (cell_at (cell_of seed h j)))
    ∙ omega (arith, length-constant 6 (addend seed h j), length-constant 28 (cell_at (cell_of seed h j)))

pub length-add : (seed h j : ℕ) → length (add_words seed h j) ≡ 23
unfolding add_words
length-add seed h j =
    length-append (words_of (add_registers seed h j)) (add_word the_add ∷ [])
    ∙ omega (arith, length-words_of (add_registers seed h j), length-registers seed h j)

pub length-adds : (seed h j n : ℕ) → length (adds_words seed h j n) ≡ 23 * n
length-adds seed h j zero = refl
length-adds seed h j (suc n) =
    length-append (add_words seed h j) (adds_words seed h (suc j) n)
    ∙ omega (arith, length-add seed h j, length-adds seed h (suc j) n)

pub length-checks : (plan : CellPlan) → length (checks plan) ≡ 136
unfolding checks
length-checks plan =
    let c5 = constant 7 (verdict_at 0 0) ++ (sd 8 0 7 ∷ []) in
    let c4 = compare_cells plan 8 ++ c5 in
    let c3 = (addi 8 0 0 ∷ []) ++ c4 in
    let c2 = loads ++ c3 in
    length-append (constant 28 (cell_at 0)) c2
    ∙ omega (
      arith,
      length-constant 28 (cell_at 0),
      length-append loads c3,
      length-loads,
      length-append (compare_cells plan 8) c5,
      length-compares plan 8,
      length-append (constant 7 (verdict_at 0 0)) (sd 8 0 7 ∷ []),
      length-constant 7 (verdict_at 0 0),
    )

pub checks-few : (plan : CellPlan) (h : ℕ) → length (checks_of plan h) ≤ 136
checks-few plan h = by (h == 0)
  where
    by : (b : Bool) → length (if b then checks plan else []) ≤ 136
    by true = omega (arith, length-checks plan)
    by false = omega arith

pub length-tail : (plan : CellPlan) (h base : ℕ) → length (words_of (constant 1 (link_of plan h base) ++ tail_code plan h))
    ≡ 11 + barrier_size plan h + length (checks_of plan h)
length-tail plan h base =
    length-words_of (constant 1 (link_of plan h base) ++ tail_code plan h)
    ∙ omega (
      arith,
      length-append (constant 1 (link_of plan h base)) (tail_code plan h),
      length-constant 1 (link_of plan h base),
      length-append (barrier h plan.harts) (checks_of plan h),
    )

pub length-front : (h n : ℕ) → length (words_of (gate h n ++ constant 31 (private_at h))) ≡ 14
length-front h n =
    length-words_of (gate h n ++ constant 31 (private_at h))
    ∙ omega (arith, length-append (gate h n) (constant 31 (private_at h)), length-constant 31 (private_at h))

pub length-hart : (plan : CellPlan) (h base : ℕ) → length (hart_words plan h base) ≡ hart_size plan h
unfolding hart_words
length-hart plan h base =
    let n = 4 * (hart_size plan h - 2) in
    let tail = words_of (constant 1 (link_of plan h base) ++ tail_code plan h) in
    length-append (words_of (gate h n ++ constant 31 (private_at h)))
    (adds_words plan.seed h 0 plan.adds ++ (tail ++ (0x0000006F ∷ [])))
    ∙ omega (
      arith,
      length-front h n,
      length-append (adds_words plan.seed h 0 plan.adds) (tail ++ (0x0000006F ∷ [])),
      length-adds plan.seed h 0 plan.adds,
      length-append tail (0x0000006F ∷ []),
      length-tail plan h base,
    )

-- ---- bounds

pub size-low : (plan : CellPlan) (h : ℕ) → IsPlan plan → (hart_size plan h ≤ 24000) × (26 ≤ hart_size plan h)
size-low plan h is =
    let adds = is.adds in
    let harts = is.harts in (
      omega (arith, adds, harts, length-barrier h plan.harts, checks-few plan h),
      omega arith,
    )

pub place-low : (plan : CellPlan) (h : ℕ) → IsPlan plan → place_of plan h ≤ 24000 * h
place-low plan zero is = omega arith
place-low plan (suc h) is = omega (arith, place-low plan h is, size-low plan h is)

-- ---- instructions fit

fit-loads-from : (k n : ℕ) → k + n ≤ 8 → Fitting (map (λ q. ld (11 + q) (8 * q) 28) (count_from k n))
fit-loads-from k zero l = Nil
fit-loads-from k (suc n) l = Fit (ld_fits (11 + k) (8 * k) 28 (omega arith) (omega arith) (omega arith))
    (fit-loads-from (suc k) n (omega arith))

fit-compare : (plan : CellPlan) (q : ℕ) → q < 8 → Fitting (compare_cell plan q)
unfolding compare_cell
fit-compare plan q l = fit-append (fit-constant 6 (cell_sum plan q) (omega arith) (cell-sum-lt plan q))
    (Fit (beq_fits (11 + q) 6 8 (omega arith) (omega arith) (omega arith) (omega arith))
    (Fit (addi_fits 8 0 (q + 1) (omega arith) (omega arith) (omega arith)) Nil))

fit-compares : (plan : CellPlan) (n : ℕ) → n ≤ 8 → Fitting (compare_cells plan n)
fit-compares plan zero l = Nil
fit-compares plan (suc q) l = fit-append (fit-compare plan q (omega arith)) (fit-compares plan q (omega arith))

pub fit-checks : (plan : CellPlan) → Fitting (checks plan)
unfolding checks loads
fit-checks plan =
    fit-append (fit-constant 28 (cell_at 0) (omega arith) (let e = cell-place 0 in omega arith))
    (fit-append (fit-loads-from 0 8 (omega arith))
    (fit-append (Fit (addi_fits 8 0 0 (omega arith) (omega arith) (omega arith)) Nil)
    (fit-append (fit-compares plan 8 (omega arith))
    (fit-append (fit-constant 7 (verdict_at 0 0) (omega arith) (let e = verdict-place in omega arith))
    (Fit (sd_fits 8 0 7 (omega arith) (omega arith) (omega arith)) Nil)))))

pub fit-checks_of : (plan : CellPlan) (h : ℕ) → Fitting (checks_of plan h)
fit-checks_of plan h = by (h == 0)
  where
    by : (b : Bool) → Fitting (if b then checks plan else [])
    by true = fit-checks plan
    by false = Nil

pub fit-tail : (plan : CellPlan) (h base : ℕ) → IsPlan plan → h < plan.harts → base ≤ 0x90000000
    → Fitting (constant 1 (link_of plan h base) ++ tail_code plan h)
fit-tail plan h base is l low =
    let adds = is.adds in
    let harts = is.harts in
    fit-append (fit-constant 1 (link_of plan h base) (omega arith)
    (omega (arith, length-barrier h plan.harts)))
    (fit-append (fit-barrier h plan.harts l (omega arith)) (fit-checks_of plan h))

pub fit-front : (plan : CellPlan) (h : ℕ) → IsPlan plan → h < plan.harts
    → Fitting (gate h (4 * (hart_size plan h - 2)) ++ constant 31 (private_at h))
fit-front plan h is l =
    let harts = is.harts in
    let size = size-low plan h is in
    fit-append (fit-gate h (4 * (hart_size plan h - 2)) (omega arith) (omega arith) (omega (arith, size.0)))
    (fit-constant 31 (private_at h) (omega arith) (let e = private-place h in omega arith))

pub fit-registers : (seed h j : ℕ) → Fitting (add_registers seed h j)
unfolding add_registers
fit-registers seed h j =
    fit-append (fit-constant 6 (addend seed h j) (omega arith) (addend-lt seed h j))
    (fit-constant 28 (cell_at (cell_of seed h j)) (omega arith)
    (let e = cell-place (cell_of seed h j) in let l = cell-lt seed h j in omega arith))

-- ---- words of 32 bits

abbrev Low : ℕ → Type 0
Low w = w < 2 ^ 32

low-at : (xs : List ℕ) → Each Low xs → (k : ℕ) → slice_index xs k < 2 ^ 32
low-at [] e k = omega arith
low-at (x ∷ xs) e zero = e.0
low-at (x ∷ xs) e (suc k) = low-at xs e.1 k

low-words : (is : List Instr) → Fitting is → Each Low (words_of is)
low-words [] f = tt
low-words (i ∷ is) (Fit x f) = (word-lt i x, low-words is f)

add-low : add_word the_add < 2 ^ 32
unfolding add_word
add-low = omega arith

low-add : (seed h j : ℕ) → Each Low (add_words seed h j)
unfolding add_words
low-add seed h j = each-append Low (words_of (add_registers seed h j)) (add_word the_add ∷ [])
    (low-words (add_registers seed h j) (fit-registers seed h j)) (add-low, tt)

low-adds : (seed h j n : ℕ) → Each Low (adds_words seed h j n)
low-adds seed h j zero = tt
low-adds seed h j (suc n) = each-append Low (add_words seed h j) (adds_words seed h (suc j) n) (low-add seed h j)
    (low-adds seed h (suc j) n)

low-hart : (plan : CellPlan) (h base : ℕ) → IsPlan plan → h < plan.harts → base ≤ 0x90000000
    → Each Low (hart_words plan h base)
unfolding hart_words
low-hart plan h base is l low =
    let front = gate h (4 * (hart_size plan h - 2)) ++ constant 31 (private_at h) in
    let tail = constant 1 (link_of plan h base) ++ tail_code plan h in
    let adds = adds_words plan.seed h 0 plan.adds in
    each-append Low (words_of front) (adds ++ (words_of tail ++ (0x0000006F ∷ [])))
    (low-words front (fit-front plan h is l))
    (each-append Low adds (words_of tail ++ (0x0000006F ∷ [])) (low-adds plan.seed h 0 plan.adds)
    (each-append Low (words_of tail) (0x0000006F ∷ []) (low-words tail (fit-tail plan h base is l low))
    (omega arith, tt)))

low-text : (plan : CellPlan) → IsPlan plan → (n h : ℕ) → h + n ≤ plan.harts
    → Each Low (text_words plan h n (base_of plan h))
unfolding text_base
low-text plan is zero h l = tt
low-text plan is (suc n) h l =
    let harts = is.harts in
    let next : base_of plan h + 4 * hart_size plan h ≡ base_of plan (suc h) = omega arith in
    each-append Low (hart_words plan h (base_of plan h))
    (text_words plan (suc h) n (base_of plan h + 4 * hart_size plan h))
    (low-hart plan h (base_of plan h) is (omega arith) (omega (arith, place-low plan h is)))
    (subst (λ (b : ℕ). Each Low (text_words plan (suc h) n b)) (sym next) (low-text plan is n (suc h) (omega arith)))

pub low-word : (plan : CellPlan) → IsPlan plan → (k : ℕ) → slice_index (text_words plan 0 plan.harts text_base) k
    < 2 ^ 32
low-word plan is k =
    let e : base_of plan 0 ≡ text_base = omega arith in
    subst (λ (b : ℕ). slice_index (text_words plan 0 plan.harts b) k < 2 ^ 32) e
    (low-at (text_words plan 0 plan.harts (base_of plan 0)) (low-text plan is plan.harts 0 (omega arith)) k)

-- how long the text is
pub length-text : (plan : CellPlan) (n h base : ℕ) → length (text_words plan h n base) + place_of plan h
    ≡ place_of plan (h + n)
length-text plan zero h base = (let f : 0 + place_of plan h ≡ place_of plan h = omega arith in f)
    ∙ ap (place_of plan) (let e : h ≡ h + 0 = omega arith in e)
length-text plan (suc n) h base =
    let e : suc h + n ≡ h + suc n = omega arith in
    let rest = length-text plan n (suc h) (base + 4 * hart_size plan h) in
    omega (
      arith,
      length-append (hart_words plan h base) (text_words plan (suc h) n (base + 4 * hart_size plan h)),
      length-hart plan h base,
      rest,
    ) ∙ ap (place_of plan) e
