-- The words of a test of cells stand in their places.
use Rattle.std.proofs.Common.{◌≡◌, ◌≢◌, ℕ, zero, suc, ◌+◌, ◌-◌, ◌*◌, ◌%◌, ◌^◌, ◌<◌, ◌≤◌, List, [], ◌∷◌, ◌++◌}
use Rattle.std.proofs.Common.{length, map, Bool, inr, None, Some, refl, sym, ap, ◌∙◌, subst}
use Rattle.std.proofs.Common.{arith, eq-eqb, ne_eqb}
use Rattle.std.specs.Prelude.{if◌then◌else◌, slice_index, slice_get}
use Rattle.tm_table.specs.declared.instr.Instr.{Instr}
use Rattle.tm_table.specs.Words.{words_of}
use Rattle.tm_table.specs.Adds.{add_word}
use Rattle.tm_table.proofs.AddWords.{add-back}
use Rattle.tm_base.specs.Lists.{count_from}
use Rattle.tm_plan_cases.specs.declared.program.Program.{Program}
use Rattle.tm_plan_map.specs.Map.{text_base, private_at}
use Rattle.tm_world.specs.Place.{exit_of, halt_of, end_of, word_at}
use Rattle.tm_world.specs.Course.{last_phase}
use Rattle.tm_world.specs.Writers.{case_of_phase}
use Rattle.tm_runs.specs.World.{Sizes, support_at}
use Rattle.tm_runs.specs.Runs.{At}
use Rattle.tm_runs.proofs.Arrivals.{stream-none, inside-false}
use Rattle.tm_runs.proofs.Tables.{at_front, at_next}
use Rattle.tm_runs.proofs.Worlds.{text-at}
use Rattle.tm_blocks_base.specs.Blocks.{constant}
use Rattle.tm_blocks_base.proofs.Lengths.{length-words_of, length-constant}
use Rattle.tm_barrier.specs.Words.{barrier}
use Rattle.tm_pass_text.specs.Words.{gate}
use Rattle.tm_pass_text.proofs.Stands.{Stands, stands-at, stands-left, stands-right}
use Rattle.tm_pass_steps.proofs.Placing.{IsOutside, stands-code}
use Rattle.tm_pass_place.proofs.Fits.{Fitting, all-fit}
use Rattle.tm_barrier.proofs.Meet.{length-barrier}
use Rattle.tm_cells_plan.specs.declared.plan.CellPlan.{CellPlan}
use Rattle.tm_cells_plan.specs.Sums.{IsPlan}
use Rattle.tm_cells_world.specs.Machine.{adds_at}
use Rattle.tm_cells_world.specs.Shadow.{NoStreams}
use Rattle.tm_cells_world.proofs.Shadow.{adds-word}
use Rattle.tm_cells_code.specs.Words.{the_add, add_registers, add_words, adds_words, checks, checks_of}
use Rattle.tm_cells_code.specs.Words.{barrier_size, hart_size, link_of, tail_code, hart_words, text_words, place_of}
use Rattle.tm_cells_code.specs.Words.{base_of, exit_at, halt_at, cell_text, cell_exits, cell_halts}
use Rattle.tm_cells_code.specs.View.{cells}
use Rattle.tm_cells_code.specs.Placed.{CellPlaced}
use Rattle.tm_cells_code.proofs.Sizes.{length-hart, length-adds, length-add, length-registers, length-front, length-tail}
use Rattle.tm_cells_code.proofs.Sizes.{length-checks, size-low, place-low, fit-tail, fit-front, fit-registers}
use Rattle.tm_cells_code.proofs.Sizes.{low-word, length-text}
use Rattle.tm_cells_code.proofs.Way.{length-behind-meet}

map-at : (f : ℕ → ℕ) (a n k : ℕ) → k < n → slice_index (map f (count_from a n)) k ≡ f (a + k)
map-at f a zero k l = absurd (omega arith)
map-at f a (suc n) zero l = ap f (let e : a ≡ a + 0 = omega arith in e)
map-at f a (suc n) (suc k) l = map-at f (suc a) n k (omega arith)
    ∙ ap f (let e : suc a + k ≡ a + suc k = omega arith in e)

get-index : (xs : List ℕ) (k : ℕ) → k < length xs → slice_get xs k ≡ Some (slice_index xs k)
get-index [] k l = absurd (omega arith)
get-index (x ∷ xs) zero l = refl
get-index (x ∷ xs) (suc k) l = get-index xs k (omega arith)

-- hart h + i's words, where those of n harts from h on stand
harts-stand : (xs : List ℕ) (plan : CellPlan) (n h : ℕ)
    → Stands xs (place_of plan h) (text_words plan h n (base_of plan h)) → (i : ℕ) → i < n
    → Stands xs (place_of plan (h + i)) (hart_words plan (h + i) (base_of plan (h + i)))
harts-stand xs plan zero h s i l = absurd (omega arith)
harts-stand xs plan (suc n) h s zero l =
    let e : h ≡ h + 0 = omega arith in
    subst (λ (g : ℕ). Stands xs (place_of plan g) (hart_words plan g (base_of plan g))) e
    (stands-left xs (hart_words plan h (base_of plan h))
    (text_words plan (suc h) n (base_of plan h + 4 * hart_size plan h)) (place_of plan h) s)
harts-stand xs plan (suc n) h s (suc i) l =
    let size = hart_size plan h in
    let rest = stands-right xs (hart_words plan h (base_of plan h)) (text_words plan (suc h) n (base_of plan h + 4 * size))
    (place_of plan h) (place_of plan (suc h)) (ap (λ (m : ℕ). place_of plan h + m)
    (sym (length-hart plan h (base_of plan h)))) s in
    let g : base_of plan h + 4 * size ≡ base_of plan (suc h) = omega arith in
    let e : suc h + i ≡ h + suc i = omega arith in
    subst (λ (k : ℕ). Stands xs (place_of plan k) (hart_words plan k (base_of plan k))) e
    (harts-stand xs plan n (suc h) (subst (λ (a : ℕ). Stands xs (place_of plan (suc h)) (text_words plan (suc h) n a)) g
    rest) i (omega arith))

-- add j of n
add-stands : (xs : List ℕ) (seed h j n k : ℕ) → Stands xs k (adds_words seed h j n) → (i : ℕ) → i < n
    → Stands xs (k + 23 * i) (add_words seed h (j + i))
add-stands xs seed h j zero k s i l = absurd (omega arith)
add-stands xs seed h j (suc n) k s zero l =
    let e : j ≡ j + 0 = omega arith in
    subst (λ (m : ℕ). Stands xs (k + 23 * 0) (add_words seed h m)) e
    (stands-at xs (add_words seed h j) k (k + 23 * 0) (omega arith)
    (stands-left xs (add_words seed h j) (adds_words seed h (suc j) n) k s))
add-stands xs seed h j (suc n) k s (suc i) l =
    let rest = stands-right xs (add_words seed h j) (adds_words seed h (suc j) n) k (k + 23)
    (ap (λ (m : ℕ). k + m) (sym (length-add seed h j))) s in
    let e : suc j + i ≡ j + suc i = omega arith in
    subst (λ (m : ℕ). Stands xs (k + 23 * suc i) (add_words seed h m)) e
    (stands-at xs (add_words seed h (suc j + i)) (k + 23 + 23 * i) (k + 23 * suc i) (omega arith)
    (add-stands xs seed h (suc j) n (k + 23) rest i (omega arith)))

-- places rise
place-rises : (plan : CellPlan) (g d : ℕ) → place_of plan g ≤ place_of plan (g + d)
place-rises plan g zero = let e : g ≡ g + 0 = omega arith in
    subst (λ (m : ℕ). place_of plan g ≤ place_of plan m) e (omega arith)
place-rises plan g (suc d) =
    let e : suc (g + d) ≡ g + suc d = omega arith in
    let l = place-rises plan g d in
    subst (λ (m : ℕ). place_of plan g ≤ place_of plan m) e (omega arith)

pub rises : (plan : CellPlan) (g h : ℕ) → g ≤ h → place_of plan g ≤ place_of plan h
rises plan g h l = let e : g + (h - g) ≡ h = omega arith in
    subst (λ (m : ℕ). place_of plan g ≤ place_of plan m) e (place-rises plan g (h - g))

pub past : (plan : CellPlan) (g h : ℕ) → g < h → place_of plan g + hart_size plan g ≤ place_of plan h
past plan g h l = rises plan (suc g) h l

-- where a hart's words begin
base-bound : (plan : CellPlan) → IsPlan plan → (h : ℕ) → h < plan.harts → base_of plan h ≤ 0x90000000
unfolding text_base
base-bound plan is h l = let harts = is.harts in omega (arith, place-low plan h is)

link-bound : (plan : CellPlan) → IsPlan plan → (h : ℕ) → h < plan.harts → link_of plan h (base_of plan h) < 2 ^ 64
unfolding text_base
link-bound plan is h l =
    let harts = is.harts in
    let adds = is.adds in
    omega (arith, place-low plan h is, length-barrier h plan.harts)

link-even : (plan : CellPlan) (h : ℕ) → link_of plan h (base_of plan h) % 2 ≡ 0
unfolding text_base
link-even plan h = omega arith

module _ (plan : CellPlan) (is : IsPlan plan) (h : ℕ) (mine : h < plan.harts) where
  abbrev p : Program
  p = cells plan

  -- ---- the program

  pub none : NoStreams (cells plan) h
  none pc = stream-none (cells plan) h pc (λ d l. inside-false (cells plan) h d pc (inr (zero-le d)))
    where
      zero-le : (d : ℕ) → end_of (cells plan) h d ≤ pc
      zero-le d = omega arith

  text-is : (k : ℕ) → slice_index (cell_text plan) k < 2 ^ 32
  unfolding cell_text
  text-is k = low-word plan is k

  pub text-long : length (cell_text plan) ≡ place_of plan plan.harts
  unfolding cell_text
  text-long =
      let e = length-text plan plan.harts 0 text_base in
      let f : place_of plan (0 + plan.harts) ≡ place_of plan plan.harts =
      ap (place_of plan) (let g : 0 + plan.harts ≡ plan.harts = omega arith in g) in
      omega (arith, e, f)

  pub sizes : Sizes (cells plan)
  sizes = record {
    harts = is.harts.1;
    text = omega (arith, text-long, place-low plan plan.harts is, is.harts.1);
    tables = omega arith;
    words = text-is;
    bytes = λ k. omega arith;
  }

  pub first-phase : case_of_phase (cells plan) 0 ≡ None
  first-phase = refl

  pub more : 0 ≢ last_phase (cells plan)
  more e = omega (arith, e)

  -- ---- its marks

  pub halt-is : halt_of (cells plan) h ≡ halt_at plan h
  unfolding cell_halts
  halt-is = map-at (halt_at plan) 0 plan.harts h mine
      ∙ ap (halt_at plan) (let e : 0 + h ≡ h = omega arith in e)

  pub exit-is : exit_of (cells plan) h ≡ exit_at plan h
  unfolding cell_exits
  exit-is = map-at (exit_at plan) 0 plan.harts h mine
      ∙ ap (exit_at plan) (let e : 0 + h ≡ h = omega arith in e)

  -- ---- its words

  abbrev text : List ℕ
  text = cell_text plan

  stand : (g : ℕ) → g < plan.harts → Stands (cell_text plan) (place_of plan g) (hart_words plan g (base_of plan g))
  unfolding cell_text
  stand g l =
      let e : 0 + g ≡ g = omega arith in
      let b : text_base ≡ base_of plan 0 = omega arith in
      subst (λ (k : ℕ). Stands (text_words plan 0 plan.harts text_base) (place_of plan k)
      (hart_words plan k (base_of plan k))) e
      (harts-stand (text_words plan 0 plan.harts text_base) plan plan.harts 0
      (λ j m. ap (slice_get (text_words plan 0 plan.harts text_base)) (let f : 0 + j ≡ j = omega arith in f)
      ∙ ap (λ (a : ℕ). slice_get (text_words plan 0 plan.harts a) j) b) g l)

  abbrev far : ℕ → ℕ
  far g = 4 * (hart_size plan g - 2)

  abbrev front : ℕ → List Instr
  front g = gate g (far g) ++ constant 31 (private_at g)

  abbrev tail : List Instr
  tail = constant 1 (link_of plan h (base_of plan h)) ++ tail_code plan h

  front-stands : (g : ℕ) → g < plan.harts → Stands (cell_text plan) (place_of plan g) (words_of (front g))
  unfolding hart_words
  front-stands g l = stands-left (cell_text plan) (words_of (front g))
      (adds_words plan.seed g 0 plan.adds ++ (words_of (constant 1 (link_of plan g (base_of plan g)) ++ tail_code plan g)
      ++ (0x0000006F ∷ []))) (place_of plan g) (stand g l)

  rest-stands : Stands (cell_text plan) (place_of plan h + 14)
      (adds_words plan.seed h 0 plan.adds ++ (words_of tail ++ (0x0000006F ∷ [])))
  unfolding hart_words
  rest-stands = stands-right (cell_text plan) (words_of (front h))
      (adds_words plan.seed h 0 plan.adds ++ (words_of tail ++ (0x0000006F ∷ []))) (place_of plan h)
      (place_of plan h + 14) (ap (λ (m : ℕ). place_of plan h + m) (sym (length-front h (far h)))) (stand h mine)

  adds-stand : Stands (cell_text plan) (place_of plan h + 14) (adds_words plan.seed h 0 plan.adds)
  adds-stand = stands-left (cell_text plan) (adds_words plan.seed h 0 plan.adds) (words_of tail ++ (0x0000006F ∷ []))
      (place_of plan h + 14) rest-stands

  abbrev tail-place : ℕ
  tail-place = place_of plan h + 14 + 23 * plan.adds

  ending-stands : Stands (cell_text plan) tail-place (words_of tail ++ (0x0000006F ∷ []))
  ending-stands = stands-right (cell_text plan) (adds_words plan.seed h 0 plan.adds) (words_of tail ++ (0x0000006F ∷ []))
      (place_of plan h + 14) tail-place (ap (λ (m : ℕ). place_of plan h + 14 + m)
      (sym (length-adds plan.seed h 0 plan.adds))) rest-stands

  tail-stands : Stands (cell_text plan) tail-place (words_of tail)
  tail-stands = stands-left (cell_text plan) (words_of tail) (0x0000006F ∷ []) tail-place ending-stands

  halt-stands : Stands (cell_text plan) (place_of plan h + hart_size plan h - 1) (0x0000006F ∷ [])
  halt-stands = stands-right (cell_text plan) (words_of tail) (0x0000006F ∷ []) tail-place
      (place_of plan h + hart_size plan h - 1)
      (omega (arith, length-tail plan h (base_of plan h), size-low plan h is)) ending-stands

  -- ---- its places

  -- a word before the halt mark
  outside : (k : ℕ) → k + 1 < place_of plan h + hart_size plan h → IsOutside (cells plan) h (text_base + 4 * k)
  outside k l = (none (text_base + 4 * k), λ z. omega (arith, z, halt-is, l, size-low plan h is))

  code-at : (code : List Instr) (k : ℕ) → Fitting code → Stands (cell_text plan) k (words_of code)
      → k + length code < place_of plan h + hart_size plan h
      → At (support_at (cells plan) h) (text_base + 4 * k) code
  code-at code k fits s room =
      stands-code (cells plan) h code k (all-fit code fits) s (λ j l. outside (k + j) (omega arith))

  front-at : (g : ℕ) → g ≤ h → At (support_at (cells plan) h) (base_of plan g) (front g)
  front-at g l =
      code-at (front g) (place_of plan g) (fit-front plan g is (omega arith)) (front-stands g (omega arith))
      (omega (arith, length-front' g, rises plan g h l, size-low plan h is))
    where
      length-front' : (g : ℕ) → length (front g) ≡ 14
      length-front' g = sym (length-words_of (front g)) ∙ length-front g (far g)

  registers-at : (j : ℕ) → j < plan.adds
      → At (support_at (cells plan) h) (text_base + 4 * (place_of plan h + 14 + 23 * j)) (add_registers plan.seed h j)
  unfolding add_words
  registers-at j l =
      code-at (add_registers plan.seed h j) (place_of plan h + 14 + 23 * j) (fit-registers plan.seed h j)
      (stands-left (cell_text plan) (words_of (add_registers plan.seed h j)) (add_word the_add ∷ [])
      (place_of plan h + 14 + 23 * j) (subst (λ (m : ℕ). Stands (cell_text plan) (place_of plan h + 14 + 23 * j)
      (add_words plan.seed h m)) (let e : 0 + j ≡ j = omega arith in e)
      (add-stands (cell_text plan) plan.seed h 0 plan.adds (place_of plan h + 14) adds-stand j l)))
      (omega (arith, length-registers plan.seed h j, l))

  text-length : place_of plan h + hart_size plan h ≤ length (cell_text plan)
  text-length = omega (arith, text-long, past plan h plan.harts mine)

  add-at : (j : ℕ) → j < plan.adds → adds_at (cells plan) (text_base + 4 * (place_of plan h + 14 + 23 * j + 22))
      ≡ Some the_add
  unfolding add_words
  add-at j l =
      let k = place_of plan h + 14 + 23 * j + 22 in
      let stands = stands-right (cell_text plan) (words_of (add_registers plan.seed h j)) (add_word the_add ∷ [])
      (place_of plan h + 14 + 23 * j) k (ap (λ (m : ℕ). place_of plan h + 14 + 23 * j + m)
      (sym (length-words_of (add_registers plan.seed h j) ∙ length-registers plan.seed h j)))
      (subst (λ (m : ℕ). Stands (cell_text plan) (place_of plan h + 14 + 23 * j)
      (add_words plan.seed h m)) (let e : 0 + j ≡ j = omega arith in e)
      (add-stands (cell_text plan) plan.seed h 0 plan.adds (place_of plan h + 14) adds-stand j l)) in
      let here : k + 0 ≡ k = omega arith in
      let word : word_at (cells plan) (text_base + 4 * k) ≡ Some (add_word the_add) =
      text-at (cells plan) k (omega (arith, text-length, l)) ∙ (ap (slice_get (cell_text plan)) (sym here)
      ∙ stands 0 (omega arith)) in
      adds-word (cells plan) (text_base + 4 * k) (add_word the_add) the_add word
      (add-back the_add (record { rd = omega arith; rs1 = omega arith; rs2 = omega arith }))

  tail-at : At (support_at (cells plan) h) (text_base + 4 * tail-place) tail
  tail-at = code-at tail tail-place (fit-tail plan h (base_of plan h) is mine (base-bound plan is h mine)) tail-stands
      (omega (arith, long-tail, size-low plan h is))
    where
      long-tail : length tail ≡ 11 + barrier_size plan h + length (checks_of plan h)
      long-tail = sym (length-words_of tail) ∙ length-tail plan h (base_of plan h)

  halt-word : word_at (cells plan) (halt_of (cells plan) h) ≡ Some 0x0000006F
  halt-word =
      let k = place_of plan h + hart_size plan h - 1 in
      let size = size-low plan h is in
      let place : halt_of (cells plan) h ≡ text_base + 4 * k = omega (arith, halt-is, size) in
      let here : k + 0 ≡ k = omega arith in
      ap (word_at (cells plan)) place ∙ (text-at (cells plan) k (omega (arith, text-length, size))
      ∙ (ap (slice_get (cell_text plan)) (sym here) ∙ halt-stands 0 (omega arith)))

  -- ---- all of it

  abbrev link : ℕ
  link = link_of plan h (base_of plan h)

  meeting-at : At (support_at (cells plan) h) (text_base + 4 * (tail-place + 11)) (tail_code plan h)
  meeting-at =
      at_next (support_at (cells plan) h) (text_base + 4 * tail-place) (text_base + 4 * (tail-place + 11))
      (constant 1 link) (tail_code plan h) 11 (length-constant 1 link) (omega arith) tail-at

  checks-at : h ≡ 0 → At (support_at (cells plan) h) link (checks plan)
  checks-at z =
      let same : checks_of plan h ≡ checks plan = ap (λ (b : Bool). if b then checks plan else []) (eq-eqb h 0 z) in
      subst (At (support_at (cells plan) h) link) same
      (at_next (support_at (cells plan) h) (text_base + 4 * (tail-place + 11)) link (barrier h plan.harts)
      (checks_of plan h) (length (barrier h plan.harts)) refl (omega arith) meeting-at)

  pub placed : CellPlaced plan (cells plan) h
  placed = record {
    base = base_of plan;
    far = far;
    first = omega arith;
    big = λ g l. (omega (arith, size-low plan g is), omega (arith, size-low plan g is));
    rising = λ g l. omega (arith, rises plan g h l);
    gates = λ g l. at_front (support_at (cells plan) h) (base_of plan g) (gate g (far g)) (constant 31 (private_at g))
        (front-at g l);
    opening = at_next (support_at (cells plan) h) (base_of plan h) (base_of plan h + 12) (gate h (far h))
        (constant 31 (private_at h)) 3 refl (omega arith) (front-at h (omega arith));
    registers = λ j l. subst (λ (a : ℕ). At (support_at (cells plan) h) a (add_registers plan.seed h j)) (omega arith)
        (registers-at j l);
    adds = λ j l. ap (adds_at (cells plan)) (omega arith) ∙ add-at j l;
    entry = text_base + 4 * (tail-place + 11);
    entry_is = omega arith;
    link = link;
    link_is = omega arith;
    low = omega (arith, link-bound plan is h mine);
    even = omega (arith, link-even plan h);
    to_link = subst (λ (a : ℕ). At (support_at (cells plan) h) a (constant 1 link)) (omega arith)
        (at_front (support_at (cells plan) h) (text_base + 4 * tail-place) (constant 1 link) (tail_code plan h) tail-at);
    meeting = at_front (support_at (cells plan) h) (text_base + 4 * (tail-place + 11)) (barrier h plan.harts)
        (checks_of plan h) meeting-at;
    exit = omega (arith, exit-is, length-behind-meet h plan.harts);
    checking = checks-at;
    halts = λ z. omega (
      arith,
      halt-is,
      length-checks plan,
      ap (λ (b : Bool). length (if b then checks plan else []))
          (eq-eqb h 0 z),
    );
    others = λ z. omega (
      arith,
      halt-is,
      ap (λ (b : Bool). length (if b then checks plan else []))
          (ne_eqb h 0 (λ e. omega (arith, e, z))),
    );
    halt_word = halt-word;
  }
