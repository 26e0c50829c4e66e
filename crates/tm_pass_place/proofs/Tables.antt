-- What the image of a program holds in the table of each case.
use Rattle.std.proofs.Common.{◌≡◌, ℕ, zero, suc, ◌+◌, ◌-◌, ◌*◌, ◌%◌, ◌<◌, ◌≤◌, true, List, [], ◌∷◌, ◌++◌, length}
use Rattle.std.proofs.Common.{drop, Some, refl, sym, ap, ◌∙◌, arith, append_assoc, length-drop}
use Rattle.std.specs.Prelude.{slice_get, slice_index}
use Rattle.std.proofs.lemmas.List.{get_or_append_left, get_or-append-add, get_or-take, get_or-drop}
use Rattle.std.proofs.Math.Nat.{mul-le-mul_left}
use Rattle.std.proofs.lemmas.Option.{slice_get_within}
use Rattle.tm_base.proofs.ListLemmas.{all-at}
use Rattle.tm_plan_cases.specs.declared.cases.Case.{Case}
use Rattle.tm_plan_cases.specs.declared.cases.Stream.{Stream}
use Rattle.tm_plan_cases.specs.declared.masks.CaseMask.{CaseMask}
use Rattle.tm_plan_cases.specs.declared.program.Program.{Program}
use Rattle.tm_plan_map.specs.Map.{tables_base, table_at, windows_base, windows_size}
use Rattle.tm_plan_cases.specs.Collected.{owned}
use Rattle.tm_plan_cases.specs.Shaped.{IsProgram, IsTyped, IsShapedCase, IsShapedMask}
use Rattle.tm_plan_cases.specs.Layout.{table_size, HasTables}
use Rattle.tm_plan_cases.specs.Tables.{dword_bytes, dwords_bytes, hart_table, hart_tables, case_table, table_bytes}
use Rattle.tm_plan_cases.proofs.TableLemmas.{length-dword, length-dwords, length-hart, length-harts, tables-stand}
use Rattle.tm_world.specs.Place.{harts, case_count, image_byte, byte_of}
use Rattle.tm_plan_cases.specs.Streams.{stream_in}
use Rattle.tm_world.proofs.Streams.{case-of, shaped-stream, stream-of}
use Rattle.tm_runs.specs.World.{Sizes, image_dword, is_fixed_dword}
use Rattle.tm_runs.proofs.Bytes.{joined-lt, joined-byte}
use Rattle.tm_runs.proofs.Places.{image-lt}
use Rattle.tm_runs.proofs.Worlds.{sizes-of, image-dword, image-table, table-dword}
use Rattle.tm_plan_owned.proofs.Collected.{IsDword, Dwords, owned-dwords}
use Rattle.tm_blocks_compare.specs.Words.{case_masks, case_bytes}
use Rattle.tm_pass_text.specs.Hart.{registers_at, first_at}
use Rattle.tm_pass_steps.specs.Setting.{FirstTable}
use Rattle.tm_pass_steps.specs.Entering.{RegisterTable}
use Rattle.tm_pass_steps.specs.Finding.{HasMasks}

-- ---- bytes of dwords

byte-of-dword : (v i : ℕ) → i < 8 → slice_index (dword_bytes v) i ≡ byte_of v i
unfolding dword_bytes
byte-of-dword v zero l = omega arith
byte-of-dword v (suc zero) l = refl
byte-of-dword v (suc (suc zero)) l = refl
byte-of-dword v (suc (suc (suc zero))) l = refl
byte-of-dword v (suc (suc (suc (suc zero)))) l = refl
byte-of-dword v (suc (suc (suc (suc (suc zero))))) l = refl
byte-of-dword v (suc (suc (suc (suc (suc (suc zero)))))) l = refl
byte-of-dword v (suc (suc (suc (suc (suc (suc (suc zero))))))) l = refl
byte-of-dword v (suc (suc (suc (suc (suc (suc (suc (suc i)))))))) l = absurd (omega arith)

-- what stands behind n bytes
behind : (xs ys : List ℕ) (n k : ℕ) → length xs ≡ n → slice_index (xs ++ ys) (n + k) ≡ slice_index ys k
behind xs ys n k e = ap (λ (m : ℕ). slice_index (xs ++ ys) (m + k)) (sym e) ∙ get_or-append-add xs ys k 0

byte-of-dwords : (vs rest : List ℕ) (j i : ℕ) → j < length vs → i < 8
    → slice_index (dwords_bytes vs ++ rest) (8 * j + i) ≡ byte_of (slice_index vs j) i
byte-of-dwords [] rest j i l m = absurd (omega arith)
byte-of-dwords (v ∷ vs) rest zero i l m =
    let e : 8 * 0 + i ≡ i = omega arith in
    ap (slice_index (dwords_bytes (v ∷ vs) ++ rest)) e
    ∙ (ap (λ (b : List ℕ). slice_index b i) (append_assoc (dword_bytes v) (dwords_bytes vs) rest)
    ∙ (get_or_append_left (dword_bytes v) (dwords_bytes vs ++ rest) 0 i (omega (arith, length-dword v)) ∙ byte-of-dword
    v i m))
byte-of-dwords (v ∷ vs) rest (suc j) i l m =
    let e : 8 * suc j + i ≡ 8 + (8 * j + i) = omega arith in
    ap (slice_index (dwords_bytes (v ∷ vs) ++ rest)) e
    ∙ (ap (λ (b : List ℕ). slice_index b (8 + (8 * j + i))) (append_assoc (dword_bytes v) (dwords_bytes vs) rest)
    ∙ (behind (dword_bytes v) (dwords_bytes vs ++ rest) 8 (8 * j + i) (length-dword v) ∙ byte-of-dwords vs rest j i
    (omega arith) m))

index-drop : (xs : List ℕ) (j : ℕ) → slice_index (drop 1 xs) j ≡ slice_index xs (suc j)
index-drop [] j = refl
index-drop (x ∷ xs) j = refl

-- byte j of hart h's table
harts-at : (ss : List Stream) (ms rest : List ℕ) (h j : ℕ) (s : Stream)
    → ((k : ℕ) (t : Stream) → slice_get ss k ≡ Some t → length t.regs ≡ 32) → slice_get ss h ≡ Some s → h < length ms
    → j < 256
    → slice_index (hart_tables ss ms ++ rest) (256 * h + j) ≡ slice_index (hart_table s (slice_index ms h)) j
harts-at [] ms rest h j s r e l m = absurd (cc)
harts-at (t ∷ ss) [] rest h j s r e l m = absurd (omega arith)
harts-at (t ∷ ss) (x ∷ ms) rest zero j s r e l m =
    let same : t ≡ s = cc in
    let z : 256 * 0 + j ≡ j = omega arith in
    let long = length-hart t x (r 0 t refl) in
    ap (slice_index (hart_table t x ++ hart_tables ss ms ++ rest)) z
    ∙ (ap (λ (b : List ℕ). slice_index b j) (append_assoc (hart_table t x) (hart_tables ss ms) rest)
    ∙ (get_or_append_left (hart_table t x) (hart_tables ss ms ++ rest) 0 j (omega (arith, long)) ∙ ap
    (λ (u : Stream). slice_index (hart_table u x) j) same))
harts-at (t ∷ ss) (x ∷ ms) rest (suc h) j s r e l m =
    let z : 256 * suc h + j ≡ 256 + (256 * h + j) = omega arith in
    let long = length-hart t x (r 0 t refl) in
    ap (slice_index (hart_table t x ++ hart_tables ss ms ++ rest)) z
    ∙ (ap (λ (b : List ℕ). slice_index b (256 + (256 * h + j))) (append_assoc (hart_table t x) (hart_tables ss ms) rest)
    ∙ (behind (hart_table t x) (hart_tables ss ms ++ rest) 256 (256 * h + j) long ∙ harts-at ss ms rest h j s
    (λ k u q. r (suc k) u q) e (omega arith) m))

dword-at : (xs : List ℕ) → Dwords xs → (j : ℕ) → j < length xs → IsDword (slice_index xs j)
dword-at [] d j l = absurd (omega arith)
dword-at (a ∷ xs) d zero l = d.0
dword-at (a ∷ xs) d (suc j) l = dword-at xs d.1 j (omega arith)

-- ---- the table of a case

module _ (p : Program) (program : IsProgram p) (typed : IsTyped p) (tables : p.tables ≡ table_bytes p.cases p.masks)
    (c : ℕ) (case : Case) (mask : CaseMask) (here : slice_get p.cases.cases c
    ≡ Some case) (there : slice_get p.masks.cases c ≡ Some mask) where
  abbrev N : ℕ
  N = harts p

  abbrev X : ℕ
  X = table_size N

  few : c < case_count p
  few = slice_get_within p.cases.cases c case here

  sizes : Sizes p
  sizes = sizes-of p program typed

  shaped-case : IsShapedCase p.cases case
  shaped-case = all-at (IsShapedCase p.cases) p.cases.cases c case program.cases.each here

  shaped-mask : IsShapedMask p.cases mask
  shaped-mask = all-at (IsShapedMask p.cases) p.masks.cases c mask program.masks.each there

  stand : HasTables p.cases p.masks
  stand = tables-stand p.cases p.masks program.cases program.masks (λ d h k s e f. typed.count d h k s e f)

  pub whole : length p.tables ≡ case_count p * X
  whole = ap length tables ∙ stand.whole

  -- the table lies among the tables
  pub inside-tables : (k : ℕ) → k ≤ X → table_at N c + k ≤ tables_base + length p.tables
  unfolding table_at
  inside-tables k l =
      let last : X * suc c ≤ X * case_count p = mul-le-mul_left X few in
      let each : c * X + X ≤ case_count p * X = omega arith in
      omega (arith, whole)

  pub above-base : tables_base ≤ table_at N c
  unfolding table_at
  above-base = omega arith

  pub even-table : table_at N c % 8 ≡ 0
  unfolding table_at tables_base
  even-table = aligned c N
    where
      aligned : (c N : ℕ) → (0x80800000 + c * (256 * N + 12288)) % 8 ≡ 0
      aligned c N = omega arith

  byte-at : (k : ℕ) → k < X → image_byte p (table_at N c + k) ≡ slice_index (case_table case mask) k
  byte-at k l =
      let off = table_at N c - tables_base in
      let up = above-base in
      let e : table_at N c + k ≡ tables_base + (off + k) = omega arith in
      let in-tables = inside-tables (k + 1) (omega arith) in
      ap (image_byte p) e
      ∙ (image-table p (off + k) sizes (omega arith)
      ∙ (ap (λ (t : List ℕ). slice_index t (off + k)) tables
      ∙ (sym (get_or-drop off (table_bytes p.cases p.masks) k 0)
      ∙ (sym (get_or-take X (drop off (table_bytes p.cases p.masks)) k 0 l)
      ∙ ap (λ (t : List ℕ). slice_index t k) (stand.each c case mask here there)))))

  abbrev regs : List ℕ
  regs = hart_tables case.streams mask.regs

  abbrev first : List ℕ
  first = dwords_bytes case.first

  parts : case_table case mask ≡ regs ++ (first ++ mask.bytes)
  parts = append_assoc regs first mask.bytes

  long-regs : length regs ≡ 256 * N
  long-regs = length-harts case.streams mask.regs (shaped-mask.regs ∙ sym shaped-case.streams)
      (λ h s e. typed.count c h case s here e) ∙ ap (λ (n : ℕ). 256 * n) shaped-case.streams

  module _ (h : ℕ) (number : h < N) where
    hart-byte : (s : Stream) (j : ℕ) → slice_get case.streams h ≡ Some s → j < 256
        → image_byte p (table_at N c + 256 * h + j) ≡ slice_index (hart_table s (slice_index mask.regs h)) j
    hart-byte s j e l =
        let a : table_at N c + 256 * h + j ≡ table_at N c + (256 * h + j) = omega arith in
        ap (image_byte p) a
        ∙ (byte-at (256 * h + j) (omega arith)
        ∙ (ap (λ (t : List ℕ). slice_index t (256 * h + j)) parts
        ∙ harts-at case.streams mask.regs (first ++ mask.bytes) h j s (λ k t q. typed.count c k case t here q) e
        (omega (arith, shaped-mask.regs)) l))

    register : (s : Stream) → slice_get case.streams h ≡ Some s → (i : ℕ) → i < 31
        → image_dword p (table_at N c + 256 * h + 8 * i) ≡ slice_index s.regs (i + 1)
    register s e i l =
        let next : suc i ≡ i + 1 = omega arith in
        let long : length (drop 1 s.regs) ≡ 31 = length-drop 1 s.regs ∙ omega (arith, typed.count c h case s here e) in
        image-dword p (table_at N c + 256 * h + 8 * i) (slice_index s.regs (i + 1)) sizes
        (typed.regs c h case s here e (i + 1))
        (λ b m.
        let a : table_at N c + 256 * h + 8 * i + b ≡ table_at N c + 256 * h + (8 * i + b) = omega arith in
        ap (image_byte p) a
        ∙ (hart-byte s (8 * i + b) e (omega arith)
        ∙ (byte-of-dwords (drop 1 s.regs) (dword_bytes (slice_index mask.regs h)) i b (omega arith) m
        ∙ ap (λ (v : ℕ). byte_of v b) (index-drop s.regs i ∙ ap (slice_index s.regs) next))))

    of-case : (s : Stream) → stream_in p.cases c h ≡ Some s → slice_get case.streams h ≡ Some s
    of-case s e =
        let r = case-of p.cases c h s e in
        let f = r.1 in
        let g = r.2 in
        let same : r.0 ≡ case = let q : Some r.0 ≡ Some case = sym f ∙ here in cc in
        ap (λ (k : Case). slice_get k.streams h) (sym same) ∙ g

    pub register-table : RegisterTable p h c (registers_at p.cases h c)
    unfolding windows_size
    register-table =
        let up = above-base in
        let even = even-table in
        let t = stream-of p.cases c h program.cases few number in
        record {
          even = omega arith;
          low = omega arith;
          high = omega (arith, inside-tables (256 * h + 248) (omega arith));
          dwords = λ s e i l. register s (of-case s e) i l;
          area = register t.0 (of-case t.0 t.1) 30 (omega arith) ∙
              (shaped-stream p.cases c h t.0 program.cases t.1).own;
        }

    mask-number : image_dword p (case_masks p.cases h c) ≡ slice_index mask.regs h
    unfolding case_masks
    mask-number =
        let t = stream-of p.cases c h program.cases few number in
        let s = t.0 in
        let e = of-case s t.1 in
        let a = dwords_bytes (drop 1 s.regs) in
        let n : length a ≡ 248 = length-dwords (drop 1 s.regs) ∙ omega (
          arith,
          length-drop 1 s.regs,
          typed.count c h case s here e,
        ) in
        image-dword p (table_at N c + 256 * h + 248) (slice_index mask.regs h) sizes
        (let b = typed.masks c mask there h in omega arith)
        (λ b m.
        let x : table_at N c + 256 * h + 248 + b ≡ table_at N c + 256 * h + (248 + b) = omega arith in
        ap (image_byte p) x
        ∙ (hart-byte s (248 + b) e (omega arith)
        ∙ (behind a (dword_bytes (slice_index mask.regs h)) 248 b n ∙ byte-of-dword (slice_index mask.regs h) b m)))

    pub mask-fixed : is_fixed_dword p (case_masks p.cases h c) ≡ true
    unfolding case_masks
    mask-fixed = table-dword p (table_at N c + 256 * h + 248) (omega (arith, above-base))
        (omega (arith, inside-tables (256 * h + 256) (omega arith)))

  first-byte : (k b : ℕ) → k < 768 → b < 8 → image_byte p (table_at N c + 256 * N + 8 * k + b)
      ≡ byte_of (slice_index case.first k) b
  first-byte k b l m =
      let x : table_at N c + 256 * N + 8 * k + b ≡ table_at N c + (256 * N + (8 * k + b)) = omega arith in
      ap (image_byte p) x
      ∙ (byte-at (256 * N + (8 * k + b)) (omega arith)
      ∙ (ap (λ (t : List ℕ). slice_index t (256 * N + (8 * k + b))) parts
      ∙ (behind regs (first ++ mask.bytes) (256 * N) (8 * k + b) long-regs ∙ byte-of-dwords case.first mask.bytes k b
      (omega (arith, shaped-case.first)) m)))

  pub first-table : FirstTable p c (first_at p.cases c)
  unfolding windows_size
  first-table =
      let up = above-base in
      let even = even-table in
      record {
        even = omega arith;
        low = omega arith;
        high = omega (arith, inside-tables (256 * N + 6144) (omega arith));
        dwords = λ k e i l.
            let same : case ≡ k = let q : Some case ≡ Some k = sym here ∙ e in cc in
            image-dword p (table_at N c + 256 * N + 8 * i) (slice_index case.first i) sizes (typed.first c case here i)
            (λ b m. first-byte i b l m)
            ∙ ap (λ (d : Case). slice_index d.first i) same;
      }

  mask-byte : (k : ℕ) → k < 6144 → image_byte p (case_bytes p.cases c + k) ≡ slice_index mask.bytes k
  unfolding case_bytes
  mask-byte k l =
      let n : length first ≡ 6144 = length-dwords case.first ∙ omega (arith, shaped-case.first) in
      let x : table_at N c + 256 * N + 6144 + k ≡ table_at N c + (256 * N + (6144 + k)) = omega arith in
      ap (image_byte p) x
      ∙ (byte-at (256 * N + (6144 + k)) (omega arith)
      ∙ (ap (λ (t : List ℕ). slice_index t (256 * N + (6144 + k))) parts
      ∙ (behind regs (first ++ mask.bytes) (256 * N) (6144 + k) long-regs ∙ behind first mask.bytes 6144 k n)))

  own-dword : (h j : ℕ) → j < length (owned p.cases h) → IsDword (slice_index (owned p.cases h) j)
  own-dword h j l = dword-at (owned p.cases h) (owned-dwords p h) j l

  pub byte-fixed : (h j : ℕ) → j < length (owned p.cases h)
      → is_fixed_dword p (case_bytes p.cases c + (slice_index (owned p.cases h) j - windows_base)) ≡ true
  unfolding case_bytes windows_base
  byte-fixed h j l =
      let d = own-dword h j l in
      let low = d.low in
      let high = d.high in
      let k = slice_index (owned p.cases h) j - 2162688000 in
      table-dword p (table_at N c + 256 * N + 6144 + k) (omega (arith, above-base))
      (omega (arith, inside-tables (256 * N + 6144 + k + 8) (omega arith)))

  pub has-masks : (h : ℕ) → h < N → HasMasks p mask h (image_dword p) (case_masks p.cases h c) (case_bytes p.cases c)
  unfolding image_dword windows_base
  has-masks h number = record {
    registers = mask-number h number;
    fits = λ j l. joined-lt (λ i. image_byte p (case_bytes p.cases c + (slice_index (owned p.cases h) j - 2162688000)
        + i)) 8 (λ i. image-lt p (case_bytes p.cases c + (slice_index (owned p.cases h) j - 2162688000) + i) sizes);
    dwords = λ j b l m.
        let d = own-dword h j l in
        let low = d.low in
        let high = d.high in
        let a = slice_index (owned p.cases h) j in
        let x : case_bytes p.cases c + (a - 2162688000) + b ≡ case_bytes p.cases c + (a + b - 2162688000) =
        omega arith in
        joined-byte (λ i. image_byte p (case_bytes p.cases c + (a - 2162688000) + i)) 8 b
        (λ i. image-lt p (case_bytes p.cases c + (a - 2162688000) + i) sizes) m
        ∙ (ap (image_byte p) x ∙ mask-byte (a + b - 2162688000) (omega arith));
  }
