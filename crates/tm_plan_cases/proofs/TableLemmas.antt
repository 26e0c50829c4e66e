-- How long tables are, and where they stand.
use Rattle.std.proofs.Common.{◌≡◌, ℕ, zero, suc, ◌+◌, ◌-◌, ◌*◌, List, [], ◌∷◌, ◌++◌, length, take, drop, Some, refl}
use Rattle.std.proofs.Common.{sym, ap, ap₂, ◌∙◌, arith, length-append, length-drop}
use Rattle.std.specs.Prelude.{slice_get, All}
use Rattle.std.proofs.Math.Seq.{take-append_seam, drop-append-add}
use Rattle.tm_plan_cases.specs.declared.cases.Cases.{Cases}
use Rattle.tm_plan_cases.specs.declared.cases.Case.{Case}
use Rattle.tm_plan_cases.specs.declared.cases.Stream.{Stream}
use Rattle.tm_plan_cases.specs.declared.masks.Masks.{Masks}
use Rattle.tm_plan_cases.specs.declared.masks.CaseMask.{CaseMask}
use Rattle.tm_plan_map.specs.Map.{tables_base, table_at}
use Rattle.tm_plan_cases.specs.Shaped.{IsShapedCase, IsShapedMask}
use Rattle.tm_plan_cases.specs.Tables.{dword_bytes, dwords_bytes, hart_table, hart_tables, case_table, case_tables}
use Rattle.tm_plan_cases.specs.Tables.{table_bytes}
use Rattle.tm_plan_cases.specs.Layout.{table_size, TablesStand}

-- ---- lengths

pub length-dword : (v : ℕ) → length (dword_bytes v) ≡ 8
unfolding dword_bytes
length-dword v = refl

pub length-dwords : (vs : List ℕ) → length (dwords_bytes vs) ≡ 8 * length vs
length-dwords [] = refl
length-dwords (v ∷ vs) = length-append (dword_bytes v) (dwords_bytes vs) ∙ omega (
  arith,
  length-dword v,
  length-dwords vs,
)

pub length-hart : (s : Stream) (mask : ℕ) → length s.regs ≡ 32 → length (hart_table s mask) ≡ 256
length-hart s mask e =
    length-append (dwords_bytes (drop 1 s.regs)) (dword_bytes mask)
    ∙ omega (arith, length-dword mask, length-dwords (drop 1 s.regs), length-drop 1 s.regs, e)

pub length-harts : (ss : List Stream) (masks : List ℕ) → length masks ≡ length ss
    → ((h : ℕ) (s : Stream) → slice_get ss h ≡ Some s → length s.regs ≡ 32) → length (hart_tables ss masks)
    ≡ 256 * length ss
length-harts [] masks e h = refl
length-harts (s ∷ ss) [] e h = absurd (omega arith)
length-harts (s ∷ ss) (m ∷ ms) e h =
    length-append (hart_table s m) (hart_tables ss ms)
    ∙ omega (arith, length-hart s m (h 0 s refl), length-harts ss ms (omega arith) (λ k t q. h (suc k) t q))

pub length-case : (case : Case) (mask : CaseMask) (n : ℕ) → length case.streams ≡ n → length case.first ≡ 768
    → length mask.regs ≡ n → length mask.bytes ≡ 6144
    → ((h : ℕ) (s : Stream) → slice_get case.streams h ≡ Some s → length s.regs ≡ 32) → length (case_table case mask)
    ≡ table_size n
length-case case mask n a b c d h =
    length-append (hart_tables case.streams mask.regs ++ dwords_bytes case.first) mask.bytes
    ∙ omega (
      arith,
      length-append (hart_tables case.streams mask.regs) (dwords_bytes case.first),
      length-harts case.streams mask.regs (c ∙ sym a) h,
      length-dwords case.first,
    )

-- ---- tables of one length, one after another

-- the tables of these cases have length n
pub data OfLength (n : ℕ) : List Case → List CaseMask → Type 0 where
  Nothing : OfLength n [] []
  More : {case : Case} {mask : CaseMask} {cs : List Case} {ms : List CaseMask} → length (case_table case mask) ≡ n
      → OfLength n cs ms → OfLength n (case ∷ cs) (mask ∷ ms)

whole : (n : ℕ) (cs : List Case) (ms : List CaseMask) → OfLength n cs ms → length (case_tables cs ms) ≡ length cs * n
whole n cs ms Nothing = omega arith
whole n (case ∷ cs) (mask ∷ ms) (More e h) = length-append (case_table case mask) (case_tables cs ms) ∙ ap₂
    (λ (a b : ℕ). a + b) e (whole n cs ms h) ∙ next (length cs)
  where
    next : (k : ℕ) → n + k * n ≡ suc k * n
    next k = grind arith

-- the table of a case
found : (n c : ℕ) (cs : List Case) (ms : List CaseMask) (case : Case) (mask : CaseMask) → OfLength n cs ms
    → slice_get cs c ≡ Some case → slice_get ms c ≡ Some mask
    → take n (drop (c * n) (case_tables cs ms)) ≡ case_table case mask
found n c cs ms case mask Nothing e f = absurd (cc)
found n zero (d ∷ cs) (m ∷ ms) case mask (More h more) e f =
    let table = case_table d m in
    let none : 0 * n ≡ 0 = omega arith in
    let same : case_table d m ≡ case_table case mask = ap₂ case_table (some-same e) (some-same f) in
    ap (λ (k : ℕ). take n (drop k (table ++ case_tables cs ms))) none
    ∙ (ap (λ (k : ℕ). take k (table ++ case_tables cs ms)) (sym h) ∙
    (take-append_seam table (case_tables cs ms) ∙ same))
  where
    some-same : {A : Type 0} {x y : A} → Some x ≡ Some y → x ≡ y
    some-same q = cc
found n (suc c) (d ∷ cs) (m ∷ ms) case mask (More h more) e f =
    let table = case_table d m in
    let next : suc c * n ≡ length table + c * n = times c ∙ ap (λ (k : ℕ). k + c * n) (sym h) in
    ap (λ (k : ℕ). take n (drop k (table ++ case_tables cs ms))) next
    ∙ (ap (λ (l : List ℕ). take n l) (drop-append-add table (case_tables cs ms) (c * n)) ∙ found n c cs ms case mask
    more e f)
  where
    times : (k : ℕ) → suc k * n ≡ n + k * n
    times k = grind arith

-- ---- shaped cases, and masks that fit

module _ (all : Cases) where
  of-length : (cs : List Case) (ms : List CaseMask) → length ms ≡ length cs → All (IsShapedCase all) cs
      → All (IsShapedMask all) ms
      → ((c h : ℕ) (case : Case) (s : Stream) → slice_get cs c ≡ Some case → slice_get case.streams h ≡ Some s
      → length s.regs ≡ 32) → OfLength (table_size all.harts) cs ms
  of-length [] [] e a b r = Nothing
  of-length [] (m ∷ ms) e a b r = absurd (omega arith)
  of-length (c ∷ cs) [] e a b r = absurd (omega arith)
  of-length (c ∷ cs) (m ∷ ms) e a b r =
      let case = a 0 c (omega arith) in
      let mask = b 0 m (omega arith) in
      More (length-case c m all.harts case.streams case.first mask.regs mask.bytes (λ h s q. r 0 h c s refl q))
      (of-length cs ms (omega arith) (λ k d l. a (suc k) d (omega arith)) (λ k d l. b (suc k) d (omega arith))
      (λ k h d s q p. r (suc k) h d s q p))

pub tables-stand : (cases : Cases) (masks : Masks) → TablesStand cases masks
unfolding table_bytes table_at
tables-stand cases masks shaped fit regs =
    let of = of-length cases cases.cases masks.cases fit.count shaped.each fit.each regs in
    let place : (c : ℕ) → table_at cases.harts c - tables_base ≡ c * table_size cases.harts = λ c. omega arith in
    record {
      whole = whole (table_size cases.harts) cases.cases masks.cases of;
      each = λ c case mask e f. ap (λ (k : ℕ). take (table_size cases.harts) (drop k (table_bytes cases masks)))
          (place c) ∙ found (table_size cases.harts) c cases.cases masks.cases case mask of e f;
    }
