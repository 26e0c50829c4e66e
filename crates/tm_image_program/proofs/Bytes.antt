-- Table bytes are bytes.
use Rattle.std.proofs.Common.{◌≡◌, ◌<◌, ◌⊎◌, inl, inr, ℕ, zero, suc, List, [], ◌∷◌, ◌++◌, drop, All, slice_index}
use Rattle.std.proofs.Common.{arith, lit<}
use Rattle.tm_plan_cases.specs.declared.cases.Cases.{Cases}
use Rattle.tm_plan_cases.specs.declared.cases.Case.{Case}
use Rattle.tm_plan_cases.specs.declared.cases.Stream.{Stream}
use Rattle.tm_plan_cases.specs.declared.masks.Masks.{Masks}
use Rattle.tm_plan_cases.specs.declared.masks.CaseMask.{CaseMask}
use Rattle.tm_plan_cases.specs.Shaped.{IsShapedMask, MasksFit}
use Rattle.tm_plan_cases.specs.Tables.{dword_bytes, dwords_bytes, hart_table, hart_tables, case_table, case_tables}
use Rattle.tm_plan_cases.specs.Tables.{table_bytes}

-- each number is below 256
abbrev pub AreBytes : List ℕ → Type 0
AreBytes [] = Unit {0}
AreBytes (x ∷ xs) = (x < 256) × AreBytes xs

byte-at : (xs : List ℕ) → AreBytes xs → (k : ℕ) → slice_index xs k < 256
byte-at [] h k = lit< tt
byte-at (x ∷ xs) h zero = h.0
byte-at (x ∷ xs) h (suc k) = byte-at xs h.1 k

bytes-append : (xs ys : List ℕ) → AreBytes xs → AreBytes ys → AreBytes (xs ++ ys)
bytes-append [] ys h g = g
bytes-append (x ∷ xs) ys h g = (h.0, bytes-append xs ys h.1 g)

dword-bytes : (v : ℕ) → AreBytes (dword_bytes v)
unfolding dword_bytes
dword-bytes v = (
  omega arith,
  (omega arith, (omega arith, (omega arith, (omega arith, (omega arith, (omega arith, (omega arith, tt))))))),
)

dwords-bytes : (vs : List ℕ) → AreBytes (dwords_bytes vs)
dwords-bytes [] = tt
dwords-bytes (v ∷ vs) = bytes-append (dword_bytes v) (dwords_bytes vs) (dword-bytes v) (dwords-bytes vs)

hart-bytes : (s : Stream) (mask : ℕ) → AreBytes (hart_table s mask)
hart-bytes s mask = bytes-append (dwords_bytes (drop 1 s.regs)) (dword_bytes mask) (dwords-bytes (drop 1 s.regs))
    (dword-bytes mask)

harts-bytes : (ss : List Stream) (masks : List ℕ) → AreBytes (hart_tables ss masks)
harts-bytes [] masks = tt
harts-bytes (s ∷ ss) [] = tt
harts-bytes (s ∷ ss) (mask ∷ masks) = bytes-append (hart_table s mask) (hart_tables ss masks) (hart-bytes s mask)
    (harts-bytes ss masks)

end-byte : (b : ℕ) → (b ≡ 0) ⊎ (b ≡ 255) → b < 256
end-byte b (inl e) = omega arith
end-byte b (inr e) = omega arith

ends-bytes : (bs : List ℕ) → All (λ b. (b ≡ 0) ⊎ (b ≡ 255)) bs → AreBytes bs
ends-bytes [] each = tt
ends-bytes (b ∷ bs) each = (end-byte b (each 0 b (omega arith)), ends-bytes bs (λ k d l. each (suc k) d (omega arith)))

case-bytes : (cases : Cases) (case : Case) (mask : CaseMask) → IsShapedMask cases mask → AreBytes (case_table case mask)
case-bytes cases case mask is =
    bytes-append (hart_tables case.streams mask.regs ++ dwords_bytes case.first) mask.bytes
    (bytes-append (hart_tables case.streams mask.regs) (dwords_bytes case.first) (harts-bytes case.streams mask.regs)
    (dwords-bytes case.first))
    (ends-bytes mask.bytes is.ends)

cases-bytes : (all : Cases) (cs : List Case) (ms : List CaseMask) → All (IsShapedMask all) ms
    → AreBytes (case_tables cs ms)
cases-bytes all [] ms each = tt
cases-bytes all (c ∷ cs) [] each = tt
cases-bytes all (c ∷ cs) (m ∷ ms) each =
    bytes-append (case_table c m) (case_tables cs ms) (case-bytes all c m (each 0 m (omega arith)))
    (cases-bytes all cs ms (λ k d l. each (suc k) d (omega arith)))

pub tables-bytes : (cases : Cases) (masks : Masks) → MasksFit cases masks → (k : ℕ)
    → slice_index (table_bytes cases masks) k < 256
unfolding table_bytes
tables-bytes cases masks fit =
    byte-at (case_tables cases.cases masks.cases) (cases-bytes cases cases.cases masks.cases fit.each)
