-- What stands where in the world of a program's hart.
use Rattle.std.proofs.Common.{◌≡◌, ◌≢◌, ℕ, ◌+◌, ◌-◌, ◌*◌, ◌/◌, ◌%◌, ◌^◌, ◌<◌, ◌≤◌, length, Bool, true, false}
use Rattle.std.proofs.Common.{◌||◌, ◌==◌, Option, None, Some, inr, refl, ap, ◌∙◌, arith, eq-eqb, ne_eqb}
use Rattle.std.specs.Prelude.{slice_get, slice_index, if◌then◌else◌}
use Rattle.std.proofs.lemmas.Bool.Decides.{nat_tests}
use Rattle.std.proofs.lemmas.Bool.{or_right, and_from, false_from_ne_true}
use Rattle.tm_table.specs.declared.instr.Instr.{Instr}
use Rattle.tm_plan_cases.specs.declared.program.Program.{Program}
use Rattle.tm_plan_map.specs.Map.{text_base, tables_base, private_at, private_size}
use Rattle.tm_plan_map.specs.Slots.{instr_of}
use Rattle.tm_plan_cases.specs.Shaped.{IsProgram, IsTyped}
use Rattle.tm_world.specs.Place.{start_of, end_of, halt_of, is_text, is_table, image_byte, word_at, byte_of}
use Rattle.tm_world.specs.Kinds.{stream_at}
use Rattle.tm_runs.specs.Machine.{State}
use Rattle.tm_runs.specs.Runs.{Stopped}
use Rattle.tm_runs.specs.World.{Sizes, holds, world_of, support, support_at, bounds, bounds_at, is_fixed_dword}
use Rattle.tm_runs.specs.World.{is_private_dword, image_dword}
use Rattle.tm_runs.proofs.Bytes.{same_dword, joined-byte, joined-lt}
use Rattle.tm_plan_map.proofs.Within.{within-true, within-false}
use Rattle.tm_runs.proofs.Places.{private-image, image-lt, fixed-place}

-- the sizes of a program's parts, by what is checked of it and what its types give
pub sizes-of : (p : Program) → IsProgram p → IsTyped p → Sizes p
sizes-of p is typed = record {
  harts = omega (arith, is.cases.harts);
  text = is.text.1;
  tables = is.tables;
  words = typed.text;
  bytes = typed.tables;
}

-- ---- support code

pub fetched : (p : Program) (h pc w : ℕ) (i : Instr) → stream_at p h pc ≡ None → pc ≢ halt_of p h
    → word_at p pc ≡ Some w → instr_of w ≡ Some i → support_at p h pc ≡ Some i
unfolding support_at
fetched p h pc w i out goes word is =
    ap (λ (o : Option ℕ). support o (pc == halt_of p h) (word_at p pc)) out
    ∙ (ap (λ (b : Bool). support None b (word_at p pc)) (ne_eqb pc (halt_of p h) goes)
    ∙ (ap (λ (o : Option ℕ). support None false o) word ∙ is))

text-aligned : (n : ℕ) → ((text_base + 4 * n) % 4 == 0) ≡ true
unfolding text_base
text-aligned n = eq-eqb ((text_base + 4 * n) % 4) 0 (omega arith)

-- the k-th word of the text
pub text-at : (p : Program) (k : ℕ) → k < length p.text → word_at p (text_base + 4 * k) ≡ slice_get p.text k
text-at p k l =
    let pc = text_base + 4 * k in
    let place : (pc - text_base) / 4 ≡ k = omega arith in
    let inside : is_text p pc ≡ true = within-true text_base (4 * length p.text) pc (omega arith) (omega arith) in
    ap (λ (b : Bool). if b then slice_get p.text ((pc - text_base) / 4) else None)
    (and_from _ _ (text-aligned k) inside) ∙ ap
    (λ (n : ℕ). slice_get p.text n) place

-- no step is made at the halt mark, which is in no stream
pub stopped : (p : Program) (h : ℕ) (t : State) → stream_at p h (halt_of p h) ≡ None → t.pc ≡ halt_of p h
    → Stopped (world_of p h) t
unfolding support_at bounds_at
stopped p h t out at = (
  ap (λ (x : ℕ). support (stream_at p h x) (x == halt_of p h) (word_at p x)) at
      ∙ (ap (λ (o : Option ℕ). support o (halt_of p h == halt_of p h) (word_at p (halt_of p h))) out
      ∙ ap (λ (b : Bool). support None b (word_at p (halt_of p h))) (eq-eqb (halt_of p h) (halt_of p h) refl)),
  ap (λ (x : ℕ). bounds p h (stream_at p h x)) at ∙ ap (bounds p h) out,
)

-- the bounds of the stream that holds an address
pub held : (p : Program) (h c pc : ℕ) → stream_at p h pc ≡ Some c
    → bounds_at p h pc ≡ Some (start_of p h c, end_of p h c)
unfolding bounds_at
held p h c pc e = ap (bounds p h) e

-- ---- dwords

-- 8 bytes in an area
pub holds-is : (base n a : ℕ) → base ≤ a → a + 8 ≤ base + n → holds base n a ≡ true
holds-is base n a p q = grind (arith, nat_tests)

pub private-dword : (h a : ℕ) → private_at h ≤ a → a + 8 ≤ private_at h + private_size → is_private_dword h a ≡ true
unfolding is_private_dword
private-dword h a p q = holds-is (private_at h) private_size a p q

pub table-dword : (p : Program) (a : ℕ) → tables_base ≤ a → a + 8 ≤ tables_base + length p.tables
    → is_fixed_dword p a ≡ true
unfolding is_fixed_dword
table-dword p a l m = or_right (holds text_base (4 * length p.text) a) _ (holds-is tables_base (length p.tables) a l m)

pub own-private : (p : Program) (h a : ℕ) → is_private_dword h a ≡ true → (world_of p h).own a ≡ true
own-private p h a e = ap (λ (b : Bool). b || is_fixed_dword p a) e

pub own-fixed : (p : Program) (h a : ℕ) → is_fixed_dword p a ≡ true → (world_of p h).own a ≡ true
own-fixed p h a e = or_right (is_private_dword h a) (is_fixed_dword p a) e

-- flags, verdicts, private areas and windows stand behind text and tables
pub not-fixed : (p : Program) (a : ℕ) → Sizes p → 0x80C00000 ≤ a → is_fixed_dword p a ≡ false
not-fixed p a s l = false_from_ne_true (is_fixed_dword p a) (λ e. let q = fixed-place p a s e in omega arith)

-- the image's dword, by its bytes
pub image-dword : (p : Program) (a v : ℕ) → Sizes p → v < 2 ^ 64
    → ((i : ℕ) → i < 8 → image_byte p (a + i) ≡ byte_of v i) → image_dword p a ≡ v
unfolding image_dword
image-dword p a v s small h =
    same_dword _ v (joined-lt (λ j. image_byte p (a + j)) 8 (λ j. image-lt p (a + j) s)) small
    (λ i l. joined-byte (λ j. image_byte p (a + j)) 8 i (λ j. image-lt p (a + j) s) l ∙ h i l)

pub image-table : (p : Program) (k : ℕ) → Sizes p → k < length p.tables → image_byte p (tables_base + k)
    ≡ slice_index p.tables k
unfolding text_base tables_base
image-table p k s l =
    let b = tables_base + k in
    let t : is_text p b ≡ false = within-false text_base (4 * length p.text) b (inr (omega (arith, s.text))) in
    let u : is_table p b ≡ true = within-true tables_base (length p.tables) b (omega arith) (omega arith) in
    let e : b - tables_base ≡ k = omega arith in
    ap (λ (c : Bool). if c then byte_of (slice_index p.text ((b - text_base) / 4)) ((b - text_base) % 4)
    else (if is_table p b then slice_index p.tables (b - tables_base) else 0)) t
    ∙ (ap (λ (c : Bool). if c then slice_index p.tables (b - tables_base)
    else 0) u ∙ ap (λ (n : ℕ). slice_index p.tables n) e)

-- private areas begin as 0
pub image-private : (p : Program) (h a : ℕ) → Sizes p → h < 16 → is_private_dword h a ≡ true → image_dword p a ≡ 0
image-private p h a s l e = image-dword p a 0 s (omega arith) (λ i m. private-image p h a i s l e m ∙ none i)
  where
    none : (i : ℕ) → 0 ≡ byte_of 0 i
    none i = grind (arith)
