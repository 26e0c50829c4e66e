-- Who may write where: text and tables have no writer, and a private byte has one.
use Rattle.std.proofs.Common.{◌≡◌, ◌≢◌, ℕ, zero, suc, ◌+◌, ◌-◌, ◌*◌, ◌/◌, ◌%◌, ◌<◌, ◌≤◌, List, [], ◌∷◌, length, Bool}
use Rattle.std.proofs.Common.{true, false, ◌&&◌, ◌||◌, ◌==◌, ◌⊎◌, inl, inr, refl, sym, ap, ap₂, ◌∙◌, arith, eq-eqb}
use Rattle.std.proofs.Common.{eqb-true}
use Rattle.std.specs.Prelude.{IsTrue, IsFalse, if◌then◌else◌, slice_index}
use Rattle.std.proofs.lemmas.Bool.{true≢false, cases_lt, or_cases, or_from, or_left, or_right}
use Rattle.tm_plan_cases.specs.declared.program.Program.{Program}
use Rattle.tm_plan_map.specs.Map.{text_base, tables_base, flag_at, verdict_at, private_at, private_size, windows_base}
use Rattle.tm_plan_map.specs.Map.{windows_size, within}
use Rattle.tm_base.specs.Lists.{count_from}
use Rattle.tm_base.proofs.ListLemmas.{any-no-number}
use Rattle.tm_world.specs.Lists.{those}
use Rattle.tm_world.specs.Place.{harts, case_count, is_text, is_table, is_flag, is_verdict, is_private, image_byte}
use Rattle.tm_world.specs.Place.{byte_of}
use Rattle.tm_world.specs.Writers.{may_write, may_write_window, may_write_running, case_of_phase, writers}
use Rattle.tm_runs.specs.World.{Sizes}
use Rattle.tm_plan_map.proofs.Within.{within-parts, within-false}
use Rattle.tm_legal.specs.Tame.{Formed}
use Rattle.tm_legal.proofs.Formed.{formed-sizes}
use Rattle.tm_plan_cases.specs.Collected.{collector}

-- ---- lists of harts and cases

pub those-none : (test : ℕ → Bool) (n a : ℕ) → ((c : ℕ) → a ≤ c → c < a + n → test c ≡ false)
    → those test (count_from a n) ≡ []
those-none test zero a h = refl
those-none test (suc n) a h = ap (λ (b : Bool). if b then a ∷ those test (count_from (suc a) n)
    else those test (count_from (suc a) n)) (h a (omega arith) (omega arith)) ∙ those-none test n (suc a)
    (λ c l m. h c (omega arith) (omega arith))

pub those-one : (test : ℕ → Bool) (n a g : ℕ) → a ≤ g → g < a + n → test g ≡ true
    → ((c : ℕ) → a ≤ c → c < a + n → c ≢ g → test c ≡ false) → those test (count_from a n) ≡ g ∷ []
those-one test zero a g l m t h = absurd (omega arith)
those-one test (suc n) a g l m t h =
    by (a == g) refl (λ k. those-one test n (suc a) g k (omega arith) t (λ c x y z. h c (omega arith) (omega arith) z))
  where
    by : (b : Bool) → (a == g) ≡ b → (suc a ≤ g → those test (count_from (suc a) n) ≡ g ∷ [])
        → (if test a then a ∷ those test (count_from (suc a) n) else those test (count_from (suc a) n)) ≡ g ∷ []
    by true e later =
        let same : a ≡ g = eqb-true a g e in
        ap (λ (b : Bool). if b then a ∷ those test (count_from (suc a) n) else those test (count_from (suc a) n))
        (ap test same ∙ t)
        ∙ ap₂ (λ (x : ℕ) (xs : List ℕ). x ∷ xs) same
        (those-none test n (suc a) (λ c x y. h c (omega arith) (omega arith) (λ z. omega arith)))
    by false e later =
        let ne : a ≢ g = λ z. true≢false (sym (eq-eqb a g z) ∙ e) in
        ap (λ (b : Bool). if b then a ∷ those test (count_from (suc a) n) else those test (count_from (suc a) n))
        (h a (omega arith) (omega arith) ne) ∙ later (omega arith)

-- ---- text and tables

pub image-place : (p : Program) (b : ℕ) → Sizes p → (is_text p b || is_table p b) ≡ true → b < 0x80C00000
unfolding text_base tables_base
image-place p b s e = by (or_cases (is_text p b) (is_table p b) e)
  where
    by : (is_text p b ≡ true) ⊎ (is_table p b ≡ true) → b < 0x80C00000
    by (inl t) = let q = within-parts text_base (4 * length p.text) b t in omega (arith, q, s.text)
    by (inr t) = let q = within-parts tables_base (length p.tables) b t in omega (arith, q, s.tables)

-- flags, verdict cells, private areas and windows stand behind text and tables
behind : (p : Program) (q g b : ℕ) → b < 0x80C00000 → may_write p q g b ≡ false
unfolding flag_at verdict_at private_at windows_base
behind p q g b l =
    or_from (is_flag g b) _ (within-false (flag_at g) 8 b (inl (omega arith)))
    (or_from (is_verdict p g b) _ (any-no-number (λ c. within (verdict_at c g) 8 b) (case_count p) 0
    (λ c _ _. within-false (verdict_at c g) 8 b (inl (omega arith))))
    (or_from (is_private g b) _ (within-false (private_at g) private_size b (inl (omega arith)))
    (ap (λ (t : Bool). t && may_write_window p q g b) (within-false windows_base windows_size b (inl (omega arith))))))

pub image-writers : (p : Program) (q b : ℕ) → Sizes p → (is_text p b || is_table p b) ≡ true → writers p q b ≡ []
image-writers p q b s e =
    those-none (λ h. may_write p q h b) (harts p) 0 (λ g _ _. behind p q g b (image-place p b s e))

-- what a hart may write is no byte of text or tables
pub may-spares : (p : Program) (q g b : ℕ) → Sizes p → IsTrue (may_write p q g b)
    → IsFalse (is_text p b || is_table p b)
may-spares p q g b s e = by (is_text p b || is_table p b) refl
  where
    by : (t : Bool) → (is_text p b || is_table p b) ≡ t → t ≡ false
    by false r = refl
    by true r = absurd (true≢false (sym e ∙ behind p q g b (image-place p b s r)))

-- ---- private areas

private-place : (h b : ℕ) → h < 8 → is_private h b ≡ true → (0x80C10000 + 0x20000 * h ≤ b)
    × (b < 0x80C10000 + 0x20000 * h + 0x20000)
unfolding private_at private_size
private-place h b l e = let q = within-parts (private_at h) private_size b e in (omega (arith, q), omega (arith, q))

others-not : (p : Program) (q h g b : ℕ) → Formed p → h < 8 → g < 8 → g ≢ h → is_private h b ≡ true
    → may_write p q g b ≡ false
unfolding flag_at verdict_at private_at private_size windows_base
others-not p q h g b formed l m n e =
    let place = private-place h b l e in
    let few = formed.program.cases.count in
    or_from (is_flag g b) _ (within-false (flag_at g) 8 b (inr (omega (arith, place))))
    (or_from (is_verdict p g b) _ (any-no-number (λ c. within (verdict_at c g) 8 b) (case_count p) 0
    (λ c _ y. within-false (verdict_at c g) 8 b (inr (omega (arith, place, few)))))
    (or_from (is_private g b) _ (within-false (private_at g) private_size b (apart place))
    (ap (λ (t : Bool). t && may_write_window p q g b)
    (within-false windows_base windows_size b (inl (omega (arith, place)))))))
  where
    apart : (0x80C10000 + 0x20000 * h ≤ b) × (b < 0x80C10000 + 0x20000 * h + 0x20000) → (b < private_at g)
        ⊎ (private_at g + private_size ≤ b)
    apart place = side (cases_lt g h)
      where
        side : (g < h) ⊎ (h ≤ g) → (b < private_at g) ⊎ (private_at g + private_size ≤ b)
        side (inl k) = inr (omega (arith, place))
        side (inr k) = inl (omega (arith, place))

pub private-writers : (p : Program) (q h b : ℕ) → Formed p → h < harts p → is_private h b ≡ true
    → writers p q b ≡ h ∷ []
private-writers p q h b formed l e =
    let limit = (formed-sizes formed).harts in
    let may : may_write p q h b ≡ true =
    or_right (is_flag h b) _ (or_right (is_verdict p h b) _ (or_left (is_private h b) _ e)) in
    those-one (λ g. may_write p q g b) (harts p) 0 h (omega arith) (omega arith) may
    (λ g _ y n. others-not p q h g b formed (omega arith) (omega arith) n e)

-- behind text and tables the image holds 0
pub image-zero : (p : Program) (b : ℕ) → Formed p → flag_at 0 ≤ b → image_byte p b ≡ 0
unfolding text_base tables_base flag_at
image-zero p b formed l =
    let x : is_text p b ≡ false =
    within-false text_base (4 * length p.text) b (inr (omega (arith, (formed-sizes formed).text))) in
    let y : is_table p b ≡ false =
    within-false tables_base (length p.tables) b (inr (omega (arith, (formed-sizes formed).tables))) in
    ap (λ (c : Bool). if c then byte_of (slice_index p.text ((b - text_base) / 4)) ((b - text_base) % 4)
    else (if is_table p b then slice_index p.tables (b - tables_base) else 0)) x
    ∙ ap (λ (c : Bool). if c then slice_index p.tables (b - tables_base) else 0) y

pub private-zero : (p : Program) (h b : ℕ) → Formed p → h < harts p → is_private h b ≡ true → image_byte p b ≡ 0
unfolding flag_at
private-zero p h b formed l e =
    let limit = (formed-sizes formed).harts in
    let place = private-place h b (omega arith) e in
    image-zero p b formed (omega (arith, place))

-- in an even phase a window byte is its collector's
pub even-may : (p : Program) (q h b : ℕ) → q % 2 ≡ 0 → may_write_window p q h b ≡ (collector p.cases b == h)
even-may p q h b e = ap (λ (t : Bool). if t then collector p.cases b == h
    else may_write_running p (case_of_phase p q) h b) (eq-eqb (q % 2) 0 e)
