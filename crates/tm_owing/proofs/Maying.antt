-- Who may write a byte.
use Rattle.std.proofs.Common.{◌≡◌, ◌≢◌, ℕ, zero, suc, ◌+◌, ◌-◌, ◌*◌, ◌/◌, ◌%◌, ◌<◌, ◌≤◌, List, [], ◌∷◌, ◌++◌, Bool}
use Rattle.std.proofs.Common.{true}
use Rattle.std.proofs.Common.{false, ◌&&◌, ◌||◌, ◌==◌, not, ◌⊎◌, inl, inr, refl, sym, ap, ap₂, ◌∙◌, subst, length}
use Rattle.std.proofs.Common.{arith}
use Rattle.std.proofs.Common.{add-one, nat_le}
use Rattle.std.specs.Prelude.{if◌then◌else◌, IsTrue, IsFalse, slice_index}
use Rattle.std.proofs.lemmas.Bool.{cases_Bool, cases_eq, true≢false, or_parts, le-leb, eq-eqb, ne_eqb}
use Rattle.tm_plan_cases.specs.declared.program.Program.{Program}
use Rattle.tm_plan_cases.specs.Shaped.{IsProgram}
use Rattle.tm_plan_cases.proofs.Counted.{counted}
use Rattle.tm_plan_map.specs.Map.{text_base, tables_base, windows_base, windows_size}
use Rattle.tm_base.specs.Lists.{any, count_from}
use Rattle.tm_plan_map.proofs.Within.{within-false}
use Rattle.tm_plan_map.proofs.Within.{within-parts}
use Rattle.tm_world.specs.Lists.{those}
use Rattle.tm_world.specs.Place.{harts, is_flag, is_verdict, is_private, is_window, is_text, is_table, image_byte}
use Rattle.tm_world.specs.Place.{byte_of}
use Rattle.tm_world.specs.Writers.{may_write, may_write_window, writers}
use Rattle.tm_world.specs.Kinds.{another}
use Rattle.tm_legal.proofs.Areas.{those-one, those-none}
use Rattle.tm_owing.specs.May.{is_many}

-- ---- another writer

and-true : (b : Bool) → (b && true) ≡ b
and-true true = refl
and-true false = refl

and-false : (b : Bool) → (b && false) ≡ false
and-false true = refl
and-false false = refl

pub another-any : (h : ℕ) (test : ℕ → Bool) (xs : List ℕ)
    → another h (those test xs) ≡ any (λ g. not (g == h) && test g) xs
another-any h test [] = refl
another-any h test (x ∷ xs) = by (test x) refl (another-any h test xs)
  where
    by : (t : Bool) → test x ≡ t → another h (those test xs) ≡ any (λ g. not (g == h) && test g) xs
        → another h (those test (x ∷ xs)) ≡ any (λ g. not (g == h) && test g) (x ∷ xs)
    by true e later =
        ap (λ (b : Bool). another h (if b then x ∷ those test xs else those test xs)) e
        ∙ (ap (λ (b : Bool). not (x == h) || b) later
        ∙ ap (λ (b : Bool). b || any (λ g. not (g == h) && test g) xs)
        (sym (and-true (not (x == h))) ∙ ap (λ (b : Bool). not (x == h) && b) (sym e)))
    by false e later =
        ap (λ (b : Bool). another h (if b then x ∷ those test xs else those test xs)) e
        ∙ (later
        ∙ ap (λ (b : Bool). b || any (λ g. not (g == h) && test g) xs)
        (sym (and-false (not (x == h))) ∙ ap (λ (b : Bool). not (x == h) && b) (sym e)))

pub any-each : (test : ℕ → Bool) (n a g : ℕ) → any test (count_from a n) ≡ false → a ≤ g → g < a + n → test g ≡ false
any-each test zero a g e l m = absurd (omega arith)
any-each test (suc n) a g e l m =
    let parts = or_parts (test a) (any test (count_from (suc a) n)) e in
    elim (cases_eq a g) [
      | inl z ↦ subst (λ (k : ℕ). test k ≡ false) z parts.0
      | inr z ↦ any-each test n (suc a) g parts.1 (omega arith) (omega arith)
    ]

not-same : (g h : ℕ) (t : Bool) → g ≢ h → (not (g == h) && t) ≡ false → t ≡ false
not-same g h t n e = sym (ap (λ (b : Bool). not b && t) (ne_eqb g h n)) ∙ e

-- where no other hart may write it, no other hart may
pub none-other : (p : Program) (q h b g : ℕ) → another h (writers p q b) ≡ false → g < harts p → g ≢ h
    → may_write p q g b ≡ false
none-other p q h b g e l n =
    not-same g h (may_write p q g b) n
    (any-each (λ k. not (k == h) && may_write p q k b) (harts p) 0 g
    (sym (another-any h (λ k. may_write p q k b) (count_from 0 (harts p))) ∙ e) (omega arith) (omega arith))

-- so its writers are that hart, or nobody
pub writers-one : (p : Program) (q h b : ℕ) → h < harts p
    → ((g : ℕ) → g < harts p → g ≢ h → may_write p q g b ≡ false) → may_write p q h b ≡ true
    → writers p q b ≡ h ∷ []
writers-one p q h b l n t =
    those-one (λ g. may_write p q g b) (harts p) 0 h (omega arith) (omega arith) t
    (λ g x y z. n g (omega arith) z)

pub writers-none : (p : Program) (q h b : ℕ) → ((g : ℕ) → g < harts p → g ≢ h → may_write p q g b ≡ false)
    → may_write p q h b ≡ false → writers p q b ≡ []
writers-none p q h b n t =
    those-none (λ g. may_write p q g b) (harts p) 0 (λ g x y. by g y (cases_eq g h))
  where
    by : (g : ℕ) → g < 0 + harts p → (g ≡ h) ⊎ (g ≡ h → ⊥) → may_write p q g b ≡ false
    by g y (inl e) = subst (λ (k : ℕ). may_write p q k b ≡ false) (sym e) t
    by g y (inr z) = n g (omega arith) z

-- a writer may write
those-head : (test : ℕ → Bool) (xs : List ℕ) (h : ℕ) (ws : List ℕ) → those test xs ≡ h ∷ ws → test h ≡ true
those-head test [] h ws e = cc
those-head test (x ∷ xs) h ws e = by (test x) refl (those-head test xs h ws)
  where
    by : (t : Bool) → test x ≡ t → (those test xs ≡ h ∷ ws → test h ≡ true) → test h ≡ true
    by true d later =
        let all : x ∷ those test xs ≡ h ∷ ws =
        sym (ap (λ (b : Bool). if b then x ∷ those test xs else those test xs) d) ∙ e in
        let same : x ≡ h = cc in
        subst (λ (k : ℕ). test k ≡ true) same d
    by false d later =
        later (sym (ap (λ (b : Bool). if b then x ∷ those test xs else those test xs) d) ∙ e)

pub writer-may : (p : Program) (q b h : ℕ) (ws : List ℕ) → writers p q b ≡ h ∷ ws → may_write p q h b ≡ true
writer-may p q b h ws e = those-head (λ g. may_write p q g b) (count_from 0 (harts p)) h ws e

-- ---- several writers

those-snoc : (test : ℕ → Bool) (xs : List ℕ) (x : ℕ)
    → length (those test (xs ++ x ∷ [])) ≡ (if test x then suc (length (those test xs)) else length (those test xs))
those-snoc test [] x = by (test x)
  where
    by : (t : Bool) → length (if t then x ∷ [] else []) ≡ (if t then 1 else 0)
    by true = refl
    by false = refl
those-snoc test (y ∷ xs) x = by (test y) (test x) (those-snoc test xs x)
  where
    by : (t u : Bool)
        → length (those test (xs ++ x ∷ [])) ≡ (if u then suc (length (those test xs)) else length (those test xs))
        → length (if t then y ∷ those test (xs ++ x ∷ []) else those test (xs ++ x ∷ []))
        ≡ (if u then suc (length (if t then y ∷ those test xs else those test xs))
        else length (if t then y ∷ those test xs else those test xs))
    by true true h = omega arith
    by true false h = omega arith
    by false true h = h
    by false false h = h

-- one number more
pub those-more : (test : ℕ → Bool) (k : ℕ)
    → length (those test (count_from 0 (k + 1))) ≡ length (those test (count_from 0 k)) + (if test k then 1 else 0)
those-more test k =
    let more : count_from 0 (k + 1) ≡ count_from 0 k ++ k ∷ [] = rw add-one (counted 0 k k (omega arith)) in
    ap (λ (xs : List ℕ). length (those test xs)) more ∙ (those-snoc test (count_from 0 k) k ∙ by (test k))
  where
    by : (t : Bool) → (if t then suc (length (those test (count_from 0 k))) else length (those test (count_from 0 k)))
        ≡ length (those test (count_from 0 k)) + (if t then 1 else 0)
    by true = omega arith
    by false = omega arith

pub many-count : (ws : List ℕ) → is_many ws ≡ nat_le 2 (length ws)
many-count [] = refl
many-count (h ∷ []) = refl
many-count (h ∷ g ∷ more) = sym (le-leb 2 (length (h ∷ g ∷ more)) (omega arith))

-- ---- outside the windows

-- phases don't matter there
pub still-may : (p : Program) (q n h b : ℕ) → is_window b ≡ false → may_write p n h b ≡ may_write p q h b
still-may p q n h b e =
    let away : (k : ℕ) → (is_window b && may_write_window p k h b) ≡ false =
    λ k. ap (λ (t : Bool). t && may_write_window p k h b) e in
    ap (λ (t : Bool). is_flag h b || (is_verdict p h b || (is_private h b || t))) (away n ∙ sym (away q))

-- ---- the image

pub window-zero : (p : Program) (b : ℕ) → IsProgram p → is_window b ≡ true → image_byte p b ≡ 0
unfolding text_base tables_base windows_base windows_size
window-zero p b shaped e =
    let place = within-parts windows_base windows_size b e in
    let x : is_text p b ≡ false =
    within-false text_base (4 * length p.text) b (inr (omega (arith, place, shaped.text))) in
    let y : is_table p b ≡ false =
    within-false tables_base (length p.tables) b (inr (omega (arith, place, shaped.tables))) in
    ap (λ (c : Bool). if c then byte_of (slice_index p.text ((b - text_base) / 4)) ((b - text_base) % 4)
    else (if is_table p b then slice_index p.tables (b - tables_base) else 0)) x
    ∙ ap (λ (c : Bool). if c then slice_index p.tables (b - tables_base) else 0) y
