-- What is computed of an access is what the table of placement says.
use Rattle.std.proofs.Common.{◌≡◌, ◌≢◌, ◌≤◌, ◌<◌, ℕ, ◌+◌, ◌-◌, ◌/◌, ◌%◌, Bool, true, false, IsTrue, ◌↔◌, Option, Some}
use Rattle.std.proofs.Common.{None, List, get_or, refl, inl, inr, sym, ◌∙◌}
use Rattle.std.proofs.lemmas.Bool.{cases_lt, cases_eq, lt-ltb, le-ltb, eq-eqb, ne_eqb, false≢true}
use Rattle.tm_plan_map.specs.declared.windows.Window.{Window}
use Rattle.tm_plan_map.specs.declared.windows.Kind2.{Kind2}
use Rattle.tm_plan_map.specs.declared.windows.Kind2.TheVariants.{True, False, Own}
use Rattle.tm_plan_map.specs.Map.{windows_base}
use Rattle.tm_place.specs.declared.placement.Placement.{Placement}
use Rattle.tm_place.specs.Sharing.{Sharing, StandsAt, MayStore, MayLoad}
use Rattle.tm_place.specs.Placed.{sharing_by, sharing_of}
use Rattle.tm_place.specs.Allowed.{line_stores, line_loads, window_stores, window_loads, window_of, place_of}
use Rattle.tm_place.specs.Allowed.{may_store_at, may_load_at}
use Rattle.tm_place.proofs.SpotLemmas.{Sound, sound-of, standing-read, nowhere-below, nowhere-none, nowhere-past}
use Rattle.tm_place.proofs.SpotLemmas.{spotted-stands}
use Rattle.tm_place.proofs.AccessLemmas.{Begins, same-test, test-same, may_store-nowhere, may_load-nowhere}
use Rattle.tm_place.proofs.AccessLemmas.{may_store-true, may_store-own, may_store-within, may_store-outside}
use Rattle.tm_place.proofs.AccessLemmas.{may_load-free, may_load-own}
use Rattle.tm_table.specs.Row.{IsWidth}

-- A sharing whose window of each number stands there in a shape.
pub record Shown (s : Sharing) (shape : List (Option Window)) : Type 0 where
  pub sound : Sound s
  pub reads : (n : ℕ) → s.window n ≡ get_or shape n None

pub shown-by : (harts line part : ℕ) (shape : List (Option Window)) → Sound (sharing_by harts line part shape)
    → Shown (sharing_by harts line part shape) shape
shown-by harts line part shape sound = record { sound = sound; reads = standing-read shape }

pub shown-of : (p : Placement) → Shown (sharing_of p) p.shape
shown-of p = shown-by p.harts p.line p.part p.shape (sound-of p)

-- ---- the window of an address

window-below : (shape : List (Option Window)) (b : ℕ) → b < 0x80E80000 → window_of shape b ≡ None
unfolding windows_base
window-below shape b low = rw (lt-ltb b 0x80E80000 low)

window-above : (shape : List (Option Window)) (b : ℕ) → 0x80E80000 ≤ b
    → window_of shape b ≡ get_or shape ((b - 0x80E80000) / 2048) None
unfolding windows_base
window-above shape b high = rw (le-ltb b 0x80E80000 high)

is-above : (shape : List (Option Window)) (b : ℕ) (v : Window) → window_of shape b ≡ Some v → 0x80E80000 ≤ b
is-above shape b v e = elim (cases_lt b 0x80E80000) [
  | inl low ↦ let wrong : None ≡ Some v = sym (window-below shape b low) ∙ e in cc
  | inr high ↦ high
]

-- where an address has no window, nothing stands
nowhere-of : (s : Sharing) (shape : List (Option Window)) (b : ℕ) → Shown s shape → window_of shape b ≡ None
    → (v : Window) (j r : ℕ) → ¬ StandsAt s b v j r
nowhere-of s shape b shown none = elim (cases_lt b 0x80E80000) [
  | inl low ↦ nowhere-below s b shown.sound low
  | inr high ↦ nowhere-none s b shown.sound (shown.reads ((b - 0x80E80000) / 2048) ∙
      (sym (window-above shape b high) ∙ none))
]

there-of : (s : Sharing) (shape : List (Option Window)) (b : ℕ) (v : Window) → Shown s shape
    → window_of shape b ≡ Some v → s.window ((b - 0x80E80000) / 2048) ≡ Some v
there-of s shape b v shown e =
    shown.reads ((b - 0x80E80000) / 2048) ∙ (sym (window-above shape b (is-above shape b v e)) ∙ e)

-- ---- an access that begins in a line

stores-by : {s : Sharing} (h b width : ℕ) {v : Window} {j r : ℕ} → Begins s b width v j r → (k : Kind2) → v.kind ≡ k
    → IsTrue (line_stores k s.harts s.part h j r (r + (width - 1))) ↔ MayStore s h b width
stores-by h b width at_it True is = (λ t. may_store-true h b width at_it is, λ m. refl)
stores-by {s} h b width {v} {j} {r} at_it False is = elim (cases_eq (r / s.part) h) [
  | inl e ↦ rw (eq-eqb (r / s.part) h e) (may_store-within h b width at_it is e)
  | inr ne ↦ rw (ne_eqb (r / s.part) h ne) (
    λ t. absurd (false≢true t),
    λ m. absurd (may_store-outside h b width at_it is ne m),
  )
]
stores-by {s} h b width {v} {j} at_it Own is = may_store-own h b width at_it is (
  same-test (j % s.harts) h,
  test-same (j % s.harts) h,
)

not-own : {k l : Kind2} → k ≡ l → l ≢ Own → k ≢ Own
not-own e not is = not (sym e ∙ is)

true-other : True ≢ Own
true-other e = cc

false-other : False ≢ Own
false-other e = cc

loads-by : {s : Sharing} (h b width : ℕ) {v : Window} {j r : ℕ} → Begins s b width v j r → (k : Kind2) → v.kind ≡ k
    → IsTrue (line_loads k s.harts h j) ↔ MayLoad s h b width
loads-by h b width at_it True is = (λ t. may_load-free h b width at_it (not-own is true-other), λ m. refl)
loads-by h b width at_it False is = (λ t. may_load-free h b width at_it (not-own is false-other), λ m. refl)
loads-by {s} h b width {v} {j} at_it Own is = may_load-own h b width at_it is (
  same-test (j % s.harts) h,
  test-same (j % s.harts) h,
)

-- ---- an aligned access, by the window of its address

-- a declared line of the window, or none
abbrev IsInLine : Sharing → ℕ → Window → Type 0
IsInLine s b v = (b - 0x80E80000) % 2048 / s.line < v.lines

begins-in : (s : Sharing) (shape : List (Option Window)) (b width : ℕ) (v : Window) → Shown s shape → IsWidth width
    → b % width ≡ 0 → window_of shape b ≡ Some v
    → IsInLine s b v → Begins s b width v ((b - 0x80E80000) % 2048 / s.line) ((b - 0x80E80000) % 2048 % s.line)
begins-in s shape b width v shown wide aligned e low = record {
  sound = shown.sound;
  wide = wide;
  aligned = aligned;
  stands = spotted-stands s b v shown.sound (is-above shape b v e) (there-of s shape b v shown e) low;
}

store-window : (s : Sharing) (shape : List (Option Window)) (h b width : ℕ) → Shown s shape → IsWidth width
    → b % width ≡ 0 → (o : Option Window) → window_of shape b ≡ o
    → IsTrue (window_stores s.harts s.line s.part h width (place_of b) o) ↔ MayStore s h b width
unfolding windows_base
store-window s shape h b width shown wide aligned None e =
    (λ t. absurd (false≢true t), λ m. absurd (may_store-nowhere s h b width wide (nowhere-of s shape b shown e) m))
store-window s shape h b width shown wide aligned (Some v) e =
    elim (cases_lt ((b - 0x80E80000) % 2048 / s.line) v.lines) [
      | inl low ↦ rw (lt-ltb ((b - 0x80E80000) % 2048 / s.line) v.lines low)
          (stores-by h b width (begins-in s shape b width v shown wide aligned e low) v.kind refl)
      | inr high ↦ rw (le-ltb ((b - 0x80E80000) % 2048 / s.line) v.lines high) (
        λ t. absurd (false≢true t),
        λ m. absurd (may_store-nowhere s h b width wide
            (nowhere-past s b v shown.sound (there-of s shape b v shown e) high) m),
      )
    ]

load-window : (s : Sharing) (shape : List (Option Window)) (h b width : ℕ) → Shown s shape → IsWidth width
    → b % width ≡ 0 → (o : Option Window) → window_of shape b ≡ o
    → IsTrue (window_loads s.harts s.line h (place_of b) o) ↔ MayLoad s h b width
unfolding windows_base
load-window s shape h b width shown wide aligned None e =
    (λ t. absurd (false≢true t), λ m. absurd (may_load-nowhere s h b width wide (nowhere-of s shape b shown e) m))
load-window s shape h b width shown wide aligned (Some v) e =
    elim (cases_lt ((b - 0x80E80000) % 2048 / s.line) v.lines) [
      | inl low ↦ rw (lt-ltb ((b - 0x80E80000) % 2048 / s.line) v.lines low)
          (loads-by h b width (begins-in s shape b width v shown wide aligned e low) v.kind refl)
      | inr high ↦ rw (le-ltb ((b - 0x80E80000) % 2048 / s.line) v.lines high) (
        λ t. absurd (false≢true t),
        λ m. absurd (may_load-nowhere s h b width wide
            (nowhere-past s b v shown.sound (there-of s shape b v shown e) high) m),
      )
    ]

-- ---- what is computed is the law

pub store-computed : (s : Sharing) (shape : List (Option Window)) (h b width : ℕ) → Shown s shape → IsWidth width
    → IsTrue (may_store_at s.harts s.line s.part shape h b width) ↔ MayStore s h b width
unfolding may_store_at
store-computed s shape h b width shown wide = elim (cases_eq (b % width) 0) [
  | inl e ↦ rw (eq-eqb (b % width) 0 e) (store-window s shape h b width shown wide e (window_of shape b) refl)
  | inr ne ↦ rw (ne_eqb (b % width) 0 ne) (λ t. absurd (false≢true t), λ m. absurd (ne m.aligned))
]

pub load-computed : (s : Sharing) (shape : List (Option Window)) (h b width : ℕ) → Shown s shape → IsWidth width
    → IsTrue (may_load_at s.harts s.line s.part shape h b width) ↔ MayLoad s h b width
unfolding may_load_at
load-computed s shape h b width shown wide = elim (cases_eq (b % width) 0) [
  | inl e ↦ rw (eq-eqb (b % width) 0 e) (load-window s shape h b width shown wide e (window_of shape b) refl)
  | inr ne ↦ rw (ne_eqb (b % width) 0 ne) (λ t. absurd (false≢true t), λ m. absurd (ne m.aligned))
]

same-answers : {P : Type 0} (a b : Bool) → IsTrue a ↔ P → IsTrue b ↔ P → a ≡ b
same-answers true true f g = refl
same-answers false false f g = refl
same-answers true false f g = absurd (false≢true (g.1 (f.0 refl)))
same-answers false true f g = absurd (false≢true (f.1 (g.0 refl)))

-- an answer that is the law's is the one that is computed
pub store-answer : (p : Placement) (h b width : ℕ) (r : Bool) → IsWidth width → IsTrue r
    ↔ MayStore (sharing_of p) h b width
    → r ≡ may_store_at p.harts p.line p.part p.shape h b width
store-answer p h b width r wide f =
    same-answers r _ f (store-computed (sharing_of p) p.shape h b width (shown-of p) wide)

pub load-answer : (p : Placement) (h b width : ℕ) (r : Bool) → IsWidth width → IsTrue r
    ↔ MayLoad (sharing_of p) h b width
    → r ≡ may_load_at p.harts p.line p.part p.shape h b width
load-answer p h b width r wide f = same-answers r _ f (load-computed (sharing_of p) p.shape h b width (shown-of p) wide)

pub store-unaligned : (p : Placement) (h b width n : ℕ) → n ≡ width → b % n ≢ 0
    → false ≡ may_store_at p.harts p.line p.part p.shape h b width
unfolding may_store_at
store-unaligned p h b width n e ne = let off = ne_eqb (b % width) 0 (rw e at ne) in rw off

pub load-unaligned : (p : Placement) (h b width n : ℕ) → n ≡ width → b % n ≢ 0
    → false ≡ may_load_at p.harts p.line p.part p.shape h b width
unfolding may_load_at
load-unaligned p h b width n e ne = let off = ne_eqb (b % width) 0 (rw e at ne) in rw off
