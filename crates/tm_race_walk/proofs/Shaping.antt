-- What shaped cases give to tracking.
use Rattle.std.proofs.Common.{◌≡◌, ◌≢◌, ℕ, zero, suc, ◌+◌, ◌-◌, ◌*◌, ◌%◌, ◌<◌, ◌≤◌, ◌⊎◌, inl, inr, List, [], ◌∷◌}
use Rattle.std.proofs.Common.{length, Bool, true, Some, refl, ap, subst, arith, get_or, ◌∙◌, false}
use Rattle.std.specs.Prelude.{All, Contains, slice_get}
use Rattle.std.proofs.lemmas.Bool.{lt-ltb, or_left, or_right}
use Rattle.std.proofs.lemmas.Option.{slice_get-get_or}
use Rattle.std.proofs.lemmas.List.Elements.{All-contains}
use Rattle.tm_table.specs.declared.instr.Op.{Op}
use Rattle.tm_table.specs.declared.instr.Op.TheVariants.{Lb, Lh, Lw, Ld, Lbu, Lhu, Lwu, Sb, Sh, Sw, Sd}
use Rattle.tm_table.specs.declared.instr.Instr.{Instr}
use Rattle.tm_plan_cases.specs.declared.cases.Cases.{Cases}
use Rattle.tm_plan_cases.specs.declared.cases.Case.{Case}
use Rattle.tm_plan_cases.specs.declared.cases.Stream.{Stream}
use Rattle.tm_plan_map.specs.Map.{window_at, windows_size, within}
use Rattle.tm_plan_cases.specs.Collected.{declares, is_declared}
use Rattle.tm_base.specs.Lists.{any}
use Rattle.tm_base.proofs.ListLemmas.{all-at}
use Rattle.tm_plan_map.specs.Slots.{instr_of, load_width, store_width, is_access, slot_addr}
use Rattle.tm_plan_cases.specs.Shaped.{IsPlaced, IsShapedSlot, IsShapedStream, IsShapedCase, IsShapedWindow, AreShaped}
use Rattle.tm_plan_map.proofs.Within.{within-parts, within-true}
use Rattle.tm_plane.specs.Plane.{IsNear}
use Rattle.tm_race_walk.specs.Slots.{IsLoad, IsStore, IsStoreWord, IsTracked}
use Rattle.tm_plan_map.proofs.Widths.{one-width}

-- ---- widths

load-wide : (op : Op) → load_width op ≢ 0 → (load_width op ≡ 1)
    ⊎ ((load_width op ≡ 2) ⊎ ((load_width op ≡ 4) ⊎ (load_width op ≡ 8)))
load-wide Lb h = inl refl
load-wide Lbu h = inl refl
load-wide Lh h = inr (inl refl)
load-wide Lhu h = inr (inl refl)
load-wide Lw h = inr (inr (inl refl))
load-wide Lwu h = inr (inr (inl refl))
load-wide Ld h = inr (inr (inr refl))
load-wide _ h = absurd (h refl)

store-wide : (op : Op) → store_width op ≢ 0 → (store_width op ≡ 1)
    ⊎ ((store_width op ≡ 2) ⊎ ((store_width op ≡ 4) ⊎ (store_width op ≡ 8)))
store-wide Sb h = inl refl
store-wide Sh h = inr (inl refl)
store-wide Sw h = inr (inr (inl refl))
store-wide Sd h = inr (inr (inr refl))
store-wide _ h = absurd (h refl)

load-sum : (op : Op) → load_width op ≢ 0 → load_width op + store_width op ≡ load_width op
load-sum op n = elim (one-width op) [ inl z ↦ absurd (n z) | inr z ↦ omega arith ]

pub store-sum : (op : Op) → store_width op ≢ 0 → load_width op + store_width op ≡ store_width op
store-sum op n = elim (one-width op) [ inl z ↦ omega arith | inr z ↦ absurd (n z) ]

pub accesses : (op : Op) (n : ℕ) → n ≢ 0 → load_width op + store_width op ≡ n → is_access op ≡ true
accesses op n some e = lt-ltb 0 (load_width op + store_width op) (let p : 0 < n = grind arith in omega arith)

-- ---- declared bytes

pub any-contains : {A : Type 0} (test : A → Bool) (xs : List A) (x : A) → Contains xs x → test x ≡ true
    → any test xs ≡ true
any-contains test [] x c t = absurd (omega (arith, c.1))
any-contains test (y ∷ xs) x (zero, l, e) t = or_left (test y) _ (ap test e ∙ t)
any-contains test (y ∷ xs) x (suc k, l, e) t = or_right (test y) _ (any-contains test xs x (k, omega (arith, l), e) t)

-- the bytes of a slot's access are declared
pub placed-declared : (cases : Cases) (i : Instr) (b : ℕ) → IsPlaced cases i
    → within (slot_addr i) (load_width i.op + store_width i.op) b ≡ true → is_declared cases b ≡ true
unfolding is_declared
placed-declared cases i b p t = let (w, among, number, lines) = p.declared in
    any-contains (declares cases.line b) cases.windows w among (lines b t)

-- and near
placed-near : (cases : Cases) (i : Instr) (width : ℕ) → AreShaped cases → width ≢ 0 → (width ≡ 1)
    ⊎ ((width ≡ 2) ⊎ ((width ≡ 4) ⊎ (width ≡ 8))) → load_width i.op + store_width i.op ≡ width → IsPlaced cases i
    → IsNear (slot_addr i) width
unfolding windows_size window_at
placed-near cases i width a some wide sum p =
    let (w, among, number, lines) = p.declared in
    let first = lines (slot_addr i) (within-true (slot_addr i) (load_width i.op + store_width i.op) (slot_addr i)
    (omega arith) (let z : 0 < width = grind arith in omega arith)) in
    let last = lines (slot_addr i + (width - 1)) (within-true (slot_addr i) (load_width i.op + store_width i.op)
    (slot_addr i + (width - 1)) (omega arith) (let z : 0 < width = grind arith in omega arith)) in
    let f = within-parts (window_at w.number) (w.lines * cases.line) (slot_addr i) first in
    let l = within-parts (window_at w.number) (w.lines * cases.line) (slot_addr i + (width - 1)) last in
    let s = All-contains (IsShapedWindow cases.line) cases.windows w a.windows among in
    let z : 0 < width = grind arith in
    record {
      wide = wide;
      aligned = subst (λ (n : ℕ). slot_addr i % n ≡ 0) sum p.aligned;
      low = omega (arith, f.0);
      high = omega (arith, l.1, s.number, s.few);
    }

-- ---- slots

slot-load : (cases : Cases) (len n : ℕ) (i : Instr) → AreShaped cases → IsShapedSlot cases len n i → IsLoad i
slot-load cases len n i a s = record {
  base = λ some. (s.place (accesses i.op (load_width i.op) some (load-sum i.op some))).base;
  near = λ some. placed-near cases i (load_width i.op) a some (load-wide i.op some) (load-sum i.op some)
      (s.place (accesses i.op (load_width i.op) some (load-sum i.op some)));
}

slot-store : (cases : Cases) (len n : ℕ) (i : Instr) → AreShaped cases → IsShapedSlot cases len n i → IsStore i
slot-store cases len n i a s = record {
  base = λ some. (s.place (accesses i.op (store_width i.op) some (store-sum i.op some))).base;
  near = λ some. placed-near cases i (store_width i.op) a some (store-wide i.op some) (store-sum i.op some)
      (s.place (accesses i.op (store_width i.op) some (store-sum i.op some)));
}

first-small : (cases : Cases) (len n : ℕ) (i : Instr) → IsShapedSlot cases len n i → i.rs1 < 32
first-small cases len n i s = by (is_access i.op) refl
  where
    by : (t : Bool) → is_access i.op ≡ t → i.rs1 < 32
    by true e = omega (arith, (s.place e).base)
    by false e = omega (arith, s.first e)

slot-tracked : (cases : Cases) (len n : ℕ) (i : Instr) → AreShaped cases → len ≤ 256 → IsShapedSlot cases len n i
    → IsTracked n i
slot-tracked cases len n i a few s = record {
  result = omega (arith, s.result);
  first = first-small cases len n i s;
  second = omega (arith, s.second);
  load = slot-load cases len n i a s;
  store = slot-store cases len n i a s;
  target = λ t. omega (arith, s.target t);
}

module _ (cases : Cases) (c h : ℕ) (case : Case) (stream : Stream) (a : AreShaped cases) (at : slice_get cases.cases c
    ≡ Some case) (is : slice_get case.streams h ≡ Some stream) where
  pub shaped-at : IsShapedStream cases h stream
  shaped-at = (all-at (IsShapedCase cases) cases.cases c case a.each at).each h stream is

  -- the slot of each word
  pub slot-at : (n w : ℕ) (i : Instr) → slice_get stream.words n ≡ Some w → instr_of w ≡ Some i
      → IsShapedSlot cases (length stream.words) n i
  slot-at n w i e d =
      let s = shaped-at.slots n w e in
      let same : s.0 ≡ i = (let f = s.1 in cc) in
      subst (IsShapedSlot cases (length stream.words) n) same s.2

  pub tracked-at : (n w : ℕ) (i : Instr) → slice_get stream.words n ≡ Some w → instr_of w ≡ Some i → IsTracked n i
  tracked-at n w i e d = slot-tracked cases (length stream.words) n i a shaped-at.few (slot-at n w i e d)

  pub store-words : All IsStoreWord stream.words
  store-words =
      λ k d l. record {
        store = λ i e. (tracked-at k (get_or stream.words k d) i (slice_get-get_or stream.words k d l)
            e).store;
      }

pub case-harts : (cases : Cases) (c : ℕ) (case : Case) → AreShaped cases → slice_get cases.cases c ≡ Some case
    → length case.streams ≡ cases.harts
case-harts cases c case a at = (all-at (IsShapedCase cases) cases.cases c case a.each at).streams
