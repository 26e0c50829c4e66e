-- A buffer, one write more or one write less.
use Rattle.std.proofs.Common.{◌≡◌, ℕ, zero, suc, ◌+◌, ◌<◌, List, [], ◌∷◌, ◌++◌, true, false, not, ◌==◌, refl}
use Rattle.std.proofs.Common.{sym, ap, ◌∙◌, subst, length, get_or, arith, eq-eqb, ne_eqb, Option, Some, ap₂}
use Rattle.std.specs.Prelude.{IsFalse, Contains, slice_get, reverse}
use Rattle.std.proofs.lemmas.Option.{slice_get_within, get_or_from_slice_get}
use Rattle.std.proofs.lemmas.List.{reverse-append}
use Rattle.tm_buffer.specs.Turns.{IsFreeAt}
use Rattle.std.specs.List.{remove}
use Rattle.std.specs.List.{AllByRecursion as Each}
use Rattle.tm_table.specs.declared.state.Access.{Access}
use Rattle.tm_world.specs.Lists.{those, or_else}
use Rattle.tm_world.specs.Run.{access_of, written}
use Rattle.tm_buffered.specs.Moments.{Entry, left_at, share}
use Rattle.tm_buffered.proofs.Entries.{Falls, falls-below, those-all, those-keep, those-drop, each-map}
use Rattle.tm_buffered.proofs.Entries.{contains-more, each-at}
use Rattle.tm_buffer.specs.declared.hart.Waiting.{Waiting}
use Rattle.tm_buffer.specs.Buffer.{access_by, share_by, IsWaiting, found_in, AreWaiting, IsFreeIn}

pub same-length : (ws : List Waiting) (es : List Entry) → AreWaiting ws es → length ws ≡ length es
same-length [] [] a = refl
same-length (w ∷ ws) (e ∷ es) a = let more = same-length ws es a.3 in omega arith
same-length [] (e ∷ es) a = absurd a
same-length (w ∷ ws) [] a = absurd a

-- what stands at a byte
pub same-left : (b : ℕ) (ws : List Waiting) (es : List Entry) → AreWaiting ws es → found_in b ws ≡ left_at b es
same-left b [] [] a = refl
same-left b (w ∷ ws) (e ∷ es) a =
    ap₂ or_else (ap (λ (x : Access). written x b) (sym a.1)) (same-left b ws es a.3)
same-left b [] (e ∷ es) a = absurd a
same-left b (w ∷ ws) [] a = absurd a

-- The entry of write i, counted from the newest.
pub record IsAt (ws : List Waiting) (es : List Entry) (i : ℕ) (d : Waiting) : Type 0 where
  pub entry : Entry
  pub among : Contains es entry
  pub number : entry.number ≡ (get_or ws i d).write
  pub access : access_of entry.step ≡ access_by (get_or ws i d)
  pub is : IsWaiting (get_or ws i d)

pub entry-at : (ws : List Waiting) (es : List Entry) (i : ℕ) (d : Waiting) → AreWaiting ws es → i < length ws
    → IsAt ws es i d
entry-at [] es i d a l = absurd (omega arith)
entry-at (w ∷ ws) [] i d a l = absurd a
entry-at (w ∷ ws) (e ∷ es) zero d a l = record {
  entry = e;
  among = (0, omega arith, refl);
  number = sym a.0;
  access = a.1;
  is = a.2;
}
entry-at (w ∷ ws) (e ∷ es) (suc i) d a l =
    let more = entry-at ws es i d a.3 (omega arith) in
    record {
      entry = more.entry;
      among = contains-more e more.entry es more.among;
      number = more.number;
      access = more.access;
      is = more.is;
    }

number-below : (n : ℕ) (es : List Entry) (e : Entry) → Falls n es → Contains es e → e.number < n
number-below n es e f c = each-at (λ x. x.number < n) es e (falls-below n es f) c

-- The writes behind write i have no byte in common with it.
abbrev pub IsFreeOf : Waiting → ℕ → List Waiting → Type 0
IsFreeOf x i ws = (j : ℕ) → i < j → j < length ws → share_by (get_or ws j x) x ≡ false

all-free : (x : Waiting) (w : ℕ) (ws : List Waiting) (es : List Entry) → AreWaiting ws es
    → ((j : ℕ) → j < length ws → share_by (get_or ws j x) x ≡ false)
    → Each (λ e. e.number < w → IsFalse (share (access_of e.step) (access_by x))) es
all-free x w [] [] a f = tt
all-free x w (u ∷ ws) (e ∷ es) a f = (
  λ l. ap (λ (y : Access). share y (access_by x)) a.1 ∙ f 0 (omega arith),
  all-free x w ws es a.3 (λ j l. f (suc j) (omega arith)),
)
all-free x w [] (e ∷ es) a f = absurd a
all-free x w (u ∷ ws) [] a f = absurd a

-- So an older entry has none in common with it.
pub older-free : (n i : ℕ) (x : Waiting) (ws : List Waiting) (es : List Entry) → AreWaiting ws es → Falls n es
    → i < length ws → x ≡ get_or ws i x → IsFreeOf x i ws
    → Each (λ e. e.number < x.write → IsFalse (share (access_of e.step) (access_by x))) es
older-free n i x [] es a f l is free = absurd (omega arith)
older-free n i x (u ∷ ws) [] a f l is free = absurd a
older-free n zero x (u ∷ ws) (e ∷ es) a f l is free =
    let same : x.write ≡ e.number = ap (λ (y : Waiting). y.write) is ∙ a.0 in (
      λ less. absurd (omega arith),
      all-free x x.write ws es a.3 (λ j m. free (suc j) (omega arith) (omega arith)),
    )
older-free n (suc i) x (u ∷ ws) (e ∷ es) a f l is free =
    let more = entry-at ws es i x a.3 (omega arith) in
    let below = number-below e.number es more.entry f.1 more.among in
    let same : x.write ≡ more.entry.number = ap (λ (y : Waiting). y.write) is ∙ sym more.number in (
      λ less. absurd (omega arith),
      older-free e.number i x ws es a.3 f.1 (omega arith) is (λ j m k. free (suc j) (omega arith) (omega arith)),
    )

-- ---- one write less

pub removed : (n i : ℕ) (ws : List Waiting) (es : List Entry) (w : ℕ) (d : Waiting) → AreWaiting ws es → Falls n es
    → i < length ws → (get_or ws i d).write ≡ w
    → AreWaiting (remove ws i) (those (λ e. not (w == e.number)) es)
removed n i [] es w d a f l is = absurd (omega arith)
removed n i (u ∷ ws) [] w d a f l is = absurd a
removed n zero (u ∷ ws) (e ∷ es) w d a f l is =
    let same : w ≡ e.number = sym is ∙ a.0 in
    let kept : those (λ x. not (w == x.number)) (e ∷ es) ≡ es =
    those-drop (λ x. not (w == x.number)) e es (ap not (eq-eqb w e.number same))
    ∙ those-all (λ x. not (w == x.number)) es
    (each-map (λ x. x.number < e.number) (λ x. not (w == x.number) ≡ true) es
    (λ x m. ap not (ne_eqb w x.number (λ z. omega arith))) (falls-below e.number es f.1)) in
    subst (AreWaiting ws) (sym kept) a.3
removed n (suc i) (u ∷ ws) (e ∷ es) w d a f l is =
    let more = entry-at ws es i d a.3 (omega arith) in
    let below = number-below e.number es more.entry f.1 more.among in
    let number = more.number in
    let kept : those (λ x. not (w == x.number)) (e ∷ es) ≡ e ∷ those (λ x. not (w == x.number)) es =
    those-keep (λ x. not (w == x.number)) e es (ap not (ne_eqb w e.number (λ z. omega arith))) in
    subst (AreWaiting (u ∷ remove ws i)) (sym kept)
    (a.0, a.1, a.2, removed e.number i ws es w d a.3 f.1 (omega arith) is)

-- each of them lies in the guest's memory
pub all-waiting : (ws : List Waiting) (es : List Entry) → AreWaiting ws es → Each IsWaiting ws
all-waiting [] [] a = tt
all-waiting (w ∷ ws) (e ∷ es) a = (a.2, all-waiting ws es a.3)
all-waiting [] (e ∷ es) a = absurd a
all-waiting (w ∷ ws) [] a = absurd a

-- the entry at a place, by `slice_get`
pub got : (ws : List Waiting) (es : List Entry) (i : ℕ) (d : Waiting) → AreWaiting ws es → i < length ws
    → (e : Entry) × (slice_get es i ≡ Some e) × (access_of e.step ≡ access_by (get_or ws i d))
    × (e.number ≡ (get_or ws i d).write)
got [] es i d a l = absurd (omega arith)
got (w ∷ ws) [] i d a l = absurd a
got (w ∷ ws) (e ∷ es) zero d a l = (e, refl, a.1, sym a.0)
got (w ∷ ws) (e ∷ es) (suc i) d a l = let (x, q, r, s) = got ws es i d a.3 (omega arith) in (x, q, r, s)

-- What is asked of entries holds of the writes that stand for them.
pub free-of : (ws : List Waiting) (es : List Entry) (i : ℕ) (x : Waiting) → AreWaiting ws es → i < length ws
    → x ≡ get_or ws i x
    → ((e y : Entry) (j : ℕ) → slice_get es i ≡ Some e → slice_get es j ≡ Some y → i < j
    → share (access_of y.step) (access_of e.step) ≡ false)
    → IsFreeOf x i ws
free-of ws es i x a l is f j m k =
    let (e, eq, ea, en) = got ws es i x a l in
    let (y, yq, ya, yn) = got ws es j x a k in
    ap₂ share (sym ya) (sym (ea ∙ ap access_by (sym is))) ∙ f e y j eq yq m

some-same : (o : Option Entry) (x y : Entry) → o ≡ Some x → o ≡ Some y → x ≡ y
some-same o x y p q = cc

pub contains-get : (es : List Entry) (i : ℕ) (e : Entry) → slice_get es i ≡ Some e → Contains es e
contains-get es i e q = (i, slice_get_within es i e q, get_or_from_slice_get es i e e q)

-- ---- free writes

-- Both ways of saying that no older write has a byte in common.
pub free-at : (ws : List Waiting) (es : List Entry) (i : ℕ) → AreWaiting ws es → i < length ws → IsFreeIn ws i
    → IsFreeAt es i
free-at ws es i a l f e x j eq xq m =
    let d : Waiting = record { write = 0; addr = 0; width = 0; value = 0 } in
    let k : j < length ws = subst (λ (n : ℕ). j < n) (sym (same-length ws es a)) (slice_get_within es j x xq) in
    let (e2, eq2, ea, en) = got ws es i d a l in
    let (x2, xq2, xa, xn) = got ws es j d a k in
    let same-e : e2 ≡ e = some-same (slice_get es i) e2 e eq2 eq in
    let same-x : x2 ≡ x = some-same (slice_get es j) x2 x xq2 xq in
    ap₂ share (ap (λ (y : Entry). access_of y.step) (sym same-x) ∙ xa) (ap (λ (y : Entry). access_of y.step) (sym same-e)
    ∙ ea) ∙ f d j m k

pub free-in : (ws : List Waiting) (es : List Entry) (i : ℕ) → AreWaiting ws es → i < length ws → IsFreeAt es i
    → IsFreeIn ws i
free-in ws es i a l f d j m k =
    let (e, eq, ea, en) = got ws es i d a l in
    let (x, xq, xa, xn) = got ws es j d a k in
    ap₂ share (sym xa) (sym ea) ∙ f e x j eq xq m

-- ---- the oldest write

-- The last of a list stands first where the list is turned, and what is left of it behind it.
pub oldest-first : (es : List Entry) (i : ℕ) (e : Entry) → i + 1 ≡ length es → slice_get es i ≡ Some e
    → reverse es ≡ e ∷ reverse (remove es i)
oldest-first [] i e n q = absurd (omega arith)
oldest-first (x ∷ []) zero e n q = ap (λ (y : Entry). y ∷ []) (let s : x ≡ e = cc in s)
oldest-first (x ∷ y ∷ more) zero e n q = absurd (omega arith)
oldest-first (x ∷ es) (suc i) e n q =
    let ih = oldest-first es i e (omega arith) q in
    reverse-append (x ∷ []) es
    ∙ (ap (λ (l : List Entry). l ++ x ∷ []) ih ∙ ap (λ (l : List Entry). e ∷ l) (sym (reverse-append (x ∷ []) (remove es i))))

-- it is free
pub oldest-free : (es : List Entry) (i : ℕ) → i + 1 ≡ length es → IsFreeAt es i
oldest-free es i n e x j eq xq m = absurd (let l = slice_get_within es j x xq in omega arith)

-- what stays in a buffer, where the write at place i drains
pub those-left : (n i : ℕ) (es : List Entry) (e : Entry) → Falls n es → slice_get es i ≡ Some e
    → those (λ x. not (e.number == x.number)) es ≡ remove es i
those-left n i [] e f q = cc
those-left n zero (x ∷ es) e f q =
    let s : x ≡ e = cc in
    let same : e.number ≡ x.number = ap (λ (y : Entry). y.number) (sym s) in
    those-drop (λ y. not (e.number == y.number)) x es (ap not (eq-eqb e.number x.number same))
    ∙ those-all (λ y. not (e.number == y.number)) es
    (each-map (λ y. y.number < x.number) (λ y. not (e.number == y.number) ≡ true) es
    (λ y m. ap not (ne_eqb e.number y.number (λ z. omega arith))) (falls-below x.number es f.1))
those-left n (suc i) (x ∷ es) e f q =
    let below = number-below x.number es e f.1 (contains-get es i e q) in
    those-keep (λ y. not (e.number == y.number)) x es (ap not (ne_eqb e.number x.number (λ z. omega arith)))
    ∙ ap (λ (l : List Entry). x ∷ l) (those-left x.number i es e f.1 q)
