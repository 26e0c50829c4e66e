-- What collecting from rising sources reads and leaves.
use Rattle.std.proofs.Common.{◌≡◌, ◌⊎◌, inr, ℕ, zero, suc, ◌+◌, ◌-◌, ◌*◌, ◌%◌, ◌<◌, ◌≤◌, Bool, true, false}
use Rattle.std.proofs.Common.{true≢false, ◌&&◌, ◌||◌, nat_lt, List, [], ◌∷◌, ◌++◌, length, map, Option, None, Some}
use Rattle.std.proofs.Common.{refl, sym, ap, ap₂, ◌∙◌, subst, arith, append_assoc}
use Rattle.std.specs.Prelude.{slice_index, IsTrue, if◌then◌else◌}
use Rattle.std.proofs.lemmas.Bool.Decides.{nat_tests}
use Rattle.tm_table.specs.declared.state.Access.{Access}
use Rattle.tm_table.specs.declared.state.Access.TheVariants.{Read, Write}
use Rattle.tm_base.specs.Lists.{any, count_from}
use Rattle.tm_world.specs.Lists.{or_else}
use Rattle.tm_world.specs.Place.{byte_of}
use Rattle.tm_world.specs.Run.{got}
use Rattle.tm_world.specs.Course.{reads_in}
use Rattle.tm_world.proofs.Accesses.{one-dword}
use Rattle.tm_world.proofs.Options.{or_else-assoc, or_else-none}
use Rattle.tm_runs.specs.Machine.{World, Table, put}
use Rattle.tm_plan_map.proofs.Within.{within-true, within-false}
use Rattle.tm_runs.proofs.Tables.{put_other}
use Rattle.tm_blocks_move.specs.Laws.{Move, Moves, Among, moved_accesses}
use Rattle.tm_blocks_move.specs.Lines.{collect_moves}

-- each source is aligned, and stands behind the one before it
abbrev pub Rises : ℕ → List ℕ → Type 0
Rises x [] = Unit {0}
Rises x (a ∷ rest) = (a % 8 ≡ 0) × (x ≤ a) × Rises (a + 8) rest

pub rises-low : (x y : ℕ) (xs : List ℕ) → x ≤ y → Rises y xs → Rises x xs
rises-low x y [] l h = tt
rises-low x y (a ∷ rest) l h = (h.0, omega (arith, h.1), h.2)

pub rises-row : (n p j x z : ℕ) (xs : List ℕ) → p % 8 ≡ 0 → x ≤ p + 8 * j → p + 8 * (j + n) ≤ z → Rises z xs
    → Rises x (map (λ i. p + 8 * i) (count_from j n) ++ xs)
rises-row zero p j x z xs al l m h = rises-low x z xs (omega arith) h
rises-row (suc n) p j x z xs al l m h =
    (omega arith, l, rises-row n p (suc j) (p + 8 * j + 8) z xs al (omega arith) (omega arith) h)

rises-at : (xs : List ℕ) (x j : ℕ) → Rises x xs → j < length xs → (x ≤ slice_index xs j) × (slice_index xs j % 8 ≡ 0)
rises-at [] x j h l = absurd (omega arith)
rises-at (a ∷ rest) x zero h l = (h.1, h.0)
rises-at (a ∷ rest) x (suc j) h l = let r = rises-at rest (a + 8) j h.2 (omega arith) in
    (let b = h.1 in let c = r.0 in omega arith, r.1)

-- lines are such sources
pub line-collects : (n p q j : ℕ) → map (λ i. (p + 8 * i, q + 8 * i)) (count_from j n)
    ≡ collect_moves (map (λ i. p + 8 * i) (count_from j n)) (q + 8 * j)
line-collects zero p q j = refl
line-collects (suc n) p q j =
    let e : q + 8 * suc j ≡ q + 8 * j + 8 = omega arith in
    ap (λ (ms : List Move). (p + 8 * j, q + 8 * j) ∷ ms)
    (line-collects n p q (suc j) ∙ ap (collect_moves (map (λ i. p + 8 * i) (count_from (suc j) n))) e)

pub collect-both : (xs ys : List ℕ) (q : ℕ) → collect_moves xs q ++ collect_moves ys (q + 8 * length xs)
    ≡ collect_moves (xs ++ ys) q
collect-both [] ys q = let e : q + 8 * 0 ≡ q = omega arith in ap (collect_moves ys) e
collect-both (x ∷ xs) ys q =
    let e : q + 8 * suc (length xs) ≡ q + 8 + 8 * length xs = omega arith in
    ap (λ (ms : List Move). (x, q) ∷ ms) (ap (λ (k : ℕ). collect_moves xs (q + 8) ++ collect_moves ys k) e ∙
    collect-both xs ys (q + 8))

-- ---- the first read of a byte, by accesses of which the newest stands first

abbrev pub first_access : ℕ → List Access → Option ℕ
first_access b [] = None
first_access b (x ∷ xs) = or_else (first_access b xs) (got x b)

pub first-append : (b : ℕ) (xs ys : List Access) → first_access b (xs ++ ys)
    ≡ or_else (first_access b ys) (first_access b xs)
first-append b [] ys = sym (or_else-none (first_access b ys))
first-append b (x ∷ xs) ys = ap (λ (o : Option ℕ). or_else o (got x b)) (first-append b xs ys) ∙ or_else-assoc
    (first_access b ys) (first_access b xs) (got x b)

got-here : (a v i : ℕ) → i < 8 → got (Read a 8 v) (a + i) ≡ Some (byte_of v i)
got-here a v i l = ap (λ (t : Bool). if t then Some (byte_of v (a + i - a))
    else None) (within-true a 8 (a + i) (omega arith) (omega arith)) ∙ ap (λ (k : ℕ). Some (byte_of v k)) (omega arith)

pub got-off : (a v b : ℕ) → (b < a) ⊎ (a + 8 ≤ b) → got (Read a 8 v) b ≡ None
got-off a v b l = ap (λ (t : Bool). if t then Some (byte_of v (b - a)) else None) (within-false a 8 b l)

-- the j-th source's bytes were first read as what the j-th value has
pub first-is : (w : World) (xs vs : List ℕ) (x q : ℕ) (mem : Table) → Moves w mem (collect_moves xs q) vs → Rises x xs
    → (j i : ℕ) → j < length xs → i < 8 → first_access (slice_index xs j + i) (moved_accesses (collect_moves xs q) vs)
    ≡ Some (byte_of (slice_index vs j) i)
first-is w [] vs x q mem h r j i l m = absurd (omega arith)
first-is w (y ∷ ys) [] x q mem h r j i l m = absurd h
first-is w (y ∷ ys) (v ∷ vs) x q mem h r zero i l m =
    first-append (y + i) (moved_accesses (collect_moves ys (q + 8)) vs) (Write q 8 v ∷ Read y 8 v ∷ [])
    ∙ ap (λ (o : Option ℕ). or_else (or_else (or_else None o) None)
    (first_access (y + i) (moved_accesses (collect_moves ys (q + 8)) vs))) (got-here y v i m)
first-is w (y ∷ ys) (v ∷ vs) x q mem h r (suc j) i l m =
    let at = rises-at ys (y + 8) j r.2 (omega arith) in
    let b = slice_index ys j + i in
    first-append b (moved_accesses (collect_moves ys (q + 8)) vs) (Write q 8 v ∷ Read y 8 v ∷ [])
    ∙ (ap (λ (o : Option ℕ). or_else (or_else (or_else None o) None)
    (first_access b (moved_accesses (collect_moves ys (q + 8)) vs))) (got-off y v b (inr (omega (arith, at.0))))
    ∙ first-is w ys vs (y + 8) (q + 8) (put mem q v) h.2 r.2 j i (omega arith) m)

-- a source that reads back, below all places that are written, has what the memory had
pub value-is : (w : World) (xs vs : List ℕ) (q : ℕ) (mem : Table) → Moves w mem (collect_moves xs q) vs → (j : ℕ)
    → j < length xs → IsTrue (w.own (slice_index xs j)) → slice_index xs j < q
    → slice_index vs j ≡ mem (slice_index xs j)
value-is w [] vs q mem h j l o b = absurd (omega arith)
value-is w (y ∷ ys) [] q mem h j l o b = absurd h
value-is w (y ∷ ys) (v ∷ vs) q mem h zero l o b = h.1 o
value-is w (y ∷ ys) (v ∷ vs) q mem h (suc j) l o b =
    value-is w ys vs (q + 8) (put mem q v) h.2 j (omega arith) o (omega arith) ∙ put_other mem q v (slice_index ys j)
    (λ z. omega arith)

-- ---- each of some dwords is read for the first time

-- none behind this access read what it reads of these dwords
abbrev pub IsFirst : List ℕ → List Access → Access → Type 0
IsFirst dwords past x = (a : ℕ) → Among a dwords → reads_in a 8 x ≡ true → any (reads_in a 8) past ≡ false

abbrev pub AreFirst : List ℕ → (base : List Access) → List Access → Type 0
AreFirst dwords base [] = Unit {0}
AreFirst dwords base (x ∷ xs) = IsFirst dwords (xs ++ base) x × AreFirst dwords base xs

pub first-both : (dwords : List ℕ) (base xs ys : List Access) → AreFirst dwords (ys ++ base) xs
    → AreFirst dwords base ys → AreFirst dwords base (xs ++ ys)
first-both dwords base [] ys f g = g
first-both dwords base (x ∷ xs) ys f g = (
  subst (λ (l : List Access). IsFirst dwords l x) (sym (append_assoc xs ys base)) f.0,
  first-both dwords base xs ys f.1 g,
)

unread : (a y q v : ℕ) (base : List Access) → y + 8 ≤ a → any (reads_in a 8) base ≡ false
    → any (reads_in a 8) (Write q 8 v ∷ Read y 8 v ∷ base) ≡ false
unread a y q v base l e = ap₂ (λ (b c : Bool). b || c) (let z : (nat_lt y (a + 8) && nat_lt a (y + 8))
    ≡ false = grind (arith, nat_tests) in z) e

pub collect-first : (w : World) (dwords : List ℕ) → ((a : ℕ) → Among a dwords → a % 8 ≡ 0)
    → (xs vs : List ℕ) (x q : ℕ) (mem : Table) (base : List Access) → Moves w mem (collect_moves xs q) vs → Rises x xs
    → ((a : ℕ) → Among a dwords → x ≤ a → any (reads_in a 8) base ≡ false)
    → AreFirst dwords base (moved_accesses (collect_moves xs q) vs)
collect-first w dwords al [] [] x q mem base h r f = tt
collect-first w dwords al [] (v ∷ vs) x q mem base h r f = absurd h
collect-first w dwords al (y ∷ ys) [] x q mem base h r f = absurd h
collect-first w dwords al (y ∷ ys) (v ∷ vs) x q mem base h r f =
    first-both dwords base (moved_accesses (collect_moves ys (q + 8)) vs) (Write q 8 v ∷ Read y 8 v ∷ [])
    (collect-first w dwords al ys vs (y + 8) (q + 8) (put mem q v) (Write q 8 v ∷ Read y 8 v ∷ base) h.2 r.2
    (λ a i l. unread a y q v base l (f a i (omega (arith, l, r.1))))) (
      (λ a i e. absurd (true≢false (sym e))),
      (
        (λ a i e. let same : y ≡ a = one-dword a y v (al a i) r.0 e in f a i (omega (arith, same, r.1))),
        tt,
      ),
    )
