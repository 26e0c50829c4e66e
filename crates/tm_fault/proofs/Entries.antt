-- What the bits of marks tell of the lines.
use Rattle.std.proofs.Common.{◌≡◌, ◌∙◌, ◌<◌, ◌≤◌, ◌+◌, ◌*◌, ◌%◌, ◌^◌, ◌==◌, ◌&&◌, ◌||◌, ℕ, Bool, cond, true, false}
use Rattle.std.proofs.Common.{refl, sym, ap, ap₂, subst, arith, List, [], ◌∷◌, ◌++◌, length, true≢false, All}
use Rattle.std.proofs.Common.{Option, Some, None, bit_and, bit_or, min, max, not, inl, inr, ◌⊎◌, length-set, get_or}
use Rattle.std.specs.Prelude.{slice_index, slice_set}
use Rattle.std.proofs.lemmas.Bool.{cases_Bool, eqb-true, and_parts, or_right}
use Rattle.std.proofs.lemmas.Bool.Decides.{nat_tests}
use Rattle.std.proofs.lemmas.List.Elements.{All-nil, All-cons, All-head, All-tail, All-append}
use Rattle.std.proofs.lemmas.List.Folds.{list_any-append}
use Rattle.std.proofs.lemmas.List.{get_or-set_same, get_or-set_other}
use Rattle.std.proofs.lemmas.Nat.{and_le_r}
use Rattle.std.proofs.lemmas.Grind.{get_or_default_zero}
use Rattle.std.proofs.lemmas.Nat.Bits.{bit_at_set_same, bit_at_set_other, bit_at-zero, bit_at_ones, bit_at_and}
use Rattle.std.proofs.lemmas.Nat.Bits.{bit_at_or}
use Rattle.std.proofs.lemmas.Nat.Bits.{same_from_bits_below}
use Rattle.std.specs.Int.{bit_at, w8}
use Rattle.std.specs.List.{list_any}
use Rattle.tm_plan_script.specs.declared.faults.FaultLine.{FaultLine}
use Rattle.tm_plan_script.specs.declared.faults.Action.{Action}
use Rattle.tm_plan_script.specs.declared.faults.Action.TheVariants.{Result, Loaded, Stored, Drop, Turn}
use Rattle.tm_plan_script.specs.Accepted.{same_kind, meet, are_twice}
use Rattle.tm_fault.specs.Script.{is_twice}
use Rattle.tm_fault.specs.Marks.{kind_number, place_of, HasBit, IsTabled, in_pass, names_same, is_named, AreMarks}

-- ---- the bits of a pass

apart_of : (a b : ℕ) → (a == b) ≡ false → b ≡ a → ⊥
apart_of a b h e = grind (arith, nat_tests)

pub one_bit : (p k : ℕ) → p < 8 → bit_at (1 * 2 ^ p % 256) k ≡ cond (p == k) 1 0
one_bit p k low = go (p == k) refl
  where
    go : (b : Bool) → (p == k) ≡ b → bit_at (1 * 2 ^ p % 256) k ≡ cond {A = ℕ} b 1 0
    go true e = subst (λ (n : ℕ). bit_at (1 * 2 ^ p % 256) n ≡ 1) (eqb-true p k e) (bit_at_set_same w8 0 p low)
    go false e = bit_at_set_other w8 0 p low k (apart_of p k e) ∙ bit_at-zero k

pub all_bits : (k : ℕ) → k < 8 → bit_at 255 k ≡ 1
all_bits k low = bit_at_ones 8 k low

-- ---- entries

pub kind_low : (a : Action) → kind_number a < 5
kind_low (Result x) = omega arith
kind_low (Loaded x) = omega arith
kind_low (Stored x) = omega arith
kind_low Drop = omega arith
kind_low Turn = omega arith

kinds : (a b : Action) → same_kind a b ≡ (kind_number a == kind_number b)
kinds (Result x) (Result y) = refl
kinds (Result x) (Loaded y) = refl
kinds (Result x) (Stored y) = refl
kinds (Result x) Drop = refl
kinds (Result x) Turn = refl
kinds (Loaded x) (Result y) = refl
kinds (Loaded x) (Loaded y) = refl
kinds (Loaded x) (Stored y) = refl
kinds (Loaded x) Drop = refl
kinds (Loaded x) Turn = refl
kinds (Stored x) (Result y) = refl
kinds (Stored x) (Loaded y) = refl
kinds (Stored x) (Stored y) = refl
kinds (Stored x) Drop = refl
kinds (Stored x) Turn = refl
kinds Drop (Result y) = refl
kinds Drop (Loaded y) = refl
kinds Drop (Stored y) = refl
kinds Drop Drop = refl
kinds Drop Turn = refl
kinds Turn (Result y) = refl
kinds Turn (Loaded y) = refl
kinds Turn (Stored y) = refl
kinds Turn Drop = refl
kinds Turn Turn = refl

-- a number and its last digit
last : (x y n m w : ℕ) → n < 5 → m < 5 → x * 5 + n ≡ y * 5 + m → (x ≡ y) × (n ≡ m)
last x y n m w a b e = (omega (arith, a, b, e), omega (arith, a, b, e))

last_slot : (x y n m : ℕ) → n < 256 → m < 256 → x * 256 + n ≡ y * 256 + m → (x ≡ y) × (n ≡ m)
last_slot x y n m a b e = (omega (arith, a, b, e), omega (arith, a, b, e))

last_hart : (x y n m : ℕ) → n < 16 → m < 16 → x * 16 + n ≡ y * 16 + m → (x ≡ y) × (n ≡ m)
last_hart x y n m a b e = (omega (arith, a, b, e), omega (arith, a, b, e))

all_true : (a b c d : Bool) → (a && (b && (c && d))) ≡ true → (a ≡ true) × (b ≡ true) × (c ≡ true) × (d ≡ true)
all_true true true true true e = (refl, refl, refl, refl)
all_true false b c d e = absurd (true≢false (sym e))
all_true true false c d e = absurd (true≢false (sym e))
all_true true true false d e = absurd (true≢false (sym e))
all_true true true true false e = absurd (true≢false (sym e))

-- lines of one entry name the same
pub one_place : (len : ℕ) (a b : FaultLine) → IsTabled len a → IsTabled len b → place_of a ≡ place_of b
    → names_same a b ≡ true
unfolding place_of
one_place len a b s t e =
    let k = last ((a.case * 16 + a.hart) * 256 + a.slot) ((b.case * 16 + b.hart) * 256 + b.slot)
    (kind_number a.action) (kind_number b.action) 0 (kind_low a.action) (kind_low b.action) e in
    let n = last_slot (a.case * 16 + a.hart) (b.case * 16 + b.hart) a.slot b.slot s.slot t.slot k.0 in
    let h = last_hart a.case b.case a.hart b.hart s.hart t.hart n.0 in
    rw (h.1, h.0, n.1, kinds a.action b.action, k.1) (all_same b.hart b.case b.slot (kind_number b.action))
  where
    same : (n : ℕ) → (n == n) ≡ true
    same n = grind (arith, nat_tests)

    all_same : (h c s k : ℕ) → ((h == h) && ((c == c) && ((s == s) && (k == k)))) ≡ true
    all_same h c s k = rw (same h, same c, same s, same k) refl

-- lines that name the same have one entry
pub same_place : (a b : FaultLine) → names_same a b ≡ true → place_of a ≡ place_of b
unfolding place_of
same_place a b e =
    let all = all_true (a.hart == b.hart) (a.case == b.case) (a.slot == b.slot) (same_kind a.action b.action) e in
    let h = eqb-true a.hart b.hart all.0 in
    let c = eqb-true a.case b.case all.1 in
    let s = eqb-true a.slot b.slot all.2 in
    let k = eqb-true (kind_number a.action) (kind_number b.action) (sym (kinds a.action b.action) ∙ all.3) in
    omega (arith, h, c, s, k)

-- ---- lines and their passes

common : (p q : Option ℕ) → HasBit p → HasBit q → meet p q ≡ true
    → (k : ℕ) × (k < 8) × (in_pass p k ≡ true) × (in_pass q k ≡ true)
common None None a b e = (0, omega arith, refl, refl)
common None (Some n) a b e = (n, b, refl, grind (arith, nat_tests))
common (Some n) None a b e = (n, a, grind (arith, nat_tests), refl)
common (Some m) (Some n) a b e = (n, b, e, grind (arith, nat_tests))

meets : (p q : Option ℕ) (k : ℕ) → in_pass p k ≡ true → in_pass q k ≡ true → meet p q ≡ true
meets None q k a b = refl
meets (Some m) None k a b = refl
meets (Some m) (Some n) k a b = grind (arith, nat_tests)

twice_is : (a b : FaultLine) → are_twice a b ≡ (names_same a b && meet a.pass b.pass)
twice_is a b = go (a.hart == b.hart) (a.case == b.case) (a.slot == b.slot)
  where
    go : (h c s : Bool)
        → (h && (c && (s && (same_kind a.action b.action && meet a.pass b.pass))))
        ≡ ((h && (c && (s && same_kind a.action b.action))) && meet a.pass b.pass)
    go false c s = refl
    go true false s = refl
    go true true false = refl
    go true true true = refl

and_true : (a b : Bool) → a ≡ true → b ≡ true → (a && b) ≡ true
and_true a b d e = rw (d, e) refl

-- of some lines one repeats another: there is a pass in which one of them names the same
found : (len : ℕ) (lines : List FaultLine) (l : FaultLine) → All (IsTabled len) lines → HasBit l.pass
    → list_any (λ e. are_twice e l) lines ≡ true
    → (k : ℕ) × (k < 8) × (is_named lines l k ≡ true) × (in_pass l.pass k ≡ true)
found len [] l all low e = absurd (true≢false (sym e))
found len (m ∷ ms) l all low e =
    go (found len ms l (All-tail (IsTabled len) m ms all) low) (are_twice m l) refl e
  where
    go : (list_any (λ e. are_twice e l) ms ≡ true
        → (k : ℕ) × (k < 8) × (is_named ms l k ≡ true) × (in_pass l.pass k ≡ true))
        → (b : Bool) → are_twice m l ≡ b → (b || list_any (λ e. are_twice e l) ms) ≡ true
        → (k : ℕ) × (k < 8) × (is_named (m ∷ ms) l k ≡ true) × (in_pass l.pass k ≡ true)
    go rest true is e =
        let parts = and_parts (names_same m l) (meet m.pass l.pass) (sym (twice_is m l) ∙ is) in
        let p = common m.pass l.pass (All-head (IsTabled len) m ms all).pass low parts.1 in
        (p.0, p.1, ap (λ b. b || is_named ms l p.0) (and_true _ _ parts.0 p.2), p.3)
    go rest false is e = let p = rest e in (p.0, p.1, or_right _ _ p.2, p.3)

-- and the other way round
named : (lines : List FaultLine) (l : FaultLine) (k : ℕ) → is_named lines l k ≡ true → in_pass l.pass k ≡ true
    → list_any (λ e. are_twice e l) lines ≡ true
named [] l k e within = absurd (true≢false (sym e))
named (m ∷ ms) l k e within =
    go (λ e. named ms l k e within) (names_same m l && in_pass m.pass k) refl e
  where
    go : (is_named ms l k ≡ true → list_any (λ e. are_twice e l) ms ≡ true)
        → (b : Bool) → (names_same m l && in_pass m.pass k) ≡ b → (b || is_named ms l k) ≡ true
        → list_any (λ e. are_twice e l) (m ∷ ms) ≡ true
    go rest true is e =
        let parts = and_parts (names_same m l) (in_pass m.pass k) is in
        let twice = twice_is m l ∙ and_true _ _ parts.0 (meets m.pass l.pass k parts.1 within) in
        ap (λ b. b || list_any (λ e. are_twice e l) ms) twice
    go rest false is e = or_right _ _ (rest e)

-- ---- the table

-- the bits of a pass
abbrev pub AreBits : Option ℕ → ℕ → Type 0
AreBits pass bits = (k : ℕ) → k < 8 → bit_at bits k ≡ cond {A = ℕ} (in_pass pass k) 1 0

true_or_false : (a b : Bool) → (a ≡ true → b ≡ true → ⊥)
    → min (cond {A = ℕ} a 1 0) (cond {A = ℕ} b 1 0) ≡ 0
true_or_false true true never = absurd (never refl refl)
true_or_false true false never = refl
true_or_false false true never = refl
true_or_false false false never = refl

one≢zero : ◌≡◌ {A = ℕ} 1 0 → ⊥
one≢zero e = omega (arith, e)

-- an entry and the bits of a line's pass have one in common exactly where the line repeats another
pub repeats : (lines : List FaultLine) (marks : List ℕ) (l : FaultLine) (bits : ℕ) → AreMarks lines marks
    → IsTabled (length marks) l → AreBits l.pass bits → bits < 256
    → not (bit_and (slice_index marks (place_of l)) bits == 0) ≡ is_twice lines l
unfolding is_twice
repeats lines marks l bits are here of_pass low = go (list_any (λ e. are_twice e l) lines) refl
  where
    entry : ℕ
    entry = slice_index marks (place_of l)

    some : (x k : ℕ) → bit_at x k ≡ 1 → (x == 0) ≡ false
    some x k e = elim (cases_Bool (x == 0)) [
      | inl zero ↦ absurd (one≢zero (sym e ∙ (ap (λ (n : ℕ). bit_at n k) (eqb-true x 0 zero) ∙ bit_at-zero k)))
      | inr other ↦ other
    ]

    in_common : (k : ℕ) → k < 8 → is_named lines l k ≡ true → in_pass l.pass k ≡ true
        → bit_at (bit_and entry bits) k ≡ 1
    in_common k lt n p = bit_at_and entry bits k
        ∙ ap₂ min (are.bits l k here lt ∙ ap (λ b. cond {A = ℕ} b 1 0) n)
        (of_pass k lt ∙ ap (λ b. cond {A = ℕ} b 1 0) p)

    none : list_any (λ e. are_twice e l) lines ≡ false → (k : ℕ) → k < 8 → bit_at (bit_and entry bits) k ≡ bit_at 0 k
    none e k lt = bit_at_and entry bits k ∙ (ap₂ min (are.bits l k here lt) (of_pass k lt)
        ∙ (true_or_false (is_named lines l k) (in_pass l.pass k)
        (λ n p. true≢false (sym (named lines l k n p) ∙ e))
        ∙ sym (bit_at-zero k)))

    go : (b : Bool) → list_any (λ e. are_twice e l) lines ≡ b → not (bit_and entry bits == 0) ≡ b
    go true e =
        let p = found (length marks) lines l are.tabled here.pass e in
        ap not (some (bit_and entry bits) p.0 (in_common p.0 p.1 p.2 p.3))
    go false e =
        let small = and_le_r entry bits in
        ap (λ (n : ℕ). not (n == 0))
        (same_from_bits_below 8 (bit_and entry bits) 0 (omega (arith, small, low)) (omega arith) (none e))

max_is : (a b : Bool) → max (cond {A = ℕ} a 1 0) (cond {A = ℕ} b 1 0) ≡ cond {A = ℕ} (a || (b || false)) 1 0
max_is true true = refl
max_is true false = refl
max_is false true = refl
max_is false false = refl

or_false : (a : Bool) → (a || (false || false)) ≡ a
or_false true = refl
or_false false = refl

-- a line more
pub one_more : (lines : List FaultLine) (marks : List ℕ) (l : FaultLine) (bits : ℕ) → AreMarks lines marks
    → IsTabled (length marks) l → AreBits l.pass bits
    → AreMarks (lines ++ l ∷ []) (slice_set marks (place_of l) (bit_or (slice_index marks (place_of l)) bits))
one_more lines marks l bits are here of_pass = record { tabled = tabled; bits = all }
  where
    after : List ℕ
    after = slice_set marks (place_of l) (bit_or (slice_index marks (place_of l)) bits)

    long : length after ≡ length marks
    long = length-set _ _ _

    tabled : All (IsTabled (length after)) (lines ++ l ∷ [])
    tabled = rw long (All-append (IsTabled (length marks)) lines (l ∷ []) are.tabled
        (All-cons (IsTabled (length marks)) l [] here (All-nil (IsTabled (length marks)))))

    all : (x : FaultLine) (k : ℕ) → IsTabled (length after) x → k < 8
        → bit_at (slice_index after (place_of x)) k ≡ cond {A = ℕ} (is_named (lines ++ l ∷ []) x k) 1 0
    all x k t lt = go (names_same l x) refl
        ∙ ap (λ b. cond {A = ℕ} b 1 0) (sym (list_any-append (λ e. names_same e x && in_pass e.pass k) lines (l ∷ [])))
      where
        inside : IsTabled (length marks) x
        inside = subst (λ (n : ℕ). IsTabled n x) long t

        go : (b : Bool) → names_same l x ≡ b → bit_at (slice_index after (place_of x)) k
            ≡ cond {A = ℕ} (is_named lines x k || ((names_same l x && in_pass l.pass k) || false)) 1 0
        go true e =
            let place = same_place l x e in
            rw (e, sym place) (ap (λ (n : ℕ). bit_at n k) (get_or-set_same marks (place_of l) _ 0 here.place)
            ∙ (bit_at_or (slice_index marks (place_of l)) bits k
            ∙ (ap₂ max (ap (λ (n : ℕ). bit_at (slice_index marks n) k) place ∙ are.bits x k inside lt) (of_pass k lt)
            ∙ max_is (is_named lines x k) (in_pass l.pass k))))
        go false e = rw e (ap (λ (n : ℕ). bit_at n k)
            (get_or-set_other marks (place_of l) (place_of x) _ 0
            (λ p. true≢false (sym (one_place (length marks) l x here inside (sym p)) ∙ e)))
            ∙ (are.bits x k inside lt ∙ ap (λ b. cond {A = ℕ} b 1 0) (sym (or_false (is_named lines x k)))))

-- ---- the same of what the code reads and writes

pub entry_is : (items marks : List ℕ) (place entry : ℕ) (l : FaultLine) → items ≡ marks → place ≡ place_of l
    → IsTabled (length marks) l → entry ≡ get_or items place entry → entry ≡ slice_index marks (place_of l)
entry_is items marks place entry l same at here is =
    is ∙ (ap₂ (λ (xs : List ℕ) (n : ℕ). get_or xs n entry) same at
    ∙ get_or_default_zero marks (place_of l) entry here.place)

pub repeats_at : (lines : List FaultLine) (items marks : List ℕ) (place entry : ℕ) (l : FaultLine) (bits : ℕ)
    → items ≡ marks → place ≡ place_of l → entry ≡ get_or items place entry → AreMarks lines marks
    → IsTabled (length marks) l → AreBits l.pass bits → bits < 256
    → not (bit_and entry bits == 0) ≡ is_twice lines l
repeats_at lines items marks place entry l bits same at is are here of_pass low =
    ap (λ (n : ℕ). not (bit_and n bits == 0)) (entry_is items marks place entry l same at here is)
    ∙ repeats lines marks l bits are here of_pass low

pub one_more_at : (lines : List FaultLine) (items marks : List ℕ) (place entry : ℕ) (l : FaultLine) (bits : ℕ)
    → items ≡ marks → place ≡ place_of l → entry ≡ get_or items place entry → AreMarks lines marks
    → IsTabled (length marks) l → AreBits l.pass bits
    → AreMarks (lines ++ l ∷ []) (slice_set items place (bit_or entry bits))
one_more_at lines items marks place entry l bits same at is are here of_pass =
    rw (entry_is items marks place entry l same at here is, same, at)
    (one_more lines marks l bits are here of_pass)
