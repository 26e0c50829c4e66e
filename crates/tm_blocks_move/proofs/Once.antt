-- Each dword that a hart collects is read once, at each step of collecting.
use Rattle.std.specs.Prelude.{filter, cond, map}
use Rattle.std.proofs.lemmas.List.{append_cancel_right}
use Rattle.std.proofs.Common.{◌==◌, ◌≡◌, ℕ, zero, suc, ◌+◌, ◌*◌, ◌%◌, ◌≤◌, List, [], ◌∷◌, ◌++◌, Bool, true, false}
use Rattle.std.proofs.Common.{true≢false, ◌&&◌, ◌||◌, inl, inr, refl, sym, ap, ap₂, ◌∙◌, subst, arith}
use Rattle.std.proofs.Common.{append_assoc}
use Rattle.std.proofs.lemmas.Bool.{lt-ltb, le-ltb}
use Rattle.tm_table.specs.declared.state.Access.{Access}
use Rattle.tm_table.specs.declared.state.Access.TheVariants.{Quiet, Read, Write}
use Rattle.tm_plan_cases.specs.declared.cases.Cases.{Cases}
use Rattle.tm_plan_map.specs.Map.{windows_base}
use Rattle.tm_plan_cases.specs.Collected.{is_declared, collector, window_dwords, owned}
use Rattle.tm_base.specs.Lists.{any, count_from}
use Rattle.tm_world.specs.Course.{reads_in}
use Rattle.tm_world.proofs.Accesses.{one-dword}
use Rattle.tm_runs.specs.Machine.{World, State, Entry, Table}
use Rattle.tm_runs.proofs.Ahead.{takes_told}
use Rattle.tm_runs.proofs.Compose.{takes_map}
use Rattle.tm_blocks_base.specs.Laws.{with_access, accesses}
use Rattle.tm_blocks_base.proofs.Lists.{accesses-append}
use Rattle.tm_blocks_move.specs.Laws.{Among, Move, Moves, moved_accesses}
use Rattle.tm_blocks_move.specs.Lines.{collect_moves}
use Rattle.tm_blocks_move.specs.Runs.{all_collected}
use Rattle.tm_blocks_move.proofs.Collecting.{collect_all_runs}
use Rattle.tm_blocks_move.specs.Once.{FirstTime, PastOn, ReadOnce, CollectsOnce}

past-append : (R : List Access → Access → Type 0) (base xs ys : List Access) → PastOn R (ys ++ base) xs
    → PastOn R base ys → PastOn R base (xs ++ ys)
past-append R base [] ys f g = g
past-append R base (x ∷ xs) ys f g = (
  subst (λ (l : List Access). R l x) (sym (append_assoc xs ys base)) f.0,
  past-append R base xs ys f.1 g,
)

abbrev Aligned : List ℕ → Type 0
Aligned dwords = (a : ℕ) → Among a dwords → a % 8 ≡ 0

-- moves of which each reads an aligned dword, and none one that another reads, or that the base has read
abbrev Fresh : List ℕ → List Access → List Move → Type 0
Fresh dwords base [] = Unit {0}
Fresh dwords base (m ∷ ms) = (m.0 % 8 ≡ 0) × (Among m.0 dwords → any (reads_in m.0 8) base ≡ false)
    × ((v : ℕ) → Fresh dwords (Write m.1 8 v ∷ Read m.0 8 v ∷ base) ms)

pub moves-once : (w : World) (dwords : List ℕ) → Aligned dwords
    → (ms : List Move) (vs : List ℕ) (mem : Table) (base : List Access) → Moves w mem ms vs → Fresh dwords base ms
    → PastOn (FirstTime dwords) base (moved_accesses ms vs)
moves-once w dwords al [] [] mem base h f = tt
moves-once w dwords al [] (v ∷ vs) mem base h f = absurd h
moves-once w dwords al (m ∷ ms) [] mem base h f = absurd h
moves-once w dwords al (m ∷ ms) (v ∷ vs) mem base h f =
    past-append (FirstTime dwords) base (moved_accesses ms vs) (Write m.1 8 v ∷ Read m.0 8 v ∷ [])
    (moves-once w dwords al ms vs _ (Write m.1 8 v ∷ Read m.0 8 v ∷ base) h.2 (f.2 v)) (
      (λ a i r. absurd (true≢false (sym r))),
      (
        (λ a i r.
            let same : m.0 ≡ a = one-dword a m.0 v (al a i) f.0 r in (
              (v, ap (λ (x : ℕ). Read x 8 v) same),
              subst (λ (x : ℕ). any (reads_in x 8) base
                  ≡ false) same (f.1 (subst (λ (x : ℕ). Among x dwords) (sym same) i)),
            )),
        tt,
      ),
    )

-- ---- sources that rise

-- each is aligned, and stands behind the one before it
abbrev pub Rising : ℕ → List ℕ → Type 0
Rising x [] = Unit {0}
Rising x (a ∷ rest) = (a % 8 ≡ 0) × (x ≤ a) × Rising (a + 8) rest

rising-low : (x y : ℕ) (xs : List ℕ) → x ≤ y → Rising y xs → Rising x xs
rising-low x y [] l h = tt
rising-low x y (a ∷ rest) l h = (h.0, omega (arith, h.1), h.2)

rising-filter : (test : ℕ → Bool) (x : ℕ) (xs : List ℕ) → Rising x xs → Rising x (filter test xs)
rising-filter test x [] h = tt
rising-filter test x (a ∷ rest) h = by (test a) (rising-filter test (a + 8) rest h.2)
  where
    by : (b : Bool) → Rising (a + 8) (filter test rest) → Rising x (cond b (a ∷ filter test rest) (filter test rest))
    by true r = (h.0, h.1, r)
    by false r = rising-low x (a + 8) (filter test rest) (omega (arith, h.1)) r

rising-row : (n p j x : ℕ) → p % 8 ≡ 0 → x ≤ p + 8 * j → Rising x (map (λ i. p + 8 * i) (count_from j n))
rising-row zero p j x al l = tt
rising-row (suc n) p j x al l = (omega arith, l, rising-row n p (suc j) (p + 8 * j + 8) al (omega arith))

pub owned-rises : (cases : Cases) (h : ℕ) → Rising windows_base (owned cases h)
unfolding owned window_dwords windows_base
owned-rises cases h = rising-filter (λ a. is_declared cases a && (collector cases a == h)) 2162688000
    (map (λ q. 2162688000 + 8 * q) (count_from 0 768)) (rising-row 768 2162688000 0 2162688000 refl (omega arith))

abbrev sources : List Move → List ℕ
sources ms = map (λ m. m.0) ms

unread : (y a b v u : ℕ) (base : List Access) → a + 8 ≤ y → any (reads_in y 8) base ≡ false
    → any (reads_in y 8) (Write b 8 u ∷ Read a 8 v ∷ base) ≡ false
unread y a b v u base l h =
    ap₂ (λ (x z : Bool). x || z) (ap₂ (λ (x z : Bool). x && z) (lt-ltb a (y + 8) (omega arith)) (le-ltb y (a + 8) l)) h

fresh-rising : (dwords : List ℕ) (x : ℕ) (ms : List Move) (base : List Access) → Rising x (sources ms)
    → ((y : ℕ) → x ≤ y → any (reads_in y 8) base ≡ false) → Fresh dwords base ms
fresh-rising dwords x [] base h f = tt
fresh-rising dwords x (m ∷ ms) base h f = (
  h.0,
  (λ _. f m.0 h.1),
  (λ v. fresh-rising dwords (m.0 + 8) ms (Write m.1 8 v ∷ Read m.0 8 v ∷ base) h.2
      (λ y l. unread y m.0 m.1 v v base l (f y (omega (arith, h.1))))),
)

-- ---- collecting

sources-collect : (xs : List ℕ) (q : ℕ) → sources (collect_moves xs q) ≡ xs
sources-collect [] q = refl
sources-collect (x ∷ xs) q = ap (λ (l : List ℕ). x ∷ l) (sources-collect xs (q + 8))

rising-both : (n j b save q x z : ℕ) (xs : List ℕ) → b % 8 ≡ 0 → x ≤ b + 8 * j → b + 8 * (j + n) ≤ z → Rising z xs
    → Rising x (sources (map (λ i. (b + 8 * i, save + 8 * i)) (count_from j n) ++ collect_moves xs q))
rising-both zero j b save q x z xs al l m h =
    subst (Rising x) (sym (sources-collect xs q)) (rising-low x z xs (omega arith) h)
rising-both (suc n) j b save q x z xs al l m h =
    (omega arith, l, rising-both n (suc j) b save q (b + 8 * j + 8) z xs al (omega arith) (omega arith) h)

once-tail : (cases : Cases) (h : ℕ) (s : State) (e : Entry) (log : List Entry) → ReadOnce cases h s (e ∷ log)
    → ReadOnce cases h s log
once-tail cases h s e log f es is = by e.access (f (e ∷ es) (ap (λ (l : List Entry). e ∷ l) is))
  where
    by : (a : Access) → PastOn (FirstTime (owned cases h)) [] (with_access a (accesses es))
        → PastOn (FirstTime (owned cases h)) [] (accesses es)
    by Quiet g = g
    by (Read a n v) g = g.1
    by (Write a n v) g = g.1

aligned : (x : ℕ) (xs : List ℕ) → Rising x xs → Aligned xs
aligned x [] h a i = absurd i
aligned x (y ∷ ys) h a (inl e) = subst (λ (z : ℕ). z % 8 ≡ 0) (sym e) h.0
aligned x (y ∷ ys) h a (inr i) = aligned (y + 8) ys h.2 a i

pub collected_once : (cases : Cases) (h : ℕ) → CollectsOnce cases h
collected_once cases h w s b save near regs mem shaped mine base target few al below movable at =
    let dwords = owned cases h in
    let ms = all_collected cases h b save in
    let rises = rising-both 30 0 b save (save + 240) b windows_base dwords al (omega arith) below (owned-rises cases h)
    in
    takes_map (λ t g. g) (λ t q. q.0)
    (takes_told w near (ReadOnce cases h s) (once-tail cases h s)
    (λ u d es is.
    let both : accesses es ++ accesses s.log ≡ moved_accesses ms d.moved.values ++ accesses s.log =
    sym (accesses-append es s.log) ∙ (ap accesses (sym is) ∙ d.moved.accesses) in
    let same : accesses es ≡ moved_accesses ms d.moved.values =
    append_cancel_right (accesses es) (moved_accesses ms d.moved.values) (accesses s.log) both in
    subst (PastOn (FirstTime dwords) []) (sym same)
    (moves-once w dwords (aligned windows_base dwords (owned-rises cases h)) ms d.moved.values s.mem [] d.moved.moves
    (fresh-rising dwords b ms [] rises (λ y l. refl))))
    (record { regs = regs; mem = mem })
    (collect_all_runs cases h w s b save shaped mine base target few movable at))
