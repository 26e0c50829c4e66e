-- Laws of moves that collect, and of the accesses of a log.
use Rattle.std.proofs.Common.{◌≡◌, ◌⊎◌, inl, inr, ℕ, zero, suc, ◌+◌, ◌*◌, ◌<◌, ◌≤◌, Bool, true}
use Rattle.std.proofs.Common.{◌||◌, List, [], ◌∷◌, ◌++◌, length, map}
use Rattle.std.proofs.Common.{refl, sym, ap, ◌∙◌, arith, append-nil}
use Rattle.std.specs.Prelude.{slice_index}
use Rattle.std.proofs.lemmas.Bool.Decides.{nat_tests}
use Rattle.tm_table.specs.declared.state.Access.{Access}
use Rattle.tm_table.specs.declared.state.Access.TheVariants.{Quiet, Read, Write}
use Rattle.tm_base.specs.Lists.{any, count_from}
use Rattle.tm_world.specs.Course.{reads_in}
use Rattle.tm_runs.specs.Machine.{Entry}
use Rattle.tm_runs.specs.Runs.{Newest, Does}
use Rattle.tm_blocks_base.specs.Laws.{with_access, accesses}
use Rattle.tm_blocks_move.specs.Laws.{Move, Among, line_moves}
use Rattle.tm_blocks_move.specs.Lines.{collect_moves}
use Rattle.tm_plan_owned.specs.Lines.{line_dwords}
use Rattle.tm_blocks_move.specs.Runs.{In}
use Rattle.tm_pass_steps.proofs.Sources.{line-collects, collect-both}
use Rattle.tm_pass_steps.proofs.Sources.{AreFirst}

pub placed : (xs : List ℕ) (q : ℕ) (m : Move) → In m (collect_moves xs q) → Among m.0 xs × (q ≤ m.1)
    × (m.1 + 8 ≤ q + 8 * length xs)
placed [] q m i = absurd i
placed (x ∷ xs) q m (inl e) = (
  inl (ap (λ (k : Move). k.0) e),
  (let z = ap (λ (k : Move). k.1) e in omega arith),
  (let z = ap (λ (k : Move). k.1) e in omega arith),
)
placed (x ∷ xs) q m (inr i) = let r = placed xs (q + 8) m i in
    (inr r.0, (let z = r.1 in omega arith), (let z = r.2 in omega arith))

pub among-row : (n p j a : ℕ) (xs : List ℕ) → Among a (map (λ i. p + 8 * i) (count_from j n) ++ xs)
    → (a + 8 ≤ p + 8 * (j + n)) ⊎ Among a xs
among-row zero p j a xs i = inr i
among-row (suc n) p j a xs (inl e) = inl (omega arith)
among-row (suc n) p j a xs (inr i) = by (among-row n p (suc j) a xs i)
  where
    by : (a + 8 ≤ p + 8 * (suc j + n)) ⊎ Among a xs → (a + 8 ≤ p + 8 * (j + suc n)) ⊎ Among a xs
    by (inl l) = inl (omega arith)
    by (inr k) = inr k

pub index-row : (n p j i : ℕ) (xs : List ℕ) → i < n → slice_index (map (λ i. p + 8 * i) (count_from j n) ++ xs) i
    ≡ p + 8 * (j + i)
index-row zero p j i xs l = absurd (omega arith)
index-row (suc n) p j zero xs l = omega arith
index-row (suc n) p j (suc i) xs l = index-row n p (suc j) i xs (omega arith) ∙ omega arith

pub index-behind : (n p j i : ℕ) (xs : List ℕ) → slice_index (map (λ i. p + 8 * i) (count_from j n) ++ xs) (n + i)
    ≡ slice_index xs i
index-behind zero p j i xs = let e : 0 + i ≡ i = omega arith in ap (slice_index xs) e
index-behind (suc n) p j i xs = let e : suc n + i ≡ suc (n + i) = omega arith in
    ap (slice_index (map (λ i. p + 8 * i) (count_from j (suc n)) ++ xs)) e ∙ index-behind n p (suc j) i xs

pub length-row : (n p j : ℕ) (xs : List ℕ) → length (map (λ i. p + 8 * i) (count_from j n) ++ xs) ≡ n + length xs
length-row zero p j xs = omega arith
length-row (suc n) p j xs = let r = length-row n p (suc j) xs in
    let e : length (map (λ i. p + 8 * i) (count_from j (suc n)) ++ xs)
    ≡ suc (length (map (λ i. p + 8 * i) (count_from (suc j) n) ++ xs)) = refl in omega arith

pub all-moves : (n b save : ℕ) (dwords : List ℕ) → line_moves b save n ++ collect_moves dwords (save + 8 * n)
    ≡ collect_moves (line_dwords b n ++ dwords) save
all-moves n b save dwords =
    let e : save + 8 * 0 ≡ save = omega arith in
    let rows = line_dwords b n in
    let long : length rows ≡ n = ap length (sym (append-nil rows)) ∙ (length-row n b 0 [] ∙ omega arith) in
    ap (λ (ms : List Move). ms ++ collect_moves dwords (save + 8 * n))
    (line-collects n b save 0 ∙ ap (collect_moves rows) e)
    ∙ (ap (λ (k : ℕ). collect_moves rows save ++ collect_moves dwords (save + 8 * k)) (sym long) ∙ collect-both rows
    dwords save)

pub any-access : (a : ℕ) (es : List Entry) → any (λ (t : Entry). reads_in a 8 t.access) es
    ≡ any (reads_in a 8) (accesses es)
any-access a [] = refl
any-access a (e ∷ es) = by e.access (any-access a es)
  where
    by : (x : Access) → any (λ (t : Entry). reads_in a 8 t.access) es ≡ any (reads_in a 8) (accesses es)
        → (reads_in a 8 x || any (λ (t : Entry). reads_in a 8 t.access) es)
        ≡ any (reads_in a 8) (with_access x (accesses es))
    by Quiet r = r
    by (Read b n v) r = ap (λ (t : Bool). reads_in a 8 (Read b n v) || t) r
    by (Write b n v) r = ap (λ (t : Bool). reads_in a 8 (Write b n v) || t) r

pub first-tail : (dwords : List ℕ) (e : Entry) (es : List Entry) → AreFirst dwords [] (accesses (e ∷ es))
    → AreFirst dwords [] (accesses es)
first-tail dwords e es f = by e.access f
  where
    by : (x : Access) → AreFirst dwords [] (with_access x (accesses es)) → AreFirst dwords [] (accesses es)
    by Quiet g = g
    by (Read b n v) g = g.1
    by (Write b n v) g = g.1

pub reads-self : (a v : ℕ) → reads_in a 8 (Read a 8 v) ≡ true
reads-self a v = grind (arith, nat_tests)

pub widen : (lo mid hi : ℕ) (A : Access → Type 0) → lo ≤ mid → (log : List Entry) → Newest (Does mid hi A) log
    → Newest (Does lo hi A) log
widen lo mid hi A l [] h = tt
widen lo mid hi A l (e ∷ es) h = record {
  from = omega (arith, h.from);
  below = h.below;
  least = omega (arith, h.least);
  most = h.most;
  access = h.access;
}
