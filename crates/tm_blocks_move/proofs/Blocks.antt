-- What every run of the words does that set and collect shared memory.
use Rattle.std.proofs.Common.{◌≡◌, ℕ, zero, suc, ◌+◌, ◌-◌, ◌*◌, ◌/◌, ◌^◌, ◌<◌, ◌≤◌, List, [], ◌∷◌, ◌++◌, length, map}
use Rattle.std.proofs.Common.{flat_map, inl, inr, refl, sym, ap, ◌∙◌, subst, arith, append-nil, length-append}
use Rattle.std.proofs.lemmas.List.{map-append}
use Rattle.std.proofs.Math.Nat.{mul-le-mul_left}
use Rattle.tm_table.specs.declared.instr.Instr.{Instr}
use Rattle.tm_table.specs.declared.state.Access.{Access}
use Rattle.tm_plan_cases.specs.declared.cases.Cases.{Cases}
use Rattle.tm_plan_map.specs.Map.{windows_base}
use Rattle.tm_plan_cases.specs.Shaped.{AreShaped}
use Rattle.tm_plan_cases.specs.Collected.{owned}
use Rattle.tm_runs.specs.Machine.{World, State, Table, get}
use Rattle.tm_runs.specs.Runs.{Takes, At, Within, IsQuiet}
use Rattle.tm_runs.proofs.Compose.{takes_then, takes_more, takes_map, within_map, quiet_within}
use Rattle.tm_runs.proofs.Tables.{get_put_other, at_front, at_next}
use Rattle.tm_blocks_base.specs.Blocks.{constant}
use Rattle.tm_blocks_base.proofs.Lengths.{length-constant}
use Rattle.tm_blocks_base.proofs.Constant.{constant_takes}
use Rattle.tm_blocks_move.specs.Words.{move_lines}
use Rattle.tm_blocks_move.specs.Laws.{Move, Movable, EachMove, HasMoved, lines_moves}
use Rattle.tm_plan_owned.specs.Lines.{line_count, line_place, own_dwords, three}
use Rattle.tm_blocks_move.specs.Lines.{half_stride, first_window, first_bytes, set_moves}
use Rattle.tm_blocks_move.specs.Runs.{In, UsesMoves, FirstBytesRuns}
use Rattle.tm_blocks_move.proofs.Moves.{each-left, each-right, moved_then, moved_quiet}
use Rattle.tm_blocks_move.proofs.Loop.{Ready, piece_take}
use Rattle.tm_plan_owned.proofs.Windows.{line-of, lines_are_owned}
use Rattle.tm_plan_owned.proofs.Reach.{reach, owned-length}
use Rattle.tm_blocks_move.proofs.Shapes.{set-lines}

-- ---- moves that may be made

pub all-ready : (w : World) (lo hi : ℕ) (all ms : List Move) → ((m : Move) → In m ms → In m all)
    → EachMove (Movable w) ms → EachMove (Ready w lo hi (UsesMoves all) tt) ms
all-ready w lo hi all [] f h = tt
all-ready w lo hi all (m ∷ ms) f h =
    let here = f m (inl refl) in (
      record { movable = h.0; read = λ v. (refl, (m, here, refl)); write = λ v. (refl, (m, here, refl)) },
      all-ready w lo hi all ms (λ k i. f k (inr i)) h.1,
    )

-- ---- three parts, one after another

module _ (w : World) (lo hi : ℕ) (A : Access → Type 0) (block : ℕ → List Instr) (moves : ℕ → List Move) (J : ℕ → State
    → Type 0) (steps : ℕ → ℕ) where
  pub record Part (v : ℕ) (s t : State) : Type 0 where
    pub pc : t.pc ≡ s.pc + 4 * length (block v)
    pub moved : HasMoved w (moves v) s t
    pub holds : J (suc v) t

  abbrev pub One : ℕ → Type 0
  One v = (s : State) → J v s → lo ≤ s.pc → s.pc + 4 * length (block v) ≤ hi → At w.text s.pc (block v)
      → Takes w (Within lo hi A) (Part v s) (steps v) s

  pub record All (s t : State) : Type 0 where
    pub pc : t.pc ≡ s.pc + 4 * length (flat_map block three)
    pub moved : HasMoved w (flat_map moves three) s t
    pub holds : J 3 t

  long : length (flat_map block three) ≡ length (block 0) + (length (block 1) + length (block 2))
  long =
      length-append (block 0) (block 1 ++ (block 2 ++ []))
      ∙ ap (λ (k : ℕ). length (block 0) + k) (length-append (block 1) (block 2 ++ []) ∙ ap
      (λ (l : List Instr). length (block 1) + length l) (append-nil (block 2)))

  pub three_take : ((v : ℕ) → v < 3 → One v) → (s : State) → J 0 s → lo ≤ s.pc
      → s.pc + 4 * length (flat_map block three) ≤ hi → At w.text s.pc (flat_map block three)
      → Takes w (Within lo hi A) (All s) (steps 0 + (steps 1 + steps 2)) s
  three_take one s j x y at =
      let len = long in
      let at0 = at_front w.text s.pc (block 0) (block 1 ++ (block 2 ++ [])) at in
      takes_then (one 0 (omega arith) s j x (omega (arith, len)) at0) (λ t f.
      let pc1 = f.pc in
      let at1 = at_next w.text s.pc t.pc (block 0) (block 1 ++ (block 2 ++ [])) (length (block 0)) refl pc1 at in
      takes_then (one 1 (omega arith) t f.holds (omega arith) (omega (arith, len))
      (at_front w.text t.pc (block 1) (block 2 ++ []) at1)) (λ u g.
      let pc2 = g.pc in
      let at2 = at_next w.text t.pc u.pc (block 1) (block 2 ++ []) (length (block 1)) refl pc2 at1 in
      takes_map (λ v k. k) (λ v k. record {
        pc = omega (arith, len, k.pc);
        moved = moved_then w (moves 0) (moves 1 ++ (moves 2 ++ [])) s t v f.moved
            (moved_then w (moves 1) (moves 2 ++ []) t u v g.moved
            (subst (λ (l : List Move). HasMoved w l u v) (sym (append-nil (moves 2))) k.moved));
        holds = k.holds;
      }) (one 2 (omega arith) u g.holds (omega arith) (omega (arith, len)) (at_front w.text u.pc (block 2) [] at2))))

-- a part of three lists
pub part-ready : (P : Move → Type 0) (moves : ℕ → List Move) (v : ℕ) → v < 3 → EachMove P (flat_map moves three)
    → EachMove P (moves v)
part-ready P moves zero l h = each-left P (moves 0) _ h
part-ready P moves (suc zero) l h = each-left P (moves 1) _ (each-right P (moves 0) _ h)
part-ready P moves (suc (suc zero)) l h =
    each-left P (moves 2) _ (each-right P (moves 1) _ (each-right P (moves 0) _ h))
part-ready P moves (suc (suc (suc v))) l h = absurd (omega arith)

-- ---- setting

module _ (cases : Cases) (h from : ℕ) (s : AreShaped cases) (mine : h < cases.harts) where
  abbrev pub n : ℕ
  n = cases.line / 8

  abbrev pub a : ℕ
  a = cases.line * cases.harts

  abbrev set-part : ℕ → List Move
  set-part v = set_moves from (own_dwords cases h v)

  set-flat : set_moves from (owned cases h) ≡ flat_map set-part three
  set-flat =
      let f : ℕ → Move = λ x. (from + (x - windows_base), x) in
      let o = own_dwords cases h in
      ap (set_moves from) (lines_are_owned cases h s mine)
      ∙ (map-append f (o 0) (o 1 ++ (o 2 ++ []))
      ∙ ap (λ (l : List Move). map f (o 0) ++ l) (map-append f (o 1) (o 2 ++ []) ∙ ap (λ (l : List Move). map f (o 1)
      ++ l) (map-append f (o 2) [])))

  abbrev set-steps : ℕ → ℕ
  set-steps v = 11 + (12 + line_count cases h v * (2 * n + 6))

  -- twice half a stride
  pub twice : half_stride cases + half_stride cases ≡ a
  twice =
      let size = line-of cases.line s.line in
      let even : cases.line ≡ 2 * (cases.line / 2) = omega (arith, size.2.eight) in
      let e : a ≡ 2 * (cases.line / 2 * cases.harts) = ap (λ (l : ℕ). l * cases.harts) even ∙ grind arith in
      omega (arith, e)

  pub count-four : (c : ℕ) → c * (2 * n + 6) ≤ 4 * (c * n)
  count-four c =
      let size = line-of cases.line s.line in
      let some : 4 ≤ n = omega (arith, size.2.some, size.2.dwords) in
      let e : c * 4 ≤ c * n = mul-le-mul_left c some in
      omega arith

  pub few-steps : line_count cases h 0 * (2 * n + 6)
      + (line_count cases h 1 * (2 * n + 6) + line_count cases h 2 * (2 * n + 6)) ≤ 4 * length (owned cases h)
  few-steps = omega (
    arith,
    owned-length cases h s mine,
    count-four (line_count cases h 0),
    count-four (line_count cases h 1),
    count-four (line_count cases h 2),
  )

  module _ (w : World) (lo hi : ℕ) (all : List Move) (near : from < 2 ^ 63) where
    abbrev A : Access → Type 0
    A = UsesMoves all

    first-take : (v : ℕ) → v < 3 → EachMove (Ready w lo hi A tt) (set-part v)
        → One w lo hi A (first_window cases h from) set-part (λ v t. Unit {0}) set-steps v
    unfolding windows_base
    first-take v low ready t j x y at =
        let far = reach cases h v s low in
        let d = line_place cases h v in
        let c = line_count cases h v in
        let first = constant 2 (windows_base + d) in
        let half = half_stride cases in
        let lines = move_lines (from + d) c n half half in
        let is = ap (λ (x : ℕ). lines_moves (from + d) (windows_base + d) n x x c) twice ∙ set-lines from n a c d in
        let whole : (half + half) * c ≡ a * c = ap (λ (x : ℕ). x * c) twice in
        let len : length (first ++ lines) ≡ 11 + length lines =
        length-append first lines ∙ ap (λ (k : ℕ). k + length lines) (length-constant 2 (windows_base + d)) in
        takes_then (takes_map (quiet_within lo hi A tt) (λ u g. g)
        (constant_takes w lo hi 2 (windows_base + d) (omega arith) t x
        (omega (arith, len)) (omega (arith, far.place)) (at_front w.text t.pc first lines at))) (λ u g.
        let pc = g.pc in
        takes_map (λ v k. k) (λ v k. record {
          pc = omega (arith, k.pc, len);
          moved = subst (λ (l : List Move). HasMoved w l t v) is
              (moved_quiet w (lines_moves (from + d) (windows_base + d) n (half + half) (half + half) c) t u v g.mem
              g.accesses
              (λ r n1 n2 n3 n4. ap (λ (f : Table). get f r) g.regs ∙ get_put_other t.regs 2 (windows_base + d) r n2)
              g.fits k.moved);
          holds = tt;
        })
        (piece_take w lo hi A tt n half half (from + d) (windows_base + d) c u (ap (λ (f : Table). get f 2) g.regs)
        (subst (EachMove (Ready w lo hi A tt)) (sym is) ready)
        (omega (arith, far.place, far.all, whole)) (omega (arith, far.place, far.all, whole)) far.count (omega arith)
        (omega (arith, len)) (at_next w.text t.pc u.pc first lines 11 (length-constant 2 (windows_base + d)) pc
        at)))

pub first_bytes_runs : (cases : Cases) (h from : ℕ) → FirstBytesRuns cases h from
unfolding first_bytes
first_bytes_runs cases h from w s shaped mine near movable at =
    let lo = s.pc in
    let hi = s.pc + 4 * length (first_bytes cases h from) in
    let all = set_moves from (owned cases h) in
    let flat = set-flat cases h from shaped mine in
    let ready = subst (EachMove (Ready w lo hi (UsesMoves all) tt)) flat (all-ready w lo hi all all (λ m i. i) movable)
    in
    takes_more (69 + 4 * length (owned cases h)) (omega (arith, few-steps cases h from shaped mine))
    (takes_map (λ t g. g) (λ t g. record {
      pc = g.pc;
      moved = subst (λ (l : List Move). HasMoved w l s t) (sym flat) g.moved;
    })
    (three_take w lo hi (UsesMoves all) (first_window cases h from) (set-part cases h from shaped mine)
    (λ v t. Unit {0}) (set-steps cases h from shaped mine)
    (λ v low. first-take cases h from shaped mine w lo hi all near v low
    (part-ready (Ready w lo hi (UsesMoves all) tt) (set-part cases h from shaped mine) v low ready))
    s tt (omega arith) (omega arith) at))
