-- What every run of the words does that collect shared memory.
use Rattle.std.proofs.Common.{◌≡◌, ℕ, zero, suc, ◌+◌, ◌*◌, ◌/◌, ◌^◌, ◌<◌, ◌≤◌, List, [], ◌∷◌, ◌++◌, length, flat_map}
use Rattle.std.proofs.Common.{refl, sym, ap, ap₂, ◌∙◌, subst, arith, length-append}
use Rattle.tm_table.specs.declared.instr.Instr.{Instr}
use Rattle.tm_table.specs.declared.state.Access.{Access}
use Rattle.tm_plan_cases.specs.declared.cases.Cases.{Cases}
use Rattle.tm_plan_map.specs.Map.{windows_base}
use Rattle.tm_plan_cases.specs.Shaped.{AreShaped}
use Rattle.tm_plan_cases.specs.Collected.{owned}
use Rattle.tm_runs.specs.Machine.{World, get, computes}
use Rattle.tm_runs.proofs.Compose.{takes_then, takes_more, takes_map}
use Rattle.tm_runs.proofs.Steps.{step_addi}
use Rattle.tm_runs.proofs.Tables.{get_put_other, at_front, at_next}
use Rattle.tm_blocks_base.specs.Instrs.{addi}
use Rattle.tm_blocks_base.specs.Blocks.{copy_dwords}
use Rattle.tm_blocks_base.proofs.Lengths.{length-copy_dwords}
use Rattle.tm_blocks_base.proofs.Dwords.{fit_put, on_quiet}
use Rattle.tm_blocks_move.specs.Laws.{Move, EachMove, HasMoved, line_moves, lines_moves}
use Rattle.tm_plan_owned.specs.Lines.{line_count, line_place, own_dwords, three}
use Rattle.tm_blocks_move.specs.Lines.{half_stride, collect_window, collect_windows, collect_all, collect_moves}
use Rattle.tm_blocks_move.specs.Runs.{UsesMoves, all_collected, CollectAllRuns}
use Rattle.tm_blocks_move.proofs.Moves.{each-left, each-right, moved_then, moved_quiet}
use Rattle.tm_blocks_move.proofs.Loop.{Ready, line_take, piece_take}
use Rattle.tm_plan_owned.proofs.Windows.{line-of, lines_are_owned}
use Rattle.tm_plan_owned.proofs.Reach.{length-lines, reach}
use Rattle.tm_blocks_move.proofs.Shapes.{collect-append, collect-lines}
use Rattle.tm_blocks_move.proofs.Blocks.{all-ready, part-ready, One, three_take, few-steps, twice}

module _ (cases : Cases) (h q : ℕ) (s : AreShaped cases) (mine : h < cases.harts) where
  abbrev n : ℕ
  n = cases.line / 8

  abbrev a : ℕ
  a = cases.line * cases.harts

  -- where the dwords of a window go
  abbrev place : ℕ → ℕ
  place zero = q
  place (suc v) = place v + cases.line * line_count cases h v

  abbrev part : ℕ → List Move
  part v = collect_moves (own_dwords cases h v) (place v)

  eight : cases.line ≡ 8 * n
  eight = let size = line-of cases.line s.line in omega (arith, size.2.eight, size.2.dwords)

  next-place : (v : ℕ) → place v + 8 * length (own_dwords cases h v) ≡ place (suc v)
  next-place v =
      let c = line_count cases h v in
      let e : cases.line * c ≡ 8 * n * c = ap (λ (l : ℕ). l * c) eight in
      omega (arith, e, length-lines (windows_base + line_place cases h v) n a c)

  part-flat : collect_moves (owned cases h) q ≡ flat_map part three
  part-flat =
      let o = own_dwords cases h in
      ap (λ (l : List ℕ). collect_moves l q) (lines_are_owned cases h s mine)
      ∙ (collect-append (o 0) (o 1 ++ (o 2 ++ [])) q
      ∙ ap (λ (l : List Move). part 0 ++ l)
      (ap (collect_moves (o 1 ++ (o 2 ++ []))) (next-place 0)
      ∙ (collect-append (o 1) (o 2 ++ []) (place 1)
      ∙ ap (λ (l : List Move). part 1 ++ l)
      (ap (collect_moves (o 2 ++ [])) (next-place 1) ∙ collect-append (o 2) [] (place 2)))))

  place-low : (v : ℕ) → v ≤ 3 → place v ≤ q + 4096 * v
  place-low zero l = omega arith
  place-low (suc v) l = let far = reach cases h v s (omega arith) in omega (arith, place-low v (omega arith), far.line)

  abbrev steps : ℕ → ℕ
  steps v = 12 + line_count cases h v * (2 * n + 6)

  module _ (w : World) (lo hi : ℕ) (all : List Move) (near : q < 2 ^ 63 + 240) where
    abbrev A : Access → Type 0
    A = UsesMoves all

    collect-take : (v : ℕ) → v < 3 → EachMove (Ready w lo hi A tt) (part v)
        → One w lo hi A (collect_window cases h) part (λ v t. get t.regs 2 ≡ place v) steps v
    unfolding windows_base
    collect-take v low ready t two x y at =
        let far = reach cases h v s low in
        let c = line_count cases h v in
        let p = windows_base + line_place cases h v in
        let half = half_stride cases in
        let line = cases.line / 2 in
        let both : line + line ≡ cases.line = omega (arith, eight) in
        let stride = twice cases h 0 s mine in
        let is = ap₂ (λ (x y : ℕ). lines_moves p (place v) n x y c) stride both ∙ collect-lines n a cases.line c p
        (place v) eight in
        let whole : (half + half) * c ≡ a * c = ap (λ (x : ℕ). x * c) stride in
        let each : (line + line) * c ≡ cases.line * c = ap (λ (x : ℕ). x * c) both in
        takes_map (λ u k. k) (λ u k. record {
          pc = k.pc;
          moved = subst (λ (l : List Move). HasMoved w l t u) is k.moved;
          holds = k.two ∙ ap (λ (x : ℕ). place v + x) each;
        })
        (piece_take w lo hi A tt n half line p (place v) c t two (subst (EachMove (Ready w lo hi A tt)) (sym is) ready)
        (omega (arith, far.place, far.all, whole)) (omega (arith, place-low v (omega arith), far.line, each)) far.count
        x y at)

pub collect_all_runs : (cases : Cases) (h : ℕ) → CollectAllRuns cases h
unfolding collect_all collect_windows copy_dwords
collect_all_runs cases h w s b save shaped mine base target near movable at =
    let lo = s.pc in
    let hi = s.pc + 4 * length (collect_all cases h) in
    let all = all_collected cases h b save in
    let q = save + 240 in
    let registers = line_moves b save 30 in
    let shared = collect_moves (owned cases h) q in
    let flat = part-flat cases h q shaped mine in
    let every = all-ready w lo hi all all (λ m i. i) movable in
    let first = each-left (Ready w lo hi (UsesMoves all) tt) registers shared every in
    let rest = subst (EachMove (Ready w lo hi (UsesMoves all) tt)) flat
    (each-right (Ready w lo hi (UsesMoves all) tt) registers shared every) in
    let l1 = copy_dwords 31 0 9 0 30 in
    let l2 : List Instr = addi 2 9 240 ∷ [] in
    let l3 = flat_map (collect_window cases h) three in
    let two = at_front w.text s.pc (l1 ++ l2) l3 at in
    let n1 : length l1 ≡ 60 = length-copy_dwords 31 0 9 0 30 in
    let n2 : length (l1 ++ l2) ≡ 61 = length-append l1 l2 ∙ ap (λ (k : ℕ). k + 1) n1 in
    let n3 : length (collect_all cases h) ≡ 61 + length l3 =
    length-append (l1 ++ l2) l3 ∙ ap (λ (k : ℕ). k + length l3) n2 in
    let st = steps cases h q shaped mine in
    takes_more {n = 60 + suc (st 0 + (st 1 + st 2))} (97 + 4 * length (owned cases h))
    (omega (arith, few-steps cases h 0 shaped mine))
    (takes_then {n = 60} {k = suc (st 0 + (st 1 + st 2))}
    (line_take w lo hi (UsesMoves all) tt 31 9 (omega arith) (omega arith) 30 0 b save s first base target
    (omega arith) (omega (arith, n3)) (at_front w.text s.pc l1 l2 two)) (λ t f.
    let pc : t.pc ≡ s.pc + 8 * 30 = f.pc in
    let here = at_next w.text s.pc t.pc l1 l2 60 n1 (omega arith) two in
    let u = computes (addi 2 9 240) t q in
    let nine : get t.regs 9 ≡ save = f.kept 9 (omega arith) ∙ target in
    let behind = at_next w.text s.pc u.pc (l1 ++ l2) l3 61 n2 (omega arith) at in
    step_addi {n = st 0 + (st 1 + st 2)} q refl here.0 (rw nine (omega arith))
    (on_quiet _ t _ tt (omega arith) (omega (arith, n3)))
    (takes_map (λ v g. g) (λ v g. record {
      pc = omega (arith, g.pc, n3);
      moved = moved_then w registers shared s t v f.moved (subst (λ (l : List Move). HasMoved w l t v) (sym flat)
          (moved_quiet w (flat_map (part cases h q shaped mine) three) t u v refl refl
          (λ r n1 n2 n3 n4. get_put_other t.regs 2 q r n2) (λ k. fit_put t.regs 2 q (omega arith) k) g.moved));
    })
    (three_take w lo hi (UsesMoves all) (collect_window cases h) (part cases h q shaped mine) (λ v t. get t.regs 2
    ≡ place cases h q shaped mine v) st
    (λ v low. collect-take cases h q shaped mine w lo hi all (omega arith) v low
    (part-ready (Ready w lo hi (UsesMoves all) tt) (part cases h q shaped mine) v low rest))
    u refl (omega arith) (omega (arith, n3)) behind))))
