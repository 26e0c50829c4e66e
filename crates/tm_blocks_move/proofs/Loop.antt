-- What every run of the words does that move lines.
use Rattle.std.proofs.Common.{◌≡◌, ◌≢◌, ℕ, zero, suc, ◌+◌, ◌*◌, ◌^◌, ◌<◌, ◌≤◌, List, [], ◌∷◌, ◌++◌, length, map}
use Rattle.std.proofs.Common.{flat_map, true, false, refl, sym, ap, ◌∙◌, subst, arith, append_assoc, length-append}
use Rattle.std.proofs.Common.{ne_eqb, Some}
use Rattle.tm_table.specs.declared.instr.Instr.{Instr}
use Rattle.tm_table.specs.declared.state.Access.{Access}
use Rattle.tm_table.specs.declared.state.Access.TheVariants.{Quiet, Read, Write}
use Rattle.tm_base.specs.Lists.{count_from}
use Rattle.tm_runs.specs.Machine.{World, State, Table, get, loaded, computes}
use Rattle.tm_runs.specs.Runs.{Takes, Now, At, Within, IsQuiet}
use Rattle.tm_runs.proofs.Compose.{takes_then, takes_more, takes_map, within_map, quiet_within}
use Rattle.tm_runs.proofs.Steps.{step_ld, step_sd, step_addi, step_bne_taken, step_bne_on, written, branched}
use Rattle.tm_runs.proofs.Tables.{get_put_other, at_front, at_next}
use Rattle.tm_blocks_base.specs.Instrs.{addi, ld, sd}
use Rattle.tm_blocks_base.specs.Blocks.{constant, copy_dword, copy_dwords}
use Rattle.tm_blocks_base.specs.Laws.{accesses}
use Rattle.tm_blocks_base.proofs.Lengths.{length-constant, length-copy_dwords}
use Rattle.tm_blocks_base.proofs.Dwords.{fit_put, on_quiet, on_branch, on_read}
use Rattle.tm_blocks_base.proofs.Constant.{constant_takes}
use Rattle.tm_blocks_base.specs.Instrs.{subi, bne_back}
use Rattle.tm_blocks_move.specs.Words.{line_turn, lines_loop, move_lines}
use Rattle.tm_blocks_move.specs.Laws.{Move, Movable, EachMove, moved_accesses, HasMoved, line_moves, lines_moves}
use Rattle.tm_blocks_move.proofs.Lengths.{whole, length-whole, piece-is}
use Rattle.tm_blocks_move.proofs.Moves.{each-left, each-right, moved_none, moved_then, moved_quiet, quiet_moved}

module _ (w : World) (lo hi : ℕ) (A : Access → Type 0) (quiet : A Quiet) where
  -- a move that may be made here
  pub record Ready (m : Move) : Type 0 where
    pub movable : Movable w m
    pub read : (v : ℕ) → A (Read m.0 8 v)
    pub write : (v : ℕ) → A (Write m.1 8 v)

  -- dwords j to j + n - 1 of a line
  abbrev pub some_moves : (p q j n : ℕ) → List Move
  some_moves p q j n = map (λ i. (p + 8 * i, q + 8 * i)) (count_from j n)

  pub record LineMoved (ms : List Move) (bytes : ℕ) (s t : State) : Type 0 where
    pub pc : t.pc ≡ s.pc + bytes
    pub moved : HasMoved w ms s t
    pub kept : (r : ℕ) → r ≢ 3 → get t.regs r ≡ get s.regs r

  pub line_take : (f t : ℕ) → f ≢ 3 → t ≢ 3 → (n j p q : ℕ) (s : State) → EachMove Ready (some_moves p q j n)
      → get s.regs f ≡ p → get s.regs t ≡ q → lo ≤ s.pc → s.pc + 8 * n ≤ hi
      → At w.text s.pc (flat_map (copy_dword f 0 t 0) (count_from j n))
      → Takes w (Within lo hi A) (LineMoved (some_moves p q j n) (8 * n) s) (2 * n) s
  line_take f t f3 t3 zero j p q s ready one two x y at =
      Now (record { pc = omega arith; moved = moved_none w s; kept = λ r _. refl })
  line_take f t f3 t3 (suc n) j p q s ready one two x y at =
      let m = ready.0.movable in
      let rl = m.read_low in
      let wl = m.write_low in
      takes_more (2 * suc n) (omega arith)
      (step_ld {n = suc (2 * n)} (p + 8 * j) refl at.0 (rw one (omega arith)) m.read
      (λ v _ _. on_read _ (p + 8 * j) v s (ready.0.read v) x (omega arith))
      (λ v small own.
      let s1 = loaded (ld 3 (8 * (0 + j)) f) (p + 8 * j) v s in
      let s2 = written (sd 3 (8 * (0 + j)) t) (q + 8 * j) s1 in
      let inside : Within lo hi A s2 = record {
        from = omega arith;
        below = omega arith;
        least = omega arith;
        most = omega arith;
        access = ready.0.write v;
      } in
      let one' : get s2.regs f ≡ p = get_put_other s.regs 3 v f f3 ∙ one in
      let two' : get s1.regs t ≡ q = get_put_other s.regs 3 v t t3 ∙ two in
      step_sd (q + 8 * j) refl at.1.0 (rw two' (omega arith)) m.write m.free inside
      (takes_map (λ z g. g) (λ z h. record {
        pc = omega (arith, h.pc);
        moved = record {
          values = v ∷ h.moved.values;
          moves = (small, own, h.moved.moves);
          mem = h.moved.mem;
          accesses = h.moved.accesses ∙ sym (append_assoc (moved_accesses (some_moves p q (suc j) n) h.moved.values)
              (Write (q + 8 * j) 8 v ∷ Read (p + 8 * j) 8 v ∷ []) (accesses s.log));
          regs = λ r n1 n2 n3 n4. h.moved.regs r n1 n2 n3 n4 ∙ get_put_other s.regs 3 v r n3;
          fits = λ k. h.moved.fits (fit_put s.regs 3 v small k);
        };
        kept = λ r n3. h.kept r n3 ∙ get_put_other s.regs 3 v r n3;
      })
      (line_take f t f3 t3 n (suc j) p q s2 ready.1 one' two' (omega arith) (omega arith) at.1.1))))

  module _ (n a b : ℕ) where
    -- after one line, before the branch
    record Turned (k p q : ℕ) (s t : State) : Type 0 where
      pc : t.pc ≡ s.pc + (8 * n + 20)
      one : get t.regs 1 ≡ p + (a + a)
      two : get t.regs 2 ≡ q + (b + b)
      four : get t.regs 4 ≡ k
      code : w.text t.pc ≡ Some (bne_back 4 0 (8 * n + 20))
      moved : HasMoved w (line_moves p q n) s t

    pub record LinesMoved (p q k : ℕ) (s t : State) : Type 0 where
      pub pc : t.pc ≡ s.pc + (8 * n + 24)
      pub two : get t.regs 2 ≡ q + (b + b) * k
      pub moved : HasMoved w (lines_moves p q n (a + a) (b + b) k) s t

    abbrev line : List Instr
    line = copy_dwords 1 0 2 0 n

    abbrev rest : List Instr
    rest = line_turn n a b

    turn_take : (k p q : ℕ) (s : State) → EachMove Ready (line_moves p q n) → get s.regs 1 ≡ p → get s.regs 2 ≡ q
        → get s.regs 4 ≡ suc k → p + (a + a) < 2 ^ 64 → q + (b + b) < 2 ^ 64 → k < 2 ^ 63 → lo ≤ s.pc
        → s.pc + (8 * n + 24) ≤ hi → At w.text s.pc (line ++ rest)
        → Takes w (Within lo hi A) (Turned k p q s) (2 * n + 5) s
    unfolding copy_dwords
    turn_take k p q s ready one two four pl ql kl x y at =
        takes_then (line_take 1 2 (omega arith) (omega arith) n 0 p q s ready one two x (omega arith)
        (at_front w.text s.pc line rest at)) (λ t h.
        let pc : t.pc ≡ s.pc + 8 * n = h.pc in
        let code = at_next w.text s.pc t.pc line rest (2 * n) (length-copy_dwords 1 0 2 0 n) (omega arith) at in
        let e1 : get t.regs 1 ≡ p = h.kept 1 (omega arith) ∙ one in
        let e2 : get t.regs 2 ≡ q = h.kept 2 (omega arith) ∙ two in
        let e4 : get t.regs 4 ≡ suc k = h.kept 4 (omega arith) ∙ four in
        let s1 = computes (addi 1 1 a) t (p + a) in
        let s2 = computes (addi 1 1 a) s1 (p + (a + a)) in
        let s3 = computes (addi 2 2 b) s2 (q + b) in
        let s4 = computes (addi 2 2 b) s3 (q + (b + b)) in
        let s5 = computes (subi 4 4 1) s4 k in
        step_addi (p + a) refl code.0 (rw e1 (omega arith)) (on_quiet _ t _ quiet (omega arith) (omega arith))
        (step_addi (p + (a + a)) refl code.1.0 (omega arith) (on_quiet _ s1 _ quiet (omega arith) (omega arith))
        (step_addi (q + b) refl code.1.1.0 (rw e2 (omega arith)) (on_quiet _ s2 _ quiet (omega arith) (omega arith))
        (step_addi (q + (b + b)) refl code.1.1.1.0 (omega arith) (on_quiet _ s3 _ quiet (omega arith) (omega arith))
        (step_addi k refl code.1.1.1.1.0 (rw e4 (omega arith)) (on_quiet _ s4 _ quiet (omega arith) (omega arith))
        (Now (record {
          pc = omega arith;
          one = refl;
          two = refl;
          four = refl;
          code = code.1.1.1.1.1.0;
          moved = quiet_moved w (line_moves p q n) s t s5 refl refl
              (λ r n1 n2 n3 n4. get_put_other s4.regs 4 k r n4 ∙
              (get_put_other s3.regs 2 (q + (b + b)) r n2 ∙
              (get_put_other s2.regs 2 (q + b) r n2 ∙
              (get_put_other s1.regs 1 (p + (a + a)) r n1 ∙ get_put_other t.regs 1 (p + a) r n1))))
              (λ f. fit_put s4.regs 4 k (omega arith)
              (fit_put s3.regs 2 (q + (b + b)) ql
              (fit_put s2.regs 2 (q + b) (omega arith)
              (fit_put s1.regs 1 (p + (a + a)) pl (fit_put t.regs 1 (p + a) (omega arith) f))))) h.moved;
        })))))))

    -- what the loop does with k + 1 lines left
    abbrev Loops : ℕ → Type 0
    Loops k = (p q : ℕ) (s : State) → EachMove Ready (lines_moves p q n (a + a) (b + b) (suc k)) → get s.regs 1 ≡ p
        → get s.regs 2 ≡ q → get s.regs 4 ≡ suc k → p + (a + a) * suc k < 2 ^ 64 → q + (b + b) * suc k < 2 ^ 64
        → k < 2 ^ 63 → lo < s.pc → s.pc + (8 * n + 24) ≤ hi → At w.text s.pc (line ++ rest)
        → Takes w (Within lo hi A) (LinesMoved p q (suc k) s) (suc k * (2 * n + 6)) s

    -- a branch changes nothing but the place
    branch-moved : (i : Instr) (pc : ℕ) (t : State) → HasMoved w [] t (branched i pc t)
    branch-moved i pc t = record {
      values = [];
      moves = tt;
      mem = refl;
      accesses = refl;
      regs = λ r _ _ _ _. refl;
      fits = λ f. f;
    }

    pub loop_take : (k : ℕ) → Loops k
    loop_take zero p q s ready one two four pl ql kl x y at =
        takes_more {n = 2 * n + 5 + 1} (1 * (2 * n + 6)) (omega arith)
        (takes_then {k = 1} (turn_take 0 p q s (each-left Ready (line_moves p q n) [] ready) one two four (omega arith)
        (omega arith) kl (omega arith) y at) (λ t h.
        let pc : t.pc ≡ s.pc + (8 * n + 20) = h.pc in
        step_bne_on {n = 0} refl h.code h.four (on_branch _ _ t quiet (omega arith) (omega arith) (omega arith)
        (omega arith))
        (Now (record {
          pc = omega arith;
          two = h.two ∙ omega arith;
          moved = moved_then w (line_moves p q n) [] s t (branched (bne_back 4 0 (8 * n + 20)) (t.pc + 4) t) h.moved
              (branch-moved (bne_back 4 0 (8 * n + 20)) (t.pc + 4) t);
        }))))
    loop_take (suc k) p q s ready one two four pl ql kl x y at =
        takes_more {n = 2 * n + 5 + suc (suc k * (2 * n + 6))} (suc (suc k) * (2 * n + 6)) (omega arith)
        (takes_then {k = suc (suc k * (2 * n + 6))}
        (turn_take (suc k) p q s (each-left Ready (line_moves p q n)
        (lines_moves (p + (a + a)) (q + (b + b)) n (a + a) (b + b) (suc k)) ready) one two four (omega arith)
        (omega arith) kl (omega arith) y at) (λ t h.
        let pc : t.pc ≡ s.pc + (8 * n + 20) = h.pc in
        let u = branched (bne_back 4 0 (8 * n + 20)) s.pc t in
        step_bne_taken {n = suc k * (2 * n + 6)} s.pc refl h.code (λ e. omega (arith, h.four, e)) (omega arith)
        (on_branch _ _ t quiet (omega arith) (omega arith) x (omega arith))
        (takes_map (λ v g. g) (λ v g. record {
          pc = g.pc;
          two = g.two ∙ omega arith;
          moved = moved_then w (line_moves p q n) (lines_moves (p + (a + a)) (q + (b + b)) n (a + a) (b + b) (suc k)) s
              t v h.moved (moved_then w [] (lines_moves (p + (a + a)) (q + (b + b)) n (a + a) (b + b) (suc k)) t u v
              (branch-moved (bne_back 4 0 (8 * n + 20)) s.pc t) g.moved);
        })
        (loop_take k (p + (a + a)) (q + (b + b)) u
        (each-right Ready (line_moves p q n) (lines_moves (p + (a + a)) (q + (b + b)) n (a + a) (b + b) (suc k))
        ready) h.one h.two h.four (omega arith) (omega arith) (omega arith) x y at))))

    -- ---- so many lines from an address on

    pub record PieceMoved (from q lines : ℕ) (s t : State) : Type 0 where
      pub pc : t.pc ≡ s.pc + 4 * length (move_lines from lines n a b)
      pub two : get t.regs 2 ≡ q + (b + b) * lines
      pub moved : HasMoved w (lines_moves from q n (a + a) (b + b) lines) s t

    open-loop : (pc : ℕ) → At w.text pc (lines_loop n a b) → At w.text pc (line ++ rest)
    unfolding lines_loop
    open-loop pc h = h

    pub piece_take : (from q lines : ℕ) (s : State) → get s.regs 2 ≡ q
        → EachMove Ready (lines_moves from q n (a + a) (b + b) lines) → from + (a + a) * lines < 2 ^ 64
        → q + (b + b) * lines < 2 ^ 64 → lines < 2048 → lo ≤ s.pc → s.pc + 4 * length (move_lines from lines n a b) ≤ hi
        → At w.text s.pc (move_lines from lines n a b)
        → Takes w (Within lo hi A) (PieceMoved from q lines s) (12 + lines * (2 * n + 6)) s
    piece_take from q zero s two ready fl ql few x y at = Now (record {
      pc = omega (arith, ap length (piece-is n a b from zero true refl));
      two = two ∙ omega arith;
      moved = moved_none w s;
    })
    piece_take from q (suc k) s two ready fl ql few x y at =
        let lines = suc k in
        let is = piece-is n a b from lines false (ne_eqb lines 0 (λ e. omega arith)) in
        let len : length (move_lines from lines n a b) ≡ 2 * n + 18 = ap length is ∙ length-whole n a b from lines in
        let code : At w.text s.pc (whole n a b from lines) = subst (At w.text s.pc) is at in
        let front = constant 1 from ++ (addi 4 0 lines ∷ []) in
        let most = at_front w.text s.pc front (lines_loop n a b) code in
        let long : length front ≡ 12 = length-append (constant 1 from) (addi 4 0 lines ∷ []) ∙ ap (λ (i : ℕ). i + 1)
        (length-constant 1 from) in
        takes_more {n = 11 + suc (lines * (2 * n + 6))} (12 + lines * (2 * n + 6)) (omega arith)
        (takes_then {n = 11} {k = suc (lines * (2 * n + 6))}
        (takes_map (quiet_within lo hi A quiet) (λ t c. c) (constant_takes w lo hi 1 from (omega arith) s (omega arith)
        (omega arith) (omega arith) (at_front w.text s.pc (constant 1 from) (addi 4 0 lines ∷ []) most))) (λ t c.
        let pc : t.pc ≡ s.pc + 44 = c.pc in
        let here = at_next w.text s.pc t.pc (constant 1 from) (addi 4 0 lines ∷ []) 11 (length-constant 1 from) pc most
        in
        let u = computes (addi 4 0 lines) t lines in
        let behind = at_next w.text s.pc (t.pc + 4) front (lines_loop n a b) 12 long (omega arith) code in
        let two' : get t.regs 2 ≡ q = ap (λ (f : Table). get f 2) c.regs ∙ two in
        step_addi {n = lines * (2 * n + 6)} lines refl here.0 (omega arith)
        (on_quiet _ t _ quiet (omega arith) (omega arith))
        (takes_map (λ v g. g) (λ v g. record {
          pc = omega (arith, g.pc, len);
          two = g.two;
          moved = moved_quiet w (lines_moves from q n (a + a) (b + b) lines) s u v c.mem c.accesses
              (λ r n1 n2 n3 n4. get_put_other t.regs 4 lines r n4 ∙
              (ap (λ (f : Table). get f r) c.regs ∙ get_put_other s.regs 1 from r n1))
              (λ f. fit_put t.regs 4 lines (omega arith) (c.fits f)) g.moved;
        })
        (loop_take k from q u ready (ap (λ (f : Table). get f 1) c.regs) two' refl fl ql (omega arith) (omega arith)
        (omega arith) (open-loop u.pc behind)))))
