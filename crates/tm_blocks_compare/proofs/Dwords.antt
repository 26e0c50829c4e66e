-- What every run of the words does that compare collected dwords.
use Rattle.std.proofs.Common.{◌≡◌, ◌≢◌, ℕ, zero, suc, ◌+◌, ◌*◌, ◌^◌, ◌<◌, ◌≤◌, ◌⊎◌, inl, inr, Bool, true, false, not}
use Rattle.std.proofs.Common.{◌==◌, List, [], ◌∷◌, ◌++◌, length, Some, refl, sym, ap, ap₂, ◌∙◌, arith, subst, eq-eqb}
use Rattle.std.proofs.Common.{ne_eqb, length-append}
use Rattle.std.specs.Prelude.{IsTrue, bit_and, bit_xor, if◌then◌else◌}
use Rattle.std.proofs.lemmas.Nat.{and_le_r}
use Rattle.tm_table.specs.declared.instr.Instr.{Instr}
use Rattle.tm_table.specs.declared.state.Access.{Access}
use Rattle.tm_table.specs.declared.state.Access.TheVariants.{Quiet, Read}
use Rattle.tm_runs.specs.Machine.{World, State, Table, get, computes, loaded, MayAccess}
use Rattle.tm_runs.specs.Runs.{Takes, Now, At, Within, IsQuiet}
use Rattle.tm_runs.proofs.Compose.{takes_then, takes_more, takes_map, within_map, quiet_within}
use Rattle.tm_runs.proofs.Steps.{step_addi, step_and, step_xor, step_ld, step_bne, step_bne_taken, step_bne_on}
use Rattle.tm_runs.proofs.Steps.{branched}
use Rattle.tm_runs.proofs.Tables.{get_put_other, at_front, at_next}
use Rattle.tm_blocks_base.specs.Instrs.{addi, and, xor, ld, subi, bne_back}
use Rattle.tm_blocks_base.specs.Blocks.{constant}
use Rattle.tm_blocks_base.specs.Laws.{RegistersFit}
use Rattle.tm_blocks_base.proofs.Lengths.{length-constant}
use Rattle.tm_blocks_base.proofs.Dwords.{fit_put, fit_three, on_quiet, on_branch, on_read}
use Rattle.tm_blocks_base.proofs.Constant.{constant_takes}
use Rattle.tm_blocks_compare.specs.Words.{dword_turn, line_turn, window_check}
use Rattle.tm_blocks_compare.specs.Numbers.{either, first_dword}
use Rattle.tm_blocks_compare.proofs.Looks.{Found, Passed, Looked, looked_then, looked_as, looked_before, either-zero}
use Rattle.tm_blocks_compare.proofs.Looks.{first-append, first-at}

-- n dwords from r on
abbrev pub row : (r n : ℕ) → List ℕ
row r zero = []
row r (suc n) = r ∷ row (r + 8) n

-- k lines of n dwords, with b bytes between two of them
abbrev pub rows : (r n b k : ℕ) → List ℕ
rows r n b zero = []
rows r n b (suc k) = row r n ++ rows (r + (8 * n + b)) n b k

-- registers that a search leaves alone
pub apart-from : (k : ℕ) → (k ≡ 5) ⊎ ((k ≡ 9) ⊎ (11 ≤ k)) → (n : ℕ) → n ≢ 5 → n ≢ 9 → n ≤ 10 → k ≢ n
apart-from k (inl a) n b c e = λ u. b (sym u ∙ a)
apart-from k (inr (inl a)) n b c e = λ u. c (sym u ∙ a)
apart-from k (inr (inr a)) n b c e = λ u. omega arith

module _ (w : World) (lo hi : ℕ) (A : Access → Type 0) (quiet : A Quiet) (table : Table) (stop : ℕ) where
  -- a dword that may be read, and reads back
  pub record Readable (a : ℕ) : Type 0 where
    pub may : MayAccess w a
    pub low : a < 2 ^ 64
    pub own : IsTrue (w.own a)
    pub ok : (v : ℕ) → A (Read a 8 v)

  -- what is compared with masks at these addresses
  abbrev pub Comparable : (p q : ℕ) → List ℕ → Type 0
  Comparable p q [] = Unit {0}
  Comparable p q (r ∷ rs) = Readable p × Readable q × Readable r × Comparable (p + 8) (q + 8) rs

  pub comparable-left : (xs ys : List ℕ) (p q : ℕ) → Comparable p q (xs ++ ys) → Comparable p q xs
  comparable-left [] ys p q h = tt
  comparable-left (x ∷ xs) ys p q h = (h.0, h.1, h.2, comparable-left xs ys (p + 8) (q + 8) h.3)

  pub comparable-right : (xs ys : List ℕ) (p q : ℕ) → Comparable p q (xs ++ ys)
      → Comparable (p + 8 * length xs) (q + 8 * length xs) ys
  comparable-right [] ys p q h =
      let a : p ≡ p + 8 * 0 = omega arith in
      let b : q ≡ q + 8 * 0 = omega arith in
      subst (λ (x : ℕ). Comparable x (q + 8 * 0) ys) a (subst (λ (x : ℕ). Comparable p x ys) b h)
  comparable-right (x ∷ xs) ys p q h =
      let a : p + 8 + 8 * length xs ≡ p + 8 * suc (length xs) = omega arith in
      let b : q + 8 + 8 * length xs ≡ q + 8 * suc (length xs) = omega arith in
      subst (λ (z : ℕ). Comparable z (q + 8 * suc (length xs)) ys) a
      (subst (λ (z : ℕ). Comparable (p + 8 + 8 * length xs) z ys) b (comparable-right xs ys (p + 8) (q + 8) h.3))

  abbrev difference : (p q r : ℕ) → ℕ
  difference p q r = bit_and (bit_xor (table p) (table q)) (table r)

  abbrev number : (p q r i : ℕ) → ℕ
  number p q r i = if not (difference p q r == 0) then suc i else 0

  number-other : (p q r i : ℕ) → difference p q r ≢ 0 → number p q r i ≡ suc i
  number-other p q r i h = ap (λ (b : Bool). if not b then suc i else 0) (ne_eqb (difference p q r) 0 h)

  number-same : (p q r i : ℕ) → difference p q r ≡ 0 → number p q r i ≡ 0
  number-same p q r i h = ap (λ (b : Bool). if not b then suc i else 0) (eq-eqb (difference p q r) 0 h)

  -- one dword was looked at
  record Decided (p q r i : ℕ) (s t : State) : Type 0 where
    place : ((t.pc ≡ stop) × (difference p q r ≢ 0)) ⊎ ((t.pc ≡ s.pc + 28) × (difference p q r ≡ 0))
    eight : get t.regs 8 ≡ suc i
    regs : (x : ℕ) → x ≢ 6 → x ≢ 7 → x ≢ 8 → get t.regs x ≡ get s.regs x
    mem : t.mem ≡ s.mem
    fits : RegistersFit s → RegistersFit t

  decide_take : (p q r i far : ℕ) (s : State) → Readable p → Readable q → Readable r → get s.regs 1 ≡ p
      → get s.regs 2 ≡ q → get s.regs 3 ≡ r → get s.regs 8 ≡ i → i < 2 ^ 32 → s.mem ≡ table
      → stop ≡ s.pc + 24 + 4 * (9 + far) → lo ≤ s.pc → s.pc + 28 ≤ hi → stop ≤ hi → At w.text s.pc (dword_turn far)
      → Takes w (Within lo hi A) (Decided p q r i s) 7 s
  decide_take p q r i far s rp rq rr one two three eight small same stops x y z at =
      let pl = rp.low in
      let ql = rq.low in
      let rl = rr.low in
      let s1 = computes (addi 8 8 1) s (suc i) in
      step_addi (suc i) refl at.0 (rw eight (omega arith)) (on_quiet _ s _ quiet x (omega arith))
      (step_ld p refl at.1.0 (rw one (omega arith)) rp.may
      (λ v _ _. on_read _ p v s1 (rp.ok v) (omega arith) (omega arith))
      (λ u fit_u is_u. let s2 = loaded (ld 6 0 1) p u s1 in
      step_ld q refl at.1.1.0 (rw two (omega arith)) rq.may
      (λ v _ _. on_read _ q v s2 (rq.ok v) (omega arith) (omega arith))
      (λ v fit_v is_v. let s3 = loaded (ld 7 0 2) q v s2 in
      step_xor (bit_xor u v) refl at.1.1.1.0 refl (on_quiet _ s3 _ quiet (omega arith) (omega arith))
      (let s4 = computes (xor 6 6 7) s3 (bit_xor u v) in
      step_ld r refl at.1.1.1.1.0 (rw three (omega arith)) rr.may
      (λ k _ _. on_read _ r k s4 (rr.ok k) (omega arith) (omega arith))
      (λ k fit_k is_k. let s5 = loaded (ld 7 0 3) r k s4 in
      let d = bit_and (bit_xor u v) k in
      step_and d refl at.1.1.1.1.1.0 refl (on_quiet _ s5 _ quiet (omega arith) (omega arith))
      (let s6 = computes (and 6 6 7) s5 d in
      let eu : u ≡ table p = is_u rp.own ∙ ap (λ (f : Table). f p) same in
      let ev : v ≡ table q = is_v rq.own ∙ ap (λ (f : Table). f q) same in
      let ek : k ≡ table r = is_k rr.own ∙ ap (λ (f : Table). f r) same in
      let values : d ≡ difference p q r = ap₂ bit_and (ap₂ bit_xor eu ev) ek in
      let few : d < 2 ^ 64 = let e = and_le_r (bit_xor u v) k in omega arith in
      let kept : (x : ℕ) → x ≢ 6 → x ≢ 7 → x ≢ 8 → get s6.regs x ≡ get s.regs x = λ x n6 n7 n8.
      get_put_other s5.regs 6 d x n6 ∙ (get_put_other s4.regs 7 k x n7 ∙
      (get_put_other s3.regs 6 (bit_xor u v) x n6 ∙
      (get_put_other s2.regs 7 v x n7 ∙ (get_put_other s1.regs 6 u x n6 ∙ get_put_other s.regs 8 (suc i) x n8)))) in
      let fit : RegistersFit s → RegistersFit s6 = fit_three s.regs s6.regs few fit_k (omega arith) kept in
      step_bne stop refl at.1.1.1.1.1.1.0 (omega arith)
      (λ ne. (
        on_branch _ _ s6 quiet (omega arith) (omega arith) (omega arith) z,
        Now (record { place = inl (refl, λ e. ne (values ∙ e)); eight = refl; regs = kept; mem = refl; fits = fit }),
      ))
      (λ eq. (
        on_branch _ _ s6 quiet (omega arith) (omega arith) (omega arith) (omega arith),
        Now (record { place = inr (omega arith, sym values ∙ eq); eight = refl; regs = kept; mem = refl; fits = fit }),
      ))))))))

  -- ---- the dwords of a line

  abbrev turns-to : (base c : ℕ) → ℕ
  turns-to base zero = base + 48
  turns-to base (suc c) = base

  -- behind a dword with c left
  record More (r c y4 : ℕ) (t : State) : Type 0 where
    three : get t.regs 3 ≡ r
    four : get t.regs 4 ≡ y4
    ten : get t.regs 10 ≡ c

  go_on : (c : ℕ) (t : State) (base : ℕ) → get t.regs 10 ≡ c → w.text t.pc ≡ Some (bne_back 10 0 44) → t.pc ≡ base + 44
      → lo < base → base + 48 ≤ hi → (Q : State → Type 0)
      → ((pc : ℕ) → pc ≡ turns-to base c → Q (branched (bne_back 10 0 44) pc t)) → Takes w (Within lo hi A) Q 1 t
  go_on zero t base ten at pc x y Q f =
      step_bne_on refl at ten (on_branch _ _ t quiet (omega arith) (omega arith) (omega arith) (omega arith))
      (Now (f (t.pc + 4) (omega arith)))
  go_on (suc c) t base ten at pc x y Q f = step_bne_taken base refl at (λ e. omega arith) (omega arith)
      (on_branch _ _ t quiet (omega arith) (omega arith) (omega arith) (omega arith)) (Now (f base refl))

  dword_take : (c p q r i far four : ℕ) (s : State) → Readable p → Readable q → Readable r → get s.regs 1 ≡ p
      → get s.regs 2 ≡ q → More r (suc c) four s → get s.regs 8 ≡ i → p + 8 < 2 ^ 64 → q + 8 < 2 ^ 64 → r + 8 < 2 ^ 64
      → i < 2 ^ 32 → c < 2 ^ 32 → s.mem ≡ table → stop ≡ s.pc + 24 + 4 * (9 + far) → lo < s.pc → s.pc + 48 ≤ hi
      → stop ≤ hi → At w.text s.pc (dword_turn far)
      → Takes w (Within lo hi A) (Looked stop (turns-to s.pc c) p q i (number p q r i) 1 (More (r + 8) c four) s) 12 s
  dword_take c p q r i far four s rp rq rr one two more eight pl ql rl il cl same stops x y z at =
      takes_then {n = 7} {k = 5} (decide_take p q r i far s rp rq rr one two more.three eight il same stops
      (omega arith) (omega arith) z at) (λ t d. by t d d.place)
    where
      code : (t : State) → t.pc ≡ s.pc + 28 → At w.text t.pc (addi 1 1 8 ∷ addi 2 2 8 ∷ addi 3 3 8 ∷ subi 10 10 1
          ∷ bne_back 10 0 44 ∷ [])
      code t e =
          let b : s.pc + 4 + 4 + 4 + 4 + 4 + 4 + 4 ≡ t.pc = omega arith in
          subst (λ (a : ℕ). At w.text a (addi 1 1 8 ∷ addi 2 2 8 ∷ addi 3 3 8 ∷ subi 10 10 1 ∷ bne_back 10 0 44 ∷ [])) b
          at.1.1.1.1.1.1.1

      by : (t : State) → Decided p q r i s t → ((t.pc ≡ stop) × (difference p q r ≢ 0))
          ⊎ ((t.pc ≡ s.pc + 28) × (difference p q r ≡ 0))
          → Takes w (Within lo hi A) (Looked stop (turns-to s.pc c) p q i (number p q r i) 1 (More (r + 8) c four) s) 5
          t
      by t d (inl f) =
          let is = number-other p q r i f.1 in
          Now (record {
            place = inl (record { pc = f.0; some = λ e. omega (arith, is, e); eight = d.eight ∙ sym is });
            regs = λ k a. d.regs k (apart-from k a 6 (omega arith) (omega arith) (omega arith))
                (apart-from k a 7 (omega arith) (omega arith) (omega arith))
                (apart-from k a 8 (omega arith) (omega arith) (omega arith));
            mem = d.mem;
            fits = d.fits;
          })
      by t d (inr f) =
          let at' = code t f.0 in
          let pc : t.pc ≡ s.pc + 28 = f.0 in
          let e1 : get t.regs 1 ≡ p = d.regs 1 (omega arith) (omega arith) (omega arith) ∙ one in
          let e2 : get t.regs 2 ≡ q = d.regs 2 (omega arith) (omega arith) (omega arith) ∙ two in
          let e3 : get t.regs 3 ≡ r = d.regs 3 (omega arith) (omega arith) (omega arith) ∙ more.three in
          let e4 : get t.regs 4 ≡ four = d.regs 4 (omega arith) (omega arith) (omega arith) ∙ more.four in
          let e10 : get t.regs 10 ≡ suc c = d.regs 10 (omega arith) (omega arith) (omega arith) ∙ more.ten in
          let t1 = computes (addi 1 1 8) t (p + 8) in
          let t2 = computes (addi 2 2 8) t1 (q + 8) in
          let t3 = computes (addi 3 3 8) t2 (r + 8) in
          let t4 = computes (subi 10 10 1) t3 c in
          let kept : (x : ℕ) → x ≢ 1 → x ≢ 2 → x ≢ 3 → x ≢ 10 → get t4.regs x ≡ get t.regs x = λ x n1 n2 n3 n10.
          get_put_other t3.regs 10 c x n10 ∙ (get_put_other t2.regs 3 (r + 8) x n3 ∙
          (get_put_other t1.regs 2 (q + 8) x n2 ∙ get_put_other t.regs 1 (p + 8) x n1)) in
          step_addi (p + 8) refl at'.0 (rw e1 (omega arith)) (on_quiet _ t _ quiet (omega arith) (omega arith))
          (step_addi (q + 8) refl at'.1.0 (rw e2 (omega arith)) (on_quiet _ t1 _ quiet (omega arith) (omega arith))
          (step_addi (r + 8) refl at'.1.1.0 (rw e3 (omega arith)) (on_quiet _ t2 _ quiet (omega arith) (omega arith))
          (step_addi c refl at'.1.1.1.0 (rw e10 (omega arith)) (on_quiet _ t3 _ quiet (omega arith) (omega arith))
          (go_on c t4 s.pc refl at'.1.1.1.1.0 (omega arith) x y
          (Looked stop (turns-to s.pc c) p q i (number p q r i) 1 (More (r + 8) c four) s) (λ pc' e. record {
            place = inr (record {
              pc = e;
              none = number-same p q r i f.1;
              one = omega arith;
              two = omega arith;
              eight = kept 8 (omega arith) (omega arith) (omega arith) (omega arith) ∙ (d.eight ∙ omega arith);
              more = record {
                three = refl;
                four = kept 4 (omega arith) (omega arith) (omega arith) (omega arith) ∙ e4;
                ten = refl;
              };
            });
            regs = λ k a. kept k (apart-from k a 1 (omega arith) (omega arith) (omega arith))
                (apart-from k a 2 (omega arith) (omega arith) (omega arith))
                (apart-from k a 3 (omega arith) (omega arith) (omega arith))
                (apart-from k a 10 (omega arith) (omega arith) (omega arith))
                ∙ d.regs k (apart-from k a 6 (omega arith) (omega arith) (omega arith))
                (apart-from k a 7 (omega arith) (omega arith) (omega arith))
                (apart-from k a 8 (omega arith) (omega arith) (omega arith));
            mem = d.mem;
            fits = λ g. fit_put t3.regs 10 c (omega arith)
                (fit_put t2.regs 3 (r + 8) rl (fit_put t1.regs 2 (q + 8) ql (fit_put t.regs 1 (p + 8) pl (d.fits g))));
          })))))

  length-row : (n r : ℕ) → length (row r n) ≡ n
  length-row zero r = refl
  length-row (suc n) r = ap suc (length-row n (r + 8))

  -- what the loop over a line's dwords does, with c + 1 left
  dwords_take : (c p q r i far four : ℕ) (s : State) → Comparable p q (row r (suc c)) → get s.regs 1 ≡ p
      → get s.regs 2 ≡ q → More r (suc c) four s → get s.regs 8 ≡ i → p + 8 * suc c < 2 ^ 64 → q + 8 * suc c < 2 ^ 64
      → r + 8 * suc c < 2 ^ 64 → i + c < 2 ^ 32 → s.mem ≡ table → stop ≡ s.pc + 24 + 4 * (9 + far) → lo < s.pc
      → s.pc + 48 ≤ hi → stop ≤ hi → At w.text s.pc (dword_turn far)
      → Takes w (Within lo hi A) (Looked stop (s.pc + 48) p q i (first_dword table p q i (row r (suc c))) (suc c)
      (More (r + 8 * suc c) 0 four) s) (12 * suc c) s
  dwords_take zero p q r i far four s ready one two more eight pl ql rl il same stops x y z at =
      takes_more (12 * 1) (omega arith)
      (takes_map (λ t g. g) (λ t h. looked_as stop (s.pc + 48) (s.pc + 48) p q i (number p q r i)
      (first_dword table p q i (row r 1)) 1 1 (More (r + 8) 0 four) (More (r + 8 * 1) 0 four) s t refl
      (sym (either-zero (number p q r i))) refl (λ m. record {
        three = m.three ∙ omega arith;
        four = m.four;
        ten = m.ten;
      }) h)
      (dword_take 0 p q r i far four s ready.0 ready.1 ready.2 one two more eight (omega arith) (omega arith)
      (omega arith) (omega arith) (omega arith) same stops x y z at))
  dwords_take (suc c) p q r i far four s ready one two more eight pl ql rl il same stops x y z at =
      takes_more {n = 12 + 12 * suc c} (12 * suc (suc c)) (omega arith)
      (takes_then (dword_take (suc c) p q r i far four s ready.0 ready.1 ready.2 one two more eight (omega arith)
      (omega arith) (omega arith) (omega arith) (omega arith) same stops x y z at) (λ t h.
      looked_then stop s.pc (s.pc + 48) p q i (number p q r i) 1 (More (r + 8) (suc c) four)
      (More (r + 8 * suc (suc c)) 0 four) (first_dword table (p + 8) (q + 8) (suc i) (row (r + 8) (suc c))) (suc c)
      (suc (suc c)) (omega arith) s t (12 * suc c) h (λ e.
      let at' : s.pc ≡ t.pc = sym e.pc in
      let a : p + 8 * 1 ≡ p + 8 = omega arith in
      let b : q + 8 * 1 ≡ q + 8 = omega arith in
      let c' : i + 1 ≡ suc i = omega arith in
      let ready' : Comparable (p + 8 * 1) (q + 8 * 1) (row (r + 8) (suc c)) =
      subst (λ (u : ℕ). Comparable u (q + 8 * 1) (row (r + 8) (suc c))) (sym a)
      (subst (λ (u : ℕ). Comparable (p + 8) u (row (r + 8) (suc c))) (sym b) ready.3) in
      takes_map (λ u g. g) (λ u g. looked_as stop (t.pc + 48) (s.pc + 48) (p + 8 * 1) (q + 8 * 1) (i + 1) _ _ (suc c)
      (suc c) (More (r + 8 + 8 * suc c) 0 four) (More (r + 8 * suc (suc c)) 0 four) t u
      (ap (λ (k : ℕ). k + 48) e.pc) (first-at table (row (r + 8) (suc c)) _ _ _ _ _ _ a b c') refl
      (λ m. record { three = m.three ∙ omega arith; four = m.four; ten = m.ten }) g)
      (dwords_take c (p + 8 * 1) (q + 8 * 1) (r + 8) (i + 1) far four t ready' e.one e.two e.more e.eight (omega arith)
      (omega arith) (omega arith) (omega arith) (h.mem ∙ same) (omega arith) (omega arith) (omega arith) z
      (subst (λ (k : ℕ). At w.text k (dword_turn far)) at' at)))))

  -- ---- lines

  abbrev line-to : (base k : ℕ) → ℕ
  line-to base zero = base + 64
  line-to base (suc k) = base

  -- behind a line with k left
  record Left (r k : ℕ) (t : State) : Type 0 where
    three : get t.regs 3 ≡ r
    four : get t.regs 4 ≡ k

  back : (k : ℕ) (t : State) (base : ℕ) → get t.regs 4 ≡ k → w.text t.pc ≡ Some (bne_back 4 0 60) → t.pc ≡ base + 60
      → lo < base → base + 64 ≤ hi → (Q : State → Type 0)
      → ((pc : ℕ) → pc ≡ line-to base k → Q (branched (bne_back 4 0 60) pc t)) → Takes w (Within lo hi A) Q 1 t
  back zero t base ten at pc x y Q f =
      step_bne_on refl at ten (on_branch _ _ t quiet (omega arith) (omega arith) (omega arith) (omega arith))
      (Now (f (t.pc + 4) (omega arith)))
  back (suc c) t base ten at pc x y Q f = step_bne_taken base refl at (λ e. omega arith) (omega arith)
      (on_branch _ _ t quiet (omega arith) (omega arith) (omega arith) (omega arith)) (Now (f base refl))

  module _ (n b : ℕ) (few : n < 2 ^ 10) (near : b < 2 ^ 11) where
    abbrev pub dwords : ℕ
    dwords = suc n

    abbrev pub on : ℕ
    on = 8 * dwords + b

    line_take : (k p q r i far : ℕ) (s : State) → Comparable p q (row r dwords) → get s.regs 1 ≡ p → get s.regs 2 ≡ q
        → get s.regs 3 ≡ r → get s.regs 4 ≡ suc k → get s.regs 8 ≡ i → p + 8 * dwords < 2 ^ 63 → q + 8 * dwords < 2 ^ 63
        → r + on < 2 ^ 63 → i + dwords < 2 ^ 32 → k < 2 ^ 32 → s.mem ≡ table → stop ≡ s.pc + 64 + 4 * far → lo < s.pc
        → s.pc + 64 ≤ hi → stop ≤ hi → At w.text s.pc (line_turn dwords b far)
        → Takes w (Within lo hi A) (Looked stop (line-to s.pc k) p q i (first_dword table p q i (row r dwords)) dwords
        (Left (r + on) k) s) (12 * dwords + 4) s
    line_take k p q r i far s ready one two three four eight pl ql rl il kl same stops x y z at =
        let first = computes (addi 10 0 dwords) s dwords in
        let keep : (j : ℕ) → j ≢ 10 → get first.regs j ≡ get s.regs j = λ j n10. get_put_other s.regs 10 dwords j n10 in
        let code = at_front w.text (s.pc + 4) (dword_turn far) (addi 3 3 b ∷ subi 4 4 1 ∷ bne_back 4 0 60 ∷ []) at.1 in
        takes_more {n = suc (12 * dwords + 3)} (12 * dwords + 4) (omega arith)
        (step_addi dwords refl at.0 (omega arith) (on_quiet _ s _ quiet (omega arith) (omega arith))
        (takes_then (dwords_take n p q r i far (suc k) first ready one two
        (record { three = three; four = four; ten = refl }) eight (omega arith) (omega arith) (omega arith)
        (omega arith) same (omega arith) (omega arith) (omega arith) z code) (λ t h. by t h h.place)))
      where
        first : State
        first = computes (addi 10 0 dwords) s dwords

        v : ℕ
        v = first_dword table p q i (row r dwords)

        by : (t : State) → Looked stop (s.pc + 4 + 48) p q i v dwords (More (r + 8 * dwords) 0 (suc k)) first t
            → Found stop v t ⊎ Passed (s.pc + 4 + 48) (p + 8 * dwords) (q + 8 * dwords) (i + dwords) v
            (More (r + 8 * dwords) 0 (suc k)) t
            → Takes w (Within lo hi A) (Looked stop (line-to s.pc k) p q i v dwords (Left (r + on) k) s) 3 t
        by t h (inl f) =
            Now (record {
              place = inl f;
              regs = λ j a. h.regs j a ∙ get_put_other s.regs 10 dwords j
                  (apart-from j a 10 (omega arith) (omega arith) (omega arith));
              mem = h.mem;
              fits =
                  λ g. h.fits (fit_put s.regs 10 dwords (omega arith) g);
            })
        by t h (inr f) =
            let pc : t.pc ≡ s.pc + 52 = f.pc ∙ omega arith in
            let tail : List Instr = addi 3 3 b ∷ subi 4 4 1 ∷ bne_back 4 0 60 ∷ [] in
            let code = at_next w.text (s.pc + 4) t.pc (dword_turn far) tail 12 refl (omega arith) at.1 in
            let t1 = computes (addi 3 3 b) t (r + on) in
            let t2 = computes (subi 4 4 1) t1 k in
            let kept : (j : ℕ) → j ≢ 3 → j ≢ 4 → get t2.regs j ≡ get t.regs j =
            λ j n3 n4. get_put_other t1.regs 4 k j n4 ∙ get_put_other t.regs 3 (r + on) j n3 in
            step_addi (r + on) refl code.0 (rw f.more.three (omega arith))
            (on_quiet _ t _ quiet (omega arith) (omega arith))
            (step_addi k refl code.1.0 (rw f.more.four (omega arith))
            (on_quiet _ t1 _ quiet (omega arith) (omega arith))
            (back k t2 s.pc refl code.1.1.0 (omega arith) x y
            (Looked stop (line-to s.pc k) p q i v dwords (Left (r + on) k) s) (λ pc' e. record {
              place = inr (record {
                pc = e;
                none = f.none;
                one = kept 1 (omega arith) (omega arith) ∙ f.one;
                two = kept 2 (omega arith) (omega arith) ∙ f.two;
                eight =
                    kept 8 (omega arith) (omega arith) ∙ f.eight;
                more = record { three = refl; four = refl };
              });
              regs = λ j a. kept j (apart-from j a 3 (omega arith) (omega arith) (omega arith))
                  (apart-from j a 4 (omega arith) (omega arith) (omega arith)) ∙
                  (h.regs j a ∙ get_put_other s.regs 10 dwords j
                  (apart-from j a 10 (omega arith) (omega arith) (omega arith)));
              mem = h.mem;
              fits = λ g. fit_put t1.regs 4 k (omega arith)
                  (fit_put t.regs 3 (r + on) (omega arith) (h.fits (fit_put s.regs 10 dwords (omega arith) g)));
            })))

    pub length-rows : (k r : ℕ) → length (rows r dwords b k) ≡ k * dwords
    length-rows zero r = omega arith
    length-rows (suc k) r = length-append (row r dwords) (rows (r + on) dwords b k) ∙ omega (
      arith,
      length-row dwords r,
      length-rows k (r + on),
    )

    -- nothing more
    abbrev pub Any : State → Type 0
    Any t = Unit {0}

    lines_take : (k p q r i far : ℕ) (s : State) → Comparable p q (rows r dwords b (suc k)) → get s.regs 1 ≡ p
        → get s.regs 2 ≡ q → get s.regs 3 ≡ r → get s.regs 4 ≡ suc k → get s.regs 8 ≡ i
        → p + 8 * (suc k * dwords) < 2 ^ 63 → q + 8 * (suc k * dwords) < 2 ^ 63 → r + on * suc k < 2 ^ 63
        → i + suc k * dwords < 2 ^ 32 → k < 2 ^ 32 → s.mem ≡ table → stop ≡ s.pc + 64 + 4 * far → lo < s.pc
        → s.pc + 64 ≤ hi → stop ≤ hi → At w.text s.pc (line_turn dwords b far)
        → Takes w (Within lo hi A) (Looked stop (s.pc + 64) p q i (first_dword table p q i (rows r dwords b (suc k)))
        (suc k * dwords) Any s) (suc k * (12 * dwords + 4)) s
    lines_take zero p q r i far s ready one two three four eight pl ql rl il kl same stops x y z at =
        takes_more (1 * (12 * dwords + 4)) (omega arith)
        (takes_map (λ t g. g) (λ t h. looked_as stop (s.pc + 64) (s.pc + 64) p q i _ _ dwords (1 * dwords)
        (Left (r + on) 0) Any s t refl
        (sym (first-append table (row r dwords) [] p q i ∙ either-zero (first_dword table p q i (row r dwords))))
        (omega arith) (λ m. tt) h)
        (line_take 0 p q r i far s (comparable-left (row r dwords) [] p q ready) one two three four eight (omega arith)
        (omega arith) (omega arith) (omega arith) kl same stops x y z at))
    lines_take (suc k) p q r i far s ready one two three four eight pl ql rl il kl same stops x y z at =
        let first = row r dwords in
        let rest = rows (r + on) dwords b (suc k) in
        let len : length first ≡ dwords = length-row dwords r in
        let p' = p + 8 * dwords in
        let q' = q + 8 * dwords in
        let i' = i + dwords in
        let v = first_dword table p q i first in
        let u = first_dword table p' q' i' rest in
        let is : either v u ≡ first_dword table p q i (first ++ rest) =
        ap (either v) (first-at table rest _ _ _ _ _ _ (ap (λ (l : ℕ). p + 8 * l) (sym len))
        (ap (λ (l : ℕ). q + 8 * l) (sym len)) (ap (λ (l : ℕ). i + l) (sym len))) ∙ sym
        (first-append table first rest p q i) in
        let later : Comparable p' q' rest = subst (λ (l : ℕ). Comparable (p + 8 * l) (q + 8 * l) rest) len
        (comparable-right first rest p q ready) in
        takes_more {n = 12 * dwords + 4 + suc k * (12 * dwords + 4)} (suc (suc k) * (12 * dwords + 4)) (omega arith)
        (takes_then (line_take (suc k) p q r i far s (comparable-left first rest p q ready) one two three four eight
        (omega arith) (omega arith) (omega arith) (omega arith) kl same stops x y z at) (λ t h.
        takes_map (λ a g. g) (λ a g. looked_as stop (s.pc + 64) (s.pc + 64) p q i (either v u) _
        (dwords + suc k * dwords) (suc (suc k) * dwords) Any Any s a refl is (omega arith) (λ m. tt) g)
        (looked_then stop s.pc (s.pc + 64) p q i v dwords (Left (r + on) (suc k)) Any u (suc k * dwords)
        (dwords + suc k * dwords) refl s t (suc k * (12 * dwords + 4)) h (λ e.
        let there : s.pc ≡ t.pc = sym e.pc in
        takes_map (λ a g. g) (λ a g. looked_as stop (t.pc + 64) (s.pc + 64) p' q' i' u u (suc k * dwords)
        (suc k * dwords) Any Any t a (ap (λ (m : ℕ). m + 64) e.pc) refl refl (λ m. tt) g)
        (lines_take k p' q' (r + on) i' far t later e.one e.two e.more.three e.more.four e.eight (omega arith)
        (omega arith) (omega arith) (omega arith) (omega arith) (h.mem ∙ same) (omega arith) (omega arith)
        (omega arith) z (subst (λ (m : ℕ). At w.text m (line_turn dwords b far)) there at))))))

    -- ---- a window

    abbrev whole : (masks lines far : ℕ) → List Instr
    whole masks lines far = constant 3 masks ++ (addi 4 0 lines ∷ []) ++ line_turn dwords b far

    window-is : (masks lines far : ℕ) (c : Bool) → (lines == 0) ≡ c → window_check masks lines dwords b far
        ≡ (if c then [] else whole masks lines far)
    unfolding window_check
    window-is masks lines far c e = ap (λ (d : Bool). if d then [] else whole masks lines far) e

    length-whole : (masks lines far : ℕ) → length (whole masks lines far) ≡ 28
    length-whole masks lines far =
        length-append (constant 3 masks ++ (addi 4 0 lines ∷ [])) (line_turn dwords b far)
        ∙ omega (arith, length-append (constant 3 masks) (addi 4 0 lines ∷ []), length-constant 3 masks)

    pub window_take : (lines masks p q i far : ℕ) (s : State) → Comparable p q (rows masks dwords b lines)
        → get s.regs 1 ≡ p → get s.regs 2 ≡ q → get s.regs 8 ≡ i → p + 8 * (lines * dwords) < 2 ^ 63
        → q + 8 * (lines * dwords) < 2 ^ 63 → masks + on * lines < 2 ^ 63 → i + lines * dwords < 2 ^ 32 → lines < 2048
        → s.mem ≡ table
        → stop ≡ s.pc + 4 * length (window_check masks lines dwords b far) + 4 * far → lo ≤ s.pc
        → s.pc + 4 * length (window_check masks lines dwords b far) ≤ hi → stop ≤ hi
        → At w.text s.pc (window_check masks lines dwords b far)
        → Takes w (Within lo hi A) (Looked stop (s.pc + 4 * length (window_check masks lines dwords b far)) p q i
        (first_dword table p q i (rows masks dwords b lines)) (lines * dwords) Any s)
        (12 + lines * (12 * dwords + 4)) s
    window_take zero masks p q i far s ready one two eight pl ql ml il few' same stops x y z at =
        let len : length (window_check masks 0 dwords b far) ≡ 0 = ap length (window-is masks 0 far true refl) in
        Now (record {
          place = inr (record {
            pc = omega (arith, len);
            none = refl;
            one = one ∙ omega arith;
            two = two ∙ omega arith;
            eight = eight ∙ omega arith;
            more = tt;
          });
          regs = λ r a. refl;
          mem = refl;
          fits = λ f. f;
        })
    window_take (suc k) masks p q i far s ready one two eight pl ql ml il few' same stops x y z at =
        let lines = suc k in
        let is = window-is masks lines far false (ne_eqb lines 0 (λ e. omega arith)) in
        let len : length (window_check masks lines dwords b far) ≡ 28 = ap length is ∙ length-whole masks lines far in
        let code : At w.text s.pc (whole masks lines far) = subst (At w.text s.pc) is at in
        let front = constant 3 masks ++ (addi 4 0 lines ∷ []) in
        let long : length front ≡ 12 = length-append (constant 3 masks) (addi 4 0 lines ∷ []) ∙ ap (λ (m : ℕ). m + 1)
        (length-constant 3 masks) in
        let most = at_front w.text s.pc front (line_turn dwords b far) code in
        takes_more {n = 11 + suc (lines * (12 * dwords + 4))} (12 + lines * (12 * dwords + 4)) (omega arith)
        (takes_then {n = 11} {k = suc (lines * (12 * dwords + 4))}
        (takes_map (quiet_within lo hi A quiet) (λ t c. c)
        (constant_takes w lo hi 3 masks (omega arith) s x (omega (arith, len))
        (omega arith) (at_front w.text s.pc (constant 3 masks) (addi 4 0 lines ∷ []) most))) (λ t c.
        let pc : t.pc ≡ s.pc + 44 = c.pc in
        let here = at_next w.text s.pc t.pc (constant 3 masks) (addi 4 0 lines ∷ []) 11 (length-constant 3 masks) pc
        most in
        let u = computes (addi 4 0 lines) t lines in
        let behind = at_next w.text s.pc u.pc front (line_turn dwords b far) 12 long (omega arith) code in
        let get3 : (r : ℕ) → r ≢ 3 → get t.regs r ≡ get s.regs r =
        λ r n3. ap (λ (f : Table). get f r) c.regs ∙ get_put_other s.regs 3 masks r n3 in
        step_addi {n = lines * (12 * dwords + 4)} lines refl here.0 (omega arith)
        (on_quiet _ t _ quiet (omega arith) (omega (arith, len)))
        (takes_map (λ a g. g) (λ a g. looked_before stop (s.pc + 4 * length (window_check masks lines dwords b far)) p q
        i _ (lines * dwords) Any s u a
        (λ r d. get_put_other t.regs 4 lines r (apart-from r d 4 (omega arith) (omega arith) (omega arith)) ∙ get3 r
        (apart-from r d 3 (omega arith) (omega arith) (omega arith)))
        c.mem (λ f. fit_put t.regs 4 lines (omega arith) (c.fits f))
        (looked_as stop (u.pc + 64) (s.pc + 4 * length (window_check masks lines dwords b far)) p q i _ _
        (lines * dwords) (lines * dwords) Any Any u a (omega (arith, len)) refl refl (λ m. tt) g))
        (lines_take k p q masks i far u ready (get3 1 (omega arith) ∙ one) (get3 2 (omega arith) ∙ two)
        (ap (λ (f : Table). get f 3) c.regs) refl (get3 8 (omega arith) ∙ eight) pl ql ml il (omega arith)
        (c.mem ∙ same) (omega (arith, len)) (omega arith) (omega (arith, len)) z behind))))
