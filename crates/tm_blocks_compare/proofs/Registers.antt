-- What every run of the words does that compare registers.
use Rattle.std.proofs.Common.{◌≡◌, ◌≢◌, ℕ, zero, suc, ◌+◌, ◌*◌, ◌/◌, ◌%◌, ◌^◌, ◌<◌, ◌≤◌, ◌⊎◌, inl, inr, Bool, true}
use Rattle.std.proofs.Common.{false, not, ◌&&◌, ◌==◌, List, [], ◌∷◌, Some, refl, sym, ap, ap₂, ◌∙◌, arith, subst}
use Rattle.std.proofs.Common.{eq-eqb, ne_eqb}
use Rattle.std.specs.Prelude.{bit_and, if◌then◌else◌}
use Rattle.std.proofs.lemmas.Nat.{and_le_r, pow_below}
use Rattle.std.proofs.Math.Nat.{pow-succ'}
use Rattle.tm_table.specs.declared.instr.Instr.{Instr}
use Rattle.tm_table.specs.declared.state.Access.{Access}
use Rattle.tm_table.specs.declared.state.Access.TheVariants.{Quiet}
use Rattle.tm_runs.specs.Machine.{World, State, Table, get, computes, loaded}
use Rattle.tm_runs.specs.Runs.{Takes, Now, At, Within}
use Rattle.tm_runs.proofs.Compose.{takes_then, takes_more, takes_map}
use Rattle.tm_runs.proofs.Steps.{step_addi, step_add, step_and, step_ld, step_beq, step_bne, step_bne_taken}
use Rattle.tm_runs.proofs.Steps.{step_bne_on, branched}
use Rattle.tm_runs.proofs.Tables.{get_put_other}
use Rattle.tm_blocks_base.specs.Instrs.{addi, add, and, ld, beq}
use Rattle.tm_blocks_base.specs.Laws.{RegistersFit}
use Rattle.tm_blocks_base.proofs.Dwords.{fit_put, on_quiet, on_branch, on_read}
use Rattle.tm_blocks_base.proofs.Verdicts.{bit_off, bit_on}
use Rattle.tm_blocks_base.specs.Instrs.{subi, bne_back}
use Rattle.tm_blocks_compare.specs.Words.{register_turn, register_loop}
use Rattle.tm_blocks_compare.specs.Numbers.{first_register}
use Rattle.tm_blocks_compare.proofs.Looks.{Looked, looked_then, looked_as, looked_before, either-zero}
use Rattle.tm_blocks_compare.proofs.Dwords.{apart-from, Readable}

module _ (w : World) (lo hi : ℕ) (A : Access → Type 0) (quiet : A Quiet) (table : Table) (stop M : ℕ) where
  -- n pairs of dwords
  abbrev pub Pairs : (p q n : ℕ) → Type 0
  Pairs p q zero = Unit {0}
  Pairs p q (suc n) = Readable w lo hi A quiet table stop p × Readable w lo hi A quiet table stop q
      × Pairs (p + 8) (q + 8) n

  abbrev number : (p q i : ℕ) → ℕ
  number p q i = if (M / 2 ^ (i + 1) % 2 == 1) && not (table p == table q) then suc i else 0

  abbrev nothing : ℕ → ℕ
  nothing j = 0

  unchecked : (p q i : ℕ) → bit_and (2 ^ suc i) M ≡ 0 → number p q i ≡ 0
  unchecked p q i h = ap (λ (b : Bool). if b && not (table p == table q) then suc i
      else 0) (bit_off M nothing nothing nothing i h)

  same-one : (p q i : ℕ) → table p ≡ table q → number p q i ≡ 0
  same-one p q i h = ap (λ (b : Bool). if (M / 2 ^ (i + 1) % 2 == 1) && not b then suc i else 0) (eq-eqb _ _ h) ∙ none
      (M / 2 ^ (i + 1) % 2 == 1)
    where
      none : (c : Bool) → (if c && false then suc i else 0) ≡ 0
      none true = refl
      none false = refl

  other-one : (p q i : ℕ) → bit_and (2 ^ suc i) M ≢ 0 → table p ≢ table q → number p q i ≡ suc i
  other-one p q i h e = ap₂ (λ (b c : Bool). if b && not c then suc i else 0) (bit_on M nothing nothing nothing i h)
      (ne_eqb _ _ e)

  -- one register was looked at
  record Decided (p q i : ℕ) (s t : State) : Type 0 where
    place : ((t.pc ≡ stop) × (number p q i ≡ suc i)) ⊎ ((t.pc ≡ s.pc + 24) × (number p q i ≡ 0))
    eight : get t.regs 8 ≡ suc i
    regs : (x : ℕ) → x ≢ 6 → x ≢ 7 → x ≢ 8 → get t.regs x ≡ get s.regs x
    mem : t.mem ≡ s.mem
    fits : RegistersFit s → RegistersFit t

  decide_take : (p q i far : ℕ) (s : State) → Readable w lo hi A quiet table stop p
      → Readable w lo hi A quiet table stop q → get s.regs 1 ≡ p → get s.regs 2 ≡ q → get s.regs 5 ≡ M
      → get s.regs 8 ≡ i → get s.regs 10 ≡ 2 ^ suc i → i < 62 → M < 2 ^ 64 → s.mem ≡ table
      → stop ≡ s.pc + 20 + 4 * (6 + far) → lo ≤ s.pc → s.pc + 24 ≤ hi → stop ≤ hi → At w.text s.pc (register_turn far)
      → Takes w (Within lo hi A) (Decided p q i s) 6 s
  decide_take p q i far s rp rq one two five eight ten small ml same stops x y z at =
      let pl = rp.low in
      let ql = rq.low in
      let d = bit_and (2 ^ suc i) M in
      let s1 = computes (addi 8 8 1) s (suc i) in
      let s2 = computes (and 6 10 5) s1 d in
      let few : d < 2 ^ 64 = let e = and_le_r (2 ^ suc i) M in omega arith in
      let kept2 : (r : ℕ) → r ≢ 6 → r ≢ 7 → r ≢ 8 → get s2.regs r ≡ get s.regs r =
      λ r n6 n7 n8. get_put_other s1.regs 6 d r n6 ∙ get_put_other s.regs 8 (suc i) r n8 in
      let fit2 : RegistersFit s → RegistersFit s2 =
      λ k. fit_put s1.regs 6 d few (fit_put s.regs 8 (suc i) (omega arith) k) in
      step_addi (suc i) refl at.0 (rw eight (omega arith)) (on_quiet _ s _ quiet x (omega arith))
      (step_and d refl at.1.0 (ap₂ bit_and ten five) (on_quiet _ s1 _ quiet (omega arith) (omega arith))
      (step_beq (s.pc + 24) refl at.1.1.0 (omega arith)
      (λ zero. (
        on_branch _ _ s2 quiet (omega arith) (omega arith) (omega arith) y,
        Now (record { place = inr (refl, unchecked p q i zero); eight = refl; regs = kept2; mem = refl; fits = fit2 }),
      ))
      (λ some. (
        on_branch _ _ s2 quiet (omega arith) (omega arith) (omega arith) (omega arith),
        let s3 = branched (beq 6 0 16) (s2.pc + 4) s2 in
            step_ld p refl at.1.1.1.0 (rw one (omega arith)) rp.may
            (λ v _ _. on_read _ p v s3 (rp.ok v) (omega arith) (omega arith))
            (λ u fit_u is_u. let s4 = loaded (ld 6 0 1) p u s3 in
            step_ld q refl at.1.1.1.1.0 (rw two (omega arith)) rq.may
            (λ v _ _. on_read _ q v s4 (rq.ok v) (omega arith) (omega arith))
            (λ v fit_v is_v. let s5 = loaded (ld 7 0 2) q v s4 in
            let eu : u ≡ table p = is_u rp.own ∙ ap (λ (f : Table). f p) same in
            let ev : v ≡ table q = is_v rq.own ∙ ap (λ (f : Table). f q) same in
            let kept : (r : ℕ) → r ≢ 6 → r ≢ 7 → r ≢ 8 → get s5.regs r ≡ get s.regs r =
            λ r n6 n7 n8. get_put_other s4.regs 7 v r n7 ∙ (get_put_other s2.regs 6 u r n6 ∙ kept2 r n6 n7 n8) in
            let fit : RegistersFit s → RegistersFit s5 =
            λ k. fit_put s4.regs 7 v fit_v (fit_put s2.regs 6 u fit_u (fit2 k)) in
            step_bne stop refl at.1.1.1.1.1.0 (omega arith)
            (λ ne. (
              on_branch _ _ s5 quiet (omega arith) (omega arith) (omega arith) z,
              Now (record {
                place = inl (refl, other-one p q i some (λ e. ne (eu ∙ (e ∙ sym ev))));
                eight = refl;
                regs = kept;
                mem = refl;
                fits = fit;
              }),
            ))
            (λ eq. (
              on_branch _ _ s5 quiet (omega arith) (omega arith) (omega arith) (omega arith),
              Now (record {
                place = inr (omega arith, same-one p q i (sym eu ∙ (eq ∙ ev)));
                eight = refl;
                regs = kept;
                mem = refl;
                fits = fit;
              }),
            )))),
      ))))

  abbrev turns-to : (base c : ℕ) → ℕ
  turns-to base zero = base + 44
  turns-to base (suc c) = base

  -- behind a register with c left
  record More (i c : ℕ) (t : State) : Type 0 where
    four : get t.regs 4 ≡ c
    ten : get t.regs 10 ≡ 2 ^ suc i

  back : (c : ℕ) (t : State) (base : ℕ) → get t.regs 4 ≡ c → w.text t.pc ≡ Some (bne_back 4 0 40) → t.pc ≡ base + 40
      → lo < base → base + 44 ≤ hi → (Q : State → Type 0)
      → ((pc : ℕ) → pc ≡ turns-to base c → Q (branched (bne_back 4 0 40) pc t)) → Takes w (Within lo hi A) Q 1 t
  back zero t base four at pc x y Q f =
      step_bne_on refl at four (on_branch _ _ t quiet (omega arith) (omega arith) (omega arith) (omega arith))
      (Now (f (t.pc + 4) (omega arith)))
  back (suc c) t base four at pc x y Q f = step_bne_taken base refl at (λ e. omega arith) (omega arith)
      (on_branch _ _ t quiet (omega arith) (omega arith) (omega arith) (omega arith)) (Now (f base refl))

  register_take : (c p q i far : ℕ) (s : State) → Readable w lo hi A quiet table stop p
      → Readable w lo hi A quiet table stop q → get s.regs 1 ≡ p → get s.regs 2 ≡ q → get s.regs 5 ≡ M
      → get s.regs 8 ≡ i → More i (suc c) s → p + 8 < 2 ^ 64 → q + 8 < 2 ^ 64 → i < 60 → c < 2 ^ 32 → M < 2 ^ 64
      → s.mem ≡ table → stop ≡ s.pc + 44 + 4 * far → lo < s.pc → s.pc + 44 ≤ hi → stop ≤ hi
      → At w.text s.pc (register_turn far)
      → Takes w (Within lo hi A) (Looked stop (turns-to s.pc c) p q i (number p q i) 1 (More (suc i) c) s) 11 s
  register_take c p q i far s rp rq one two five eight more pl ql il cl ml same stops x y z at =
      takes_then {n = 6} {k = 5} (decide_take p q i far s rp rq one two five eight more.ten (omega arith) ml same
      (omega arith) (omega arith) (omega arith) z at) (λ t d. by t d d.place)
    where
      abbreviated : List Instr
      abbreviated = addi 1 1 8 ∷ addi 2 2 8 ∷ add 10 10 10 ∷ subi 4 4 1 ∷ bne_back 4 0 40 ∷ []

      by : (t : State) → Decided p q i s t → ((t.pc ≡ stop) × (number p q i ≡ suc i))
          ⊎ ((t.pc ≡ s.pc + 24) × (number p q i ≡ 0))
          → Takes w (Within lo hi A) (Looked stop (turns-to s.pc c) p q i (number p q i) 1 (More (suc i) c) s) 5 t
      by t d (inl f) =
          Now (record {
            place = inl (record { pc = f.0; some = λ e. omega (arith, f.1, e); eight = d.eight ∙ sym f.1 });
            regs = λ k a. d.regs k (apart-from k a 6 (omega arith) (omega arith) (omega arith))
                (apart-from k a 7 (omega arith) (omega arith) (omega arith))
                (apart-from k a 8 (omega arith) (omega arith) (omega arith));
            mem = d.mem;
            fits = d.fits;
          })
      by t d (inr f) =
          let pc : t.pc ≡ s.pc + 24 = f.0 in
          let there : s.pc + 4 + 4 + 4 + 4 + 4 + 4 ≡ t.pc = omega arith in
          let code : At w.text t.pc (addi 1 1 8 ∷ addi 2 2 8 ∷ add 10 10 10 ∷ subi 4 4 1 ∷ bne_back 4 0 40 ∷ []) =
          subst (λ (a : ℕ). At w.text a (addi 1 1 8 ∷ addi 2 2 8 ∷ add 10 10 10 ∷ subi 4 4 1 ∷ bne_back 4 0 40
          ∷ [])) there at.1.1.1.1.1.1 in
          let e1 : get t.regs 1 ≡ p = d.regs 1 (omega arith) (omega arith) (omega arith) ∙ one in
          let e2 : get t.regs 2 ≡ q = d.regs 2 (omega arith) (omega arith) (omega arith) ∙ two in
          let e4 : get t.regs 4 ≡ suc c = d.regs 4 (omega arith) (omega arith) (omega arith) ∙ more.four in
          let e10 : get t.regs 10 ≡ 2 ^ suc i = d.regs 10 (omega arith) (omega arith) (omega arith) ∙ more.ten in
          let bit : ℕ = 2 ^ suc (suc i) in
          let double : bit ≡ 2 * 2 ^ suc i = pow-succ' 2 (suc i) in
          let size : bit < 2 ^ 64 = pow_below (suc (suc i)) 64 (omega arith) in
          let sum : (2 ^ suc i + 2 ^ suc i) % 2 ^ 64 ≡ bit = omega arith in
          let t1 = computes (addi 1 1 8) t (p + 8) in
          let t2 = computes (addi 2 2 8) t1 (q + 8) in
          let t3 = computes (add 10 10 10) t2 bit in
          let t4 = computes (subi 4 4 1) t3 c in
          let kept : (r : ℕ) → r ≢ 1 → r ≢ 2 → r ≢ 4 → r ≢ 10 → get t4.regs r ≡ get t.regs r = λ r n1 n2 n4 n10.
          get_put_other t3.regs 4 c r n4 ∙ (get_put_other t2.regs 10 bit r n10 ∙
          (get_put_other t1.regs 2 (q + 8) r n2 ∙ get_put_other t.regs 1 (p + 8) r n1)) in
          step_addi (p + 8) refl code.0 (rw e1 (omega arith)) (on_quiet _ t _ quiet (omega arith) (omega arith))
          (step_addi (q + 8) refl code.1.0 (rw e2 (omega arith)) (on_quiet _ t1 _ quiet (omega arith) (omega arith))
          (step_add bit refl code.1.1.0 (rw e10 sum) (on_quiet _ t2 _ quiet (omega arith) (omega arith))
          (step_addi c refl code.1.1.1.0 (rw e4 (omega arith)) (on_quiet _ t3 _ quiet (omega arith) (omega arith))
          (back c t4 s.pc refl code.1.1.1.1.0 (omega arith) x y
          (Looked stop (turns-to s.pc c) p q i (number p q i) 1 (More (suc i) c) s) (λ pc' e. record {
            place = inr (record {
              pc = e;
              none = f.1;
              one = omega arith;
              two = omega arith;
              eight = kept 8 (omega arith) (omega arith) (omega arith) (omega arith) ∙ (d.eight ∙ omega arith);
              more = record { four = refl; ten = refl };
            });
            regs = λ k a. kept k (apart-from k a 1 (omega arith) (omega arith) (omega arith))
                (apart-from k a 2 (omega arith) (omega arith) (omega arith))
                (apart-from k a 4 (omega arith) (omega arith) (omega arith))
                (apart-from k a 10 (omega arith) (omega arith) (omega arith))
                ∙ d.regs k (apart-from k a 6 (omega arith) (omega arith) (omega arith))
                (apart-from k a 7 (omega arith) (omega arith) (omega arith))
                (apart-from k a 8 (omega arith) (omega arith) (omega arith));
            mem = d.mem;
            fits = λ g. fit_put t3.regs 4 c (omega arith)
                (fit_put t2.regs 10 bit size (fit_put t1.regs 2 (q + 8) ql (fit_put t.regs 1 (p + 8) pl (d.fits g))));
          })))))

  -- nothing more
  abbrev Any : State → Type 0
  Any t = Unit {0}

  first-at : (p p' q q' i i' n : ℕ) → p ≡ p' → q ≡ q' → i ≡ i' → first_register table M p q i n
      ≡ first_register table M p' q' i' n
  first-at p p' q q' i i' n a b c = ap₂ (λ (x y : ℕ). first_register table M x y i n) a b ∙ ap
      (λ (z : ℕ). first_register table M p' q' z n) c

  turns_take : (c p q i far : ℕ) (s : State) → Pairs p q (suc c) → get s.regs 1 ≡ p → get s.regs 2 ≡ q
      → get s.regs 5 ≡ M → get s.regs 8 ≡ i → More i (suc c) s → p + 8 * suc c < 2 ^ 64 → q + 8 * suc c < 2 ^ 64
      → i + c < 60 → M < 2 ^ 64 → s.mem ≡ table → stop ≡ s.pc + 44 + 4 * far → lo < s.pc → s.pc + 44 ≤ hi → stop ≤ hi
      → At w.text s.pc (register_turn far)
      → Takes w (Within lo hi A) (Looked stop (s.pc + 44) p q i (first_register table M p q i (suc c)) (suc c) Any s)
      (11 * suc c) s
  turns_take zero p q i far s ready one two five eight more pl ql il ml same stops x y z at =
      takes_more (11 * 1) (omega arith)
      (takes_map (λ t g. g) (λ t h. looked_as stop (s.pc + 44) (s.pc + 44) p q i _ _ 1 1 (More (suc i) 0) Any s t refl
      (sym (either-zero (number p q i))) refl (λ m. tt) h)
      (register_take 0 p q i far s ready.0 ready.1 one two five eight more (omega arith) (omega arith) (omega arith)
      (omega arith) ml same stops x y z at))
  turns_take (suc c) p q i far s ready one two five eight more pl ql il ml same stops x y z at =
      takes_more {n = 11 + 11 * suc c} (11 * suc (suc c)) (omega arith)
      (takes_then (register_take (suc c) p q i far s ready.0 ready.1 one two five eight more (omega arith) (omega arith)
      (omega arith) (omega arith) ml same stops x y z at) (λ t h.
      looked_then stop s.pc (s.pc + 44) p q i (number p q i) 1 (More (suc i) (suc c)) Any
      (first_register table M (p + 8) (q + 8) (suc i) (suc c)) (suc c) (suc (suc c)) (omega arith) s t (11 * suc c)
      h (λ e.
      let there : s.pc ≡ t.pc = sym e.pc in
      let a : p + 8 * 1 ≡ p + 8 = omega arith in
      let b : q + 8 * 1 ≡ q + 8 = omega arith in
      let d : i + 1 ≡ suc i = omega arith in
      takes_map (λ u g. g) (λ u g. looked_as stop (t.pc + 44) (s.pc + 44) (p + 8 * 1) (q + 8 * 1) (i + 1) _ _ (suc c)
      (suc c) Any Any t u (ap (λ (m : ℕ). m + 44) e.pc) (first-at _ _ _ _ _ _ (suc c) a b d) refl (λ m. tt) g)
      (turns_take c (p + 8 * 1) (q + 8 * 1) (i + 1) far t (subst (λ (u : ℕ). Pairs u (q + 8 * 1) (suc c)) (sym a)
      (subst (λ (u : ℕ). Pairs (p + 8) u (suc c)) (sym b) ready.2)) e.one e.two (h.regs 5 (inl refl) ∙ five) e.eight
      (record { four = e.more.four; ten = e.more.ten ∙ ap (λ (m : ℕ). 2 ^ suc m) (sym d) }) (omega arith) (omega arith)
      (omega arith) ml (h.mem ∙ same) (omega arith) (omega arith) (omega arith) z
      (subst (λ (m : ℕ). At w.text m (register_turn far)) there at)))))

  -- all registers
  pub registers_take : (p q far : ℕ) (s : State) → Pairs p q 30 → get s.regs 1 ≡ p → get s.regs 2 ≡ q → get s.regs 5 ≡ M
      → get s.regs 8 ≡ 0 → p + 240 < 2 ^ 64 → q + 240 < 2 ^ 64 → M < 2 ^ 64 → s.mem ≡ table → stop ≡ s.pc + 52 + 4 * far
      → lo ≤ s.pc → s.pc + 52 ≤ hi → stop ≤ hi → At w.text s.pc (register_loop far)
      → Takes w (Within lo hi A) (Looked stop (s.pc + 52) p q 0 (first_register table M p q 0 30) 30 Any s) 332 s
  unfolding register_loop
  registers_take p q far s ready one two five eight pl ql ml same stops x y z at =
      let s1 = computes (addi 10 0 2) s 2 in
      let s2 = computes (addi 4 0 30) s1 30 in
      step_addi 2 refl at.0 refl (on_quiet _ s _ quiet (omega arith) (omega arith))
      (step_addi 30 refl at.1.0 refl (on_quiet _ s1 _ quiet (omega arith) (omega arith))
      (takes_map (λ t g. g) (λ t h. looked_before stop (s.pc + 52) p q 0 _ 30 Any s s2 t
      (λ r a. get_put_other s1.regs 4 30 r (apart-from r a 4 (omega arith) (omega arith) (omega arith)) ∙ get_put_other
      s.regs 10 2 r (apart-from r a 10 (omega arith) (omega arith) (omega arith)))
      refl (λ f. fit_put s1.regs 4 30 (omega arith) (fit_put s.regs 10 2 (omega arith) f))
      (looked_as stop (s2.pc + 44) (s.pc + 52) p q 0 _ _ 30 30 Any Any s2 t (omega arith) refl refl (λ m. tt) h))
      (turns_take 29 p q 0 far s2 ready one two five eight (record { four = refl; ten = refl }) (omega arith)
      (omega arith) (omega arith) ml same (omega arith) (omega arith) (omega arith) z at.1.1)))
