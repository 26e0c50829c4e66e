-- What every run of a whole comparison does, up to the store of the verdict.
use Rattle.std.proofs.Common.{◌≡◌, ℕ, suc, ◌+◌, ◌-◌, ◌*◌, ◌/◌, ◌^◌, ◌<◌, ◌≤◌, List, [], ◌∷◌, ◌++◌, length, refl, sym}
use Rattle.std.proofs.Common.{ap, ap₂, ◌∙◌, arith, subst, length-append}
use Rattle.std.specs.Prelude.{slice_index}
use Rattle.std.proofs.lemmas.List.{length-map}
use Rattle.std.proofs.Math.Nat.{mul-le-mul_left}
use Rattle.tm_table.specs.declared.instr.Instr.{Instr}
use Rattle.tm_plan_cases.specs.declared.cases.Cases.{Cases}
use Rattle.tm_plan_map.specs.Map.{windows_base}
use Rattle.tm_plan_cases.specs.Shaped.{AreShaped}
use Rattle.tm_plan_cases.specs.Collected.{owned}
use Rattle.tm_runs.specs.Machine.{World, State, Table, get, computes, loaded}
use Rattle.tm_runs.specs.Runs.{Takes, Now, At, Within, IsQuiet}
use Rattle.tm_runs.proofs.Compose.{takes_then, takes_more, takes_map, within_map, quiet_within}
use Rattle.tm_runs.proofs.Steps.{step_addi, step_add, step_slli, step_ld, step_jal}
use Rattle.tm_runs.proofs.Tables.{get_put_other, get_put_zero, at_front, at_next}
use Rattle.tm_blocks_base.specs.Instrs.{addi, add, slli, ld, sd, jump}
use Rattle.tm_blocks_base.specs.Blocks.{constant}
use Rattle.tm_blocks_base.specs.Laws.{RegistersFit}
use Rattle.tm_blocks_base.proofs.Lengths.{length-constant}
use Rattle.tm_blocks_base.proofs.Dwords.{fit_put, on_quiet, on_read}
use Rattle.tm_blocks_base.proofs.Constant.{constant_takes}
use Rattle.tm_plan_owned.specs.Lines.{line_count}
use Rattle.tm_plan_owned.proofs.Windows.{line-of}
use Rattle.tm_plan_owned.proofs.Reach.{owned-length}
use Rattle.tm_blocks_compare.specs.Words.{pass_tail, one_pass, all_passes, closing, compare_all_but_last, compare_all}
use Rattle.tm_blocks_compare.specs.Numbers.{verdict_from}
use Rattle.tm_blocks_compare.specs.Runs.{IsKept, mask_addresses, Comparing, verdict_of_all, CompareAllRuns}
use Rattle.tm_blocks_compare.proofs.Lengths.{pass-short}
use Rattle.tm_blocks_compare.proofs.Dwords.{Comparable}
use Rattle.tm_blocks_compare.proofs.Registers.{Pairs}
use Rattle.tm_blocks_compare.proofs.Passes.{Peeks, masks, sizes}
use Rattle.tm_blocks_compare.proofs.Kept.{pairs-of, comparable-of, masks-are}
use Rattle.tm_blocks_compare.proofs.All.{Ends, Differs, Agrees, passes_take}

-- the number is in x8
record Numbered (place V : ℕ) (s t : State) : Type 0 where
  pc : t.pc ≡ place
  eight : get t.regs 8 ≡ V
  regs : (r : ℕ) → 11 ≤ r → get t.regs r ≡ get s.regs r
  mem : t.mem ≡ s.mem
  fits : RegistersFit s → RegistersFit t

module _ (w : World) (lo hi : ℕ) where
  -- both ends of the passes lead on with the number
  close_take : (none V : ℕ) (t : State) → Ends (none + 8) none V t → lo < none → none + 16 ≤ hi → At w.text none closing
      → Takes w (Within lo hi (Peeks w)) (Numbered (none + 16) V t) 2 t
  close_take none V t (Differs k v pc nine eight is kl vl) x y at =
      let there : none + 4 + 4 ≡ t.pc = omega arith in
      let code : At w.text t.pc (slli 9 9 32 ∷ add 8 8 9 ∷ []) =
      subst (λ (p : ℕ). At w.text p (slli 9 9 32 ∷ add 8 8 9 ∷ [])) there at.1.1 in
      let t1 = computes (slli 9 9 32) t (k * 2 ^ 32) in
      step_slli (k * 2 ^ 32) refl code.0 (rw nine (omega arith)) (on_quiet _ t _ tt (omega arith) (omega arith))
      (step_add V refl code.1.0 (rw eight (omega arith)) (on_quiet _ t1 _ tt (omega arith) (omega arith))
      (Now (record {
        pc = omega arith;
        eight = refl;
        regs = λ r l. get_put_other t1.regs 8 V r (omega arith) ∙ get_put_other t.regs 9 (k * 2 ^ 32) r (omega arith);
        mem = refl;
        fits = λ f. fit_put t1.regs 8 V (omega arith) (fit_put t.regs 9 (k * 2 ^ 32) (omega arith) f);
      })))
  close_take none V t (Agrees pc is) x y at =
      let code : At w.text t.pc (addi 8 0 0 ∷ jump 12 ∷ []) =
      subst (λ (p : ℕ). At w.text p (addi 8 0 0 ∷ jump 12 ∷ [])) (sym pc) (at.0, (at.1.0, tt)) in
      let t1 = computes (addi 8 0 0) t 0 in
      step_addi 0 refl code.0 refl (on_quiet _ t _ tt (omega arith) (omega arith))
      (step_jal (none + 16) refl code.1.0 (omega arith) (record {
        from = omega arith;
        below = omega arith;
        least = omega arith;
        most = omega arith;
        access = tt;
      })
      (Now (record {
        pc = refl;
        eight = sym is;
        regs = λ r l. get_put_zero t1.regs (t1.pc + 4) r ∙ get_put_other t.regs 8 0 r (omega arith);
        mem = refl;
        fits = λ f r. subst (λ (x : ℕ). x < 2 ^ 64) (sym (get_put_zero t1.regs (t1.pc + 4) r))
            (fit_put t.regs 8 0 (omega arith) f r);
      })))

-- how many steps a pass takes
few-steps : (cases : Cases) (h : ℕ) (s : AreShaped cases) (mine : h < cases.harts)
    → 14 + (332 + (12 + line_count cases h 0 * (12 * (cases.line / 8) + 4)
    + (12 + line_count cases h 1 * (12 * (cases.line / 8) + 4)
    + (12 + line_count cases h 2 * (12 * (cases.line / 8) + 4))))) + 3 ≤ 385 + 13 * length (owned cases h)
few-steps cases h s mine =
    let m = cases.line / 8 in
    let size = line-of cases.line s.line in
    let some : 4 ≤ m = omega (arith, size.2.some, size.2.dwords) in
    let c0 = line_count cases h 0 in
    let c1 = line_count cases h 1 in
    let c2 = line_count cases h 2 in
    let e0 : c0 * 4 ≤ c0 * m = mul-le-mul_left c0 some in
    let e1 : c1 * 4 ≤ c1 * m = mul-le-mul_left c1 some in
    let e2 : c2 * 4 ≤ c2 * m = mul-le-mul_left c2 some in
    omega (arith, owned-length cases h s mine)

length-all : (cases : Cases) (h first bytes : ℕ) → length (all_passes cases h first bytes)
    ≡ length (one_pass cases h first bytes) + 3
unfolding all_passes
length-all cases h first bytes =
    length-append (one_pass cases h first bytes) (pass_tail cases.passes (length (one_pass cases h first bytes)))

pub length-compare : (cases : Cases) (h first masks bytes cell : ℕ)
    → length (compare_all_but_last cases h first masks bytes cell) ≡ 31 + length (one_pass cases h first bytes)
unfolding compare_all_but_last
length-compare cases h first masks bytes cell =
    let a = constant 4 masks in
    let b : List Instr = ld 5 0 4 ∷ addi 9 0 1 ∷ [] in
    let c = all_passes cases h first bytes in
    let e = constant 7 cell in
    length-append (a ++ b ++ c ++ closing) e ∙ omega (
      arith,
      length-append (a ++ b ++ c) closing,
      length-append (a ++ b) c,
      length-append a b,
      length-constant 4 masks,
      length-constant 7 cell,
      length-all cases h first bytes,
    )

-- at most 142 words, with the store 143
pub compare-short : (cases : Cases) (h first masks bytes cell : ℕ)
    → length (compare_all_but_last cases h first masks bytes cell) ≤ 142
compare-short cases h first masks bytes cell = omega (
  arith,
  length-compare cases h first masks bytes cell,
  pass-short cases h bytes first,
)

-- what the passes take, from what a comparison takes
module _ (w : World) (lo hi : ℕ) (table : Table) (stop M p mask : ℕ) (cases : Cases) (h bytes : ℕ) (s : AreShaped cases)
    (mine : h < cases.harts) (c : Comparing w cases h p mask bytes) where
  abbrev rs : List ℕ
  rs = masks w lo hi table stop M cases h bytes s

  masks-same : rs ≡ mask_addresses cases h bytes
  masks-same = masks-are w lo hi table stop M cases h bytes s mine

  masks-long : length rs ≡ length (owned cases h)
  masks-long = ap length masks-same ∙ length-map (owned cases h) (λ a. bytes + (a - windows_base))

  few-masks : length rs < 2 ^ 31
  few-masks =
      let d0 = (sizes w lo hi table stop M cases h bytes s 0 (omega arith)).dwords in
      let d1 = (sizes w lo hi table stop M cases h bytes s 1 (omega arith)).dwords in
      let d2 = (sizes w lo hi table stop M cases h bytes s 2 (omega arith)).dwords in
      omega (arith, masks-long, owned-length cases h s mine)

  needs : (k : ℕ) → k < cases.passes → Pairs w lo hi (Peeks w) tt table stop M p (p + 8192 * k) 30
      × Comparable w lo hi (Peeks w) tt table stop (p + 240) (p + 8192 * k + 240) rs
  needs k l =
      let some : 0 < cases.passes = omega arith in (
        pairs-of w lo hi table stop M 30 p (p + 8192 * k)
            (λ i b. subst (IsKept w) (omega arith) (c.saved 0 i some (omega arith)))
            (λ i b. c.saved k i l (omega arith)),
        comparable-of w lo hi table stop M rs (p + 240) (p + 8192 * k + 240)
            (λ i b. subst (IsKept w) (omega arith) (c.saved 0 (30 + i) some (omega (arith, masks-long))))
            (λ i b. subst (IsKept w) (omega arith) (c.saved k (30 + i) l (omega (arith, masks-long))))
            (λ i b. subst (IsKept w) (ap (λ (l : List ℕ). slice_index l i) (sym masks-same))
            (c.each i (omega (arith, masks-long)))),
      )

pub compare_all_runs : (cases : Cases) (h first masks bytes cell : ℕ) → CompareAllRuns cases h first masks bytes cell
unfolding compare_all_but_last
compare_all_runs cases h p mask bytes cell w s shaped mine small c at =
    let lo = s.pc in
    let hi = s.pc + 4 * length (compare_all_but_last cases h p mask bytes cell) in
    let l1 = constant 4 mask in
    let l2 : List Instr = ld 5 0 4 ∷ addi 9 0 1 ∷ [] in
    let l3 = all_passes cases h p bytes in
    let l5 = constant 7 cell in
    let at4 = at_front w.text s.pc (l1 ++ l2 ++ l3 ++ closing) l5 at in
    let at3 = at_front w.text s.pc (l1 ++ l2 ++ l3) closing at4 in
    let at2 = at_front w.text s.pc (l1 ++ l2) l3 at3 in
    let L = length (one_pass cases h p bytes) in
    let all = length-all cases h p bytes in
    let n2 : length (l1 ++ l2) ≡ 13 = length-append l1 l2 ∙ ap (λ (k : ℕ). k + 2) (length-constant 4 mask) in
    let n3 : length (l1 ++ l2 ++ l3) ≡ 16 + L = length-append (l1 ++ l2) l3 ∙ omega (arith, n2, all) in
    let n4 : length (l1 ++ l2 ++ l3 ++ closing) ≡ 20 + L = length-append (l1 ++ l2 ++ l3) closing ∙ omega (arith, n3) in
    let n5 : length (compare_all_but_last cases h p mask bytes cell) ≡ 31 + L =
    length-compare cases h p mask bytes cell in
    let short = pass-short cases h bytes p in
    let ml = c.mask.low in
    let near = c.near in
    let far = c.far in
    let few : cases.passes < 2 ^ 8 = omega (arith, shaped.passes) in
    let M = s.mem mask in
    let none = s.pc + 52 + 4 * L + 12 in
    let stop = none + 8 in
    let m = cases.passes - 2 in
    let passes : 1 + suc m ≡ cases.passes = omega (arith, shaped.passes) in
    let V = verdict_of_all s.mem cases h p mask bytes in
    let few-p = few-steps cases h shaped mine in
    let quiet = quiet_within lo hi (Peeks w) tt in
    let P = 14 + (332 + (12 + line_count cases h 0 * (12 * (cases.line / 8) + 4)
    + (12 + line_count cases h 1 * (12 * (cases.line / 8) + 4)
    + (12 + line_count cases h 2 * (12 * (cases.line / 8) + 4))))) + 3 in
    let bound : suc m * P ≤ cases.passes * (385 + 13 * length (owned cases h)) =
    turns m cases.passes P (385 + 13 * length (owned cases h)) passes few-p in
    takes_more {n = 11 + suc (suc (suc m * P + (2 + 11)))} (26 + cases.passes * (385 + 13 * length (owned cases h)))
    (omega arith)
    (takes_then {n = 11} {k = suc (suc (suc m * P + (2 + 11)))}
    (takes_map quiet (λ t g. g) (constant_takes w lo hi 4 mask (omega arith) s (omega arith) (omega (arith, n5)) ml
    (at_front w.text s.pc l1 l2 at2))) (λ t g.
    let pc1 : t.pc ≡ s.pc + 44 = g.pc in
    let code = at_next w.text s.pc t.pc l1 l2 11 (length-constant 4 mask) pc1 at2 in
    let four : get t.regs 4 ≡ mask = ap (λ (f : Table). get f 4) g.regs in
    step_ld {n = suc (suc m * P + (2 + 11))} mask refl code.0 (rw four (omega arith)) c.mask.may
    (λ v _ _. on_read _ mask v t (refl, c.mask.own) (omega arith) (omega (arith, n5)))
    (λ v fit own.
    let value : v ≡ M = own c.mask.own ∙ ap (λ (f : Table). f mask) g.mem in
    let t1 = loaded (ld 5 0 4) mask v t in
    let t2 = computes (addi 9 0 1) t1 1 in
    let Ml : M < 2 ^ 64 = omega (arith, value) in
    let start : t2.pc ≡ s.pc + 52 = omega arith in
    let stops : stop ≡ t2.pc + 4 * L + 20 = omega arith in
    let here = at_next w.text s.pc t2.pc (l1 ++ l2) l3 13 n2 (omega arith) at3 in
    step_addi {n = suc m * P + (2 + 11)} 1 refl code.1.0 refl (on_quiet _ t1 _ tt (omega arith) (omega (arith, n5)))
    (takes_then {n = suc m * P} {k = 2 + 11} (passes_take w lo hi s.mem stop M p cases h bytes shaped near far Ml few m
    1 passes (needs w lo hi s.mem stop M p mask cases h bytes shaped mine c)
    (few-masks w lo hi s.mem stop M p mask cases h bytes shaped mine c) t2 value refl g.mem stops (omega arith)
    (omega (arith, n5)) here) (λ u j.
    let at-none : t2.pc + 4 * L + 12 ≡ none = omega arith in
    let is : verdict_from s.mem M p 8192 (masks w lo hi s.mem stop M cases h bytes shaped) 1 (suc m) ≡ V =
    (let count : suc m ≡ cases.passes - 1 = omega arith in
    ap₂ (λ (l : List ℕ) (k : ℕ). verdict_from s.mem M p 8192 l 1 k)
    (masks-same w lo hi s.mem stop M p mask cases h bytes shaped mine c) count) in
    let ends : Ends stop none V u =
    subst (λ (k : ℕ). Ends stop none k u) is
    (subst (λ (k : ℕ). Ends stop k (verdict_from s.mem M p 8192 (masks w lo hi s.mem stop M cases h bytes shaped) 1
    (suc m)) u) at-none j.ends) in
    takes_then {n = 2} {k = 11} (close_take w lo hi none V u ends (omega arith) (omega (arith, n5))
    (at_next w.text s.pc none (l1 ++ l2 ++ l3) closing (16 + L) n3 (omega arith) at4)) (λ x d.
    let pc2 : x.pc ≡ none + 16 = d.pc in
    takes_map quiet (λ y e. record {
      pc = omega (arith, e.pc, n5);
      place = ap (λ (f : Table). get f 7) e.regs;
      number = ap (λ (f : Table). get f 8) e.regs ∙ (get_put_other x.regs 7 cell 8 (omega arith) ∙ d.eight);
      regs = λ r l. ap (λ (f : Table). get f r) e.regs ∙
          (get_put_other x.regs 7 cell r (omega arith) ∙
          (d.regs r l ∙
          (j.regs r l ∙ (get_put_other t1.regs 9 1 r (omega arith) ∙
          (get_put_other t.regs 5 v r (omega arith) ∙
          (ap (λ (f : Table). get f r) g.regs ∙ get_put_other s.regs 4 mask r (omega arith)))))));
      mem = e.mem ∙ (d.mem ∙ (j.mem ∙ g.mem));
      fits = λ f. e.fits (d.fits (j.fits (fit_put t1.regs 9 1 (omega arith) (fit_put t.regs 5 v fit (g.fits f)))));
    })
    (constant_takes w lo hi 7 cell (omega arith) x (omega arith) (omega (arith, n5)) small
    (at_next w.text s.pc x.pc (l1 ++ l2 ++ l3 ++ closing) l5 (20 + L) n4 (omega arith) at))))))))
  where
    turns : (m passes P Q : ℕ) → 1 + suc m ≡ passes → P ≤ Q → suc m * P ≤ passes * Q
    turns m passes P Q e l =
        let a = mul-le-mul_left (suc m) l in
        let b : suc m ≤ passes = omega arith in
        let d = mul-le-mul_left Q b in
        omega arith

pub compare-all-short : (cases : Cases) (h first masks bytes cell : ℕ)
    → length (compare_all cases h first masks bytes cell) ≤ 143
unfolding compare_all
compare-all-short cases h first masks bytes cell =
    omega (
      arith,
      length-append (compare_all_but_last cases h first masks bytes cell) (sd 8 0 7 ∷ []),
      compare-short cases h first masks bytes cell,
    )
