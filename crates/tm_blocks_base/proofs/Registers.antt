-- What every run of the words does that save registers and load them.
use Rattle.std.proofs.Common.{◌≡◌, ◌≢◌, ℕ, zero, suc, ◌+◌, ◌-◌, ◌*◌, ◌^◌, ◌<◌, ◌≤◌, ◌⊎◌, inl, inr, List, [], ◌∷◌}
use Rattle.std.proofs.Common.{◌++◌, map, refl, sym, ap, ◌∙◌, arith, subst, append_assoc}
use Rattle.std.proofs.lemmas.Bool.{cases_lt}
use Rattle.tm_table.specs.declared.instr.Instr.{Instr}
use Rattle.tm_table.specs.declared.state.Access.{Access}
use Rattle.tm_table.specs.declared.state.Access.TheVariants.{Read, Write}
use Rattle.tm_base.specs.Lists.{count_from}
use Rattle.tm_runs.specs.Machine.{World, State, Table, put, get, loaded}
use Rattle.tm_runs.specs.Runs.{Takes, Now, At, Within}
use Rattle.tm_runs.proofs.Compose.{takes_then, takes_map, within_map}
use Rattle.tm_runs.proofs.Steps.{step_ld, step_sd, written}
use Rattle.tm_runs.proofs.Tables.{get_put, get_put_other, at_front, at_next}
use Rattle.tm_blocks_base.specs.Instrs.{ld, sd}
use Rattle.tm_blocks_base.specs.Blocks.{constant, load_registers_but_last, save_registers}
use Rattle.tm_blocks_base.specs.Laws.{accesses, reads, writes, Among, Nowhere, Uses, Usable, ReadsBack, Changeable}
use Rattle.tm_blocks_base.specs.Laws.{dwords, stored_all, RegistersFit, HasAllButLast, HasAll, HasLast}
use Rattle.tm_blocks_base.specs.Laws.{LoadAllButLastRuns, LastLoadRuns, LoadRegistersRuns, SaveRegistersRuns}
use Rattle.tm_blocks_base.proofs.Lengths.{length-constant, length-load_registers_but_last, load_registers_parts}
use Rattle.tm_blocks_base.proofs.Dwords.{may_at, fit_put, quiet_uses, uses_map}
use Rattle.tm_blocks_base.proofs.Constant.{constant_takes}

-- registers j + 1 to j + n
abbrev some_registers : State → (j n : ℕ) → List ℕ
some_registers s j n = map (λ i. get s.regs (i + 1)) (count_from j n)

-- dwords j to j + n - 1 at b are registers j + 1 to j + n
record Saving (b j n : ℕ) (s t : State) : Type 0 where
  pc : t.pc ≡ s.pc + 4 * n
  regs : t.regs ≡ s.regs
  mem : t.mem ≡ stored_all s.mem b j (some_registers s j n)
  log : accesses t.log ≡ writes b j (some_registers s j n) ++ accesses s.log

module _ (w : World) (lo hi b N : ℕ) (goal : Usable w b N) (free : Changeable w b N) where
  saving_takes : (n j : ℕ) (s : State) → j + n ≡ N → lo ≤ s.pc → s.pc + 4 * n ≤ hi → get s.regs 31 ≡ b
      → At w.text s.pc (map (λ r. sd r (8 * (r - 1)) 31) (count_from (suc j) n))
      → Takes w (Within lo hi (Uses Nowhere (Among b N))) (Saving b j n s) n s
  saving_takes zero j s sum x y base at = Now (record { pc = omega arith; regs = refl; mem = refl; log = refl })
  saving_takes (suc n) j s sum x y base at =
      let low = goal.low in
      let r : suc j ≡ j + 1 = omega arith in
      let e : get s.regs (suc j) ≡ get s.regs (j + 1) = ap (get s.regs) r in
      let rest = some_registers s (suc j) n in
      step_sd (b + 8 * j) refl at.0 (rw base (omega arith)) (may_at j _ goal (omega arith) refl) (free j (omega arith))
      (record {
        from = x;
        below = omega arith;
        least = omega arith;
        most = omega arith;
        access = (refl, record { index = j; below = omega arith; is = refl });
      })
      (takes_map (λ t h. h) (λ t h. record {
        pc = omega (arith, h.pc);
        regs = h.regs;
        mem = h.mem ∙ ap (λ (v : ℕ). stored_all (put s.mem (b + 8 * j) v) b (suc j) rest) e;
        log = h.log ∙ (ap (λ (v : ℕ). writes b (suc j) rest ++ Write (b + 8 * j) 8 v ∷ accesses s.log) e ∙ sym
            (append_assoc (writes b (suc j) rest) (Write (b + 8 * j) 8 (get s.regs (j + 1)) ∷ []) (accesses s.log)));
      }) (saving_takes n (suc j) (written (sd (suc j) (8 * (suc j - 1)) 31) (b + 8 * j) s) (omega arith) (omega arith)
      (omega arith) base at.1))

pub save_registers_runs : SaveRegistersRuns
unfolding save_registers
save_registers_runs w s b base goal free at =
    takes_map (λ t g. g) (λ t h. record { pc = h.pc; regs = h.regs; mem = h.mem; accesses = h.log })
    (saving_takes w s.pc (s.pc + 120) b 30 goal free 30 0 s refl (omega arith) (omega arith) base at)

-- registers j + 1 to j + n are dwords j to j + n - 1 at a
record Loading (a j n : ℕ) (s t : State) : Type 0 where
  pc : t.pc ≡ s.pc + 4 * n
  here : (i : ℕ) → j ≤ i → i < j + n → get t.regs (i + 1) ≡ s.mem (a + 8 * i)
  rest : (r : ℕ) → (r ≤ j) ⊎ (j + n < r) → get t.regs r ≡ get s.regs r
  mem : t.mem ≡ s.mem
  log : accesses t.log ≡ reads a j (map (λ i. s.mem (a + 8 * i)) (count_from j n)) ++ accesses s.log
  fits : RegistersFit s → RegistersFit t

-- the register that was loaded first, or one of the later ones
first_or_later : (a j n v : ℕ) (s : State) (t : State) → v ≡ s.mem (a + 8 * j) → get t.regs (suc j) ≡ v
    → ((i : ℕ) → suc j ≤ i → i < suc j + n → get t.regs (i + 1) ≡ s.mem (a + 8 * i)) → (i : ℕ) → j ≤ i → i < j + suc n
    → get t.regs (i + 1) ≡ s.mem (a + 8 * i)
first_or_later a j n v s t is one later i p q = by (cases_lt j i)
  where
    by : (j < i) ⊎ (i ≤ j) → get t.regs (i + 1) ≡ s.mem (a + 8 * i)
    by (inl d) = later i (omega arith) (omega arith)
    by (inr d) =
        let r : i + 1 ≡ suc j = omega arith in
        let m : j ≡ i = omega arith in
        ap (get t.regs) r ∙ (one ∙ (is ∙ ap (λ (x : ℕ). s.mem (a + 8 * x)) m))

module _ (w : World) (lo hi a N : ℕ) (source : Usable w a N) (back : ReadsBack w a N) (few : N ≤ 30) where
  loading_takes : (n j : ℕ) (s : State) → j + n ≡ N → lo ≤ s.pc → s.pc + 4 * n ≤ hi → get s.regs 31 ≡ a
      → At w.text s.pc (map (λ r. ld r (8 * (r - 1)) 31) (count_from (suc j) n))
      → Takes w (Within lo hi (Uses (Among a N) Nowhere)) (Loading a j n s) n s
  loading_takes zero j s sum x y base at =
      Now (record {
        pc = omega arith;
        here = λ i p q. absurd (omega arith);
        rest = λ r h. refl;
        mem = refl;
        log = refl;
        fits = λ k. k;
      })
  loading_takes (suc n) j s sum x y base at =
      let low = source.low in
      step_ld (a + 8 * j) refl at.0 (rw base (omega arith)) (may_at j _ source (omega arith) refl)
      (λ v _ _. record {
        from = x;
        below = omega arith;
        least = omega arith;
        most = omega arith;
        access = (refl, record { index = j; below = omega arith; is = refl });
      })
      (λ v small own.
      let is : v ≡ s.mem (a + 8 * j) = own (back j (omega arith)) in
      let more = reads a (suc j) (map (λ i. s.mem (a + 8 * i)) (count_from (suc j) n)) in
      takes_map (λ t h. h) (λ t h. record {
        pc = omega (arith, h.pc);
        here = first_or_later a j n v s t is (h.rest (suc j) (inl (omega arith)) ∙ get_put s.regs (suc j) v
            (omega arith)) h.here;
        rest = λ r k. h.rest r (wider j n r k) ∙ get_put_other s.regs (suc j) v r (other j n r k);
        mem = h.mem;
        log = h.log ∙ (ap (λ (x : ℕ). more ++ Read (a + 8 * j) 8 x ∷ accesses s.log) is ∙ sym
            (append_assoc more (Read (a + 8 * j) 8 (s.mem (a + 8 * j)) ∷ []) (accesses s.log)));
        fits = λ k. h.fits (fit_put s.regs (suc j) v small k);
      }) (loading_takes n (suc j) (loaded (ld (suc j) (8 * (suc j - 1)) 31) (a + 8 * j) v s) (omega arith) (omega arith)
      (omega arith) (get_put_other s.regs (suc j) v 31 (omega arith) ∙ base) at.1))
    where
      wider : (j n r : ℕ) → (r ≤ j) ⊎ (j + suc n < r) → (r ≤ suc j) ⊎ (suc j + n < r)
      wider j n r (inl p) = inl (omega arith)
      wider j n r (inr p) = inr (omega arith)

      other : (j n r : ℕ) → (r ≤ j) ⊎ (j + suc n < r) → r ≢ suc j
      other j n r (inl p) = omega arith
      other j n r (inr p) = omega arith

pub load_all_but_last_runs : (table : ℕ) → LoadAllButLastRuns table
unfolding load_registers_but_last
load_all_but_last_runs table w s source back at =
    let lo = s.pc in
    let hi = s.pc + 164 in
    let a1 = constant 31 table in
    let a2 = map (λ r. ld r (8 * (r - 1)) 31) (count_from 1 30) in
    let low = source.low in
    let thirty : Usable w table 30 = record {
      aligned = source.aligned;
      low = omega arith;
      guest = λ j l. source.guest j (omega arith);
    } in
    takes_then (takes_map (quiet_uses lo hi (Among table 30) Nowhere) (λ t p. p)
    (constant_takes w lo hi 31 table (omega arith) s (omega arith) (omega arith) (omega arith)
    (at_front w.text s.pc a1 a2 at))) (λ s1 c.
    let pc1 = c.pc in
    takes_map (λ t g. g) (λ t h. record {
      pc = omega (arith, h.pc);
      loaded = λ i l. h.here i (omega arith) l ∙ ap (λ (f : Table). f (table + 8 * i)) c.mem;
      base = h.rest 31 (inr (omega arith)) ∙ ap (λ (f : Table). get f 31) c.regs;
      rest = λ r l. h.rest r (inr (omega arith)) ∙ (ap (λ (f : Table). get f r) c.regs ∙ get_put_other s.regs 31 table r
          (omega arith));
      mem = h.mem ∙ c.mem;
      accesses = h.log ∙ (ap (λ (f : Table). reads table 0 (dwords f table 30) ++ accesses s1.log) c.mem ∙ ap
          (λ (l : List Access). reads table 0 (dwords s.mem table 30) ++ l) c.accesses);
      fits = λ k. h.fits (c.fits k);
    })
    (loading_takes w lo hi table 30 thirty (λ j l. back j (omega arith)) (omega arith) 30 0 s1 refl (omega arith)
    (omega arith) (ap (λ (f : Table). get f 31) c.regs)
    (at_next w.text s.pc s1.pc a1 a2 11 (length-constant 31 table) pc1 at)))

pub last_load_runs : (table : ℕ) → LastLoadRuns table
last_load_runs table w s source back at base =
    let low = source.low in
    step_ld (table + 240) refl at.0 (rw base (omega arith)) (may_at 30 _ source (omega arith) refl)
    (λ v small own. made v small (own (back 30 (omega arith))))
    (λ v small own. Now (made v small (own (back 30 (omega arith)))))
  where
    made : (v : ℕ) → v < 2 ^ 64 → v ≡ s.mem (table + 240) → HasLast table s (loaded (ld 31 240 31) (table + 240) v s)
    made v small is = record {
      is = ap (λ (x : ℕ). loaded (ld 31 240 31) (table + 240) x s) is;
      small = subst (λ (x : ℕ). x < 2 ^ 64) is small;
    }

-- the load of x31 behind the others
pub all_loaded : (table : ℕ) (s u t : State) → HasAllButLast table s u → HasLast table u t → HasAll table s t
all_loaded table s u t b l =
    let same : u.mem (table + 240) ≡ s.mem (table + 240) = ap (λ (f : Table). f (table + 240)) b.mem in
    subst (HasAll table s) (sym l.is) (record {
      pc = omega (arith, b.pc);
      loaded = last b.loaded same;
      rest = λ r k. get_put_other u.regs 31 (u.mem (table + 240)) r (omega arith) ∙ b.rest r k;
      mem = b.mem;
      accesses = ap (λ (x : List Access). Read (table + 240) 8 (u.mem (table + 240)) ∷ x) b.accesses ∙ ap
          (λ (x : ℕ). Read (table + 240) 8 x ∷ reads table 0 (dwords s.mem table 30) ++ accesses s.log) same;
      fits = λ k. fit_put u.regs 31 (u.mem (table + 240)) l.small (b.fits k);
    })
  where
    last : ((i : ℕ) → i < 30 → get u.regs (i + 1) ≡ s.mem (table + 8 * i)) → u.mem (table + 240) ≡ s.mem (table + 240)
        → (i : ℕ) → i < 31 → get (put u.regs 31 (u.mem (table + 240))) (i + 1) ≡ s.mem (table + 8 * i)
    last h same i l = by (cases_lt i 30)
      where
        by : (i < 30) ⊎ (30 ≤ i) → get (put u.regs 31 (u.mem (table + 240))) (i + 1) ≡ s.mem (table + 8 * i)
        by (inl d) = get_put_other u.regs 31 (u.mem (table + 240)) (i + 1) (omega arith) ∙ h i d
        by (inr d) =
            let e : 30 ≡ i = omega arith in
            subst (λ (x : ℕ). get (put u.regs 31 (u.mem (table + 240))) (x + 1) ≡ s.mem (table + 8 * x)) e same

pub load_registers_runs : (table : ℕ) → LoadRegistersRuns table
load_registers_runs table w s source back at =
    let lo = s.pc in
    let hi = s.pc + 168 in
    let b = load_registers_but_last table in
    let l : List Instr = ld 31 240 31 ∷ [] in
    let parts = subst (At w.text s.pc) (load_registers_parts table) at in
    takes_then (takes_map (within_map lo (s.pc + 164) lo hi (omega arith) (omega arith)
    (uses_map thirty_one (λ x n. n))) (λ t p. p)
    (load_all_but_last_runs table w s source back (at_front w.text s.pc b l parts))) (λ u p.
    let pc = p.pc in
    takes_map (last_within u pc) (λ t q. all_loaded table s u t p q)
    (last_load_runs table w u source back (at_next w.text s.pc u.pc b l 41 (length-load_registers_but_last table) pc
    parts) p.base))
  where
    thirty_one : (a : ℕ) → Among table 30 a → Among table 31 a
    thirty_one a m = record { index = m.index; below = omega (arith, m.below); is = m.is }

    last_within : (u : State) → u.pc ≡ s.pc + 164 → (t : State) → HasLast table u t
        → Within s.pc (s.pc + 168) (Uses (Among table 31) Nowhere) t
    last_within u pc t q = subst (Within s.pc (s.pc + 168) (Uses (Among table 31) Nowhere)) (sym q.is)
        (record {
          from = omega arith;
          below = omega arith;
          least = omega arith;
          most = omega arith;
          access = (refl, record { index = 30; below = omega arith; is = refl });
        })
