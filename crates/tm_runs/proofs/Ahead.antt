-- A part that always comes to its end is judged at its end alone: what a log tells there, and what each log before it
-- then tells too, holds after each step of the part.
use Rattle.std.proofs.Common.{◌≡◌, ℕ, ◌+◌, ◌^◌, ◌<◌, Bool, true, false, true≢false, List, [], ◌∷◌, ◌++◌, Option, None}
use Rattle.std.proofs.Common.{Some, ◌==◌, refl, sym, ap, ◌∙◌, subst, arith, append_assoc}
use Rattle.std.specs.Prelude.{IsTrue, nat_eq, if◌then◌else◌}
use Rattle.tm_table.specs.declared.instr.Instr.{Instr}
use Rattle.tm_table.specs.Row.{Effect, Gives, Loads, Stores, Branches, Jumps}
use Rattle.tm_table.specs.Words.{low}
use Rattle.tm_table.proofs.Bounds.{IsBounded, effect-bounded}
use Rattle.tm_table.proofs.Signs.{low-lt}
use Rattle.tm_runs.specs.Machine.{World, State, Entry, Table, get, put, stored, act, effect_in, after, Reads, ReadsAs}
use Rattle.tm_runs.specs.Runs.{Takes, Now, Step}
use Rattle.tm_plan_cases.specs.declared.program.Program.{Program}
use Rattle.tm_world.specs.Place.{halt_of, word_at}
use Rattle.tm_world.specs.Kinds.{stream_at}
use Rattle.tm_runs.specs.World.{Sizes, world_of, support, support_at}
use Rattle.tm_runs.proofs.Split.{one_entry}
use Rattle.tm_runs.proofs.Tables.{get_put_fits}
use Rattle.tm_runs.proofs.Places.{word-place}

-- registers, and memory that reads back, hold numbers of 64 bits
pub record Small (w : World) (s : State) : Type 0 where
  pub regs : (r : ℕ) → get s.regs r < 2 ^ 64
  pub mem : (a : ℕ) → IsTrue (w.own a) → s.mem a < 2 ^ 64

stored-small : (w : World) (mem : Table) (a v c : ℕ) → mem c < 2 ^ 64 → v < 2 ^ 64 → stored w mem a v c < 2 ^ 64
stored-small w mem a v c m small = by (w.fixed a)
  where
    one : (b : Bool) → (if b then v else mem c) < 2 ^ 64
    one true = small
    one false = m

    by : (b : Bool) → (if b then mem else put mem a v) c < 2 ^ 64
    by true = m
    by false = one (nat_eq c a)

act-small : (e : Effect) (w : World) (i : Instr) (v : ℕ) (s : State) → s.pc + 4 < 2 ^ 64 → IsBounded e → ReadsAs e w s v
    → Small w s → Small w (act e w i v s)
act-small (Gives value) w i v s l b r m = record { regs = get_put_fits s.regs i.rd value m.regs b; mem = m.mem }
act-small (Loads addr width with_sign) w i v s l b r m =
    record { regs = get_put_fits s.regs i.rd v m.regs r.0; mem = m.mem }
act-small (Stores addr width value) w i v s l b r m =
    record { regs = m.regs; mem = λ a o. stored-small w s.mem addr value a (m.mem a o) b }
act-small (Branches taken) w i v s l b r m = record { regs = m.regs; mem = m.mem }
act-small (Jumps link goes) w i v s l b r m = record {
  regs = get_put_fits s.regs i.rd (s.pc + 4) m.regs l;
  mem = m.mem;
}

-- something may be read
readable : (e : Effect) (w : World) (s : State) → Small w s → (v : ℕ) × ReadsAs e w s v
readable (Gives value) w s m = (0, tt)
readable (Loads addr width with_sign) w s m = by (w.own addr) refl
  where
    by : (b : Bool) → w.own addr ≡ b → (v : ℕ) × ((v < 2 ^ 64) × (IsTrue (w.own addr) → v ≡ s.mem addr))
    by true o = (s.mem addr, (m.mem addr o, λ _. refl))
    by false o = (0, (omega arith, λ t. absurd (true≢false (sym t ∙ o))))
readable (Stores addr width value) w s m = (0, tt)
readable (Branches taken) w s m = (0, tt)
readable (Jumps link goes) w s m = (0, tt)

-- Q holds some steps later
pub record Ahead (Q : State → Type 0) (t : State) : Type 0 where
  pub later : State
  pub there : Q later
  pub more : List Entry
  pub log : later.log ≡ more ++ t.log

-- what a log tells, it told before its newest entries
pub before : (H : List Entry → Type 0) → ((e : Entry) (log : List Entry) → H (e ∷ log) → H log) → (es log : List Entry)
    → H (es ++ log) → H log
before H drop [] log h = h
before H drop (e ∷ es) log h = before H drop es log (drop e (es ++ log) h)

module _ (w : World) (low-text : (a : ℕ) (i : Instr) → w.text a ≡ Some i → a + 4 < 2 ^ 64) where
  pub after-small : {s : State} (i : Instr) (v : ℕ) → w.text s.pc ≡ Some i → Reads w i s v → Small w s
      → Small w (after w i v s)
  after-small {s = s} i v at r m =
      act-small (effect_in i s) w i v s (low-text s.pc i at)
      (effect-bounded i.op s.pc (get s.regs i.rs1) (get s.regs i.rs2) (low 64 i.imm) (m.regs i.rs1) (m.regs i.rs2)
      (low-lt 64 i.imm)) r m

  -- each state on the way has the part's end ahead
  pub takes_ahead : {G Q : State → Type 0} {n : ℕ} {s : State} → Small w s → Takes w G Q n s → Ahead Q s
  takes_ahead {s = s} m (Now q) = record { later = s; there = q; more = []; log = refl }
  takes_ahead {Q = Q} m (Step {s = s} i at may g h) =
      let r : (v : ℕ) × Reads w i s v = readable (effect_in i s) w s m in
      let a = takes_ahead (after-small i r.0 at r.1 m) (h r.0 r.1) in
      let one = one_entry w i r.0 s in
      record {
        later = a.later;
        there = a.there;
        more = a.more ++ (one.entry ∷ []);
        log = a.log ∙ (ap (λ (l : List Entry). a.more ++ l) one.log ∙ sym
            (append_assoc a.more (one.entry ∷ []) s.log));
      }

  pub takes_told : {G Q : State → Type 0} {n : ℕ} {s : State} (H : List Entry → Type 0)
      → ((e : Entry) (log : List Entry) → H (e ∷ log) → H log) → ((t : State) → Q t → H t.log) → Small w s
      → Takes w G Q n s
      → Takes w (λ t. H t.log) (λ t. Q t × H t.log × Small w t) n s
  takes_told H drop end m (Now q) = Now (q, end _ q, m)
  takes_told {Q = Q} H drop end m (Step {s = s} i at may g h) =
      Step i at may
      (λ v r. let a = takes_ahead (after-small i v at r m) (h v r) in
      before H drop a.more (after w i v s).log (subst H a.log (end a.later a.there)))
      (λ v r. takes_told H drop end (after-small i v at r m) (h v r))

-- support code stands below 2 ^ 64
pub world-low : (p : Program) (h : ℕ) → Sizes p → (a : ℕ) (i : Instr) → (world_of p h).text a ≡ Some i → a + 4 < 2 ^ 64
unfolding support_at
world-low p h sizes a i e = by (stream_at p h a) (a == halt_of p h) (word_at p a) refl e
  where
    by : (o : Option ℕ) (b : Bool) (w : Option ℕ) → word_at p a ≡ w → support o b w ≡ Some i → a + 4 < 2 ^ 64
    by (Some c) b w f g = cc
    by None true w f g = cc
    by None false None f g = cc
    by None false (Some n) f g = let q = word-place p a n sizes f in omega (arith, q.1)
