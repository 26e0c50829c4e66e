-- A machine that can go on is a hart with a next step.
use Rattle.std.proofs.Common.{◌≡◌, ℕ, ◌%◌, Option, None, Some, refl, sym, ap, ap₂, ◌∙◌, subst}
use Rattle.std.specs.Prelude.{IsTrue, slice_index}
use Rattle.tm_table.specs.State.{Hart}
use Rattle.tm_table.specs.Words.{low}
use Rattle.tm_table.specs.Row.{Effect, Gives, Loads, Stores, Branches, Jumps, effect, row}
use Rattle.tm_table.specs.Row.{after as row_after}
use Rattle.tm_table.specs.declared.add.Add.{Add}
use Rattle.tm_table.specs.Adds.{add_of, hart_after, sum_after}
use Rattle.tm_plan_cases.specs.declared.program.Program.{Program}
use Rattle.tm_table.specs.declared.state.Access.TheVariants.{Write}
use Rattle.tm_world.specs.Place.{word_at}
use Rattle.tm_world.specs.Kinds.{IsReachable, IsPossible}
use Rattle.tm_runs.specs.Machine.{State, get, effect_in, MayAct}
use Rattle.tm_runs.specs.Runs.{CanStep}
use Rattle.tm_runs.specs.World.{world_of}
use Rattle.tm_runs.proofs.Rows.{decoded-row}
use Rattle.tm_runs.proofs.Places.{guest-parts}
use Rattle.tm_cells_world.specs.Rows.{CellHasNext, row_as}
use Rattle.tm_cells_world.specs.Machine.{adds_at, adds_in}
use Rattle.tm_cells_world.proofs.Adding.{row-alone}
use Rattle.tm_cells_world.proofs.Split.{CanAdd}
use Rattle.tm_cells_code.proofs.Quiet.{text-word}

-- an access that may be made is possible
reachable : (p : Program) (h a n : ℕ) → n ≡ 8 → a % 8 ≡ 0 → IsTrue ((world_of p h).guest a) → IsReachable a n
reachable p h a n e al g = let b = guest-parts a g in subst (IsReachable a) (sym e) (al, b.0, b.1)

may-possible : (p : Program) (h : ℕ) (e : Effect) (hart : Hart) (rd n read : ℕ) → MayAct e (world_of p h)
    → IsPossible (row_after e hart rd n read).1
unfolding row_after
may-possible p h (Gives value) hart rd n read m = tt
may-possible p h (Loads addr width with_sign) hart rd n read m = reachable p h addr width m.0 m.2.0 m.2.1
may-possible p h (Stores addr width value) hart rd n read m = reachable p h addr width m.0 m.1.0 m.1.1
may-possible p h (Branches taken) hart rd n read m = tt
may-possible p h (Jumps link goes) hart rd n read m = tt

pub row-next : (p : Program) (h : ℕ) (hart : Hart) (t : State) → t.pc ≡ hart.pc
    → ((r : ℕ) → get t.regs r ≡ slice_index hart.x r) → CanStep (world_of p h) t → CellHasNext p hart
unfolding row
row-next p h hart t pc regs c =
    let (word, at, is) = text-word p h t.pc c.instr c.fetched in
    let i = c.instr in
    let n = low 64 i.imm in
    let same : effect_in i t ≡ effect i.op hart.pc (slice_index hart.x i.rs1) (slice_index hart.x i.rs2) n =
    ap (λ (x : ℕ). effect i.op x (get t.regs i.rs1) (get t.regs i.rs2) n) pc ∙ ap₂
    (λ (a b : ℕ). effect i.op hart.pc a b n) (regs i.rs1) (regs i.rs2) in
    let may : MayAct (effect i.op hart.pc (slice_index hart.x i.rs1) (slice_index hart.x i.rs2) n) (world_of p h) =
    subst (λ (x : Effect). MayAct x (world_of p h)) same c.may in
    let plain : add_of word ≡ None = row-alone word i is in (
      word,
      subst (λ (x : ℕ). word_at p x ≡ Some word) pc at,
      λ read. (
        (row hart i read).0,
        (row hart i read).1,
        ap (λ (o : Option Add). row_as o hart word read) plain ∙ decoded-row hart word read i is,
        may-possible p h (effect i.op hart.pc (slice_index hart.x i.rs1) (slice_index hart.x i.rs2) n) hart i.rd n
            read may,
      ),
    )

add-word : (o : Option ℕ) (a : Add) → adds_in o ≡ Some a → (w : ℕ) × (o ≡ Some w) × (add_of w ≡ Some a)
add-word None a e = cc
add-word (Some w) a e = (w, refl, e)

pub adds-word : (p : Program) (pc : ℕ) (a : Add) → adds_at p pc ≡ Some a → (w : ℕ) × (word_at p pc ≡ Some w)
    × (add_of w ≡ Some a)
unfolding adds_at
adds-word p pc a e = add-word (word_at p pc) a e

pub add-next : (p : Program) (h : ℕ) (hart : Hart) (t : State) → t.pc ≡ hart.pc
    → ((r : ℕ) → get t.regs r ≡ slice_index hart.x r) → CanAdd (world_of p h) (adds_at p) t → CellHasNext p hart
add-next p h hart t pc regs c =
    let a = c.add in
    let (word, at, is) = adds-word p t.pc a c.fetched in
    let parts = guest-parts (get t.regs a.rs1) c.may.1 in
    let reach : IsReachable (get t.regs a.rs1) 8 = (c.may.0, parts.0, parts.1) in (
      word,
      subst (λ (x : ℕ). word_at p x ≡ Some word) pc at,
      λ read. (
        hart_after hart a read,
        Write (slice_index hart.x a.rs1) 8 (sum_after hart a read),
        ap (λ (o : Option Add). row_as o hart word read) is,
        subst (λ (x : ℕ). IsReachable x 8) (regs a.rs1) reach,
      ),
    )
