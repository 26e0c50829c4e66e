-- What one step reads and writes, by its effect.
use Rattle.std.proofs.Common.{◌≡◌, inl, inr, ℕ, ◌+◌, ◌*◌, ◌%◌, ◌^◌, ◌<◌, ◌≤◌, refl, sym, ap₂, subst, ◌∙◌, arith}
use Rattle.tm_table.specs.declared.instr.Instr.{Instr}
use Rattle.tm_table.specs.declared.state.Access.{Access}
use Rattle.tm_table.specs.declared.state.Access.TheVariants.{Quiet, Read, Write}
use Rattle.tm_table.specs.State.{Hart}
use Rattle.tm_table.specs.Words.{low}
use Rattle.tm_table.specs.Row.{Effect, Gives, Loads, Stores, Branches, Jumps, effect_at, after, row, HasWidth, IsWidth}
use Rattle.tm_ram.specs.Region.{Region, IsPlace}
use Rattle.tm_world.specs.Run.{read_value, HasShape, IsFitting}
use Rattle.tm_world.specs.Kinds.{IsPossible, IsReachable}
use Rattle.tm_guest.specs.Memory.{IsGuestRegion, LoadsIn, WritesIn}

-- an access that can be made has its place in the region
pub placed : (r : Region) (addr width : ℕ) → IsGuestRegion r → IsWidth width → IsReachable addr width
    → IsPlace r addr width
placed r addr width g w h = record {
  wide = w;
  aligned = h.0;
  from = subst (λ x. x ≤ addr) (sym g.base) h.1;
  to = subst (λ x. addr + width ≤ x) (sym g.end) h.2;
}

pub loads-in : (r : Region) (e : Effect) (hart : Hart) (rd n : ℕ) → IsGuestRegion r → HasWidth e
    → ((bytes : ℕ) → IsPossible (after e hart rd n bytes).1) → LoadsIn r e
unfolding after
loads-in r (Loads addr width with_sign) hart rd n g w h = placed r addr width g w (h 0)
loads-in r (Gives value) hart rd n g w h = tt
loads-in r (Stores addr width value) hart rd n g w h = tt
loads-in r (Branches taken) hart rd n g w h = tt
loads-in r (Jumps link target) hart rd n g w h = tt

pub writes-in : (r : Region) (a : Access) → IsGuestRegion r → HasShape a → IsPossible a → WritesIn r a
writes-in r Quiet g s h = tt
writes-in r (Read addr width value) g s h = tt
writes-in r (Write addr width value) g s h = placed r addr width g s.0 h

-- values below 2 ^ (8 * width) fit the width
pub fitting : (width value : ℕ) → IsWidth width → value < 2 ^ (8 * width) → IsFitting width value
fitting width value w l = (w, by w)
  where
    at : (n : ℕ) → width ≡ n → value < 2 ^ (8 * n)
    at n e = subst (λ (x : ℕ). value < 2 ^ (8 * x)) e l

    back : (n : ℕ) → width ≡ n → value < 256 ^ n → value < 256 ^ width
    back n e h = subst (λ (x : ℕ). value < 256 ^ x) (sym e) h

    by : IsWidth width → value < 256 ^ width
    by (inl e) = back 1 e (at 1 e)
    by (inr (inl e)) = back 2 e (at 2 e)
    by (inr (inr (inl e))) = back 4 e (at 4 e)
    by (inr (inr (inr e))) = back 8 e (at 8 e)

pub low-fits : (width value : ℕ) → IsWidth width → value % 2 ^ (8 * width) < 2 ^ (8 * width)
low-fits width value w = by w
  where
    back : (n : ℕ) → width ≡ n → value % 2 ^ (8 * n) < 2 ^ (8 * n) → value % 2 ^ (8 * width) < 2 ^ (8 * width)
    back n e h = subst (λ (x : ℕ). value % 2 ^ (8 * x) < 2 ^ (8 * x)) (sym e) h

    by : IsWidth width → value % 2 ^ (8 * width) < 2 ^ (8 * width)
    by (inl e) = back 1 e (omega arith)
    by (inr (inl e)) = back 2 e (omega arith)
    by (inr (inr (inl e))) = back 4 e (omega arith)
    by (inr (inr (inr e))) = back 8 e (omega arith)

-- a step is that of the value which its access read
own-read : (e : Effect) (hart : Hart) (rd n read : ℕ)
    → after e hart rd n (read_value (after e hart rd n read).1) ≡ after e hart rd n read
unfolding after
own-read (Loads addr width with_sign) hart rd n read = refl
own-read (Gives value) hart rd n read = refl
own-read (Stores addr width value) hart rd n read = refl
own-read (Branches taken) hart rd n read = refl
own-read (Jumps link target) hart rd n read = refl

-- ---- at an instruction

pub possible-after : (hart : Hart) (i : Instr) (e : Effect) → e ≡ effect_at hart i
    → ((bytes : ℕ) → IsPossible (row hart i bytes).1)
    → (bytes : ℕ) → IsPossible (after e hart i.rd (low 64 i.imm) bytes).1
unfolding row
possible-after hart i e is h bytes =
    subst (λ (x : Effect). IsPossible (after x hart i.rd (low 64 i.imm) bytes).1) (sym is) (h bytes)

pub row-made : (hart next : Hart) (i : Instr) (e : Effect) (read : ℕ) (access : Access) → e ≡ effect_at hart i
    → next ≡ (after e hart i.rd (low 64 i.imm) read).0
    → access ≡ (after e hart i.rd (low 64 i.imm) read).1
    → row hart i (read_value access) ≡ (next, access)
unfolding row
row-made hart next i e read access is state acc =
    let n = low 64 i.imm in
    ap₂ (λ (x : Effect) (a : Access). after x hart i.rd n (read_value a)) (sym is) acc
    ∙ (own-read e hart i.rd n read ∙ sym (ap₂ (λ (h : Hart) (a : Access). (h, a)) state acc))
