-- Places of flags, counts and saved registers, and a table with a value at two places.
use Rattle.std.proofs.Common.{◌≡◌, ◌≢◌, inr, ℕ, ◌+◌, ◌-◌, ◌*◌, ◌^◌, ◌<◌, ◌≤◌, Bool, true, false}
use Rattle.std.proofs.Common.{ne_eqb, eq-eqb}
use Rattle.std.proofs.Common.{None, Some, refl, ap, ◌∙◌, arith}
use Rattle.std.specs.Prelude.{if◌then◌else◌, nat_eq}
use Rattle.tm_table.specs.declared.state.Access.{Access}
use Rattle.tm_table.specs.declared.state.Access.TheVariants.{Quiet, Read, Write}
use Rattle.tm_plan_cases.specs.declared.program.Program.{Program}
use Rattle.tm_plan_map.specs.Map.{flag_at, private_at, save_at, windows_base}
use Rattle.tm_plan_map.proofs.Within.{within-false}
use Rattle.tm_world.specs.Place.{case_count, passes, byte_of}
use Rattle.tm_world.specs.Run.{got}
use Rattle.tm_world.specs.Course.{last_phase}
use Rattle.tm_runs.specs.Machine.{Table, put}
use Rattle.tm_legal.specs.Tame.{Formed}
use Rattle.tm_blocks_base.specs.Laws.{Uses}
use Rattle.tm_pass_way.specs.Calm.{IsBelow}
use Rattle.tm_pass_way.proofs.Calm.{flag-low}

pub two-other : (f : Table) (c g v a : ℕ) → a ≢ c → a ≢ g → put (put f c v) g v a ≡ f a
two-other f c g v a n m =
    ap (λ (b : Bool). if b then v else put f c v a) (ne_eqb a g m) ∙ ap (λ (b : Bool). if b then v
    else f a) (ne_eqb a c n)

pub two-first : (f : Table) (c g v : ℕ) → c ≢ g → put (put f c v) g v c ≡ v
two-first f c g v n =
    ap (λ (b : Bool). if b then v else put f c v c) (ne_eqb c g n) ∙ ap (λ (b : Bool). if b then v
    else f c) (eq-eqb c c refl)

pub two-small : (f : Table) (c g v a : ℕ) → f a < 2 ^ 64 → v < 2 ^ 64 → put (put f c v) g v a < 2 ^ 64
two-small f c g v a small l = by (nat_eq a g) (nat_eq a c)
  where
    by : (x y : Bool) → (if x then v else (if y then v else f a)) < 2 ^ 64
    by true y = l
    by false true = l
    by false false = small

pub got-none : (W : ℕ → Type 0) (x : Access) (b : ℕ) → windows_base ≤ b → Uses IsBelow W x → got x b ≡ None
got-none W Quiet b l u = refl
got-none W (Write addr width v) b l u = refl
got-none W (Read addr width v) b l u = ap (λ (t : Bool). if t then Some (byte_of v (b - addr))
    else None) (within-false addr width b (inr (let w = u.0 in let m = u.1 in omega arith)))

pub cells-apart : (h : ℕ) → h < 16 → private_at h + 256 ≢ flag_at h
cells-apart h l z = let f = flag-low h h l in omega arith

-- the dwords of the private area that parts hand on
pub memo-apart : (h i : ℕ) → i < 30 → private_at h + 8 * i ≢ private_at h + 256
memo-apart h i l z = omega arith

pub area-high : (h k i : ℕ) → private_at h + 4096 ≤ save_at h k + 8 * i
unfolding save_at
area-high h k i = omega arith

pub few-phases : (p : Program) → Formed p → last_phase p < 4096
few-phases p formed = let a = formed.program.cases.count in let b = formed.program.cases.passes in
    product (case_count p) (passes p) (omega arith) (omega arith)
  where
    product : (C K : ℕ) → C ≤ 32 → K ≤ 8 → 2 * (C * K) < 4096
    product C K l m = let x : C * K ≤ 32 * K = grind arith in omega arith
