-- Where the marks of all harts lie: they rise from case to case, and from hart to hart (this project's own).
use Rattle.std.specs.Prelude.{◌≡◌, ◌≢◌, ◌⊎◌, ℕ, suc, ◌<◌, ◌≤◌, false, AllPairs, All}
use Rattle.tm_plan_cases.specs.declared.program.Program.{Program}
use Rattle.tm_plan_map.specs.Map.{text_base}
use Rattle.tm_world.specs.Place.{harts, case_count, start_of, end_of, exit_of, halt_of, inside}
use Rattle.tm_world.specs.Whole.{mark_addresses, stream_ranges}

-- The text of hart h begins at base h, and its case c at head h c; the head behind the last case is the halt mark.
pub record Spread (p : Program) (base : ℕ → ℕ) (head : ℕ → ℕ → ℕ) : Type 0 where
  pub first : text_base ≤ base 0
  pub begin : (h : ℕ) → h < harts p → base h < head h 0
  pub start : (h c : ℕ) → h < harts p → c < case_count p → head h c < start_of p h c
  pub some : (h c : ℕ) → h < harts p → c < case_count p → start_of p h c < end_of p h c
  pub end : (h c : ℕ) → h < harts p → c < case_count p → end_of p h c < head h (suc c)
  pub halt : (h : ℕ) → h < harts p → halt_of p h ≡ head h (case_count p)
  pub exit : (h : ℕ) → h < harts p → halt_of p h < exit_of p h
  pub next : (h : ℕ) → h < harts p → exit_of p h < base (suc h)

-- All marks are different addresses, and none is the text's first word, which lies in no stream; the streams don't
-- overlap; and no hart's halt mark lies in one of its streams.
pub record Apart (p : Program) : Type 0 where
  pub apart : AllPairs (λ a b. a ≢ b) (mark_addresses p)
  pub entry : All (λ a. a ≢ text_base) (mark_addresses p)
  pub outside : (h c : ℕ) → h < harts p → c < case_count p → inside p h c text_base ≡ false
  pub streams : AllPairs (λ (a : ℕ × ℕ) (b : ℕ × ℕ). (a.1 ≤ b.0) ⊎ (b.1 ≤ a.0)) (stream_ranges p)
  pub halted : (h c : ℕ) → h < harts p → c < case_count p → inside p h c (halt_of p h) ≡ false

-- Marks that are spread so are apart.
abbrev pub SpreadIsApart : Program → Type 0
SpreadIsApart p = (base : ℕ → ℕ) (head : ℕ → ℕ → ℕ) → Spread p base head → Apart p
