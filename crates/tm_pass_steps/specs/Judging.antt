-- What comparing the passes of a case does on a hart's way (this project's own).
use Rattle.std.specs.Prelude.{◌≡◌, ◌≢◌, ℕ, suc, ◌+◌, ◌-◌, ◌*◌, ◌<◌, ◌≤◌, true, ◌==◌, List, [], ◌∷◌, ◌++◌, length}
use Rattle.std.specs.Prelude.{slice_get, slice_index, Some, if◌then◌else◌}
use Rattle.tm_plan_cases.specs.declared.masks.CaseMask.{CaseMask}
use Rattle.tm_plan_cases.specs.declared.program.Program.{Program}
use Rattle.tm_plan_map.specs.Map.{save_at, verdict_at, windows_base}
use Rattle.tm_plan_cases.specs.Collected.{owned}
use Rattle.tm_plan_cases.specs.Shaped.{MasksFit}
use Rattle.tm_world.specs.Place.{harts, case_count, passes, start_of, exit_of, halt_of}
use Rattle.tm_world.specs.Marks.{Mark, Halt, arrivals}
use Rattle.tm_runs.specs.Machine.{State}
use Rattle.tm_runs.specs.Runs.{At}
use Rattle.tm_runs.specs.World.{world_of, support_at, image_dword, is_fixed_dword}
use Rattle.tm_legal.specs.Tame.{Formed}
use Rattle.tm_blocks_base.specs.Instrs.{sd}
use Rattle.tm_blocks_compare.specs.Runs.{Comparing}
use Rattle.tm_blocks_compare.specs.Words.{compare_all_but_last}
use Rattle.tm_pass_way.specs.Facts.{Told}
use Rattle.tm_pass_way.specs.Parts.{Ready, Passes, Leads, phase_at, way_to}
use Rattle.tm_pass_way.specs.Calm.{Clear}
use Rattle.tm_pass_steps.specs.Finding.{HasMasks}

-- how many steps of comparing are work, where the hart collects so many dwords
abbrev pub compare_cost : (passes dwords : ℕ) → ℕ
compare_cost passes dwords = 27 + passes * (385 + 13 * dwords)

-- the marks that a hart comes to behind case c
abbrev pub mark_behind : Program → ℕ → List Mark
mark_behind p c = if suc c == case_count p then Halt ∷ [] else []

-- The words that compare the passes of case c stand from lo to the store at last, behind which the next case begins
-- or the halt mark is; and the case's masks are in the image, in dwords that no store changes.
pub record CompareSite (p : Program) (m : CaseMask) (h c lo last masks bytes : ℕ) : Type 0 where
  pub code : At (support_at p h) lo (compare_all_but_last p.cases h (save_at h 0) masks bytes (verdict_at c h))
  pub long : lo + 4 * length (compare_all_but_last p.cases h (save_at h 0) masks bytes (verdict_at c h)) ≡ last
  pub store : At (support_at p h) last (sd 8 0 7 ∷ [])
  pub clear : Clear p h lo last
  pub off : last ≢ exit_of p h
  pub starts : (d : ℕ) → d < case_count p → last + 4 ≢ start_of p h d
  pub halts : last + 4 ≡ halt_of p h → suc c ≡ case_count p
  pub marks : arrivals p h last (last + 4) ≡ mark_behind p c
  pub takes : Comparing (world_of p h) p.cases h (save_at h 0) masks bytes
  pub fixed : is_fixed_dword p masks ≡ true
  pub each : (j : ℕ) → j < length (owned p.cases h)
      → is_fixed_dword p (bytes + (slice_index (owned p.cases h) j - windows_base)) ≡ true
  pub has : HasMasks p m h (image_dword p) masks bytes

-- So the hart judges the case, as its way asks for it.
abbrev pub CaseIsJudged : Program → Type 0
CaseIsJudged p = Formed p → MasksFit p.cases p.masks → (h : ℕ) → h < harts p
    → (c lo last masks bytes : ℕ) (m : CaseMask)
    → c < case_count p → slice_get p.masks.cases c ≡ Some m → CompareSite p m h c lo last masks bytes
    → (limit : ℕ → ℕ) (o : ℕ) (s : State)
    → o + compare_cost (passes p) (length (owned p.cases h)) ≤ limit (phase_at p (suc c) 0)
    → Ready p h lo (phase_at p (suc c) 0) c o (way_to p (suc c) 0) s → Passes p h c (passes p) s → Told p h limit s.log
    → Leads p h limit s (λ t. Ready p h (last + 4) (phase_at p (suc c) 0) (suc c)
    (o + compare_cost (passes p) (length (owned p.cases h))) (way_to p (suc c) 0 ++ mark_behind p c) t
    × Told p h limit t.log)
