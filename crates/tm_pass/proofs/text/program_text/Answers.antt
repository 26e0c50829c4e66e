use Rattle.std.proofs.Common.{◌≡◌, ℕ, suc, ◌+◌, ◌<◌, List, [], ◌∷◌, ◌++◌, length, map, flat_map, sym, ap, ap₂, ◌∙◌}
use Rattle.std.proofs.Common.{arith}
use Rattle.tm_base.specs.Lists.{count_from}
use Rattle.tm_plan_cases.specs.declared.program.Marks.{Marks}
use Rattle.tm_plan_map.specs.Map.{text_base, tables_base}
use Rattle.tm_pass_text.specs.Hart.{words_of_hart}
use Rattle.tm_pass_place.specs.Built.{start_at, end_at, exit_at, halt_at, start_in, end_in, exit_in, halt_in, marks_in}
use Rattle.tm_pass.proofs.CaseLemmas.{count-on}
use Rattle.tm_pass.proofs.Gates.{words-many}
use Rattle.tm_pass_place.proofs.Heads.{base-aligned, base-low, base-on}
use Rattle.tm_pass.proofs.Harts.{rows-on, same-marks, text-on}
use Rattle.tm_pass.proofs.text.program_text.Goals as goal

pub loop-h-init : goal.loop-h-init
unfolding text_base
loop-h-init c =
    let none = c.no_text-made.ensures.marks in
    record {
      text = c.no_text-made.ensures.text;
      starts = ap (λ (m : Marks). m.starts) none;
      ends = ap (λ (m : Marks). m.ends) none;
      exits = ap (λ (m : Marks). m.exits) none;
      halts = ap (λ (m : Marks). m.halts) none;
      base = omega arith;
    }

pub hart_code-requires-clause-aligned : goal.hart_code-requires-clause-aligned
hart_code-requires-clause-aligned c =
    let at' = base-aligned c.args.cases.now c.requires c.loop-h.h in
    omega (arith, c.loop-h.invariant.base, at')

pub hart_code-requires-clause-room : goal.hart_code-requires-clause-room
unfolding text_base tables_base
hart_code-requires-clause-room c =
    let harts = c.requires.harts in
    let count = c.requires.count in
    let mine : c.loop-h.h < c.args.cases.now.harts = omega arith in
    let low = base-low c.args.cases.now c.requires c.loop-h.h (omega arith) in
    omega (arith, c.loop-h.invariant.base, low)

pub overflow_add-base : goal.overflow_add-base
unfolding text_base
overflow_add-base c =
    let harts = c.requires.harts in
    let count = c.requires.count in
    let mine : c.loop-h.h < c.args.cases.now.harts = omega arith in
    let low = base-low c.args.cases.now c.requires c.loop-h.h (omega arith) in
    let few = c.in_ok-code.ensures.few in
    let same = ap length c.as_slice.ensures in
    omega (arith, c.loop-h.invariant.base, low, few, same)

pub loop-h-preserved : goal.loop-h-preserved
loop-h-preserved c =
    let cases = c.args.cases.now in
    let h = c.loop-h.h in
    let code = c.in_ok-code.ensures in
    let made = c.in_ok-append_hart.ensures in
    let was = c.loop-h.invariant in
    let mine : h < cases.harts = omega arith in
    let on : h + 1 ≡ suc h = omega arith in
    let all = count_from 0 (length cases.cases) in
    let long = ap length c.as_slice.ensures ∙ (ap length code.words ∙ words-many cases c.requires h mine c.loop-h.base)
    in
    let next = base-on cases c.requires h (h + 1) on in
    record {
      text =
          made.text
          ∙ ap₂ (λ (l r : List ℕ). l ++ r) was.text (code.words ∙ ap (words_of_hart cases h) was.base)
          ∙ sym (text-on cases c.requires h (h + 1) on);
      starts =
          made.starts
          ∙ ap₂ (λ (l r : List ℕ). l ++ r) was.starts
          (code.starts ∙ ap (λ (b : ℕ). map (start_at cases h b) all) was.base)
          ∙ sym (rows-on (λ (g : ℕ). map (start_in cases g) all) h (h + 1) on);
      ends =
          made.ends
          ∙ ap₂ (λ (l r : List ℕ). l ++ r) was.ends (code.ends ∙ ap (λ (b : ℕ). map (end_at cases h b) all) was.base)
          ∙ sym (rows-on (λ (g : ℕ). map (end_in cases g) all) h (h + 1) on);
      exits =
          made.exits
          ∙ ap₂ (λ (l : List ℕ) (x : ℕ). l ++ x ∷ []) was.exits (code.exit ∙ ap (exit_at cases h) was.base)
          ∙ sym (count-on (exit_in cases) h (h + 1) on);
      halts =
          made.halts
          ∙ ap₂ (λ (l : List ℕ) (x : ℕ). l ++ x ∷ []) was.halts (code.halt ∙ ap (halt_at cases h) was.base)
          ∙ sym (count-on (halt_in cases) h (h + 1) on);
      base = omega (arith, long, next, was.base);
    }

pub returns-clause-marks : goal.returns-clause-marks
unfolding marks_in
returns-clause-marks c =
    let cases = c.args.cases.now in
    let was = c.loop-h.invariant in
    let end : c.loop-h.h ≡ cases.harts = omega arith in
    let all = count_from 0 (length cases.cases) in
    same-marks c.loop-h.made.marks _ _ _ _
    (was.starts ∙ ap (λ (n : ℕ). flat_map (λ (g : ℕ). map (start_in cases g) all) (count_from 0 n)) end)
    (was.ends ∙ ap (λ (n : ℕ). flat_map (λ (g : ℕ). map (end_in cases g) all) (count_from 0 n)) end)
    (was.exits ∙ ap (λ (n : ℕ). map (exit_in cases) (count_from 0 n)) end)
    (was.halts ∙ ap (λ (n : ℕ). map (halt_in cases) (count_from 0 n)) end)
