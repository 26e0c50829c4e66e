use Rattle.std.proofs.Common.{◌≡◌, ℕ, length, map, flat_map}
use Rattle.tm_base.specs.Lists.{count_from}
use Rattle.tm_plan_map.specs.Map.{text_base}
use Rattle.tm_pass_text.specs.Words.{base_of, text_words}
use Rattle.tm_pass_text.specs.Hart.{blocks_of}
use Rattle.tm_pass_place.specs.Built.{start_in, end_in, exit_in, halt_in}
use Rattle.tm_pass.proofs.text.program_text.Given as goal

abbrev pub invariant-loop-h : goal.invariant-loop-h
invariant-loop-h l = record {
  text : l.made.text ≡ text_words (blocks_of l.cases) l.cases 0 l.h text_base;
  starts : l.made.marks.starts
      ≡ flat_map (λ (h : ℕ). map (start_in l.cases h) (count_from 0 (length l.cases.cases))) (count_from 0 l.h);
  ends : l.made.marks.ends
      ≡ flat_map (λ (h : ℕ). map (end_in l.cases h) (count_from 0 (length l.cases.cases))) (count_from 0 l.h);
  exits : l.made.marks.exits ≡ map (exit_in l.cases) (count_from 0 l.h);
  halts : l.made.marks.halts ≡ map (halt_in l.cases) (count_from 0 l.h);
  base : l.base ≡ base_of (blocks_of l.cases) l.cases l.h;
}
