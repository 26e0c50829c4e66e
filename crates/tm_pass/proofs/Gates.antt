-- What the gate of a hart's text does.
use Rattle.std.proofs.Common.{◌≡◌, inl, inr, ℕ, zero, suc, ◌+◌, ◌-◌, ◌*◌, ◌^◌, ◌<◌, List, [], ◌∷◌, ◌++◌, length, map}
use Rattle.std.proofs.Common.{refl, sym, ap, ap₂, ◌∙◌, arith, append_assoc}
use Rattle.std.specs.Prelude.{slice_get, Some}
use Rattle.tm_table.specs.Words.{word_of, words_of}
use Rattle.tm_base.specs.Lists.{count_from}
use Rattle.tm_plan_cases.specs.declared.cases.Cases.{Cases}
use Rattle.tm_plan_cases.specs.Shaped.{AreShaped}
use Rattle.tm_plan_map.specs.Map.{private_at}
use Rattle.tm_plan_map.proofs.Words.{instr-word}
use Rattle.tm_runs.specs.Machine.{put}
use Rattle.tm_runs.specs.Runs.{Now}
use Rattle.tm_runs.proofs.Steps.{step_addi, step_beq_on, step_jal}
use Rattle.tm_runs.proofs.Tables.{get_put_other, get_put_zero}
use Rattle.tm_blocks_base.specs.Instrs.{addi, beq, jump}
use Rattle.tm_blocks_base.specs.Blocks.{constant}
use Rattle.tm_blocks_base.proofs.Fitting.{addi_fits, beq_fits, jump_fits}
use Rattle.tm_barrier.specs.Words.{barrier}
use Rattle.tm_pass_text.specs.Words.{cases_words, gate, hart_size, hart_words, opening_size, skip, streams_of}
use Rattle.tm_pass_text.proofs.Stands.{length-hart}
use Rattle.tm_pass_text.specs.Hart.{blocks_of, words_of_hart}
use Rattle.tm_pass_place.specs.Built.{start_at, end_at, halt_at, exit_at}
use Rattle.tm_pass_place.proofs.Heads.{ends-low}
use Rattle.tm_pass_place.proofs.Sizes.{count, short-hart}
use Rattle.tm_pass.specs.declared.hart.HartCode.{HartCode}
use Rattle.tm_pass.specs.Gate.{IsUnmarked, ShutsOut}

-- a number of a list by number
of-count : (f : ℕ → ℕ) (a n c x : ℕ) → slice_get (map f (count_from a n)) c ≡ Some x → (c < n) × (x ≡ f (a + c))
of-count f a zero c x e = absurd (let r : ⊥ = cc in r)
of-count f a (suc n) zero x e = let g : a ≡ a + 0 = omega arith in let s : f a ≡ x = cc in (omega arith, sym s ∙ ap f g)
of-count f a (suc n) (suc c) x e =
    let r = of-count f (suc a) n c x e in
    let g : suc a + c ≡ a + suc c = omega arith in
    (omega (arith, r.0), r.1 ∙ ap f g)

module _ (cases : Cases) (shaped : AreShaped cases) (h : ℕ) (number : h < cases.harts) (base : ℕ) where
  abbrev C : ℕ
  C = length cases.cases

  abbrev size : ℕ
  size = hart_size (blocks_of cases h) (streams_of cases h)

  pub words-many : length (words_of_hart cases h base) ≡ size
  unfolding words_of_hart
  words-many = length-hart (blocks_of cases h) cases.passes (streams_of cases h) h base

  -- behind the last word
  pub behind-all : base + 4 * size ≡ exit_at cases h base + 4
  behind-all = let e = ap (skip (blocks_of cases h) 0 (streams_of cases h)) (count cases shaped h) in omega (arith, e)

  -- the words, put together where the halt mark and the barrier's size are known
  pub whole-words : (halt size' : ℕ) → halt ≡ halt_at cases h base → size' ≡ length (barrier h cases.harts)
      → (o w1 w2 w3 : List ℕ)
      → o ≡ [] → w1 ≡ o ++ words_of (gate h (halt + 4 * size' - base - 4) ++ constant 31 (private_at h))
      → w2 ≡ w1 ++ cases_words (blocks_of cases h) cases.passes 0 (streams_of cases h) (base + 56) (halt + 4)
      → w3 ≡ w2 ++ 0x0000006F ∷ words_of (barrier h cases.harts) → w3 ≡ words_of_hart cases h base
  unfolding words_of_hart hart_words
  whole-words halt size' eh es o w1 w2 w3 e0 e1 e2 e3 =
      let skipped = ap (skip (blocks_of cases h) 0 (streams_of cases h)) (count cases shaped h) in
      let far : halt + 4 * size' - base - 4 ≡ 4 * (size - 2) = omega (arith, eh, es, skipped) in
      let at' : halt + 4
      ≡ base + 4 * (opening_size + skip (blocks_of cases h) 0 (streams_of cases h) (length (streams_of cases h))
      + 1) = omega (arith, eh, skipped) in
      let opens = λ (n : ℕ). words_of (gate h n ++ constant 31 (private_at h)) in
      let all = λ (b : ℕ). cases_words (blocks_of cases h) cases.passes 0 (streams_of cases h) (base + 56) b in
      let ending = 0x0000006F ∷ words_of (barrier h cases.harts) in
      e3
      ∙ ap (λ (w : List ℕ). w ++ ending) (e2 ∙ ap (λ (w : List ℕ). w ++ all (halt + 4))
      (e1 ∙ ap (λ (w : List ℕ). w ++ opens (halt + 4 * size' - base - 4)) e0))
      ∙ append_assoc (opens (halt + 4 * size' - base - 4)) (all (halt + 4)) ending
      ∙ ap₂ (λ (x y : ℕ). opens x ++ (all y ++ ending)) far at'

  first-word : slice_get (words_of_hart cases h base) 0 ≡ Some (word_of (addi 1 0 h))
  unfolding words_of_hart hart_words
  first-word = refl

  second-word : slice_get (words_of_hart cases h base) 1 ≡ Some (word_of (beq 1 10 8))
  unfolding words_of_hart hart_words
  second-word = refl

  third-word : slice_get (words_of_hart cases h base) 2 ≡ Some (word_of (jump (4 * (size - 2))))
  unfolding words_of_hart hart_words
  third-word = refl

  module _ (code : HartCode) (words : code.words ≡ words_of_hart cases h base) (starts : code.starts
      ≡ map (start_at cases h base) (count_from 0 C))
      (ends : code.ends ≡ map (end_at cases h base) (count_from 0 C)) (exit : code.exit ≡ exit_at cases h base)
      (halt : code.halt ≡ halt_at cases h base) where
    start-is : (c x : ℕ) → slice_get code.starts c ≡ Some x → (c < C) × (x ≡ start_at cases h base c)
    start-is c x e =
        let r = of-count (start_at cases h base) 0 C c x (ap (λ (l : List ℕ). slice_get l c) (sym starts) ∙ e) in
        let z : 0 + c ≡ c = omega arith in
        (r.0, r.1 ∙ ap (start_at cases h base) z)

    end-is : (c x : ℕ) → slice_get code.ends c ≡ Some x → (c < C) × (x ≡ end_at cases h base c)
    end-is c x e =
        let r = of-count (end_at cases h base) 0 C c x (ap (λ (l : List ℕ). slice_get l c) (sym ends) ∙ e) in
        let z : 0 + c ≡ c = omega arith in
        (r.0, r.1 ∙ ap (end_at cases h base) z)

    -- before the first case no mark is
    before : (a : ℕ) → a < base + 56 → IsUnmarked code a
    before a l = record {
      streams = λ c start end b e. let s = start-is c start b in inl (omega (arith, s.1));
      exit = λ z. omega (arith, z, exit);
      halt = λ z. omega (arith, z, halt);
    }

    -- and none is behind the last word
    behind : (a : ℕ) → a ≡ base + 4 * size → IsUnmarked code a
    behind a e = record {
      streams = λ c start end b f. let s = end-is c end f in
          inr (omega (arith, s.1, ends-low cases shaped h number base c s.0, behind-all));
      exit = λ z. omega (arith, z, exit, behind-all);
      halt = λ z. omega (arith, z, halt, behind-all);
    }

    all-words : length code.words ≡ size
    all-words = ap length words ∙ words-many

    pub shuts-out : ShutsOut code h base
    shuts-out w s pc has other =
        let n = 4 * (size - 2) in
        let most = short-hart cases shaped h number in
        let harts = shaped.harts in
        let word : (k : ℕ) (v : ℕ) → slice_get (words_of_hart cases h base) k ≡ Some v → slice_get code.words k
        ≡ Some v = λ k v e. ap (λ (l : List ℕ). slice_get l k) words ∙ e in
        let a1 : s.pc ≡ base + 4 * 0 = omega (arith, pc) in
        let a2 : s.pc + 4 ≡ base + 4 * 1 = omega (arith, pc) in
        let a3 : s.pc + 4 + 4 ≡ base + 4 * 2 = omega (arith, pc) in
        let t1 = ap w.text a1 ∙ (has 0 (word_of (addi 1 0 h)) (omega arith) (word 0 _ first-word) ∙ instr-word
        (addi 1 0 h) (addi_fits 1 0 h (omega arith) (omega arith) (omega arith))) in
        let t2 = ap w.text a2 ∙ (has 1 (word_of (beq 1 10 8)) (omega arith) (word 1 _ second-word) ∙ instr-word
        (beq 1 10 8) (beq_fits 1 10 8 (omega arith) (omega arith) (omega arith) (omega arith))) in
        let t3 = ap w.text a3 ∙ (has 2 (word_of (jump n)) (omega arith) (word 2 _ third-word) ∙ instr-word (jump n)
        (jump_fits n (omega arith) (omega arith))) in
        let small : h < 2 ^ 11 = omega arith in
        step_addi h refl t1 (omega arith) (record {
          within = record {
            from = omega (arith, pc);
            below = omega (arith, pc, all-words);
            least = omega (arith, pc);
            most = omega (arith, pc, all-words);
            access = refl;
          };
          plain = before (s.pc + 4) (omega (arith, pc));
        })
        (step_beq_on refl t2 (λ e. other (sym e)) (record {
          within = record {
            from = omega (arith, pc);
            below = omega (arith, pc, all-words);
            least = omega (arith, pc);
            most = omega (arith, pc, all-words);
            access = refl;
          };
          plain = before (s.pc + 4 + 4) (omega (arith, pc));
        })
        (step_jal {i = jump n} (s.pc + 8 + n) refl t3 (omega arith) (record {
          within = record {
            from = omega (arith, pc);
            below = omega (arith, pc, all-words);
            least = omega (arith, pc);
            most = omega (arith, pc, all-words);
            access = refl;
          };
          plain = behind (s.pc + 8 + n) (omega (arith, pc));
        })
        (Now (record {
          pc = omega (arith, pc, all-words);
          regs = λ r m. get_put_zero (put s.regs 1 h) (s.pc + 4 + 4 + 4) r ∙ get_put_other s.regs 1 h r m;
          mem = refl;
        }))))
