-- A script without lines changes nothing: its runs are the plain ones, and each step of a journal is the row's. And a
-- plain run of a journal with one step more.
use Rattle.std.proofs.Common.{◌≡◌, ℕ, ◌<◌, List, [], ◌∷◌, Option, None, Some, ◌⊎◌, inl, inr, refl, sym, ap, subst, ◌∙◌}
use Rattle.std.proofs.lemmas.Bool.{cases_eq}
use Rattle.tm_table.specs.declared.instr.Instr.{Instr}
use Rattle.tm_table.specs.State.{Hart}
use Rattle.tm_table.specs.Row.{row_word}
use Rattle.tm_plan_map.specs.Slots.{instr_of}
use Rattle.tm_plan_cases.specs.declared.program.Program.{Program}
use Rattle.tm_plan_cases.specs.declared.event.Event.{Event}
use Rattle.tm_plan_script.specs.declared.faults.FaultLine.{FaultLine}
use Rattle.tm_world.specs.Place.{harts}
use Rattle.tm_world.specs.Run.{Step, Run, own, hart_of, access_of, first_state, read_value, Reads}
use Rattle.tm_world.specs.Kinds.{Follows, Path, Paths, Plain, plain_owed, stream_at}
use Rattle.tm_world.specs.Faulted.{nothing}
use Rattle.tm_world.specs.Script.{FaultedRun, change_of}
use Rattle.tm_world.specs.Replay.{opening, state_after, outcome, left_in, stepped}
use Rattle.tm_legal.proofs.Own.{own-here, own-there}
use Rattle.tm_memory.proofs.Nothing.{same-state}
use Rattle.tm_memory.proofs.Keeping.{no-lines}

pub plain-where : (p : Program) (lines : List FaultLine) (r : Run) → FaultedRun p lines r → lines ≡ [] → Plain p r
plain-where p lines r faulted none =
    (no-lines p).plain r (subst (λ (ls : List FaultLine). FaultedRun p ls r) none faulted)

left-clean : (c : Option ℕ) (before clean : Hart) (i : Option Instr) → left_in c nothing before i clean ≡ clean
left-clean None before clean i = refl
left-clean (Some c) before clean None = refl
left-clean (Some c) before clean (Some i) = same-state i before clean

-- the step of an event by its row alone
abbrev pub by_row : Hart → Event → Step
by_row before e = record { event = e; after = outcome before (row_word before e.word (read_value e.access)) }

pub stepped-row : (p : Program) (past : List Step) (e : Event) (h : ℕ) → e.hart ≡ h
    → stepped p [] past e ≡ by_row (state_after past h) e
unfolding change_of
stepped-row p past e h is =
    let before = state_after past e.hart in
    let clean = outcome before (row_word before e.word (read_value e.access)) in
    ap (λ (x : Hart). record { event = e; after = x })
    (left-clean (stream_at p e.hart before.pc) before clean (instr_of e.word))
    ∙ ap (λ (g : ℕ). by_row (state_after past g) e) is

-- ---- plain runs of journals

abbrev pub opened : List Step → Run
opened steps = record { opening = opening; steps = steps }

-- a step more of hart h, whatever it reads
pub path-more : (p : Program) (h : ℕ) (s : Step) (past : List Step) → h < harts p → hart_of s ≡ h
    → Follows p h (state_after past h) s → Paths p (opened past) → Paths p (opened (s ∷ past))
path-more p h s past l e f paths = record {
  opening = paths.opening;
  only = (subst (λ (g : ℕ). g < harts p) (sym e) l, paths.only);
  each = λ g m. by g m (cases_eq g h);
}
  where
    by : (g : ℕ) → g < harts p → (g ≡ h) ⊎ (g ≡ h → ⊥) → Path p g (first_state (opening g)) (own g (s ∷ past))
    by g m (inl q) =
        subst (Path p g (first_state (opening g))) (sym (own-here g s past (e ∙ sym q)))
        (subst (λ (k : ℕ). Follows p k (state_after past k) s) (sym q) f, paths.each g m)
    by g m (inr n) =
        subst (Path p g (first_state (opening g))) (sym (own-there g s past (λ q. n (sym q ∙ e))))
        (paths.each g m)

pub plain-more : (p : Program) (h : ℕ) (s : Step) (past : List Step) → h < harts p → hart_of s ≡ h
    → Follows p h (state_after past h) s → Reads (plain_owed p past) (access_of s)
    → Plain p (opened past) → Plain p (opened (s ∷ past))
plain-more p h s past l e f reads plain = record {
  paths = path-more p h s past l e f plain.paths;
  reads = (reads, plain.reads);
}
