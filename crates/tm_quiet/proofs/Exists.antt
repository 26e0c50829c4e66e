-- Where a hart has left the run phase of a pass and the phase after it, each part that it saves has an end value in
-- the pass.
use Rattle.std.proofs.Common.{◌≡◌, ℕ, suc, ◌+◌, ◌*◌, ◌/◌, ◌<◌, List, [], ◌∷◌, Bool, true, false, ◌&&◌, not, nat_lt}
use Rattle.std.proofs.Common.{◌==◌, Option, None, Some, inl, inr, refl, sym, ap, ◌∙◌, arith, eqb-true, eq-eqb}
use Rattle.std.proofs.Common.{mul_comm}
use Rattle.std.specs.Prelude.{IsTrue, All, slice_index, option_map, if◌then◌else◌}
use Rattle.std.specs.List.{AllByRecursion as Each}
use Rattle.std.proofs.lemmas.Bool.{cases_lt, cases_Bool, and_from, false≢true, false_from_ne_true, lt-ltb}
use Rattle.std.proofs.lemmas.List.Elements.{All-from_recursion}
use Rattle.std.proofs.lemmas.Nat.{div-mul-add, mul-add-lt}
use Rattle.tm_table.specs.declared.state.Access.TheVariants.{Write}
use Rattle.tm_table.specs.State.{Hart}
use Rattle.tm_plan_cases.specs.declared.program.Program.{Program}
use Rattle.tm_plan_map.specs.Map.{verdict_at}
use Rattle.tm_plan_cases.specs.Collected.{is_declared, collector}
use Rattle.tm_base.specs.Lists.{any}
use Rattle.tm_world.specs.Lists.{or_else}
use Rattle.tm_world.specs.Place.{harts, case_count, passes, exit_of, inside}
use Rattle.tm_world.specs.Run.{Step, own, now, first_state, pc_of, access_of, phase, in_phase, earliest}
use Rattle.tm_world.specs.Kinds.{HalfPath, stream_at}
use Rattle.tm_world.specs.Course.{KeepsOrder, KeepsCollecting, KeepsVerdicts, HasCollected, WritesVerdict, writes_in}
use Rattle.tm_world.specs.Course.{reads_in}
use Rattle.tm_world.specs.Verdict.{Part, Register, Byte, end_value, left_with, saved, parts}
use Rattle.tm_world.specs.Writers.{run_phase}
use Rattle.tm_legal.specs.Tame.{Formed}
use Rattle.tm_legal.proofs.Phases.{phase-exit, phase-other}
use Rattle.tm_stays.proofs.Turns.{turned, order-before}
use Rattle.tm_world.specs.Verdict.{HasEnds}
use Rattle.tm_stays.proofs.Entries.{entered, entered-more, some-entry, at-exit, leaves-phase, started}
use Rattle.tm_quiet.specs.Laws.{IsCompared, EndsThere}
use Rattle.tm_quiet.proofs.Halves.{inside-off, in-stream, entered-most}
use Rattle.tm_runs.proofs.Paths.{stands}
use Rattle.tm_quiet.proofs.Collects.{reading, dword, unread}
use Rattle.tm_quiet.proofs.Saved.{saved-compared}
use Rattle.tm_stays.proofs.Dwords.{dword_of}

-- some value, where one of two is some
or-left-some : {A : Type 0} (u v : Option A) (x : A) → u ≡ Some x → (y : A) × (or_else u v ≡ Some y)
or-left-some {A = A} u v x e = (x, ap (λ (z : Option A). or_else z v) e)

or-right-some : {A : Type 0} (u v : Option A) (x : A) → v ≡ Some x → (y : A) × (or_else u v ≡ Some y)
or-right-some (Some w) v x e = (w, refl)
or-right-some None v x e = (x, e)

module _ (p : Program) (formed : Formed p) (h : ℕ) (number : h < harts p) (x : List ℕ) (c : ℕ) (few : c < case_count p)
    (i : ℕ) (of : i / passes p ≡ c) where
  abbrev at-pc : List Step → ℕ
  at-pc own = (now (first_state x) own).pc

  abbrev Left : List Step → Type 0
  Left own = (u : Hart) × (left_with p h c (2 * i + 1) (first_state x) own ≡ Some u)

  leaving-test : List Step → Step → Bool
  leaving-test past s = (phase (exit_of p h) past == 2 * i + 1)
      && (inside p h c (at-pc past) && not (inside p h c s.after.pc))

  still-left : (s : Step) (past : List Step) → Left past → Left (s ∷ past)
  still-left s past (u, e) = or-left-some (left_with p h c (2 * i + 1) (first_state x) past) _ u e

  leaves-now : (s : Step) (past : List Step) → phase (exit_of p h) past ≡ 2 * i + 1 → inside p h c (at-pc past) ≡ true
      → inside p h c s.after.pc ≡ false → Left (s ∷ past)
  leaves-now s past run in' out =
      let test : ((phase (exit_of p h) past == 2 * i + 1)
      && (inside p h c (at-pc past) && not (inside p h c s.after.pc))) ≡ true =
      and_from (phase (exit_of p h) past == 2 * i + 1) (inside p h c (at-pc past) && not (inside p h c s.after.pc))
      (eq-eqb (phase (exit_of p h) past) (2 * i + 1) run)
      (and_from (inside p h c (at-pc past)) (not (inside p h c s.after.pc)) in' (ap not out)) in
      or-right-some (left_with p h c (2 * i + 1) (first_state x) past) _ s.after
      (ap (λ (b : Bool). if b then Some s.after else None) test)

  -- outside the stream, once it was entered in the run phase
  left-behind : (own : List Step) → HalfPath p h (first_state x) own → KeepsOrder p h (first_state x) own
      → phase (exit_of p h) own ≡ 2 * i + 1 → entered p h (first_state x) own ≡ suc i → inside p h c (at-pc own) ≡ false
      → Left own
  left-behind [] path k run en out = absurd (omega arith)
  left-behind (s ∷ past) path k run en out =
      let from = at-pc past in
      let before = order-before p h (first_state x) s past k in
      let more = entered-more p h (first_state x) past s in
      let place = stands p h (stream_at p h from) (now (first_state x) past) past s path.0 in
      elim (cases_Bool (pc_of s == exit_of p h)) [
        | inl e ↦
            let leaving : from ≡ exit_of p h = sym place ∙ eqb-true (pc_of s) (exit_of p h) e in
            let ph = phase-exit (exit_of p h) s past e in
            let low = at-exit p formed h number x past before leaving in
            let sum = leaves-phase p formed h number x past path.1 leaving in
            elim (some-entry p h from s.after.pc) [
              | inr zero' ↦ absurd (omega arith)
              | inl q ↦
                  let go = started p formed h number from s.after.pc q.0 q.1 q.2 in
                  absurd (false≢true
                  (sym out ∙ (ap (λ (z : ℕ). inside p h z s.after.pc) (sym (here (s ∷ past) path k run q.0 q.1 go))
                  ∙ go)))
            ]
        | inr e ↦
            let run' : phase (exit_of p h) past ≡ 2 * i + 1 = sym (phase-other (exit_of p h) s past e) ∙ run in
            elim (cases_Bool (inside p h c from)) [
              | inl t ↦ leaves-now s past run' t out
              | inr f ↦ elim (some-entry p h from s.after.pc) [
                | inr zero' ↦ still-left s past (left-behind past path.1 before run' (omega arith) f)
                | inl q ↦
                    let go = started p formed h number from s.after.pc q.0 q.1 q.2 in
                    absurd (false≢true
                    (sym out ∙ (ap (λ (z : ℕ). inside p h z s.after.pc)
                    (sym (here (s ∷ past) path k run q.0 q.1 go)) ∙ go)))
              ]
            ]
      ]
    where
      -- in the run phase no other stream is entered
      here : (own : List Step) → HalfPath p h (first_state x) own → KeepsOrder p h (first_state x) own
          → phase (exit_of p h) own ≡ 2 * i + 1 → (d : ℕ) → d < case_count p → inside p h d (at-pc own) ≡ true → d ≡ c
      here own path k run d l go =
          let (j, ph, _, d-of) = in-stream p formed h number x own path k d l go in
          let same : i ≡ j = omega arith in
          sym d-of ∙ (ap (λ (n : ℕ). n / passes p) (sym same) ∙ of)

  -- in a later phase
  pub left-after : (own : List Step) → HalfPath p h (first_state x) own → KeepsOrder p h (first_state x) own
      → 2 * i + 1 < phase (exit_of p h) own → Left own
  left-after [] path k l = absurd (omega arith)
  left-after (s ∷ past) path k l =
      let before = order-before p h (first_state x) s past k in
      elim (cases_lt (2 * i + 1) (phase (exit_of p h) past)) [
        | inl more ↦ still-left s past (left-after past path.1 before more)
        | inr less ↦ elim (cases_Bool (pc_of s == exit_of p h)) [
          | inr e ↦ absurd (let ph = phase-other (exit_of p h) s past e in omega arith)
          | inl e ↦
              let leaving : at-pc past ≡ exit_of p h =
              sym (stands p h (stream_at p h (at-pc past)) (now (first_state x) past) past s path.0) ∙ eqb-true
              (pc_of s) (exit_of p h) e in
              let ph = phase-exit (exit_of p h) s past e in
              let run : phase (exit_of p h) past ≡ 2 * i + 1 = omega arith in
              let sum = leaves-phase p formed h number x past path.1 leaving in
              let t = (turned p formed h number x past before).upper in
              let most = entered-most p formed h number x past path.1 before i run in
              let en : entered p h (first_state x) past ≡ suc i = omega arith in
              let out : inside p h c (at-pc past) ≡ false =
              false_from_ne_true (inside p h c (at-pc past))
              (λ y. inside-off p formed h number x past path.1 before c few y leaving) in
              still-left s past (left-behind past path.1 before run en out)
        ]
      ]

  -- ---- bytes

  module _ (b : ℕ) (shared : IsTrue (is_declared p.cases b)) (mine : collector p.cases b
      ≡ h) (all : i < case_count p * passes p) (n : ℕ) (next : n ≡ 2 * i + 2) where
    abbrev Had : List Step → Type 0
    Had own = any (λ t. reads_in (dword_of b) 8 (access_of t)) (in_phase (exit_of p h) n own) ≡ true

    collected : (own : List Step) → HasCollected p h n own → Had own
    collected own has = dword p formed h (first_state x) c b shared mine i of all n next
        (λ a. IsTrue (any (λ t. reads_in a 8 (access_of t)) (in_phase (exit_of p h) n own))) has

    -- so the byte has been read
    byte-there : (own : List Step) → KeepsCollecting p h (first_state x) own → Had own → (u : ℕ)
        × (earliest (reading p h b n) own ≡ Some u)
    byte-there own k had = by (earliest (reading p h b n) own) refl
      where
        by : (z : Option ℕ) → earliest (reading p h b n) own ≡ z → (u : ℕ) × (earliest (reading p h b n) own ≡ Some u)
        by (Some u) e = (u, e)
        by None e = absurd (false≢true (sym (unread p formed h (first_state x) c b shared mine i of all n next own k e)
            ∙ had))

    -- where the hart has collected
    pub collected-byte : (own : List Step) → KeepsCollecting p h (first_state x) own → HasCollected p h n own → (u : ℕ)
        × (earliest (reading p h b n) own ≡ Some u)
    collected-byte own k has = byte-there own k (collected own has)

each-has : (P Q : Part → Type 0) → ((part : Part) → P part → Q part) → (ps : List Part) → Each P ps → Each Q ps
each-has P Q f [] a = tt
each-has P Q f (part ∷ ps) a = (f part a.0, each-has P Q f ps a.1)

module _ (p : Program) (formed : Formed p) (h : ℕ) (number : h < harts p) (x : List ℕ) where
  there : (s : Step) (past : List Step) → HalfPath p h (first_state x) past → KeepsOrder p h (first_state x) past
      → KeepsCollecting p h (first_state x) past → (c : ℕ) → c < case_count p → WritesVerdict p h c past s
      → (k i : ℕ) → k < passes p → i < saved p h → All (λ part. (u : ℕ)
      × (end_value p h c k (first_state x) past part ≡ Some u)) (parts p h i)
  there s past path order collecting c few verdict k i l li =
      All-from_recursion (λ part. (u : ℕ) × (end_value p h c k (first_state x) past part ≡ Some u)) (parts p h i)
      (each-has (IsCompared p h) (λ part. (u : ℕ) × (end_value p h c k (first_state x) past part ≡ Some u)) has
      (parts p h i) (saved-compared p h i formed.program.cases li))
    where
      j : ℕ
      j = c * passes p + k

      of : (c * passes p + k) / passes p ≡ c
      of = div-mul-add c (passes p) k l

      all : c * passes p + k < case_count p * passes p
      all = let z = mul-add-lt c (passes p) k (case_count p) few l in let y = mul_comm (passes p) (case_count p) in
          omega arith

      has : (part : Part) → IsCompared p h part → (u : ℕ) × (end_value p h c k (first_state x) past part ≡ Some u)
      has (Register r) compared =
          let left = left-after p formed h number x c few (c * passes p + k) of past path order
          (omega (arith, verdict.late)) in
          (slice_index left.0.x r, ap (option_map (λ (y : Hart). slice_index y.x r)) left.1)
      has (Byte b) compared =
          collected-byte p formed h number x c few (c * passes p + k) of b compared.0 compared.1 all
          (run_phase p c k + 1) (omega arith) past collecting (verdict.collected k l)

  -- its write of the number in the cell is that of a verdict
  verdict-here : (s : Step) (past : List Step) → KeepsVerdicts p h (first_state x) (s ∷ past) → (c v : ℕ)
      → c < case_count p → access_of s ≡ Write (verdict_at c h) 8 v → WritesVerdict p h c past s
  verdict-here s past verdicts c v few e =
      let at = verdict_at c h in
      let covers : IsTrue (writes_in (verdict_at c h) 8 (access_of s)) =
      ap (writes_in (verdict_at c h) 8) e ∙ and_from (nat_lt at (at + 8)) (nat_lt at (at + 8))
      (lt-ltb at (at + 8) (omega arith)) (lt-ltb at (at + 8) (omega arith)) in
      (verdicts.0 c h few number covers).1

  all-there : (own : List Step) → HalfPath p h (first_state x) own → KeepsOrder p h (first_state x) own
      → KeepsCollecting p h (first_state x) own → KeepsVerdicts p h (first_state x) own
      → HasEnds p h (first_state x) own
  all-there [] path order collecting verdicts = tt
  all-there (s ∷ past) path order collecting verdicts =
      let before = order-before p h (first_state x) s past order in (
        (λ c v few e. there s past path.1 before collecting.1 c few (verdict-here s past verdicts c v few e)),
        all-there past path.1 before collecting.1 verdicts.1,
      )

pub ends-there : (p : Program) → EndsThere p
ends-there p formed h number course r half = all-there p formed h number (r.opening h) (own h r.steps)
    (half.each h number) (course.order r half) (course.collecting r half) (course.verdicts r half)
