-- What a pass's end state tells was read: where each dword has what its first read returned, all of them were read in
-- that phase.
use Rattle.std.proofs.Common.{◌≡◌, ℕ, ◌+◌, Bool, true, false, ◌&&◌, ◌||◌, nat_lt, nat_le, ◌==◌, ◌-◌, List, [], ◌∷◌}
use Rattle.std.proofs.Common.{Option, None, Some, refl, sym, ap, ◌∙◌, subst, arith}
use Rattle.std.specs.Prelude.{slice_index, slice_index_or, IfSome, if◌then◌else◌}
use Rattle.std.proofs.lemmas.Bool.Decides.{nat_tests}
use Rattle.std.proofs.lemmas.Grind.{get_or_default_zero}
use Rattle.std.proofs.lemmas.Bool.{or_right}
use Rattle.tm_table.specs.declared.state.Access.{Access}
use Rattle.tm_table.specs.declared.state.Access.TheVariants.{Quiet, Read, Write}
use Rattle.tm_plan_cases.specs.declared.program.Program.{Program}
use Rattle.tm_plan_map.specs.Map.{within}
use Rattle.tm_plan_cases.specs.Collected.{owned}
use Rattle.tm_base.specs.Lists.{any}
use Rattle.tm_world.specs.Lists.{or_else}
use Rattle.tm_world.specs.Place.{exit_of, byte_of}
use Rattle.tm_world.specs.Run.{got}
use Rattle.tm_world.specs.Writers.{run_phase}
use Rattle.tm_world.specs.Course.{reads_in}
use Rattle.tm_runs.specs.Machine.{Entry, Table}
use Rattle.tm_pass_way.specs.Logs.{read_in}
use Rattle.tm_runs.specs.Phases.{phase_in, steps_in}
use Rattle.tm_pass_way.specs.Facts.{Gathered}
use Rattle.tm_pass_way.specs.Parts.{PassTold}

-- what was gathered is so behind one entry more
pub gathered-one : (p : Program) (h : ℕ) (o : Option ℕ) (e : Entry) (es : List Entry) → IfSome o (λ d. Gathered p h es)
    → IfSome o (λ d. Gathered p h (e ∷ es))
gathered-one p h None e es g = tt
gathered-one p h (Some d) e es g = λ k x l. or_right (reads_in (slice_index_or (owned p.cases h) k x) 8 e.access)
    (any (λ (t : Entry). reads_in (slice_index_or (owned p.cases h) k x) 8 t.access) es) (g k x l)

none-some : {v : ℕ} {A : Type 0} → ◌≡◌ {A = Option ℕ} None (Some v) → A
none-some e = absurd (cc)

covers-reads : (addr width a : ℕ) → (nat_le addr a && nat_lt a (addr + width)) ≡ true
    → (nat_lt addr (a + 8) && nat_lt a (addr + width)) ≡ true
covers-reads addr width a e = grind (arith, nat_tests)

-- what gets a byte reads one of the eight from it
got-reads : (x : Access) (a v : ℕ) → got x a ≡ Some v → reads_in a 8 x ≡ true
got-reads Quiet a v e = none-some e
got-reads (Write addr width value) a v e = none-some e
got-reads (Read addr width value) a v e = by (within addr width a) refl e
  where
    by : (b : Bool) → within addr width a ≡ b → (if b then Some (byte_of value (a - addr)) else None) ≡ Some v
        → reads_in a 8 (Read addr width value) ≡ true
    by true w f = covers-reads addr width a w
    by false w f = none-some f

pub read-any : (p : Program) (h q a v : ℕ) (log : List Entry) → read_in p h q a log ≡ Some v
    → any (λ (t : Entry). reads_in a 8 t.access) (steps_in (exit_of p h) q log) ≡ true
read-any p h q a v [] e = none-some e
read-any p h q a v (x ∷ past) e = by (read_in p h q a past) refl (phase_in (exit_of p h) past == q)
    (λ w f. read-any p h q a w past f) e
  where
    by : (o : Option ℕ) → read_in p h q a past ≡ o → (b : Bool)
        → ((w : ℕ) → read_in p h q a past ≡ Some w
        → any (λ (t : Entry). reads_in a 8 t.access) (steps_in (exit_of p h) q past) ≡ true)
        → or_else o (if b then got x.access a else None) ≡ Some v
        → any (λ (t : Entry). reads_in a 8 t.access) (if b then x ∷ steps_in (exit_of p h) q past
        else steps_in (exit_of p h) q past) ≡ true
    by (Some w) f true r g =
        or_right (reads_in a 8 x.access) (any (λ (t : Entry). reads_in a 8 t.access) (steps_in (exit_of p h) q past))
        (r w f)
    by (Some w) f false r g = r w f
    by None f true r g =
        ap (λ (b : Bool). b || any (λ (t : Entry). reads_in a 8 t.access) (steps_in (exit_of p h) q past))
        (got-reads x.access a v g)
    by None f false r g = none-some g

pub told-gathered : (p : Program) (h c k : ℕ) (past : List Entry) (mem : Table) → PassTold p h c k past mem
    → Gathered p h (steps_in (exit_of p h) (run_phase p c k + 1) past)
told-gathered p h c k past mem t j x l =
    let e : slice_index_or (owned p.cases h) j x ≡ slice_index (owned p.cases h) j =
    get_or_default_zero (owned p.cases h) j x l in
    subst (λ (a : ℕ). any (λ (t : Entry). reads_in a 8 t.access) (steps_in (exit_of p h) (run_phase p c k + 1) past)
    ≡ true) (sym e)
    (read-any p h (run_phase p c k + 1) (slice_index (owned p.cases h) j) _ past
    (ap (λ (a : ℕ). read_in p h (run_phase p c k + 1) a past) (plain (slice_index (owned p.cases h) j)) ∙ t.read j 0
    l (omega arith)))
  where
    plain : (a : ℕ) → a ≡ a + 0
    plain a = omega arith
