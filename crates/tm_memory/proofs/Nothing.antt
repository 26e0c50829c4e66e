-- A script that changes nothing leaves plain runs.
use Rattle.std.proofs.Common.{◌≡◌, ℕ, List, [], ◌∷◌, Option, None, Some, inl, inr, zero, suc, refl, sym, ap, ap₂, ◌∙◌}
use Rattle.std.proofs.Common.{subst}
use Rattle.std.specs.Prelude.{slice_index, bit_xor}
use Rattle.std.specs.Int.Bits.{xor_zero_r}
use Rattle.std.proofs.lemmas.List.{set-get_or}
use Rattle.std.proofs.lemmas.Bool.{cases_eq}
use Rattle.tm_table.specs.declared.instr.Instr.{Instr}
use Rattle.tm_table.specs.declared.state.Access.{Access}
use Rattle.tm_table.specs.declared.state.Access.TheVariants.{Quiet, Read, Write}
use Rattle.tm_table.specs.State.{Hart}
use Rattle.tm_table.specs.Row.{put, row_word}
use Rattle.tm_plan_cases.specs.declared.program.Program.{Program}
use Rattle.tm_world.specs.Place.{word_at}
use Rattle.tm_world.specs.Run.{Step, Always, own, hart_of, access_of, now, first_state, read_value, Reads}
use Rattle.tm_world.specs.Kinds.{Path, Follows, IsPossible, Plain, plain_owed, stream_at}
use Rattle.tm_world.proofs.Prefix.{earlier, Plain-earlier}
use Rattle.tm_runs.proofs.Rows.{row-decoded}
use Rattle.tm_legal.proofs.Own.{own-here, own-there}
use Rattle.tm_world.specs.Faulted.{access_by, unloaded, state_by, nothing, FaultedStep, Faulted}
use Rattle.tm_memory.specs.Laws.{NothingIsPlain}

pub same-access : (a : Access) → access_by nothing a ≡ a
same-access Quiet = refl
same-access (Read addr width value) = refl
same-access (Write addr width value) = ap (λ (v : ℕ). Write addr width v) (xor_zero_r value)

pub same-read : (a : Access) → unloaded nothing a ≡ a
same-read Quiet = refl
same-read (Write addr width value) = refl
same-read (Read addr width value) = ap (λ (v : ℕ). Read addr width v) (xor_zero_r value)

pub put-same : (x : List ℕ) (rd : ℕ) → put x rd (bit_xor (slice_index x rd) 0) ≡ x
unfolding put
put-same x zero = refl
put-same x (suc r) = ap (λ (v : ℕ). put x (suc r) v) (xor_zero_r (slice_index x (suc r))) ∙ set-get_or x (suc r) 0

pub same-state : (i : Instr) (before clean : Hart) → state_by nothing i before clean ≡ clean
same-state i before clean = ap (λ (x : List ℕ). record { pc = clean.pc; x = x }) (put-same clean.x i.rd)

-- a step that nothing changes is the table's
unchanged : (p : Program) (h : ℕ) (c : Option ℕ) (before : Hart) (past : List Step) (s : Step)
    → FaultedStep p h nothing c before past s → Follows p h before s × Reads (plain_owed p past) (access_of s)
unchanged p h None before past s f = f
unchanged p h (Some c) before past s f =
    let k = f.follows in
    let access : access_of f.clean ≡ access_of s = sym (f.access ∙ same-access (access_of f.clean)) in
    let state : f.clean.after ≡ s.after = sym (f.state ∙ same-state f.instr before f.clean.after) in
    let place = f.place ∙ k.place in
    let word : word_at p before.pc ≡ Some s.event.word = k.word ∙ ap Some (sym f.word) in
    let row : row_word before s.event.word (read_value (access_of s)) ≡ Some (s.after, access_of s) =
    ap₂ (λ (w v : ℕ). row_word before w v) f.word (ap read_value (sym access)) ∙
    (k.row ∙ ap₂ (λ (x : Hart) (a : Access). Some (x, a)) state access) in (
      record {
        place = place;
        goes = k.goes;
        word = word;
        row = row;
        possible = subst IsPossible access k.possible;
        shape = f.shape;
      },
      subst (Reads (plain_owed p past)) (same-read (access_of f.clean) ∙ access) f.reads,
    )

-- and a step of the table is one that nothing changes
follows-changed : (p : Program) (h : ℕ) (c : Option ℕ) (before : Hart) (past : List Step) (s : Step)
    → Follows p h before s → Reads (plain_owed p past) (access_of s) → FaultedStep p h nothing c before past s
follows-changed p h None before past s f r = (f, r)
follows-changed p h (Some c) before past s f r =
    let (i, is, _) = row-decoded before s.event.word (read_value (access_of s)) s.after (access_of s) f.row in
    record {
      clean = s;
      instr = i;
      follows = f;
      is = is;
      reads = subst (Reads (plain_owed p past)) (sym (same-read (access_of s))) r;
      place = refl;
      word = refl;
      access = sym (same-access (access_of s));
      shape = f.shape;
      state = sym (same-state i before s.after);
    }

-- ---- whole runs

-- steps by the table that read what was written last
abbrev ByTable : Program → (ℕ → Hart) → List Step → Type 0
ByTable p first = Always (λ past s. Follows p (hart_of s) (now (first (hart_of s)) (own (hart_of s) past)) s
    × Reads (plain_owed p past) (access_of s))

table-paths : (p : Program) (first : ℕ → Hart) (h : ℕ) (steps : List Step) → ByTable p first steps
    → Path p h (first h) (own h steps)
table-paths p first h [] f = tt
table-paths p first h (s ∷ past) f = elim (cases_eq (hart_of s) h) [
  | inr n ↦ subst (Path p h (first h)) (sym (own-there h s past n)) (table-paths p first h past f.1)
  | inl e ↦ subst (Path p h (first h)) (sym (own-here h s past e))
      (subst (λ (g : ℕ). Follows p g (now (first g) (own g past)) s) e f.0.0, table-paths p first h past f.1)
]

table-reads : (p : Program) (first : ℕ → Hart) (steps : List Step) → ByTable p first steps
    → Always (λ past s. Reads (plain_owed p past) (access_of s)) steps
table-reads p first [] f = tt
table-reads p first (s ∷ past) f = (f.0.1, table-reads p first past f.1)

all-table : (p : Program) (o : ℕ → List ℕ) (steps : List Step) → Faulted p (λ _ _ _. nothing) (earlier o steps)
    → ByTable p (λ h. first_state (o h)) steps
all-table p o [] f = tt
all-table p o (s ∷ past) f = (
  unchanged p (hart_of s) (stream_at p (hart_of s) (now (first_state (o (hart_of s))) (own (hart_of s) past)).pc)
      (now (first_state (o (hart_of s))) (own (hart_of s) past)) past s f.steps.0,
  all-table p o past (record { opening = f.opening; only = f.only.1; steps = f.steps.1 }),
)

all-faulted : (p : Program) (o : ℕ → List ℕ) (steps : List Step) → Plain p (earlier o steps)
    → Faulted p (λ _ _ _. nothing) (earlier o steps)
all-faulted p o [] plain = record { opening = plain.paths.opening; only = tt; steps = tt }
all-faulted p o (s ∷ past) plain =
    let h = hart_of s in
    let path : Path p h (first_state (o h)) (s ∷ own h past) =
    subst (Path p h (first_state (o h))) (own-here h s past refl) (plain.paths.each h plain.paths.only.0) in
    let before = all-faulted p o past (Plain-earlier p o (s ∷ []) past plain) in
    record {
      opening = plain.paths.opening;
      only = plain.paths.only;
      steps = (
        follows-changed p h (stream_at p h (now (first_state (o h)) (own h past)).pc)
            (now (first_state (o h)) (own h past)) past s path.0 plain.reads.0,
        before.steps,
      );
    }

pub nothing-plain : (p : Program) → NothingIsPlain p
nothing-plain p = record {
  plain = λ r f.
      let t = all-table p r.opening r.steps f in
      record {
        paths = record {
          opening = f.opening;
          only = f.only;
          each = λ h l. table-paths p (λ g. first_state (r.opening g)) h r.steps t;
        };
        reads = table-reads p (λ g. first_state (r.opening g)) r.steps t;
      };
  faulted = λ r plain. all-faulted p r.opening r.steps plain;
}
