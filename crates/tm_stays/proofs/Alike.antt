-- In a stream without loads the state of a hart is a function of how many steps ago it came in, so all its stays end
-- alike.
use Rattle.std.proofs.Common.{◌≡◌, ℕ, zero, suc, ◌+◌, ◌<◌, List, [], ◌∷◌, Bool, true, false, ◌&&◌, not, nat_lt, ◌==◌}
use Rattle.std.proofs.Common.{Option, None, Some, inl, inr, refl, sym, ap, ap₂, ◌∙◌, subst, arith, eqb-true}
use Rattle.std.specs.Prelude.{slice_index, map, option_map, if◌then◌else◌}
use Rattle.std.proofs.lemmas.Bool.{cases_eq, cases_order, and_parts, false≢true, not-true}
use Rattle.std.proofs.lemmas.List.{ext_get_or}
use Rattle.std.proofs.lemmas.Option.{slice_get_within}
use Rattle.tm_table.specs.declared.instr.Instr.{Instr}
use Rattle.tm_table.specs.declared.instr.Op.{Op}
use Rattle.tm_table.specs.declared.state.Access.{Access}
use Rattle.tm_table.specs.State.{Hart}
use Rattle.tm_table.specs.Words.{low}
use Rattle.tm_table.proofs.Signs.{low-lt}
use Rattle.tm_table.specs.Row.{Effect, Gives, Loads, Stores, Branches, Jumps, effect, row, row_word, after}
use Rattle.tm_table.proofs.Signs.{low-lt}
use Rattle.tm_plan_cases.specs.declared.program.Program.{Program}
use Rattle.tm_plan_cases.specs.declared.cases.Stream.{Stream}
use Rattle.tm_base.specs.Lists.{count_from}
use Rattle.tm_base.proofs.ListLemmas.{index-counted}
use Rattle.tm_plan_map.specs.Slots.{load_width, is_access}
use Rattle.tm_world.specs.Lists.{or_else}
use Rattle.tm_world.specs.Place.{harts, case_count, exit_of, start_of, inside, word_at}
use Rattle.tm_world.specs.Run.{Step, own, now, first_state, access_of, read_value, phase}
use Rattle.tm_plan_cases.specs.Streams.{stream_in}
use Rattle.tm_world.specs.Kinds.{IsOpening}
use Rattle.tm_world.specs.Verdict.{Register, end_value, left_with}
use Rattle.tm_world.specs.Writers.{run_phase}
use Rattle.tm_world.proofs.Streams.{case-of, shaped-stream}
use Rattle.tm_runs.proofs.Rows.{decoded-row}
use Rattle.tm_legal.specs.Tame.{Formed}
use Rattle.tm_legal.proofs.Rows.{IsOfKind, of-kind, IsMachine}
use Rattle.tm_legal.proofs.Streams.{slot-at}
use Rattle.tm_legal.proofs.Order.{entered}
use Rattle.tm_legal.proofs.Half.{Known, known-before, path-machine, legal-known}
use Rattle.tm_stays.specs.Laws.{HasNoLoad, PassesAlike}

-- ---- a step that reads nothing

after-same : (op : Op) (pc a n : ℕ) (e : Effect) (hart : Hart) (rd read other : ℕ) → load_width op ≡ 0
    → IsOfKind op pc a n e → after e hart rd n read ≡ after e hart rd n other
unfolding after
after-same op pc a n (Gives value) hart rd read other none k = refl
after-same op pc a n (Loads addr width with_sign) hart rd read other none k =
    let s : is_access op ≡ false = ap₂ (λ (l m : ℕ). nat_lt 0 (l + m)) none k.2 in
    absurd (false≢true (sym s ∙ k.3))
after-same op pc a n (Stores addr width value) hart rd read other none k = refl
after-same op pc a n (Branches taken) hart rd read other none k = refl
after-same op pc a n (Jumps link goes) hart rd read other none k = refl

row-same : (hart : Hart) (i : Instr) (read other : ℕ) → IsMachine hart → load_width i.op ≡ 0
    → row hart i read ≡ row hart i other
unfolding row
row-same hart i read other m none =
    let a = slice_index hart.x i.rs1 in
    let b = slice_index hart.x i.rs2 in
    let n = low 64 i.imm in
    after-same i.op hart.pc a n (effect i.op hart.pc a b n) hart i.rd read other none
    (of-kind i.op hart.pc a b n (m.fits i.rs1) (m.fits i.rs2) (low-lt 64 i.imm))

-- the state after the row of the word at the program counter, which reads 0, if it reads
abbrev result : Hart → Option (Hart × Access) → Hart
result hart None = hart
result hart (Some r) = r.0

abbrev result_at : Hart → Option ℕ → Hart
result_at hart None = hart
result_at hart (Some w) = result hart (row_word hart w 0)

abbrev onward : Program → Hart → Hart
onward p hart = result_at hart (word_at p hart.pc)

-- the state n steps on
abbrev far : Program → Hart → ℕ → Hart
far p hart zero = hart
far p hart (suc n) = onward p (far p hart n)

-- ---- the state in which a hart comes in

-- the registers that a stream begins with
abbrev fresh_list : Stream → List ℕ
fresh_list stream = map (λ r. slice_index stream.regs r) (count_from 0 32)

-- a hart that has just come in
abbrev pub entry : Program → ℕ → ℕ → Stream → Hart
entry p h c stream = record { pc = start_of p h c; x = fresh_list stream }

-- Whoever comes in from outside is in that state.
pub comes-in : (p : Program) → Formed p → (h c : ℕ) (stream : Stream) → stream_in p.cases c h ≡ Some stream
    → (x : List ℕ) → IsOpening h x → (s : Step) (past : List Step) → Known p h (first_state x) (s ∷ past)
    → inside p h c (now (first_state x) past).pc ≡ false → inside p h c s.after.pc ≡ true → s.after ≡ entry p h c stream
comes-in p formed h c stream is x o s past k out in' =
    let q = case-of p.cases c h stream is in
    let few : c < case_count p = slice_get_within p.cases.cases c q.0 q.1 in
    let came = entered p h (first_state x) s past c k.strays few out in' in
    let at : s.after.pc ≡ start_of p h c =
    eqb-true s.after.pc (start_of p h c) (and_parts (s.after.pc == start_of p h c)
    (not (inside p h c (now (first_state x) past).pc)) came).0 in
    let fresh = k.fresh.0 c stream is came in
    let m = path-machine p h x o (s ∷ past) k.path in
    let shaped = shaped-stream p.cases c h stream formed.program.cases is in
    let each : (r : ℕ) → r < 32 → slice_index s.after.x r ≡ slice_index stream.regs r = λ r l. elim (cases_eq r 0) [
      | inl e ↦ ap (λ (q : ℕ). slice_index s.after.x q) e ∙
          (m.zero ∙ (sym shaped.zero ∙ ap (λ (q : ℕ). slice_index stream.regs q) (sym e)))
      | inr n ↦ fresh r (omega arith) l
    ] in
    let regs : s.after.x ≡ fresh_list stream = ext_get_or 0 s.after.x (fresh_list stream) m.count (λ r l. let b : r
    < 32 = omega (arith, m.count) in
    each r b ∙ (ap (λ (q : ℕ). slice_index stream.regs q) (let z : r ≡ 0 + r = omega arith in
    z) ∙ sym (index-counted (λ q. slice_index stream.regs q) 32 0 r b))) in
    λ i. record { pc = at i; x = regs i }

-- ---- stays

module _ (p : Program) (formed : Formed p) (h : ℕ) (number : h < harts p) (c : ℕ) (stream : Stream)
    (is : stream_in p.cases c h ≡ Some stream) (calm : HasNoLoad stream) (x : List ℕ) (o : IsOpening h x) where
  -- the hart came in n steps ago, and was inside since
  pub record Came (n : ℕ) (hart : Hart) : Type 0 where
    pub state : hart ≡ far p (entry p h c stream) n
    pub within : (j : ℕ) → j < n → inside p h c (far p (entry p h c stream) j).pc ≡ true

  few : c < case_count p
  few = let q = case-of p.cases c h stream is in slice_get_within p.cases.cases c q.0 q.1

  goes-on : (s : Step) (past : List Step) → Known p h (first_state x) (s ∷ past)
      → inside p h c (now (first_state x) past).pc ≡ true → s.after ≡ onward p (now (first_state x) past)
  goes-on s past k i =
      let hart = now (first_state x) past in
      let f = k.path.0 in
      let m = path-machine p h x o past k.path.1 in
      let slot = slot-at p formed h c stream number is hart.pc s.event.word i f.word in
      let none = calm slot.number s.event.word slot.instr slot.word slot.is in
      let same = row-same hart slot.instr (read_value (access_of s)) 0 m none in
      let rows : row_word hart s.event.word 0 ≡ Some (s.after, access_of s) =
      decoded-row hart s.event.word 0 slot.instr slot.is ∙
      (ap Some (sym same) ∙ (sym (decoded-row hart s.event.word (read_value (access_of s)) slot.instr slot.is) ∙
      f.row)) in
      sym (ap (result_at hart) f.word ∙ ap (result hart) rows)

  -- a step from inside
  step-came : (s : Step) (past : List Step) → Known p h (first_state x) (s ∷ past)
      → inside p h c (now (first_state x) past).pc ≡ true → (n : ℕ) × Came n (now (first_state x) past) → (n : ℕ)
      × Came n s.after
  step-came s past k i before =
      let n = before.0 in
      let b = before.1 in (
        suc n,
        record {
          state = goes-on s past k i ∙ ap (onward p) b.state;
          within = λ j l. elim (cases_eq j n) [
            | inl e ↦ ap (λ (q : ℕ). inside p h c (far p (entry p h c stream) q).pc) e ∙
                (ap (λ (y : Hart). inside p h c y.pc) (sym b.state) ∙ i)
            | inr d ↦ b.within j (omega arith)
          ];
        },
      )

  -- Inside the stream the hart came in some steps ago.
  inside-came : (own : List Step) → Known p h (first_state x) own → inside p h c (now (first_state x) own).pc ≡ true
      → (n : ℕ) × Came n (now (first_state x) own)
  inside-came [] k i = absurd (false≢true (sym (formed.laid.outside h c number few) ∙ i))
  inside-came (s ∷ past) k i = by (inside p h c (now (first_state x) past).pc) refl
      (inside-came past (known-before p h (first_state x) s past k))
    where
      by : (b : Bool) → inside p h c (now (first_state x) past).pc ≡ b
          → (inside p h c (now (first_state x) past).pc ≡ true → (n : ℕ) × Came n (now (first_state x) past)) → (n : ℕ)
          × Came n s.after
      by true t before = step-came s past k t (before t)
      by false t before =
          (0, record { state = comes-in p formed h c stream is x o s past k t i; within = λ j l. absurd (omega arith) })

  -- ---- leaving

  -- a state in which the hart left the stream
  pub record Left (hart : Hart) : Type 0 where
    pub steps : ℕ
    pub came : Came steps hart
    pub out : inside p h c hart.pc ≡ false

  not-later : (a b : Hart) (l : Left a) (m : Left b) → l.steps < m.steps → ⊥
  not-later a b l m less =
      false≢true (sym l.out ∙ (ap (λ (y : Hart). inside p h c y.pc) l.came.state ∙ m.came.within l.steps less))

  pub same-left : (a b : Hart) → Left a → Left b → a ≡ b
  same-left a b l m = elim (cases_order l.steps m.steps) [
    | inl e ↦ l.came.state ∙ (ap (far p (entry p h c stream)) e ∙ sym m.came.state)
    | inr (inl less) ↦ absurd (not-later a b l m less)
    | inr (inr more) ↦ absurd (not-later b a m l more)
  ]

  leaves : (q : ℕ) (own : List Step) → Known p h (first_state x) own → (u : Hart)
      → left_with p h c q (first_state x) own ≡ Some u → Left u
  leaves q [] k u e = cc
  leaves q (s ∷ past) k u e =
      by (left_with p h c q (first_state x) past) refl e (leaves q past (known-before p h (first_state x) s past k) u)
    where
      hart : Hart
      hart = now (first_state x) past

      test : Bool
      test = (phase (exit_of p h) past == q) && (inside p h c hart.pc && not (inside p h c s.after.pc))

      here : (b : Bool) → test ≡ b → (if b then Some s.after else None) ≡ Some u → Left u
      here false t f = cc
      here true t f =
          let same : s.after ≡ u = cc in
          let parts = and_parts (inside p h c hart.pc) (not (inside p h c s.after.pc))
          (and_parts (phase (exit_of p h) past == q) _ t).1 in
          let before = inside-came past (known-before p h (first_state x) s past k) parts.0 in
          let after' = step-came s past k parts.0 before in
          subst Left same (record {
            steps = after'.0;
            came = after'.1;
            out = not-true (inside p h c s.after.pc) parts.1;
          })

      by : (w : Option Hart) → left_with p h c q (first_state x) past ≡ w
          → or_else w (if test then Some s.after else None) ≡ Some u
          → (left_with p h c q (first_state x) past ≡ Some u → Left u) → Left u
      by (Some v) f g later = later (f ∙ g)
      by None f g later = here test refl g

  -- the registers at the end of two passes
  pub same-end : (own : List Step) → Known p h (first_state x) own → (k k' r v v' : ℕ)
      → end_value p h c k (first_state x) own (Register r) ≡ Some v
      → end_value p h c k' (first_state x) own (Register r) ≡ Some v' → v ≡ v'
  same-end own known k k' r v v' e f = by (left_with p h c (run_phase p c k) (first_state x) own)
      (left_with p h c (run_phase p c k') (first_state x) own) refl refl e f
    where
      by : (a b : Option Hart) → left_with p h c (run_phase p c k) (first_state x) own ≡ a
          → left_with p h c (run_phase p c k') (first_state x) own ≡ b → option_map (λ (s : Hart). slice_index s.x r) a
          ≡ Some v → option_map (λ (s : Hart). slice_index s.x r) b ≡ Some v' → v ≡ v'
      by None b p' q' e' f' = cc
      by (Some a) None p' q' e' f' = cc
      by (Some a) (Some b) p' q' e' f' =
          let same = same-left a b (leaves (run_phase p c k) own known a p') (leaves (run_phase p c k') own known b q')
          in
          let first' : slice_index a.x r ≡ v = cc in
          let second : slice_index b.x r ≡ v' = cc in
          sym first' ∙ (ap (λ (s : Hart). slice_index s.x r) same ∙ second)

pub passes-alike : (p : Program) → PassesAlike p
passes-alike p formed h number tame c stream is calm r legal =
    same-end p formed h number c stream is calm (r.opening h) (legal.paths.opening h number) (own h r.steps)
    (legal-known p formed h number tame r.opening legal.paths.opening r.steps legal)
