-- Each stay in a stream goes forward, so a hart takes inside its streams no more steps than the streams that it
-- enters have words.
use Rattle.std.proofs.Common.{◌≡◌, ℕ, zero, suc, ◌+◌, ◌-◌, ◌*◌, ◌<◌, ◌≤◌, List, [], ◌∷◌, length, Bool, true, false}
use Rattle.std.proofs.Common.{Option, None, Some, ◌⊎◌, inl, inr, refl, sym, ap, ◌∙◌, arith, ◌==◌, eq-eqb, ne_eqb}
use Rattle.std.proofs.Common.{eqb-true}
use Rattle.std.specs.Prelude.{if◌then◌else◌, slice_get}
use Rattle.std.proofs.lemmas.Bool.{false≢true, cases_eq, and_parts}
use Rattle.std.proofs.lemmas.Option.{slice_get_within}
use Rattle.tm_table.specs.State.{Hart}
use Rattle.tm_plan_cases.specs.declared.program.Program.{Program}
use Rattle.tm_plan_cases.specs.declared.cases.Case.{Case}
use Rattle.tm_plan_cases.specs.declared.cases.Stream.{Stream}
use Rattle.tm_plan_cases.specs.Collected.{sum_of, slots_of}
use Rattle.tm_base.specs.Lists.{count_from}
use Rattle.tm_world.specs.Place.{harts, case_count, passes, start_of, end_of, inside}
use Rattle.tm_world.specs.Run.{Step, Always, own, now, first_state}
use Rattle.tm_plan_cases.specs.Streams.{stream_in}
use Rattle.tm_world.specs.Kinds.{IsOpening, stream_at}
use Rattle.tm_world.specs.Marks.{Mark, Exit, Enter, End, Halt, Stray, comes_to, arrivals, visited, pass_way, whole_way}
use Rattle.tm_world.specs.Course.{KeepsOrder}
use Rattle.tm_world.specs.Work.{work_steps, idle_lately}
use Rattle.tm_world.proofs.Streams.{stream-case, case-of, stream-of}
use Rattle.tm_legal.specs.Tame.{Formed}
use Rattle.tm_stays.specs.Stays.{one_outside, one_inside, outside_steps, inside_steps, stay_steps, outside_work}
use Rattle.tm_stays.specs.Stays.{words_in}
use Rattle.tm_stays.specs.Laws.{EachStayShort, StaysShort, WorksLittle, EndsSoon}
use Rattle.tm_legal.proofs.Weights.{weight, weight-append, weight-front, weight-way, weight-arrivals}
use Rattle.tm_legal.proofs.Streams.{inside-parts, Onward}
use Rattle.tm_legal.proofs.Order.{NoStray, no_stray-before, order-no_stray, sum-part, stream-none, stream-some, entered}
use Rattle.tm_legal.proofs.Half.{Known, known-before, known-moves, legal-known, on-legal}

-- ---- the words of all streams

-- how many words stream (h, c) has
abbrev size : Program → ℕ → ℕ → ℕ
size p h c = slots_of (stream_in p.cases c h)

sum-shift : (g : ℕ → ℕ) (a n : ℕ) → sum_of g (count_from (suc a) n) ≡ sum_of (λ c. g (suc c)) (count_from a n)
sum-shift g a zero = refl
sum-shift g a (suc n) = let e = sum-shift g (suc a) n in omega arith

sum-same : (f g : ℕ → ℕ) (cs : List ℕ) → ((c : ℕ) → f c ≡ g c) → sum_of f cs ≡ sum_of g cs
sum-same f g [] h = refl
sum-same f g (c ∷ cs) h = let a = h c in let b = sum-same f g cs h in omega arith

abbrev slots-at : ℕ → Option Case → ℕ
slots-at h None = 0
slots-at h (Some case) = slots_of (slice_get case.streams h)

words-sum : (h : ℕ) (cases : List Case) → sum_of (λ c. slots-at h (slice_get cases c)) (count_from 0 (length cases))
    ≡ words_in h cases
words-sum h [] = refl
words-sum h (case ∷ more) =
    let s = sum-shift (λ c. slots-at h (slice_get (case ∷ more) c)) 0 (length more) in
    let r = words-sum h more in
    omega arith

size-slots : (p : Program) (h c : ℕ) → size p h c ≡ slots-at h (slice_get p.cases.cases c)
size-slots p h c = by (slice_get p.cases.cases c) refl
  where
    by : (o : Option Case) → slice_get p.cases.cases c ≡ o → size p h c ≡ slots-at h o
    by None e = rw e
    by (Some case) e = ap slots_of (stream-case p.cases c h case e)

-- ---- what is left of a stay

-- the bytes from here to the stream's end
abbrev left : Program → ℕ → ℕ → ℕ → ℕ
left p h c pc = if inside p h c pc then end_of p h c - pc else 0

abbrev lefts : Program → ℕ → ℕ → ℕ
lefts p h pc = sum_of (λ c. left p h c pc) (count_from 0 (case_count p))

left-inside : (p : Program) (h c pc : ℕ) → inside p h c pc ≡ true → left p h c pc ≡ end_of p h c - pc
left-inside p h c pc e = ap (λ (b : Bool). if b then end_of p h c - pc else 0) e

left-outside : (p : Program) (h c pc : ℕ) → inside p h c pc ≡ false → left p h c pc ≡ 0
left-outside p h c pc e = ap (λ (b : Bool). if b then end_of p h c - pc else 0) e

sum-steps : (f d r g : ℕ → ℕ) (n a : ℕ) → ((c : ℕ) → a ≤ c → c < a + n → f c + d c ≤ r c + 4 * g c)
    → sum_of f (count_from a n) + sum_of d (count_from a n) ≤ sum_of r (count_from a n) + 4 * sum_of g (count_from a n)
sum-steps f d r g zero a h = omega arith
sum-steps f d r g (suc n) a h =
    let x = h a (omega arith) (omega arith) in
    let y = sum-steps f d r g n (suc a) (λ c l m. h c (omega arith) (omega arith)) in
    omega arith

-- ---- one step

-- a mark weighs what there is to be done behind it
abbrev worth : Program → ℕ → Mark → ℕ
worth p h Exit = 0
worth p h Halt = 0
worth p h (Enter c) = size p h c
worth p h (End c) = 0
worth p h (Stray c) = 0

abbrev gain : Program → ℕ → ℕ → ℕ → ℕ → ℕ
gain p h from to c = if comes_to p h (Enter c) from to then size p h c else 0

gained : (p : Program) (h from to : ℕ) → sum_of (gain p h from to) (count_from 0 (case_count p))
    ≤ weight (worth p h) (arrivals p h from to)
gained p h from to = weight-arrivals (worth p h) p h from to (gain p h from to) (λ c. omega arith)

-- four for the stream that a step is made in
abbrev done : Option ℕ → ℕ → ℕ
done None c = 0
done (Some d) c = if c == d then 4 else 0

done-none : (d c : ℕ) → (c ≡ d → ⊥) → done (Some d) c ≡ 0
done-none d c n = ap (λ (b : Bool). if b then 4 else 0) (ne_eqb c d n)

done-one : (d : ℕ) → done (Some d) d ≡ 4
done-one d = ap (λ (b : Bool). if b then 4 else 0) (eq-eqb d d refl)

-- Inside streams each step goes forward.
abbrev pub Forward : Program → ℕ → Hart → List Step → Type 0
Forward p h first = Always (λ past s. (d : ℕ) → stream_at p h (now first past).pc ≡ Some d
    → Onward (now first past).pc (start_of p h d) (end_of p h d) s.after.pc)

module _ (p : Program) (formed : Formed p) (h : ℕ) (number : h < harts p) (x : List ℕ) (s : Step) (past : List Step)
    (strays : NoStray p h (first_state x) (s ∷ past)) (moved : (d : ℕ) → stream_at p h (now (first_state x) past).pc
    ≡ Some d → Onward (now (first_state x) past).pc (start_of p h d) (end_of p h d) s.after.pc) where
  abbrev from : ℕ
  from = (now (first_state x) past).pc

  abbrev to : ℕ
  to = s.after.pc

  -- a stream that the hart is inside
  stays : (c d : ℕ) → stream_at p h from ≡ Some d → inside p h c from ≡ true
      → left p h c to + done (Some d) c ≤ left p h c from
  stays c d e i = by (inside p h c to) refl (cases_eq c d)
    where
      on : Onward from (start_of p h d) (end_of p h d) to
      on = moved d e

      was : left p h c from ≡ end_of p h c - from
      was = left-inside p h c from i

      by : (b : Bool) → inside p h c to ≡ b → (c ≡ d) ⊎ (c ≡ d → ⊥) → left p h c to + done (Some d) c ≤ left p h c from
      by true t (inr n) = let q = inside-parts p h c to t in let r = left-inside p h c to t in let z =
          done-none d c n in omega (arith, on.least, was)
      by false t (inr n) = let r = left-outside p h c to t in let z = done-none d c n in omega (arith, was)
      by true t (inl same) = let q = inside-parts p h c to t in let r = left-inside p h c to t in
          let z : done (Some d) c ≡ 4 = ap (done (Some d)) same ∙ done-one d in omega (arith, on.least, was)
      by false t (inl same) =
          let r = left-outside p h c to t in
          let z : done (Some d) c ≡ 4 = ap (done (Some d)) same ∙ done-one d in
          let end : end_of p h d ≡ end_of p h c = ap (end_of p h) (sym same) in
          omega (arith, on.least, on.most, was)

  -- a stream that it isn't inside, and may enter
  enters : (c : ℕ) → c < case_count p → inside p h c from ≡ false → left p h c to ≤ 4 * gain p h from to c
  enters c few i = by (inside p h c to) refl
    where
      by : (b : Bool) → inside p h c to ≡ b → left p h c to ≤ 4 * gain p h from to c
      by false t = let r = left-outside p h c to t in omega arith
      by true t =
          let (stream, e) = stream-of p.cases c h formed.program.cases few number in
          let came = entered p h (first_state x) s past c strays few i t in
          let g : gain p h from to c ≡ size p h c = ap (λ (b : Bool). if b then size p h c else 0) came in
          let at : to ≡ start_of p h c = eqb-true to (start_of p h c) (and_parts (to == start_of p h c) _ came).0 in
          let long = formed.laid.long h c stream number e in
          let n : size p h c ≡ length stream.words = ap slots_of e in
          let r = left-inside p h c to t in
          omega arith

  each : (d : Option ℕ) → stream_at p h from ≡ d → (c : ℕ) → c < case_count p
      → left p h c to + done d c ≤ left p h c from + 4 * gain p h from to c
  each None e c few = let z = enters c few (stream-none p h from c e few) in omega arith
  each (Some d) e c few = by (inside p h c from) refl
    where
      by : (b : Bool) → inside p h c from ≡ b → left p h c to + done (Some d) c
          ≤ left p h c from + 4 * gain p h from to c
      by true i = let z = stays c d e i in omega arith
      by false i =
          let q = stream-some p h from d e in
          let n : c ≡ d → ⊥ = λ same. false≢true (sym i ∙ (ap (λ (y : ℕ). inside p h y from) same ∙ q.0)) in
          let y = done-none d c n in
          let z = enters c few i in
          omega arith

  all : (d : Option ℕ) → stream_at p h from ≡ d → lefts p h to + sum_of (done d) (count_from 0 (case_count p))
      ≤ lefts p h from + 4 * weight (worth p h) (arrivals p h from to)
  all d e =
      let a = sum-steps (λ c. left p h c to) (done d) (λ c. left p h c from) (gain p h from to) (case_count p) 0
      (λ c l m. each d e c (omega arith)) in
      let b = gained p h from to in
      omega arith

  -- a step in a stream takes 4 bytes of what is left
  spent : (d : Option ℕ) → stream_at p h from ≡ d → (n : ℕ)
      → 4 * one_inside d n + lefts p h to ≤ 4 * n + lefts p h from + 4 * weight (worth p h) (arrivals p h from to)
  spent None e n = let a = all None e in omega arith
  spent (Some d) e n =
      let a = all (Some d) e in
      let q = stream-some p h from d e in
      let b = sum-part (done (Some d)) (case_count p) 0 d (omega arith) (omega (arith, q.1)) in
      let c = done-one d in
      omega arith

-- ---- all steps

outside-all : (p : Program) (h n a : ℕ) (pc : ℕ) → ((c : ℕ) → a ≤ c → c < a + n → inside p h c pc ≡ false)
    → sum_of (λ c. left p h c pc) (count_from a n) ≡ 0
outside-all p h zero a pc f = refl
outside-all p h (suc n) a pc f =
    let x = left-outside p h a pc (f a (omega arith) (omega arith)) in
    let y = outside-all p h n (suc a) pc (λ c l m. f c (omega arith) (omega arith)) in
    omega arith

spent-all : (p : Program) → Formed p → (h : ℕ) → h < harts p → (x : List ℕ) (own : List Step)
    → NoStray p h (first_state x) own → Forward p h (first_state x) own
    → 4 * inside_steps p h (first_state x) own + lefts p h (now (first_state x) own).pc
    ≤ 4 * weight (worth p h) (visited p h (first_state x) own)
spent-all p formed h number x [] strays f =
    let none = outside-all p h (case_count p) 0 (first_state x).pc
    (λ c _ l. formed.laid.outside h c number (omega arith)) in
    omega arith
spent-all p formed h number x (s ∷ past) strays f =
    let before = spent-all p formed h number x past (no_stray-before p h (first_state x) s past strays) f.1 in
    let from = (now (first_state x) past).pc in
    let step = spent p formed h number x s past strays f.0 (stream_at p h from) refl
    (inside_steps p h (first_state x) past) in
    let w = weight-append (worth p h) (visited p h (first_state x) past) (arrivals p h from s.after.pc) in
    omega arith

-- the whole way is worth the words of all streams in each pass
way-worth : (p : Program) (h : ℕ) → weight (worth p h) (whole_way p) ≡ passes p * words_in h p.cases.cases
way-worth p h =
    let cs = count_from 0 (case_count p) in
    let e = weight-way (worth p h) p refl in
    let a = sum-same (λ c. weight (worth p h) (pass_way c)) (size p h) cs (λ c. omega arith) in
    let b = sum-same (size p h) (λ c. slots-at h (slice_get p.cases.cases c)) cs (λ c. size-slots p h c) in
    let d = words-sum h p.cases.cases in
    e ∙ ap (λ (n : ℕ). passes p * n) (a ∙ (b ∙ d))

-- A hart that comes to its marks in order, and goes forward inside its streams, stays there for as many steps as they
-- have words.
pub short-by : (p : Program) → Formed p → (h : ℕ) → h < harts p → (x : List ℕ) (own : List Step)
    → KeepsOrder p h (first_state x) own → Forward p h (first_state x) own
    → inside_steps p h (first_state x) own ≤ passes p * words_in h p.cases.cases
short-by p formed h number x own order f =
    let a = spent-all p formed h number x own (order-no_stray p h (first_state x) own order) f in
    let b = weight-front (worth p h) (visited p h (first_state x) own) (whole_way p) order in
    let c = way-worth p h in
    omega arith

known-forward : (p : Program) → Formed p → (h : ℕ) → h < harts p → (x : List ℕ) → IsOpening h x → (own : List Step)
    → Known p h (first_state x) own → Forward p h (first_state x) own
known-forward p formed h number x o [] k = tt
known-forward p formed h number x o (s ∷ past) k =
    let before = known-before p h (first_state x) s past k in (
      λ d e. (known-moves p formed h number x o past before s k.path.0 d e).2.onward,
      known-forward p formed h number x o past before,
    )

pub stays-short : (p : Program) → StaysShort p
stays-short p formed h number tame r legal =
    let x = r.opening h in
    let k = legal-known p formed h number tame r.opening legal.paths.opening r.steps legal in
    short-by p formed h number x (own h r.steps) (on-legal p formed h number tame (KeepsOrder p h) tame.order r legal)
    (known-forward p formed h number x (legal.paths.opening h number) (own h r.steps) k)

-- ---- each stay

-- where a stay of so many steps has come
come : (p : Program) → Formed p → (h : ℕ) → h < harts p → (c : ℕ) → c < case_count p → (x : List ℕ) (own : List Step)
    → Forward p h (first_state x) own
    → inside p h c (now (first_state x) own).pc ≡ true → start_of p h c + 4 * stay_steps p h c (first_state x) own
    ≤ (now (first_state x) own).pc
come p formed h number c few x [] f i = absurd (false≢true (sym (formed.laid.outside h c number few) ∙ i))
come p formed h number c few x (s ∷ past) f i =
    by (inside p h c (now (first_state x) past).pc) refl (come p formed h number c few x past f.1)
  where
    here : ℕ
    here = (now (first_state x) past).pc

    went : (d : Option ℕ) → stream_at p h here ≡ d → inside p h c here ≡ true → here + 4 ≤ s.after.pc
    went None e t = absurd (false≢true (sym (stream-none p h here c e few) ∙ t))
    went (Some d) e t = (f.0 d e).least

    by : (b : Bool) → inside p h c here ≡ b → (inside p h c here ≡ true
        → start_of p h c + 4 * stay_steps p h c (first_state x) past ≤ here)
        → start_of p h c + 4 * (if b then suc (stay_steps p h c (first_state x) past) else 0) ≤ s.after.pc
    by true t before = let a = before t in let b = went (stream_at p h here) refl t in omega arith
    by false t before = let q = inside-parts p h c s.after.pc i in omega (arith, q)

-- A hart that goes forward inside its streams stays in one for no more steps than the stream has words.
pub stay-by : (p : Program) → Formed p → (h : ℕ) → h < harts p → (c : ℕ) (stream : Stream) → stream_in p.cases c h
    ≡ Some stream → (x : List ℕ) (own : List Step) → Forward p h (first_state x) own
    → stay_steps p h c (first_state x) own ≤ length stream.words
stay-by p formed h number c stream is x [] f = omega arith
stay-by p formed h number c stream is x (s ∷ past) f = by (inside p h c (now (first_state x) past).pc) refl
  where
    few : c < case_count p
    few = let (case, e, _) = case-of p.cases c h stream is in slice_get_within p.cases.cases c case e

    by : (b : Bool) → inside p h c (now (first_state x) past).pc ≡ b
        → (if b then suc (stay_steps p h c (first_state x) past) else 0) ≤ length stream.words
    by true t =
        let a = come p formed h number c few x past f.1 t in
        let q = inside-parts p h c (now (first_state x) past).pc t in
        let long = formed.laid.long h c stream number is in
        omega (arith, q)
    by false t = omega arith

pub stay-short : (p : Program) → EachStayShort p
stay-short p formed h number tame c stream is r legal =
    let x = r.opening h in
    let k = legal-known p formed h number tame r.opening legal.paths.opening r.steps legal in
    stay-by p formed h number c stream is x (own h r.steps)
    (known-forward p formed h number x (legal.paths.opening h number) (own h r.steps) k)

-- ---- work

one-more : (o : Option ℕ) (m n : ℕ) → suc (m + n) ≡ one_outside o m + one_inside o n
one-more None m n = omega arith
one-more (Some c) m n = omega arith

inside-more : (o : Option ℕ) (n : ℕ) → n ≤ one_inside o n
inside-more None n = omega arith
inside-more (Some c) n = omega arith

outside-more : (o : Option ℕ) (m n : ℕ) → m ≤ n → (m ≤ one_outside o n) × (one_outside o m ≤ one_outside o n)
outside-more None m n l = (omega arith, omega arith)
outside-more (Some c) m n l = (l, l)

-- work steps are those outside streams and those inside
pub work-parts : (p : Program) (h : ℕ) (first : Hart) (own : List Step)
    → work_steps p h own ≤ outside_work p h first own + inside_steps p h first own
work-parts p h first [] = omega arith
work-parts p h first (s ∷ past) = by (idle_lately p h 4 (s ∷ past)) (work-parts p h first past)
  where
    at : Option ℕ
    at = stream_at p h (now first past).pc

    by : (b : Bool) → work_steps p h past ≤ outside_work p h first past + inside_steps p h first past
        → (if b then work_steps p h past else suc (work_steps p h past)) ≤ (if b then outside_work p h first past
        else one_outside at (outside_work p h first past)) + one_inside at (inside_steps p h first past)
    by true l = let m = inside-more at (inside_steps p h first past) in omega arith
    by false l = let m = one-more at (outside_work p h first past) (inside_steps p h first past) in omega arith

length-parts : (p : Program) (h : ℕ) (first : Hart) (own : List Step)
    → length own ≡ outside_steps p h first own + inside_steps p h first own
length-parts p h first [] = refl
length-parts p h first (s ∷ past) =
    let l = length-parts p h first past in
    let m = one-more (stream_at p h (now first past).pc) (outside_steps p h first past) (inside_steps p h first past) in
    omega arith

-- work outside streams is no more than all steps there
pub work-outside : (p : Program) (h : ℕ) (first : Hart) (own : List Step)
    → outside_work p h first own ≤ outside_steps p h first own
work-outside p h first [] = omega arith
work-outside p h first (s ∷ past) =
    by (idle_lately p h 4 (s ∷ past)) (outside-more (stream_at p h (now first past).pc) (outside_work p h first past)
    (outside_steps p h first past) (work-outside p h first past))
  where
    by : (b : Bool)
        → (outside_work p h first past ≤ one_outside (stream_at p h (now first past).pc) (outside_steps p h first past))
        × (one_outside (stream_at p h (now first past).pc) (outside_work p h first past)
        ≤ one_outside (stream_at p h (now first past).pc) (outside_steps p h first past))
        → (if b then outside_work p h first past else one_outside (stream_at p h (now first past).pc)
        (outside_work p h first past)) ≤ one_outside (stream_at p h (now first past).pc)
        (outside_steps p h first past)
    by true l = l.0
    by false l = l.1

pub works-little : (p : Program) → WorksLittle p
works-little p formed h number tame m few r legal =
    let a = on-legal p formed h number tame (λ first own. outside_work p h first own ≤ m) few r legal in
    let b = stays-short p formed h number tame r legal in
    let c = work-parts p h (first_state (r.opening h)) (own h r.steps) in
    omega arith

pub ends-soon : (p : Program) → EndsSoon p
ends-soon p formed h number tame m few r legal =
    let a = on-legal p formed h number tame (λ first own. outside_steps p h first own ≤ m) few r legal in
    let b = stays-short p formed h number tame r legal in
    let c = work-parts p h (first_state (r.opening h)) (own h r.steps) in
    let d = work-outside p h (first_state (r.opening h)) (own h r.steps) in
    let e = length-parts p h (first_state (r.opening h)) (own h r.steps) in
    (omega arith, omega arith)
