-- Each buffered run of harts that meet is legal, step by step: what a hart finds is what a legal run owes it.
use Rattle.std.proofs.Common.{◌≡◌, ℕ, ◌+◌, ◌<◌, ◌≤◌, List, [], ◌∷◌, ◌++◌, Bool, true, false, ◌||◌}
use Rattle.std.proofs.Common.{Option, None, Some, ◌⊎◌, inl, inr, refl, sym, ap, ap₂, ◌∙◌, subst, arith}
use Rattle.std.specs.Prelude.{IsTrue, IfSome, unwrap_or}
use Rattle.std.specs.List.{AllByRecursion as Each}
use Rattle.std.proofs.lemmas.Bool.{cases_Bool, cases_eq, cases_lt, false≢true, or_cases}
use Rattle.tm_table.specs.declared.state.Access.{Access}
use Rattle.tm_table.specs.declared.state.Access.TheVariants.{Quiet, Read, Write}
use Rattle.tm_plan_cases.specs.declared.program.Program.{Program}
use Rattle.tm_base.specs.Lists.{any, count_from}
use Rattle.tm_world.specs.Lists.{or_else}
use Rattle.tm_world.specs.Place.{harts, image_byte, byte_of, is_private, is_flag}
use Rattle.tm_world.specs.Run.{Step, own, hart_of, access_of, Reads, Writes, written}
use Rattle.tm_world.specs.Writers.{may_write, writers, wrote, settled}
use Rattle.tm_world.specs.Kinds.{Legal, phase_of, legal_owed, another}
use Rattle.tm_world.specs.Course.{IsStill}
use Rattle.tm_world.proofs.Prefix.{earlier}
use Rattle.tm_legal.specs.Tame.{Formed}
use Rattle.tm_legal.proofs.Phases.{or-assoc}
use Rattle.tm_memory.specs.Meet.{AllMeet}
use Rattle.tm_world.proofs.Accesses.{writes-may}
use Rattle.tm_memory.proofs.Owners.{Among, among-least, among-writers, flag-owner, flag-mine, private-owner}
use Rattle.tm_memory.proofs.Meets.{writes-right}
use Rattle.tm_meet.proofs.Counts.{signalled, quiet-count}
use Rattle.tm_meet.proofs.Owed.{AreRight, owed-settled, if-owed, another-true, if-other, some-flag}
use Rattle.tm_buffered.specs.Moments.{opened_with}
use Rattle.tm_buffered.specs.Moments.{Moment, Makes, Drains, steps_of, Entry, waiting, memory, left_at, found}
use Rattle.tm_buffered.specs.Moments.{buffered_owed, Buffered}
use Rattle.tm_buffered.specs.Laws.{BufferedIsLegal}
use Rattle.tm_buffered.proofs.Entries.{each-map, each-append}
use Rattle.tm_buffered.proofs.Drains.{From, FromOwn, from-own, from-always, waiting-from, memory-from}
use Rattle.tm_buffered.proofs.Lookups.{left_by, left_by-append, left_by-none, Misses, in_turn, turn-hart, lookups}
use Rattle.tm_buffered.proofs.Lookups.{wrote-left, turn-phase}
use Rattle.tm_buffered.proofs.Halves.{entry-few, made-before, drained-before}
use Rattle.tm_buffered.proofs.Told.{Told, told, phase_at}
use Rattle.tm_buffered.proofs.Fences.{phase-from, step-keeps}
use Rattle.tm_buffered.proofs.Landed.{low, landed-made}
use Rattle.tm_buffered.specs.Signals.{landed}
use Rattle.tm_buffered.proofs.Flags.{phases-le}
use Rattle.tm_buffered.proofs.Ranks.{UpTo, view, view-ranked}
use Rattle.tm_buffered.proofs.Settles.{settled_by, settled-agrees, wrote_in, turn-not, Right, settled-found}

-- ---- the view of a hart

left_at-append : (b : ℕ) (xs ys : List Entry) → left_at b (xs ++ ys) ≡ or_else (left_at b xs) (left_at b ys)
left_at-append b [] ys = refl
left_at-append b (x ∷ xs) ys =
    ap (or_else (written (access_of x.step) b)) (left_at-append b xs ys)
    ∙ sym (or-assoc (written (access_of x.step) b) (left_at b xs) (left_at b ys))

found-view : (p : Program) (h b : ℕ) (list : List Moment) → found p h list b
    ≡ unwrap_or (left_at b (view h list)) (image_byte p b)
found-view p h b list = ap (λ (o : Option ℕ). unwrap_or o (image_byte p b))
    (sym (left_at-append b (waiting h list) (memory list)))

-- P of each write of these steps
view-each : (P : Entry → Type 0) (h : ℕ) (list : List Moment) → ((e : Entry) → FromOwn (steps_of list) e → P e)
    → Each P (view h list)
view-each P h list f =
    each-append P (waiting h list) (memory list)
    (each-map (From h (steps_of list)) P (waiting h list) (λ e k. f e (from-own h (steps_of list) e k))
    (waiting-from h list))
    (each-map (FromOwn (steps_of list)) P (memory list) f (memory-from list))

-- In it stands what each hart wrote in the phases before, and what the hart itself wrote in its own.
view-wrote : (p : Program) → Formed p → (h b : ℕ) → h < harts p → (list : List Moment) → Told p list → (n g : ℕ)
    → (g ≡ h) ⊎ (n < phase_of p (steps_of list) h)
    → wrote p (steps_of list) n b g ≡ wrote_in p b (view h list) n g
view-wrote p formed h b l list t n g which =
    let test = in_turn p g n in
    let all : or_else (left_by test b (waiting g list)) (left_by test b (memory list)) ≡ wrote p (steps_of list) n b g =
    lookups p g test b (turn-hart p g n) list t.moments ∙ sym (wrote-left p n b g (steps_of list)) in
    let seen : wrote_in p b (view h list) n g
    ≡ or_else (left_by test b (waiting h list)) (left_by test b (memory list)) =
    left_by-append test b (waiting h list) (memory list) in
    elim (cases_eq g h) [
      | inl e ↦ sym all ∙ (ap (λ (k : ℕ). or_else (left_by test b (waiting k list)) (left_by test b (memory list))) e
          ∙ sym seen)
      | inr ne ↦
          let before : n < phase_of p (steps_of list) h = elim which [ inl e ↦ absurd (ne e) | inr z ↦ z ] in
          let there : left_by test b (waiting g list) ≡ None =
          left_by-none test b (waiting g list) (elim (cases_lt g (harts p)) [
            | inl few ↦
                let met = phases-le p formed h g l few (λ e. ne (sym e)) list t in
                each-map (λ e. landed g list ≤ phase_at p e) (Misses test b) (waiting g list)
                (λ e z. inl (turn-not p n g e (λ s. omega arith))) (low p formed g few list t)
            | inr many ↦ each-map (From g (steps_of list)) (Misses test b) (waiting g list)
                (λ e f. absurd (let k = entry-few p g (steps_of list) e t.kept f in let s = f.hart in omega arith))
                (waiting-from g list)
          ]) in
          let here : left_by test b (waiting h list) ≡ None =
          left_by-none test b (waiting h list)
          (each-map (From h (steps_of list)) (Misses test b) (waiting h list)
          (λ e f. inl (not-turn e f.hart ne)) (waiting-from h list)) in
          sym all ∙ (ap (λ (o : Option ℕ). or_else o (left_by test b (memory list))) (there ∙ sym here) ∙ sym seen)
    ]
  where
    not-turn : (e : Entry) → hart_of e.step ≡ h → (g ≡ h → ⊥) → in_turn p g n e ≡ false
    not-turn e is ne = elim (cases_Bool (in_turn p g n e)) [
      | inl y ↦ absurd (ne (sym (turn-hart p g n e y) ∙ is))
      | inr f ↦ f
    ]

-- ---- what a legal run owes

-- writes of these steps are by harts that may make them
view-right : (p : Program) (h b : ℕ) (list : List Moment) → Told p list → AreRight p (steps_of list)
    → Each (Right p b) (view h list)
view-right p h b list t r = view-each (Right p b) h list (λ e f. record {
  few = entry-few p (hart_of e.step) (steps_of list) e t.kept f;
  may = λ w is. writes-may (λ c. may_write p (phase_at p e) (hart_of e.step) c ≡ true) (access_of e.step) b w
      (from-always (λ past s. Writes (λ c. IsTrue (may_write p (phase_of p past (hart_of s)) (hart_of s) c))
      (access_of s)) (hart_of e.step) (steps_of list) e f r) is;
})

-- what a hart may not write in phase q it hasn't written there
unwritten : (p : Program) (q b h : ℕ) (xs : List Entry) → Each (Right p b) xs → may_write p q h b ≡ false
    → wrote_in p b xs q h ≡ None
unwritten p q b h xs r n =
    left_by-none (in_turn p h q) b xs (each-map (Right p b) (Misses (in_turn p h q) b) xs
    (λ e k. by e k (in_turn p h q e) (written (access_of e.step) b) refl refl) r)
  where
    by : (e : Entry) → Right p b e → (t : Bool) (o : Option ℕ) → in_turn p h q e ≡ t
        → written (access_of e.step) b ≡ o → Misses (in_turn p h q) b e
    by e k false o x y = inl x
    by e k true None x y = inr y
    by e k true (Some w) x y =
        let hart = turn-hart p h q e x in
        let phase : phase_at p e ≡ q = ap (phase_of p e.past) hart ∙ turn-phase p h q e x in
        absurd (false≢true (sym n ∙ (ap₂ (λ (a c : ℕ). may_write p a c b) (sym phase) (sym hart) ∙ k.may w y)))

-- what hart h is owed at b, where no write of b is ahead of it
owed-found : (p : Program) → Formed p → (h b u : ℕ) → h < harts p → (list : List Moment) → Told p list
    → AreRight p (steps_of list) → UpTo p (phase_of p (steps_of list) h) b (view h list)
    → u ≡ found p h list b
    → IfSome (legal_owed p (steps_of list) h (phase_of p (steps_of list) h) b) (λ v. u ≡ v)
owed-found p formed h b u l list t r up e =
    let past = steps_of list in
    let q = phase_of p past h in
    let f = wrote_in p b (view h list) in
    let right = view-right p h b list t r in
    if-owed (another h (writers p q b)) (or_else (wrote p past q b h) (settled p past q b)) u
    (λ v alone owed.
    let agrees = settled-agrees p f past q b (λ n g z. view-wrote p formed h b l list t n g (inr z)) in
    let same : or_else (f q h) (settled_by p f q b) ≡ Some v =
    sym (ap₂ or_else (view-wrote p formed h b l list t q h (inl refl)) agrees) ∙ owed in
    let all = owed-settled p (f q) (settled_by p f q b) h q b v l (unwritten p q b h (view h list) right) alone same in
    e ∙ (found-view p h b list ∙ sym (settled-found p q b v (view h list) (view-ranked p formed h b l list t) right up
    all)))

-- ---- a read by a hart that hasn't signalled

-- where it hasn't, no hart is ahead of it
none-ahead : (p : Program) → Formed p → (h b : ℕ) → h < harts p → (list : List Moment) → Told p list
    → signalled p h (own h (steps_of list)) ≡ false → UpTo p (phase_of p (steps_of list) h) b (view h list)
none-ahead p formed h b l list t quiet =
    view-each (λ e. (written (access_of e.step) b ≡ None) ⊎ (phase_at p e ≤ phase_of p (steps_of list) h)) h list
    (λ e f. inr (by e f (cases_eq (hart_of e.step) h)))
  where
    by : (e : Entry) → FromOwn (steps_of list) e → (hart_of e.step ≡ h) ⊎ (hart_of e.step ≡ h → ⊥)
        → phase_at p e ≤ phase_of p (steps_of list) h
    by e f (inl same) =
        subst (λ (k : ℕ). phase_at p e ≤ phase_of p (steps_of list) k) same
        (phase-from p (hart_of e.step) (steps_of list) e f)
    by e f (inr n) =
        let g = hart_of e.step in
        let a = phase-from p g (steps_of list) e f in
        let c = phases-le p formed g h (entry-few p g (steps_of list) e t.kept f) l n list t in
        let d = landed-made p formed h l list t in
        let z = quiet-count p h (own h (steps_of list)) (t.keep h l) quiet in
        omega arith

-- ---- a read by a hart that has

-- where all writes of b are h's, none is ahead of it
own-up_to : (p : Program) (h b : ℕ) (list : List Moment) → Told p list → AreRight p (steps_of list)
    → ((n g : ℕ) → g < harts p → may_write p n g b ≡ true → g ≡ h)
    → UpTo p (phase_of p (steps_of list) h) b (view h list)
own-up_to p h b list t r one =
    view-each (λ e. (written (access_of e.step) b ≡ None) ⊎ (phase_at p e ≤ phase_of p (steps_of list) h)) h list
    (λ e f. by e f (written (access_of e.step) b) refl)
  where
    by : (e : Entry) → FromOwn (steps_of list) e → (o : Option ℕ) → written (access_of e.step) b ≡ o
        → (written (access_of e.step) b ≡ None) ⊎ (phase_at p e ≤ phase_of p (steps_of list) h)
    by e f None w = inl w
    by e f (Some v) w =
        let g = hart_of e.step in
        let may = writes-may (λ c. may_write p (phase_at p e) g c ≡ true) (access_of e.step) b v
        (from-always (λ past s. Writes (λ c. IsTrue (may_write p (phase_of p past (hart_of s)) (hart_of s) c))
        (access_of s)) g (steps_of list) e f r) w in
        let same = one (phase_at p e) g (entry-few p g (steps_of list) e t.kept f) may in
        inr (subst (λ (k : ℕ). phase_at p e ≤ phase_of p (steps_of list) k) same
        (phase-from p g (steps_of list) e f))

-- one byte of its flags or its private area
still-legal : (p : Program) → Formed p → (h b u : ℕ) → h < harts p → (list : List Moment) → Told p list
    → AreRight p (steps_of list)
    → IsTrue (is_private h b || any (λ g. is_flag g b) (count_from 0 (harts p))) → u ≡ found p h list b
    → IfSome (legal_owed p (steps_of list) h (phase_of p (steps_of list) h) b) (λ v. u ≡ v)
still-legal p formed h b u l list t r which e =
    elim (or_cases (is_private h b) (any (λ g. is_flag g b) (count_from 0 (harts p))) which) [
      | inl y ↦ mine (λ n g m may. private-owner p n h g b formed l m y may)
      | inr y ↦ flag (some-flag b (count_from 0 (harts p)) y)
    ]
  where
    mine : ((n g : ℕ) → g < harts p → may_write p n g b ≡ true → g ≡ h)
        → IfSome (legal_owed p (steps_of list) h (phase_of p (steps_of list) h) b) (λ v. u ≡ v)
    mine one = owed-found p formed h b u l list t r (own-up_to p h b list t r one) e

    flag : (g : ℕ) × Among g (count_from 0 (harts p)) × (is_flag g b ≡ true)
        → IfSome (legal_owed p (steps_of list) h (phase_of p (steps_of list) h) b) (λ v. u ≡ v)
    flag (g, among, is) =
        let few : g < harts p = let k = among-least g 0 (harts p) among in omega arith in
        elim (cases_eq g h) [
          | inl same ↦ mine (λ n k m may. flag-owner p n g k b formed few m is may ∙ same)
          | inr other ↦
              let past = steps_of list in
              let q = phase_of p past h in
              if-other (another h (writers p q b)) (or_else (wrote p past q b h) (settled p past q b)) (λ v. u
              ≡ v) (another-true g h (writers p q b) (among-writers p q b g few (flag-mine p q g b is)) other)
        ]

-- ---- a step

byte-legal : (p : Program) → Formed p → (h b u : ℕ) → h < harts p → (list : List Moment) → Told p list
    → AreRight p (steps_of list)
    → (signalled p h (own h (steps_of list)) ≡ true
    → IsTrue (is_private h b || any (λ g. is_flag g b) (count_from 0 (harts p)))) → u ≡ found p h list b
    → IfSome (legal_owed p (steps_of list) h (phase_of p (steps_of list) h) b) (λ v. u ≡ v)
byte-legal p formed h b u l list t r still e = elim (cases_Bool (signalled p h (own h (steps_of list)))) [
  | inl y ↦ still-legal p formed h b u l list t r (still y) e
  | inr y ↦ owed-found p formed h b u l list t r (none-ahead p formed h b l list t y) e
]

-- A step that reads what its hart finds, and is still where its hart has signalled, reads what a legal run may.
reads-legal : (p : Program) → Formed p → (h : ℕ) → h < harts p → (list : List Moment) → Told p list
    → AreRight p (steps_of list) → (a : Access)
    → (signalled p h (own h (steps_of list)) ≡ true → IsStill p h a) → Reads (buffered_owed p h list) a
    → Reads (legal_owed p (steps_of list) h (phase_of p (steps_of list) h)) a
reads-legal p formed h l list t r Quiet still f = tt
reads-legal p formed h l list t r (Write addr width value) still f = tt
reads-legal p formed h l list t r (Read addr width value) still f =
    λ i m. byte-legal p formed h (addr + i) (byte_of value i) l list t r (λ y. still y i m) (f i m)

one-more : (p : Program) → AllMeet p → (o : ℕ → List ℕ) (s : Step) (before : List Moment)
    → Buffered p (opened_with o (Makes s ∷ before)) → Legal p (earlier o (steps_of before))
    → Legal p (earlier o (s ∷ steps_of before))
one-more p m o s before b legal =
    let h = hart_of s in
    let l = b.paths.only.0 in
    let t = told p m o before (made-before p o s before b) in
    let right = writes-right p m (earlier o (steps_of before)) legal in
    let k = step-keeps p h l s before (told p m o (Makes s ∷ before) b) refl in
    record {
      paths = b.paths;
      met = (
        λ g few n.
            let x = phases-le p m.formed h g l few (λ e. n (sym e)) before t in
            let y = landed-made p m.formed g few before t in
            omega arith,
        legal.met,
      );
      reads = (reads-legal p m.formed h l before t right (access_of s) k.0.still b.moments.0.1, legal.reads);
    }

all-legal : (p : Program) → AllMeet p → (o : ℕ → List ℕ) (list : List Moment) → Buffered p (opened_with o list)
    → Legal p (earlier o (steps_of list))
all-legal p m o [] b = record { paths = b.paths; met = tt; reads = tt }
all-legal p m o (Makes s ∷ before) b =
    one-more p m o s before b (all-legal p m o before (made-before p o s before b))
all-legal p m o (Drains h w ∷ before) b = all-legal p m o before (drained-before p o h w before b)

pub buffered-legal : (p : Program) → BufferedIsLegal p
buffered-legal p m r b = all-legal p m r.opening r.list b
