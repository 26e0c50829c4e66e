-- Signals land from the oldest place of a buffer.
use Rattle.std.proofs.Common.{◌≡◌, ℕ, suc, ◌+◌, ◌<◌, List, [], ◌∷◌, ◌++◌, true, ◌&&◌, ◌==◌, not}
use Rattle.std.proofs.Common.{◌⊎◌, inl, inr, refl, sym, ap, ◌∙◌, subst, arith, length}
use Rattle.std.specs.Prelude.{Contains, IsFalse}
use Rattle.std.specs.List.{AllByRecursion as Each}
use Rattle.std.proofs.lemmas.Bool.{cases_Bool, and_parts}
use Rattle.std.proofs.lemmas.List.Elements.{All-from_recursion, Contains-append_right}
use Rattle.tm_table.specs.declared.state.Access.TheVariants.{Read}
use Rattle.tm_plan_cases.specs.declared.program.Program.{Program}
use Rattle.tm_plan_map.specs.Map.{flag_at}
use Rattle.tm_base.specs.Lists.{any, count_from}
use Rattle.tm_world.specs.Place.{harts, exit_of}
use Rattle.tm_world.specs.Run.{Step, own, hart_of, access_of, phase, Reads, HasShape}
use Rattle.tm_world.specs.Course.{signals, this_phase}
use Rattle.tm_world.specs.Work.{gets_less, is_idle_read}
use Rattle.tm_legal.specs.Tame.{Formed}
use Rattle.tm_memory.proofs.Owners.{among-least}
use Rattle.tm_meet.proofs.Waiting.{some-hart, other-than, less-read}
use Rattle.tm_runs.proofs.Bytes.{same_dword}
use Rattle.tm_buffered.specs.Moments.{Moment, Makes, Drains, Entry, steps_of, waiting, share, MayDrain, AtEach}
use Rattle.tm_buffered.specs.Moments.{buffered_owed}
use Rattle.tm_buffered.proofs.Entries.{Falls, falls-below, each-append, each-map, each-that}
use Rattle.tm_buffered.proofs.Drains.{waiting-fall}
use Rattle.tm_buffered.proofs.Told.{Told, told, made-told, drained-told}
use Rattle.tm_buffered.proofs.Fences.{Alone, alone}
use Rattle.tm_buffered.proofs.Landed.{flags_in-more, flags_in-same, counts}
use Rattle.tm_buffered.specs.Signals.{flags_in}
use Rattle.tm_buffered.proofs.Flags.{flag-landed, found-flag, phases-le}
use Rattle.tm_buffered_meet.specs.Laws.{SignalWaits, SignalsLand, NoneAheadHere, WaitsHere, IdleIsWait}
use Rattle.tm_buffered.specs.Signals.{landed, made}
use Rattle.tm_buffered_meet.specs.Laws.{IdleWaitsHere}

-- where a signal is in a buffer
record Last (g : ℕ) (es : List Entry) : Type 0 where
  newer : List Entry
  entry : Entry
  is : es ≡ newer ++ (entry ∷ [])
  signal : signals g entry.step ≡ true
  one : flags_in g es ≡ 1

last-signal : (p : Program) (g : ℕ) (es : List Entry) → Alone p g es → (flags_in g es ≡ 0) ⊎ Last g es
last-signal p g [] a = inl refl
last-signal p g (x ∷ xs) a = elim (cases_Bool (signals g x.step)) [
  | inl y ↦
      let none = a.0 y in
      inr (record {
        newer = [];
        entry = x;
        is = ap (λ (l : List Entry). x ∷ l) none;
        signal = y;
        one = flags_in-more g x xs y ∙ ap (λ (l : List Entry). suc (flags_in g l)) none;
      })
  | inr n ↦ elim (last-signal p g xs a.2) [
    | inl z ↦ inl (flags_in-same g x xs n ∙ z)
    | inr k ↦ inr (record {
      newer = x ∷ k.newer;
      entry = k.entry;
      is = ap (λ (l : List Entry). x ∷ l) k.is;
      signal = k.signal;
      one = flags_in-same g x xs n ∙ k.one;
    })
  ]
]

last-less : (n : ℕ) (xs : List Entry) (e : Entry) → Falls n (xs ++ (e ∷ [])) → e.number < n
last-less n xs e f = each-that (λ x. x.number < n) xs e [] (falls-below n (xs ++ (e ∷ [])) f)

-- the numbers before the last are greater
falls-last : (n : ℕ) (xs : List Entry) (e : Entry) → Falls n (xs ++ (e ∷ [])) → Each (λ x. e.number < x.number) xs
falls-last n [] e f = tt
falls-last n (x ∷ xs) e f = (last-less x.number xs e f.1, falls-last x.number xs e f.1)

last-may : (g : ℕ) (list : List Moment) (newer : List Entry) (e : Entry) → waiting g list ≡ newer ++ (e ∷ [])
    → MayDrain g e.number list
last-may g list newer e is =
    let f : Falls (length (steps_of list)) (newer ++ (e ∷ [])) =
    subst (Falls (length (steps_of list))) is (waiting-fall g list) in
    let Free : Entry → Type 0 = λ x. x.number < e.number → IsFalse (share (access_of x.step) (access_of e.step)) in
    let all : Each Free (newer ++ (e ∷ [])) =
    each-append Free newer (e ∷ []) (each-map (λ x. e.number < x.number) Free newer (λ x l m. absurd (omega arith))
    (falls-last (length (steps_of list)) newer e f)) (λ m. absurd (omega arith), tt) in
    record {
      write = e;
      waits = subst (λ (es : List Entry). Contains es e) (sym is) (Contains-append_right newer (e ∷ []) e (0, omega arith, refl));
      number = refl;
      first = All-from_recursion Free (waiting g list) (subst (Each Free) (sym is) all);
    }

pub signal-lands : (p : Program) → Formed p → (g : ℕ) → g < harts p → (list : List Moment) → Told p list
    → (made g list ≡ landed g list) ⊎ (SignalWaits g list × (made g list ≡ landed g list + 1))
signal-lands p formed g l list t =
    let all = counts p formed g l list t in
    elim (last-signal p g (waiting g list) (alone p g l list t)) [
      | inl z ↦ inl (omega arith)
      | inr k ↦ inr (
        record {
          newer = k.newer;
          entry = k.entry;
          is = k.is;
          signal = k.signal;
          may = last-may g list k.newer k.entry k.is;
        },
        let one = k.one in omega arith,
      )
    ]

pub signals-land : (p : Program) → SignalsLand p
signals-land p m r b g l = signal-lands p m.formed g l r.list (told p m r.opening r.list b)

pub none-ahead : (p : Program) → NoneAheadHere p
none-ahead p m r b h g l k n = phases-le p m.formed h g l k (λ e. n (sym e)) r.list (told p m r.opening r.list b)

-- ---- idle reads

-- what is read of another hart's flag
read-is : (p : Program) → Formed p → (g v : ℕ) → g < harts p → (s : Step) (before : List Moment)
    → Told p (Makes s ∷ before) → (hart_of s ≡ g → ⊥) → access_of s ≡ Read (flag_at g) 8 v → v ≡ landed g before
read-is p formed g v l s before t n is =
    let told' = made-told p s before t in
    let read : Reads (buffered_owed p (hart_of s) before) (Read (flag_at g) 8 v) =
    subst (Reads (buffered_owed p (hart_of s) before)) is t.moments.0.1 in
    let shape : HasShape (Read (flag_at g) 8 v) = subst HasShape is t.shaped.0 in
    same_dword v (landed g before) shape.1 (flag-landed p formed g l before told').1
    (λ i m. read i m ∙ found-flag p formed (hart_of s) g l n before told' i m)

step-waits : (p : Program) → Formed p → (s : Step) (before : List Moment) → Told p (Makes s ∷ before)
    → is_idle_read p (hart_of s) (own (hart_of s) (steps_of before)) s ≡ true → WaitsHere p before (hart_of s)
step-waits p formed s before t e =
    let h = hart_of s in
    let most = phase (exit_of p h) (own h (steps_of before)) + 1 in
    let test = λ (g : ℕ). not (g == h) && gets_less (flag_at g) most (access_of s) in
    let q = and_parts (any (signals h) (this_phase p h (own h (steps_of before)))) (any test (count_from 0 (harts p))) e in
    let (g, among, is) = some-hart test (count_from 0 (harts p)) q.1 in
    let few : g < harts p = let k = among-least g 0 (harts p) among in omega arith in
    let r = and_parts (not (g == h)) (gets_less (flag_at g) most (access_of s)) is in
    let (v, read, less) = less-read (flag_at g) most (access_of s) r.1 in
    let differs = other-than g h r.0 in
    let same = read-is p formed g v few s before t (λ z. differs (sym z)) read in
    record { signalled = q.0; other = g; few = few; differs = differs; behind = omega arith }

all-wait : (p : Program) → Formed p → (list : List Moment) → Told p list → AtEach (IdleIsWait p) list
all-wait p formed [] t = tt
all-wait p formed (Makes s ∷ before) t = (step-waits p formed s before t, all-wait p formed before (made-told p s before t))
all-wait p formed (Drains h w ∷ before) t = (tt, all-wait p formed before (drained-told p h w before t))

pub idle-waits : (p : Program) → IdleWaitsHere p
idle-waits p m r b = all-wait p m.formed r.list (told p m r.opening r.list b)
