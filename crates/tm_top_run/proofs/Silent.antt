-- On a legal run of a sound program every verdict is 0.
use Rattle.std.proofs.Common.{◌≡◌, ℕ, zero, suc, ◌+◌, ◌<◌, ◌≤◌, List, [], ◌∷◌, ◌++◌, length, map, Bool, true, false}
use Rattle.std.proofs.Common.{◌==◌, ◌&&◌, Option, None, Some, refl, ap, subst, arith, eqb-true}
use Rattle.std.specs.Prelude.{IsTrue, unwrap_or, reverse, flat_map, nat_lt, All, if◌then◌else◌}
use Rattle.std.proofs.lemmas.Bool.{lt-ltb}
use Rattle.std.proofs.lemmas.List.{reverse-append}
use Rattle.std.proofs.lemmas.List.Elements.{All-nil, All-cons, All-append}
use Rattle.tm_table.specs.declared.state.Access.{Access}
use Rattle.tm_table.specs.declared.state.Access.TheVariants.{Quiet, Read, Write}
use Rattle.tm_plan_map.specs.Map.{verdict_at}
use Rattle.tm_plan_cases.specs.declared.program.Program.{Program}
use Rattle.tm_plan_cases.specs.declared.event.Event.{Event}
use Rattle.tm_plan_script.specs.declared.faults.FaultLine.{FaultLine}
use Rattle.tm_base.specs.Lists.{count_from}
use Rattle.tm_world.specs.Lists.{or_else}
use Rattle.tm_world.specs.Place.{harts, round_count}
use Rattle.tm_world.specs.Course.{writes_in}
use Rattle.tm_world.specs.Kinds.{Legal}
use Rattle.tm_world.specs.Sound.{Sound}
use Rattle.tm_world.specs.Reported.{NotReported}
use Rattle.tm_world.specs.Replay.{replay, steps_of, run_of}
use Rattle.tm_report_run.specs.Verdicts.{put_at, latest, verdict_in, verdicts_of}
use Rattle.tm_top_run.specs.Laws.{NoReport}

-- ---- one access

abbrev value_of : Access → ℕ
value_of Quiet = 0
value_of (Read addr width value) = 0
value_of (Write addr width value) = value

-- each write of a byte of the 8 from a is the write of 0 there
abbrev Quiets : ℕ → Access → Type 0
Quiets a access = IsTrue (writes_in a 8 access) → access ≡ Write a 8 0

-- what an access puts at a, 0 where it puts nothing
abbrev puts : ℕ → Access → ℕ
puts a access = unwrap_or (put_at a access) 0

pub covers : (a addr width : ℕ) → addr ≡ a → width ≡ 8 → (nat_lt addr (a + 8) && nat_lt a (addr + width)) ≡ true
covers a addr width at wide = rw (lt-ltb addr (a + 8) (omega arith), lt-ltb a (addr + width) (omega arith)) refl

puts-nothing : (a : ℕ) (access : Access) → Quiets a access → puts a access ≡ 0
puts-nothing a Quiet quiet = refl
puts-nothing a (Read addr width value) quiet = refl
puts-nothing a (Write addr width value) quiet = by (addr == a) (width == 8) refl refl
  where
    by : (b d : Bool) → (addr == a) ≡ b → (width == 8) ≡ d
        → unwrap_or (if b && d then Some value else None) 0 ≡ 0
    by true true q r =
        ap value_of (quiet (covers a addr width (eqb-true addr a q) (eqb-true width 8 r)))
    by true false q r = refl
    by false d q r = refl

-- ---- all events

-- of each event P
abbrev pub Each : (Event → Type 0) → List Event → Type 0
Each P [] = Unit {0}
Each P (e ∷ more) = P e × Each P more

each-append : (P : Event → Type 0) (xs ys : List Event) → Each P xs → Each P ys → Each P (xs ++ ys)
each-append P [] ys none all = all
each-append P (x ∷ xs) ys (this, more) all = (this, each-append P xs ys more all)

each-front : (P : Event → Type 0) (xs : List Event) (y : Event) → Each P (xs ++ y ∷ []) → Each P xs × P y
each-front P [] y (this, none) = (tt, this)
each-front P (x ∷ xs) y (this, more) = let (front, last) = each-front P xs y more in ((this, front), last)

pub each-turned : (P : Event → Type 0) (xs : List Event) → Each P (reverse xs) → Each P xs
each-turned P [] none = tt
each-turned P (x ∷ xs) all =
    let (front, last) = each-front P (reverse xs) x (subst (Each P) (reverse-append (x ∷ []) xs) all) in
    (last, each-turned P xs front)

abbrev QuietAt : ℕ → Event → Type 0
QuietAt a e = puts a e.access ≡ 0

each-quiet : (p : Program) (lines : List FaultLine) (e h : ℕ) → e < round_count p → h < harts p → (events : List Event)
    → NotReported p (record { opening = λ n. []; steps = replay p lines events })
    → Each (QuietAt (verdict_at e h)) events
each-quiet p lines e h l m [] none = tt
each-quiet p lines e h l m (x ∷ past) (this, more) =
    (puts-nothing (verdict_at e h) x.access (this e h l m), each-quiet p lines e h l m past more)

or-zero : (a b : Option ℕ) → unwrap_or a 0 ≡ 0 → unwrap_or b 0 ≡ 0 → unwrap_or (or_else a b) 0 ≡ 0
or-zero None b p q = q
or-zero (Some x) b p q = p

latest-zero : (a : ℕ) (events : List Event) → Each (QuietAt a) events
    → unwrap_or (latest (λ (e : Event). put_at a e.access) events) 0 ≡ 0
latest-zero a [] none = refl
latest-zero a (e ∷ more) (this, rest) =
    or-zero (latest (λ (x : Event). put_at a x.access) more) (put_at a e.access) (latest-zero a more rest) this

-- ---- all verdicts

-- a verdict on a legal run
pub silent-verdict : (p : Program) (lines : List FaultLine) (events : List Event) → Sound p
    → Legal p (run_of p lines events) → (e h : ℕ) → e < round_count p → h < harts p → verdict_in events e h ≡ 0
unfolding verdict_in steps_of
silent-verdict p lines events sound legal e h l m =
    let silent = sound.silent (run_of p lines events) legal in
    let turned = each-quiet p lines e h l m (reverse events) silent in
    latest-zero (verdict_at e h) events (each-turned (QuietAt (verdict_at e h)) events turned)

zero-row : (f : ℕ → ℕ) (n a : ℕ) → ((h : ℕ) → a ≤ h → h < a + n → f h ≡ 0)
    → All (λ (v : ℕ). v ≡ 0) (map f (count_from a n))
zero-row f zero a zeros = All-nil (λ (v : ℕ). v ≡ 0)
zero-row f (suc n) a zeros =
    All-cons (λ (v : ℕ). v ≡ 0) (f a) (map f (count_from (suc a) n)) (zeros a (omega arith) (omega arith))
    (zero-row f n (suc a) (λ h l m. zeros h (omega arith) (omega arith)))

zero-rows : (f : ℕ → ℕ → ℕ) (n m a : ℕ) → ((c h : ℕ) → a ≤ c → c < a + m → h < n → f c h ≡ 0)
    → All (λ (v : ℕ). v ≡ 0) (flat_map (λ c. map (f c) (count_from 0 n)) (count_from a m))
zero-rows f n zero a zeros = All-nil (λ (v : ℕ). v ≡ 0)
zero-rows f n (suc m) a zeros =
    All-append (λ (v : ℕ). v ≡ 0) (map (f a) (count_from 0 n))
    (flat_map (λ c. map (f c) (count_from 0 n)) (count_from (suc a) m))
    (zero-row (f a) n 0 (λ h l k. zeros a h (omega arith) (omega arith) (omega arith)))
    (zero-rows f n m (suc a) (λ c h l k j. zeros c h (omega arith) (omega arith) j))

-- all verdicts
pub no-report : (p : Program) → NoReport p
unfolding verdicts_of
no-report p sound lines events legal =
    zero-rows (verdict_in events) p.cases.harts (length p.cases.cases) 0
    (λ e h l k m. silent-verdict p lines events sound legal e h (omega arith) m)
