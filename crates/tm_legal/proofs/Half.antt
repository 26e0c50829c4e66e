-- Each legal run of tame harts is a half run, hart by hart.
use Rattle.std.proofs.Common.{◌≡◌, ℕ, ◌+◌, ◌-◌, ◌<◌, ◌≤◌, List, [], ◌∷◌, Bool, true, false, ◌||◌, Option, None, Some}
use Rattle.std.proofs.Common.{◌⊎◌, inl, inr, refl, sym, ◌∙◌, subst, arith}
use Rattle.std.specs.Prelude.{IsTrue, IsFalse, if◌then◌else◌}
use Rattle.std.proofs.lemmas.Bool.{cases_eq, true≢false}
use Rattle.tm_table.specs.declared.state.Access.{Access}
use Rattle.tm_table.specs.declared.state.Access.TheVariants.{Quiet, Read, Write}
use Rattle.tm_table.specs.State.{Hart}
use Rattle.tm_plan_cases.specs.declared.program.Program.{Program}
use Rattle.tm_plan_map.specs.Map.{text_base, within, windows_base, windows_size}
use Rattle.tm_plan_cases.specs.declared.cases.Stream.{Stream}
use Rattle.tm_plan_cases.specs.Streams.{stream_in}
use Rattle.tm_world.specs.Place.{harts, is_text, is_table, is_window, byte_of}
use Rattle.tm_world.specs.Run.{Step, own, now, first_state, hart_of, access_of, written, Reads, Writes}
use Rattle.tm_world.specs.Kinds.{IsOpening, Path, Follows, Legal, HalfPath, HalfStep, stream_at, half_owed}
use Rattle.tm_world.specs.Kinds.{legal_owed, phase_of}
use Rattle.tm_world.specs.Course.{OnHalf, KeepsOrder, EntersFresh}
use Rattle.tm_world.proofs.Prefix.{earlier, Legal-earlier}
use Rattle.tm_world.proofs.Streams.{stream-of}
use Rattle.tm_runs.specs.World.{Sizes}
use Rattle.tm_plan_map.proofs.Within.{within-parts}
use Rattle.tm_legal.specs.Tame.{Formed, Tame, SparesImage, OutsideSpares}
use Rattle.tm_legal.specs.Laws.{OnLegal, LegalRunsAreHalf, LegalStepsAreHalf}
use Rattle.tm_legal.proofs.Own.{own-here, own-there, owns, of-half}
use Rattle.tm_legal.proofs.Rows.{IsMachine}
use Rattle.tm_legal.proofs.Inside.{follows-machine, Moves, moves}
use Rattle.tm_legal.proofs.Order.{NoStray, order-no_stray, no_stray-before, based, stream-some}
use Rattle.tm_legal.proofs.Areas.{image-place}
use Rattle.tm_legal.proofs.Phases.{Spares}
use Rattle.tm_legal.proofs.Settling.{half-reads}
use Rattle.tm_legal.proofs.Formed.{formed-sizes}

-- ---- machine states

pub opens-machine : (h : ℕ) (x : List ℕ) → IsOpening h x → IsMachine (first_state x)
unfolding text_base
opens-machine h x o = record { count = o.count; fits = o.fits; zero = o.zero; counter = omega arith }

pub path-machine : (p : Program) (h : ℕ) (x : List ℕ) → IsOpening h x → (own : List Step) → Path p h (first_state x) own
    → IsMachine (now (first_state x) own)
path-machine p h x o [] path = opens-machine h x o
path-machine p h x o (s ∷ past) path =
    follows-machine p h (now (first_state x) past) s (path-machine p h x o past path.1) path.0

-- ---- bytes that are spared

pub written-none : (P : ℕ → Type 0) (a : Access) (b : ℕ) → Writes P a → (P b → ⊥) → written a b ≡ None
written-none P Quiet b w n = refl
written-none P (Read addr width value) b w n = refl
written-none P (Write addr width value) b w n = by (within addr width b) refl
  where
    by : (t : Bool) → within addr width b ≡ t → (if t then Some (byte_of value (b - addr)) else None) ≡ None
    by false e = refl
    by true e =
        let q = within-parts addr width b e in
        let s : addr + (b - addr) ≡ b = omega (arith, q) in
        absurd (n (subst P s (w (b - addr) (omega (arith, q)))))

window-behind : (b : ℕ) → is_window b ≡ true → 0x80C00000 ≤ b
unfolding windows_base windows_size
window-behind b e = let q = within-parts windows_base windows_size b e in omega (arith, q)

pub half-spares : (p : Program) (h : ℕ) (first : Hart) → Sizes p → (b : ℕ) → (is_text p b || is_table p b) ≡ true
    → (own : List Step) → HalfPath p h first own → SparesImage p h first own → Spares b own
half-spares p h first sizes b e [] path spares = tt
half-spares p h first sizes b e (s ∷ past) path spares =
    (by (stream_at p h (now first past).pc) path.0 spares.0, half-spares p h first sizes b e past path.1 spares.1)
  where
    by : (o : Option ℕ) → HalfStep p h o (now first past) past s → OutsideSpares p o s → written (access_of s) b ≡ None
    by None f w = written-none (λ c. IsFalse (is_text p c || is_table p c)) (access_of s) b w
        (λ z. true≢false (sym e ∙ z))
    by (Some c) f w = written-none (λ c. IsTrue (is_window c)) (access_of s) b f.stores
        (λ z. let l = image-place p b sizes e in let m = window-behind b z in omega arith)

-- ---- a legal step of a half path

-- what is known of a half path of a tame hart that is a path too
pub record Known (p : Program) (h : ℕ) (first : Hart) (own : List Step) : Type 0 where
  pub half : HalfPath p h first own
  pub path : Path p h first own
  pub strays : NoStray p h first own
  pub fresh : EntersFresh p h first own
  pub spares : SparesImage p h first own

pub known-before : (p : Program) (h : ℕ) (first : Hart) (s : Step) (past : List Step) → Known p h first (s ∷ past)
    → Known p h first past
known-before p h first s past k = record {
  half = k.half.1;
  path = k.path.1;
  strays = no_stray-before p h first s past k.strays;
  fresh = k.fresh.1;
  spares = k.spares.1;
}

-- inside a stream it moves as said
pub known-moves : (p : Program) → Formed p → (h : ℕ) → h < harts p → (x : List ℕ) → IsOpening h x → (own : List Step)
    → Known p h (first_state x) own → (s : Step) → Follows p h (now (first_state x) own) s → (c : ℕ)
    → stream_at p h (now (first_state x) own).pc ≡ Some c → (stream : Stream) × (stream_in p.cases c h ≡ Some stream)
    × Moves p h c stream (now (first_state x) own) s
known-moves p formed h number x o own k s f c e =
    let (i, few) = stream-some p h (now (first_state x) own).pc c e in
    let (stream, is) = stream-of p.cases c h formed.program.cases few number in
    let bases = based p formed h number x own k.half k.strays k.fresh c few i in (
      stream,
      is,
      moves p formed h c stream number is (now (first_state x) own) s (path-machine p h x o own k.path) bases
          i f,
    )

step : (p : Program) → Formed p → (h : ℕ) → h < harts p → (x : List ℕ) → IsOpening h x → (own : List Step)
    → Known p h (first_state x) own → (s : Step) → Follows p h (now (first_state x) own) s
    → Reads (half_owed p h own) (access_of s) → HalfStep p h (stream_at p h (now (first_state x) own).pc)
    (now (first_state x) own) own s
step p formed h number x o own k s f r = by (stream_at p h (now (first_state x) own).pc) refl
  where
    by : (d : Option ℕ) → stream_at p h (now (first_state x) own).pc ≡ d
        → HalfStep p h d (now (first_state x) own) own s
    by None e = (f, r)
    by (Some c) e = (known-moves p formed h number x o own k s f c e).2.free

module _ (p : Program) (formed : Formed p) (h : ℕ) (number : h < harts p) (tame : Tame p h) (o : ℕ
    → List ℕ) (opens : (g : ℕ) → g < harts p → IsOpening g (o g)) where
  known : (steps : List Step) → HalfPath p h (first_state (o h)) (own h steps)
      → Path p h (first_state (o h)) (own h steps) → Known p h (first_state (o h)) (own h steps)
  known steps half path = record {
    half = half;
    path = path;
    strays = order-no_stray p h (first_state (o h)) (own h steps)
        (of-half p h number o opens (KeepsOrder p h) tame.order (own h steps) (owns h steps) half);
    fresh = of-half p h number o opens (EntersFresh p h) tame.fresh (own h steps) (owns h steps) half;
    spares = of-half p h number o opens (SparesImage p h) tame.spares (own h steps) (owns h steps) half;
  }

  -- ---- the whole run

  pub half-path : (steps : List Step) → Legal p (earlier o steps) → HalfPath p h (first_state (o h)) (own h steps)
  half-path [] legal = tt
  half-path (s ∷ past) legal = by (cases_eq (hart_of s) h) (half-path past (Legal-earlier p o (s ∷ []) past legal))
    where
      by : (hart_of s ≡ h) ⊎ (hart_of s ≡ h → ⊥) → HalfPath p h (first_state (o h)) (own h past)
          → HalfPath p h (first_state (o h)) (own h (s ∷ past))
      by (inr n) before = subst (HalfPath p h (first_state (o h))) (sym (own-there h s past n)) before
      by (inl e) before =
          let path : Path p h (first_state (o h)) (s ∷ own h past) =
          subst (Path p h (first_state (o h))) (own-here h s past e) (legal.paths.each h number) in
          let k = known past before path.1 in
          let reads : Reads (legal_owed p past h (phase_of p past h)) (access_of s) =
          subst (λ (g : ℕ). Reads (legal_owed p past g (phase_of p past g)) (access_of s)) e legal.reads.0 in
          let spares = λ (b : ℕ) (z : (is_text p b || is_table p b) ≡ true).
          half-spares p h (first_state (o h)) (formed-sizes formed) b z (own h past) before k.spares in
          let half = half-reads p formed past h number spares (access_of s) reads in
          subst (HalfPath p h (first_state (o h))) (sym (own-here h s past e))
          (step p formed h number (o h) (opens h number) (own h past) k s path.0 half, before)

  -- what is known of the hart's steps on a legal run
  pub legal-known : (steps : List Step) → Legal p (earlier o steps) → Known p h (first_state (o h)) (own h steps)
  legal-known steps legal = known steps (half-path steps legal) (legal.paths.each h number)

pub legal-steps : (p : Program) → LegalStepsAreHalf p
legal-steps p formed h l tame r legal = half-path p formed h l tame r.opening legal.paths.opening r.steps legal

pub legal-runs : (p : Program) → LegalRunsAreHalf p
legal-runs p formed tame r legal = record {
  opening = legal.paths.opening;
  only = legal.paths.only;
  each = λ h l. legal-steps p formed h l (tame h l) r legal;
}

-- What holds on half runs holds on legal runs.
pub on-legal : (p : Program) → Formed p → (h : ℕ) → h < harts p → Tame p h → (P : Hart → List Step → Type 0)
    → OnHalf p h P → OnLegal p h P
on-legal p formed h l tame P k r legal =
    of-half p h l r.opening legal.paths.opening P k (own h r.steps) (owns h r.steps)
    (legal-steps p formed h l tame r legal)
