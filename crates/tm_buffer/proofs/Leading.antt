-- Drawn rounds of a machine are rounds of its moments, and so end within the budget.
use Rattle.std.proofs.Common.{◌≡◌, ℕ, suc, ◌+◌, ◌<◌, ◌≤◌, ◌==◌, ◌&&◌, List, [], ◌∷◌, Option, None, Some, refl, sym, ap, ◌∙◌}
use Rattle.std.proofs.Common.{subst, length, arith, ap₂}
use Rattle.std.specs.Prelude.{reverse, take, if◌then◌else◌}
use Rattle.std.specs.List.{AllByRecursion as Each}
use Rattle.std.proofs.lemmas.List.{length-reverse}
use Rattle.tm_plan_cases.specs.declared.program.Program.{Program}
use Rattle.tm_plan_cases.specs.declared.event.Event.{Event}
use Rattle.tm_table.specs.declared.state.Access.{Access}
use Rattle.tm_plan_map.specs.Slots.{instr_of}
use Rattle.tm_world.specs.Place.{harts, halt_of}
use Rattle.tm_world.specs.Run.{Step}
use Rattle.tm_world.specs.Course.{is_write}
use Rattle.tm_world.specs.Replay.{opening, state_after, stepped, replay}
use Rattle.tm_legal.specs.Tame.{Formed}
use Rattle.tm_memory.specs.Meet.{AllMeet}
use Rattle.tm_memory.proofs.Meets.{course-meets}
use Rattle.tm_guest.specs.declared.turn.RoundEnd.{RoundEnd}
use Rattle.tm_guest.specs.declared.turn.RoundEnd.TheVariants as ends
use Rattle.tm_buffered.specs.Moments.{Moment, Makes as Made, Entry, Buffered, is_fence_instr}
use Rattle.tm_buffered.specs.Moments.{run_of, steps_of}
use Rattle.tm_rounds.specs.Laws.{SomeIsOff}
use Rattle.tm_buffered_rounds.specs.Turns.{IsSwept, Turns}
use Rattle.tm_buffered_rounds.specs.Turns as rounds
use Rattle.tm_buffered_rounds.proofs.Budget.{sound-budget}
use Rattle.tm_buffer.specs.declared.hart.TheConstants.{BUFFER_WRITES}
use Rattle.tm_buffer.specs.declared.turn.Drained.{Drained as Answer}
use Rattle.tm_buffer.specs.declared.turn.Drained.TheVariants.{Went, Nothing}
use Rattle.tm_buffer.specs.Listed.{Drain}
use Rattle.tm_buffer.specs.Seen.{Seen, IsHalted, IsRun, buffer, moments, moments_of, opened, steps, with_drain}
use Rattle.tm_buffer.specs.Seen.{with_event, draining}
use Rattle.tm_buffer.specs.Turns.{DrainAnswers, Makes, drained_all, fenced, spared}
use Rattle.tm_buffer.specs.Rounds.{After, to_drain, Goes, Begins, Steps, Skips, Wraps, IsFull, IsSame, EndsAs}
use Rattle.tm_buffer.specs.Budget.{HasBudget}
use Rattle.tm_buffer.proofs.Naming.{replay-long}
use Rattle.tm_buffer.proofs.Trail.{steps-moments, moments-event, early-event, early-drain}
use Rattle.tm_buffer.proofs.Draining.{Same, both-same, drain-moments, drain-steps}
use Rattle.tm_buffer.proofs.Rounding.{drained-same}
use Rattle.tm_buffer.proofs.Sweeping.{swept, landed-more, same-made}

-- no drain came behind the newest event's
abbrev IsEarly : Seen → Type 0
IsEarly g = Each (λ (d : Drain). d.after ≤ length g.journal) (reverse g.drains)

-- What rounds lead to: a buffered run of the same program, by turns of its moments.
record Led (p : Program) (most t h : ℕ) (g : Seen) : Type 0 where
  program : g.program ≡ p
  limit : g.limit ≡ most
  early : IsEarly g
  run : Buffered p (opened (moments g))
  turns : Turns p opening t h (moments g)

runs : (p : Program) (g : Seen) → g.program ≡ p → IsRun g → Buffered p (opened (moments g))
runs p g is run = subst (λ (q : Program). Buffered q (opened (moments g))) is run

-- ---- drains

early-one : (g : Seen) (h : ℕ) (e : Entry) → IsEarly g → IsEarly (with_drain g (draining g h e))
early-one g h e early = early-drain g.journal g.drains (draining g h e) refl early

turns-one : (p : Program) (t k : ℕ) (g : Seen) (h : ℕ) (e : Entry) → Turns p opening t k (moments g)
    → Turns p opening t k (moments (with_drain g (draining g h e)))
turns-one p t k g h e r = subst (Turns p opening t k) (sym (drain-moments g h e)) (rounds.Drain h e.number r)

-- What a drain's answer leaves, where P holds before it: so it does where it does behind each drain.
answer-keeps : (P : Seen → Type 0) (g d : Seen) (h which : ℕ) → ((e : Entry) → P (with_drain g (draining g h e)))
    → P g → (x : Answer) → DrainAnswers g h which x d → P d
answer-keeps P g d h which one now Went a = let (e, at, is) = a.3 in subst P (sym is) (one e)
answer-keeps P g d h which one now Nothing a = subst P (sym a.0) now

-- so behind the drain that is drawn
drawn-keeps : (P : Seen → Type 0) (g d : Seen) (h : ℕ) (o : Option ℕ) → ((e : Entry) → P (with_drain g (draining g h e)))
    → P g → After o g h d → P d
drawn-keeps P g d h None one now a = subst P (sym a) now
drawn-keeps P g d h (Some which) one now a = answer-keeps P g d h which one now a.0 a.1

answer-run : (g d : Seen) (h which : ℕ) (x : Answer) → DrainAnswers g h which x d → IsRun g → IsRun d
answer-run g d h which Went a run = a.4
answer-run g d h which Nothing a run = subst IsRun (sym a.0) run

drawn-run : (g d : Seen) (h : ℕ) (o : Option ℕ) → After o g h d → IsRun g → IsRun d
drawn-run g d h None a run = subst IsRun (sym a) run
drawn-run g d h (Some which) a run = answer-run g d h which a.0 a.1 run

drawn-led : (p : Program) → AllMeet p → (limit seed t h : ℕ) (g d : Seen) → h < harts p → Led p limit t h g
    → After (to_drain seed t h (length (buffer g h))) g h d → Led p limit t h d × IsSwept t h (moments d)
drawn-led p m limit seed t h g d l x a =
    let o = to_drain seed t h (length (buffer g h)) in
    let same = drained-same g d h o a in
    let its : d.program ≡ p = same.program ∙ x.program in
    let back : IsRun g = subst (λ (q : Program). Buffered q (opened (moments g))) (sym x.program) x.run in
    let run = runs p d its (drawn-run g d h o a back) in (
      record {
        program = its;
        limit = same.limit ∙ x.limit;
        early = drawn-keeps IsEarly g d h o (λ e. early-one g h e x.early) x.early a;
        run = run;
        turns = drawn-keeps (λ z. Turns p opening t h (moments z)) g d h o (λ e. turns-one p t h g h e x.turns) x.turns
            a;
      },
      swept p m g d h l x.run run seed t a,
    )

-- ---- drains before a step

-- hart h's turn, with all of its signals in memory where they have to be
record Ready (p : Program) (t h : ℕ) (g : Seen) : Type 0 where
  early : IsEarly g
  turns : Turns p opening t h (moments g)
  swept : IsSwept t h (moments g)

ready-one : (p : Program) (t h : ℕ) (g : Seen) (e : Entry) → Ready p t h g → Ready p t h (with_drain g (draining g h e))
ready-one p t h g e x = record {
  early = early-one g h e x.early;
  turns = turns-one p t h g h e x.turns;
  swept = λ eighth.
      let t' = with_drain g (draining g h e) in
      let a = x.swept eighth in
      let b = landed-more g t' h h e refl in
      let c = same-made g t' h (drain-steps g h e) in
      omega arith;
}

ready-all : (p : Program) (t h : ℕ) (g : Seen) (es : List Entry) → Ready p t h g → Ready p t h (drained_all g h es)
ready-all p t h g [] x = x
ready-all p t h g (e ∷ more) x = ready-all p t h (with_drain g (draining g h e)) more (ready-one p t h g e x)

ready-fenced : (p : Program) (t h word : ℕ) (g : Seen) → Ready p t h g → Ready p t h (fenced g h word)
ready-fenced p t h word g x =
    ready-all p t h g (if is_fence_instr (instr_of word) then reverse (buffer g h) else []) x

ready-spared : (p : Program) (t h : ℕ) (a : Access) (g : Seen) → Ready p t h g → Ready p t h (spared g h a)
ready-spared p t h a g x =
    ready-all p t h g
    (if is_write a && (length (buffer g h) == BUFFER_WRITES) then take 1 (reverse (buffer g h)) else []) x

-- ---- steps

-- a step of the hart whose turn it is
one-turn : (p : Program) (t : ℕ) (s : Step) (h : ℕ) (list : List Moment) → s.event.hart ≡ h
    → Turns p opening t h list → h < harts p → ((state_after (steps_of list) h).pc ≡ halt_of p h → ⊥)
    → IsSwept t h list → Turns p opening t (suc h) (Made s ∷ list)
one-turn p t s h list e b l off sw =
    subst (λ (k : ℕ). Turns p opening t (suc k) (Made s ∷ list)) e
    (rounds.Steps s (subst (λ (k : ℕ). Turns p opening t k list) (sym e) b)
    (subst (λ (k : ℕ). k < harts p) (sym e) l)
    (subst (λ (k : ℕ). (state_after (steps_of list) k).pc ≡ halt_of p k → ⊥) (sym e) off)
    (subst (λ (k : ℕ). IsSwept t k list) (sym e) sw))

made-led : (p : Program) (limit t h : ℕ) (d after : Seen) (place : ℕ) (e : Event) → h < harts p → Led p limit t h d
    → IsSwept t h (moments d) → Makes d h place e after → Led p limit t (suc h) after
made-led p limit t h d after place e l x sw makes =
    let u = spared (fenced d h e.word) h e.access in
    let ready : Ready p t h d = record { early = x.early; turns = x.turns; swept = sw } in
    let y : Ready p t h u =
    ready-spared p t h e.access (fenced d h e.word) (ready-fenced p t h e.word d ready) in
    let same : Same d u =
    both-same d (fenced d h e.word) u h (is_fence_instr (instr_of e.word)) e.access refl refl in
    let s = stepped u.program [] (replay u.program [] (reverse u.journal)) e in
    let grown : moments (with_event u e) ≡ Made s ∷ moments u =
    moments-event u.program u.journal u.drains e y.early in
    let off : (state_after (steps u) h).pc ≡ halt_of p h → ⊥ =
    λ z. makes.off_halt (ap (λ (steps : List Step). (state_after steps h).pc) (sym same.steps)
    ∙ (z ∙ ap (λ (q : Program). halt_of q h) (sym x.program))) in
    let go = one-turn p t s h (moments u) makes.hart y.turns l off y.swept in
    let its : after.program ≡ p = ap (λ (z : Seen). z.program) makes.longer ∙ (same.program ∙ x.program) in
    record {
      program = its;
      limit = ap (λ (z : Seen). z.limit) makes.longer ∙ (same.limit ∙ x.limit);
      early = subst IsEarly (sym makes.longer) (early-event u.journal (reverse u.drains) e y.early);
      run = runs p after its makes.goes_on;
      turns = subst (λ (z : Seen). Turns p opening t (suc h) (moments z)) (sym makes.longer)
          (subst (Turns p opening t (suc h)) (sym grown) go);
    }

leads : (from : Seen) → AllMeet from.program → (seed : ℕ) → Led from.program from.limit 0 0 from → (t h : ℕ) (g : Seen)
    → Goes seed 0 from t h g → Led from.program from.limit t h g
leads from m seed start t h g Begins = start
leads from m seed start t h g (Steps {t = n} {h = k} {g = x} d place e after b l drains makes) =
    let before = leads from m seed start n k x b in
    let (y, sw) = drawn-led from.program m from.limit seed n k x d l before drains in
    made-led from.program from.limit n k d after place e l y sw makes
leads from m seed start t h g (Skips {t = n} {h = k} {g = x} d b l drains halted) =
    let before = leads from m seed start n k x b in
    let (y, sw) = drawn-led from.program m from.limit seed n k x d l before drains in
    record {
      program = y.program;
      limit = y.limit;
      early = y.early;
      run = y.run;
      turns = rounds.Skips y.turns l (halted ∙ ap (λ (q : Program). halt_of q k) y.program) sw;
    }
leads from m seed start t h g (Wraps {t = n} {g = x} b) =
    let y = leads from m seed start n (harts from.program) x b in
    record {
      program = y.program;
      limit = y.limit;
      early = y.early;
      run = y.run;
      turns = rounds.Wraps y.turns;
    }

-- ---- the end

pub no-drains : (ds : List Drain) → length ds ≡ 0 → ds ≡ []
no-drains [] e = refl
no-drains (d ∷ ds) e = absurd (omega arith)

starts : (from : Seen) → from.journal ≡ [] → from.drains ≡ [] → IsRun from → Led from.program from.limit 0 0 from
unfolding moments_of
starts from none still run =
    let empty : moments from ≡ [] = ap₂ (moments_of from.program) none still in
    record {
      program = refl;
      limit = refl;
      early = subst (λ (ds : List Drain). Each (λ (d : Drain). d.after ≤ length from.journal) (reverse ds)) (sym still)
          tt;
      run = run;
      turns = subst (Turns from.program opening 0 0) (sym empty) rounds.Begins;
    }

-- Within the budget rounds don't end full.
pub in-budget : (seed : ℕ) (from end : Seen) (r : RoundEnd) → HasBudget from → from.journal ≡ [] → from.drains ≡ []
    → IsRun from → EndsAs seed from r end → r ≡ ends.Done
in-budget seed from end ends.Done budget none still run f = refl
in-budget seed from end ends.Full budget none still run f =
    let p = from.program in
    let sound = budget.sound in
    let formed : Formed p = record { program = sound.program; typed = sound.typed; laid = sound.course.laid } in
    let m = course-meets p formed sound.course.hart in
    let h = f.hart in
    let o = to_drain seed f.round h (length (buffer f.before h)) in
    let before = leads from m seed (starts from none still run) f.round h f.before f.goes in
    let same = drained-same f.before end h o f.drained in
    let below : h < harts p = subst (λ (q : Program). h < harts q) (same.program ∙ before.program) f.below in
    let (y, sw) = drawn-led p m from.limit seed f.round h f.before end below before f.drained in
    let off : SomeIsOff p (run_of (opened (moments end))) =
    (h, below, λ z. f.off_halt (z ∙ ap (λ (q : Program). halt_of q h) (sym y.program))) in
    let few = sound-budget p sound (opened (moments end)) y.run f.round h y.turns off in
    let long : length (steps end) ≡ length end.journal =
    ap (λ (steps : List Step). length steps) (steps-moments end.program end.journal end.drains)
    ∙ (replay-long end.program (reverse end.journal) ∙ length-reverse end.journal) in
    absurd (omega (arith, budget.room, y.limit, f.full))
