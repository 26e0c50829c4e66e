-- What every run of a barrier's words does.
use Rattle.std.proofs.Common.{◌≡◌, ℕ, zero, suc, ◌+◌, ◌*◌, ◌<◌, ◌≤◌, List, [], ◌∷◌, ◌++◌, length, Bool, true, false}
use Rattle.std.proofs.Common.{refl, sym, ap, ◌∙◌, arith, append_assoc, length-append}
use Rattle.std.specs.Prelude.{◌==◌, if◌then◌else◌}
use Rattle.tm_table.specs.declared.state.Access.{Access}
use Rattle.tm_plan_map.specs.Map.{flag_at}
use Rattle.tm_base.specs.Lists.{any, count_from}
use Rattle.tm_world.specs.Lists.{front_to}
use Rattle.tm_world.specs.Course.{gets}
use Rattle.tm_runs.specs.Machine.{World, State, Entry, MayAccess}
use Rattle.tm_runs.specs.Runs.{Now, Does}
use Rattle.tm_runs.proofs.Compose.{keeps_after, keeps_map}
use Rattle.tm_runs.proofs.Tables.{at_front, at_next}
use Rattle.tm_blocks_base.specs.Laws.{accesses}
use Rattle.tm_blocks_base.specs.Instrs.{fence, go_to}
use Rattle.tm_blocks_base.proofs.Lists.{accesses-append}
use Rattle.tm_barrier.specs.Words.{prepare, signal, wait, turn, waits, meet, barrier}
use Rattle.tm_barrier.specs.Laws.{Meeting, MeetUses, Looks, Barred, HasMet, MeetRuns, FenceRuns}
use Rattle.tm_runs.specs.Phases.{signals_in, idles_in}
use Rattle.tm_barrier.specs.Laws.{ReturnRuns}
use Rattle.tm_runs.proofs.Steps.{step_fence, step_jalr}
use Rattle.tm_runs.proofs.Story.{each-map}
use Rattle.tm_barrier.proofs.Lists.{any-here, any-right, front-append}
use Rattle.tm_barrier.proofs.Made.{Made, each-both, worked-append, worked-length}
use Rattle.tm_barrier.proofs.Told.{accesses-each, does-map, looks-meets, late-silent}
use Rattle.tm_barrier.proofs.Told.{late-story}
use Rattle.tm_barrier.proofs.Signal.{Signalled, signal_takes}
use Rattle.tm_barrier.proofs.Wait.{WaitedAll, waits_keep}

module _ (w : World) (lo hi h n c m : ℕ) (meeting : Meeting w h n c) where
  -- what was made up to the signal and behind it
  unfoldable barred-later : (k : ℕ) (s t u : State) → k ≤ 2 * n → Signalled w lo hi h n c m meeting s t
      → Made (Does lo hi (Looks h n)) (idles_in h n m) k t u → Barred lo hi h n c m s u
  barred-later k s t u few g made =
      let es = g.last ∷ g.before in
      record {
        entries = made.entries ++ es;
        log = made.log ∙ (ap (λ (l : List Entry). made.entries ++ l) g.log ∙ sym (append_assoc made.entries es s.log));
        each = each-both (Does lo hi (MeetUses h n c)) made.entries es
            (each-map (does-map lo hi (looks-meets h n c)) made.entries made.each) g.each;
        story = late-story lo hi h n m made.entries es (any-here (signals_in h) g.last g.before g.signals) made.each
            g.story;
        work = omega (
          arith,
          worked-append (idles_in h n m) made.entries es,
          worked-length (idles_in h n m) es,
          g.few,
          made.work,
        );
      }

  has-met : (s t u : State) → u.pc ≡ hi → Signalled w lo hi h n c m meeting s t → WaitedAll w lo hi h n m 0 n t u
      → HasMet lo hi h n c m s u
  unfolding barred-later
  has-met s t u pc g q =
      let ws = q.made.entries in
      let es = g.last ∷ g.before in
      let silent : any (signals_in h) ws ≡ false = late-silent lo hi h n ws q.made.each in
      let front : front_to (signals_in h) (ws ++ es) ≡ ws =
      front-append (signals_in h) ws g.last g.before silent g.signals in
      record {
        pc = pc;
        regs = λ r n2 n3 n4. q.regs r n4 ∙ g.regs r n2 n3;
        mem = q.mem ∙ g.mem;
        fits = λ f. q.fits (g.fits f);
        barred = barred-later (2 * n) s t u (omega arith) g q.made;
        signalled = any-right (signals_in h) ws es (any-here (signals_in h) g.last g.before g.signals);
        met = λ k l ne. ap (any (λ (e : Entry). gets (flag_at k) m e.access)) front ∙ q.saw k (omega arith)
            (omega arith) ne;
        looks = accesses ws;
        only = accesses-each lo hi (Looks h n) ws q.made.each;
        accesses = ap accesses q.made.log ∙ (accesses-append ws t.log ∙ ap (λ (l : List Access). accesses ws ++ l)
            g.accesses);
      }

pub length-front : (h : ℕ) → length (prepare ++ signal h) ≡ 7
unfolding prepare
length-front h = refl

pub length-meet : (h n : ℕ) → length (meet h n) ≡ 7 + length (waits h (count_from 0 n))
unfolding meet
length-meet h n = length-append (prepare ++ signal h) (waits h (count_from 0 n)) ∙ ap
    (λ (k : ℕ). k + length (waits h (count_from 0 n))) (length-front h)

length-turn : (h g : ℕ) → length (turn h g) ≤ 2
length-turn h g = by (g == h)
  where
    by : (b : Bool) → length (if b then [] else wait g) ≤ 2
    by true = omega arith
    by false = omega arith

length-waits : (h n a : ℕ) → length (waits h (count_from a n)) ≤ 2 * n
unfolding waits
length-waits h zero a = omega arith
length-waits h (suc n) a = omega (
  arith,
  length-turn h a,
  length-waits h n (suc a),
  length-append (turn h a) (waits h (count_from (suc a) n)),
)

pub length-barrier : (h n : ℕ) → length (barrier h n) ≤ 9 + 2 * n
unfolding barrier
length-barrier h n =
    omega (
      arith,
      length-append (meet h n ++ (fence ∷ [])) (go_to 1 ∷ []),
      length-append (meet h n) (fence ∷ []),
      length-meet h n,
      length-waits h n 0,
    )

may-flag : (w : World) (h n c g : ℕ) → Meeting w h n c → g < n → MayAccess w (flag_at g)
unfolding flag_at
may-flag w h n c g meeting l = (omega arith, meeting.flags g l)

pub meet_runs : (h n : ℕ) → MeetRuns h n
unfolding meet
meet_runs h n w s c meeting base small at =
    let lo = s.pc in
    let m = s.mem c + 1 in
    let hi = s.pc + 4 * length (meet h n) in
    let front = prepare ++ signal h in
    let back = waits h (count_from 0 n) in
    let few : length (meet h n) ≡ 7 + length back = length-meet h n in
    keeps_after (signal_takes w lo hi h n c m meeting s base refl small (omega arith) (omega arith)
    (at_front w.text s.pc front back at)) (λ t g.
    let pc : t.pc ≡ s.pc + 28 = g.pc in
    keeps_map (λ u made. barred-later w lo hi h n c m meeting (2 * n) s t u (omega arith) g made)
    (λ u q. has-met w lo hi h n c m meeting s t u (omega (arith, few, q.pc)) g q)
    (waits_keep w lo hi h n m meeting.few (λ k l. may-flag w h n c k meeting l) n 0 (omega arith) t (omega arith)
    (omega arith) (record { two = g.two; three = g.three })
    (at_next w.text s.pc t.pc front back 7 (length-front h) pc at)))

pub fence_runs : FenceRuns
fence_runs w s at = step_fence refl at.0 refl (Now refl)

pub return_runs : ReturnRuns
return_runs w s link at one even small = step_jalr link refl at.0 (rw one (omega arith)) refl (Now refl)
