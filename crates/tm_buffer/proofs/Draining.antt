-- Machines after drains.
use Rattle.std.proofs.Common.{◌≡◌, ℕ, ◌+◌, ◌<◌, List, [], ◌∷◌, Bool, true, false, ◌&&◌, ◌==◌, Some, refl, sym, ap, ◌∙◌}
use Rattle.std.proofs.Common.{subst, length, eq-eqb}
use Rattle.std.specs.Prelude.{reverse, slice_get, take, if◌then◌else◌}
use Rattle.std.specs.List.{remove}
use Rattle.std.proofs.lemmas.Bool.{cond-true, and_from}
use Rattle.tm_table.specs.declared.state.Access.{Access}
use Rattle.tm_table.specs.declared.state.Access.TheVariants.{Quiet, Read, Write}
use Rattle.tm_table.specs.State.{Hart}
use Rattle.tm_plan_cases.specs.declared.program.Program.{Program}
use Rattle.tm_plan_cases.specs.declared.event.Event.{Event}
use Rattle.tm_plan_map.specs.Slots.{instr_of}
use Rattle.tm_world.specs.Place.{harts, halt_of}
use Rattle.tm_guest.specs.declared.decoded.Decoded.{Decoded}
use Rattle.tm_guest.specs.Fields.{IsRow}
use Rattle.tm_world.specs.Run.{Step, Reads}
use Rattle.tm_world.specs.Course.{is_write}
use Rattle.tm_world.specs.Replay.{state_after}
use Rattle.tm_buffered.specs.Moments.{Drains, Entry, steps_of, waiting, found}
use Rattle.tm_buffered.specs.Moments.{is_fence_op, is_fence_instr}
use Rattle.tm_buffered.proofs.Drains.{waiting-drain, waiting-fall}
use Rattle.tm_buffer.specs.declared.hart.TheConstants.{BUFFER_WRITES}
use Rattle.tm_buffer.specs.Seen.{Seen, IsHalted, buffer, moments, state, steps, with_drain, with_event, draining}
use Rattle.tm_buffer.specs.Turns.{drained_all, fenced_by, fenced, spared}
use Rattle.tm_buffer.specs.Buffer.{owed_by}
use Rattle.tm_buffer.proofs.Trail.{moments-drain}
use Rattle.tm_buffer.proofs.Buffers.{those-left, oldest-first}

-- the moments with one more drain
pub drain-moments : (g : Seen) (h : ℕ) (e : Entry) → moments (with_drain g (draining g h e)) ≡ Drains h e.number ∷ moments g
drain-moments g h e = moments-drain g.program g.journal g.drains (draining g h e) refl

pub drain-steps : (g : Seen) (h : ℕ) (e : Entry) → steps (with_drain g (draining g h e)) ≡ steps g
drain-steps g h e = ap steps_of (drain-moments g h e)

-- The write at place i leaves the buffer.
pub drain-buffer : (g : Seen) (h i : ℕ) (e : Entry) → slice_get (buffer g h) i ≡ Some e
    → buffer (with_drain g (draining g h e)) h ≡ remove (buffer g h) i
drain-buffer g h i e q =
    ap (waiting h) (drain-moments g h e)
    ∙ (waiting-drain h e.number (moments g)
    ∙ those-left (length (steps_of (moments g))) i (buffer g h) e (waiting-fall h (moments g)) q)

-- What drains one after another, where the oldest goes first.
pub drain-oldest : (g t : Seen) (h i : ℕ) (e : Entry) → i + 1 ≡ length (buffer g h) → slice_get (buffer g h) i ≡ Some e
    → t ≡ with_drain g (draining g h e)
    → drained_all t h (reverse (buffer t h)) ≡ drained_all g h (reverse (buffer g h))
drain-oldest g t h i e n q is =
    ap (λ (x : Seen). drained_all x h (reverse (buffer x h))) is
    ∙ (ap (λ (es : List Entry). drained_all (with_drain g (draining g h e)) h (reverse es)) (drain-buffer g h i e q)
    ∙ ap (drained_all g h) (sym (oldest-first (buffer g h) i e n q)))

-- A machine after drains has the same program, limit, journal and steps.
pub record Same (g t : Seen) : Type 0 where
  pub program : t.program ≡ g.program
  pub limit : t.limit ≡ g.limit
  pub journal : t.journal ≡ g.journal
  pub steps : steps t ≡ steps g

pub all-same : (g : Seen) (h : ℕ) (es : List Entry) → Same g (drained_all g h es)
all-same g h [] = record { program = refl; limit = refl; journal = refl; steps = refl }
all-same g h (e ∷ more) =
    let s = all-same (with_drain g (draining g h e)) h more in
    record { program = s.program; limit = s.limit; journal = s.journal; steps = s.steps ∙ drain-steps g h e }

pub same-then : (g t u : Seen) → Same g t → Same t u → Same g u
same-then g t u a b = record {
  program = b.program ∙ a.program;
  limit = b.limit ∙ a.limit;
  journal = b.journal ∙ a.journal;
  steps = b.steps ∙ a.steps;
}

pub fence-same : (g t : Seen) (h : ℕ) (b : Bool) → t ≡ fenced_by g h b → Same g t
fence-same g t h b e = subst (Same g) (sym e) (all-same g h (if b then reverse (buffer g h) else []))

pub spare-same : (g t : Seen) (h : ℕ) (a : Access) → t ≡ spared g h a → Same g t
spare-same g t h a e =
    subst (Same g) (sym e)
    (all-same g h (if is_write a && (length (buffer g h) == BUFFER_WRITES) then take 1 (reverse (buffer g h)) else []))

pub both-same : (g t u : Seen) (h : ℕ) (b : Bool) (a : Access) → t ≡ fenced_by g h b → u ≡ spared t h a → Same g u
both-same g t u h b a e f = same-then g t u (fence-same g t h b e) (spare-same t u h a f)

-- ---- what stays so

pub same-state : (g t : Seen) (h : ℕ) → Same g t → state t h ≡ state g h
same-state g t h s = ap (λ (l : List Step). state_after l h) s.steps

pub same-below : (g t : Seen) (h : ℕ) → Same g t → h < harts g.program → h < harts t.program
same-below g t h s l = subst (λ (p : Program). h < harts p) (sym s.program) l

pub same-halted : (g t : Seen) (h : ℕ) → Same g t → IsHalted t h → IsHalted g h
same-halted g t h s e =
    ap (λ (x : Hart). x.pc) (sym (same-state g t h s)) ∙ (e ∙ ap (λ (p : Program). halt_of p h) s.program)

pub same-room : (g t : Seen) → Same g t → length g.journal < g.limit → length t.journal < t.limit
same-room g t s l =
    subst (λ (n : ℕ). length t.journal < n) (sym s.limit)
    (subst (λ (es : List Event). length es < g.limit) (sym s.journal) l)

pub same-row : (g t : Seen) (h : ℕ) (at : Decoded) → Same g t → IsRow g.program (state g h) at
    → IsRow t.program (state t h) at
same-row g t h at s r =
    subst (λ (p : Program). IsRow p (state t h) at) (sym s.program)
    (subst (λ (x : Hart). IsRow g.program x at) (sym (same-state g t h s)) r)

-- ---- room in a full buffer

and-false : (b : Bool) → (b && false) ≡ false
and-false true = refl
and-false false = refl

pub spare-one : (g t : Seen) (h : ℕ) (e : Entry) (a : Access) → is_write a ≡ true → length (buffer g h) ≡ BUFFER_WRITES
    → slice_get (buffer g h) 7 ≡ Some e → t ≡ with_drain g (draining g h e) → t ≡ spared g h a
spare-one g t h e a w n q is =
    let full : (is_write a && (length (buffer g h) == BUFFER_WRITES)) ≡ true =
    and_from (is_write a) (length (buffer g h) == BUFFER_WRITES) w (eq-eqb (length (buffer g h)) BUFFER_WRITES n) in
    is ∙ sym (ap (drained_all g h) (cond-true (is_write a && (length (buffer g h) == BUFFER_WRITES)) (take 1 (reverse (buffer g h))) []
    full ∙ ap (take 1) (oldest-first (buffer g h) 7 e (sym n) q)))

pub spare-empty : (t : Seen) (h : ℕ) (a : Access) → buffer t h ≡ [] → spared t h a ≡ t
spare-empty t h a e =
    ap (λ (es : List Entry). drained_all t h (if is_write a && (length es == BUFFER_WRITES) then take 1 (reverse es) else [])) e
    ∙ ap (λ (b : Bool). drained_all t h (if b then take 1 (reverse []) else [])) (and-false (is_write a))

-- a step that doesn't read owes nothing, and before one that does nothing drains
pub spare-reads : (t u : Seen) (h : ℕ) (a : Access) → u ≡ spared t h a
    → Reads (owed_by (found t.program h (moments t))) a → Reads (owed_by (found u.program h (moments u))) a
spare-reads t u h Quiet e r = tt
spare-reads t u h (Write addr width value) e r = tt
spare-reads t u h (Read addr width value) e r =
    subst (λ (g : Seen). Reads (owed_by (found g.program h (moments g))) (Read addr width value)) (sym e) r

-- a step with the word of a FENCE finds an empty buffer
pub spare-fence : (t u : Seen) (h : ℕ) (a : Access) → u ≡ spared t h a → buffer t h ≡ [] → buffer u h ≡ []
spare-fence t u h a e f = ap (λ (g : Seen). buffer g h) (e ∙ spare-empty t h a f) ∙ f

-- ---- the event

-- How the machine is left by a turn.
pub turn-longer : (g t u v : Seen) (h : ℕ) (b : Bool) (at : Decoded) (a : Access) (e : Event) → t ≡ fenced_by g h b
    → b ≡ is_fence_op at.instr.op → instr_of at.word ≡ Some at.instr → u ≡ spared t h a → e.word ≡ at.word
    → e.access ≡ a → v ≡ with_event u e → v ≡ with_event (spared (fenced g h e.word) h e.access) e
turn-longer g t u v h b at a e one op is two word access last =
    let fence : is_fence_instr (instr_of e.word) ≡ b = ap is_fence_instr (ap instr_of word ∙ is) ∙ sym op in
    let first : t ≡ fenced g h e.word = one ∙ ap (fenced_by g h) (sym fence) in
    last
    ∙ ap (λ (x : Seen). with_event x e)
    (two ∙ (ap (λ (x : Seen). spared x h a) first ∙ ap (spared (fenced g h e.word) h) (sym access)))
