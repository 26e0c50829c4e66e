-- One moment more, over what a machine keeps.
use Rattle.std.proofs.Common.{◌≡◌, ◌≢◌, ℕ, suc, ◌+◌, ◌<◌, ◌≤◌, List, [], ◌∷◌, ◌++◌, Some, None, Option, ◌⊎◌}
use Rattle.std.proofs.Common.{inl, inr, zero, true, ap₂, refl, sym, ap, ◌∙◌, subst, length, get_or, set, arith, length-append}
use Rattle.std.proofs.Common.{get_or-set_same, get_or-set_other}
use Rattle.std.specs.Prelude.{IsTrue, IsFalse, reverse, unwrap_or}
use Rattle.std.specs.List.{remove}
use Rattle.std.specs.List.{AllByRecursion as Each}
use Rattle.std.proofs.lemmas.Bool.{cases_eq}
use Rattle.std.proofs.lemmas.List.{length-reverse}
use Rattle.std.proofs.lemmas.List.Elements.{All-from_recursion}
use Rattle.std.proofs.Math.ListN.{length-set}
use Rattle.tm_table.specs.declared.state.Access.{Access}
use Rattle.tm_table.specs.declared.state.Access.TheVariants.{Quiet, Read, Write}
use Rattle.tm_table.specs.State.{Hart, hart_of as hart_in}
use Rattle.tm_table.specs.Row.{row, row_word}
use Rattle.tm_plan_cases.specs.declared.program.Program.{Program}
use Rattle.tm_plan_cases.specs.declared.event.Event.{Event}
use Rattle.tm_plan_journal.specs.Journaled.{Journaled}
use Rattle.tm_ram.specs.Region.{Region}
use Rattle.tm_world.specs.Lists.{or_else}
use Rattle.tm_world.specs.Place.{harts, halt_of, image_byte}
use Rattle.tm_world.specs.Run.{Step, own, now, hart_of, access_of, first_state, Reads, read_value, HasShape, written}
use Rattle.tm_world.specs.Run.{IsFitting}
use Rattle.tm_world.specs.Kinds.{Path, Paths, Follows, IsPossible}
use Rattle.tm_world.specs.Course.{is_write}
use Rattle.tm_world.proofs.Prefix.{earlier}
use Rattle.tm_legal.proofs.Own.{own-here, own-there}
use Rattle.tm_guest.specs.declared.decoded.Decoded.{Decoded}
use Rattle.tm_guest.specs.Fields.{IsRow}
use Rattle.tm_guest.specs.Memory.{IsWritten}
use Rattle.tm_world.specs.Replay.{opening, outcome, state_after, stepped, replay}
use Rattle.tm_memory.proofs.NoLines.{by_row, stepped-row, path-more}
use Rattle.tm_guest.proofs.Harts.{state-here, state-there}
use Rattle.tm_buffered.specs.Moments.{Moment, Makes, Drains, steps_of, Entry, waiting, memory, left_at, fences}
use Rattle.tm_buffered.specs.Moments.{is_fence_instr, buffered_owed, writes_by, MayDrain, IsMoment, AtEach, Buffered, share}
use Rattle.tm_plan_map.specs.Slots.{instr_of}
use Rattle.tm_buffered.proofs.Drains.{waiting-more, waiting-same, waiting-drain, waiting-other, waiting-fall}
use Rattle.tm_buffered.proofs.Drains.{memory-drain}
use Rattle.tm_buffered.proofs.Lookups.{is-by, not-writes}
use Rattle.tm_buffer.specs.declared.hart.BufferedHart.{BufferedHart}
use Rattle.tm_buffer.specs.declared.hart.Waiting.{Waiting}
use Rattle.tm_buffer.specs.Listed.{Drain, Listed}
use Rattle.tm_buffer.specs.Buffer.{access_by, AreWaiting, queued}
use Rattle.tm_buffer.specs.Seen.{Seen, IsHalted, moments, moments_of, opened, state, with_drain, draining}
use Rattle.tm_buffer.specs.Fields.{IsState, AreStates, IsMemory, in_buffers, Keeps}
use Rattle.tm_buffer.proofs.Trail.{steps-moments, moments-event, moments-drain, early-event, early-drain}
use Rattle.tm_buffer.proofs.Naming.{replay-long}
use Rattle.tm_buffer.proofs.Buffers.{entry-at, IsFreeOf, older-free, removed, same-length}
use Rattle.tm_buffer.proofs.Shown.{shown, unwrap-else}

-- ---- sums

in_buffers-set : (states : List BufferedHart) (h : ℕ) (new d : BufferedHart) → h < length states
    → in_buffers (set states h new) + length (get_or states h d).buffer.items
    ≡ in_buffers states + length new.buffer.items
in_buffers-set [] h new d l = absurd (omega arith)
in_buffers-set (s ∷ more) zero new d l = omega arith
in_buffers-set (s ∷ more) (suc h) new d l = let ih = in_buffers-set more h new d (omega arith) in omega arith

-- ---- what an instruction does

-- The event of hart h's row, in memory as the hart finds it, and its state after it.
pub record Acts (p : Program) (list : List Moment) (h : ℕ) (at : Decoded) (e : Event) (after : Hart) : Type 0 where
  pub hart : e.hart ≡ h
  pub pc : e.pc ≡ (state_after (steps_of list) h).pc
  pub word : e.word ≡ at.word
  pub step : row (state_after (steps_of list) h) at.instr (read_value e.access) ≡ (after, e.access)
  pub shape : HasShape e.access
  pub reads : Reads (buffered_owed p h list) e.access
  pub fence : IsTrue (is_fence_instr (instr_of e.word)) → waiting h list ≡ []

module _ (p : Program) (h : ℕ) (list : List Moment) (at : Decoded) (e : Event) (next : Hart)
    (off : (state_after (steps_of list) h).pc ≢ halt_of p h) (f : IsRow p (state_after (steps_of list) h) at)
    (a : Acts p list h at e next) where
  abbrev Before : Hart
  Before = state_after (steps_of list) h

  abbrev Newest : Step
  Newest = by_row Before e

  made : row_word Before e.word (read_value e.access) ≡ Some (next, e.access)
  made =
      ap (λ (x : ℕ). row_word Before x (read_value e.access)) a.word
      ∙ (f.made (read_value e.access) ∙ ap (λ (y : Hart × Access). Some y) a.step)

  pub is-next : Newest.after ≡ next
  is-next = ap (outcome Before) made

  pub follows : Follows p h Before Newest
  follows = record {
    place = a.pc;
    goes = off;
    word = f.word ∙ ap (λ (x : ℕ). Some x) (sym a.word);
    row = made ∙ ap (λ (y : Hart). Some (y, e.access)) (sym is-next);
    possible = subst (λ (y : Hart × Access). IsPossible y.1) a.step (f.possible (read_value e.access));
    shape = a.shape;
  }

  pub goes-on : h < harts p → Buffered p (opened list) → Buffered p (opened (Makes Newest ∷ list))
  goes-on l b = record {
    paths = path-more p h Newest (steps_of list) l a.hart follows b.paths;
    moments = (
      (
        subst (λ (k : ℕ). IsTrue (fences Newest) → waiting k list ≡ []) (sym a.hart) a.fence,
        subst (λ (k : ℕ). Reads (buffered_owed p k list) e.access) (sym a.hart) a.reads,
      ),
      b.moments,
    );
  }

-- ---- harts

-- one hart's state changes
states-set : (p : Program) (list more : List Moment) (h : ℕ) (states : List BufferedHart) (new : BufferedHart)
    → h < harts p → AreStates p list states → IsState more h new
    → ((g : ℕ) (s : BufferedHart) → (g ≡ h → ⊥) → IsState list g s → IsState more g s)
    → AreStates p more (set states h new)
states-set p list more h states new l a is other = record {
  count = length-set states h new ∙ a.count;
  each = λ g d m. by g d m (cases_eq g h);
}
  where
    by : (g : ℕ) (d : BufferedHart) → g < harts p → (g ≡ h) ⊎ (g ≡ h → ⊥) → IsState more g (get_or (set states h new) g d)
    by g d m (inl q) =
        let room : h < length states = subst (λ (n : ℕ). h < n) (sym a.count) l in
        subst (λ (k : ℕ). IsState more k (get_or (set states h new) k d)) (sym q)
        (subst (IsState more h) (sym (get_or-set_same states h new d room)) is)
    by g d m (inr n) =
        subst (IsState more g) (sym (get_or-set_other states h g new d n)) (other g (get_or states g d) n (a.each g d m))

-- ---- memory

memory-more : (p : Program) (list : List Moment) (h n : ℕ) (m : MayDrain h n list) (w : Waiting)
    → access_of m.write.step ≡ access_by w → (r t : Region) → IsWritten r (access_by w) t → IsMemory p list r
    → IsMemory p (Drains h n ∷ list) t
memory-more p list h n m w access r t x k = record {
  region = record { base = x.base ∙ k.region.base; end = omega (arith, x.base, x.long, k.region.end) };
  bytes = λ b lo hi.
      let from : r.base ≤ b = subst (λ (y : ℕ). y ≤ b) (sym k.region.base) lo in
      x.bytes b from
      ∙ (ap (unwrap_or (written (access_by w) b)) (k.bytes b lo hi)
      ∙ (sym (unwrap-else (written (access_by w) b) (left_at b (memory list)) (image_byte p b))
      ∙ ap (λ (a : Access). unwrap_or (or_else (written a b) (left_at b (memory list))) (image_byte p b)) (sym access)
      ∙ ap (λ (es : List Entry). unwrap_or (left_at b es) (image_byte p b)) (sym (memory-drain h n list m))));
}

-- ---- an event

width-most : (width value : ℕ) → IsFitting width value → width ≤ 8
width-most width value (inl e, f) = omega arith
width-most width value (inr (inl e), f) = omega arith
width-most width value (inr (inr (inl e)), f) = omega arith
width-most width value (inr (inr (inr e)), f) = omega arith

queues : (p : Program) (h place : ℕ) (list : List Moment) (s : Step) (ws : List Waiting) → hart_of s ≡ h
    → AtEach (IsMoment p) list → place ≡ length (steps_of list) → (a : Access) → access_of s ≡ a → HasShape a
    → IsPossible a → AreWaiting ws (waiting h list) → AreWaiting (queued place a ws) (waiting h (Makes s ∷ list))
queues p h place list s ws e moments at (Write addr width value) is shape possible before =
    let y : writes_by h s ≡ true = is-by h s e (ap is_write is) in
    let wide = width-most width value shape in
    subst (AreWaiting (record { write = place; addr = addr; width = width; value = value } ∷ ws))
    (sym (waiting-more p h s list moments y)) (
      at,
      is,
      record {
        wide = shape.0;
        width = wide;
        aligned = possible.0;
        from = possible.1;
        end = possible.2;
      },
      before,
    )
queues p h place list s ws e moments at Quiet is shape possible before =
    subst (AreWaiting ws) (sym (waiting-same h s list (not-writes h s (inr (ap is_write is))))) before
queues p h place list s ws e moments at (Read addr width value) is shape possible before =
    subst (AreWaiting ws) (sym (waiting-same h s list (not-writes h s (inr (ap is_write is))))) before

queue-long : (place : ℕ) (a : Access) (ws : List Waiting) → length (queued place a ws) ≤ length ws + 1
queue-long place (Write addr width value) ws = omega arith
queue-long place Quiet ws = omega arith
queue-long place (Read addr width value) ws = omega arith

-- what a machine keeps where one of its harts has changed
abbrev pub longer : Journaled → Event → Journaled
longer j e = record { events = j.events ++ e ∷ []; room = j.room }

module _ (p : Program) (limit h : ℕ) (decodes : List Decoded) (states : List BufferedHart) (r : Region)
    (j : Journaled) (d : Listed) (k : Keeps p limit decodes states r j d) (l : h < harts p) where
  abbrev Now : List Moment
  Now = moments_of p j.events d.drains

  long-steps : length j.events ≡ length (steps_of Now)
  long-steps = sym (ap (λ (s : List Step). length s) (steps-moments p j.events d.drains)
      ∙ (replay-long p (reverse j.events) ∙ length-reverse j.events))

  pub after-event : (at : Decoded) (e : Event) (next : Hart) (old new : BufferedHart)
      → (state_after (steps_of Now) h).pc ≢ halt_of p h → IsRow p (state_after (steps_of Now) h) at
      → Acts p Now h at e next → length j.events < limit → old ≡ get_or states h old → hart_in new.cpu ≡ next
      → new.buffer.items ≡ queued (length j.events) e.access old.buffer.items
      → Keeps p limit decodes (set states h new) r (longer j e) d
  after-event at e next old new off f a room was is queue =
      let s = by_row (state_after (steps_of Now) h) e in
      let possible = (follows p h Now at e next off f a).possible in
      let same : stepped p [] (replay p [] (reverse j.events)) e ≡ s =
      stepped-row p (replay p [] (reverse j.events)) e h a.hart
      ∙ ap (λ (past : List Step). by_row (state_after past h) e) (sym (steps-moments p j.events d.drains)) in
      let grown : moments_of p (j.events ++ e ∷ []) d.drains ≡ Makes s ∷ Now =
      moments-event p j.events d.drains e k.early ∙ ap (λ (x : Step). Makes x ∷ Now) same in
      let kept : IsState Now h old = subst (IsState Now h) (sym was) (k.each_hart.each h old l) in
      let stands : AreStates p (Makes s ∷ Now) (set states h new) =
      states-set p Now (Makes s ∷ Now) h states new l k.each_hart
      (record {
        state = is ∙ (sym (is-next p h Now at e next off f a) ∙ sym (state-here h s (steps_of Now) a.hart));
        buffer = subst (λ (ws : List Waiting). AreWaiting ws (waiting h (Makes s ∷ Now))) (sym queue)
            (queues p h (length j.events) Now s old.buffer.items a.hart k.goes_on.moments long-steps e.access refl a.shape
            possible kept.buffer);
      })
      (λ g t n q. record {
        state = q.state ∙ sym (state-there g s (steps_of Now) (λ z. n (sym z ∙ a.hart)));
        buffer = subst (AreWaiting t.buffer.items) (sym (waiting-same g s Now (not-writes g s
            (inl (λ z. n (sym z ∙ a.hart)))))) q.buffer;
      }) in
      let room-in : h < length states = subst (λ (n : ℕ). h < n) (sym k.each_hart.count) l in
      let sum = in_buffers-set states h new old room-in in
      let same-old : length (get_or states h old).buffer.items ≡ length old.buffer.items =
      ap (λ (t : BufferedHart). length t.buffer.items) (sym was) in
      let more = queue-long (length j.events) e.access old.buffer.items in
      let long : length new.buffer.items ≡ length (queued (length j.events) e.access old.buffer.items) =
      ap (λ (ws : List Waiting). length ws) queue in
      let count = length-append j.events (e ∷ []) in
      record {
        program = k.program;
        unstuck = k.unstuck;
        few = k.few;
        room = k.room;
        within = omega arith;
        space = k.space;
        each_once = omega (arith, k.each_once);
        early = early-event j.events (reverse d.drains) e k.early;
        rows = k.rows;
        each_hart = subst (λ (x : List Moment). AreStates p x (set states h new)) (sym grown) stands;
        memory = subst (λ (x : List Moment). IsMemory p x r) (sym grown)
            (record { region = k.memory.region; bytes = k.memory.bytes });
        goes_on = subst (λ (x : List Moment). Buffered p (opened x)) (sym grown)
            (goes-on p h Now at e next off f a l k.goes_on);
      }

  -- the entry that drains, and that it may
  abbrev Drain-of : Waiting → ℕ → Drain
  Drain-of w after = record { after = after; hart = h; write = w.write }

  may-drain : (i : ℕ) (w : Waiting) (old : BufferedHart) → old ≡ get_or states h old → i < length old.buffer.items
      → w ≡ get_or old.buffer.items i w → IsFreeOf w i old.buffer.items
      → (m : MayDrain h w.write Now) × (access_of m.write.step ≡ access_by w)
  may-drain i w old was m is free =
      let kept : IsState Now h old = subst (IsState Now h) (sym was) (k.each_hart.each h old l) in
      let x = entry-at old.buffer.items (waiting h Now) i w kept.buffer m in
      let access : access_of x.entry.step ≡ access_by w = x.access ∙ ap access_by (sym is) in
      let all = older-free (length (steps_of Now)) i w old.buffer.items (waiting h Now) kept.buffer (waiting-fall h Now)
      m is free in (
        record {
          write = x.entry;
          waits = x.among;
          number = x.number ∙ ap (λ (y : Waiting). y.write) (sym is);
          first = All-from_recursion (λ e. e.number < w.write
              → IsFalse (share (access_of e.step) (access_of x.entry.step))) (waiting h Now)
              (subst (λ (y : Access). Each (λ e. e.number < w.write → IsFalse (share (access_of e.step) y))
              (waiting h Now)) (sym access) all);
        },
        access,
      )

  pub after-drain : (i : ℕ) (w : Waiting) (old new : BufferedHart) (t : Region) (after : ℕ) → after ≡ length j.events
      → old ≡ get_or states h old
      → i < length old.buffer.items → w ≡ get_or old.buffer.items i w → IsFreeOf w i old.buffer.items
      → new.cpu ≡ old.cpu → new.buffer.items ≡ remove old.buffer.items i
      → length new.buffer.items + 1 ≡ length old.buffer.items → IsWritten r (access_by w) t
      → Keeps p limit decodes (set states h new) t j (record { drains = d.drains ++ Drain-of w after ∷ []; room = d.room })
  after-drain i w old new t after when was m is free cpu items long written' =
      let kept : IsState Now h old = subst (IsState Now h) (sym was) (k.each_hart.each h old l) in
      let (may, access) = may-drain i w old was m is free in
      let grown : moments_of p j.events (d.drains ++ Drain-of w after ∷ []) ≡ Drains h w.write ∷ Now =
      moments-drain p j.events d.drains (Drain-of w after) when in
      let stands : AreStates p (Drains h w.write ∷ Now) (set states h new) =
      states-set p Now (Drains h w.write ∷ Now) h states new l k.each_hart
      (record {
        state = ap hart_in cpu ∙ kept.state;
        buffer = subst (λ (ws : List Waiting). AreWaiting ws (waiting h (Drains h w.write ∷ Now))) (sym items)
            (subst (AreWaiting (remove old.buffer.items i)) (sym (waiting-drain h w.write Now))
            (removed (length (steps_of Now)) i old.buffer.items (waiting h Now) w.write w kept.buffer
            (waiting-fall h Now) m (ap (λ (y : Waiting). y.write) (sym is))));
      })
      (λ g x n q. record {
        state = q.state;
        buffer = subst (AreWaiting x.buffer.items) (sym (waiting-other g h w.write Now (λ z. n (sym z)))) q.buffer;
      }) in
      let room-in : h < length states = subst (λ (n : ℕ). h < n) (sym k.each_hart.count) l in
      let sum = in_buffers-set states h new old room-in in
      let same-old : length (get_or states h old).buffer.items ≡ length old.buffer.items =
      ap (λ (y : BufferedHart). length y.buffer.items) (sym was) in
      let count = length-append d.drains (Drain-of w after ∷ []) in
      record {
        program = k.program;
        unstuck = k.unstuck;
        few = k.few;
        room = k.room;
        within = k.within;
        space = k.space;
        each_once = omega (arith, k.each_once);
        early = early-drain j.events d.drains (Drain-of w after) when k.early;
        rows = k.rows;
        each_hart = subst (λ (x : List Moment). AreStates p x (set states h new)) (sym grown) stands;
        memory = subst (λ (x : List Moment). IsMemory p x t) (sym grown)
            (memory-more p Now h w.write may w access r t written' k.memory);
        goes_on = subst (λ (x : List Moment). Buffered p (opened x)) (sym grown)
            (record { paths = k.goes_on.paths; moments = (may, k.goes_on.moments) });
      }

-- ---- told of a machine's value

in_buffers-least : (states : List BufferedHart) (h : ℕ) (d : BufferedHart) → h < length states
    → length (get_or states h d).buffer.items ≤ in_buffers states
in_buffers-least [] h d l = absurd (omega arith)
in_buffers-least (s ∷ more) zero d l = omega arith
in_buffers-least (s ∷ more) (suc h) d l = let ih = in_buffers-least more h d (omega arith) in omega arith

module _ (v : Seen) (p : Program) (limit h : ℕ) (decodes : List Decoded) (states : List BufferedHart) (r : Region)
    (j : Journaled) (d : Listed) (is : shown p limit j d ≡ v) (k : Keeps p limit decodes states r j d)
    (below : h < harts v.program) where
  in-harts : h < harts p
  in-harts = subst (λ (g : Seen). h < harts g.program) (sym is) below

  -- a write that waits finds room among the drains
  pub has-room : (i : ℕ) (old : BufferedHart) → old ≡ get_or states h old → i < length old.buffer.items
      → length d.drains < d.room
  has-room i old was l =
      let few : h < length states = subst (λ (n : ℕ). h < n) (sym k.each_hart.count) in-harts in
      let least = in_buffers-least states h old few in
      let same : length (get_or states h old).buffer.items ≡ length old.buffer.items =
      ap (λ (y : BufferedHart). length y.buffer.items) (sym was) in
      omega (arith, k.each_once, k.within, k.space)

  -- What a machine keeps after an event.
  pub turned : (at : Decoded) (e : Event) (next : Hart) (old new : BufferedHart) (place : ℕ) → place ≡ length j.events
      → (¬ IsHalted v h) → IsRow v.program (state v h) at → Acts v.program (moments v) h at e next
      → length v.journal < v.limit → old ≡ get_or states h old → hart_in new.cpu ≡ next
      → new.buffer.items ≡ queued place e.access old.buffer.items
      → Keeps p limit decodes (set states h new) r (longer j e) d
  turned at e next old new place when off row acts room was same queue =
      let items = subst (λ (n : ℕ). new.buffer.items ≡ queued n e.access old.buffer.items) when queue in
      let at-shown : (¬ IsHalted (shown p limit j d) h) → IsRow p (state (shown p limit j d) h) at
      → Acts p (moments (shown p limit j d)) h at e next → length j.events < limit
      → Keeps p limit decodes (set states h new) r (longer j e) d =
      λ o f a m. after-event p limit h decodes states r j d k in-harts at e next old new o f a m was same items in
      subst (λ (g : Seen). (¬ IsHalted g h) → IsRow g.program (state g h) at
      → Acts g.program (moments g) h at e next → length g.journal < g.limit
      → Keeps p limit decodes (set states h new) r (longer j e) d) is at-shown off row acts room

  -- What it shows after a drain.
  pub drained-shown : (after n : ℕ) (t : Listed) (e : Entry) → after ≡ length j.events → e.number ≡ n
      → t ≡ record { drains = d.drains ++ record { after = after; hart = h; write = n } ∷ []; room = d.room }
      → shown p limit j t ≡ with_drain v (draining v h e)
  drained-shown after n t e when number more =
      ap (shown p limit j) more
      ∙ (ap₂ (λ (a w : ℕ). with_drain (shown p limit j d) (record { after = a; hart = h; write = w })) when (sym number)
      ∙ ap (λ (g : Seen). with_drain g (draining g h e)) is)

-- how much waits after a change of one hart
pub waiting-after : (p : Program) (limit h : ℕ) (decodes : List Decoded) (states : List BufferedHart) (r : Region)
    (j : Journaled) (d : Listed) (new : BufferedHart) → h < harts p → h < length states
    → Keeps p limit decodes (set states h new) r j d
    → length new.buffer.items ≡ length (waiting h (moments_of p j.events d.drains))
waiting-after p limit h decodes states r j d new l few k =
    let kept : IsState (moments_of p j.events d.drains) h new =
    subst (IsState (moments_of p j.events d.drains) h) (get_or-set_same states h new new few)
    (k.each_hart.each h new l) in
    same-length new.buffer.items (waiting h (moments_of p j.events d.drains)) kept.buffer
