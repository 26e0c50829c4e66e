-- The steps of each buffered run are a half run: a hart finds its own private bytes as it left them, and nobody writes
-- text or tables.
use Rattle.std.proofs.Common.{◌≡◌, ℕ, ◌<◌, List, [], ◌∷◌, Bool, true, false, ◌||◌, Option, None, Some, ◌⊎◌, inl}
use Rattle.std.proofs.Common.{inr, refl, sym, ap, ap₂, ◌∙◌, subst, eq-eqb, eqb-true}
use Rattle.std.proofs.Common.{◌+◌}
use Rattle.std.specs.Prelude.{IfSome, if◌then◌else◌, unwrap_or}
use Rattle.std.proofs.lemmas.Bool.{cases_eq}
use Rattle.tm_table.specs.declared.state.Access.{Access}
use Rattle.tm_table.specs.declared.state.Access.TheVariants.{Quiet, Read, Write}
use Rattle.tm_plan_cases.specs.declared.program.Program.{Program}
use Rattle.tm_world.specs.Lists.{or_else}
use Rattle.tm_world.specs.Place.{harts, image_byte, byte_of, is_private, is_text, is_table}
use Rattle.tm_world.specs.Run.{Step, Always, own, hart_of, access_of, now, first_state, Reads, Writes, written}
use Rattle.tm_world.specs.Run.{last_write}
use Rattle.tm_world.specs.Kinds.{IsOpening, Path, Follows, Half, HalfPath, HalfStep, half_owed, phase_of, stream_at}
use Rattle.tm_world.proofs.Prefix.{earlier, Path-earlier}
use Rattle.tm_legal.specs.Tame.{Formed}
use Rattle.tm_legal.proofs.Own.{own-here, own-there}
use Rattle.tm_legal.proofs.Areas.{private-zero}
use Rattle.tm_legal.proofs.Order.{order-no_stray}
use Rattle.tm_legal.proofs.Half.{Known, known-moves, written-none}
use Rattle.tm_memory.specs.Meet.{AllMeet}
use Rattle.tm_world.proofs.Accesses.{writes-may}
use Rattle.tm_memory.proofs.Owners.{MayKeep, private-keeper, keeps-image}
use Rattle.tm_memory.proofs.Memory.{AreKept, half-kept}
use Rattle.tm_memory.proofs.Meets.{tame}
use Rattle.tm_buffered.specs.Moments.{opened_with}
use Rattle.tm_buffered.specs.Moments.{Moment, Makes, Drains, steps_of, Entry, waiting, memory, left_at, found}
use Rattle.tm_buffered.specs.Moments.{buffered_owed, IsMoment, AtEach, Moments, Buffered}
use Rattle.tm_buffered.specs.Laws.{BufferedIsHalf}
use Rattle.tm_buffered.proofs.Entries.{each-map}
use Rattle.tm_buffered.proofs.Drains.{From, FromOwn, waiting-from, memory-from, from-own, from-always}
use Rattle.tm_buffered.proofs.Lookups.{Counts, left_by, left_by-all, left_at-none, lookups, by_hart, own-left}

-- ---- who wrote what stands in buffers and memory

-- Of these steps each is of a hart of the program, and keeps to its place.
pub record Kept (p : Program) (steps : List Step) : Type 0 where
  pub only : Always (λ past s. hart_of s < harts p) steps
  pub kept : AreKept p steps

-- an entry's write keeps to its place
pub entry-kept : (p : Program) (g : ℕ) (steps : List Step) (e : Entry) → Kept p steps → From g steps e
    → Writes (MayKeep p (phase_of p e.past (hart_of e.step)) (hart_of e.step)) (access_of e.step)
entry-kept p g steps e k f =
    from-always (λ past s. Writes (MayKeep p (phase_of p past (hart_of s)) (hart_of s)) (access_of s)) g steps e f k.kept

pub entry-few : (p : Program) (g : ℕ) (steps : List Step) (e : Entry) → Kept p steps → From g steps e
    → hart_of e.step < harts p
entry-few p g steps e k f = from-always (λ past s. hart_of s < harts p) g steps e f k.only

-- ---- private bytes

private-entry : (p : Program) → Formed p → (h b : ℕ) → h < harts p → is_private h b ≡ true → (steps : List Step)
    → Kept p steps → (e : Entry) → FromOwn steps e → Counts (by_hart h) b e
private-entry p formed h b l i steps k e f = by (written (access_of e.step) b) refl
  where
    by : (o : Option ℕ) → written (access_of e.step) b ≡ o → Counts (by_hart h) b e
    by None w = inr w
    by (Some v) w =
        inl (eq-eqb (hart_of e.step) h (private-keeper p (phase_of p e.past (hart_of e.step)) h (hart_of e.step) b formed
        l (entry-few p (hart_of e.step) steps e k f) i
        (writes-may (MayKeep p (phase_of p e.past (hart_of e.step)) (hart_of e.step)) (access_of e.step) b v
        (entry-kept p (hart_of e.step) steps e k f) w)))

found-private : (p : Program) → Formed p → (h b : ℕ) → h < harts p → is_private h b ≡ true → (before : List Moment)
    → AtEach (IsMoment p) before → Kept p (steps_of before)
    → found p h before b ≡ unwrap_or (last_write b (own h (steps_of before))) 0
found-private p formed h b l i before a k =
    let steps = steps_of before in
    let counts : (e : Entry) → FromOwn steps e → Counts (by_hart h) b e = private-entry p formed h b l i steps k in
    let x : left_at b (waiting h before) ≡ left_by (by_hart h) b (waiting h before) =
    left_by-all (by_hart h) b (waiting h before) (each-map (From h steps) (Counts (by_hart h) b) (waiting h before)
    (λ e f. counts e (from-own h steps e f)) (waiting-from h before)) in
    let y : left_at b (memory before) ≡ left_by (by_hart h) b (memory before) =
    left_by-all (by_hart h) b (memory before) (each-map (FromOwn steps) (Counts (by_hart h) b) (memory before) counts
    (memory-from before)) in
    ap₂ (λ (o : Option ℕ) (n : ℕ). unwrap_or o n)
    (ap₂ or_else x y ∙ (lookups p h (by_hart h) b (λ e t. eqb-true (hart_of e.step) h t) before a
    ∙ sym (own-left h b steps))) (private-zero p h b formed l i)

-- ---- text and tables

image-entry : (p : Program) → Formed p → (b : ℕ) → (is_text p b || is_table p b) ≡ true → (steps : List Step)
    → Kept p steps → (e : Entry) → FromOwn steps e → written (access_of e.step) b ≡ None
image-entry p formed b i steps k e f =
    written-none (MayKeep p (phase_of p e.past (hart_of e.step)) (hart_of e.step)) (access_of e.step) b
    (entry-kept p (hart_of e.step) steps e k f) (keeps-image p (phase_of p e.past (hart_of e.step)) (hart_of e.step) b
    formed i)

found-image : (p : Program) → Formed p → (h b : ℕ) → (is_text p b || is_table p b) ≡ true → (before : List Moment)
    → Kept p (steps_of before) → found p h before b ≡ image_byte p b
found-image p formed h b i before k =
    let steps = steps_of before in
    let none : (e : Entry) → FromOwn steps e → written (access_of e.step) b ≡ None = image-entry p formed b i steps k in
    let x = left_at-none b (waiting h before) (each-map (From h steps) (λ e. written (access_of e.step) b
    ≡ None) (waiting h before) (λ e f. none e (from-own h steps e f)) (waiting-from h before)) in
    let y = left_at-none b (memory before) (each-map (FromOwn steps) (λ e. written (access_of e.step) b
    ≡ None) (memory before) none (memory-from before)) in
    ap (λ (o : Option ℕ). unwrap_or o (image_byte p b)) (ap₂ or_else x y)

-- ---- what is read

half-byte : (p : Program) → Formed p → (h : ℕ) → h < harts p → (before : List Moment) → AtEach (IsMoment p) before
    → Kept p (steps_of before) → (b u : ℕ) → u ≡ found p h before b
    → IfSome (half_owed p h (own h (steps_of before)) b) (λ n. u ≡ n)
half-byte p formed h l before a k b u e = by (is_private h b) (is_text p b || is_table p b) refl refl
  where
    by : (y z : Bool) → is_private h b ≡ y → (is_text p b || is_table p b) ≡ z
        → IfSome (if y then Some (unwrap_or (last_write b (own h (steps_of before))) 0)
        else (if z then Some (image_byte p b) else None)) (λ n. u ≡ n)
    by true z f g = e ∙ found-private p formed h b l f before a k
    by false true f g = e ∙ found-image p formed h b g before k
    by false false f g = tt

half-reads : (p : Program) → Formed p → (h : ℕ) → h < harts p → (before : List Moment) → AtEach (IsMoment p) before
    → Kept p (steps_of before) → (x : Access) → Reads (buffered_owed p h before) x
    → Reads (half_owed p h (own h (steps_of before))) x
half-reads p formed h l before a k Quiet r = tt
half-reads p formed h l before a k (Write addr width value) r = tt
half-reads p formed h l before a k (Read addr width value) r =
    λ i m. half-byte p formed h l before a k (addr + i) (byte_of value i) (r i m)

-- ---- the whole run

pub made-before : (p : Program) (o : ℕ → List ℕ) (s : Step) (before : List Moment)
    → Buffered p (opened_with o (Makes s ∷ before)) → Buffered p (opened_with o before)
made-before p o s before b = record {
  paths = Path-earlier p o (s ∷ []) (steps_of before) b.paths;
  moments = b.moments.1;
}

pub drained-before : (p : Program) (o : ℕ → List ℕ) (h w : ℕ) (before : List Moment)
    → Buffered p (opened_with o (Drains h w ∷ before)) → Buffered p (opened_with o before)
drained-before p o h w before b = record { paths = b.paths; moments = b.moments.1 }

module _ (p : Program) (m : AllMeet p) (o : ℕ → List ℕ) where
  known : (h : ℕ) → h < harts p → (past : List Step) → Half p (earlier o past)
      → Path p h (first_state (o h)) (own h past) → Known p h (first_state (o h)) (own h past)
  known h l past half path =
      let t = tame p m h l in
      record {
        half = half.each h l;
        path = path;
        strays = order-no_stray p h (first_state (o h)) (own h past) (t.order (earlier o past) half);
        fresh = t.fresh (earlier o past) half;
        spares = t.spares (earlier o past) half;
      }

  half-step : (h : ℕ) → h < harts p → IsOpening h (o h) → (past : List Step) → Known p h (first_state (o h)) past
      → (s : Step) → Follows p h (now (first_state (o h)) past) s → Reads (half_owed p h past) (access_of s)
      → HalfStep p h (stream_at p h (now (first_state (o h)) past).pc) (now (first_state (o h)) past) past s
  half-step h l opens past k s f r = by (stream_at p h (now (first_state (o h)) past).pc) refl
    where
      by : (c : Option ℕ) → stream_at p h (now (first_state (o h)) past).pc ≡ c
          → HalfStep p h c (now (first_state (o h)) past) past s
      by None e = (f, r)
      by (Some c) e = (known-moves p m.formed h l (o h) opens past k s f c e).2.free

  one-more : (s : Step) (before : List Moment) → Buffered p (opened_with o (Makes s ∷ before))
      → Half p (earlier o (steps_of before)) → (h : ℕ) → h < harts p
      → HalfPath p h (first_state (o h)) (own h (s ∷ steps_of before))
  one-more s before b half h l = by (cases_eq (hart_of s) h)
    where
      by : (hart_of s ≡ h) ⊎ (hart_of s ≡ h → ⊥) → HalfPath p h (first_state (o h)) (own h (s ∷ steps_of before))
      by (inr n) = subst (HalfPath p h (first_state (o h))) (sym (own-there h s (steps_of before) n)) (half.each h l)
      by (inl e) =
          let path : Path p h (first_state (o h)) (s ∷ own h (steps_of before)) =
          subst (Path p h (first_state (o h))) (own-here h s (steps_of before) e) (b.paths.each h l) in
          let k = known h l (steps_of before) half path.1 in
          let kept : Kept p (steps_of before) = record {
            only = half.only;
            kept = half-kept p (λ g c. (m.each g c).writes) o (steps_of before) half;
          } in
          let reads : Reads (buffered_owed p h before) (access_of s) =
          subst (λ (g : ℕ). Reads (buffered_owed p g before) (access_of s)) e b.moments.0.1 in
          let read = half-reads p m.formed h l before b.moments.1 kept (access_of s) reads in
          subst (HalfPath p h (first_state (o h))) (sym (own-here h s (steps_of before) e))
          (half-step h l (b.paths.opening h l) (own h (steps_of before)) k s path.0 read, half.each h l)

  pub all-half : (list : List Moment) → Buffered p (opened_with o list) → Half p (earlier o (steps_of list))
  all-half [] b = record { opening = b.paths.opening; only = b.paths.only; each = λ h l. tt }
  all-half (Makes s ∷ before) b = record {
    opening = b.paths.opening;
    only = b.paths.only;
    each = one-more s before b (all-half before (made-before p o s before b));
  }
  all-half (Drains h w ∷ before) b = all-half before (drained-before p o h w before b)

pub buffered-half : (p : Program) → BufferedIsHalf p
buffered-half p m r b = all-half p m r.opening r.list b
