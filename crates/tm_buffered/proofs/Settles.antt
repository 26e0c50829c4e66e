-- Where writes of a byte stand phase after phase in a list of entries, the first of them is what the byte settles to.
use Rattle.std.proofs.Common.{◌≡◌, ℕ, zero, suc, ◌<◌, ◌≤◌, List, [], ◌∷◌, true, false, ◌==◌}
use Rattle.std.proofs.Common.{Option, None, Some, ◌⊎◌, inl, inr, refl, sym, ap, ◌∙◌, subst, arith, le_refl, eqb-true}
use Rattle.std.proofs.Common.{eq-eqb}
use Rattle.std.specs.Prelude.{unwrap_or}
use Rattle.std.specs.List.{AllByRecursion as Each}
use Rattle.std.proofs.lemmas.Bool.{cases_Bool, cases_eq, and_parts, and_from, cond-true}
use Rattle.tm_plan_cases.specs.declared.program.Program.{Program}
use Rattle.tm_world.specs.Lists.{or_else}
use Rattle.tm_world.specs.Place.{harts, image_byte}
use Rattle.tm_world.specs.Run.{Step, hart_of, access_of, written}
use Rattle.tm_world.specs.Writers.{may_write, writers, wrote, settle, settled}
use Rattle.tm_world.specs.Kinds.{phase_of}
use Rattle.tm_memory.proofs.Owners.{among-writers}
use Rattle.tm_meet.proofs.Settling.{settle-same, settle-none, settle-one}
use Rattle.tm_buffered.specs.Moments.{Entry, left_at}
use Rattle.tm_buffered.proofs.Entries.{each-map}
use Rattle.tm_buffered.proofs.Lookups.{left_by, left_by-none, one-misses, Misses, in_turn}
use Rattle.tm_buffered.proofs.Told.{phase_at}
use Rattle.tm_buffered.proofs.Ranks.{UpTo, Ranked}

-- ---- settling, by what each hart wrote in each phase

-- the byte to which b settles for phase n, where f tells what hart h wrote last there in phase q
abbrev pub settled_by : Program → (ℕ → ℕ → Option ℕ) → ℕ → ℕ → Option ℕ
settled_by p f zero b = Some (image_byte p b)
settled_by p f (suc q) b = settle (f q) (settled_by p f q b) (writers p q b)

-- it looks at the phases before alone
pub settled-agrees : (p : Program) (f : ℕ → ℕ → Option ℕ) (past : List Step) (n b : ℕ)
    → ((m h : ℕ) → m < n → wrote p past m b h ≡ f m h) → settled p past n b ≡ settled_by p f n b
settled-agrees p f past zero b e = refl
settled-agrees p f past (suc q) b e =
    settle-same (wrote p past q b) (f q) (settled p past q b) (settled_by p f q b) (writers p q b)
    (λ h. e q h (omega arith)) (settled-agrees p f past q b (λ m h l. e m h (omega arith)))

by-same : (p : Program) (f g : ℕ → ℕ → Option ℕ) (n b : ℕ) → ((m h : ℕ) → f m h ≡ g m h)
    → settled_by p f n b ≡ settled_by p g n b
by-same p f g zero b e = refl
by-same p f g (suc q) b e = settle-same (f q) (g q) (settled_by p f q b) (settled_by p g q b) (writers p q b) (e q)
    (by-same p f g q b e)

-- ---- a list of entries

-- what hart g wrote last at b in its phase n, among these
abbrev pub wrote_in : Program → ℕ → List Entry → ℕ → ℕ → Option ℕ
wrote_in p b xs n g = left_by (in_turn p g n) b xs

-- an entry of another phase
pub turn-not : (p : Program) (n g : ℕ) (e : Entry) → (phase_at p e ≡ n → ⊥) → in_turn p g n e ≡ false
turn-not p n g e d = elim (cases_Bool (in_turn p g n e)) [
  | inr f ↦ f
  | inl y ↦
      let q = and_parts (hart_of e.step == g) (phase_of p e.past g == n) y in
      absurd (d (ap (phase_of p e.past) (eqb-true _ _ q.0) ∙ eqb-true _ _ q.1))
]

later-none : (p : Program) (q n b g : ℕ) (xs : List Entry) → UpTo p q b xs → q < n → wrote_in p b xs n g ≡ None
later-none p q n b g xs u l =
    left_by-none (in_turn p g n) b xs
    (each-map (λ e. (written (access_of e.step) b ≡ None) ⊎ (phase_at p e ≤ q)) (Misses (in_turn p g n) b) xs
    (λ e z. elim z [ inl none ↦ inr none | inr le ↦ inl (turn-not p n g e (λ s. omega arith)) ]) u)

-- the phases behind all writes change nothing
descend : (p : Program) (q n b v : ℕ) (xs : List Entry) → UpTo p q b xs → q ≤ n
    → settled_by p (wrote_in p b xs) (suc n) b ≡ Some v → settled_by p (wrote_in p b xs) (suc q) b ≡ Some v
descend p q zero b v xs u l e = let z : zero ≡ q = omega arith in
    subst (λ (m : ℕ). settled_by p (wrote_in p b xs) (suc m) b ≡ Some v) z e
descend p q (suc n) b v xs u l e = elim (cases_eq q (suc n)) [
  | inl same ↦ subst (λ (m : ℕ). settled_by p (wrote_in p b xs) (suc m) b ≡ Some v) (sym same) e
  | inr ne ↦ descend p q n b v xs u (omega arith)
      (settle-none (wrote_in p b xs (suc n)) (settled_by p (wrote_in p b xs) (suc n) b) v (writers p (suc n) b)
      (λ h. later-none p q (suc n) b h xs u (omega arith)) e)
]

settled-image : (p : Program) (n b v : ℕ) → settled_by p (wrote_in p b []) n b ≡ Some v → v ≡ image_byte p b
settled-image p zero b v e = cc
settled-image p (suc n) b v e =
    settled-image p n b v (settle-none (wrote_in p b [] n) (settled_by p (wrote_in p b []) n b) v (writers p n b)
    (λ h. refl) e)

-- The entry is of a hart of the program, and writes b only where its hart may.
pub record Right (p : Program) (b : ℕ) (e : Entry) : Type 0 where
  pub few : hart_of e.step < harts p
  pub may : (w : ℕ) → written (access_of e.step) b ≡ Some w
      → may_write p (phase_at p e) (hart_of e.step) b ≡ true

-- an entry of its own turn
turn-here : (p : Program) (e : Entry) → in_turn p (hart_of e.step) (phase_at p e) e ≡ true
turn-here p e = and_from (hart_of e.step == hart_of e.step) (phase_at p e == phase_at p e)
    (eq-eqb (hart_of e.step) (hart_of e.step) refl) (eq-eqb (phase_at p e) (phase_at p e) refl)

left-more : (p : Program) (b : ℕ) (e : Entry) (xs : List Entry) (o : Option ℕ) → written (access_of e.step) b ≡ o
    → unwrap_or (left_at b (e ∷ xs)) (image_byte p b) ≡ unwrap_or (or_else o (left_at b xs)) (image_byte p b)
left-more p b e xs o w = ap (λ (z : Option ℕ). unwrap_or (or_else z (left_at b xs)) (image_byte p b)) w

-- Where no write of b is of a phase behind q, what it settles to by then is what the first of them left.
pub settled-found : (p : Program) (q b v : ℕ) (xs : List Entry) → Ranked p b xs → Each (Right p b) xs → UpTo p q b xs
    → settled_by p (wrote_in p b xs) (suc q) b ≡ Some v → v ≡ unwrap_or (left_at b xs) (image_byte p b)
settled-found p q b v [] k r u e = settled-image p (suc q) b v e
settled-found p q b v (x ∷ xs) k r u e =
    by (written (access_of x.step) b) refl (settled-found p q b v xs k.1 r.1 u.1)
  where
    by : (o : Option ℕ) → written (access_of x.step) b ≡ o
        → (settled_by p (wrote_in p b xs) (suc q) b ≡ Some v → v ≡ unwrap_or (left_at b xs) (image_byte p b))
        → v ≡ unwrap_or (left_at b (x ∷ xs)) (image_byte p b)
    by None w before =
        before (sym (by-same p (wrote_in p b (x ∷ xs)) (wrote_in p b xs) (suc q) b
        (λ n g. ap (λ (o : Option ℕ). or_else o (wrote_in p b xs n g)) (one-misses (in_turn p g n) b x (inr w)))) ∙ e)
        ∙ sym (left-more p b x xs None w)
    by (Some w) is before =
        let g = hart_of x.step in
        let n = phase_at p x in
        let le : n ≤ q = elim u.0 [ inl none ↦ cc | inr l ↦ l ] in
        let capped : UpTo p n b (x ∷ xs) = (inr (le_refl n), k.0 w is) in
        let here = descend p n q b v (x ∷ xs) capped le e in
        let mine : wrote_in p b (x ∷ xs) n g ≡ Some w =
        ap (λ (o : Option ℕ). or_else o (wrote_in p b xs n g))
        (cond-true (in_turn p g n x) (written (access_of x.step) b) None (turn-here p x) ∙ is) in
        settle-one (wrote_in p b (x ∷ xs) n) (settled_by p (wrote_in p b (x ∷ xs)) n b) v w g (writers p n b)
        (among-writers p n b g r.0.few (r.0.may w is)) mine here
        ∙ sym (left-more p b x xs (Some w) is)
