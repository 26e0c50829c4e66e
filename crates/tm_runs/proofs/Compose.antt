-- The laws by which runs compose.
use Rattle.std.proofs.Common.{◌≡◌, ℕ, zero, suc, ◌+◌, ◌<◌, ◌≤◌, Some, ◌⊎◌, inl, inr, arith, suc-add, List, []}
use Rattle.std.proofs.Common.{◌∷◌, length, sym, subst}
use Rattle.std.proofs.lemmas.Bool.{cases_lt}
use Rattle.tm_table.specs.declared.state.Access.{Access}
use Rattle.tm_table.specs.declared.state.Access.TheVariants.{Quiet}
use Rattle.tm_runs.specs.Machine.{World, State, Entry, Strays}
use Rattle.tm_runs.specs.Runs.{Takes, Now, Step, Upto, Unwatched, Came, Went, Strayed, KeepsUntil, Newest, Does, Within}
use Rattle.tm_runs.specs.Runs.{IsQuiet}

-- more steps are allowed
pub takes_more : {w : World} {G Q : State → Type 0} {n : ℕ} {s : State} (k : ℕ) → n ≤ k → Takes w G Q n s
    → Takes w G Q k s
takes_more k le (Now q) = Now q
takes_more zero le (Step i e f g h) = absurd (omega arith)
takes_more (suc k) le (Step {n = n} i e f g h) = Step i e f g (λ v r. takes_more {n = n} k (omega arith) (h v r))

-- the sequence: what comes after what comes
pub takes_then : {w : World} {G P Q : State → Type 0} {n k : ℕ} {s : State} → Takes w G P n s
    → ((t : State) → P t → Takes w G Q k t) → Takes w G Q (n + k) s
takes_then {n = n} {k = k} (Now p) f = takes_more (n + k) (omega arith) (f _ p)
takes_then {k = k} (Step {n = n} i e g h r) f = rw suc-add (Step i e g h (λ v a. takes_then (r v a) f))

-- weaker facts
pub takes_map : {w : World} {G H P Q : State → Type 0} {n : ℕ} {s : State} → ((t : State) → G t → H t)
    → ((t : State) → P t → Q t) → Takes w G P n s → Takes w H Q n s
takes_map g f (Now p) = Now (f _ p)
takes_map g f (Step i e fine now r) = Step i e fine (λ v a. g _ (now v a)) (λ v a. takes_map g f (r v a))

-- what follows a bounded part
upto_after : {w : World} {G P Q : State → Type 0} (k : ℕ) {n : ℕ} {s : State} → Takes w G P n s
    → ((t : State) → P t → Upto w G Q k t) → Upto w G Q k s
upto_after zero h f = Unwatched
upto_after (suc k) (Now p) f = f _ p
upto_after (suc k) (Step i e fine g h) f = Went i e fine g (λ v r. upto_after k (h v r) (λ u q. upto_less k (f u q)))
  where
    upto_less : {w : World} {G Q : State → Type 0} (n : ℕ) {s : State} → Upto w G Q (suc n) s → Upto w G Q n s
    upto_less n (Came q) = Came q
    upto_less zero (Went i e fine g h) = Unwatched
    upto_less (suc n) (Went i e fine g h) = Went i e fine g (λ v r. upto_less n (h v r))
    upto_less zero (Strayed lo hi e g h) = Unwatched
    upto_less (suc n) (Strayed lo hi e g h) = Strayed lo hi e g (λ t r. upto_less n (h t r))

pub keeps_after : {w : World} {G P Q : State → Type 0} {n : ℕ} {s : State} → Takes w G P n s
    → ((t : State) → P t → KeepsUntil w G Q t) → KeepsUntil w G Q s
keeps_after h f = record { upto = λ k. upto_after k h (λ t p. (f t p).upto k) }

-- what follows a part that may go on for ever
upto_then : {w : World} {G P Q : State → Type 0} {k : ℕ} {s : State} → Upto w G P k s
    → ((j : ℕ) (t : State) → P t → Upto w G Q j t) → Upto w G Q k s
upto_then Unwatched f = Unwatched
upto_then (Came {n = n} p) f = f n _ p
upto_then (Went i e fine g h) f = Went i e fine g (λ v r. upto_then (h v r) f)
upto_then (Strayed lo hi e g h) f = Strayed lo hi e g (λ t r. upto_then (h t r) f)

pub keeps_then : {w : World} {G P Q : State → Type 0} {s : State} → KeepsUntil w G P s
    → ((t : State) → P t → KeepsUntil w G Q t)
    → KeepsUntil w G Q s
keeps_then h f = record { upto = λ k. upto_then (h.upto k) (λ j t p. (f t p).upto j) }

-- weaker facts
pub upto_map : {w : World} {G H P Q : State → Type 0} {n : ℕ} {s : State} → ((t : State) → G t → H t)
    → ((t : State) → P t → Q t) → Upto w G P n s → Upto w H Q n s
upto_map g f Unwatched = Unwatched
upto_map g f (Came p) = Came (f _ p)
upto_map g f (Went i e fine now r) = Went i e fine (λ v a. g _ (now v a)) (λ v a. upto_map g f (r v a))
upto_map g f (Strayed lo hi e now r) = Strayed lo hi e (λ t a. g t (now t a)) (λ t a. upto_map g f (r t a))

pub keeps_map : {w : World} {G H P Q : State → Type 0} {s : State} → ((t : State) → G t → H t)
    → ((t : State) → P t → Q t) → KeepsUntil w G P s → KeepsUntil w H Q s
keeps_map g f h = record { upto = λ n. upto_map g f (h.upto n) }

pub keeps_now : {w : World} {G Q : State → Type 0} {s : State} → Q s → KeepsUntil w G Q s
keeps_now q = record { upto = λ n. Came q }

-- a stream, of whose steps J is a fact that they keep
module _ (w : World) (G J : State → Type 0) (lo hi : ℕ) (held : (p : ℕ) → lo ≤ p → p < hi → w.stream p
    ≡ Some (lo, hi)) (step : (t u : State) → J t → lo ≤ t.pc → t.pc < hi → Strays w lo hi t u → J u × G u) where
  stays : (k : ℕ) (s : State) → J s → lo ≤ s.pc → (s.pc < hi) ⊎ (hi ≤ s.pc) → s.pc ≤ hi
      → Upto w G (λ t. J t × (t.pc ≡ hi)) k s
  stays zero s j a b c = Unwatched
  stays (suc k) s j a (inr b) c = Came (j, omega arith)
  stays (suc k) s j a (inl b) c =
      Strayed lo hi (held s.pc a b) (λ t r. (step s t j a b r).1)
      (λ t r. stays k t (step s t j a b r).0 r.least (cases_lt t.pc hi) r.most)

  pub keeps_stream : (s : State) → J s → lo ≤ s.pc → s.pc ≤ hi → KeepsUntil w G (λ t. J t × (t.pc ≡ hi)) s
  keeps_stream s j a c = record { upto = λ k. stays k s j a (cases_lt s.pc hi) c }

-- a turn comes back with J after at least one step, or leaves with Q
abbrev pub Turned : (J Q : State → Type 0) → State → State → Type 0
Turned J Q t u = (J u × (length t.log < length u.log)) ⊎ Q u

upto_spin : {w : World} {G J Q : State → Type 0} {n : ℕ} → ((t : State) → J t → Takes w G (Turned J Q t) n t)
    → (k : ℕ) (s : State) → J s → Upto w G Q k s
upto_spin turn zero s j = Unwatched
upto_spin {w = w} {G = G} {J = K} {Q = Q} turn (suc k) s j = first (turn s j) (upto_spin turn k)
  where
    again : (t u : State) → Turned K Q t u → ((v : State) → K v → Upto w G Q k v) → Upto w G Q k u
    again t u (inl j) f = f u j.0
    again t u (inr q) f = Came q

    first : {n : ℕ} → Takes w G (Turned K Q s) n s → ((v : State) → K v → Upto w G Q k v) → Upto w G Q (suc k) s
    first (Now (inl j)) f = absurd (omega (arith, j.1))
    first (Now (inr q)) f = Came q
    first (Step i e g now h) f = Went i e g now (λ v r. upto_after k (h v r) (λ u q. again s u q f))

-- a loop that may go on for ever
pub keeps_spin : {w : World} {G J Q : State → Type 0} {n : ℕ} → ((t : State) → J t → Takes w G (Turned J Q t) n t)
    → (s : State) → J s → KeepsUntil w G Q s
keeps_spin turn s j = record { upto = λ k. upto_spin turn k s j }

-- wider words, and more accesses
pub newest_map : (lo hi lo' hi' : ℕ) {A B : Access → Type 0} → lo' ≤ lo → hi ≤ hi' → ((a : Access) → A a → B a)
    → (es : List Entry) → Newest (Does lo hi A) es → Newest (Does lo' hi' B) es
newest_map lo hi lo' hi' p q f [] h = tt
newest_map lo hi lo' hi' p q f (e ∷ es) h = record {
  from = omega (arith, h.from);
  below = omega (arith, h.below);
  least = omega (arith, h.least);
  most = omega (arith, h.most);
  access = f e.access h.access;
}

pub within_map : (lo hi lo' hi' : ℕ) {A B : Access → Type 0} → lo' ≤ lo → hi ≤ hi' → ((a : Access) → A a → B a)
    → (t : State) → Within lo hi A t → Within lo' hi' B t
within_map lo hi lo' hi' p q f t = newest_map lo hi lo' hi' p q f t.log

-- a quiet step is one of any kind that has quiet steps
pub quiet_within : (lo hi : ℕ) (A : Access → Type 0) → A Quiet → (t : State) → Within lo hi IsQuiet t → Within lo hi A t
quiet_within lo hi A quiet t h =
    within_map lo hi lo hi (omega arith) (omega arith) (λ x e. subst A (sym e) quiet) t h
