-- The first cause why an event isn't its hart's next step.
use Rattle.std.proofs.Common.{◌≡◌, ◌≢◌, ℕ, ◌<◌, ◌≤◌, Option, None, Some, Result, Ok, Err, refl, sym, ap, ◌∙◌, subst}
use Rattle.std.proofs.Common.{arith}
use Rattle.std.specs.Prelude.{IfErr}
use Rattle.tm_table.specs.declared.state.Access.{Access}
use Rattle.tm_table.specs.declared.state.Access.TheVariants.{Quiet, Read, Write}
use Rattle.tm_table.specs.State.{Hart}
use Rattle.tm_table.specs.Row.{row_word}
use Rattle.tm_plan_cases.specs.declared.event.Event.{Event}
use Rattle.tm_plan_cases.specs.declared.program.Program.{Program}
use Rattle.tm_trace.specs.Traced.{HasPlace}
use Rattle.tm_world.specs.Place.{halt_of, word_at}
use Rattle.tm_world.specs.Run.{Step, read_value, HasShape}
use Rattle.tm_world.specs.Kinds.{Follows}
use Rattle.tm_world.specs.Work.{HasNext}
use Rattle.tm_judge.specs.declared.answers.Why.{Why}
use Rattle.tm_judge.specs.declared.answers.Why.TheVariants.{AfterHalt, Pc, Word, Stuck, Early, Byte}
use Rattle.tm_judge.specs.declared.answers.Why.TheVariants as whys
use Rattle.tm_judge.specs.Causes.{Strays, IsFirstStray, GivesAnother, rank}
use Rattle.tm_judge.specs.Rows.{Makes, IsMade, Unmade}
use Rattle.tm_judge.proofs.Making.{next-makes}

-- the causes below a rank, one by one
record NoneBelow (p : Program) (before : Hart) (e : Event) (n : ℕ) : Type 0 where
  few : n ≤ 5
  halt : 1 < n → ¬ Strays p before e AfterHalt
  pc : (x : ℕ) → 2 < n → ¬ Strays p before e (Pc x)
  word : (x : ℕ) → 3 < n → ¬ Strays p before e (Word x)
  stuck : 4 < n → ¬ Strays p before e Stuck

none-below : (p : Program) (before : Hart) (e : Event) (n : ℕ) → NoneBelow p before e n → (w : Why) → rank w < n
    → ¬ Strays p before e w
none-below p before e n k AfterHalt l = k.halt l
none-below p before e n k (Pc x) l = k.pc x l
none-below p before e n k (Word x) l = k.word x l
none-below p before e n k Stuck l = k.stuck l
none-below p before e n k whys.Step l = absurd (omega (arith, k.few, l))
none-below p before e n k (Early g) l = λ z. z
none-below p before e n k (Byte addr held) l = λ z. z

first-of : (p : Program) (before : Hart) (e : Event) (why : Why) → Strays p before e why
    → NoneBelow p before e (rank why) → IsFirstStray p before e why
first-of p before e why h k = record { holds = h; early = k.few; first = none-below p before e (rank why) k }

same-word : (o : Option ℕ) (v w : ℕ) → o ≡ Some v → o ≡ Some w → v ≡ w
same-word o v w d e = cc

no-word : (o : Option ℕ) (v : ℕ) → o ≡ None → o ≡ Some v → ⊥
no-word o v d e = cc

module _ (p : Program) (before : Hart) (e : Event) where
  pub stray-halt : before.pc ≡ halt_of p e.hart → IsFirstStray p before e AfterHalt
  stray-halt h =
      first-of p before e AfterHalt h (record {
        few = omega arith;
        halt = λ l. absurd (omega (arith, l));
        pc = λ x l. absurd (omega (arith, l));
        word = λ x l. absurd (omega (arith, l));
        stuck = λ l. absurd (omega (arith, l));
      })

  pub stray-pc : before.pc ≢ halt_of p e.hart → e.pc ≢ before.pc → IsFirstStray p before e (Pc before.pc)
  stray-pc off ne =
      first-of p before e (Pc before.pc) (refl, ne) (record {
        few = omega arith;
        halt = λ l. off;
        pc = λ x l. absurd (omega (arith, l));
        word = λ x l. absurd (omega (arith, l));
        stuck = λ l. absurd (omega (arith, l));
      })

  not-pc : e.pc ≡ before.pc → (x : ℕ) → ¬ Strays p before e (Pc x)
  not-pc place x h = h.1 (place ∙ sym h.0)

  pub stray-word : (w : ℕ) → before.pc ≢ halt_of p e.hart → e.pc ≡ before.pc → word_at p e.pc ≡ Some w → e.word ≢ w
      → IsFirstStray p before e (Word w)
  stray-word w off place there ne =
      first-of p before e (Word w) (there, ne) (record {
        few = omega arith;
        halt = λ l. off;
        pc = λ x l. not-pc place x;
        word = λ x l. absurd (omega (arith, l));
        stuck = λ l. absurd (omega (arith, l));
      })

  pub stray-none : before.pc ≢ halt_of p e.hart → e.pc ≡ before.pc → word_at p e.pc ≡ None
      → IsFirstStray p before e Stuck
  stray-none off place none =
      first-of p before e Stuck
      (λ (next : HasNext p before).
      let (w, there, goes) = next in
      no-word (word_at p e.pc) w none (ap (word_at p) place ∙ there))
      (record {
        few = omega arith;
        halt = λ l. off;
        pc = λ x l. not-pc place x;
        word = λ x l h. no-word (word_at p e.pc) x none h.0;
        stuck = λ l. absurd (omega (arith, l));
      })

  -- ---- at the hart's next word

  -- the event is at its hart's program counter, with the text's word there
  pub record Arrived : Type 0 where
    pub off : before.pc ≢ halt_of p e.hart
    pub place : e.pc ≡ before.pc
    pub there : word_at p e.pc ≡ Some e.word

  not-word : Arrived → (x : ℕ) → ¬ Strays p before e (Word x)
  not-word a x h = h.1 (same-word (word_at p e.pc) e.word x a.there h.0)

  has-next : Arrived → Makes before e.word → HasNext p before
  has-next a m = (e.word, ap (word_at p) (sym a.place) ∙ a.there, m)

  next-has : Arrived → HasNext p before → Makes before e.word
  next-has a next =
      let (w, there, goes) = next in
      subst (Makes before) (same-word (word_at p e.pc) w e.word (ap (word_at p) a.place ∙ there) a.there) goes

  pub stray-unmade : (why : Why) → Arrived → Unmade before e.word e.access why → IsFirstStray p before e why
  stray-unmade Stuck a u =
      first-of p before e Stuck (λ (next : HasNext p before). u (next-has a next)) (record {
        few = omega arith;
        halt = λ l. a.off;
        pc = λ x l. not-pc a.place x;
        word = λ x l. not-word a x;
        stuck = λ l. absurd (omega (arith, l));
      })
  stray-unmade whys.Step a u =
      first-of p before e whys.Step u.1 (record {
        few = omega arith;
        halt = λ l. a.off;
        pc = λ x l. not-pc a.place x;
        word = λ x l. not-word a x;
        stuck = λ l h. h (has-next a u.0);
      })
  stray-unmade AfterHalt a u = absurd u
  stray-unmade (Pc x) a u = absurd u
  stray-unmade (Word x) a u = absurd u
  stray-unmade (Early g) a u = absurd u
  stray-unmade (Byte addr held) a u = absurd u

  has-shape : (a : Access) → HasPlace a → HasShape a
  has-shape Quiet h = tt
  has-shape (Read addr width value) h = (h.wide, h.fits)
  has-shape (Write addr width value) h = (h.wide, h.fits)

  pub follows-made : (next : Hart) → Arrived → HasPlace e.access → IsMade before e.word e.access next
      → Follows p e.hart before (record { event = e; after = next })
  follows-made next a h m = record {
    place = a.place;
    goes = a.off;
    word = ap (word_at p) (sym a.place) ∙ a.there;
    row = m.row;
    possible = m.possible;
    shape = has-shape e.access h;
  }

-- ---- what strays doesn't follow the table

pub no-follow : (p : Program) (before : Hart) (s : Step) (why : Why) → Strays p before s.event why
    → ¬ Follows p s.event.hart before s
no-follow p before s AfterHalt h f = f.goes h
no-follow p before s (Pc x) h f = h.1 (f.place ∙ sym h.0)
no-follow p before s (Word x) h f =
    h.1 (same-word (word_at p before.pc) s.event.word x f.word (ap (word_at p) (sym f.place) ∙ h.0))
no-follow p before s Stuck h f =
    h (
      s.event.word,
      f.word,
      next-makes before s.after s.event.word (read_value s.event.access) s.event.access f.row f.possible,
    )
no-follow p before s whys.Step h f =
    let (made, is, ne) = h in
    ne (ap (λ (r : Hart × Access). r.1)
    (same-made (row_word before s.event.word (read_value s.event.access)) made (s.after, s.event.access) is f.row))
  where
    same-made : (o : Option (Hart × Access)) (x y : Hart × Access) → o ≡ Some x → o ≡ Some y → x ≡ y
    same-made o x y d e = cc
no-follow p before s (Early g) h f = h
no-follow p before s (Byte addr held) h f = h

-- so for what is answered of the hart's next word
pub unmade-strays : {X : Type 0} (p : Program) (before : Hart) (e : Event) (r : Result X Why) → Arrived p before e
    → IfErr r (λ why. Unmade before e.word e.access why) → IfErr r (λ why. IsFirstStray p before e why)
unmade-strays p before e (Ok x) a h = tt
unmade-strays p before e (Err why) a h = stray-unmade p before e why a h
