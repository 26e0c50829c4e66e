-- A true answer is the only one.
use Rattle.std.proofs.Common.{◌≡◌, ◌≢◌, ℕ, ◌+◌, ◌<◌, ◌≤◌, List, Option, None, Some, ◌⊎◌, inl, inr, refl, sym, ap}
use Rattle.std.proofs.Common.{ap₂, ◌∙◌}
use Rattle.std.proofs.Common.{subst, take, arith}
use Rattle.std.specs.Prelude.{slice_get, IfSome}
use Rattle.std.proofs.lemmas.Bool.{cases_order}
use Rattle.tm_table.specs.declared.state.Access.{Access}
use Rattle.tm_table.specs.declared.state.Access.TheVariants.{Quiet, Read, Write}
use Rattle.tm_plan_cases.specs.declared.program.Program.{Program}
use Rattle.tm_plan_cases.specs.declared.event.Event.{Event}
use Rattle.tm_world.specs.Place.{byte_of}
use Rattle.tm_world.specs.Run.{Step}
use Rattle.tm_judge.specs.declared.answers.Why.{Why}
use Rattle.tm_judge.specs.declared.answers.Why.TheVariants.{AfterHalt, Pc, Word, Stuck, Early, Byte}
use Rattle.tm_judge.specs.declared.answers.Why.TheVariants as whys
use Rattle.tm_judge.specs.declared.answers.Answer.{Answer}
use Rattle.tm_judge.specs.declared.answers.Answer.TheVariants.{Yes, No}
use Rattle.tm_judge.specs.Recorded.{steps_of}
use Rattle.tm_judge.specs.Causes.{Question, OfPath, OfPlain, OfLegal, Holds, IsFirst, ReadsWrong, IsLeastMissing, rank}
use Rattle.tm_judge.specs.Causes.{MissesFlag, owed}
use Rattle.tm_judge.specs.Judged.{Answered, Breaks}
use Rattle.tm_judge.specs.Laws.{OneAnswer}

same-some : (o : Option ℕ) (v w : ℕ) → o ≡ Some v → o ≡ Some w → v ≡ w
same-some o v w d e = cc

same-event : (o : Option Event) (d e : Event) → o ≡ Some d → o ≡ Some e → d ≡ e
same-event o d e x y = cc

one-missing : (q : Question) (p : Program) (past : List Step) (h g k : ℕ) → MissesFlag q p past h g
    → MissesFlag q p past h k → g ≡ k
one-missing OfPath p past h g k a b = absurd a
one-missing OfPlain p past h g k a b = absurd a
one-missing OfLegal p past h g k a b = elim (cases_order g k) [
  | inl e ↦ e
  | inr (inl l) ↦ absurd (b.1 g l a.0)
  | inr (inr l) ↦ absurd (a.1 k l b.0)
]

one-wrong : (o : ℕ → Option ℕ) (a : Access) (x v y w : ℕ) → ReadsWrong o a x v → ReadsWrong o a y w → (x ≡ y) × (v ≡ w)
one-wrong o Quiet x v y w m n = absurd m
one-wrong o (Write from width value) x v y w m n = absurd m
one-wrong o (Read from width value) x v y w m n =
    let (i, l, at, is, ne, before) = m in
    let (j, k, there, be, un, least) = n in
    by i j at there is be ne un before least (cases_order i j)
  where
    by : (i j : ℕ) → x ≡ from + i → y ≡ from + j → o x ≡ Some v → o y ≡ Some w → byte_of value i ≢ v
        → byte_of value j ≢ w
        → ((r : ℕ) → r < i → IfSome (o (from + r)) (λ b. byte_of value r ≡ b))
        → ((r : ℕ) → r < j → IfSome (o (from + r)) (λ b. byte_of value r ≡ b))
        → (i ≡ j) ⊎ ((i < j) ⊎ (j < i)) → (x ≡ y) × (v ≡ w)
    by i j at there is be ne un before least (inl e) =
        let same : x ≡ y = at ∙ (ap (λ (n : ℕ). from + n) e ∙ sym there) in
        (same, same-some (o x) v w is (ap o same ∙ be))
    by i j at there is be ne un before least (inr (inl l)) =
        absurd (ne (subst (λ (r : Option ℕ). IfSome r (λ b. byte_of value i ≡ b)) (ap o (sym at) ∙ is) (least i l)))
    by i j at there is be ne un before least (inr (inr l)) =
        absurd (un (subst (λ (r : Option ℕ). IfSome r (λ b. byte_of value j ≡ b)) (ap o (sym there) ∙ be) (before j l)))

same-rank : (q : Question) (p : Program) (past : List Step) (e : Event) (w v : Why) → rank w ≡ rank v
    → Holds q p past e w → Holds q p past e v → w ≡ v
same-rank q p past e AfterHalt AfterHalt r h k = refl
same-rank q p past e (Pc x) (Pc y) r h k = ap Pc (h.0 ∙ sym k.0)
same-rank q p past e (Word x) (Word y) r h k = ap Word (same-some _ x y h.0 k.0)
same-rank q p past e Stuck Stuck r h k = refl
same-rank q p past e whys.Step whys.Step r h k = refl
same-rank q p past e (Early x) (Early y) r h k = ap Early (one-missing q p past e.hart x y h k)
same-rank q p past e (Byte x v) (Byte y w) r h k =
    let same = one-wrong (owed q p past e.hart) e.access x v y w h k in
    ap₂ Byte same.0 same.1
same-rank q p past e _ _ r h k = absurd (omega (arith, r))

first-one : (q : Question) (p : Program) (past : List Step) (e : Event) (w v : Why) → IsFirst q p past e w
    → IsFirst q p past e v → w ≡ v
first-one q p past e w v a b = elim (cases_order (rank w) (rank v)) [
  | inl r ↦ same-rank q p past e w v r a.holds b.holds
  | inr (inl l) ↦ absurd (b.first w l a.holds)
  | inr (inr l) ↦ absurd (a.first v l b.holds)
]

pub one-answer : (p : Program) → OneAnswer p
one-answer p q events Yes Yes a b = refl
one-answer p q events Yes (No place why) a b = absurd (b.whole a)
one-answer p q events (No place why) Yes a b = absurd (a.whole b)
one-answer p q events (No x w) (No y v) a b = by (cases_order x y)
  where
    by : (x ≡ y) ⊎ ((x < y) ⊎ (y < x)) → No x w ≡ No y v
    by (inr (inl l)) = absurd (a.breaks (b.least x l))
    by (inr (inr l)) = absurd (b.breaks (a.least y l))
    by (inl e) =
        let there : slice_get events x ≡ Some b.event = ap (slice_get events) e ∙ b.stands in
        let same : a.event ≡ b.event = same-event (slice_get events x) a.event b.event a.stands there in
        let cause : IsFirst q p (steps_of (take x events)) a.event v =
        subst (λ (d : Event). IsFirst q p (steps_of (take x events)) d v) (sym same)
        (subst (λ (n : ℕ). IsFirst q p (steps_of (take n events)) b.event v) (sym e) b.cause) in
        ap₂ No e (first-one q p (steps_of (take x events)) a.event w v a.cause cause)
