-- One turn of the judge: an event more.
use Rattle.std.proofs.Common.{◌≡◌, ℕ, suc, ◌+◌, ◌<◌, ◌≤◌, List, [], ◌∷◌, ◌++◌, Option, None, Some, refl, sym, ap, ◌∙◌}
use Rattle.std.proofs.Common.{subst, length, take, drop, get_or, arith}
use Rattle.std.specs.Prelude.{MatchOption}
use Rattle.std.specs.BTreeMap.{BTreeMap}
use Rattle.std.proofs.lemmas.List.{take_more, take-append-drop, length-take-le, take_all}
use Rattle.tm_table.specs.State.{Hart}
use Rattle.tm_table.specs.Row.{row_word}
use Rattle.tm_plan_cases.specs.declared.program.Program.{Program}
use Rattle.tm_plan_cases.specs.declared.event.Event.{Event}
use Rattle.tm_ram.specs.Region.{Region}
use Rattle.tm_trace.specs.Traced.{IsTrace, IsTraced}
use Rattle.tm_world.specs.Place.{harts, exit_of}
use Rattle.tm_world.specs.Run.{Step, hart_of, access_of, Reads, read_value}
use Rattle.tm_world.specs.Kinds.{Follows, phase_of}
use Rattle.tm_owing.specs.declared.writes.Writes.{Writes}
use Rattle.tm_owing.specs.Owed.{Notes, Owes}
use Rattle.tm_owing.proofs.OwedMore.{owes-more}
use Rattle.tm_world.specs.Replay.{state_after, outcome}
use Rattle.tm_guest.specs.Memory.{IsWritten, owed_of}
use Rattle.tm_guest.specs.Fields.{IsMemory}
use Rattle.tm_guest.proofs.Memory.{memory-more}
use Rattle.tm_judge.specs.declared.answers.Why.{Why}
use Rattle.tm_judge.specs.declared.answers.Answer.{Answer}
use Rattle.tm_judge.specs.declared.answers.Answer.TheVariants.{Yes, No}
use Rattle.tm_judge.specs.declared.bench.Seat.{Seat}
use Rattle.tm_judge.specs.Recorded.{step_of, steps_of, run_of}
use Rattle.tm_judge.specs.Causes.{Question, OfPath, OfPlain, IsOne, Goes, Found, IsFirstStray}
use Rattle.tm_judge.specs.Judged.{Answered, answer_with}
use Rattle.tm_judge.specs.Rows.{IsWrong}
use Rattle.tm_judge.specs.Bench.{AreSeats, AreNoted}
use Rattle.tm_judge.proofs.Deciding.{answered-more, answered-rest, stray-first}
use Rattle.tm_judge.proofs.Recording.{steps-more}
use Rattle.tm_judge.proofs.Seats.{seats-more}

-- an event that a trace has
pub event-traced : (n : ℕ) (events : List Event) (i : ℕ) (e : Event) → IsTrace n events → i < length events
    → e ≡ get_or events i e → IsTraced n e
event-traced n events i e t l at = subst (IsTraced n) (sym at) (t.each i e l)

module _ (p : Program) (events : List Event) (i : ℕ) (e : Event) (l : i < length events) (at : e ≡ get_or events i e)
  where
    grown : take (i + 1) events ≡ take i events ++ e ∷ []
    grown = take_more events i e l ∙ ap (λ (x : Event). take i events ++ x ∷ []) (sym at)

    place : length (take i events) ≡ i
    place = length-take-le i events (omega arith)

    -- an answer to the events up to this one
    pub answer-next : (q : Question) (a : Answer) (fault : Option Why) → e.hart < harts p
        → Answered q p (take i events) a → Found q p (steps_of (take i events)) e fault
        → Answered q p (take (i + 1) events) (answer_with a i fault)
    answer-next q a fault h before found =
        subst (λ (xs : List Event). Answered q p xs (answer_with a i fault)) (sym grown)
        (subst (λ (k : ℕ). Answered q p (take i events ++ e ∷ []) (answer_with a k fault)) place
        (answered-more q p (take i events) e a fault h before found))

    -- where it strays, that is the answer to all events
    pub answer-stray : (q : Question) (a : Answer) (why : Why) → e.hart < harts p
        → Answered q p (take i events) a → IsFirstStray p (state_after (steps_of (take i events)) e.hart) e why
        → Answered q p events (answer_with a i (Some why))
    answer-stray q a why h before stray =
        subst (λ (xs : List Event). Answered q p xs (answer_with a i (Some why))) (take-append-drop (i + 1) events)
        (answered-rest q p (take (i + 1) events) (drop (i + 1) events) a i why
        (answer-next q a (Some why) h before (stray-first q p (steps_of (take i events)) e why stray)))

    -- ---- an event that follows the table

    module _ (next : Hart) (f : Follows p e.hart (state_after (steps_of (take i events)) e.hart) (record {
      event = e;
      after = next;
    })) where
      -- its step
      step-is : step_of (steps_of (take i events)) e ≡ record { event = e; after = next }
      step-is =
          ap (λ (h : Hart). record { event = e; after = h })
          (ap (outcome (state_after (steps_of (take i events)) e.hart)) f.row)

      pub goes : Goes OfPath p (steps_of (take i events)) e
      goes =
          subst (Follows p e.hart (state_after (steps_of (take i events)) e.hart)) (sym step-is) f

      steps-next : steps_of (take (i + 1) events) ≡ record { event = e; after = next } ∷ steps_of (take i events)
      steps-next =
          ap steps_of grown
          ∙ (steps-more (take i events) e ∙ ap (λ (s : Step). s ∷ steps_of (take i events)) step-is)

      pub path-next : e.hart < harts p → Answered OfPath p (take i events) Yes
          → Answered OfPath p (take (i + 1) events) Yes
      path-next h before = answer-next OfPath Yes None h before goes

      pub seats-next : (olds news : List Seat) → e.hart < harts p → AreNoted (exit_of p e.hart) e next olds news
          → AreSeats p (steps_of (take i events)) olds → AreSeats p (steps_of (take (i + 1) events)) news
      seats-next olds news h noted seats =
          subst (λ (steps : List Step). AreSeats p steps news) (sym steps-next)
          (seats-more p (record { event = e; after = next }) (steps_of (take i events)) olds news h noted seats)

      pub memory-next : (r t : Region) → IsWritten r e.access t → IsMemory p (steps_of (take i events)) r
          → IsMemory p (steps_of (take (i + 1) events)) t
      memory-next r t written memory =
          subst (λ (steps : List Step). IsMemory p steps t) (sym steps-next)
          (memory-more p (record { event = e; after = next }) (steps_of (take i events)) r t written memory)

      pub owes-next : (last news : List Writes) (marks settles : List (BTreeMap ℕ ℕ)) → e.hart < harts p
          → Notes p e.hart (phase_of p (steps_of (take i events)) e.hart) e.access last news marks settles
          → Owes p (steps_of (take i events)) last marks → Owes p (steps_of (take (i + 1) events)) news settles
      owes-next last news marks settles h notes owes =
          subst (λ (steps : List Step). Owes p steps news settles) (sym steps-next)
          (owes-more p (record { event = e; after = next }) (steps_of (take i events)) last news marks settles h
          notes owes)

-- at the end
pub answer-end : (p : Program) (events : List Event) (i : ℕ) (q : Question) (a : Answer) → length events ≤ i
    → Answered q p (take i events) a → Answered q p events a
answer-end p events i q a l h =
    subst (λ (xs : List Event). Answered q p xs a) (take_all i events l) h
