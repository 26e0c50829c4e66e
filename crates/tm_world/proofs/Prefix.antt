-- What stands earlier in a run of a kind is a run of that kind.
use Rattle.std.proofs.Common.{◌≡◌, ℕ, List, [], ◌∷◌, ◌++◌, subst}
use Rattle.std.proofs.lemmas.List.Elements.{filter-append}
use Rattle.tm_plan_cases.specs.declared.program.Program.{Program}
use Rattle.tm_table.specs.State.{Hart}
use Rattle.tm_world.specs.Run.{Step, Run, Always, own}
use Rattle.tm_world.specs.Kinds.{first_of_hart, EachHart, Paths, Legal, Plain, Half}

-- the later steps taken away
pub Always-earlier : (P : List Step → Step → Type 0) (later past : List Step) → Always P (later ++ past) → Always P past
Always-earlier P [] past h = h
Always-earlier P (s ∷ later) past h = Always-earlier P later past h.1

pub own-append : (h : ℕ) (later past : List Step) → own h (later ++ past) ≡ own h later ++ own h past
own-append h later past = filter-append _ later past

-- a run before some of its steps
abbrev pub earlier : (ℕ → List ℕ) → List Step → Run
earlier opening past = record { opening = opening; steps = past }

-- a kind that looks at each hart's own steps, and passes to earlier ones
EachHart-earlier : (p : Program) (P : ℕ → Hart → List Step → Type 0)
    → ((h : ℕ) (first : Hart) (later past : List Step) → P h first (later ++ past) → P h first past)
    → (o : ℕ → List ℕ) (later past : List Step) → EachHart p P (earlier o (later ++ past))
    → EachHart p P (earlier o past)
EachHart-earlier p P down o later past r = record {
  opening = r.opening;
  only = Always-earlier _ later past r.only;
  each = λ h l. down h (first_of_hart (earlier o past) h) (own h later) (own h past)
      (subst (λ (x : List Step). P h (first_of_hart (earlier o past) h) x) (own-append h later past) (r.each h l));
}

pub Path-earlier : (p : Program) (o : ℕ → List ℕ) (later past : List Step) → Paths p (earlier o (later ++ past))
    → Paths p (earlier o past)
Path-earlier p o later past r = EachHart-earlier p _ (λ h first l q. Always-earlier _ l q) o later past r

pub Legal-earlier : (p : Program) (o : ℕ → List ℕ) (later past : List Step) → Legal p (earlier o (later ++ past))
    → Legal p (earlier o past)
Legal-earlier p o later past r = record {
  paths = Path-earlier p o later past r.paths;
  met = Always-earlier _ later past r.met;
  reads = Always-earlier _ later past r.reads;
}

pub Plain-earlier : (p : Program) (o : ℕ → List ℕ) (later past : List Step) → Plain p (earlier o (later ++ past))
    → Plain p (earlier o past)
Plain-earlier p o later past r = record {
  paths = Path-earlier p o later past r.paths;
  reads = Always-earlier _ later past r.reads;
}

pub Half-earlier : (p : Program) (o : ℕ → List ℕ) (later past : List Step) → Half p (earlier o (later ++ past))
    → Half p (earlier o past)
Half-earlier p o later past r = EachHart-earlier p _ (λ h first l q. Always-earlier _ l q) o later past r
