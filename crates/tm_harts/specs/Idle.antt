-- Journals without idle reads (this project's own).
use Rattle.std.specs.Prelude.{IsFalse}
use Rattle.tm_world.specs.Run.{Always, hart_of, own}
use Rattle.tm_world.specs.Work.{is_idle_read}
use Rattle.tm_guest.specs.Guested.{Guested, steps}

-- No step of the guest's journal is an idle read, told of each step by its hart's own steps before it.
abbrev pub NoIdle : Guested → Type 0
NoIdle g = Always (λ past s. IsFalse (is_idle_read g.program (hart_of s) (own (hart_of s) past) s)) (steps g)
