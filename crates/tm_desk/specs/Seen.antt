-- What a desk or a sink in memory shows. Source: this project.
use Rattle.std.specs.Prelude.{◌≡◌, ◌≤◌, ◌+◌, ◌-◌, ◌^◌, ℕ, List, Contains, min}
use Rattle.tm_desk.specs.declared.calls.Calls.{Calls}
use Rattle.tm_desk.specs.declared.mem_desk.MemDesk.{MemDesk}
use Rattle.tm_desk.specs.declared.calm_desk.CalmDesk.{CalmDesk}
use Rattle.tm_desk.specs.declared.mem_sink.MemSink.{MemSink}
use Rattle.tm_desk.specs.declared.calm_sink.CalmSink.{CalmSink}
use Rattle.tm_desk.specs.Causes.{Files}
use Rattle.tm_desk.specs.Held.{file_of, file_or_empty}

-- the files that the desk holds
abbrev pub desk_files : MemDesk → Files
desk_files d = file_of d.files.items

-- the desk's counted calls
abbrev pub desk_calls : MemDesk → Calls
desk_calls d = d.calls

-- the files that the calm desk holds
abbrev pub calm_files : CalmDesk → Files
calm_files d = file_or_empty d.files.items

-- the bytes that the sink has taken
abbrev pub sink_taken : MemSink → List ℕ
sink_taken s = s.taken

-- the sink's counted calls
abbrev pub sink_calls : MemSink → Calls
sink_calls s = s.calls

-- how many bytes the sink takes at most in one put
abbrev pub sink_most : MemSink → ℕ
sink_most s = s.most

-- the bytes that the calm sink has taken
abbrev pub calm_taken : CalmSink → List ℕ
calm_taken s = s.taken

-- one more, but no more than a u64 holds
abbrev pub one_more : ℕ → ℕ
one_more n = min (n + 1) (2 ^ 64 - 1)

-- the next call is one that fails
abbrev pub Fails : Calls → Type 0
Fails calls = Contains calls.fails (one_more calls.made)

-- one call was counted, and a fault where it is one that fails
pub record CountsCall (before now : Calls) : Type 0 where
  pub fails : now.fails ≡ before.fails
  pub made : now.made ≡ one_more before.made
  pub fault : Fails before → now.faults ≡ one_more before.faults
  pub no_fault : ¬ Fails before → now.faults ≡ before.faults
  pub later : before.faults ≤ now.faults
