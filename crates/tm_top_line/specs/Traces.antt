-- How the faults of a trace are told: the name of a fault's variant, with its value. Source: this project.
use Rattle.std.specs.Prelude.{ℕ, Bool, true, false, List, [], codes}
use Rattle.tm_judge.specs.declared.answers.JudgeFault.{JudgeFault}
use Rattle.tm_judge.specs.declared.answers.JudgeFault.TheVariants as judge
use Rattle.tm_trace.specs.declared.trace.TraceFault.{TraceFault}
use Rattle.tm_trace.specs.declared.trace.TraceFault.TheVariants as trace
use Rattle.tm_top_line.specs.Inputs.{with_value}

-- the fault of a text that is no trace; want of memory has no text (this project)
abbrev pub trace_fault_text : TraceFault → List ℕ
trace_fault_text (trace.Expected line) = with_value (codes "Expected") line
trace_fault_text (trace.OutOfRange line) = with_value (codes "OutOfRange") line
trace_fault_text (trace.Early line) = with_value (codes "Early") line
trace_fault_text trace.NoMemory = []

-- the fault is want of memory, which has another line (this project)
abbrev pub trace_wants : TraceFault → Bool
trace_wants trace.NoMemory = true
trace_wants _ = false

-- the fault of a trace that isn't judged; want of memory has no text (this project)
abbrev pub judge_fault_text : JudgeFault → List ℕ
judge_fault_text (judge.Harts harts) = with_value (codes "Harts") harts
judge_fault_text judge.NoMemory = []

-- the fault is want of memory, which has another line (this project)
abbrev pub judge_wants : JudgeFault → Bool
judge_wants judge.NoMemory = true
judge_wants _ = false
