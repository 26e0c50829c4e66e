-- The text of a judgement: a line for each of the three questions, with its answer. Source: this project.
use Rattle.std.specs.Prelude.{ℕ, List, ◌++◌, codes}
use Rattle.std.specs.Fmt.{decimal}
use Rattle.tm_base.specs.Numbers.{hex_text}
use Rattle.tm_judge.specs.declared.answers.Why.{Why}
use Rattle.tm_judge.specs.declared.answers.Why.TheVariants.{AfterHalt, Pc, Word, Stuck, Early, Byte}
use Rattle.tm_judge.specs.declared.answers.Why.TheVariants as why
use Rattle.tm_judge.specs.declared.answers.Answer.{Answer}
use Rattle.tm_judge.specs.declared.answers.Answer.TheVariants.{Yes, No}
use Rattle.tm_judge.specs.declared.answers.Judgement.{Judgement}
use Rattle.tm_top_line.specs.Inputs.{with_value, addr_text}

-- a word of 32 bits in hexadecimal (this project)
unfoldable pub word_text : ℕ → List ℕ
word_text word = codes "0x" ++ hex_text 8 word

-- an address, and the byte that had to be read there, in decimal (this project)
unfoldable pub byte_text : (addr held : ℕ) → List ℕ
byte_text addr held = codes "Byte " ++ addr_text addr ++ codes " " ++ decimal held

-- why an event breaks a run: the name of the cause, with its values (this project)
abbrev pub why_text : Why → List ℕ
why_text AfterHalt = codes "AfterHalt"
why_text (Pc wanted) = codes "Pc " ++ addr_text wanted
why_text (Word wanted) = codes "Word " ++ word_text wanted
why_text Stuck = codes "Stuck"
why_text why.Step = codes "Step"
why_text (Early hart) = with_value (codes "Early") hart
why_text (Byte addr held) = byte_text addr held

-- the place of the event that breaks a run, and why it does (this project)
unfoldable pub no_text : (place : ℕ) → Why → List ℕ
no_text place why = codes "no, event " ++ decimal place ++ codes " " ++ why_text why

-- an answer (this project)
abbrev pub answer_text : Answer → List ℕ
answer_text Yes = codes "yes"
answer_text (No place why) = no_text place why

-- the line of a question and its answer (this project)
unfoldable pub answer_line : List ℕ → Answer → List ℕ
answer_line question answer = question ++ codes ": " ++ answer_text answer ++ codes "\n"

-- the three lines (this project)
unfoldable pub judgement_text : Judgement → List ℕ
judgement_text j =
    answer_line (codes "path") j.path ++ answer_line (codes "plain") j.plain ++ answer_line (codes "legal") j.legal
