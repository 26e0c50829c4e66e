-- Worked lines.
use Rattle.std.proofs.Common.{◌≡◌, codes, refl}
use Rattle.std.specs.Fmt.{digits}
use Rattle.tm_base.specs.Numbers.{hex_text, pos_text}
use Rattle.tm_asm_line.specs.Shapes.{name_of}
use Rattle.tm_desk.specs.declared.desk.DeskError.TheVariants as desk
use Rattle.tm_refusals.specs.declared.elf.ElfFault.TheVariants as elf
use Rattle.tm_refusals.specs.declared.role.Role.TheVariants as role
use Rattle.tm_refusals.specs.declared.inputs.InputFault.TheVariants.{Topo, Tmpl, Rule}
use Rattle.tm_refusals.specs.declared.image.ImageFault.TheVariants as image
use Rattle.std.specs.Prelude.{pos, negsuc}
use Rattle.tm_asm_line.specs.declared.fault.AsmFault.TheVariants as asm
use Rattle.tm_topo.specs.declared.system.TopoFault.TheVariants as topo
use Rattle.tm_topo.specs.declared.system.TopoKey.TheVariants as key
use Rattle.tm_lex.specs.declared.token.LexFault.TheVariants as lex
use Rattle.tm_tmpl_types.specs.declared.template.TmplFault.TheVariants as tmpl
use Rattle.tm_tmpl_types.specs.declared.template.Want.TheVariants as want
use Rattle.tm_table.specs.declared.instr.Op.TheVariants as op
use Rattle.tm_refusals.specs.declared.rule.RuleFault.TheVariants as rule
use Rattle.tm_fault.specs.declared.fault.Want2.TheVariants as wanted
use Rattle.tm_fault.specs.declared.fault.FaultScriptFault.TheVariants as script
use Rattle.tm_top_line.specs.Inputs.{with_value, shown_key, signed_text, input_text, addr_text}
use Rattle.tm_top_line.specs.declared.fault.AnyFault.TheVariants as any
use Rattle.tm_top_line.specs.Lines.{fault_text}
use Rattle.tm_trace.specs.declared.trace.TraceFault.TheVariants as trace
use Rattle.tm_judge.specs.declared.answers.JudgeFault.TheVariants as judge
use Rattle.tm_judge.specs.declared.answers.Answer.TheVariants.{Yes, No}
use Rattle.tm_judge.specs.declared.answers.Why.TheVariants as why
use Rattle.tm_top_line.specs.Judgements.{judgement_text, answer_line, no_text, word_text, byte_text}

short : fault_text role.Image (any.Image (image.Elf (elf.Short 63))) ≡ codes "threadmill: image: Elf Short 63\n"
unfolding fault_text with_value digits
short = refl

another_machine : fault_text role.Image (any.Image (image.Elf (elf.NotRiscv 62)))
    ≡ codes "threadmill: image: Elf NotRiscv 62\n"
unfolding fault_text with_value digits
another_machine = refl

no_plan : fault_text role.Image (any.Image (image.Elf elf.NoPlan)) ≡ codes "threadmill: image: Elf NoPlan\n"
unfolding fault_text with_value digits
no_plan = refl

another_file : fault_text role.Image (any.Image (image.Differs 14592)) ≡ codes "threadmill: image: Differs 14592\n"
unfolding fault_text with_value digits
another_file = refl

too_long : fault_text role.Image (any.Desk (desk.TooLong 16777216)) ≡ codes "threadmill: image: TooLong 16777216\n"
unfolding fault_text with_value digits
too_long = refl

failed : fault_text role.Output (any.Desk desk.Failed) ≡ codes "threadmill: output: Failed\n"
unfolding fault_text with_value digits
failed = refl

an_unknown_key : input_text (Topo (topo.UnknownKey (codes "spe d"))) ≡ codes "Topo UnknownKey spe?d"
unfolding digits with_value pos_text shown_key signed_text
an_unknown_key = refl

a_negative_number : input_text (Topo (topo.OutOfRange key.Line (negsuc 47))) ≡ codes "Topo OutOfRange line -48"
unfolding digits with_value pos_text shown_key signed_text
a_negative_number = refl

a_bad_byte : input_text (Tmpl (tmpl.Lex (lex.BadByte (record { line = 1; col = 10 }) 7)))
    ≡ codes "Tmpl Lex BadByte 1:10 7"
unfolding digits with_value pos_text shown_key signed_text
a_bad_byte = refl

no_name : input_text (Tmpl (tmpl.Expected (record { line = 1; col = 10 }) want.Name)) ≡ codes "Tmpl Expected 1:10 Name"
unfolding digits with_value pos_text shown_key signed_text
no_name = refl

another_owner : input_text (Rule (record { pos = record { line = 6; col = 1 }; fault = rule.NotOwner 1 0x80E80000 }))
    ≡ codes "Rule 6:1 NotOwner 1 0x80e80000"
unfolding digits with_value pos_text shown_key signed_text addr_text hex_text
another_owner = refl

a_wide_address : addr_text 0x180E80000 ≡ codes "0x0000000180e80000"
unfolding addr_text hex_text
a_wide_address = refl

a_barred_op : input_text (Rule (record { pos = record { line = 6; col = 1 }; fault = rule.NotAllowed op.Ecall }))
    ≡ codes "Rule 6:1 NotAllowed ecall"
unfolding digits with_value pos_text shown_key signed_text name_of
a_barred_op = refl

no_instruction : input_text (Rule (record {
  pos = record { line = 6; col = 3 };
  fault = rule.Asm (asm.OutOfRange (pos 2048));
})) ≡ codes "Rule 6:3 Asm OutOfRange 2048"
unfolding digits with_value pos_text shown_key signed_text
no_instruction = refl

backward : input_text (Rule (record { pos = record { line = 6; col = 1 }; fault = rule.Target 3 (negsuc 7) }))
    ≡ codes "Rule 6:1 Target 3 -8"
unfolding digits with_value pos_text shown_key signed_text
backward = refl

no_hart : fault_text role.Faults (any.Script (script.OutOfRange (record { line = 1; col = 6 }) 2))
    ≡ codes "threadmill: faults: OutOfRange 1:6 2\n"
unfolding fault_text digits pos_text
no_hart = refl

no_branch : fault_text role.Faults (any.Script (script.NoEffect (record { line = 1; col = 29 })))
    ≡ codes "threadmill: faults: NoEffect 1:29\n"
unfolding fault_text digits pos_text
no_branch = refl

one_step_twice : fault_text role.Faults (any.Script (script.Twice (record { line = 2; col = 1 })))
    ≡ codes "threadmill: faults: Twice 2:1\n"
unfolding fault_text digits pos_text
one_step_twice = refl

no_action : fault_text role.Faults (any.Script (script.Expected (record { line = 1; col = 29 }) wanted.Action))
    ≡ codes "threadmill: faults: Expected 1:29 Action\n"
unfolding fault_text digits pos_text
no_action = refl

no_end : fault_text role.Trace (any.Trace (trace.Early 3)) ≡ codes "threadmill: trace: Early 3\n"
unfolding fault_text with_value digits
no_end = refl

other_harts : fault_text role.Trace (any.Judge (judge.Harts 2)) ≡ codes "threadmill: trace: Harts 2\n"
unfolding fault_text with_value digits
other_harts = refl

a_racing_read : judgement_text (record { path = Yes; plain = No 70 (why.Byte 0x80E80000 7); legal = Yes })
    ≡ codes "path: yes\nplain: no, event 70 Byte 0x80e80000 7\nlegal: yes\n"
unfolding judgement_text answer_line no_text byte_text addr_text hex_text digits
a_racing_read = refl

another_word : answer_line (codes "path") (No 0 (why.Word 0x128313)) ≡ codes "path: no, event 0 Word 0x00128313\n"
unfolding answer_line no_text word_text hex_text digits
another_word = refl

another_place : answer_line (codes "path") (No 0 (why.Pc 0x80000000)) ≡ codes "path: no, event 0 Pc 0x80000000\n"
unfolding answer_line no_text addr_text hex_text digits
another_place = refl
