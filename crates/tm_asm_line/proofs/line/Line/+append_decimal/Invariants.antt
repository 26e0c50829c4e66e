use Rattle.tm_asm_line.proofs.line.Line.+append_decimal.Given as goal

abbrev pub decreases-append_decimal : goal.decreases-append_decimal
decreases-append_decimal l = l.value
