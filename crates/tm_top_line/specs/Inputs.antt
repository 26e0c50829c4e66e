-- How the faults of the two input texts are told: the names of a fault's variants from outside in, each with its
-- values. Source: this project.
use Rattle.std.specs.Prelude.{ℕ, ◌^◌, ◌&&◌, nat_le, nat_lt, Bool, true, false, if◌then◌else◌, ℤ}
use Rattle.std.specs.Prelude.{List, [], ◌++◌, map, codes}
use Rattle.std.specs.Fmt.{decimal, signed_decimal}
use Rattle.tm_base.specs.Numbers.{hex_text, pos_text}
use Rattle.tm_asm_line.specs.declared.fault.AsmFault.{AsmFault}
use Rattle.tm_asm_line.specs.declared.fault.AsmFault.TheVariants as asm
use Rattle.tm_asm_line.specs.Shapes.{name_of}
use Rattle.tm_lex.specs.declared.token.LexFault.{LexFault}
use Rattle.tm_lex.specs.declared.token.LexFault.TheVariants as lex
use Rattle.tm_topo.specs.declared.system.TopoKey.{TopoKey}
use Rattle.tm_topo.specs.declared.system.TopoFault.{TopoFault}
use Rattle.tm_topo.specs.declared.system.TopoFault.TheVariants as topo
use Rattle.tm_topo.specs.Reading.{key_text}
use Rattle.tm_tmpl_types.specs.declared.template.Want.{Want}
use Rattle.tm_tmpl_types.specs.declared.template.Want.TheVariants as want
use Rattle.tm_tmpl_types.specs.declared.template.TmplFault.{TmplFault}
use Rattle.tm_tmpl_types.specs.declared.template.TmplFault.TheVariants as tmpl
use Rattle.tm_refusals.specs.declared.rule.RuleFault.{RuleFault}
use Rattle.tm_refusals.specs.declared.rule.RuleFault.TheVariants as rule
use Rattle.tm_refusals.specs.declared.rule.RuleAt.{RuleAt}
use Rattle.tm_refusals.specs.declared.inputs.InputFault.{InputFault}
use Rattle.tm_refusals.specs.declared.inputs.InputFault.TheVariants as input

-- ---- values

-- a variant's name and its one value (this project)
unfoldable pub with_value : List ℕ → ℕ → List ℕ
with_value name n = name ++ codes " " ++ decimal n

-- how many digits an address has: 8, or 16 from 2^32 on (this project)
abbrev pub digits_of : ℕ → ℕ
digits_of addr = if nat_lt addr (2 ^ 32) then 8 else 16

-- an address in hexadecimal (this project)
unfoldable pub addr_text : ℕ → List ℕ
addr_text addr = codes "0x" ++ hex_text (digits_of addr) addr

-- a byte of a key, `?` where it isn't a visible one (this project)
abbrev pub shown : ℕ → ℕ
shown b = if nat_le 33 b && nat_le b 126 then b else 63

-- a key, each byte as it is shown (this project)
unfoldable pub shown_key : List ℕ → List ℕ
shown_key key = map shown key

-- a number in decimal, with `-` where it is negative (this project)
unfoldable pub signed_text : ℤ → List ℕ
signed_text z = signed_decimal z

-- ---- topologies

-- a key and its number (this project)
abbrev pub number_text : TopoKey → ℤ → List ℕ
number_text key value = key_text key ++ codes " " ++ signed_text value

-- the fault of a topology; want of memory has no text (this project)
abbrev pub topo_text : TopoFault → List ℕ
topo_text topo.NotToml = codes "NotToml"
topo_text (topo.UnknownKey key) = codes "UnknownKey " ++ shown_key key
topo_text (topo.Missing key) = codes "Missing " ++ key_text key
topo_text (topo.WrongKind key) = codes "WrongKind " ++ key_text key
topo_text (topo.OutOfRange key value) = codes "OutOfRange " ++ number_text key value
topo_text (topo.TooManyHarts product) = with_value (codes "TooManyHarts") product
topo_text topo.NoMemory = []

-- ---- the template's grammar

-- what was wanted (this project)
abbrev pub want_text : Want → List ℕ
want_text want.Template = codes "Template"
want_text want.Passes = codes "Passes"
want_text want.Name = codes "Name"
want_text want.Number = codes "Number"
want_text want.Kind = codes "Kind"
want_text want.Selector = codes "Selector"
want_text want.Asm = codes "Asm"
want_text want.Class = codes "Class"
want_text want.LineEnd = codes "LineEnd"
want_text want.Statement = codes "Statement"

-- the fault of a text's tokens; want of memory has no text (this project)
abbrev pub lex_text : LexFault → List ℕ
lex_text (lex.BadByte pos byte) = codes "BadByte " ++ pos_text pos ++ codes " " ++ decimal byte
lex_text (lex.LongWord pos) = codes "LongWord " ++ pos_text pos
lex_text lex.NoMemory = []

-- the fault of a template's grammar; want of memory has no text (this project)
abbrev pub tmpl_text : TmplFault → List ℕ
tmpl_text (tmpl.Lex fault) = codes "Lex " ++ lex_text fault
tmpl_text (tmpl.Early what) = codes "Early " ++ want_text what
tmpl_text (tmpl.Expected pos what) = codes "Expected " ++ pos_text pos ++ codes " " ++ want_text what
tmpl_text tmpl.NoMemory = []

-- ---- the template's rules

-- the fault of an assembler line (this project)
abbrev pub asm_text : AsmFault → List ℕ
asm_text asm.UnknownName = codes "UnknownName"
asm_text (asm.BadRegister place) = with_value (codes "BadRegister") place
asm_text (asm.BadNumber place) = with_value (codes "BadNumber") place
asm_text (asm.OutOfRange value) = codes "OutOfRange " ++ signed_text value
asm_text (asm.BadShape place) = with_value (codes "BadShape") place

-- the rule that is broken (this project)
abbrev pub rule_text : RuleFault → List ℕ
rule_text (rule.Cases n) = with_value (codes "Cases") n
rule_text (rule.Passes n) = with_value (codes "Passes") n
rule_text (rule.Slots n) = with_value (codes "Slots") n
rule_text (rule.Lines n) = with_value (codes "Lines") n
rule_text (rule.NoWindow w) = with_value (codes "NoWindow") w
rule_text (rule.Register x) = with_value (codes "Register") x
rule_text (rule.Asm fault) = codes "Asm " ++ asm_text fault
rule_text (rule.NotAllowed name) = codes "NotAllowed " ++ name_of name
rule_text (rule.BadPlace addr) = codes "BadPlace " ++ addr_text addr
rule_text (rule.NotOwner hart addr) = with_value (codes "NotOwner") hart ++ codes " " ++ addr_text addr
rule_text (rule.Target slot offset) = with_value (codes "Target") slot ++ codes " " ++ signed_text offset
rule_text (rule.NoWeight sum) = with_value (codes "NoWeight") sum
rule_text (rule.NoHart n) = with_value (codes "NoHart") n
rule_text (rule.TwiceBody h) = with_value (codes "TwiceBody") h
rule_text rule.TwiceName = codes "TwiceName"

-- a broken rule, behind its place (this project)
abbrev pub rule_at_text : RuleAt → List ℕ
rule_at_text r = pos_text r.pos ++ codes " " ++ rule_text r.fault

-- ---- both texts

-- the fault of one of the two texts that an image is built of; the file's role isn't printed again (this project)
abbrev pub input_text : InputFault → List ℕ
input_text (input.Topo fault) = codes "Topo " ++ topo_text fault
input_text (input.Tmpl fault) = codes "Tmpl " ++ tmpl_text fault
input_text (input.Rule fault) = codes "Rule " ++ rule_at_text fault

-- the fault is want of memory, which has another line (this project)
abbrev pub input_wants : InputFault → Bool
input_wants (input.Topo topo.NoMemory) = true
input_wants (input.Tmpl tmpl.NoMemory) = true
input_wants (input.Tmpl (tmpl.Lex lex.NoMemory)) = true
input_wants _ = false
