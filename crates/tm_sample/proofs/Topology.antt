-- The topology of a sample is read as the numbers that it states.
use Rattle.std.proofs.Common.{◌≡◌, ◌∙◌, ℕ, suc, ◌*◌, ◌<◌, ◌^◌, pos, List, [], ◌∷◌, ◌++◌, length, codes, Some, Ok}
use Rattle.std.proofs.Common.{refl, sym, ap, arith, append_assoc, append-nil, Bool, true, false, IsUtf8}
use Rattle.std.specs.Prelude.{nat_le}
use Rattle.std.specs.Int.{w64}
use Rattle.std.specs.Char.{encode_utf8}
use Rattle.std.specs.Str.{is_utf8, chars}
use Rattle.std.specs.Fmt.{decimal, digits}
use Rattle.std.proofs.lemmas.Fmt.{IsAscii-decimal}
use Rattle.std.proofs.lemmas.Int.{fits_signed_from_abs}
use Rattle.std.proofs.lemmas.Str.{IsUtf8-append, IsUtf8-from_ascii, IsUtf8-from_is_utf8, is_utf8-from_IsUtf8}
use Rattle.toml_writer.specs.Text.{key_text}
use Rattle.toml.specs.Data.{Members, member, no_members, integer}
use Rattle.toml.specs.Tables.{Expression, Nodes, node, no_nodes, value, key_value, define, along_header, along_dots}
use Rattle.toml.specs.Tables.{at_key}
use Rattle.toml.specs.Parse.{skip_bom, parse_document}
use Rattle.toml.specs.Text.{IsLineText, IsLinesText}
use Rattle.toml.proofs.ReadLines.{run, AllPrinted, read_lines}
use Rattle.toml.proofs.Turns.{document_some}
use Rattle.tm_topo.specs.declared.system.Topology.{Topology}
use Rattle.tm_topo.specs.declared.system.TopoKey.TheVariants.{Cores, Line, Bias}
use Rattle.tm_topo.specs.Reading.{topology_of, document, of_document, unknown_key, number_at, numbers_in, allows}
use Rattle.tm_sample.specs.Texts.{key_line}

-- ---- the text

-- the text with these numbers
abbrev pub text_of : (cores line bias : ℕ) → List ℕ
text_of cores line bias =
    key_line (codes "cores") cores ++ codes "threads = 2\n" ++ key_line (codes "line") line
    ++ key_line (codes "bias") bias

-- a key with its number
abbrev pair : List ℕ → ℕ → Expression
pair key number = (([], key), key_value (integer (pos number)))

-- the pairs of the text, in its order
abbrev pairs : (cores line bias : ℕ) → List Expression
pairs cores line bias =
    pair (codes "cores") cores ∷ pair (codes "threads") 2 ∷ pair (codes "line") line ∷ pair (codes "bias") bias ∷ []

-- a line is what a pair is written as
line_text : (started : Bool) (key : List ℕ) (number : ℕ) → key_text key ≡ key → number < 2 ^ 63
    → IsLineText true started ([], key) (key_value (integer (pos number))) (key_line key number)
line_text started key number bare small =
    (decimal number, rw bare (simp append_assoc refl), (refl, fits_signed_from_abs w64 (pos number) small))

bare_cores : key_text (codes "cores") ≡ codes "cores"
unfolding key_text
bare_cores = refl

bare_threads : key_text (codes "threads") ≡ codes "threads"
unfolding key_text
bare_threads = refl

bare_line : key_text (codes "line") ≡ codes "line"
unfolding key_text
bare_line = refl

bare_bias : key_text (codes "bias") ≡ codes "bias"
unfolding key_text
bare_bias = refl

threads_line : codes "threads = 2\n" ≡ key_line (codes "threads") 2
unfolding digits
threads_line = refl

four_lines : (a b c d : List ℕ) → a ++ b ++ c ++ d ≡ a ++ (b ++ (c ++ d))
four_lines a b c d = append_assoc (a ++ b) c d ∙ append_assoc a b (c ++ d)

lines_text : (cores line bias : ℕ) → cores < 2 ^ 63 → line < 2 ^ 63 → bias < 2 ^ 63
    → IsLinesText true false (pairs cores line bias) (text_of cores line bias)
lines_text cores line bias few short low =
    let first = key_line (codes "cores") cores in
    let second = key_line (codes "threads") 2 in
    let third = key_line (codes "line") line in
    let fourth = key_line (codes "bias") bias in
    let whole : text_of cores line bias ≡ first ++ (second ++ (third ++ fourth)) =
    ap (λ (t : List ℕ). first ++ t ++ third ++ fourth) threads_line ∙ four_lines first second third fourth in (
      first,
      second ++ (third ++ fourth),
      whole,
      line_text false (codes "cores") cores bare_cores few,
      (
        second,
        third ++ fourth,
        refl,
        line_text true (codes "threads") 2 bare_threads (omega arith),
        (
          third,
          fourth,
          refl,
          line_text true (codes "line") line bare_line short,
          (fourth, [], sym (append-nil fourth), line_text true (codes "bias") bias bare_bias low, refl),
        ),
      ),
    )

printed : (cores line bias : ℕ) → AllPrinted (pairs cores line bias)
printed cores line bias = (
  (refl, omega arith, refl),
  (
    (refl, omega arith, refl),
    ((refl, omega arith, refl), ((refl, omega arith, refl), tt)),
  ),
)

-- ---- the document

-- the tables that the text leaves
abbrev nodes : (cores line bias : ℕ) → Nodes
nodes cores line bias =
    node (codes "bias") (value (integer (pos bias))) (node (codes "cores") (value (integer (pos cores)))
    (node (codes "line") (value (integer (pos line))) (node (codes "threads") (value (integer (pos 2))) no_nodes)))

abbrev members : (cores line bias : ℕ) → Members
members cores line bias =
    member (codes "bias") (integer (pos bias)) (member (codes "cores") (integer (pos cores))
    (member (codes "line") (integer (pos line)) (member (codes "threads") (integer (pos 2)) no_members)))

defined : (cores line bias : ℕ) → run (no_nodes, []) (pairs cores line bias) ≡ Some (nodes cores line bias, [])
unfolding define along_header along_dots at_key
defined cores line bias = refl

unmarked : (cores line bias : ℕ) → skip_bom (text_of cores line bias) ≡ text_of cores line bias
unfolding skip_bom
unmarked cores line bias = refl

parsed : (cores line bias : ℕ) → cores < 2 ^ 63 → line < 2 ^ 63 → bias < 2 ^ 63
    → parse_document (text_of cores line bias) ≡ Some (members cores line bias)
parsed cores line bias few short low =
    let text = text_of cores line bias in
    let read = read_lines true false (pairs cores line bias) text text (no_nodes, []) (suc (length text))
    (lines_text cores line bias few short low) (printed cores line bias) refl (omega arith) in
    document_some text (nodes cores line bias, []) (rw (unmarked cores line bias) (read ∙ defined cores line bias))

-- ---- UTF-8

plain : (number : ℕ) → number < 2 ^ 63 → IsUtf8 (decimal number)
plain number small = IsUtf8-from_ascii (decimal number) (IsAscii-decimal number (omega arith))

line_utf8 : (key : List ℕ) (number : ℕ) → IsUtf8 key → number < 2 ^ 63 → IsUtf8 (key_line key number)
unfolding is_utf8 chars encode_utf8
line_utf8 key number its small =
    IsUtf8-append (key ++ codes " = " ++ decimal number) (codes "\n")
    (IsUtf8-append (key ++ codes " = ") (decimal number)
    (IsUtf8-append key (codes " = ") its (IsUtf8-from_is_utf8 (codes " = ") refl)) (plain number small))
    (IsUtf8-from_is_utf8 (codes "\n") refl)

utf8 : (cores line bias : ℕ) → cores < 2 ^ 63 → line < 2 ^ 63 → bias < 2 ^ 63
    → is_utf8 (text_of cores line bias) ≡ true
unfolding is_utf8 chars encode_utf8
utf8 cores line bias few short low =
    let first = key_line (codes "cores") cores in
    let second = codes "threads = 2\n" in
    let third = key_line (codes "line") line in
    let fourth = key_line (codes "bias") bias in
    is_utf8-from_IsUtf8 (text_of cores line bias) (IsUtf8-append (first ++ second ++ third) fourth
    (IsUtf8-append (first ++ second) third
    (IsUtf8-append first second (line_utf8 (codes "cores") cores (IsUtf8-from_is_utf8 (codes "cores") refl) few)
    (IsUtf8-from_is_utf8 second refl))
    (line_utf8 (codes "line") line (IsUtf8-from_is_utf8 (codes "line") refl) short))
    (line_utf8 (codes "bias") bias (IsUtf8-from_is_utf8 (codes "bias") refl) low))

-- ---- the topology

document_is : (cores line bias : ℕ) → cores < 2 ^ 63 → line < 2 ^ 63 → bias < 2 ^ 63
    → document (text_of cores line bias) ≡ Some (members cores line bias)
unfolding document
document_is cores line bias few short low =
    rw (utf8 cores line bias few short low) (parsed cores line bias few short low)

abbrev pub topology : (cores line bias : ℕ) → Topology
topology cores line bias = record { cores = cores; threads = 2; line = line; bias = bias }

read_members : (cores line bias : ℕ) → allows Cores cores ≡ true → allows Line line ≡ true → allows Bias bias ≡ true
    → nat_le (cores * 2) 8 ≡ true
    → of_document (Some (members cores line bias)) ≡ Ok (topology cores line bias)
unfolding unknown_key number_at numbers_in
read_members cores line bias its_cores its_line its_bias few = rw (its_cores, its_line, its_bias, few)

-- a text whose numbers are allowed is read as them
pub topology_read : (cores line bias : ℕ) → cores < 2 ^ 63 → line < 2 ^ 63 → bias < 2 ^ 63
    → allows Cores cores ≡ true → allows Line line ≡ true → allows Bias bias ≡ true → nat_le (cores * 2) 8 ≡ true
    → topology_of (text_of cores line bias) ≡ Ok (topology cores line bias)
unfolding topology_of
topology_read cores line bias few short low its_cores its_line its_bias harts =
    ap of_document (document_is cores line bias few short low)
    ∙ read_members cores line bias its_cores its_line its_bias harts
