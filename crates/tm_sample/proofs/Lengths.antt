-- How long the texts of a sample may be.
use Rattle.std.proofs.Common.{◌≤◌, ◌<◌, ℕ, zero, suc, ◌+◌, ◌*◌, ◌%◌, List, ◌++◌, length, length-append, arith, codes}
use Rattle.std.specs.Prelude.{flat_map, Bool, true, false, ◌==◌, if◌then◌else◌}
use Rattle.std.specs.Fmt.{decimal}
use Rattle.std.proofs.lemmas.Fmt.{length-decimal-le}
use Rattle.tm_base.specs.Lists.{count_from}
use Rattle.tm_sample.specs.Texts.{key_line, sample_line, sample_topology, sample_case, sample_template}

-- a number below 1000 has at most 3 digits
few_digits : (v : ℕ) → v < 1000 → length (decimal v) ≤ 3
few_digits v h = length-decimal-le 3 v (omega arith) (omega arith) (omega arith)

line_by : (a b : Bool) → (if a then 32 else if b then 64 else 128) < 1000
line_by true b = omega arith
line_by false true = omega arith
line_by false false = omega arith

line_low : (turn : ℕ) → sample_line turn < 1000
line_low turn = line_by (turn == 0) (turn == 1)

short-2 : (a b : List ℕ) (i j : ℕ) → length a ≤ i → length b ≤ j → length (a ++ b) ≤ i + j
short-2 a b i j first second = omega (arith, length-append a b, first, second)

short-3 : (a b c : List ℕ) (i j k : ℕ) → length a ≤ i → length b ≤ j → length c ≤ k → length (a ++ b ++ c) ≤ i + j + k
short-3 a b c i j k first second third = short-2 (a ++ b) c (i + j) k (short-2 a b i j first second) third

short-4 : (a b c d : List ℕ) (i j k l : ℕ) → length a ≤ i → length b ≤ j → length c ≤ k → length d ≤ l
    → length (a ++ b ++ c ++ d) ≤ i + j + k + l
short-4 a b c d i j k l first second third fourth =
    short-2 (a ++ b ++ c) d (i + j + k) l (short-3 a b c i j k first second third) fourth

-- a key of at most 8 bytes and a small number
key_short : (key : List ℕ) (v : ℕ) → length key ≤ 8 → v < 1000 → length (key_line key v) ≤ 15
key_short key v named h =
    short-4 key (codes " = ") (decimal v) (codes "\n") 8 3 3 1 named (omega arith) (few_digits v h) (omega arith)

pub topology_short : (n : ℕ) → length (sample_topology n) ≤ 60
unfolding sample_topology
topology_short n =
    let all = short-4 (key_line (codes "cores") (1 + n % 2)) (codes "threads = 2\n")
    (key_line (codes "line") (sample_line (n % 3))) (key_line (codes "bias") (n % 101)) 15 15 15 15
    (key_short (codes "cores") (1 + n % 2) (omega arith) (omega arith)) (omega arith)
    (key_short (codes "line") (sample_line (n % 3)) (omega arith) (line_low (n % 3)))
    (key_short (codes "bias") (n % 101) (omega arith) (omega arith)) in
    omega (arith, all)

case_short : (c : ℕ) → c < 1000 → length (sample_case c) ≤ 109
case_short c h =
    short-3 (codes "case c") (decimal c) (codes "\nbody all\nmix 100 alu 4 load 3 store 3 branch 1\n") 6 3 100
    (omega arith) (few_digits c h) (omega arith)

cases_short : (k a : ℕ) → a + k ≤ 1000 → length (flat_map sample_case (count_from a k)) ≤ 109 * k
cases_short zero a h = omega arith
cases_short (suc k) a h =
    let both = short-2 (sample_case a) (flat_map sample_case (count_from (suc a) k)) 109 (109 * k)
    (case_short a (omega arith)) (cases_short k (suc a) (omega arith)) in
    omega (arith, both)

pub template_short : (n : ℕ) → length (sample_template n) ≤ 1075
unfolding sample_template
template_short n =
    let all = short-4 (codes "template sample\npasses ") (decimal (2 + n % 3))
    (codes "\nwindow 0 true 2\nwindow 1 false 2\nwindow 2 own 8\n") (flat_map sample_case
    (count_from 0 8)) 100 3 100 872
    (omega arith) (few_digits (2 + n % 3) (omega arith)) (omega arith) (cases_short 8 0 (omega arith)) in
    omega (arith, all)
