-- Worked rows of the definition, computed.
use Rattle.std.proofs.Common.{◌≡◌, Ok, Err, codes, negsuc, pos, refl, ◌∷◌, []}
use Rattle.std.specs.Str.{is_utf8, chars}
use Rattle.toml.proofs.OnLiterals.{toml_on_literals}
use Rattle.tm_topo.specs.declared.system.TopoKey.TheVariants.{Cores, Line, Bias}
use Rattle.tm_topo.specs.declared.system.TopoFault.TheVariants.{NotToml, UnknownKey, Missing, WrongKind, OutOfRange}
use Rattle.tm_topo.specs.declared.system.TopoFault.TheVariants.{TooManyHarts}
use Rattle.tm_topo.specs.Reading.{topology_of, document, unknown_key, number_at, numbers_in}

plain : topology_of (codes "cores = 2\nthreads = 1\nline = 64\n") ≡ Ok
    (record { cores = 2; threads = 1; line = 64; bias = 40 })
unfolding toml_on_literals is_utf8 chars topology_of document unknown_key number_at numbers_in
plain = refl

too_many : topology_of (codes "cores = 3\nthreads = 3\nline = 64\n") ≡ Err (TooManyHarts 9)
unfolding toml_on_literals is_utf8 chars topology_of document unknown_key number_at numbers_in
too_many = refl

line_48 : topology_of (codes "cores = 1\nthreads = 1\nline = 48\n") ≡ Err (OutOfRange Line (pos 48))
unfolding toml_on_literals is_utf8 chars topology_of document unknown_key number_at numbers_in
line_48 = refl

no_line : topology_of (codes "cores = 1\nthreads = 1\n") ≡ Err (Missing Line)
unfolding toml_on_literals is_utf8 chars topology_of document unknown_key number_at numbers_in
no_line = refl

unknown : topology_of (codes "cores = 1\nspeed = 1\nSpeed = 2\n") ≡ Err (UnknownKey (codes "Speed"))
unfolding toml_on_literals is_utf8 chars topology_of document unknown_key number_at numbers_in
unknown = refl

a_text : topology_of (codes "cores = \"1\"\n") ≡ Err (WrongKind Cores)
unfolding toml_on_literals is_utf8 chars topology_of document unknown_key number_at numbers_in
a_text = refl

negative : topology_of (codes "cores = 1\nthreads = 1\nline = 64\nbias = -1") ≡ Err (OutOfRange Bias (negsuc 0))
unfolding toml_on_literals is_utf8 chars topology_of document unknown_key number_at numbers_in
negative = refl

no_toml : topology_of (codes "cores =\n") ≡ Err NotToml
unfolding toml_on_literals is_utf8 chars topology_of document unknown_key number_at numbers_in
no_toml = refl

no_text : topology_of (255 ∷ []) ≡ Err NotToml
unfolding toml_on_literals is_utf8 chars topology_of document unknown_key number_at numbers_in
no_text = refl
