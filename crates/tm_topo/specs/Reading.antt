-- The topology that a TOML document states. What TOML is, `toml` says; the keys and their rules are this project's own.
use Rattle.std.specs.Prelude.{ℕ, ◌*◌, Bool, ◌&&◌, ◌||◌, not, nat_le, if◌then◌else◌, ℤ, pos, negsuc, List, []}
use Rattle.std.specs.Prelude.{◌∷◌, filter, Option, Some, None, Result, Ok, Err, codes}
use Rattle.std.specs.Str.{is_utf8, bytes_eq}
use Rattle.std.specs.Ordering.{nat_cmp, is_lt}
use Rattle.std.specs.Cmp.Lexicographic.{slice_cmp}
use Rattle.toml.specs.Data.{Data, Members, no_members, member, get_member, as_integer}
use Rattle.toml.specs.Parse.{parse_document}
use Rattle.tm_base.specs.Limits.{image_version, most_harts, is_line_size}
use Rattle.tm_base.specs.declared.limits.TheConstants.{MOST_BIAS}
use Rattle.tm_topo.specs.declared.system.TheConstants.{DEFAULT_BIAS}
use Rattle.tm_topo.specs.declared.system.Topology.{Topology}
use Rattle.tm_topo.specs.declared.system.TopoKey.{TopoKey}
use Rattle.tm_topo.specs.declared.system.TopoKey.TheVariants.{Cores, Threads, Line, Bias}
use Rattle.tm_topo.specs.declared.system.TopoFault.{TopoFault}
use Rattle.tm_topo.specs.declared.system.TopoFault.TheVariants.{NotToml, UnknownKey, Missing, WrongKind, OutOfRange}
use Rattle.tm_topo.specs.declared.system.TopoFault.TheVariants.{TooManyHarts}

-- the text of a key
abbrev pub key_text : TopoKey → List ℕ
key_text Cores = codes "cores"
key_text Threads = codes "threads"
key_text Line = codes "line"
key_text Bias = codes "bias"

-- the document that bytes are, if they are UTF-8 and TOML
unfoldable pub document : List ℕ → Option Members
document text = if is_utf8 text then parse_document text else None

-- the keys at the top of a document
abbrev pub keys_of : Members → List (List ℕ)
keys_of no_members = []
keys_of (member k d ms) = k ∷ keys_of ms

-- whether a text is one of the keys
abbrev pub is_known : List ℕ → Bool
is_known k = ((bytes_eq k (key_text Cores) || bytes_eq k (key_text Threads)) || bytes_eq k (key_text Line))
    || bytes_eq k (key_text Bias)

-- the lesser of a text and another one, where there is one, in byte order
abbrev pub lesser : List ℕ → Option (List ℕ) → List ℕ
lesser k None = k
lesser k (Some l) = if is_lt (slice_cmp nat_cmp k l) then k else l

-- the least of some texts
abbrev pub least : List (List ℕ) → Option (List ℕ)
least [] = None
least (k ∷ ks) = Some (lesser k (least ks))

-- the least unknown key
unfoldable pub unknown_key : Members → Option (List ℕ)
unknown_key ms = least (filter (λ k. not (is_known k)) (keys_of ms))

-- the numbers that a key may have
abbrev pub allows : TopoKey → ℕ → Bool
allows Cores n = nat_le 1 n && nat_le n (most_harts image_version)
allows Threads n = nat_le 1 n && nat_le n (most_harts image_version)
allows Line n = is_line_size n
allows Bias n = nat_le n MOST_BIAS

-- what holds where a key isn't there
abbrev pub default_of : TopoKey → Result ℕ TopoFault
default_of Bias = Ok DEFAULT_BIAS
default_of key = Err (Missing key)

-- what an integer at a key is read as
abbrev pub of_integer : TopoKey → ℤ → Result ℕ TopoFault
of_integer key (pos n) = if allows key n then Ok n else Err (OutOfRange key (pos n))
of_integer key (negsuc n) = Err (OutOfRange key (negsuc n))

-- what a value is read as, which is an integer or none
abbrev pub of_value : TopoKey → Option ℤ → Result ℕ TopoFault
of_value key None = Err (WrongKind key)
of_value key (Some z) = of_integer key z

-- what stands at a key, if anything does
abbrev pub of_entry : TopoKey → Option Data → Result ℕ TopoFault
of_entry key None = default_of key
of_entry key (Some d) = of_value key (as_integer d)

-- the number that a document has at a key, or its fault
unfoldable pub number_at : TopoKey → Members → Result ℕ TopoFault
number_at key ms = of_entry key (get_member (key_text key) ms)

-- what follows a number that was read
abbrev pub and_then : {A B : Type 0} → Result A TopoFault → (A → Result B TopoFault) → Result B TopoFault
and_then (Ok x) f = f x
and_then (Err e) f = Err e

-- no more harts than an image may have
abbrev pub within_harts : Topology → Result Topology TopoFault
within_harts t = if nat_le (t.cores * t.threads) (most_harts image_version) then Ok t
    else Err (TooManyHarts (t.cores * t.threads))

-- the numbers, key by key, and their product
unfoldable pub numbers_in : Members → Result Topology TopoFault
numbers_in ms =
    and_then (number_at Cores ms) (λ cores. and_then (number_at Threads ms) (λ threads.
    and_then (number_at Line ms) (λ line. and_then (number_at Bias ms) (λ bias.
    within_harts (record { cores = cores; threads = threads; line = line; bias = bias })))))

-- an unknown key comes before every fault of a known one
abbrev pub of_members : Members → Option (List ℕ) → Result Topology TopoFault
of_members ms (Some k) = Err (UnknownKey k)
of_members ms None = numbers_in ms

-- what a text without a document, or with this one, is read as
abbrev pub of_document : Option Members → Result Topology TopoFault
of_document None = Err NotToml
of_document (Some ms) = of_members ms (unknown_key ms)

-- the topology that a text states, or its first fault
unfoldable pub topology_of : List ℕ → Result Topology TopoFault
topology_of text = of_document (document text)
