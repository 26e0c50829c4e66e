-- What is read of a text lies within the limits.
use Rattle.std.proofs.Common.{◌≡◌, ℕ, ◌*◌, ◌≤◌, Bool, ◌&&◌, true, false, nat_le, if◌then◌else◌, ℤ, pos, negsuc}
use Rattle.std.proofs.Common.{Option, Some}
use Rattle.std.proofs.Common.{None, Result, Ok, Err, IfOk, IsTrue, refl, sym, List}
use Rattle.std.proofs.lemmas.Bool.{and_parts, leb-true}
use Rattle.toml.specs.Data.{Data, Members, as_integer, get_member}
use Rattle.tm_base.specs.Limits.{image_version, most_harts}
use Rattle.tm_base.specs.declared.limits.TheConstants.{MOST_BIAS}
use Rattle.tm_topo.specs.declared.system.TheConstants.{DEFAULT_BIAS}
use Rattle.tm_topo.specs.declared.system.Topology.{Topology}
use Rattle.tm_topo.specs.declared.system.TopoKey.{TopoKey}
use Rattle.tm_topo.specs.declared.system.TopoKey.TheVariants.{Cores, Threads, Line, Bias}
use Rattle.tm_topo.specs.declared.system.TopoFault.{TopoFault}
use Rattle.tm_topo.specs.declared.system.TopoFault.TheVariants.{TooManyHarts}
use Rattle.tm_topo.specs.Reading.{allows, default_of, of_integer, of_value, of_entry, number_at, and_then, within_harts}
use Rattle.tm_topo.specs.Reading.{numbers_in, of_members, of_document, unknown_key, key_text}
use Rattle.tm_topo.specs.Limits.{IsInRange}

-- the value that was read is the one that was tested
tested : (b : Bool) (m n : ℕ) (e : TopoFault) → (if b then Ok m else Err e) ≡ Ok n → (b ≡ true) × (m ≡ n)
tested true m n e h = (refl, cc)
tested false m n e h = absurd (cc)

default_allowed : (key : TopoKey) (n : ℕ) → default_of key ≡ Ok n → IsTrue (allows key n)
default_allowed Bias n h = let is : DEFAULT_BIAS ≡ n = cc in rw (sym is) refl
default_allowed Cores n h = absurd (cc)
default_allowed Threads n h = absurd (cc)
default_allowed Line n h = absurd (cc)

integer_allowed : (key : TopoKey) (z : ℤ) (n : ℕ) → of_integer key z ≡ Ok n → IsTrue (allows key n)
integer_allowed key (pos m) n h = let both = tested (allows key m) m n _ h in rw (sym both.1) both.0
integer_allowed key (negsuc m) n h = absurd (cc)

value_allowed : (key : TopoKey) (z : Option ℤ) (n : ℕ) → of_value key z ≡ Ok n → IsTrue (allows key n)
value_allowed key None n h = absurd (cc)
value_allowed key (Some z) n h = integer_allowed key z n h

entry_allowed : (key : TopoKey) (d : Option Data) (n : ℕ) → of_entry key d ≡ Ok n → IsTrue (allows key n)
entry_allowed key None n h = default_allowed key n h
entry_allowed key (Some d) n h = value_allowed key (as_integer d) n h

allowed : (key : TopoKey) (ms : Members) (n : ℕ) → number_at key ms ≡ Ok n → IsTrue (allows key n)
unfolding number_at
allowed key ms n h = entry_allowed key (get_member (key_text key) ms) n h

-- a number that was read, with what follows it
took : {A B : Type 0} (r : Result A TopoFault) (f : A → Result B TopoFault) (y : B) → and_then r f ≡ Ok y
    → (x : A) × (r ≡ Ok x) × (f x ≡ Ok y)
took (Ok x) f y h = (x, refl, h)
took (Err e) f y h = absurd (cc)

within : (s t : Topology) → within_harts s ≡ Ok t → (s.cores * s.threads ≤ most_harts image_version) × (s ≡ t)
within s t h = few (nat_le (s.cores * s.threads) (most_harts image_version)) refl h where
  few : (b : Bool) → nat_le (s.cores * s.threads) (most_harts image_version) ≡ b
      → (if b then Ok s else Err (TooManyHarts (s.cores * s.threads))) ≡ Ok t
      → (s.cores * s.threads ≤ most_harts image_version) × (s ≡ t)
  few true is got = (leb-true (s.cores * s.threads) (most_harts image_version) is, cc)
  few false is got = absurd (cc)

-- numbers from 1 to the most harts, as the keys' test has them
between : (n : ℕ) → (nat_le 1 n && nat_le n (most_harts image_version)) ≡ true
    → (1 ≤ n) × (n ≤ most_harts image_version)
between n h =
    let parts = and_parts (nat_le 1 n) (nat_le n (most_harts image_version)) h in
    (leb-true 1 n parts.0, leb-true n (most_harts image_version) parts.1)

numbers_range : (ms : Members) (t : Topology) → numbers_in ms ≡ Ok t → IsInRange t
unfolding numbers_in
numbers_range ms t h =
    let cores = took _ _ _ h in
    let threads = took _ _ _ cores.2 in
    let line = took _ _ _ threads.2 in
    let bias = took _ _ _ line.2 in
    let all = within _ t bias.2 in
    rw (sym all.1) (record {
      cores = between cores.0 (allowed Cores ms cores.0 cores.1);
      threads = between threads.0 (allowed Threads ms threads.0 threads.1);
      line = allowed Line ms line.0 line.1;
      bias = leb-true bias.0 MOST_BIAS (allowed Bias ms bias.0 bias.1);
      harts = all.0;
    })

members_range : (ms : Members) (k : Option (List ℕ)) (t : Topology) → of_members ms k ≡ Ok t → IsInRange t
members_range ms (Some k) t h = absurd (cc)
members_range ms None t h = numbers_range ms t h

document_range : (d : Option Members) (t : Topology) → of_document d ≡ Ok t → IsInRange t
document_range None t h = absurd (cc)
document_range (Some ms) t h = members_range ms (unknown_key ms) t h

-- what was read of a document lies within the limits
pub range_of : (d : Option Members) (r : Result Topology TopoFault) → IfOk r (λ t. of_document d ≡ Ok t)
    → IfOk r IsInRange
range_of d (Ok t) h = document_range d t h
range_of d (Err e) h = tt
