use Rattle.std.proofs.Common.{◌≡◌, ℕ, Bool, not, List, [], ◌∷◌, map, Option, Some, None, option_map, String, Global}
use Rattle.std.proofs.Common.{string_bytes, Bor, refl, sym, ap, ◌∙◌, Less}
use Rattle.std.proofs.Common.{inl, inr}
use Rattle.std.specs.Prelude.{filter, find}
use Rattle.std.specs.List.{AllByRecursion}
use Rattle.std.specs.List.Sorted.{IsStrictlySortedBy}
use Rattle.std.specs.String.{string_cmp}
use Rattle.std.specs.Map.{keys_of as entry_keys}
use Rattle.std.proofs.lemmas.Bool.{cases_Bool}
use Rattle.toml.specs.View.{members_view}
use Rattle.toml.proofs.Views.{Entry}
use Rattle.toml.specs.Data.{Data, Members, get_member, as_integer}
use Rattle.tm_topo.specs.declared.system.TopoKey.{TopoKey}
use Rattle.tm_topo.specs.Reading.{keys_of, lesser, least, is_known, unknown_key, key_text, number_at, of_value}
use Rattle.tm_topo.specs.Reading.{default_of}

-- a text below each of some others is no greater than the first of them that passes
first_is_lesser : (q : List ℕ → Bool) (k : String Global) (ks : List (String Global)) → AllByRecursion
    (λ y. string_cmp k y ≡ Less) ks
    → lesser (string_bytes k) (option_map string_bytes (find (λ s. q (string_bytes s)) ks)) ≡ string_bytes k
first_is_lesser q k [] above = refl
first_is_lesser q k (y ∷ ys) above =
    elim (cases_Bool (q (string_bytes y))) [
      | inl here ↦ rw (here, above.0)
      | inr other ↦ rw other (first_is_lesser q k ys above.1)
    ]

-- of keys that ascend, the least that passes is the first
least_is_first : (q : List ℕ → Bool) (ks : List (String Global)) → IsStrictlySortedBy string_cmp ks
    → least (filter q (map string_bytes ks)) ≡ option_map string_bytes (find (λ s. q (string_bytes s)) ks)
unfolding IsStrictlySortedBy
least_is_first q [] sorted = refl
least_is_first q (k ∷ ks) sorted =
    elim (cases_Bool (q (string_bytes k))) [
      | inl here ↦ rw (here, least_is_first q ks sorted.1) (ap Some (first_is_lesser q k ks sorted.0))
      | inr other ↦ rw other (least_is_first q ks sorted.1)
    ]

keys_of-view : (es : List Entry) → keys_of (members_view es) ≡ map string_bytes (entry_keys es)
keys_of-view [] = refl
keys_of-view (e ∷ es) = ap (λ ks. string_bytes e.0 ∷ ks) (keys_of-view es)

bytes_of_ref : (r : Option (Bor (String Global))) → option_map (λ k. string_bytes k.now) r ≡ option_map string_bytes
    (option_map (λ k. k.now) r)
bytes_of_ref None = refl
bytes_of_ref (Some k) = refl

-- the first unknown key of a table is the least
pub unknown_key-found : (es : List Entry) (r : Option (Bor (String Global))) → IsStrictlySortedBy string_cmp
    (entry_keys es)
    → option_map (λ k. k.now) r ≡ find (λ k. not (is_known (string_bytes k))) (entry_keys es)
    → option_map (λ k. string_bytes k.now) r ≡ unknown_key (members_view es)
unfolding unknown_key
unknown_key-found es r sorted found =
    bytes_of_ref r ∙ ap (option_map string_bytes) found
    ∙ sym (ap (λ ks. least (filter (λ k. not (is_known k)) ks)) (keys_of-view es) ∙ least_is_first
    (λ k. not (is_known k)) (entry_keys es) sorted)

-- what stands at a key
pub number_at-found : (key : TopoKey) (ms : Members) (name : List ℕ) (d : Data) → name ≡ key_text key → Some d ≡
    get_member name ms → number_at key ms ≡ of_value key (as_integer d)
unfolding number_at
number_at-found key ms name d same found = rw (← same, ← found)

pub number_at-missing : (key : TopoKey) (ms : Members) (name : List ℕ) → name ≡ key_text key → None ≡ get_member name
    ms → number_at key ms ≡ default_of key
unfolding number_at
number_at-missing key ms name same found = rw (← same, ← found)
