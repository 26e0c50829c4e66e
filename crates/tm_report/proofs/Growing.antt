-- Entries that are put one behind the other.
use Rattle.std.proofs.Common.{◌≡◌, ◌++◌, ◌∙◌, ◌+◌, ◌-◌, ◌*◌, ◌≤◌, ap, subst, ℕ, suc, Bool, List, [], ◌∷◌}
use Rattle.std.proofs.Common.{filter, map, append_assoc, arith}
use Rattle.std.specs.List.{flat_map}
use Rattle.std.proofs.lemmas.Grind.{flat_map-append}
use Rattle.std.proofs.lemmas.List.Elements.{filter-append}
use Rattle.std.proofs.lemmas.List.{map-append}
use Rattle.tm_plan_map.specs.Map.{windows_base}
use Rattle.tm_plan_cases.specs.Collected.{window_dwords}
use Rattle.tm_base.specs.Lists.{count_from}
use Rattle.tm_base.proofs.ListLemmas.{count_from-suc}
use Rattle.tm_report.specs.Listing.{saved_registers}

-- the numbers from a up to n, and n
pub count-next : (a n : ℕ) → a ≤ n → count_from a (n + 1 - a) ≡ count_from a (n - a) ++ n ∷ []
count-next a n h =
    let longer : n + 1 - a ≡ suc (n - a) = omega arith in
    let last : a + (n - a) ≡ n = omega arith in
    rw longer (subst (λ m. count_from a (suc (n - a)) ≡ count_from a (n - a) ++ m ∷ []) last (count_from-suc a (n - a)))

-- all saved registers
pub registers-all : (n : ℕ) → n ≡ 31 → count_from 1 (n - 1) ≡ saved_registers
unfolding saved_registers
registers-all n is = ap (λ m. count_from 1 (m - 1)) is

-- the addresses of the first n dwords of the windows
abbrev pub dwords_to : ℕ → List ℕ
dwords_to n = map (λ q. windows_base + 8 * q) (count_from 0 n)

pub dwords-more : (n : ℕ) → dwords_to (n + 1) ≡ dwords_to n ++ (windows_base + 8 * n) ∷ []
dwords-more n =
    let longer : n + 1 ≡ suc n = omega arith in
    let last : 0 + n ≡ n = omega arith in
    rw longer (ap (map (λ q. windows_base + 8 * q))
    (subst (λ m. count_from 0 (suc n) ≡ count_from 0 n ++ m ∷ []) last (count_from-suc 0 n))
    ∙ map-append (λ q. windows_base + 8 * q) (count_from 0 n) (n ∷ []))

-- all dwords of the windows
pub dwords-all : (n : ℕ) → n ≡ 768 → dwords_to n ≡ window_dwords
unfolding window_dwords
dwords-all n is = ap dwords_to is

-- the entries of a list and of one element more
pub entries-more : (f : ℕ → List ℕ) (p : ℕ → Bool) (old now new xs : List ℕ) (x : ℕ)
    → now ≡ old ++ flat_map f (filter p xs)
    → new ≡ now ++ flat_map f (filter p (x ∷ [])) → new ≡ old ++ flat_map f (filter p (xs ++ x ∷ []))
entries-more f p old now new xs x is more =
    rw (
      filter-append p xs (x ∷ []),
      flat_map-append f (filter p xs) (filter p (x ∷ [])),
      ← append_assoc,
    ) (more ∙ ap (λ front. front ++ flat_map f (filter p (x ∷ []))) is)
