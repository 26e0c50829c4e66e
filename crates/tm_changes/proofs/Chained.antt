-- Lines that are chained by the words at which their slots stand.
use Rattle.std.proofs.Common.{◌≡◌, ℕ, ◌+◌, ◌<◌, List, length, Some, refl, sym, ap, subst, subst₂, arith, ◌∙◌}
use Rattle.std.proofs.Common.{inl, inr, get_or, set, get_or-set_same, replicate, length-set}
use Rattle.std.proofs.lemmas.Bool.{cases_eq}
use Rattle.std.proofs.lemmas.List.{get_or-set_other, get_or-replicate}
use Rattle.std.proofs.lemmas.Option.{get_or_from_slice_get}
use Rattle.std.specs.Prelude.{slice_get}
use Rattle.tm_plan_cases.specs.declared.program.Program.{Program}
use Rattle.tm_plan_script.specs.declared.faults.FaultLine.{FaultLine}
use Rattle.tm_changes.specs.Scripted.{slot_of_line, place_of, IsAt, IsLast, AreChained}

-- one line stands at one index
same-line : (lines : List FaultLine) (k n : ℕ) (line other : FaultLine) → k ≡ n → slice_get lines n ≡ Some line
    → slice_get lines k ≡ Some other → line ≡ other
same-line lines k n line other e is found =
    sym (get_or_from_slice_get lines n line other is)
    ∙ get_or_from_slice_get lines n other other (subst (λ (j : ℕ). slice_get lines j ≡ Some other) e found)

-- a line is at one place
same-place : (p : Program) (line other : FaultLine) (j k : ℕ) → line ≡ other → IsAt p line j → IsAt p other k → j ≡ k
same-place p line other j k is one two =
    sym one.2 ∙ (ap (λ (x : FaultLine). place_of (slot_of_line p x)) is ∙ two.2)

-- before the first line nothing is chained
pub none-chained : (p : Program) (lines : List FaultLine) (lasts befores : List ℕ)
    → lasts ≡ replicate (length lasts) 0 → AreChained p lines lasts befores 0
none-chained p lines lasts befores zeros = record {
  last = λ place few.
      let none : get_or lasts place 0 ≡ 0 =
      ap (λ (xs : List ℕ). get_or xs place 0) zeros ∙ get_or-replicate (length lasts) place 0 0 few in
      record {
        within = omega (arith, none);
        at = λ k line is found. absurd (omega (arith, none, is));
        none_later = λ k line from before found. absurd (omega (arith, before));
      };
  before = λ k place line before few found at. absurd (omega (arith, before));
}

-- a line that isn't at a place leaves its last line as it is
further : (p : Program) (lines : List FaultLine) (place n number : ℕ) (line : FaultLine) → slice_get lines n ≡ Some line
    → (¬ IsAt p line place) → IsLast p lines place n number → IsLast p lines place (n + 1) number
further p lines place n number line is off was = record {
  within = omega (arith, was.within);
  at = was.at;
  none_later = λ k other from before found. elim (cases_eq k n) [
    | inl e ↦ subst (λ (x : FaultLine). ¬ IsAt p x place) (same-line lines k n line other e is found) off
    | inr d ↦ was.none_later k other from (omega (arith, before, d)) found
  ];
}

-- a line at none of the words
pub unplaced : (p : Program) (lines : List FaultLine) (lasts befores : List ℕ) (n : ℕ) (line : FaultLine)
    → slice_get lines n ≡ Some line → ((k : ℕ) → k < length lasts → ¬ IsAt p line k)
    → AreChained p lines lasts befores n → AreChained p lines lasts befores (n + 1)
unplaced p lines lasts befores n line is off was = record {
  last = λ place few. further p lines place n _ line is (off place few) (was.last place few);
  before = λ k place other before few found at. elim (cases_eq k n) [
    | inl e ↦ absurd (off place few
        (subst (λ (x : FaultLine). IsAt p x place) (sym (same-line lines k n line other e is found)) at))
    | inr d ↦ was.before k place other (omega (arith, before, d)) few found at
  ];
}

-- a line at a word, which is its last one then
pub placed : (p : Program) (lines : List FaultLine) (lasts befores : List ℕ) (n at : ℕ) (line : FaultLine)
    → slice_get lines n ≡ Some line → n < length befores → at < length lasts → IsAt p line at
    → AreChained p lines lasts befores n
    → AreChained p lines (set lasts at (n + 1)) (set befores n (get_or lasts at 0)) (n + 1)
placed p lines lasts befores n at line is room few stands was = record {
  last = λ place below. elim (cases_eq place at) [
    | inl e ↦ subst (IsLast p lines place (n + 1))
        (sym (ap (λ (k : ℕ). get_or (set lasts at (n + 1)) k 0) e ∙ get_or-set_same lasts at (n + 1) 0 few))
        (own place e)
    | inr d ↦ subst (IsLast p lines place (n + 1)) (sym (get_or-set_other lasts at place (n + 1) 0 d))
        (further p lines place n _ line is (λ here. d (same-place p line line place at refl here stands))
        (was.last place (subst (λ (k : ℕ). place < k) (length-set lasts at (n + 1)) below)))
  ];
  before = λ k place other before below found here. elim (cases_eq k n) [
    | inl e ↦
        let same = same-place p line other at place (same-line lines k n line other e is found) stands here in
        subst₂ (λ (x y : ℕ). IsLast p lines x k y) same
        (sym (ap (λ (j : ℕ). get_or (set befores n (get_or lasts at 0)) j 0) e
        ∙ get_or-set_same befores n (get_or lasts at 0) 0 room))
        (subst (λ (j : ℕ). IsLast p lines at j (get_or lasts at 0)) (sym e) (was.last at few))
    | inr d ↦ subst (IsLast p lines place k) (sym (get_or-set_other befores n k (get_or lasts at 0) 0 d))
        (was.before k place other (omega (arith, before, d))
        (subst (λ (j : ℕ). place < j) (length-set lasts at (n + 1)) below) found here)
  ];
}
  where
    own : (place : ℕ) → place ≡ at → IsLast p lines place (n + 1) (n + 1)
    own place e = record {
      within = omega arith;
      at = λ k other next found.
          let here : k ≡ n = omega (arith, next) in
          subst₂ (IsAt p) (same-line lines k n line other here is found) (sym e) stands;
      none_later = λ k other from before found. absurd (omega (arith, from, before));
    }
