-- The masks of shaped cases fit them, and have words of 32 bits.
use Rattle.std.proofs.Common.{◌≡◌, ◌+◌, ◌*◌, ◌^◌, ◌<◌, ◌⊎◌, inl, inr, ℕ, zero, suc, Bool, true, false, List, [], ◌∷◌}
use Rattle.std.proofs.Common.{length, map, Some, slice_get, slice_index, refl, ◌∙◌, subst}
use Rattle.std.proofs.Common.{arith, lit<}
use Rattle.std.specs.Prelude.{if◌then◌else◌, nat_lt, ◌&&◌, not}
use Rattle.std.specs.List.{range_with_len}
use Rattle.std.proofs.lemmas.List.Elements.{All-map}
use Rattle.std.proofs.lemmas.List.FromFn.{length-map-range_with_len}
use Rattle.tm_plan_map.specs.Map.{windows_base, windows_size}
use Rattle.tm_plan_cases.specs.declared.cases.Cases.{Cases}
use Rattle.tm_plan_cases.specs.declared.masks.CaseMask.{CaseMask}
use Rattle.tm_plan_cases.specs.Shaped.{IsShapedMask, MasksFit}
use Rattle.tm_gen.proofs.SlotLemmas.{images-lt}
use Rattle.tm_race.specs.Exact.{is_held, bits_of, checked_word, is_checked, checked_mark, mask_of, masks_of}

-- ---- words

bits-small : (test : ℕ → Bool) (n : ℕ) → bits_of test n < 2 ^ n
unfolding bits_of
bits-small test zero = lit< tt
bits-small test (suc n) =
    let more = bits-small (λ r. test (suc r)) n in
    let power : 2 ^ suc n ≡ 2 * 2 ^ n = omega arith in
    last (test 0) (bits_of (λ r. test (suc r)) n) (2 ^ n) (2 ^ suc n) more power
  where
    last : (b : Bool) (x p q : ℕ) → x < p → q ≡ 2 * p → (if b then 1 else 0) + 2 * x < q
    last true x p q l e = omega arith
    last false x p q l e = omega arith

word-small : (cases : Cases) (c h : ℕ) → checked_word cases c h < 2 ^ 32
unfolding checked_word
word-small cases c h = let below = bits-small (λ r. nat_lt 0 r && not (is_held cases c h r)) 31 in omega (arith, below)

-- what holds of the mask of each case holds of each mask
of-each : (P : CaseMask → Type 0) (f : ℕ → CaseMask) (xs : List ℕ) → ((c : ℕ) → P (f c)) → (c : ℕ) (m : CaseMask)
    → slice_get (map f xs) c ≡ Some m → P m
of-each P f [] each c m at = absurd (cc)
of-each P f (x ∷ xs) each zero m at = let same : f x ≡ m = cc in subst P same (each x)
of-each P f (x ∷ xs) each (suc c) m at = of-each P f xs each c m at

words-small : (cases : Cases) (c h : ℕ) → slice_index (mask_of cases c).regs h < 2 ^ 32
unfolding mask_of
words-small cases c h = images-lt (checked_word cases c) (2 ^ 32) (range_with_len 0 cases.harts) (lit< tt)
    (word-small cases c) h

pub mask-words : (cases : Cases) (c : ℕ) (m : CaseMask) → slice_get (masks_of cases).cases c ≡ Some m → (h : ℕ)
    → slice_index m.regs h < 2 ^ 32
unfolding masks_of
mask-words cases = of-each (λ m. (h : ℕ) → slice_index m.regs h < 2 ^ 32) (mask_of cases)
    (range_with_len 0 (length cases.cases)) (words-small cases)

-- ---- shapes

-- 0 or 255
abbrev IsEnd : ℕ → Type 0
IsEnd b = (b ≡ 0) ⊎ (b ≡ 255)

either-end : (b : Bool) → IsEnd (if b then 255 else 0)
either-end true = inr refl
either-end false = inl refl

mark-end : (cases : Cases) (c q : ℕ) → IsEnd (checked_mark cases c q)
unfolding checked_mark
mark-end cases c q = either-end (is_checked cases c (windows_base + q))

size : windows_size ≡ 6144
unfolding windows_size
size = refl

mask-shaped : (cases : Cases) (c : ℕ) → IsShapedMask cases (mask_of cases c)
unfolding mask_of
mask-shaped cases c = record {
  regs = length-map-range_with_len (checked_word cases c) 0 cases.harts;
  bytes = length-map-range_with_len (checked_mark cases c) 0 windows_size ∙ size;
  ends = All-map IsEnd (checked_mark cases c) (range_with_len 0 windows_size) (λ k q l. mark-end cases c _);
}

pub masks-fit : (cases : Cases) → MasksFit cases (masks_of cases)
unfolding masks_of
masks-fit cases = record {
  count = length-map-range_with_len (mask_of cases) 0 (length cases.cases);
  each = All-map (IsShapedMask cases) (mask_of cases) (range_with_len 0 (length cases.cases))
      (λ k c l. mask-shaped cases _);
}
