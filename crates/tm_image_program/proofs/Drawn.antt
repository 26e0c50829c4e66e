-- The numbers of drawn cases have the bits that their types give.
use Rattle.std.proofs.Common.{◌≡◌, ◌+◌, ◌-◌, ◌*◌, ◌%◌, ◌^◌, ◌==◌, ◌<◌, ℕ, zero, suc, Bool, true, false, List, [], ◌∷◌}
use Rattle.std.proofs.Common.{length, Some, slice_get, slice_index, refl, sym, ap, ◌∙◌, subst, arith, lit<}
use Rattle.std.specs.Prelude.{nat_le, if◌then◌else◌}
use Rattle.std.proofs.lemmas.Bool.{leb-true}
use Rattle.tm_base.specs.Lists.{count_from}
use Rattle.tm_table.specs.Words.{word_of}
use Rattle.tm_table.proofs.Decoding.{word-lt}
use Rattle.tm_plan_map.specs.Map.{window_at, windows_base, private_at}
use Rattle.tm_plan_map.specs.declared.admitted.Slot.{Slot}
use Rattle.tm_plan_map.specs.declared.admitted.AdmittedCase.{AdmittedCase}
use Rattle.tm_plan_map.specs.declared.admitted.Admitted.{Admitted}
use Rattle.tm_plan_cases.specs.declared.cases.Stream.{Stream}
use Rattle.tm_plan_cases.specs.declared.cases.Case.{Case}
use Rattle.tm_place.specs.Draws.{draw, slot_draws, pick}
use Rattle.tm_place.specs.Ruled.{IsRuled, IsRuledCase, AreRuledSlots, sharing_in}
use Rattle.tm_place.proofs.DrawLemmas.{draw-lt}
use Rattle.tm_base.proofs.ListLemmas.{all-at}
use Rattle.tm_gen.specs.Seats.{AreWords}
use Rattle.tm_gen.specs.Gen.{drawn_value, first_value, first_values, first_dword, first_dwords, stream_words}
use Rattle.tm_gen.specs.Gen.{stream_of, case_of, gen_of}
use Rattle.tm_gen.proofs.SlotLemmas.{are-words, images-lt}
use Rattle.tm_gen.proofs.ShapedLemmas.{map_at-get, get-within, stream-conforms, stream-slot}

-- a number that is found at each place where there is one is small where all that are found are
all-small : (m : ℕ) (xs : List ℕ) → 0 < m → ((n x : ℕ) → slice_get xs n ≡ Some x → x < m) → (k : ℕ)
    → slice_index xs k < m
all-small m [] some each k = some
all-small m (x ∷ xs) some each zero = each 0 x refl
all-small m (x ∷ xs) some each (suc k) = all-small m xs some (λ n y at. each (suc n) y at) k

-- ---- first values

pair-small : (a b : ℕ) → a < 2 ^ 32 → b < 2 ^ 32 → a + 2 ^ 32 * b < 2 ^ 64
pair-small a b l k = omega arith

choose-small : (c : Bool) (a b : ℕ) → a < 2 ^ 64 → b < 2 ^ 64 → (if c then a else b) < 2 ^ 64
choose-small true a b l k = l
choose-small false a b l k = k

value-small : (draws : List ℕ) → AreWords draws → drawn_value draws < 2 ^ 64
value-small draws words =
    let v = slice_index draws 0 + 2 ^ 32 * slice_index draws 1 in
    let whole : v < 2 ^ 64 = pair-small (slice_index draws 0) (slice_index draws 1) (words 0) (words 1) in
    let low : v % 256 < 2 ^ 64 = omega arith in
    let s = pick draws 2 8 in
    let last = choose-small (s == 3) (v % 256) v low whole in
    let third = choose-small (s == 2) (2 ^ 63) _ (lit< tt) last in
    let second = choose-small (s == 1) (2 ^ 64 - 1) _ (lit< tt) third in
    choose-small (s == 0) 0 _ (lit< tt) second

base-small : (c : Bool) (h r : ℕ) → nat_le r 30 ≡ c → h < 16 → (if c then window_at (r - 28) else private_at h) < 2 ^ 64
unfolding window_at windows_base private_at
base-small true h r e few = let below = leb-true r 30 e in omega arith
base-small false h r e few = omega arith

pub register-small : (seed c h r : ℕ) → h < 16 → first_value seed c h r < 2 ^ 64
unfolding first_value
register-small seed c h r few =
    choose-small (r == 0) 0 _ (lit< tt)
    (choose-small (nat_le r 27) _ _ (value-small (slot_draws seed c h (256 + r)) (are-words seed c h (256 + r)))
    (base-small (nat_le r 30) h r refl few))

pub registers-small : (seed c h : ℕ) → h < 16 → (r : ℕ) → slice_index (first_values seed c h) r < 2 ^ 64
unfolding first_values
registers-small seed c h few = images-lt (first_value seed c h) (2 ^ 64) (count_from 0 32) (lit< tt)
    (λ r. register-small seed c h r few)

pub registers-count : (seed c h : ℕ) → length (first_values seed c h) ≡ 32
unfolding first_values
registers-count seed c h = refl

dword-small : (seed c q : ℕ) → first_dword seed c q < 2 ^ 64
unfolding first_dword
dword-small seed c q = pair-small (draw seed c 63 q 0) (draw seed c 63 q 1) (draw-lt seed c 63 q 0)
    (draw-lt seed c 63 q 1)

pub dwords-small : (seed c k : ℕ) → slice_index (first_dwords seed c) k < 2 ^ 64
unfolding first_dwords
dwords-small seed c k = images-lt (first_dword seed c) (2 ^ 64) (count_from 0 768) (lit< tt) (dword-small seed c) k

-- ---- words

pub words-small : (a : Admitted) (seed c h : ℕ) (slots : List Slot) → IsRuled a → h < a.harts
    → AreRuledSlots (sharing_in a) a.windows h slots → (n : ℕ) → slice_index (stream_words a seed c h slots) n < 2 ^ 32
words-small a seed c h slots ruled below are =
    all-small (2 ^ 32) (stream_words a seed c h slots) (lit< tt) (λ n w at.
    let there = stream-slot a seed c h slots n w at in
    let held = (stream-conforms a seed c h slots ruled below are).1 n there.0 there.1 in
    let both : Some (word_of held.0) ≡ Some w = sym held.1 ∙ at in
    let same : word_of held.0 ≡ w = cc in
    subst (λ (v : ℕ). v < 2 ^ 32) same (word-lt held.0 held.3.fits))

-- ---- whole cases

-- a stream that is drawn, with what its numbers keep
pub record IsDrawn (s : Stream) : Type 0 where
  pub words : (n : ℕ) → slice_index s.words n < 2 ^ 32
  pub count : length s.regs ≡ 32
  pub regs : (r : ℕ) → slice_index s.regs r < 2 ^ 64

stream-drawn : (a : Admitted) (seed c h : ℕ) (slots : List Slot) → IsRuled a → h < a.harts
    → AreRuledSlots (sharing_in a) a.windows h slots → IsDrawn (stream_of a seed c h slots)
stream-drawn a seed c h slots ruled below are = record {
  words = words-small a seed c h slots ruled below are;
  count = registers-count seed c h;
  regs = registers-small seed c h (omega (arith, ruled.harts.1));
}

-- case c is drawn for a case of the test
case-of : (a : Admitted) (seed c : ℕ) (case : Case) → slice_get (gen_of a seed).cases c ≡ Some case
    → (admitted : AdmittedCase) × (slice_get a.cases c ≡ Some admitted) × (case_of a seed c admitted ≡ case)
unfolding gen_of
case-of a seed c case at =
    let there = map_at-get (case_of a seed) 0 c a.cases case at in
    let zeroth : 0 + c ≡ c = omega arith in
    (there.0, there.1, ap (λ k. case_of a seed k there.0) (sym zeroth) ∙ there.2)

pub gen-drawn : (a : Admitted) (seed : ℕ) → IsRuled a → (c h : ℕ) (case : Case) (s : Stream)
    → slice_get (gen_of a seed).cases c ≡ Some case → slice_get case.streams h ≡ Some s → IsDrawn s
gen-drawn a seed ruled c h case s at_case at_stream =
    let there = case-of a seed c case at_case in
    let is = all-at (IsRuledCase (sharing_in a) a.windows) a.cases c there.0 ruled.each there.1 in
    let made : slice_get (case_of a seed c there.0).streams h ≡ Some s =
    subst (λ (k : Case). slice_get k.streams h ≡ Some s) (sym there.2) at_stream in
    let its = map_at-get (stream_of a seed c) 0 h there.0.bodies s made in
    let zeroth : 0 + h ≡ h = omega arith in
    let below : h < a.harts = omega (arith, get-within there.0.bodies h its.0 its.1, is.harts) in
    subst IsDrawn (ap (λ k. stream_of a seed c k its.0) (sym zeroth) ∙ its.2)
    (stream-drawn a seed c h its.0 ruled below (is.each h its.0 its.1))

pub gen-first : (a : Admitted) (seed c : ℕ) (case : Case) → slice_get (gen_of a seed).cases c ≡ Some case
    → (k : ℕ) → slice_index case.first k < 2 ^ 64
gen-first a seed c case at k =
    let there = case-of a seed c case at in
    subst (λ (x : Case). slice_index x.first k < 2 ^ 64) there.2 (dwords-small seed c k)
