-- Masks that are exact case by case are those of the cases.
use Rattle.std.proofs.Common.{◌≡◌, ℕ, zero, suc, ◌+◌, ◌*◌, ◌/◌, ◌%◌, ◌<◌, ◌↔◌, inl, inr, List, [], length, get_or}
use Rattle.std.proofs.Common.{Bool, true, false, ◌&&◌, not, nat_lt, refl, sym, ap, ap₂, ◌∙◌, subst, arith}
use Rattle.std.specs.Prelude.{map, if◌then◌else◌}
use Rattle.std.specs.Bool.{Decides}
use Rattle.std.specs.Int.{bit_at}
use Rattle.std.specs.List.{range_with_len}
use Rattle.std.proofs.lemmas.Bool.{cases_eq, and_parts, and_from, or_cases, or_left, or_right, not-true}
use Rattle.std.proofs.lemmas.Bool.{not_from_false, false≢true, true≢false, false_from_ne_true}
use Rattle.std.proofs.lemmas.Bool.Decides.{Decides-not, Decides-and, Decides-ltb}
use Rattle.std.proofs.lemmas.Nat.Bits.{bit_at_lowest, bit_at-suc, bit_at-lt, same_from_bits}
use Rattle.std.proofs.lemmas.List.FromFn.{fill_by_all}
use Rattle.tm_plan_cases.specs.declared.cases.Cases.{Cases}
use Rattle.tm_plan_cases.specs.declared.masks.Masks.{Masks}
use Rattle.tm_plan_cases.specs.declared.masks.CaseMask.{CaseMask}
use Rattle.tm_plan_cases.specs.Collected.{is_declared}
use Rattle.tm_plan_cases.specs.Shaped.{AreShaped}
use Rattle.tm_plan_map.proofs.Within.{within-parts, within-true}
use Rattle.tm_plan_map.specs.declared.addresses.TheConstants.{WINDOWS_BYTES}
use Rattle.tm_plan_map.specs.Map.{windows_base, windows_size}
use Rattle.tm_base.specs.Lists.{any, count_from}
use Rattle.tm_world.specs.Writers.{may_store}
use Rattle.tm_world.specs.Slots.{another_may_store}
use Rattle.tm_world.specs.Checked.{IsCheckedByte}
use Rattle.tm_world.proofs.Streams.{stream-of}
use Rattle.tm_plane.specs.Plane.{Bit}
use Rattle.tm_plane.proofs.WordLemmas.{bit-none}
use Rattle.tm_plane.proofs.PlaneLemmas.{any-counted}
use Rattle.tm_race.specs.Masks.{EachIs, IsRegisterWord, IsByteMark, IsMask}
use Rattle.tm_race.specs.Exact.{is_held, bits_of, checked_word, keeps_out, is_checked, checked_mark, mask_of, masks_of}
use Rattle.tm_race.proofs.Walks.{held-told}

-- ---- numbers by their bits

lowest-told : (t : Bool) (x : ℕ) → (((if t then 1 else 0) + 2 * x) % 2 ≡ 1) ↔ (t ≡ true)
lowest-told true x = ((λ _. refl), (λ _. omega arith))
lowest-told false x = ((λ e. absurd (omega arith)), (λ e. absurd (false≢true e)))

halved : (t : Bool) (x : ℕ) → ((if t then 1 else 0) + 2 * x) / 2 ≡ x
halved true x = omega arith
halved false x = omega arith

bits-told : (test : ℕ → Bool) (n i : ℕ) → Bit (bits_of test n) i ↔ ((i < n) × (test i ≡ true))
unfolding bits_of
bits-told test zero i = ((λ b. absurd (bit-none i b)), (λ p. absurd (omega (arith, p.0))))
bits-told test (suc n) zero =
    let rest = bits_of (λ r. test (suc r)) n in
    let low = lowest-told (test 0) rest in
    let first = bit_at_lowest ((if test 0 then 1 else 0) + 2 * rest) in
    ((λ b. (omega arith, low.0 (sym first ∙ b))), (λ p. first ∙ low.1 p.1))
bits-told test (suc n) (suc i) =
    let rest = bits_of (λ r. test (suc r)) n in
    let half = ap (λ (x : ℕ). bit_at x i) (halved (test 0) rest) in
    let next = bit_at-suc ((if test 0 then 1 else 0) + 2 * rest) i ∙ half in
    let told = bits-told (λ r. test (suc r)) n i in
    ((λ b. let q = told.0 (sym next ∙ b) in (omega (arith, q.0), q.1)), (λ p. next ∙ told.1 (omega (arith, p.0), p.1)))

-- numbers with the same bits are equal
same-bits : (m n : ℕ) → ((i : ℕ) → Bit m i ↔ Bit n i) → m ≡ n
same-bits m n f = same_from_bits m n (λ i. by (bit_at m i) (bit_at n i) (bit_at-lt m i) (bit_at-lt n i) (f i))
  where
    by : (a b : ℕ) → a < 2 → b < 2 → (a ≡ 1) ↔ (b ≡ 1) → a ≡ b
    by a b l k e = elim (cases_eq a 1) [
      | inl is ↦ is ∙ sym (e.0 is)
      | inr other ↦ elim (cases_eq b 1) [ inl is ↦ absurd (other (e.1 is)) | inr differs ↦ omega arith ]
    ]

-- ---- one word, and one mark

module _ (cases : Cases) (c : ℕ) (shaped : AreShaped cases) (few : c < length cases.cases) where
  word-is : (h word : ℕ) → h < cases.harts → IsRegisterWord cases c h word → word ≡ checked_word cases c h
  unfolding checked_word
  word-is h word l w =
      let s = stream-of cases c h shaped few l in
      same-bits word _ (λ r.
      let free = Decides-and (nat_lt 0 r) _ (Decides-ltb 0 r) (Decides-not _ (held-told cases c h r s.0 s.1)) in
      let told = bits-told (λ i. nat_lt 0 i && not (is_held cases c h i)) 31 r in
      let exact = w.exact s.0 s.1 r in (
        (λ b. let k = exact.0 b in told.1 (omega (arith, k.range.1), free.1 (omega (arith, k.range.0), k.calm))),
        (λ b.
            let q = told.0 b in
            let p = free.0 q.1 in
            exact.1 (record { range = (omega (arith, p.0), omega (arith, q.0)); calm = p.1 })),
      ))

  checked-decides : (b : ℕ) → Decides (is_checked cases c b) (IsCheckedByte cases c b)
  checked-decides b = (to, back)
    where
      some : Bool
      some = any (keeps_out cases c b) (count_from 0 cases.harts)

      kept : (h : ℕ) → h < cases.harts → some ≡ false → keeps_out cases c b h ≡ true → ⊥
      kept h l f k =
          let among = within-true 0 cases.harts h (omega arith) (omega arith) in
          true≢false (sym ((any-counted (keeps_out cases c b) cases.harts 0).1 (h, among, k)) ∙ f)

      to : is_checked cases c b ≡ true → IsCheckedByte cases c b
      to t =
          let p = and_parts (is_declared cases b) _ t in
          let f = not-true some p.1 in
          record {
            declared = p.0;
            single = λ h stream l e may.
                let another = another_may_store cases c h b in (
                  false_from_ne_true another (λ a. kept h l f (and_from _ _ may (or_left another _ a))),
                  λ dep. kept h l f (and_from _ _ may (or_right another _ ((held-told cases c h b stream e).1 dep))),
                );
          }

      out : IsCheckedByte cases c b → some ≡ true → ⊥
      out k t =
          let (h, inside, keeps) = (any-counted (keeps_out cases c b) cases.harts 0).0 t in
          let l : h < cases.harts = (let w = within-parts 0 cases.harts h inside in omega (arith, w.1)) in
          let s = stream-of cases c h shaped few l in
          let p = and_parts (may_store cases c h b) _ keeps in
          let q = k.single h s.0 l s.1 p.0 in
          elim (or_cases (another_may_store cases c h b) _ p.1) [
            | inl a ↦ true≢false (sym a ∙ q.0)
            | inr d ↦ q.1 ((held-told cases c h b s.0 s.1).0 d)
          ]

      back : IsCheckedByte cases c b → is_checked cases c b ≡ true
      back k = and_from (is_declared cases b) _ k.declared (not_from_false _ (false_from_ne_true _ (out k)))

  mark-is : (q mark : ℕ) → IsByteMark cases c q mark → mark ≡ checked_mark cases c q
  unfolding checked_mark
  mark-is q mark m = by (is_checked cases c (windows_base + q)) refl
    where
      by : (t : Bool) → is_checked cases c (windows_base + q) ≡ t → mark ≡ (if t then 255 else 0)
      by true e = m.exact.1 ((checked-decides (windows_base + q)).0 e)
      by false e = elim m.ends [
        | inl z ↦ z
        | inr f ↦ absurd (false≢true (sym e ∙ (checked-decides (windows_base + q)).1 (m.exact.0 f)))
      ]

-- ---- all of them

filled : {A : Type 0} (P : ℕ → A → Type 0) (f : ℕ → A) (n : ℕ) (xs : List A) (d : A) → EachIs P n xs
    → ((k : ℕ) (x : A) → k < n → P k x → x ≡ f k) → xs ≡ map f (range_with_len 0 n)
filled P f n xs d e same = fill_by_all f xs n d e.count (λ k l. same k (get_or xs k d) l (e.each k d l))

size-is : WINDOWS_BYTES ≡ windows_size
unfolding windows_size
size-is = refl

mask-is : (cases : Cases) (c : ℕ) (m : CaseMask) → AreShaped cases → c < length cases.cases → IsMask cases c m
    → m ≡ mask_of cases c
unfolding mask_of
mask-is cases c m shaped few k =
    let bytes = subst (λ (n : ℕ). EachIs (IsByteMark cases c) n m.bytes) size-is k.bytes in
    ap₂ (λ (ws bs : List ℕ). record { regs = ws; bytes = bs })
    (filled (IsRegisterWord cases c) (checked_word cases c) cases.harts m.regs 0 k.regs (word-is cases c shaped few))
    (filled (IsByteMark cases c) (checked_mark cases c) windows_size m.bytes 0 bytes
    (λ q mark l b. mark-is cases c shaped few q mark b))

-- the masks that are made are those of the cases
pub masks-are : (cases : Cases) (masks : Masks) → AreShaped cases
    → EachIs (IsMask cases) (length cases.cases) masks.cases → masks ≡ masks_of cases
unfolding masks_of
masks-are cases masks shaped all =
    ap (λ (ms : List CaseMask). record { cases = ms })
    (filled (IsMask cases) (mask_of cases) (length cases.cases) masks.cases (record { regs = []; bytes = [] }) all
    (λ c m l k. mask-is cases c m shaped l k))
