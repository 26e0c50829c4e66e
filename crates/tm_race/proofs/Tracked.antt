-- Masks that are exact case by case are exact as a whole.
use Rattle.std.proofs.Common.{◌≡◌, ℕ, ◌+◌, ◌-◌, ◌<◌, ◌≤◌, ◌↔◌, List, length, Bool, true, false, ◌&&◌, not, ◌⊎◌, inl}
use Rattle.std.proofs.Common.{inr, Some, refl, sym, ◌∙◌, subst, arith, get_or}
use Rattle.std.specs.Prelude.{slice_get, slice_index, if◌then◌else◌}
use Rattle.std.proofs.lemmas.Bool.{false≢true, true≢false}
use Rattle.std.proofs.lemmas.Option.{get_or_from_slice_get, slice_get_within}
use Rattle.tm_plan_cases.specs.declared.cases.Cases.{Cases}
use Rattle.tm_plan_cases.specs.declared.cases.Stream.{Stream}
use Rattle.tm_plan_cases.specs.declared.masks.Masks.{Masks}
use Rattle.tm_plan_cases.specs.declared.masks.CaseMask.{CaseMask}
use Rattle.tm_plan_cases.specs.Collected.{is_declared}
use Rattle.tm_plan_cases.specs.Shaped.{AreShaped, IsShapedMask, MasksFit}
use Rattle.tm_plan_map.specs.declared.addresses.TheConstants.{WINDOWS_BYTES}
use Rattle.tm_plan_map.specs.Map.{windows_base, windows_size}
use Rattle.tm_plan_cases.specs.Streams.{stream_in}
use Rattle.tm_world.specs.Checked.{IsCheckedByte, AreChecked}
use Rattle.tm_world.proofs.Streams.{case-of}
use Rattle.tm_plane.specs.Plane.{in_plane}
use Rattle.tm_race_walk.proofs.Shaping.{case-harts}
use Rattle.tm_race.specs.Masks.{EachIs, IsByteMark, IsMask, IsSpoil, mark_of}

mark-checked : (cases : Cases) (c : ℕ) (spoil : List ℕ) (q v : ℕ) → IsSpoil cases c cases.harts spoil
    → v ≡ mark_of cases spoil q → IsByteMark cases c q v
mark-checked cases c spoil q v s e = by (is_declared cases (windows_base + q)) (in_plane spoil (windows_base + q)) refl
    refl e
  where
    by : (d t : Bool) → is_declared cases (windows_base + q) ≡ d → in_plane spoil (windows_base + q) ≡ t
        → v ≡ (if d && not t then 255 else 0) → IsByteMark cases c q v
    by true false d t is = record {
      exact = (
        (λ x. record {
          declared = d;
          single = λ h stream l i may. (s.exact (windows_base + q) (omega arith)).0 t
              h l stream i may;
        }),
        (λ x. is),
      );
      ends = inr is;
    }
    by true true d t is = record {
      exact = (
        (λ x. absurd (omega arith)),
        (λ k. absurd (true≢false (sym t ∙ (s.exact (windows_base + q) (omega arith)).1
            (λ h l stream i may. k.single h stream l i may)))),
      );
      ends = inl is;
    }
    by false t d u is = record {
      exact = ((λ x. absurd (omega arith)), (λ k. absurd (false≢true (sym d ∙ k.declared))));
      ends = inl is;
    }

pub marks-checked : (cases : Cases) (c : ℕ) (spoil marks : List ℕ) → IsSpoil cases c cases.harts spoil
    → EachIs (λ q v. v ≡ mark_of cases spoil q) WINDOWS_BYTES marks → EachIs (IsByteMark cases c) WINDOWS_BYTES marks
marks-checked cases c spoil marks s e =
    record { count = e.count; each = λ k d l. mark-checked cases c spoil k (get_or marks k d) s (e.each k d l) }

mask-fits : (cases : Cases) (c : ℕ) (m : CaseMask) → IsMask cases c m → IsShapedMask cases m
mask-fits cases c m k = record {
  regs = k.regs.count;
  bytes = k.bytes.count;
  ends = λ j d l. (k.bytes.each j d (let n = k.bytes.count in omega arith)).ends;
}

module _ (cases : Cases) (shaped : AreShaped cases) (masks : Masks)
    (all : EachIs (IsMask cases) (length cases.cases) masks.cases) where
  mask-at : (c : ℕ) (m : CaseMask) → slice_get masks.cases c ≡ Some m → IsMask cases c m
  mask-at c m e =
      let l = slice_get_within masks.cases c m e in
      let n = all.count in
      subst (λ (k : CaseMask). IsMask cases c k) (get_or_from_slice_get masks.cases c m m e)
      (all.each c m (omega arith))

  few : (c h : ℕ) (stream : Stream) → stream_in cases c h ≡ Some stream → h < cases.harts
  few c h stream is =
      let (case, at, there) = case-of cases c h stream is in
      let l = slice_get_within case.streams h stream there in
      let n = case-harts cases c case shaped at in
      omega arith

  byte-at : (c b : ℕ) (m : CaseMask) → slice_get masks.cases c ≡ Some m → windows_base ≤ b
      → b < windows_base + windows_size
      → ((slice_index m.bytes (b - windows_base) ≡ 255) ↔ IsCheckedByte cases c b)
      × ((slice_index m.bytes (b - windows_base) ≡ 255) ⊎ (slice_index m.bytes (b - windows_base) ≡ 0))
  unfolding windows_size
  byte-at c b m e low high =
      let q = (mask-at c m e).bytes.each (b - windows_base) 0 (omega arith) in
      let place : windows_base + (b - windows_base) ≡ b = omega arith in (
        subst (λ (j : ℕ). (slice_index m.bytes (b - windows_base) ≡ 255) ↔ IsCheckedByte cases c j) place q.exact,
        elim q.ends [ inl z ↦ inr z | inr f ↦ inl f ],
      )

  pub are-checked : AreChecked cases masks
  are-checked = record {
    registers = λ c h r m stream e is small. ((mask-at c m e).regs.each h 0 (few c h stream is)).exact stream is r;
    bytes = byte-at;
  }

  pub masks-fit : MasksFit cases masks
  masks-fit = record {
    count = all.count;
    each = λ j d l. let n = all.count in mask-fits cases j (get_or masks.cases j d) (all.each j d (omega arith));
  }
