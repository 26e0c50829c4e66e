-- Where the words of each part of a hart's program stand in a built text, and that its way from part to part is clear.
use Rattle.std.proofs.Common.{◌≡◌, ◌≢◌, ◌⊎◌, inl, inr, ℕ, suc, ◌+◌, ◌-◌, ◌*◌, ◌%◌, ◌<◌, ◌≤◌, List, [], length, None}
use Rattle.std.proofs.Common.{ap, subst, arith}
use Rattle.std.specs.Prelude.{slice_index_or}
use Rattle.tm_plan_cases.specs.declared.program.Program.{Program}
use Rattle.tm_plan_cases.specs.Shaped.{AreShaped}
use Rattle.tm_plan_map.specs.Map.{text_base}
use Rattle.tm_world.specs.Place.{harts, case_count, start_of, end_of, halt_of}
use Rattle.tm_world.specs.Kinds.{stream_at}
use Rattle.tm_runs.specs.Runs.{At}
use Rattle.tm_runs.specs.World.{support_at}
use Rattle.tm_runs.proofs.Arrivals.{stream-none, inside-false}
use Rattle.tm_blocks_base.proofs.Lengths.{length-load_registers}
use Rattle.tm_pass_text.specs.Words.{Blocks, before_size, behind_size, back_words, skip, streams_of, base_of, head_of}
use Rattle.tm_pass_text.specs.Spread.{Spread}
use Rattle.tm_pass_text.proofs.Laying.{spread, head, barrier, far-before, far-behind, before, behind, before-at}
use Rattle.tm_pass_text.proofs.Laying.{behind-at, skip-next}
use Rattle.tm_pass_text.proofs.Spreads.{head-up}
use Rattle.tm_pass_text.proofs.Stands.{length-before, length-behind}
use Rattle.tm_pass_way.specs.Calm.{Clear}
use Rattle.tm_pass_way.proofs.Clears.{clear-before, clear-behind}
use Rattle.tm_pass_text.specs.Hart.{blocks_of, IsBuilt, registers_at}
use Rattle.tm_pass_steps.proofs.Placing.{stands-code}
use Rattle.tm_pass_place.specs.Places.{first_long}
use Rattle.tm_pass_place.proofs.Fits.{all-fit}
use Rattle.tm_pass_place.proofs.Sizes.{count, stream-size, fits-before, fits-behind, short-hart}

-- where words are clear, each of them is outside the streams and not at the halt mark
pub clear-outside : (p : Program) (h lo hi x : ℕ) → Clear p h lo hi → lo ≤ x → x ≤ hi → (stream_at p h x ≡ None)
    × (x ≢ halt_of p h)
clear-outside p h lo hi x c l m = (stream-none p h x (λ d k. inside-false p h d x (off d (c.streams d k))), halt c.halt)
  where
    off : (d : ℕ) → (hi < start_of p h d) ⊎ (end_of p h d ≤ lo) → (x < start_of p h d) ⊎ (end_of p h d ≤ x)
    off d (inl a) = inl (omega arith)
    off d (inr a) = inr (omega arith)

    halt : (hi < halt_of p h) ⊎ (halt_of p h < lo) → x ≢ halt_of p h
    halt (inl a) z = omega arith
    halt (inr a) z = omega arith

module _ (p : Program) (shaped : AreShaped p.cases) (is : IsBuilt p) where
  abbrev pub C : ℕ
  C = case_count p

  abbrev pub B : ℕ → Blocks
  B = blocks_of p.cases

  abbrev pub words : (h c : ℕ) → List ℕ
  words h c = slice_index_or (streams_of p.cases h) c []

  pub some : (h c : ℕ) → h < harts p → c < C → 1 ≤ length (words h c)
  some h c l m = (stream-size p.cases shaped h c l m).0

  abbrev pub base : ℕ → ℕ
  base = base_of B p.cases

  abbrev pub heads : ℕ → ℕ → ℕ
  heads = head_of B p.cases

  pub spreads : Spread p base heads
  spreads = spread p B is some

  module _ (h : ℕ) (number : h < harts p) where
    pub next : (c : ℕ) → c < C → heads h (suc c) ≡ end_of p h c + 4 * behind_size (B h) c
    next c l =
        let e : 0 + c ≡ c = omega arith in
        omega (
          arith,
          skip-next (B h) 0 (streams_of p.cases h) c (omega (arith, count p.cases shaped h, l)),
          is.starts h c number l,
          is.ends h c number l,
          ap (before_size (B h)) e,
          ap (behind_size (B h)) e,
        )

    pub start-is : (c : ℕ) → c < C → start_of p h c ≡ heads h c + 4 + first_long p h c + 172
    start-is c l = omega (arith, is.starts h c number l, length-load_registers (registers_at p.cases h c))

    pub up : (c d : ℕ) → c ≤ d → d ≤ C → heads h c ≤ heads h d
    up c d l m = head-up p base heads spreads h c d number l m

    pub ends-low : (c : ℕ) → c < C → heads h (suc c) ≤ halt_of p h
    ends-low c l = omega (arith, up (suc c) C (omega arith) (omega arith), is.halts h number)

    pub barrier-is : barrier p B is some h ≡ halt_of p h + 4
    barrier-is = omega (arith, is.halts h number, ap (skip (B h) 0 (streams_of p.cases h)) (count p.cases shaped h))

    module _ (c : ℕ) (few : c < C) where
      far-even : far-before p B is some h c % 2 ≡ 0
      far-even = let e = barrier-is in let f = is.halts h number in omega arith

      far-even-behind : far-behind p B is some h c % 2 ≡ 0
      far-even-behind = let e = barrier-is in let f = is.halts h number in omega arith

      far-low : far-before p B is some h c ≤ 135168
      far-low = let s = short-hart p.cases shaped h number in omega arith

      far-low-behind : far-behind p B is some h c ≤ 135168
      far-low-behind = let s = short-hart p.cases shaped h number in omega arith

      pub before-clear : (lo hi : ℕ) → heads h c ≤ lo → hi < start_of p h c → Clear p h lo hi
      before-clear lo hi l m = clear-before p base heads spreads h number c lo hi few l m

      pub behind-clear : (lo hi : ℕ) → end_of p h c ≤ lo → hi < heads h (suc c) → Clear p h lo hi
      behind-clear lo hi l m = clear-behind p base heads spreads h number c lo hi few l m

      pub code-before : At (support_at p h) (heads h c) (before p B is some h c)
      code-before =
          let place : text_base + 4 * head p B is some h c ≡ heads h c = omega arith in
          let fit = fits-before p.cases shaped h c number few (far-before p B is some h c) far-even
          (omega (arith, far-low)) in
          let long = length-before (B h) c (far-before p B is some h c) in
          let start = is.starts h c number few in
          let free = before-clear (heads h c) (start_of p h c - 4) (omega arith) (omega arith) in
          subst (λ (a : ℕ). At (support_at p h) a (before p B is some h c)) place
          (stands-code p h (before p B is some h c) (head p B is some h c) (all-fit (before p B is some h c) fit)
          (before-at p B is some h c number few)
          (λ j l. clear-outside p h (heads h c) (start_of p h c - 4) (text_base + 4 * (head p B is some h c + j)) free
          (omega arith) (omega arith)))

      pub code-behind : At (support_at p h) (end_of p h c) (behind p B is some h c)
      code-behind =
          let k = head p B is some h c + before_size (B h) c + length (words h c) in
          let place : text_base + 4 * k ≡ end_of p h c =
          omega (arith, is.starts h c number few, is.ends h c number few) in
          let fit = fits-behind p.cases shaped h c number few (length (words h c)) (far-behind p B is some h c)
          (stream-size p.cases shaped h c number few).1 far-even-behind (omega (arith, far-low-behind)) in
          let long = length-behind (B h) p.cases.passes c (4 * back_words (B h) c (length (words h c)))
          (far-behind p B is some h c) in
          let after = next c few in
          let free = behind-clear (end_of p h c) (heads h (suc c) - 4) (omega arith) (omega arith) in
          subst (λ (a : ℕ). At (support_at p h) a (behind p B is some h c)) place
          (stands-code p h (behind p B is some h c) k (all-fit (behind p B is some h c) fit)
          (behind-at p B is some h c number few)
          (λ j l. clear-outside p h (end_of p h c) (heads h (suc c) - 4) (text_base + 4 * (k + j)) free (omega arith)
          (omega arith)))
