-- Where the marks of a hart rise, its words between two of them are clear of marks and streams.
use Rattle.std.proofs.Common.{◌≡◌, ◌≢◌, ◌⊎◌, inl, inr, ℕ, suc, ◌<◌, ◌≤◌, sym, ap, ◌∙◌, arith}
use Rattle.std.proofs.lemmas.Bool.{cases_lt}
use Rattle.tm_plan_cases.specs.declared.program.Program.{Program}
use Rattle.tm_plan_map.specs.Map.{text_base}
use Rattle.tm_world.specs.Place.{harts, case_count, start_of, end_of, halt_of}
use Rattle.tm_pass_text.specs.Spread.{Spread}
use Rattle.tm_pass_text.proofs.Spreads.{head-up, all-apart}
use Rattle.tm_pass_way.specs.Calm.{Clear, StreamClear}
use Rattle.tm_pass_way.specs.Parts.{Places}
use Rattle.tm_pass_way.specs.Meets.{Halts}

module _ (p : Program) (base : ℕ → ℕ) (head : ℕ → ℕ → ℕ) (s : Spread p base head) (h : ℕ) (number : h < harts p) where
  up : (c d : ℕ) → c ≤ d → d ≤ case_count p → head h c ≤ head h d
  up c d l m = head-up p base head s h c d number l m

  -- the streams of two cases
  after-case : (c d : ℕ) → c < d → d < case_count p → end_of p h c < start_of p h d
  after-case c d l m = omega (
    arith,
    s.end h c number (omega arith),
    up (suc c) d (omega arith) (omega arith),
    s.start h d number m,
  )

  before-halt : (c : ℕ) → c < case_count p → end_of p h c < halt_of p h
  before-halt c l = omega (
    arith,
    s.end h c number l,
    up (suc c) (case_count p) (omega arith) (omega arith),
    s.halt h number,
  )

  pub stream-clear : (c : ℕ) → c < case_count p → StreamClear p h c
  stream-clear c l = record {
    some = s.some h c number l;
    others = λ d m n. by d m n (cases_lt d c);
    rising = λ d m. omega (arith, s.some h d number m);
    exit = inr (omega (arith, before-halt c l, s.exit h number));
    halt = inr (before-halt c l);
  }
    where
      by : (d : ℕ) → d < case_count p → d ≢ c → (d < c) ⊎ (c ≤ d) → (end_of p h c < start_of p h d)
          ⊎ (end_of p h d < start_of p h c)
      by d m n (inl x) = inr (after-case d c x l)
      by d m n (inr x) = inl (after-case c d (omega arith) m)

  -- words of case c before its stream
  pub clear-before : (c lo hi : ℕ) → c < case_count p → head h c ≤ lo → hi < start_of p h c → Clear p h lo hi
  clear-before c lo hi l m n = record {
    streams = λ d k. by d k (cases_lt d c);
    some = λ d k. omega (arith, s.some h d number k);
    exit = inl (omega (arith, s.some h c number l, before-halt c l, s.exit h number));
    halt = inl (omega (arith, s.some h c number l, before-halt c l));
  }
    where
      by : (d : ℕ) → d < case_count p → (d < c) ⊎ (c ≤ d) → (hi < start_of p h d) ⊎ (end_of p h d ≤ lo)
      by d k (inl x) = inr (omega (arith, s.end h d number k, up (suc d) c (omega arith) (omega arith)))
      by d k (inr x) = by-same (cases_lt c d)
        where
          by-same : (c < d) ⊎ (d ≤ c) → (hi < start_of p h d) ⊎ (end_of p h d ≤ lo)
          by-same (inl y) = inl (omega (arith, s.some h c number l, after-case c d y k))
          by-same (inr y) = let e : c ≡ d = omega arith in inl (omega (arith, ap (start_of p h) e))

  -- words of case c behind its stream
  pub clear-behind : (c lo hi : ℕ) → c < case_count p → end_of p h c ≤ lo → hi < head h (suc c) → Clear p h lo hi
  clear-behind c lo hi l m n = record {
    streams = λ d k. by d k (cases_lt c d);
    some = λ d k. omega (arith, s.some h d number k);
    exit = inl (omega (arith, up (suc c) (case_count p) (omega arith) (omega arith), s.halt h number, s.exit h number));
    halt = inl (omega (arith, up (suc c) (case_count p) (omega arith) (omega arith), s.halt h number));
  }
    where
      by : (d : ℕ) → d < case_count p → (c < d) ⊎ (d ≤ c) → (hi < start_of p h d) ⊎ (end_of p h d ≤ lo)
      by d k (inl x) = inl (omega (arith, up (suc c) d (omega arith) (omega arith), s.start h d number k))
      by d k (inr x) = by-same (cases_lt d c)
        where
          by-same : (d < c) ⊎ (c ≤ d) → (hi < start_of p h d) ⊎ (end_of p h d ≤ lo)
          by-same (inl y) = inr (omega (arith, after-case d c y l, s.some h c number l))
          by-same (inr y) = let e : c ≡ d = omega arith in inr (omega (arith, ap (end_of p h) e))

  -- the way from the text's first word to the first case
  pub clear-opening : (lo : ℕ) → 1 ≤ case_count p → Clear p h lo (head h 0)
  clear-opening lo l = record {
    streams = λ d k. inl (omega (arith, up 0 d (omega arith) (omega arith), s.start h d number k));
    some = λ d k. omega (arith, s.some h d number k);
    exit = inl (omega (arith, s.start h 0 number l, s.some h 0 number l, before-halt 0 l, s.exit h number));
    halt = inl (omega (arith, s.start h 0 number l, s.some h 0 number l, before-halt 0 l));
  }

  pub halts : (at : Places) → at.head (case_count p) ≡ head h (case_count p) → text_base ≢ halt_of p h → Halts p h at
  halts at e entry = record {
    place = e ∙ sym (s.halt h number);
    outside = λ c l. (all-apart p base head s).halted h c number l;
    entry = entry;
  }
