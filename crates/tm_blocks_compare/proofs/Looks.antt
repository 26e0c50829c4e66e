-- What a search has found, and how searches join.
use Rattle.std.proofs.Common.{◌≡◌, ◌≢◌, ℕ, zero, suc, ◌+◌, ◌*◌, ◌≤◌, List, [], ◌∷◌, ◌++◌, length, ◌⊎◌, inl, inr, refl}
use Rattle.std.proofs.Common.{sym, ap, ap₂, ◌∙◌, arith}
use Rattle.tm_runs.specs.Machine.{World, State, Table, get}
use Rattle.tm_runs.specs.Runs.{Takes, Now}
use Rattle.tm_runs.proofs.Compose.{takes_map}
use Rattle.tm_blocks_base.specs.Laws.{RegistersFit}
use Rattle.tm_blocks_compare.specs.Numbers.{either, first_dword}

-- it was found at v
pub record Found (stop v : ℕ) (t : State) : Type 0 where
  pub pc : t.pc ≡ stop
  pub some : v ≢ 0
  pub eight : get t.regs 8 ≡ v

-- it was not found, and the pointers and the count went on
pub record Passed (next p q i v : ℕ) (J : State → Type 0) (t : State) : Type 0 where
  pub pc : t.pc ≡ next
  pub none : v ≡ 0
  pub one : get t.regs 1 ≡ p
  pub two : get t.regs 2 ≡ q
  pub eight : get t.regs 8 ≡ i
  pub more : J t

-- l dwords were compared, from i on, with the result v
pub record Looked (stop next p q i v l : ℕ) (J : State → Type 0) (s t : State) : Type 0 where
  pub place : Found stop v t ⊎ Passed next (p + 8 * l) (q + 8 * l) (i + l) v J t
  pub regs : (r : ℕ) → (r ≡ 5) ⊎ ((r ≡ 9) ⊎ (11 ≤ r)) → get t.regs r ≡ get s.regs r
  pub mem : t.mem ≡ s.mem
  pub fits : RegistersFit s → RegistersFit t

pub either-some : (x y : ℕ) → x ≢ 0 → either x y ≡ x
either-some zero y h = absurd (h refl)
either-some (suc x) y h = refl

pub either-none : (x y : ℕ) → x ≡ 0 → either x y ≡ y
either-none zero y h = refl
either-none (suc x) y h = absurd (omega arith)

module _ {w : World} {G : State → Type 0} (stop mid next p q i v l : ℕ) (J K : State → Type 0) where
  -- one search, and where it finds nothing another
  pub looked_then : (u m n : ℕ) → n ≡ l + m → (s t : State) (k : ℕ) → Looked stop mid p q i v l J s t
      → (Passed mid (p + 8 * l) (q + 8 * l) (i + l) v J t
      → Takes w G (Looked stop next (p + 8 * l) (q + 8 * l) (i + l) u m K t) k t)
      → Takes w G (Looked stop next p q i (either v u) n K s) k t
  looked_then u m n sum s t k h f = by h.place
    where
      by : Found stop v t ⊎ Passed mid (p + 8 * l) (q + 8 * l) (i + l) v J t
          → Takes w G (Looked stop next p q i (either v u) n K s) k t
      by (inl e) =
          let is = either-some v u e.some in
          Now (record {
            place = inl (record { pc = e.pc; some = λ z. e.some (sym is ∙ z); eight = e.eight ∙ sym is });
            regs = h.regs;
            mem = h.mem;
            fits = h.fits;
          })
      by (inr e) = takes_map (λ x g. g) (λ x g. record {
        place = after e x g.place;
        regs = λ r a. g.regs r a ∙ h.regs r a;
        mem = g.mem ∙ h.mem;
        fits = λ y. g.fits (h.fits y);
      }) (f e)
        where
          after : Passed mid (p + 8 * l) (q + 8 * l) (i + l) v J t → (x : State) → Found stop u x
              ⊎ Passed next (p + 8 * l + 8 * m) (q + 8 * l + 8 * m) (i + l + m) u K x → Found stop (either v u) x
              ⊎ Passed next (p + 8 * n) (q + 8 * n) (i + n) (either v u) K x
          after e x (inl g) = let is = either-none v u e.none in
              inl (record { pc = g.pc; some = λ z. g.some (sym is ∙ z); eight = g.eight ∙ sym is })
          after e x (inr g) =
              let is = either-none v u e.none in
              inr (record {
                pc = g.pc;
                none = is ∙ g.none;
                one = g.one ∙ omega arith;
                two = g.two ∙ omega arith;
                eight = g.eight ∙ omega arith;
                more = g.more;
              })

-- a list after another
pub either-assoc : (x y z : ℕ) → either (either x y) z ≡ either x (either y z)
either-assoc zero y z = refl
either-assoc (suc x) y z = refl

pub first-append : (mem : Table) (xs ys : List ℕ) (p q i : ℕ) → first_dword mem p q i (xs ++ ys)
    ≡ either (first_dword mem p q i xs) (first_dword mem (p + 8 * length xs) (q + 8 * length xs) (i + length xs) ys)
first-append mem [] ys p q i =
    let a : p ≡ p + 8 * 0 = omega arith in
    let b : q ≡ q + 8 * 0 = omega arith in
    let c : i ≡ i + 0 = omega arith in
    ap₂ (λ (x y : ℕ). first_dword mem x y i ys) a b ∙ ap (λ (x : ℕ). first_dword mem (p + 8 * 0) (q + 8 * 0) x ys) c
first-append mem (x ∷ xs) ys p q i =
    let a : p + 8 + 8 * length xs ≡ p + 8 * suc (length xs) = omega arith in
    let b : q + 8 + 8 * length xs ≡ q + 8 * suc (length xs) = omega arith in
    let c : suc i + length xs ≡ i + suc (length xs) = omega arith in
    ap (either _) (first-append mem xs ys (p + 8) (q + 8) (suc i) ∙ ap
    (either (first_dword mem (p + 8) (q + 8) (suc i) xs))
    (ap₂ (λ (x y : ℕ). first_dword mem x y (suc i + length xs) ys) a b ∙ ap
    (λ (z : ℕ). first_dword mem (p + 8 * suc (length xs)) (q + 8 * suc (length xs)) z ys) c))
    ∙ sym (either-assoc _ (first_dword mem (p + 8) (q + 8) (suc i) xs) _)

pub either-zero : (x : ℕ) → either x 0 ≡ x
either-zero zero = refl
either-zero (suc x) = refl

-- the same search, said otherwise
pub looked_as : (stop next next' p q i v v' l l' : ℕ) (J K : State → Type 0) (s t : State) → next ≡ next' → v ≡ v'
    → l ≡ l' → (J t → K t) → Looked stop next p q i v l J s t → Looked stop next' p q i v' l' K s t
looked_as stop next next' p q i v v' l l' J K s t a b c f h =
    record { place = by h.place; regs = h.regs; mem = h.mem; fits = h.fits }
  where
    by : Found stop v t ⊎ Passed next (p + 8 * l) (q + 8 * l) (i + l) v J t → Found stop v' t
        ⊎ Passed next' (p + 8 * l') (q + 8 * l') (i + l') v' K t
    by (inl g) = inl (record { pc = g.pc; some = λ z. g.some (b ∙ z); eight = g.eight ∙ b })
    by (inr g) = inr (record {
      pc = g.pc ∙ a;
      none = sym b ∙ g.none;
      one = g.one ∙ ap (λ (x : ℕ). p + 8 * x) c;
      two = g.two ∙ ap (λ (x : ℕ). q + 8 * x) c;
      eight = g.eight ∙ ap (λ (x : ℕ). i + x) c;
      more = f g.more;
    })

-- the same search behind steps that leave memory and the kept registers alone
pub looked_before : (stop next p q i v l : ℕ) (J : State → Type 0) (s u t : State)
    → ((r : ℕ) → (r ≡ 5) ⊎ ((r ≡ 9) ⊎ (11 ≤ r)) → get u.regs r ≡ get s.regs r) → u.mem ≡ s.mem
    → (RegistersFit s → RegistersFit u) → Looked stop next p q i v l J u t → Looked stop next p q i v l J s t
looked_before stop next p q i v l J s u t a b c h =
    record { place = h.place; regs = λ r k. h.regs r k ∙ a r k; mem = h.mem ∙ b; fits = λ k. h.fits (c k) }

-- the number of a search from places that are the same
pub first-at : (mem : Table) (xs : List ℕ) (p p' q q' i i' : ℕ) → p ≡ p' → q ≡ q' → i ≡ i' → first_dword mem p q i xs
    ≡ first_dword mem p' q' i' xs
first-at mem xs p p' q q' i i' a b c =
    ap₂ (λ (x y : ℕ). first_dword mem x y i xs) a b ∙ ap (λ (z : ℕ). first_dword mem p' q' z xs) c
