-- What a comparison takes, list by list.
use Rattle.std.proofs.Common.{◌≡◌, ℕ, zero, suc, ◌+◌, ◌-◌, ◌*◌, ◌/◌, ◌<◌, List, [], ◌∷◌, ◌++◌, length, map, refl, sym}
use Rattle.std.proofs.Common.{ap, ap₂, ◌∙◌, arith, subst, append-nil}
use Rattle.std.specs.Prelude.{slice_index}
use Rattle.std.proofs.lemmas.List.{map-append}
use Rattle.tm_plan_cases.specs.declared.cases.Cases.{Cases}
use Rattle.tm_plan_map.specs.Map.{windows_base}
use Rattle.tm_plan_cases.specs.Shaped.{AreShaped}
use Rattle.tm_base.specs.Lists.{count_from}
use Rattle.tm_runs.specs.Machine.{World, Table}
use Rattle.tm_plan_owned.specs.Lines.{line_count, line_place, line_dwords, lines_dwords, own_dwords}
use Rattle.tm_plan_owned.proofs.Windows.{lines_are_owned}
use Rattle.tm_blocks_compare.specs.Runs.{IsKept, mask_addresses}
use Rattle.tm_blocks_compare.proofs.Dwords.{row, rows, Readable, Comparable}
use Rattle.tm_blocks_compare.proofs.Registers.{Pairs}
use Rattle.tm_blocks_compare.proofs.Passes.{Peeks, part, masks, b, sizes}

module _ (w : World) (lo hi : ℕ) (table : Table) (stop M : ℕ) where
  readable : (a : ℕ) → IsKept w a → Readable w lo hi (Peeks w) tt table stop a
  readable a k = record { may = k.may; low = k.low; own = k.own; ok = λ v. (refl, k.own) }

  pub pairs-of : (m p q : ℕ) → ((i : ℕ) → i < m → IsKept w (p + 8 * i)) → ((i : ℕ) → i < m → IsKept w (q + 8 * i))
      → Pairs w lo hi (Peeks w) tt table stop M p q m
  pairs-of zero p q f g = tt
  pairs-of (suc m) p q f g =
      let a : p + 8 * 0 ≡ p = omega arith in
      let c : q + 8 * 0 ≡ q = omega arith in (
        readable p (subst (IsKept w) a (f 0 (omega arith))),
        readable q (subst (IsKept w) c (g 0 (omega arith))),
        pairs-of m (p + 8) (q + 8) (λ i l. subst (IsKept w) (omega arith) (f (suc i) (omega arith)))
            (λ i l. subst (IsKept w) (omega arith) (g (suc i) (omega arith))),
      )

  pub comparable-of : (rs : List ℕ) (p q : ℕ) → ((i : ℕ) → i < length rs → IsKept w (p + 8 * i))
      → ((i : ℕ) → i < length rs → IsKept w (q + 8 * i)) → ((i : ℕ) → i < length rs → IsKept w (slice_index rs i))
      → Comparable w lo hi (Peeks w) tt table stop p q rs
  comparable-of [] p q f g k = tt
  comparable-of (r ∷ rs) p q f g k =
      let a : p + 8 * 0 ≡ p = omega arith in
      let c : q + 8 * 0 ≡ q = omega arith in (
        readable p (subst (IsKept w) a (f 0 (omega arith))),
        readable q (subst (IsKept w) c (g 0 (omega arith))),
        readable r (k 0 (omega arith)),
        comparable-of rs (p + 8) (q + 8) (λ i l. subst (IsKept w) (omega arith) (f (suc i) (omega arith)))
            (λ i l. subst (IsKept w) (omega arith) (g (suc i) (omega arith))) (λ i l. k (suc i) (omega arith)),
      )

-- ---- the masks of lines are those of the dwords

row-is : (m r j : ℕ) → row (r + 8 * j) m ≡ map (λ i. r + 8 * i) (count_from j m)
row-is zero r j = refl
row-is (suc m) r j = let e : r + 8 * j + 8 ≡ r + 8 * suc j = omega arith in
    ap (λ (l : List ℕ). (r + 8 * j) ∷ l) (ap (λ (x : ℕ). row x m) e ∙ row-is m r (suc j))

line-is : (m r : ℕ) → row r m ≡ line_dwords r m
line-is m r = let e : r ≡ r + 8 * 0 = omega arith in ap (λ (x : ℕ). row x m) e ∙ row-is m r 0

rows-are : (m b a k r : ℕ) → 8 * m + b ≡ a → rows r m b k ≡ lines_dwords r m a k
rows-are m b a zero r e = refl
rows-are m b a (suc k) r e =
    ap₂ (λ (x y : List ℕ). x ++ y) (line-is m r) (ap (λ (x : ℕ). rows (r + x) m b k) e ∙ rows-are m b a k (r + a) e)

-- dwords as far from another address
moved-line : (bytes d m j : ℕ) → map (λ i. bytes + d + 8 * i) (count_from j m)
    ≡ map (λ a. bytes + (a - windows_base)) (map (λ i. windows_base + d + 8 * i) (count_from j m))
moved-line bytes d zero j = refl
moved-line bytes d (suc m) j =
    let e : bytes + d + 8 * j ≡ bytes + (windows_base + d + 8 * j - windows_base) = omega arith in
    ap₂ (λ (x : ℕ) (l : List ℕ). x ∷ l) e (moved-line bytes d m (suc j))

moved-lines : (bytes m a k d : ℕ) → lines_dwords (bytes + d) m a k
    ≡ map (λ x. bytes + (x - windows_base)) (lines_dwords (windows_base + d) m a k)
moved-lines bytes m a zero d = refl
moved-lines bytes m a (suc k) d =
    let f : ℕ → ℕ = λ x. bytes + (x - windows_base) in
    let e : bytes + d + a ≡ bytes + (d + a) = omega arith in
    let g : windows_base + d + a ≡ windows_base + (d + a) = omega arith in
    ap₂ (λ (x y : List ℕ). x ++ y) (moved-line bytes d m 0)
    (ap (λ (x : ℕ). lines_dwords x m a k) e ∙ (moved-lines bytes m a k (d + a) ∙ ap
    (λ (x : ℕ). map f (lines_dwords x m a k)) (sym g)))
    ∙ sym (map-append f (line_dwords (windows_base + d) m) (lines_dwords (windows_base + d + a) m a k))

pub masks-are : (w : World) (lo hi : ℕ) (table : Table) (stop M : ℕ) (cases : Cases) (h bytes : ℕ) (s : AreShaped cases)
    → h < cases.harts → masks w lo hi table stop M cases h bytes s ≡ mask_addresses cases h bytes
masks-are w lo hi table stop M cases h bytes s mine =
    let f : ℕ → ℕ = λ a. bytes + (a - windows_base) in
    let o = own_dwords cases h in
    let g = part w lo hi table stop M cases h bytes s in
    ap₂ (λ (x y : List ℕ). x ++ y) (one 0 (omega arith))
    (ap₂ (λ (x y : List ℕ). x ++ y) (one 1 (omega arith))
    (one 2 (omega arith) ∙ ap (map f) (sym (append-nil (o 2)))))
    ∙ (ap (λ (l : List ℕ). map f (o 0) ++ l) (sym (map-append f (o 1) (o 2 ++ [])))
    ∙ (sym (map-append f (o 0) (o 1 ++ (o 2 ++ []))) ∙ ap (map f) (sym (lines_are_owned cases h s mine))))
  where
    one : (v : ℕ) → v < 3 → part w lo hi table stop M cases h bytes s v
        ≡ map (λ a. bytes + (a - windows_base)) (own_dwords cases h v)
    one v low =
        let size = sizes w lo hi table stop M cases h bytes s v low in
        rows-are (cases.line / 8) (cases.line * cases.harts - cases.line) (cases.line * cases.harts)
        (line_count cases h v) (bytes + line_place cases h v) size.turn
        ∙ moved-lines bytes (cases.line / 8) (cases.line * cases.harts) (line_count cases h v) (line_place cases h v)
