-- What a write leaves, byte after byte.
use Rattle.std.proofs.Common.{◌≡◌, ◌≢◌, ℕ, suc, ◌+◌, ◌-◌, ◌/◌, ◌%◌, ◌^◌, ◌<◌, ◌≤◌, List, Option, None, Some, ◌⊎◌}
use Rattle.std.proofs.Common.{inl, inr}
use Rattle.std.proofs.Common.{refl, sym, ap, ◌∙◌, subst, length, get_or, arith}
use Rattle.std.specs.Prelude.{IsTrue}
use Rattle.std.specs.BTreeMap.{BTreeMap, get}
use Rattle.std.specs.Ordering.{nat_cmp}
use Rattle.std.proofs.lemmas.Bool.{cases_eq, cases_lt}
use Rattle.tm_table.specs.declared.state.Access.{Access}
use Rattle.tm_table.specs.declared.state.Access.TheVariants.{Quiet, Read, Write}
use Rattle.tm_plan_cases.specs.declared.program.Program.{Program}
use Rattle.tm_plan_map.specs.declared.addresses.TheConstants.{WINDOWS_BYTES}
use Rattle.tm_plan_map.specs.Map.{windows_base}
use Rattle.tm_runs.proofs.Bytes.{byte-shift}
use Rattle.tm_world.proofs.Accesses.{written-inside, written-outside}
use Rattle.tm_world.specs.Place.{byte_of}
use Rattle.tm_world.specs.Run.{written}
use Rattle.tm_owing.specs.declared.writes.Latest.{Latest}
use Rattle.tm_owing.specs.declared.writes.Writes.{Writes}
use Rattle.tm_owing.specs.Writes.{last_at}
use Rattle.tm_owing.specs.May.{alone}
use Rattle.tm_owing.specs.Owed.{Notes, newer}

-- ---- the bytes of a write

written-none : (addr value b : ℕ) → written (Write addr 0 value) b ≡ None
written-none addr value b = written-outside addr 0 value b (by (cases_lt b addr))
  where
    by : (b < addr) ⊎ (addr ≤ b) → (b < addr) ⊎ (addr + 0 ≤ b)
    by (inl l) = inl l
    by (inr l) = inr (omega arith)

written-last : (addr i value : ℕ) → written (Write addr (i + 1) value) (addr + i) ≡ Some (byte_of value i)
written-last addr i value =
    let at : addr + i - addr ≡ i = omega arith in
    written-inside addr (i + 1) value (addr + i) (omega arith) (omega arith)
    ∙ ap (λ (j : ℕ). Some (byte_of value j)) at

written-before : (addr i value b : ℕ) → b ≢ addr + i
    → written (Write addr (i + 1) value) b ≡ written (Write addr i value) b
written-before addr i value b n = by (cases_lt b addr) (cases_lt b (addr + i))
  where
    by : (b < addr) ⊎ (addr ≤ b) → (b < addr + i) ⊎ (addr + i ≤ b)
        → written (Write addr (i + 1) value) b ≡ written (Write addr i value) b
    by (inl l) m = written-outside addr (i + 1) value b (inl l) ∙ sym (written-outside addr i value b (inl l))
    by (inr l) (inl m) =
        written-inside addr (i + 1) value b l (omega arith) ∙ sym (written-inside addr i value b l m)
    by (inr l) (inr m) =
        written-outside addr (i + 1) value b (inr (omega arith)) ∙ sym (written-outside addr i value b (inr m))

one-byte : (v : ℕ) → v < 256 → byte_of v 0 ≡ v
one-byte v l = omega arith

pub written-one : (at v : ℕ) → v < 256 → written (Write at 1 v) at ≡ Some v
written-one at v l =
    let zero-at : at - at ≡ 0 = omega arith in
    written-inside at 1 v at (omega arith) (omega arith)
    ∙ (ap (λ (j : ℕ). Some (byte_of v j)) zero-at ∙ ap (λ (x : ℕ). Some x) (one-byte v l))

pub written-else : (at v b : ℕ) → b ≢ at → written (Write at 1 v) b ≡ None
written-else at v b n = written-outside at 1 v b (by (cases_lt b at))
  where
    by : (b < at) ⊎ (at ≤ b) → (b < at) ⊎ (at + 1 ≤ b)
    by (inl l) = inl l
    by (inr l) = inr (omega arith)

-- ---- what they leave

pub notes-quiet : (p : Program) (h q : ℕ) (access : Access) (last : List Writes)
    (marks : List (BTreeMap ℕ ℕ)) → ((b : ℕ) → written access b ≡ None) → Notes p h q access last last marks marks
notes-quiet p h q access last marks none = record {
  lasts = refl;
  mine = λ d b. sym (ap (λ (w : Option ℕ). newer w q (last_at (get_or last h d) b)) (none b));
  others = λ g d b n. refl;
  counts = refl;
  here = λ k d l v e t. absurd (some-none (written access (windows_base + k)) v (none (windows_base + k)) e);
  there = λ k d r l n. refl;
}
  where
    some-none : (o : Option ℕ) (v : ℕ) → o ≡ None → o ≡ Some v → ⊥
    some-none o v d e = cc

pub notes-none : (p : Program) (h q addr value : ℕ) (last : List Writes) (marks : List (BTreeMap ℕ ℕ))
    → Notes p h q (Write addr 0 value) last last marks marks
notes-none p h q addr value last marks =
    notes-quiet p h q (Write addr 0 value) last marks (written-none addr value)

module _ (p : Program) (h q addr i value v : ℕ) (a b c : List Writes) (m n o : List (BTreeMap ℕ ℕ))
    (small : v < 256) (is : v ≡ byte_of value i) (first : Notes p h q (Write addr i value) a b m n)
    (then : Notes p h q (Write (addr + i) 1 v) b c n o) where
  whole-here : written (Write addr (i + 1) value) (addr + i) ≡ Some v
  whole-here = written-last addr i value ∙ ap (λ (x : ℕ). Some x) (sym is)

  mine-more : (d : Writes) (k : ℕ)
      → last_at (get_or c h d) k ≡ newer (written (Write addr (i + 1) value) k) q (last_at (get_or a h d) k)
  mine-more d k = by (cases_eq k (addr + i))
    where
      by : (k ≡ addr + i) ⊎ (k ≡ addr + i → ⊥)
          → last_at (get_or c h d) k ≡ newer (written (Write addr (i + 1) value) k) q (last_at (get_or a h d) k)
      by (inl e) =
          let now : written (Write (addr + i) 1 v) k ≡ Some v =
          ap (written (Write (addr + i) 1 v)) e ∙ written-one (addr + i) v small in
          let all : written (Write addr (i + 1) value) k ≡ Some v =
          ap (written (Write addr (i + 1) value)) e ∙ whole-here in
          then.mine d k
          ∙ (ap (λ (w : Option ℕ). newer w q (last_at (get_or b h d) k)) now
          ∙ sym (ap (λ (w : Option ℕ). newer w q (last_at (get_or a h d) k)) all))
      by (inr z) =
          then.mine d k
          ∙ (ap (λ (w : Option ℕ). newer w q (last_at (get_or b h d) k)) (written-else (addr + i) v k z)
          ∙ (first.mine d k
          ∙ sym (ap (λ (w : Option ℕ). newer w q (last_at (get_or a h d) k)) (written-before addr i value k z))))

  here-more : (k : ℕ) (d : BTreeMap ℕ ℕ) → k < WINDOWS_BYTES → (x : ℕ)
      → written (Write addr (i + 1) value) (windows_base + k) ≡ Some x → IsTrue (alone p q h (windows_base + k))
      → get nat_cmp (get_or o k d) q ≡ Some x
  here-more k d l x e t = by (cases_eq (windows_base + k) (addr + i))
    where
      by : (windows_base + k ≡ addr + i) ⊎ (windows_base + k ≡ addr + i → ⊥) → get nat_cmp (get_or o k d) q ≡ Some x
      by (inl s) =
          let now : written (Write (addr + i) 1 v) (windows_base + k) ≡ Some v =
          ap (written (Write (addr + i) 1 v)) s ∙ written-one (addr + i) v small in
          let all : written (Write addr (i + 1) value) (windows_base + k) ≡ Some v =
          ap (written (Write addr (i + 1) value)) s ∙ whole-here in
          then.here k d l x (now ∙ (sym all ∙ e)) t
      by (inr z) =
          let none = written-else (addr + i) v (windows_base + k) z in
          then.there k d q l (λ u w. none)
          ∙ first.here k d l x (sym (written-before addr i value (windows_base + k) z) ∙ e) t

  there-more : (k : ℕ) (d : BTreeMap ℕ ℕ) (r : ℕ) → k < WINDOWS_BYTES
      → (r ≡ q → IsTrue (alone p q h (windows_base + k))
      → written (Write addr (i + 1) value) (windows_base + k) ≡ None)
      → get nat_cmp (get_or o k d) r ≡ get nat_cmp (get_or m k d) r
  there-more k d r l none = by (cases_eq (windows_base + k) (addr + i))
    where
      some-none : (w : Option ℕ) → w ≡ Some v → w ≡ None → ⊥
      some-none w d e = cc

      by : (windows_base + k ≡ addr + i) ⊎ (windows_base + k ≡ addr + i → ⊥)
          → get nat_cmp (get_or o k d) r ≡ get nat_cmp (get_or m k d) r
      by (inl s) =
          let all : written (Write addr (i + 1) value) (windows_base + k) ≡ Some v =
          ap (written (Write addr (i + 1) value)) s ∙ whole-here in
          then.there k d r l (λ e t. absurd (some-none (written (Write addr (i + 1) value) (windows_base + k)) all
          (none e t)))
          ∙ first.there k d r l (λ e t. absurd (some-none (written (Write addr (i + 1) value) (windows_base + k)) all
          (none e t)))
      by (inr z) =
          then.there k d r l (λ e t. written-else (addr + i) v (windows_base + k) z)
          ∙ first.there k d r l (λ e t. sym (written-before addr i value (windows_base + k) z) ∙ none e t)

  -- one byte more
  pub notes-more : Notes p h q (Write addr (i + 1) value) a c m o
  notes-more = record {
    lasts = then.lasts ∙ first.lasts;
    mine = mine-more;
    others = λ g d k z. then.others g d k z ∙ first.others g d k z;
    counts = then.counts ∙ first.counts;
    here = here-more;
    there = there-more;
  }

-- ---- the bytes of a value, one after another

-- rest holds the bytes of value from byte i on
abbrev pub IsRest : ℕ → ℕ → ℕ → Type 0
IsRest value i rest = (j : ℕ) → byte_of rest j ≡ byte_of value (i + j)

pub rest-more : (value i rest : ℕ) → IsRest value i rest → IsRest value (i + 1) (rest / 256)
rest-more value i rest h j =
    let at : i + suc j ≡ i + 1 + j = omega arith in
    sym (byte-shift rest j) ∙ (h (suc j) ∙ ap (byte_of value) at)

pub rest-byte : (value i rest : ℕ) → IsRest value i rest → rest % 256 ≡ byte_of value i
rest-byte value i rest h =
    let at : i + 0 ≡ i = omega arith in
    let low : rest % 256 ≡ byte_of rest 0 = omega arith in
    low ∙ (h 0 ∙ ap (byte_of value) at)
