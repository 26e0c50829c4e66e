-- The dwords that the machine keeps are the bytes that a half run's steps tell.
use Rattle.std.proofs.Common.{◌≡◌, ◌≢◌, ℕ, ◌+◌, ◌-◌, ◌%◌, ◌^◌, ◌<◌, ◌≤◌, List, [], ◌∷◌, Bool, true, false, true≢false}
use Rattle.std.proofs.Common.{◌||◌, Option, None, Some, ◌⊎◌, inl, inr, refl, sym, ap, ◌∙◌, subst, arith, eq-eqb}
use Rattle.std.proofs.Common.{eqb-true}
use Rattle.std.specs.Prelude.{IsTrue, IfSome, nat_eq, if◌then◌else◌, unwrap_or}
use Rattle.std.proofs.lemmas.Bool.{cases_lt, or_cases}
use Rattle.tm_table.specs.declared.state.Access.{Access}
use Rattle.tm_table.specs.declared.state.Access.TheVariants.{Quiet, Read, Write}
use Rattle.tm_plan_cases.specs.declared.program.Program.{Program}
use Rattle.tm_plan_map.specs.Map.{within}
use Rattle.tm_world.specs.Lists.{or_else}
use Rattle.tm_world.specs.Place.{is_text, is_table, image_byte, byte_of}
use Rattle.tm_world.specs.Run.{Step, access_of, last_write, written}
use Rattle.tm_world.specs.Kinds.{half_owed}
use Rattle.tm_world.proofs.Accesses.{written-inside, written-outside}
use Rattle.tm_runs.specs.Machine.{Table, put, stored}
use Rattle.tm_runs.specs.World.{Sizes, is_fixed_dword, is_private_dword, world_of, joined, image_dword}
use Rattle.tm_runs.proofs.Tables.{put_same, put_other}
use Rattle.tm_runs.proofs.Bytes.{byte-lt, joined-byte, joined-lt}
use Rattle.tm_runs.proofs.Places.{private-bytes, fixed-bytes, fixed-open, private-free, private-image}
use Rattle.tm_runs.proofs.Places.{image-lt}

pub record Memory (p : Program) (h : ℕ) (own : List Step) (mem : Table) : Type 0 where
  pub written : (a i : ℕ) → is_private_dword h a ≡ true → a % 8 ≡ 0 → i < 8
      → byte_of (mem a) i ≡ unwrap_or (last_write (a + i) own) 0
  pub image : (a i : ℕ) → is_fixed_dword p a ≡ true → i < 8 → byte_of (mem a) i ≡ image_byte p (a + i)
  pub fits : (a : ℕ) → mem a < 2 ^ 64

module _ (p : Program) (h : ℕ) (sizes : Sizes p) (low : h < 16) where
  -- what a half run owes is what the memory has
  pub owed : (own : List Step) (mem : Table) (a i : ℕ) → Memory p h own mem → IsTrue ((world_of p h).own a) → a % 8 ≡ 0
      → i < 8 → half_owed p h own (a + i) ≡ Some (byte_of (mem a) i)
  owed own mem a i m o al l = by (or_cases (is_private_dword h a) (is_fixed_dword p a) o)
    where
      by : (is_private_dword h a ≡ true) ⊎ (is_fixed_dword p a ≡ true) → half_owed p h own (a + i)
          ≡ Some (byte_of (mem a) i)
      by (inl e) =
          ap (λ (b : Bool). if b then Some (unwrap_or (last_write (a + i) own) 0)
          else (if is_text p (a + i) || is_table p (a + i) then Some (image_byte p (a + i)) else None))
          (private-bytes h a i e l)
          ∙ ap Some (sym (m.written a i e al l))
      by (inr e) =
          ap (λ (b : Bool). if b then Some (unwrap_or (last_write (a + i) own) 0)
          else (if is_text p (a + i) || is_table p (a + i) then Some (image_byte p (a + i)) else None))
          (fixed-open p h a i sizes e l)
          ∙ (ap (λ (b : Bool). if b then Some (image_byte p (a + i)) else None) (fixed-bytes p a i e l) ∙ ap Some
          (sym (m.image a i e l)))

  -- at the start
  pub memory-start : Memory p h [] (image_dword p)
  unfolding image_dword
  memory-start = record {
    written = λ a i e al l. joined-byte (λ j. image_byte p (a + j)) 8 i (λ j. image-lt p (a + j) sizes) l ∙
        private-image p h a i sizes low e l;
    image = λ a i e l. joined-byte (λ j. image_byte p (a + j)) 8 i (λ j. image-lt p (a + j) sizes) l;
    fits = λ a. joined-lt (λ j. image_byte p (a + j)) 8 (λ j. image-lt p (a + j) sizes);
  }

  -- after a step that writes no private byte
  pub memory-same : (s : Step) (past : List Step) (mem : Table)
      → ((a i : ℕ) → is_private_dword h a ≡ true → i < 8 → written (access_of s) (a + i) ≡ None) → Memory p h past mem
      → Memory p h (s ∷ past) mem
  memory-same s past mem none m = record {
    written = λ a i e al l. m.written a i e al l ∙ sym
        (ap (λ (o : Option ℕ). unwrap_or (or_else o (last_write (a + i) past)) 0) (none a i e l));
    image = m.image;
    fits = m.fits;
  }

  written-lt : (a : Access) (b : ℕ) → IfSome (written a b) (λ n. n < 256)
  written-lt Quiet b = tt
  written-lt (Read addr width value) b = tt
  written-lt (Write addr width value) b = by (within addr width b)
    where
      by : (c : Bool) → IfSome (if c then Some (byte_of value (b - addr)) else None) (λ n. n < 256)
      by true = byte-lt value (b - addr)
      by false = tt

  last-lt : (b : ℕ) (own : List Step) → unwrap_or (last_write b own) 0 < 256
  last-lt b [] = omega arith
  last-lt b (s ∷ past) = by (written (access_of s) b) (written-lt (access_of s) b) (last-lt b past)
    where
      by : (o : Option ℕ) → IfSome o (λ n. n < 256) → unwrap_or (last_write b past) 0 < 256
          → unwrap_or (or_else o (last_write b past)) 0 < 256
      by None x y = y
      by (Some n) x y = x

  -- the dwords that the writes of some steps leave in a memory
  abbrev pub told : Table → List Step → Table
  told mem own a = if is_fixed_dword p a then mem a else joined (λ i. unwrap_or (last_write (a + i) own) 0) 8

  -- after any step
  pub memory-told : (s : Step) (past : List Step) (mem : Table) → Memory p h past mem
      → Memory p h (s ∷ past) (told mem (s ∷ past))
  memory-told s past mem m = record {
    written = λ a i e al l. ap (λ (b : Bool). byte_of (if b then mem a
        else joined (λ j. unwrap_or (last_write (a + j) (s ∷ past)) 0) 8) i) (private-free p h a sizes low e)
        ∙ joined-byte (λ j. unwrap_or (last_write (a + j) (s ∷ past)) 0) 8 i (λ j. last-lt (a + j) (s ∷ past)) l;
    image = λ a i e l. ap (λ (b : Bool). byte_of (if b then mem a
        else joined (λ j. unwrap_or (last_write (a + j) (s ∷ past)) 0) 8) i) e ∙ m.image a i e l;
    fits = λ a. by a (is_fixed_dword p a);
  }
    where
      by : (a : ℕ) (b : Bool) → (if b then mem a else joined (λ i. unwrap_or (last_write (a + i) (s ∷ past)) 0) 8)
          < 2 ^ 64
      by a true = m.fits a
      by a false = joined-lt (λ i. unwrap_or (last_write (a + i) (s ∷ past)) 0) 8 (λ i. last-lt (a + i) (s ∷ past))

  stored-other : (mem : Table) (a v c : ℕ) → c ≢ a → stored (world_of p h) mem a v c ≡ mem c
  stored-other mem a v c n = by (is_fixed_dword p a)
    where
      by : (b : Bool) → (if b then mem else put mem a v) c ≡ mem c
      by true = refl
      by false = put_other mem a v c n

  stored-same : (mem : Table) (a v : ℕ) → is_fixed_dword p a ≡ false → stored (world_of p h) mem a v a ≡ v
  stored-same mem a v e = ap (λ (b : Bool). (if b then mem else put mem a v) a) e ∙ put_same mem a v

  stored-fixed : (mem : Table) (a v c : ℕ) → is_fixed_dword p c ≡ true → stored (world_of p h) mem a v c ≡ mem c
  stored-fixed mem a v c e = by (nat_eq c a) refl
    where
      by : (b : Bool) → nat_eq c a ≡ b → stored (world_of p h) mem a v c ≡ mem c
      by true q =
          let f : is_fixed_dword p a ≡ true = subst (λ (x : ℕ). is_fixed_dword p x ≡ true) (eqb-true c a q) e in
          ap (λ (b : Bool). (if b then mem else put mem a v) c) f
      by false q = stored-other mem a v c (λ x. true≢false (sym (eq-eqb c a x) ∙ q))

  stored-fits : (mem : Table) (a v c : ℕ) → mem c < 2 ^ 64 → v < 2 ^ 64 → stored (world_of p h) mem a v c < 2 ^ 64
  stored-fits mem a v c x y = by (is_fixed_dword p a)
    where
      one : (d : Bool) → (if d then v else mem c) < 2 ^ 64
      one true = y
      one false = x

      by : (b : Bool) → (if b then mem else put mem a v) c < 2 ^ 64
      by true = x
      by false = one (nat_eq c a)

  -- after an aligned store of a dword
  pub memory-store : (s : Step) (past : List Step) (mem : Table) (a v : ℕ) → access_of s ≡ Write a 8 v → a % 8 ≡ 0
      → v < 2 ^ 64 → Memory p h past mem → Memory p h (s ∷ past) (stored (world_of p h) mem a v)
  memory-store s past mem a v is al small m = record {
    written = λ c i e cl l. by-byte c i e cl l (nat_eq c a) refl ∙ sym
        (ap (λ (x : Access). unwrap_or (or_else (written x (c + i)) (last_write (c + i) past)) 0) is);
    image = λ c i e l. ap (λ (x : ℕ). byte_of x i) (stored-fixed mem a v c e) ∙ m.image c i e l;
    fits = λ c. stored-fits mem a v c (m.fits c) small;
  }
    where
      by-byte : (c i : ℕ) → is_private_dword h c ≡ true → c % 8 ≡ 0 → i < 8 → (b : Bool) → nat_eq c a ≡ b
          → byte_of (stored (world_of p h) mem a v c) i
          ≡ unwrap_or (or_else (written (Write a 8 v) (c + i)) (last_write (c + i) past)) 0
      by-byte c i e cl l true q =
          let same : c ≡ a = eqb-true c a q in
          let free : is_fixed_dword p a ≡ false = subst (λ (x : ℕ). is_fixed_dword p x
          ≡ false) same (private-free p h c sizes low e) in
          let minus : i ≡ c + i - a = omega arith in
          ap (λ (x : ℕ). byte_of (stored (world_of p h) mem a v x) i) same ∙
          (ap (λ (x : ℕ). byte_of x i) (stored-same mem a v free)
          ∙ (ap (byte_of v) minus ∙ sym (ap (λ (o : Option ℕ). unwrap_or (or_else o (last_write (c + i) past)) 0)
          (written-inside a 8 v (c + i) (omega arith) (omega arith)))))
      by-byte c i e cl l false q =
          let other : c ≢ a = λ x. true≢false (sym (eq-eqb c a x) ∙ q) in
          ap (λ (x : ℕ). byte_of x i) (stored-other mem a v c other)
          ∙ (m.written c i e cl l ∙ sym (ap (λ (o : Option ℕ). unwrap_or (or_else o (last_write (c + i) past)) 0)
          (written-outside a 8 v (c + i) (far (cases_lt c a) other))))
        where
          far : (c < a) ⊎ (a ≤ c) → c ≢ a → (c + i < a) ⊎ (a + 8 ≤ c + i)
          far (inl d) n = inl (omega arith)
          far (inr d) n = inr (omega arith)
