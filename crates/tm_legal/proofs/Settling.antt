-- A private byte settles to its hart's last write, and text and tables stay as in the image: so legal reads are half
-- reads.
use Rattle.std.proofs.Common.{◌≡◌, ℕ, zero, suc, ◌+◌, ◌<◌, ◌≤◌, List, [], ◌∷◌, Bool, true, false, ◌||◌, ◌==◌, not}
use Rattle.std.proofs.Common.{Option, Some, None, inl, inr, refl, sym, ap, ap₂, ◌∙◌, subst, arith, le_refl, eq-eqb}
use Rattle.std.specs.Prelude.{if◌then◌else◌, unwrap_or, IfSome}
use Rattle.std.proofs.lemmas.Bool.{cases_Bool}
use Rattle.tm_table.specs.declared.state.Access.{Access}
use Rattle.tm_table.specs.declared.state.Access.TheVariants.{Quiet, Read, Write}
use Rattle.tm_plan_cases.specs.declared.program.Program.{Program}
use Rattle.tm_world.specs.Lists.{or_else}
use Rattle.tm_world.specs.Place.{harts, exit_of, image_byte, byte_of, is_private, is_text, is_table}
use Rattle.tm_world.specs.Run.{Step, own, pc_of, access_of, phase, in_phase, Reads, written, last_write}
use Rattle.tm_world.specs.Writers.{writers, wrote, settle, settled}
use Rattle.tm_world.specs.Kinds.{phase_of, legal_owed, another, half_owed}
use Rattle.tm_legal.specs.Tame.{Formed}
use Rattle.tm_legal.proofs.Areas.{image-writers, private-writers, private-zero}
use Rattle.tm_legal.proofs.Phases.{phase-exit, phase-other, in_phase-here, in_phase-there, in_phase-above, or-assoc}
use Rattle.tm_legal.proofs.Phases.{or-last, Spares, spared}
use Rattle.tm_legal.proofs.Formed.{formed-sizes}

-- ---- one writer

-- what settles at a byte with one writer, on its own steps
abbrev single : Program → ℕ → ℕ → List Step → ℕ → Option ℕ
single p h b own zero = Some (image_byte p b)
single p h b own (suc q) = or_else (last_write b (in_phase (exit_of p h) q own)) (single p h b own q)

settled-single : (p : Program) (h b : ℕ) (past : List Step) (q : ℕ) → ((n : ℕ) → writers p n b ≡ h ∷ [])
    → settled p past q b ≡ single p h b (own h past) q
settled-single p h b past zero one = refl
settled-single p h b past (suc q) one =
    ap (settle (wrote p past q b) (settled p past q b)) (one q) ∙ ap (or_else (wrote p past q b h))
    (settled-single p h b past q one)

single-kept : (p : Program) (h b : ℕ) (s : Step) (past : List Step) (q : ℕ) → q ≤ phase (exit_of p h) past
    → single p h b (s ∷ past) q ≡ single p h b past q
single-kept p h b s past zero l = refl
single-kept p h b s past (suc q) l =
    let ne : phase (exit_of p h) past ≡ q → ⊥ = λ e. omega arith in
    ap₂ or_else (ap (last_write b) (in_phase-there (exit_of p h) q s past ne))
    (single-kept p h b s past q (omega arith))

single-last : (p : Program) (h b : ℕ) (own : List Step)
    → or_else (last_write b (in_phase (exit_of p h) (phase (exit_of p h) own) own))
    (single p h b own (phase (exit_of p h) own)) ≡ Some (unwrap_or (last_write b own) (image_byte p b))
single-last p h b [] = refl
single-last p h b (s ∷ past) =
    let x = exit_of p h in
    let q = phase x past in
    let w = written (access_of s) b in
    let P : ℕ → Type 0 = λ n. or_else (last_write b (in_phase x n (s ∷ past))) (single p h b (s ∷ past) n)
    ≡ Some (unwrap_or (last_write b (s ∷ past)) (image_byte p b)) in
    let ih = single-last p h b past in
    let kept = single-kept p h b s past q (le_refl q) in
    let all : or_else (or_else w (last_write b (in_phase x q past))) (single p h b (s ∷ past) q)
    ≡ Some (unwrap_or (or_else w (last_write b past)) (image_byte p b)) =
    ap (or_else (or_else w (last_write b (in_phase x q past)))) kept ∙
    (or-assoc w _ _ ∙ (ap (or_else w) ih ∙ or-last w (last_write b past) (image_byte p b))) in
    let here : P q = ap (λ (l : List Step). or_else (last_write b l) (single p h b (s ∷ past) q))
    (in_phase-here x q s past refl) ∙ all in
    elim (cases_Bool (pc_of s == x)) [
      | inr f ↦ subst P (sym (phase-other x s past f)) here
      | inl t ↦
          let none : in_phase x (suc q) (s ∷ past) ≡ [] =
          in_phase-there x (suc q) s past (λ u. omega arith) ∙ in_phase-above x (suc q) past (omega arith) in
          subst P (sym (phase-exit x s past t))
          (ap (λ (l : List Step). or_else (last_write b l) (single p h b (s ∷ past) (suc q))) none ∙ here)
    ]

-- what its only writer reads back
pub single-owed : (p : Program) (past : List Step) (h b : ℕ) → ((n : ℕ) → writers p n b ≡ h ∷ [])
    → or_else (wrote p past (phase_of p past h) b h) (settled p past (phase_of p past h) b)
    ≡ Some (unwrap_or (last_write b (own h past)) (image_byte p b))
single-owed p past h b one =
    let q = phase_of p past h in
    ap (or_else (wrote p past q b h)) (settled-single p h b past q one) ∙ single-last p h b (own h past)

-- ---- what is owed

-- nobody but h
pub another-self : (h : ℕ) → another h (h ∷ []) ≡ false
another-self h = ap (λ (t : Bool). not t || false) (eq-eqb h h refl)

owed-alone : (p : Program) (past : List Step) (h q b : ℕ) (ws : List ℕ) → writers p q b ≡ ws → another h ws ≡ false
    → legal_owed p past h q b ≡ or_else (wrote p past q b h) (settled p past q b)
owed-alone p past h q b ws e n =
    ap (λ (t : Bool). if t then None else or_else (wrote p past q b h) (settled p past q b)) (ap (another h) e ∙ n)

private-owed : (p : Program) (past : List Step) (h b : ℕ) → ((n : ℕ) → writers p n b ≡ h ∷ [])
    → legal_owed p past h (phase_of p past h) b ≡ Some (unwrap_or (last_write b (own h past)) (image_byte p b))
private-owed p past h b one =
    let q = phase_of p past h in
    owed-alone p past h q b (h ∷ []) (one q) (another-self h)
    ∙ single-owed p past h b one

pub settled-image : (p : Program) (b : ℕ) (past : List Step) (q : ℕ) → ((n : ℕ) → writers p n b ≡ [])
    → settled p past q b ≡ Some (image_byte p b)
settled-image p b past zero none = refl
settled-image p b past (suc q) none = ap (settle (wrote p past q b) (settled p past q b)) (none q) ∙ settled-image p b
    past q none

image-owed : (p : Program) (past : List Step) (h b : ℕ) → ((n : ℕ) → writers p n b ≡ []) → Spares b (own h past)
    → legal_owed p past h (phase_of p past h) b ≡ Some (image_byte p b)
image-owed p past h b none spares =
    let q = phase_of p past h in
    owed-alone p past h q b [] (none q) refl
    ∙ ap₂ or_else (spared (exit_of p h) q b (own h past) spares) (settled-image p b past q none)

-- The reads of a legal step are those of a half step, where its hart wrote no byte of text or tables.
pub half-reads : (p : Program) → Formed p → (past : List Step) (h : ℕ) → h < harts p
    → ((b : ℕ) → (is_text p b || is_table p b) ≡ true → Spares b (own h past))
    → (a : Access) → Reads (legal_owed p past h (phase_of p past h)) a → Reads (half_owed p h (own h past)) a
half-reads p formed past h l spares Quiet r = tt
half-reads p formed past h l spares (Write addr width value) r = tt
half-reads p formed past h l spares (Read addr width value) r = λ i m. go (addr + i) (byte_of value i) (r i m)
  where
    half : (b : ℕ) → Bool → Bool → Option ℕ
    half b t u = if t then Some (unwrap_or (last_write b (own h past)) 0)
        else (if u then Some (image_byte p b) else None)

    by : (b u : ℕ) (t v : Bool) → is_private h b ≡ t → (is_text p b || is_table p b) ≡ v
        → IfSome (legal_owed p past h (phase_of p past h) b) (λ n. u ≡ n) → IfSome (half b t v) (λ n. u ≡ n)
    by b u true v e f k =
        let is = private-owed p past h b (λ n. private-writers p n h b formed l e) in
        let have : u ≡ unwrap_or (last_write b (own h past)) (image_byte p b) =
        subst (λ (o : Option ℕ). IfSome o (λ n. u ≡ n)) is k in
        have ∙ ap (unwrap_or (last_write b (own h past))) (private-zero p h b formed l e)
    by b u false true e f k = subst (λ (o : Option ℕ). IfSome o (λ n. u ≡ n))
        (image-owed p past h b (λ n. image-writers p n b (formed-sizes formed) f) (spares b f)) k
    by b u false false e f k = tt

    go : (b u : ℕ) → IfSome (legal_owed p past h (phase_of p past h) b) (λ n. u ≡ n)
        → IfSome (half_owed p h (own h past) b) (λ n. u ≡ n)
    go b u k = by b u (is_private h b) (is_text p b || is_table p b) refl refl k
