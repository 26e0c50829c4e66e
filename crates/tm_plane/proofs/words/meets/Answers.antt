use Rattle.std.proofs.Common.{◌≡◌, ◌<◌, ◌^◌, ℕ, true, not, nat_eq, bit_and, arith}
use Rattle.std.proofs.lemmas.Nat.{and_le_l}
use Rattle.tm_plane.proofs.WordLemmas.{meets-to, meets-back}
use Rattle.tm_plane.proofs.words.meets.Goals as goal

test-to : (n : ℕ) → not (nat_eq n 0) ≡ true → n ≡ 0 → ⊥
test-to n h e = grind arith

test-back : (n : ℕ) → (n ≡ 0 → ⊥) → not (nat_eq n 0) ≡ true
test-back n h = grind arith

pub returns : goal.returns
returns c =
    let small : bit_and c.args.held c.args.reads < 2 ^ 64 =
    (let le = and_le_l c.args.held c.args.reads in let fits : c.args.held < 2 ^ 64 = c.ranges.held.fits in
    omega (arith, le, fits)) in (
      λ t. meets-to c.args.held c.args.reads small (test-to (bit_and c.args.held c.args.reads) t),
      λ s. test-back (bit_and c.args.held c.args.reads) (meets-back c.args.held c.args.reads s),
    )
