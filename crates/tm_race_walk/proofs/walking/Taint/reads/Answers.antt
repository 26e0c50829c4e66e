use Rattle.std.proofs.Common.{◌<◌, ℕ, [], ◌∷◌, inl, inr, sym, ◌∙◌, arith}
use Rattle.std.specs.Prelude.{Contains}
use Rattle.tm_plan_map.specs.Slots.{slot_addr, load_width}
use Rattle.tm_world.specs.Slots.{named}
use Rattle.tm_race_walk.proofs.Moving.{one-named, two-named, reads-told}
use Rattle.tm_race_walk.proofs.walking.Taint.reads.Goals as goal

few : (a b r : ℕ) → a < 32 → b < 32 → Contains (named (a ∷ b ∷ [])) r → r < 64
few a b r l m c = elim ((two-named r a b).0 c) [
  | inl x ↦ (let p = (one-named r a).0 x in
      omega (arith, p.1))
  | inr x ↦ (let p = (one-named r b).0 x in omega (arith, p.1))
]

pub returns : goal.returns
returns c =
    let t = reads-told c.args.self.now.regs c.sources.result c.args.self.now.bytes
    (named (c.args.i.rs1 ∷ c.args.i.rs2 ∷ [])) (slot_addr c.args.i) (load_width c.args.i.op)
    c.sources.ensures (λ r. few c.args.i.rs1 c.args.i.rs2 r c.requires.first c.requires.second)
    (λ n. (c.requires.load.near n).low) in (
      (λ x. t.0 (elim (c.either.ensures.0 x) [
        | inl m ↦ inl (c.meets.ensures.0 m)
        | inr l ↦ inr
            (sym c.loads_any.ensures ∙ l)
      ])),
      (λ y. c.either.ensures.1 (elim (t.1 y) [
        | inl m ↦ inl (c.meets.ensures.1 m)
        | inr l ↦ inr (c.loads_any.ensures ∙ l)
      ])),
    )
