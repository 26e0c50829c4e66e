use Rattle.std.proofs.Common.{◌≡◌, ℕ, Bool, true, ◌&&◌, ◌==◌, not, sym, ap, ap₂, ◌∙◌, ne_eqb, arith}
use Rattle.tm_base.proofs.ListLemmas.{any-no-number, any-number}
use Rattle.tm_plan_map.specs.Map.{flag_at}
use Rattle.tm_world.specs.Work.{gets_less}
use Rattle.tm_guest.proofs.idle.finds_less.Goals as goal

pub returns-then-gets : goal.returns-then-gets
returns-then-gets c =
    let g = c.loop-g.g in
    let most = c.args.most in
    let access = c.args.access in
    let test : ℕ → Bool = λ k. not (k == c.args.h) && gets_less (flag_at k) most access in
    let other : not (g == c.args.h) ≡ true = ap not (ne_eqb g c.args.h c.if-g-h.true) in
    let found : gets_less (flag_at g) most access ≡ true =
    ap (λ (a : ℕ). gets_less a most access) (sym c.flag_addr.ensures) ∙ (sym c.gets.ensures ∙ c.if-gets.true) in
    let passes : test g ≡ true = ap₂ (λ (a b : Bool). a && b) other found in
    sym (any-number test c.args.harts 0 g (omega arith) (omega (arith, c.loop-g-test.true)) passes)

pub returns : goal.returns
returns c =
    let test : ℕ → Bool = λ k. not (k == c.args.h) && gets_less (flag_at k) c.args.most c.args.access in
    sym (any-no-number test c.args.harts 0 (λ g l m. c.loop-g.invariant g (omega (arith, m, c.loop-g-test.false))))
