use Rattle.std.proofs.Common.{◌≡◌, ℕ, ◌<◌, Bool, false, ◌&&◌, ◌==◌, not, sym, ◌∙◌, arith, below_more}
use Rattle.tm_base.specs.Lists.{count_from}
use Rattle.tm_base.proofs.ListLemmas.{any-number}
use Rattle.tm_base.proofs.ListLemmas.{any-no-number}
use Rattle.tm_world.specs.Place.{harts}
use Rattle.tm_world.specs.Writers.{may_write}
use Rattle.tm_owing.proofs.Maying.{another-any}
use Rattle.tm_owing.proofs.may.some_other_may.Goals as goal

pub returns-then-other_may : goal.returns-then-other_may
returns-then-other_may c =
    let p = c.args.program.now in
    let h = c.args.h in
    let may : ℕ → Bool = λ g. may_write p c.args.q g c.args.b in
    let test : ℕ → Bool = λ g. not (g == h) && may_write p c.args.q g c.args.b in
    sym (another-any h may (count_from 0 (harts p))
    ∙ any-number test (harts p) 0 c.loop-g.g (omega arith) (omega (arith, c.loop-g-test.true))
    (sym c.other_may.ensures ∙ c.if-other_may.true))

pub loop-g-preserved : goal.loop-g-preserved
loop-g-preserved c =
    below_more (λ g. (not (g == c.args.h) && may_write c.args.program.now c.args.q g c.args.b) ≡ false) c.loop-g.g
    c.loop-g.invariant (sym c.other_may.ensures ∙ c.if-other_may.false)

pub returns : goal.returns
returns c =
    let p = c.args.program.now in
    let h = c.args.h in
    let may : ℕ → Bool = λ g. may_write p c.args.q g c.args.b in
    let test : ℕ → Bool = λ g. not (g == h) && may_write p c.args.q g c.args.b in
    sym (another-any h may (count_from 0 (harts p))
    ∙ any-no-number test (harts p) 0 (λ g l m. c.loop-g.invariant g (omega (arith, m, c.loop-g-test.false))))
