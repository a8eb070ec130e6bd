use Rattle.std.proofs.Common.{◌≡◌, ◌∙◌, ◌+◌, ◌-◌, ◌<◌, None, ap, sym, arith, rules}
use Rattle.vol_identify.specs.Guesses.{inside_from}
use Rattle.vol_identify.proofs.Searches.{found, missed}
use Rattle.vol_identify.proofs.guess.inside.Goals as goal

pub returns-in-Some : goal.returns-in-Some
returns-in-Some c =
    let some : 0 < c.blocks-blocks.result - 2 - c.loop-k.k = omega (arith, c.loop-k-test.true, c.saturating_sub-k-end.ensures) in
    sym (found c.args.image.now (c.blocks-blocks.result - 2 - c.loop-k.k) c.loop-k.k c.in-Some.guess some (sym c.in-Some.is ∙ c.in_ok-guess.ensures))
    ∙ c.loop-k.invariant

pub loop-k-preserved : goal.loop-k-preserved
loop-k-preserved c =
    let some : 0 < c.blocks-blocks.result - 2 - c.loop-k.k = omega (arith, c.loop-k-test.true, c.saturating_sub-k-end.ensures) in
    let none : c.in_ok-guess.field-0 ≡ None = search rules in
    let less : c.blocks-blocks.result - 2 - (c.loop-k.k + 1) ≡ c.blocks-blocks.result - 2 - c.loop-k.k - 1 = omega arith in
    ap (λ n. inside_from c.args.image.now n (c.loop-k.k + 1)) less
    ∙ (sym (missed c.args.image.now (c.blocks-blocks.result - 2 - c.loop-k.k) c.loop-k.k some (sym none ∙ c.in_ok-guess.ensures)) ∙ c.loop-k.invariant)
