use Rattle.std.proofs.Common.{◌≡◌, ◌+◌, ◌∷◌, [], List, sym, ap, arith, ◌∙◌, drop, get_or, add-one, drop-cons}
use Rattle.std.proofs.lemmas.List.{drop_all}
use Rattle.vol_inspect.specs.Cells.{most_of}
use Rattle.vol_inspect.specs.declared.uses.Use.{Use}
use Rattle.vol_inspect.specs.declared.uses.Use.TheVariants as uses
use Rattle.vol_inspect.proofs.cell_groups.most_of.Goals as goal

pub loop-one-preserved : goal.loop-one-preserved
unfolding most_of
loop-one-preserved c =
    let i = c.loop-one.one-index in
    let us = c.args.rivals.now in
    let u = get_or us i uses.Boot in
    let left : drop i us ≡ u ∷ drop (i + 1) us = drop-cons us i uses.Boot c.loop-one-test.true ∙ ap (λ n. u ∷ drop n us) (sym (add-one i)) in
    ap (λ best. most_of c.args.blocks.now best (drop (i + 1) us)) c.more_common-best.ensures
    ∙ (ap (λ (vs : List Use). most_of c.args.blocks.now c.loop-one.best vs) (sym left) ∙ c.loop-one.invariant)

pub returns : goal.returns
unfolding most_of
returns c =
    let none : drop c.loop-one.one-index c.args.rivals.now ≡ [] = drop_all c.loop-one.one-index c.args.rivals.now (omega arith) in
    ap (λ (vs : List Use). most_of c.args.blocks.now c.loop-one.best vs) (sym none) ∙ c.loop-one.invariant
