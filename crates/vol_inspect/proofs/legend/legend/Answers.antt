use Rattle.std.proofs.Common.{rules, tests}
use Rattle.std.proofs.lemmas.Iterator.{items_from_collect, YieldsList-from_slice}
use Rattle.std.proofs.lemmas.Iterator.Consumers.{YieldsList-at, YieldsList-from_copied, YieldsList-from_filter}
use Rattle.vol_inspect.specs.Legend.{is_there, kinds, legend}
use Rattle.vol_inspect.proofs.CellLaws.{few_kinds}
use Rattle.vol_inspect.proofs.legend.legend.Goals as goal

pub returns-clause-all : goal.returns-clause-all
unfolding legend
returns-clause-all c =
    items_from_collect _ c.collect.ensures.ran
    (YieldsList-from_filter _ (is_there c.args.blocks.now c.args.cells.now)
    (YieldsList-at c.filter.ensures.source (YieldsList-from_copied (YieldsList-at c.copied.ensures.source (YieldsList-from_slice kinds c.iter.ensures.rest))))
    c.filter.ensures.closure (λ x r q k. search (rules, tests)))

pub returns-clause-few : goal.returns-clause-few
unfolding legend
returns-clause-few c = few_kinds c.args.blocks.now c.args.cells.now c.collect.result (returns-clause-all c)
