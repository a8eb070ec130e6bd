use Rattle.std.proofs.Common.{rules, tests, eqb}
use Rattle.std.proofs.lemmas.Iterator.Search.{any_from_yields_List}
use Rattle.std.proofs.lemmas.Iterator.Splits.{YieldsList-from_slice_split}
use Rattle.vol_import.specs.Plan.{is_dot_dot}
use Rattle.vol_import.proofs.member_check.has_dot_dot.Goals as goal

pub returns : goal.returns
returns c =
    any_from_yields_List is_dot_dot _ _ _ c.any.ensures.ran
    (YieldsList-from_slice_split _ (λ b. eqb b 47) c.args.path.now c.split.ensures.rest c.split.ensures.done c.split.ensures.closure (λ x b q k. search (rules, tests)))
    (λ x b q k. search (rules, tests))
