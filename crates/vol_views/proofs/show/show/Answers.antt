use Rattle.std.proofs.Common.{rules, ◌≡◌, drop, fold, sym, subst}
use Rattle.vol_views.specs.Absorb.{absorbed}
use Rattle.vol_views.specs.PublishedRule.{IsRight}
use Rattle.vol_views.proofs.PublishedSteps.{may_show}
use Rattle.vol_views.proofs.show.show.Goals as goal

pub publish_as-copies-requires : goal.publish_as-copies-requires
publish_as-copies-requires g c next is = may_show _ _ _ next _ c.requires is

pub returns-clause-right : goal.returns-clause-right
returns-clause-right g c =
    let shown : c.publish_as-copies.result.0.desk.shown.value ≡ fold absorbed c.args.copies.desk.shown.value (drop c.args.copies.behind c.args.copies.log.items) = search rules in
    subst IsRight (sym shown) c.requires.right
