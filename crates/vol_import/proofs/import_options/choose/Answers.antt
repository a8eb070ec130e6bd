use Rattle.std.proofs.Common.{◌≡◌, ◌∙◌, [], ap, rules}
use Rattle.vol_import.specs.Options.{parts_of}
use Rattle.vol_import.proofs.SortRuns.{on_end, on_member}
use Rattle.vol_import.proofs.import_options.choose.Goals as goal

pub members-preserved : goal.members-preserved
members-preserved c = on_member _ _ _ _ _ _ _ c.members.invariant c.in-Some.ensures.items c.in_ok-push.ensures

pub returns : goal.returns
returns c =
    let none : c.members.left.items ≡ [] = search rules in
    c.into_chosen.ensures ∙ ap parts_of (on_end _ _ _ _ c.members.invariant none)
