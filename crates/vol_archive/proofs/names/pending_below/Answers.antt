use Rattle.std.proofs.Common.{ap, ◌∙◌, arith}
use Rattle.std.specs.List.{flat_map}
use Rattle.std.proofs.lemmas.List.{take_all}
use Rattle.vol_archive.specs.Walk.{entry_below, pending_below}
use Rattle.vol_archive.proofs.names.pending_below.Goals as goal

pub returns : goal.returns
unfolding pending_below
returns c =
    c.names.invariant ∙ ap (λ names. flat_map (entry_below c.args.path.now) names) (take_all c.names.name-index c.args.names.now (omega arith))
