use Rattle.std.proofs.Common.{ap, sym, ◌∙◌}
use Rattle.std.specs.List.{slice_get}
use Rattle.vol_receipts.proofs.Records.{may_follow}
use Rattle.vol_receipts.proofs.replay.redo_next.Goals as goal

pub redo-requires : goal.redo-requires
redo-requires c =
    may_follow c.args.volume.now c.args.made.now c.args.k c.in_ok-entry.entry c.check.ensures c.check-2.ensures c.requires.first
    (ap (λ records. slice_get records c.args.k) (sym c.journal.ensures) ∙ c.in_ok-entry.ensures)
