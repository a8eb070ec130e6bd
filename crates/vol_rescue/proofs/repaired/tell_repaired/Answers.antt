use Rattle.std.proofs.Common.{List, ◌∙◌, subst}
use Rattle.vol_archive.specs.declared.met_entries.MetEntry.{MetEntry}
use Rattle.vol_rescue.specs.Lines.{TellsLosses}
use Rattle.vol_rescue.proofs.repaired.tell_repaired.Goals as goal

pub returns : goal.returns
returns c = (
  c.in_ok-founds.founds.items,
  c.in_ok-told.told.is_short,
  c.in_ok-founds.ensures,
  subst (λ (all : List MetEntry). TellsLosses c.args.geometry.now c.args.old.now c.args.lost.now c.args.start all c.in_ok-told.told.lines.items c.in_ok-told.told.is_short)
      (c.deref.ensures.value ∙ c.in_ok-all.ensures) c.in_ok-told.ensures,
)
