use Rattle.std.proofs.Common.{◌∙◌, ap, refl}
use Rattle.std.proofs.KnownBytes.{Keeps-refl}
use Rattle.command_faults.specs.Faults.{line_after}
use Rattle.unixvol.specs.FileFaults.{run_status}
use Rattle.unixvol.specs.Runs.{host_files, made_in, new_place_at}
use Rattle.unixvol.proofs.FileFaults.{after_saving}
use Rattle.unixvol.proofs.MadeVolumes.{runs_by}
use Rattle.unixvol.proofs.commands.run_mkfs.Goals as goal

pub returns : goal.returns
returns g c known failed =
    let volume = c.args.volume in
    let made = c.make_volume-made in
    runs_by _ (made_in (host_files (new_place_at c.args.place) g.R.File.Read.remaining g.R.File.Write.contents g.R.ImageFiles.had g.R.ImageFiles.stood) c.args.place volume.blocks) volume made.result (run_status c.after_saving.result) made.ensures.made made.ensures.done made.ensures.refused made.ensures.memory
    (Keeps-refl known) refl (ap line_after c.after_saving.ensures.fault ∙ made.ensures.line)
    (after_saving _ _ _ _ _ c.after_saving.ensures.status c.save_made-saved.ensures.saved c.save_made-saved.ensures.fault)
