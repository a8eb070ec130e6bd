use Rattle.std.proofs.Common.{ap}
use Rattle.command_faults.specs.Faults.{line_after}
use Rattle.unixvol.specs.FileFaults.{run_status}
use Rattle.command_changes.specs.Repair.{IsRepairReported, IsUnrepaired}
use Rattle.command_changes.specs.Salvage.{IsReported, IsUnsalvaged}
use Rattle.unixvol.proofs.CopiesMade.{ends_copying}
use Rattle.unixvol.proofs.commands.carry_out.Goals as goal

pub returns-in-Get-clause-runs : goal.returns-in-Get-clause-runs
returns-in-Get-clause-runs g c = rw c.in-Get.is c.run_get.ensures.runs

pub returns-in-Mkfs-clause-runs : goal.returns-in-Mkfs-clause-runs
returns-in-Mkfs-clause-runs g c =
    rw c.in-Mkfs.is (c.run_mkfs.ensures (g.O.Sink.contents c.args.output.now) (g.O.Sink.failed c.args.output.now))

pub returns-in-Mkfs-clause-ends : goal.returns-in-Mkfs-clause-ends
returns-in-Mkfs-clause-ends g c = rw c.in-Mkfs.is (
    let runs = c.run_mkfs.ensures (g.O.Sink.contents c.args.output.now) (g.O.Sink.failed c.args.output.now) in
    record { within = runs.within.0; silent = λ _ _. runs.unprinted; whole = λ e. (runs.unused, runs.quiet e) })

pub returns-in-Build-clause-runs : goal.returns-in-Build-clause-runs
returns-in-Build-clause-runs g c =
    rw c.in-Build.is (c.run_build.ensures.runs (g.O.Sink.contents c.args.output.now) (g.O.Sink.failed c.args.output.now))

pub returns-in-Build-clause-ends : goal.returns-in-Build-clause-ends
returns-in-Build-clause-ends g c =
    rw c.in-Build.is (c.run_build.ensures.ends (g.O.Sink.contents c.args.output.now) (g.O.Sink.failed c.args.output.now))

pub returns-in-Migrate-clause-runs : goal.returns-in-Migrate-clause-runs
returns-in-Migrate-clause-runs g c =
    rw c.in-Migrate.is (c.run_migrate.ensures.runs (g.O.Sink.contents c.args.output.now) (g.O.Sink.failed c.args.output.now))

pub returns-in-Cat-clause-runs : goal.returns-in-Cat-clause-runs
returns-in-Cat-clause-runs g c =
    rw c.in-Cat.is (c.run_cat.ensures.shown, c.run_cat.ensures.whole, ap line_after c.run_cat.ensures.quiet)

pub returns-in-Cat-clause-ends : goal.returns-in-Cat-clause-ends
returns-in-Cat-clause-ends g c =
    rw c.in-Cat.is (record {
      within = c.run_cat.ensures.within;
      silent = c.run_cat.ensures.silent;
      whole = λ e. (c.run_cat.ensures.whole e, ap line_after c.run_cat.ensures.quiet);
    })

pub returns-in-Get-clause-ends : goal.returns-in-Get-clause-ends
returns-in-Get-clause-ends g c =
    rw c.in-Get.is c.run_get.ensures.ends

pub returns-in-Migrate-clause-ends : goal.returns-in-Migrate-clause-ends
returns-in-Migrate-clause-ends g c =
    rw c.in-Migrate.is (c.run_migrate.ensures.ends (g.O.Sink.contents c.args.output.now) (g.O.Sink.failed c.args.output.now))

pub returns-in-Resize-clause-runs : goal.returns-in-Resize-clause-runs
returns-in-Resize-clause-runs g c =
    rw c.in-Resize.is (c.run_resize.ensures.runs (g.O.Sink.contents c.args.output.now) (g.O.Sink.failed c.args.output.now))

pub returns-in-Resize-clause-ends : goal.returns-in-Resize-clause-ends
returns-in-Resize-clause-ends g c =
    rw c.in-Resize.is (c.run_resize.ensures.ends (g.O.Sink.contents c.args.output.now) (g.O.Sink.failed c.args.output.now))

pub returns-in-Salvage-clause-runs : goal.returns-in-Salvage-clause-runs
returns-in-Salvage-clause-runs g c = rw c.in-Salvage.is c.run_salvage.ensures

pub returns-in-Salvage-clause-ends : goal.returns-in-Salvage-clause-ends
returns-in-Salvage-clause-ends g c =
    rw c.in-Salvage.is (ends_copying c.in-Salvage.volume.at g.R.File.Read.remaining g.R.File.Write.contents g.R.ImageFiles.had g.R.ImageFiles.stood _ c.in-Salvage.volume.edition
    (IsUnsalvaged c.in-Salvage.volume.edition) (IsReported c.in-Salvage.volume.edition) c.in-Salvage.copy (run_status c.run_salvage.result) c.run_salvage.ensures)

pub returns-in-Repair-clause-runs : goal.returns-in-Repair-clause-runs
returns-in-Repair-clause-runs g c = rw c.in-Repair.is c.run_repair.ensures

pub returns-in-Repair-clause-ends : goal.returns-in-Repair-clause-ends
returns-in-Repair-clause-ends g c =
    rw c.in-Repair.is (ends_copying c.in-Repair.volume.at g.R.File.Read.remaining g.R.File.Write.contents g.R.ImageFiles.had g.R.ImageFiles.stood _ c.in-Repair.volume.edition
    (IsUnrepaired c.in-Repair.volume.edition c.in-Repair.repairing.blocks) (IsRepairReported c.in-Repair.volume.edition c.in-Repair.repairing.blocks) c.in-Repair.copy (run_status c.run_repair.result) c.run_repair.ensures)
