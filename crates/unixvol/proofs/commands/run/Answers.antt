use Rattle.std.proofs.Common.{refl}
use Rattle.unixvol.specs.Runs.{host_files, read_at}
use Rattle.unixvol.proofs.Asked.{refusal_runs}
use Rattle.unixvol.proofs.commands.run.Goals as goal

pub returns-in-Err-clause-runs : goal.returns-in-Err-clause-runs
returns-in-Err-clause-runs g c =
    refusal_runs _
    (host_files (read_at c.args.read) g.R.File.Read.remaining g.R.File.Write.contents g.R.ImageFiles.had g.R.ImageFiles.stood) c.explain_command_line.result c.args.read c.in-Err.error c.in-Err.is
    (record {
      memory = c.explain_command_line.ensures.memory;
      mistake = c.explain_command_line.ensures.mistake;
      shown = c.explain_command_line.ensures.shown;
      failed = c.explain_command_line.ensures.failed;
      quiet = refl;
    })

pub returns-in-Err-clause-ends : goal.returns-in-Err-clause-ends
returns-in-Err-clause-ends g c =
    rw c.in-Err.is (record {
      within = c.explain_command_line.ensures.within;
      silent = c.explain_command_line.ensures.silent;
      whole = λ e. (c.explain_command_line.ensures.whole e, refl);
    })

pub returns-in-Ok-clause-runs : goal.returns-in-Ok-clause-runs
returns-in-Ok-clause-runs g c = rw c.in-Ok.is c.carry_out.ensures.runs

pub returns-in-Ok-clause-ends : goal.returns-in-Ok-clause-ends
returns-in-Ok-clause-ends g c = rw c.in-Ok.is c.carry_out.ensures.ends
