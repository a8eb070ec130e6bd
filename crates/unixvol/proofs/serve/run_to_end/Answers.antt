-- A server's run, from the contents of standard error.
use Rattle.std.proofs.Common.{ℕ, List, Option, None, sym, subst}
use Rattle.pdp_words.specs.Adapters.{writer_in, has_write_failed}
use Rattle.command_faults.specs.Streams.{Gets}
use Rattle.unixvol.specs.Runs.{host_files}
use Rattle.unixvol.specs.Serve.{EndsServe, RunsServe}
use Rattle.unixvol.proofs.serve.run_to_end.Goals as goal

pub returns : goal.returns
returns g c =
    let files = host_files c.args.volume.at g.R.File.Read.remaining g.R.File.Write.contents g.R.ImageFiles.had g.R.ImageFiles.stood in
    let outcome = c.run-outcome.result in
    let told = g.E.Write.contents (writer_in c.run-outcome.new.errors) in
    let untold = has_write_failed c.run-outcome.new.errors in
    let unknown : Option (List (List ℕ)) = None in (
      told,
      untold,
      outcome,
      subst
          (λ errors. RunsServe files c.args.volume.edition c.args.serving (Gets untold errors told) (record { had_taken = unknown; taken = unknown; had_sent = unknown; sent = unknown }) outcome)
          c.new-errors.ensures.bytes c.run-outcome.ensures,
      subst (EndsServe outcome) (sym c.from.ensures) c.status_of.ensures,
    )
