use Rattle.std.proofs.Common.{arith, refl}
use Rattle.std.proofs.lemmas.List.Elements.{All-push, All-same}
use Rattle.command_changes.specs.declared.put.NewFile.{NewFile}
use Rattle.unixvol.specs.Runs.{GavePut, IsGivenFile}
use Rattle.unixvol.proofs.Copied.{names_more}
use Rattle.unixvol.proofs.Given.{put_unread}
use Rattle.unixvol.proofs.copy.read_named.Goals as goal

pub files-preserved : goal.files-preserved
files-preserved g c = (
  All-same (λ (file : NewFile). IsGivenFile (GavePut c.args.edition g.R.File.Read.remaining) c.args.keep file.content) _ _ c.in-Ok.ensures.items
      (All-push (λ (file : NewFile). IsGivenFile (GavePut c.args.edition g.R.File.Read.remaining) c.args.keep file.content) c.files.files.items _ c.files.invariant.0
      (c.in_ok-content.ensures.given, c.in_ok-content.ensures.kept)),
  names_more c.args.paths.now c.files.path-index _ c.files.files.items _ _ (omega arith) c.files.invariant.1 c.in-Ok.ensures.items c.name_of-name.ensures,
)

pub returns-in_default-clause-fault : goal.returns-in_default-clause-fault
returns-in_default-clause-fault g c =
    put_unread g.R.File.Read.remaining c.args.edition _ 4 refl c.in_ok-content.ensures.given
